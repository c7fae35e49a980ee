-- Lemmas on whole texts.
use Rattle.std.proofs.Common.{◌≡◌, sym, subst, ℕ, true, false, List, [], ◌∷◌, Option, Some, None, Result, Ok, Err, ap}
use Rattle.std.specs.Option.{MatchOption, is_some}
use Rattle.std.specs.Result.{MatchResult, IsErrAnd}
use Rattle.text_streams.specs.declared.faults.ParseFault.{ParseFault}
use Rattle.text_streams.specs.declared.position.Position.{Position}
use Rattle.text_streams.specs.declared.stream.StateStream.{StateStream}
use Rattle.text_streams.specs.Positions.{left, LiesBehind}
use Rattle.text_streams.specs.Streams.{IsStart}
use Rattle.text_parsables.specs.Fronts.{Fronts, ReadsValue, RefusesValue, is_some_text}
use Rattle.text_parsables.specs.Whole.{IsBehindSpaces, IsDue, StandsUpTo, HasNoValue}

-- a fault that is handed on
pub exit : {A E : Type 0} (P : A → Type 0) (Q : E → Type 0) (r : Result A E) (e : E) → IsErrAnd r (λ d. d ≡ e) → Q e → MatchResult r P Q
exit P Q (Ok x) e h q = absurd h
exit P Q (Err d) e h q = subst Q (sym h) q

-- whether something is left, as the next character tells
pub nothing_left : (at : Position) (next : Option (ℕ × Position)) → MatchOption next (left at ≡ []) (λ p. LiesBehind at p.1 (p.0 ∷ [])) →
    is_some next ≡ false → left at ≡ []
nothing_left at None h e = h
nothing_left at (Some p) h e = cc

pub something_left : (at : Position) (next : Option (ℕ × Position)) → MatchOption next (left at ≡ []) (λ p. LiesBehind at p.1 (p.0 ∷ [])) →
    is_some next ≡ true → is_some_text (left at) ≡ true
something_left at None h e = cc
something_left at (Some p) h e = ap is_some_text h.taken

module _ {S T : Type 0} (Stands : Fronts S T) (text : List ℕ) (state : S) (start : StateStream S) (starts : IsStart text state start) (due : Position) (spaces : IsBehindSpaces start.position due) where
  pub is_due : IsDue text due
  is_due = record { start = start.position; whole = starts.text; first = starts.first; spaces = spaces }

  pub has_no_value : (new : StateStream S) (fault : ParseFault) → RefusesValue Stands (record { position = due; state = start.state }) new fault → HasNoValue Stands text state fault
  has_no_value new fault h =
      let P : S → Type 0 = λ s. Stands (left due) s (Err (h.before, fault.cause)) new.state in
      record { due = due; starts = is_due; before = h.before; beside = new.state; why = subst P starts.state h.why; met = h.met }

  pub stands_up_to : (end : StateStream S) (value : T) (last : Position) → ReadsValue Stands (record { position = due; state = start.state }) end value →
      IsBehindSpaces end.position last → StandsUpTo Stands text state value last
  stands_up_to end value last h behind =
      let P : S → Type 0 = λ s. Stands (left due) s (Ok (h.characters, value)) end.state in
      record {
        due = due;
        starts = is_due;
        characters = h.characters;
        beside = end.state;
        stands = subst P starts.state h.stands;
        end = end.position;
        behind = h.behind;
        spaces = behind;
      }
