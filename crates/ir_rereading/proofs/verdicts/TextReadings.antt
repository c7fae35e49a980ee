-- What reading a text gives: its faults, and what it says.
use Rattle.std.proofs.Common.{◌≡◌, ℕ, List, [], ◌∷◌, Option, Some, None, true, false, refl, sym, ap, subst, ◌∙◌, ◌⊎◌, inl, inr}
use Rattle.ir_grammar.specs.declared.grammar.Event.{Event}
use Rattle.ir_grammar.specs.declared.grammar.Event.TheVariants.{Took, Did}
use Rattle.ir_grammar.specs.declared.grammar.Grammar.{Grammar}
use Rattle.ir_grammar.specs.declared.grammar.Stop.{Stop}
use Rattle.ir_grammar.specs.declared.grammar.Stop.TheVariants as stops
use Rattle.ir_tokens.specs.declared.tokens.Token.{Token}
use Rattle.ir_tokens.specs.declared.faults.Fault.{Fault}
use Rattle.ir_grammar.specs.Nesting.{Nests, FollowTokens, Position, at_root, at_end, Move, goes_to, goes_in, goes_out, nowhere, move, NestsBy}
use Rattle.ir_formats.specs.Ordered.{Standing, alone, moved_by, passed_all, LeadsToPosition, IsInOrder, OrdersTexts, is_ordered}
use Rattle.ir_formats.specs.Ordered as ordered
use Rattle.ir_forest.specs.Progress.{Leads}
use Rattle.ir_forest.specs.Building.{first_refusal}
use Rattle.ir_formats.specs.Rules.{rules_of, plain_rules}
use Rattle.ir_tokens.specs.Faults.{IsNamed}
use Rattle.ir_scopes.specs.Depth.{IsTooDeep}
use Rattle.ir_print.specs.Pieces.{Values}
use Rattle.ir_forest.specs.ValueFaults.{HasNumberFault, HasNamesFault}
use Rattle.ir_rereading.specs.Texts.{IsReading, HasFault}
use Rattle.ir_forest.specs.Language.{Language}
use Rattle.ir_scopes.proofs.Depths.{deep_stays, deep_some}
use Rattle.ir_formats.proofs.Ordered.{nothing, passed_none, orders_texts, reading_in_order, text_ends}
use Rattle.ir_forest.proofs.BuiltRefusals.{refusal_is_named}

-- ---- the order of what is read

abbrev here_in : Position → Option Standing → Position
here_in p None = p
here_in p (Some s) = s.here

abbrev around_in : List Position → Option Standing → List Position
around_in ps None = ps
around_in ps (Some s) = s.around

pub leads_along : (es : List Event) (here : Position) (around : List Position) (to : Position) (back : List Position)
    → passed_all (Some (record { here = here; around = around })) es ≡ Some (record { here = to; around = back }) → Leads here around es to back
leads_along [] here around to back h = (ap (here_in here) h, ap (around_in around) h)
leads_along (Took ∷ es) here around to back h = leads_along es here around to back h
leads_along (Did a ∷ es) here around to back h = go (move here a) around h (λ p ps e. leads_along es p ps to back e)
  where
    go : (m : Move) (ps : List Position) → passed_all (moved_by m ps) es ≡ Some (record { here = to; around = back })
        → ((p : Position) (ps : List Position) → passed_all (Some (record { here = p; around = ps })) es ≡ Some (record { here = to; around = back }) → Leads p ps es to back)
        → NestsBy m ps (λ p more. Leads p more es to back)
    go (goes_to next) ps h again = again next ps h
    go (goes_in inside next) ps h again = again inside (next ∷ ps) h
    go goes_out [] h again = nothing (sym (passed_none es) ∙ h)
    go goes_out (next ∷ ps) h again = again next ps h
    go nowhere ps h again = nothing (sym (passed_none es) ∙ h)

module _ (l : Language) (leads : ordered.PartPositions) (ok : is_ordered leads (rules_of l.formats) ≡ true) (cs : List ℕ) (ts : List Token) (names : List ℕ) (n : ℕ) (es : List Event) where
  pub orders : (g : Grammar) → plain_rules g.rules.items ≡ rules_of l.formats → OrdersTexts g
  orders g same = orders_texts g leads (ap (is_ordered leads) same ∙ ok)

  -- what reading does is in order
  pub read_in_order : (stop : Stop) → IsReading l cs ts names stop n es → IsInOrder es
  read_in_order stop r = let s = r.reads in reading_in_order s.0 (orders s.0 s.1.rules) 64 n _ stop es s.2

  -- Where the text has no fault, what was begun is ended.
  pub read_whole : (stop : Stop) → IsReading l cs ts names stop n es → IsNamed (HasFault l cs ts names stop n es) None → Leads at_root [] es at_end []
  read_whole stops.Text r none = let s = r.reads in leads_along es at_root [] at_end [] (text_ends s.0 (orders s.0 s.1.rules) 64 n _ es s.2)
  read_whole stops.Stuck r none = absurd (none _ (inl refl))
  read_whole stops.Deep r none =
      let last = r.reads.2.last in
      let found = deep_some last.0 last.2 in
      absurd (none found.0 (inr (inr (inr (inl (subst (λ z. IsTooDeep z found.0) (sym last.1) (deep_stays last.0 (Took ∷ []) found.0 found.1)))))))

-- The first refusal is what is named of the faults of values.
pub values_named : (values : Values) (text : ℕ → List ℕ) (es xs : List Event) (v : Option Fault) → xs ≡ es → IsInOrder es
    → (Nests at_root [] xs → FollowTokens false xs → v ≡ first_refusal values text xs)
    → IsNamed (λ f. HasNumberFault values text es f ⊎ HasNamesFault values text es f) v
values_named values text es xs v e order found =
    let there : IsInOrder xs = subst IsInOrder (sym e) order in
    subst (λ z. IsNamed (λ f. HasNumberFault values text z f ⊎ HasNamesFault values text z f) v) e
    (subst (λ o. IsNamed (λ f. HasNumberFault values text xs f ⊎ HasNamesFault values text xs f) o) (sym (found there.nests there.follows)) (refusal_is_named values text xs there.nests there.follows))
