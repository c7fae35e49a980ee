-- Lemmas on lists whose members are read one after another.
use Rattle.std.proofs.Common.{◌≡◌, ◌∙◌, ◌≤◌, ◌&&◌, refl, sym, ap, subst, inl, inr, ℕ, Bool, true, false, List, [], ◌∷◌, ◌++◌, Option, Some, None, Result, Ok, Err, not}
use Rattle.std.proofs.lemmas.Fn.{FoldsTo-push}
use Rattle.std.specs.Option.{MatchOption, is_some}
use Rattle.std.specs.Result.{MatchResult, IsErrAnd}
use Rattle.text_streams.specs.declared.stream.StateStream.{StateStream}
use Rattle.text_streams.specs.declared.faults.ParseFault.{ParseFault}
use Rattle.text_streams.specs.declared.faults.TextError.TheVariants.{Memory, Syntax}
use Rattle.text_streams.specs.Positions.{bytes_left}
use Rattle.text_lists.specs.Signs.{GoesOn, Stops}
use Rattle.text_lists.specs.Members.{MemberParser, At, Answers, may_end, IsAbsent, RefusesMember, ReadsMember, AreRead, is_absence}
use Rattle.text_lists.specs.Lists.{ReadsList, RefusesList}

-- whether there is no sign
abbrev pub is_unsigned : {A : Type 0} → Option A → Bool
is_unsigned None = true
is_unsigned (Some sign) = false

is_unsigned-is : (sign : Option ℕ) (b : Bool) → is_some sign ≡ not b → b ≡ is_unsigned sign
is_unsigned-is None true e = refl
is_unsigned-is None false e = cc
is_unsigned-is (Some sign) true e = cc
is_unsigned-is (Some sign) false e = refl

may_end-push : {T : Type 0} (sign : Option ℕ) (members : List T) (x : T) → may_end sign (members ++ x ∷ []) ≡ is_unsigned sign
may_end-push None [] x = refl
may_end-push (Some sign) [] x = refl
may_end-push None (y ∷ ys) x = refl
may_end-push (Some sign) (y ∷ ys) x = refl

-- behind a member the list may end where there is no sign
pub may_end-more : {T : Type 0} (sign : Option ℕ) (members : List T) (x : T) (b : Bool) → is_some sign ≡ not b → b ≡ may_end sign (members ++ x ∷ [])
may_end-more sign members x b e = is_unsigned-is sign b e ∙ sym (may_end-push sign members x)

-- what an answer says where it is known
pub at_none : {X : Type 0} (A : Type 0) (B : X → Type 0) (o : Option X) → o ≡ None → MatchOption o A B → A
at_none A B None e h = h
at_none A B (Some x) e h = cc

pub at_some : {X : Type 0} (A : Type 0) (B : X → Type 0) (o : Option X) (x : X) → o ≡ Some x → MatchOption o A B → B x
at_some A B None x e h = cc
at_some A B (Some y) x e h = let same : y ≡ x = ap (λ o. elim o [ None ↦ x | Some z ↦ z ]) e in subst B same h

-- a fault that is handed on
pub exit : {A E : Type 0} (P : A → Type 0) (Q : E → Type 0) (r : Result A E) (e : E) → IsErrAnd r (λ d. d ≡ e) → Q e → MatchResult r P Q
exit P Q (Ok x) e h q = absurd h
exit P Q (Err d) e h q = subst Q (sym h) q

pub and_left : (a b : Bool) → (a && b) ≡ true → a ≡ true
and_left true b e = refl
and_left false b e = cc

pub and_right : (a b : Bool) → (a && b) ≡ true → b ≡ true
and_right true b e = e
and_right false b e = cc

module _ {F S T : Type 0} (parser : MemberParser F S T) (sign : Option ℕ) (f : F) (old : StateStream S) (members : List T) (at : At F S) (read : AreRead parser sign (f, old) members at) where
  pub one_more : (x : T) (end : At F S) (new : StateStream S) → Answers parser at (Ok x) end → GoesOn sign end.1 new →
      AreRead parser sign (f, old) (members ++ x ∷ []) (end.0, new)
  one_more x end new answered behind =
      FoldsTo-push (ReadsMember parser sign) (f, old) members at x (end.0, new) read (record { end = end; answered = answered; same = refl; behind = behind })

  pub ends_before : (may : Bool) (left : F) (new : StateStream S) → may ≡ may_end sign members → may ≡ true → IsAbsent parser at (left, new) →
      ReadsList parser sign f old members new
  ends_before may left new e t absent = inl (record { at = at; read = read; may = sym e ∙ t; left = left; absent = absent })

  pub ends_behind : (x : T) (end : At F S) (new : StateStream S) → Answers parser at (Ok x) end → Stops sign end.1 new →
      ReadsList parser sign f old (members ++ x ∷ []) new
  ends_behind x end new answered stops = inr (record { others = members; last = x; all = refl; at = at; read = read; end = end; answered = answered; stops = stops })

  pub refused_call : (may : Bool) (fault : ParseFault) → may ≡ may_end sign members → RefusesMember parser may at fault → RefusesList parser sign f old fault
  refused_call may fault e refused = record {
    members = members;
    at = at;
    read = read;
    why = inl (refused.0, refused.1, ap (λ b. b && is_absence fault) (sym e) ∙ refused.2);
  }

  pub refused_memory : (fault : ParseFault) → fault.cause ≡ Memory → RefusesList parser sign f old fault
  refused_memory fault e = record { members = members; at = at; read = read; why = inr (inl e) }

  pub refused_still : (fault : ParseFault) (x : T) (end : At F S) (new : StateStream S) → Answers parser at (Ok x) end → GoesOn sign end.1 new →
      fault.cause ≡ Syntax → bytes_left at.1.position ≤ bytes_left new.position → RefusesList parser sign f old fault
  refused_still fault x end new answered behind e less = record {
    members = members;
    at = at;
    read = read;
    why = inr (inr (e, x, (end.0, new), record { end = end; answered = answered; same = refl; behind = behind }, less));
  }
