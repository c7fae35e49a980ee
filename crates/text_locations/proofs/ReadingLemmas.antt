-- Lemmas on answers.
use Rattle.std.proofs.Common.{◌≡◌, ◌∙◌, refl, sym, ap, subst, ℕ, ◌==◌, true, false, List, [], ◌∷◌, Option, Some, None, Result, Ok, Err, inl, inr, Global}
use Rattle.std.proofs.lemmas.Bool.{eqb-true}
use Rattle.std.specs.Option.{MatchOption}
use Rattle.std.specs.Result.{MatchResult, IsErrAnd}
use Rattle.std.specs.declared.string.String.{String}
use Rattle.text_streams.specs.declared.stream.StateStream.{StateStream}
use Rattle.text_streams.specs.declared.faults.ParseFault.{ParseFault}
use Rattle.text_streams.specs.Numbers.{begins_with_digit, digits_text, number_text, as_they_are}
use Rattle.text_streams.specs.Positions.{left}
use Rattle.text_streams.specs.Quotes.{quoted_text}
use Rattle.text_streams.specs.Reading.{ReadsText}
use Rattle.text_locations.specs.Tokens.{ReadsQuotedHere, RefusesQuotedHere}

-- a fault that is handed on
pub exit : {A E : Type 0} (P : A → Type 0) (Q : E → Type 0) (r : Result A E) (e : E) → IsErrAnd r (λ d. d ≡ e) → Q e → MatchResult r P Q
exit P Q (Ok x) e h q = absurd h
exit P Q (Err d) e h q = subst Q (sym h) q

-- an answer that says less
pub weaker : {A E : Type 0} (P P' : A → Type 0) (Q Q' : E → Type 0) (r : Result A E) → ((x : A) → P x → P' x) → ((e : E) → Q e → Q' e) →
    MatchResult r P Q → MatchResult r P' Q'
weaker P P' Q Q' (Ok x) p q h = p x h
weaker P P' Q Q' (Err e) p q h = q e h

pub exit_none : {X : Type 0} (A : Type 0) (B : X → Type 0) (o : Option X) → o ≡ None → A → MatchOption o A B
exit_none A B o e a = let P : Option _ → Type 0 = λ o. MatchOption o A B in subst P (sym e) a

pub quoted_read : {S : Type 0} (old new : StateStream S) (result : Result (String Global) ParseFault) → ReadsText (quoted_text (left old.position)) old new result →
    MatchResult result (λ name. ReadsQuotedHere old name new) (RefusesQuotedHere old)
quoted_read old new (Ok name) h = record { said = h.said; there = h.there; says = h.holds; reads = h.reads }
quoted_read old new (Err fault) h =
    elim h.why [
      | inl memory ↦ inl memory
      | inr why ↦ elim why.1 [
        | inl none ↦ inr (record { without = none; at = record { here = h.stays.here; cause = why.0; unconsumed = h.stays.unconsumed } })
        | inr said ↦ absurd said.2
      ]
    ]

-- the number where digits are is what they say
pub digits_number : (cs : List ℕ) → begins_with_digit 10 cs ≡ true → number_text 10 cs ≡ Some (as_they_are (digits_text 10 cs))
digits_number [] e = cc
digits_number (c ∷ cs) e =
    elim (c == 45) as (λ b. (c == 45) ≡ b → number_text 10 (c ∷ cs) ≡ Some (as_they_are (digits_text 10 (c ∷ cs)))) [
      | true ↦ λ k.
          let minus : c ≡ 45 = eqb-true c 45 k in
          let wrong : false ≡ true = ap (λ x. begins_with_digit 10 (x ∷ cs)) (sym minus) ∙ e in
          cc
      | false ↦ λ k. rw k (rw e refl)
    ] refl
