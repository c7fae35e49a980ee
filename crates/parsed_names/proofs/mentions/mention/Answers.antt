use Rattle.std.proofs.Common.{◌≡◌, ◌∙◌, refl, sym, ap, subst, inl, inr, Option, Some, None, Result, Ok, Err}
use Rattle.std.specs.Option.{MatchOption}
use Rattle.std.specs.Result.{MatchResult, IsErrAnd}
use Rattle.parsed_names.specs.Names.{known_of}
use Rattle.parsed_names.proofs.mentions.mention.Goals as goal

-- what is said where nothing is known
at_none : {X : Type 0} (A : Type 0) (B : X → Type 0) (o : Option X) → o ≡ None → A → MatchOption o A B
at_none A B None e h = h
at_none A B (Some x) e h = cc

-- a fault that is handed on
exit : {A E : Type 0} (P : A → Type 0) (Q : E → Type 0) (r : Result A E) (e : E) → IsErrAnd r (λ d. d ≡ e) → Q e → MatchResult r P Q
exit P Q (Ok x) e h q = absurd h
exit P Q (Err d) e h q = subst Q (sym h) q

pub returns-in_err-stand_in-in-None : goal.returns-in_err-stand_in-in-None
returns-in_err-stand_in-in-None g c =
    let unknown = ap (λ name. known_of c.args.names.now name) (sym c.as_str.ensures.text) ∙ sym c.get.ensures ∙ c.in-None.is in
    at_none _ _ (known_of c.args.names.now _) unknown
    (exit _ _ c.from_residual.result c.in_err-stand_in-in-None.field-0.0 c.from_residual.ensures.1
    (refl, inl (record { shown = _; shows = refl; left = _; met = c.in_err-stand_in-in-None.ensures; leaves = refl })))

pub returns-in_err-await_definition-in-None : goal.returns-in_err-await_definition-in-None
returns-in_err-await_definition-in-None g c =
    let unknown = ap (λ name. known_of c.args.names.now name) (sym c.as_str.ensures.text) ∙ sym c.get.ensures ∙ c.in-None.is in
    at_none _ _ (known_of c.args.names.now _) unknown
    (exit _ _ c.from_residual-in_err-await_definition-in-None.result _ c.from_residual-in_err-await_definition-in-None.ensures.1 (
      c.in_err-await_definition-in-None.ensures.err,
      inr (refl, c.in_ok-stand_in-in-None.stand_in, record { shown = _; shows = refl; left = _; met = c.in_ok-stand_in-in-None.ensures; leaves = refl }),
    ))

pub returns-in_ok-await_definition-in-None : goal.returns-in_ok-await_definition-in-None
returns-in_ok-await_definition-in-None g c =
    let unknown = ap (λ name. known_of c.args.names.now name) (sym c.as_str.ensures.text) ∙ sym c.get.ensures ∙ c.in-None.is in
    at_none _ _ (known_of c.args.names.now _) unknown (
      c.in_ok-await_definition-in-None.ensures.known,
      record { shown = _; shows = refl; left = _; met = c.in_ok-stand_in-in-None.ensures; leaves = refl },
    )
