use Rattle.std.proofs.Common.{◌∙◌, refl, sym, true≢false}
use Rattle.std.proofs.lemmas.Slice.Eq.{bytes_eq-Decides}
use Rattle.kit_interpreter.proofs.functions.is_named_function.Goals as goal

pub returns-in-Some : goal.returns-in-Some
returns-in-Some c = (
  λ _. (c.in-Some._name.now, c.in-Some.ensures c.in-Some._name.now ∙ (bytes_eq-Decides c.in-Some._name.now c.in-Some._name.now).1 refl),
  λ _. refl,
)

pub returns-in-None : goal.returns-in-None
returns-in-None c = (λ h. absurd (true≢false (sym h)), λ n. absurd (true≢false (sym n.1 ∙ c.in-None.ensures n.0)))
