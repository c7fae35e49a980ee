use Rattle.std.proofs.Common.{true≢false, refl, sym, ◌∙◌, arith}
use Rattle.ir_core.proofs.EditsLemmas.Asked.{forgets_found}
use Rattle.ir_core.proofs.edits.arguments.remove_argument.Goals as goal

pub returns : goal.returns
returns g c = (
  (sym c.is_live.ensures ∙ c.if-not-is_live.false, omega arith, λ v at used. true≢false (sym (c.has_used_argument.ensures.1 (v, at, used)) ∙ c.if-has_used_argument.false)),
  (refl, c.remove_argument.ensures.removed, forgets_found _ _ _ _ c.remove_argument.ensures.value c.remove_argument.ensures.forgotten, c.remove_argument.ensures.counter, c.remove_argument.ensures.types),
)
