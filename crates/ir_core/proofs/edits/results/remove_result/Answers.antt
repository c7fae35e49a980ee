use Rattle.std.proofs.Common.{true≢false, refl, sym, ◌∙◌, arith}
use Rattle.ir_core.proofs.EditsLemmas.Asked.{forgets_found}
use Rattle.ir_core.proofs.edits.results.remove_result.Goals as goal

pub returns : goal.returns
returns g c = (
  (sym c.is_live.ensures ∙ c.if-not-is_live.false, omega arith, λ v at used. true≢false (sym (c.has_used_result.ensures.1 (v, at, used)) ∙ c.if-has_used_result.false)),
  (refl, c.remove_result.ensures.removed, forgets_found _ _ _ _ c.remove_result.ensures.value c.remove_result.ensures.forgotten, c.remove_result.ensures.counter, c.remove_result.ensures.types),
)
