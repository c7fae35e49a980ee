use Rattle.std.proofs.Common.{refl, sym, ◌∙◌, true≢false}
use Rattle.ir_core.proofs.EditsLemmas.Refused.{popped_match}
use Rattle.ir_core.proofs.edits.results.pop_result.Goals as goal

pub returns : goal.returns
returns g c = (
  (sym c.is_live.ensures ∙ c.if-not-is_live.false, λ v at used. true≢false (sym (c.has_used_last_result.ensures.1 (v, at, used)) ∙ c.if-has_used_last_result.false)),
  (refl, popped_match c.pop_result.result _ _ _ _ c.pop_result.ensures.value c.pop_result.ensures.none c.pop_result.ensures.popped c.pop_result.ensures.forgotten, c.pop_result.ensures.counter, c.pop_result.ensures.types),
)
