use Rattle.std.proofs.Common.{refl, sym, ◌∙◌, true≢false}
use Rattle.ir_core.proofs.EditsLemmas.Refused.{popped_match}
use Rattle.ir_core.proofs.edits.arguments.pop_argument.Goals as goal

pub returns : goal.returns
returns g c = (
  (sym c.is_live.ensures ∙ c.if-not-is_live.false, λ v at used. true≢false (sym (c.has_used_last_argument.ensures.1 (v, at, used)) ∙ c.if-has_used_last_argument.false)),
  (refl, popped_match c.pop_argument.result _ _ _ _ c.pop_argument.ensures.value c.pop_argument.ensures.none c.pop_argument.ensures.popped c.pop_argument.ensures.forgotten, c.pop_argument.ensures.counter, c.pop_argument.ensures.types),
)
