use Rattle.std.proofs.Common.{refl, sym, ◌∙◌}
use Rattle.ir_core.proofs.EditsLemmas.Asked.{operand_popped}
use Rattle.ir_core.proofs.edits.operands.pop_operand.Goals as goal

pub returns : goal.returns
returns g c = (
  sym c.is_live.ensures ∙ c.if-not-is_live.false,
  (refl, c.pop_operand.ensures.popped, operand_popped _ _ _ _ c.pop_operand.ensures.value c.pop_operand.ensures.none, record { values = c.pop_operand.ensures.values; types = c.pop_operand.ensures.types }),
)
