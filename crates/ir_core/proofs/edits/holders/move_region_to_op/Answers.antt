use Rattle.std.proofs.Common.{true≢false, refl, sym, ◌∙◌}
use Rattle.ir_core.proofs.EditsLemmas.Kept.{moved_erased}
use Rattle.ir_core.proofs.edits.holders.move_region_to_op.Goals as goal

pub returns : goal.returns
returns g c = (
  (sym c.is_live.ensures ∙ c.if-not-is_live.false, sym c.is_live-else-not-is_live.ensures ∙ c.if-not-is_live-2.false, λ inside. true≢false (sym (c.is_inside.ensures.1 inside) ∙ c.if-is_inside.false)),
  (
    refl,
    c.move_to_op.ensures.elsewhere,
    c.move_to_op.ensures.within,
    moved_erased c.args.ctx.now.program c.move_to_op.new.ctx.program c.args.region c.args.op c.get_parent_op-holder.ensures.stands.0 c.get_parent_op-holder.ensures.stands.2 c.move_to_op.ensures.elsewhere c.move_to_op.ensures.within,
    record { values = c.move_to_op.ensures.values; types = c.move_to_op.ensures.types },
  ),
)
