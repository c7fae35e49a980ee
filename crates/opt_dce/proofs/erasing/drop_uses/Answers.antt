use Rattle.std.proofs.Common.{IsSome, get_or, refl, sym, subst, ◌∙◌, arith}
use Rattle.std.proofs.lemmas.Option.{slice_get-get_or}
use Rattle.ir_program.specs.Program.{no_handle, operation_at}
use Rattle.opt_dce.specs.Steps.{DecidesInside}
use Rattle.opt_dce.proofs.Dropped.{none_dropped, live_now, dropped_next}
use Rattle.opt_dce.proofs.erasing.drop_uses.Goals as goal

pub know_inside-requires : goal.know_inside-requires
know_inside-requires g c = subst (λ p. IsSome (operation_at p (get_or c.args.ops.now c.loop-op.op-index no_handle))) (sym c.program.ensures)
    (live_now c.args.ctx.now.program c.loop-op.ctx.program c.args.ops.now c.loop-op.op-index _ (slice_get-get_or c.args.ops.now c.loop-op.op-index no_handle (omega arith)) c.loop-op.invariant.dropped c.requires)

pub drop_all_uses-requires : goal.drop_all_uses-requires
drop_all_uses-requires g c =
    live_now c.args.ctx.now.program c.loop-op.ctx.program c.args.ops.now c.loop-op.op-index _ (slice_get-get_or c.args.ops.now c.loop-op.op-index no_handle (omega arith)) c.loop-op.invariant.dropped c.requires

pub loop-op-init : goal.loop-op-init
loop-op-init g c = record { dropped = none_dropped c.args.ctx.now.program; types = refl; numbers = refl }

pub loop-op-preserved : goal.loop-op-preserved
loop-op-preserved g c = record {
  dropped = dropped_next c.args.ctx.now.program c.loop-op.ctx.program c.args.ops.now c.loop-op.op-index _ (slice_get-get_or c.args.ops.now c.loop-op.op-index no_handle (omega arith)) c.loop-op.invariant.dropped
      c.drop_all_uses.new.ctx.program (subst (λ p. DecidesInside p (get_or c.args.ops.now c.loop-op.op-index no_handle)) c.program.ensures c.know_inside.ensures) c.drop_all_uses.ensures.dropped;
  types = c.drop_all_uses.ensures.types ∙ c.loop-op.invariant.types;
  numbers = c.drop_all_uses.ensures.dropped.counter ∙ c.loop-op.invariant.numbers;
}
