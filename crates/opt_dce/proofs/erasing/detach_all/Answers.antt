use Rattle.std.proofs.Common.{subst, refl, ◌∙◌, arith}
use Rattle.std.proofs.lemmas.Option.{slice_get-get_or}
use Rattle.ir_program.specs.Program.{no_handle}
use Rattle.opt_inside.proofs.Around.{HasLists}
use Rattle.opt_dce.proofs.Detached.{none_detached, linked_now, detached_next}
use Rattle.opt_dce.proofs.erasing.detach_all.Goals as goal

pub loop-op-init : goal.loop-op-init
loop-op-init g c = record { detached = none_detached c.args.ctx.now.program; types = refl; numbers = refl }

pub unlink-requires : goal.unlink-requires
unlink-requires g c =
    linked_now c.args.ctx.now.program c.loop-op.ctx.program c.args.ops.now c.requires.once c.loop-op.op-index _ (slice_get-get_or c.args.ops.now c.loop-op.op-index no_handle (omega arith)) c.loop-op.invariant.detached c.requires.linked

pub loop-op-preserved : goal.loop-op-preserved
loop-op-preserved g c =
    let lists : HasLists c.program.result.now = assumption c.know_lists.ensures in
    let now : HasLists c.loop-op.ctx.program = subst HasLists c.program.ensures lists in
    record {
      detached = detached_next c.args.ctx.now.program c.loop-op.ctx.program c.args.ops.now c.requires.once c.loop-op.op-index _ (slice_get-get_or c.args.ops.now c.loop-op.op-index no_handle (omega arith)) c.loop-op.invariant.detached
          c.unlink.new.ctx.program now
          (linked_now c.args.ctx.now.program c.loop-op.ctx.program c.args.ops.now c.requires.once c.loop-op.op-index _ (slice_get-get_or c.args.ops.now c.loop-op.op-index no_handle (omega arith)) c.loop-op.invariant.detached c.requires.linked)
          c.unlink.ensures.edited;
      types = c.unlink.ensures.types ∙ c.loop-op.invariant.types;
      numbers = c.unlink.ensures.values.counter ∙ c.loop-op.invariant.numbers;
    }
