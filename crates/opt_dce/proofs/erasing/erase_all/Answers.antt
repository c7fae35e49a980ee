use Rattle.std.proofs.Common.{subst, refl, ◌∙◌, arith}
use Rattle.std.proofs.lemmas.Option.{slice_get-get_or}
use Rattle.ir_program.specs.Program.{no_handle}
use Rattle.opt_inside.proofs.Around.{HasLists}
use Rattle.opt_dce.proofs.Erased.{none_erased, apart_now, erased_next}
use Rattle.opt_dce.proofs.erasing.erase_all.Goals as goal

pub loop-op-init : goal.loop-op-init
loop-op-init g c = record { erased = none_erased c.args.ctx.now.program; types = refl; numbers = refl }

pub erase_one-requires : goal.erase_one-requires
erase_one-requires g c live =
    let lists : HasLists c.program.result.now = assumption c.know_lists.ensures in
    let first : HasLists c.args.ctx.now.program = subst HasLists c.program.ensures lists in
    apart_now c.args.ctx.now.program c.loop-op.ctx.program first c.args.ops.now c.loop-op.op-index _ (slice_get-get_or c.args.ops.now c.loop-op.op-index no_handle (omega arith)) c.loop-op.invariant.erased c.requires.unnamed

pub loop-op-preserved : goal.loop-op-preserved
loop-op-preserved g c =
    let lists : HasLists c.program.result.now = assumption c.know_lists.ensures in
    let first : HasLists c.args.ctx.now.program = subst HasLists c.program.ensures lists in
    let lists_now : HasLists c.program-in-loop-op.result.now = assumption c.know_lists-in-loop-op.ensures in
    let now : HasLists c.loop-op.ctx.program = subst HasLists c.program-in-loop-op.ensures lists_now in
    record {
      erased = erased_next c.args.ctx.now.program c.loop-op.ctx.program first c.args.ops.now c.loop-op.op-index _ (slice_get-get_or c.args.ops.now c.loop-op.op-index no_handle (omega arith)) c.loop-op.invariant.erased
          now c.erase_one.new.ctx.program c.requires.there c.erase_one.ensures.erased;
      types = c.erase_one.ensures.types ∙ c.loop-op.invariant.types;
      numbers = c.erase_one.ensures.numbers ∙ c.loop-op.invariant.numbers;
    }
