use Rattle.std.proofs.Common.{IsSome, get_or, refl, sym, subst, ◌∙◌, arith}
use Rattle.std.proofs.lemmas.Option.{slice_get-get_or}
use Rattle.ir_program.specs.Program.{no_handle, block_at}
use Rattle.opt_simplify.specs.Removed.{DecidesInsideBlock}
use Rattle.opt_simplify.proofs.RemovedDropped.{none_dropped, live_now, dropped_next}
use Rattle.opt_simplify.proofs.remove_blocks.drop_uses.Goals as goal

pub know_inside-requires : goal.know_inside-requires
know_inside-requires g c = subst (λ p. IsSome (block_at p (get_or c.args.blocks.now c.loop-block.block-index no_handle))) (sym c.program.ensures)
    (live_now c.args.ctx.now.program c.loop-block.ctx.program c.args.blocks.now c.loop-block.block-index _ (slice_get-get_or c.args.blocks.now c.loop-block.block-index no_handle (omega arith)) c.loop-block.invariant.dropped c.requires)

pub drop_all_uses-requires : goal.drop_all_uses-requires
drop_all_uses-requires g c =
    live_now c.args.ctx.now.program c.loop-block.ctx.program c.args.blocks.now c.loop-block.block-index _ (slice_get-get_or c.args.blocks.now c.loop-block.block-index no_handle (omega arith)) c.loop-block.invariant.dropped c.requires

pub loop-block-init : goal.loop-block-init
loop-block-init g c = record { dropped = none_dropped c.args.ctx.now.program; types = refl; numbers = refl }

pub loop-block-preserved : goal.loop-block-preserved
loop-block-preserved g c = record {
  dropped = dropped_next c.args.ctx.now.program c.loop-block.ctx.program c.args.blocks.now c.loop-block.block-index _ (slice_get-get_or c.args.blocks.now c.loop-block.block-index no_handle (omega arith)) c.loop-block.invariant.dropped
      c.drop_all_uses.new.ctx.program (subst (λ p. DecidesInsideBlock p (get_or c.args.blocks.now c.loop-block.block-index no_handle)) c.program.ensures c.know_inside.ensures) c.drop_all_uses.ensures.dropped;
  types = c.drop_all_uses.ensures.types ∙ c.loop-block.invariant.types;
  numbers = c.drop_all_uses.ensures.dropped.counter ∙ c.loop-block.invariant.numbers;
}
