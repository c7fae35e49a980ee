use Rattle.std.proofs.Common.{get_or, IsSome, subst, sym, refl, ◌∙◌, arith}
use Rattle.std.proofs.lemmas.Option.{slice_get-get_or}
use Rattle.ir_program.specs.Program.{no_handle, block_at}
use Rattle.opt_inside.proofs.Around.{HasLists}
use Rattle.opt_simplify.specs.Removed.{DecidesInsideBlock}
use Rattle.opt_simplify.proofs.RemovedErased.{none_erased, apart_now, still_there, erased_next}
use Rattle.opt_simplify.proofs.remove_blocks.erase_all.Goals as goal

pub loop-block-init : goal.loop-block-init
loop-block-init g c = record { erased = none_erased c.args.ctx.now.program; types = refl; numbers = refl }

pub know_inside-requires : goal.know_inside-requires
know_inside-requires g c =
    let lists : HasLists c.program.result.now = assumption c.know_lists.ensures in
    let first : HasLists c.args.ctx.now.program = subst HasLists c.program.ensures lists in
    subst (λ p. IsSome (block_at p (get_or c.args.blocks.now c.loop-block.block-index no_handle))) (sym c.program-in-loop-block-2.ensures)
    (still_there c.args.ctx.now.program c.loop-block.ctx.program first c.args.blocks.now c.loop-block.block-index _ (slice_get-get_or c.args.blocks.now c.loop-block.block-index no_handle (omega arith)) c.loop-block.invariant.erased c.requires.once c.requires.apart c.requires.there)

pub erase-requires-clause-block : goal.erase-requires-clause-block
erase-requires-clause-block g c =
    let lists : HasLists c.program.result.now = assumption c.know_lists.ensures in
    let first : HasLists c.args.ctx.now.program = subst HasLists c.program.ensures lists in
    still_there c.args.ctx.now.program c.loop-block.ctx.program first c.args.blocks.now c.loop-block.block-index _ (slice_get-get_or c.args.blocks.now c.loop-block.block-index no_handle (omega arith)) c.loop-block.invariant.erased c.requires.once c.requires.apart c.requires.there

pub erase-requires-clause-apart : goal.erase-requires-clause-apart
erase-requires-clause-apart g c =
    let lists : HasLists c.program.result.now = assumption c.know_lists.ensures in
    let first : HasLists c.args.ctx.now.program = subst HasLists c.program.ensures lists in
    apart_now c.args.ctx.now.program c.loop-block.ctx.program first c.args.blocks.now c.loop-block.block-index _ (slice_get-get_or c.args.blocks.now c.loop-block.block-index no_handle (omega arith)) c.loop-block.invariant.erased c.requires.unnamed

pub loop-block-preserved : goal.loop-block-preserved
loop-block-preserved g c =
    let lists : HasLists c.program.result.now = assumption c.know_lists.ensures in
    let first : HasLists c.args.ctx.now.program = subst HasLists c.program.ensures lists in
    let lists_now : HasLists c.program-in-loop-block.result.now = assumption c.know_lists-in-loop-block.ensures in
    let now : HasLists c.loop-block.ctx.program = subst HasLists c.program-in-loop-block.ensures lists_now in
    record {
      erased = erased_next c.args.ctx.now.program c.loop-block.ctx.program first c.args.blocks.now c.loop-block.block-index _ (slice_get-get_or c.args.blocks.now c.loop-block.block-index no_handle (omega arith)) c.loop-block.invariant.erased
          now c.erase.new.ctx.program c.requires.there
          (still_there c.args.ctx.now.program c.loop-block.ctx.program first c.args.blocks.now c.loop-block.block-index _ (slice_get-get_or c.args.blocks.now c.loop-block.block-index no_handle (omega arith)) c.loop-block.invariant.erased c.requires.once c.requires.apart c.requires.there)
          (subst (λ p. DecidesInsideBlock p (get_or c.args.blocks.now c.loop-block.block-index no_handle)) c.program-in-loop-block-2.ensures c.know_inside.ensures) c.erase.ensures.erased;
      types = c.erase.ensures.types ∙ c.loop-block.invariant.types;
      numbers = c.erase.ensures.erased.counter ∙ c.loop-block.invariant.numbers;
    }
