-- The region of the block, and the operation that holds it.
use Rattle.opt_chains.proofs.NextBlock.{ssa_is, not_in_ssa}
use Rattle.opt_chains.proofs.next_blocks.is_in_ssa.Goals as goal

pub returns-in-Some : goal.returns-in-Some
returns-in-Some g c = ssa_is g.D.Meanings.meaning c.args.program.now c.args.block c.in-Some.region c.parent_operation-owner.result c.payload.result.now c.region_index.result c.has_ssa_dominance.result
    c.in-Some.ensures.parent c.in-Some.ensures.only c.parent_operation-owner.ensures.stands c.parent_operation-owner.ensures.only c.payload.ensures c.region_index.ensures c.has_ssa_dominance.ensures

pub returns-in-None : goal.returns-in-None
returns-in-None g c = not_in_ssa g.D.Meanings.meaning c.args.program.now c.args.block c.in-None.ensures.parent
