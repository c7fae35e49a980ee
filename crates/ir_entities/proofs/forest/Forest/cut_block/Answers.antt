use Rattle.ir_entities.proofs.Trees.{fewer_blocks}
use Rattle.ir_entities.proofs.Takes.{block_cut}
use Rattle.ir_entities.proofs.forest.Forest.cut_block.Goals as goal

pub invariant_of-self : goal.invariant_of-self
invariant_of-self g c = fewer_blocks _ c.args.self.now c.self.view_is c.self.invariant c.unlink.new.self c.unlink.ensures.nodes c.args.block c.unlink.ensures.lists

pub returns-clause-cut : goal.returns-clause-cut
returns-clause-cut g c = rw (← c.self.view_is) (block_cut _ c.args.block c.unlink.new.self c.unlink.ensures.lists c.unlink.ensures.one)
