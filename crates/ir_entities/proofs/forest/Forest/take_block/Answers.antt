use Rattle.ir_entities.proofs.Prunes.{branch_gone, cut_live}
use Rattle.ir_entities.proofs.Takes.{block_live}
use Rattle.ir_entities.specs.declared.forest.Place.TheVariants.{Block}
use Rattle.ir_entities.proofs.forest.Forest.take_block.Goals as goal

pub returns-clause-pruned : goal.returns-clause-pruned
returns-clause-pruned g c x w ne = branch_gone c.args.self.now c.cut_block.new.self c.free_block_at-payload.new.self c.know_forest.ensures c.know_forest-2.ensures (Block c.args.block) x c.cut_block.ensures.cut c.free_block_at-payload.ensures.erased w ne

pub returns-clause-fewer : goal.returns-clause-fewer
returns-clause-fewer g c = block_live c.args.self.now c.cut_block.new.self c.free_block_at-payload.new.self c.args.block (cut_live c.args.self.now c.cut_block.new.self (Block c.args.block) c.cut_block.ensures.cut) c.free_block_at-payload.ensures.slot c.free_block_at-payload.ensures.rest
