use Rattle.ir_entities.specs.declared.forest.Place.TheVariants.{Block}
use Rattle.ir_entities.proofs.Prunes.{branch_gone}
use Rattle.ir_entities.proofs.forest.Forest.drop_block_tree.Goals as goal

pub returns-clause-pruned : goal.returns-clause-pruned
returns-clause-pruned g c x w ne = branch_gone c.args.self.now c.cut_block.new.self c.free_block_tree.new.self c.know_forest.ensures c.know_forest-2.ensures (Block c.args.block) x c.cut_block.ensures.cut c.free_block_tree.ensures.erased w ne
