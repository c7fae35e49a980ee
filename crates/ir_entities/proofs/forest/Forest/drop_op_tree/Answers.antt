use Rattle.ir_entities.specs.declared.forest.Place.TheVariants.{Op}
use Rattle.ir_entities.proofs.Prunes.{branch_gone}
use Rattle.ir_entities.proofs.forest.Forest.drop_op_tree.Goals as goal

pub returns-clause-pruned : goal.returns-clause-pruned
returns-clause-pruned g c x w ne = branch_gone c.args.self.now c.cut_op.new.self c.free_op_tree.new.self c.know_forest.ensures c.know_forest-2.ensures (Op c.args.op) x c.cut_op.ensures.cut c.free_op_tree.ensures.erased w ne
