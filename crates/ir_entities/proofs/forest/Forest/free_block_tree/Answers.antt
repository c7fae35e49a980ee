use Rattle.std.proofs.Common.{arith, refl, ◌<◌}
use Rattle.ir_entities.specs.Prune.{live_in}
use Rattle.ir_entities.specs.Shape.{itself, deeper}
use Rattle.ir_entities.specs.declared.forest.Place.TheVariants.{Op, Block}
use Rattle.ir_entities.proofs.Appends.{first_has}
use Rattle.ir_entities.proofs.Prunes.{erased_last, pruned_both}
use Rattle.ir_entities.proofs.Takes.{block_live}
use Rattle.ir_entities.proofs.forest.Forest.free_block_tree.Goals as goal

pub returns-clause-erased : goal.returns-clause-erased
returns-clause-erased g c = erased_last c.args.self.now c.trees.self c.free_block_at.new.self (Block c.args.block) c.trees.invariant.0 c.free_block_at.ensures.erased

pub returns-clause-fewer : goal.returns-clause-fewer
returns-clause-fewer g c =
    let less : live_in c.free_block_at.new.self < live_in c.trees.self = block_live c.trees.self c.trees.self c.free_block_at.new.self c.args.block refl c.free_block_at.ensures.slot c.free_block_at.ensures.rest in
    omega (arith, less, c.trees.invariant.1)

pub drop_op_tree-requires : goal.drop_op_tree-requires
drop_op_tree-requires g c = record { linked = (c.args.block, first_has c.in-Some.op _ c.in-Some.ensures) }

pub trees-preserved : goal.trees-preserved
trees-preserved g c = (
  pruned_both c.args.self.now c.trees.self c.drop_op_tree.new.self (Block c.args.block) c.trees.invariant.0
      (c.drop_op_tree.ensures.pruned (Block c.args.block) (deeper (Op c.in-Some.op) (Block c.args.block) (first_has c.in-Some.op _ c.in-Some.ensures) itself) (λ e. cc)),
  (omega (arith, c.drop_op_tree.ensures.fewer, c.trees.invariant.1)),
)
