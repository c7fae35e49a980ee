use Rattle.std.proofs.Common.{arith, refl, ◌<◌}
use Rattle.ir_entities.specs.Prune.{live_in}
use Rattle.ir_entities.specs.Shape.{itself, deeper}
use Rattle.ir_entities.specs.declared.forest.Place.TheVariants.{Block, Region}
use Rattle.ir_entities.proofs.Appends.{first_has}
use Rattle.ir_entities.proofs.Prunes.{erased_last, pruned_both}
use Rattle.ir_entities.proofs.Takes.{region_live}
use Rattle.ir_entities.proofs.forest.Forest.free_region_tree.Goals as goal

pub returns-clause-erased : goal.returns-clause-erased
returns-clause-erased g c = erased_last c.args.self.now c.trees.self c.free_region_at.new.self (Region c.args.region) c.trees.invariant.0 c.free_region_at.ensures.erased

pub returns-clause-fewer : goal.returns-clause-fewer
returns-clause-fewer g c =
    let less : live_in c.free_region_at.new.self < live_in c.trees.self = region_live c.trees.self c.trees.self c.free_region_at.new.self c.args.region refl c.free_region_at.ensures.slot c.free_region_at.ensures.rest in
    omega (arith, less, c.trees.invariant.1)

pub drop_block_tree-requires : goal.drop_block_tree-requires
drop_block_tree-requires g c = record { linked = (c.args.region, first_has c.in-Some.block _ c.in-Some.ensures) }

pub trees-preserved : goal.trees-preserved
trees-preserved g c = (
  pruned_both c.args.self.now c.trees.self c.drop_block_tree.new.self (Region c.args.region) c.trees.invariant.0
      (c.drop_block_tree.ensures.pruned (Region c.args.region) (deeper (Block c.in-Some.block) (Region c.args.region) (first_has c.in-Some.block _ c.in-Some.ensures) itself) (λ e. cc)),
  (omega (arith, c.drop_block_tree.ensures.fewer, c.trees.invariant.1)),
)
