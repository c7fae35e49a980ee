use Rattle.ir_entities.specs.declared.forest.Place.TheVariants.{Op, Block, Region}
use Rattle.ir_entities.proofs.Takes.{child_made, first_seen, first_none}
use Rattle.ir_entities.proofs.forest.Forest.first_inner.Goals as goal

pub head-requires-2 : goal.head-requires-2
head-requires-2 g c = child_made _ _ _ _ _ c.self.invariant.regions c.self.invariant.blocks c.args.x c.in-Some.region c.in-Some.ensures.first

pub head-requires-3 : goal.head-requires-3
head-requires-3 g c = child_made _ _ _ _ _ c.self.invariant.blocks c.self.invariant.ops c.in-Some.region c.in-Some-head.block c.in-Some-head.ensures.first

pub returns-in_default-head-clause-inside : goal.returns-in_default-head-clause-inside
returns-in_default-head-clause-inside g c = first_seen _ c.args.self.now c.self.view_is c.self.invariant c.args.x (Region c.in-Some.region) (c.in-Some.ensures.first, first_none _ c.in_default-head.ensures.first)

pub returns-in_default-head-2-clause-inside : goal.returns-in_default-head-2-clause-inside
returns-in_default-head-2-clause-inside g c = first_seen _ c.args.self.now c.self.view_is c.self.invariant c.args.x (Block c.in-Some-head.block) (c.in-Some.region, c.in-Some.ensures.first, c.in-Some-head.ensures.first, first_none _ c.in_default-head-2.ensures.first)

pub returns-clause-inside : goal.returns-clause-inside
returns-clause-inside g c = first_seen _ c.args.self.now c.self.view_is c.self.invariant c.args.x (Op c.in-Some-head-2.op) (c.in-Some.region, c.in-Some-head.block, c.in-Some.ensures.first, c.in-Some-head.ensures.first, c.in-Some-head-2.ensures.first)
