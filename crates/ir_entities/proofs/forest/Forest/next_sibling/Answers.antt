use Rattle.std.proofs.Common.{subst, ℕ, ◌≡◌, ◌∙◌, Option}
use Rattle.ir_entities.specs.declared.forest.Place.TheVariants.{Op, Block, Region}
use Rattle.ir_entities.specs.Forest.{shape_of}
use Rattle.ir_entities.specs.Walk.{place_after, children}
use Rattle.ir_entities.proofs.Orders.{lift, op_sibling, block_sibling, region_sibling, seen_next_op, seen_next_block, seen_next_region}
use Rattle.ir_entities.proofs.forest.Forest.next_sibling.Goals as goal

pub returns-in_err-next-in-Op : goal.returns-in_err-next-in-Op
returns-in_err-next-in-Op g c d i = c.from_residual.ensures ∙ subst (λ (o : Option ℕ). lift Op o ≡ place_after c.args.at (children (shape_of c.args.self.now) d)) c.in_err-next-in-Op.was (op_sibling (shape_of c.args.self.now) c.args.at c.in-Op.op c.in-Op.is c.next.result (seen_next_op _ c.args.self.now c.self.view_is c.in-Op.op c.next.result c.next.ensures) d i)

pub returns-in_ok-next-in-Op : goal.returns-in_ok-next-in-Op
returns-in_ok-next-in-Op g c d i = subst (λ (o : Option ℕ). lift Op o ≡ place_after c.args.at (children (shape_of c.args.self.now) d)) c.in_ok-next-in-Op.was (op_sibling (shape_of c.args.self.now) c.args.at c.in-Op.op c.in-Op.is c.next.result (seen_next_op _ c.args.self.now c.self.view_is c.in-Op.op c.next.result c.next.ensures) d i)

pub returns-in_err-next-in-Block : goal.returns-in_err-next-in-Block
returns-in_err-next-in-Block g c d i = c.from_residual-in_err-next-in-Block.ensures ∙ subst (λ (o : Option ℕ). lift Block o ≡ place_after c.args.at (children (shape_of c.args.self.now) d)) c.in_err-next-in-Block.was (block_sibling (shape_of c.args.self.now) c.args.at c.in-Block.block c.in-Block.is c.next-in-Block.result (seen_next_block _ c.args.self.now c.self.view_is c.in-Block.block c.next-in-Block.result c.next-in-Block.ensures) d i)

pub returns-in_ok-next-in-Block : goal.returns-in_ok-next-in-Block
returns-in_ok-next-in-Block g c d i = subst (λ (o : Option ℕ). lift Block o ≡ place_after c.args.at (children (shape_of c.args.self.now) d)) c.in_ok-next-in-Block.was (block_sibling (shape_of c.args.self.now) c.args.at c.in-Block.block c.in-Block.is c.next-in-Block.result (seen_next_block _ c.args.self.now c.self.view_is c.in-Block.block c.next-in-Block.result c.next-in-Block.ensures) d i)

pub returns-in_err-next-in-Region : goal.returns-in_err-next-in-Region
returns-in_err-next-in-Region g c d i = c.from_residual-in_err-next-in-Region.ensures ∙ subst (λ (o : Option ℕ). lift Region o ≡ place_after c.args.at (children (shape_of c.args.self.now) d)) c.in_err-next-in-Region.was (region_sibling (shape_of c.args.self.now) c.args.at c.in-Region.region c.in-Region.is c.next-in-Region.result (seen_next_region _ c.args.self.now c.self.view_is c.in-Region.region c.next-in-Region.result c.next-in-Region.ensures) d i)

pub returns-in_ok-next-in-Region : goal.returns-in_ok-next-in-Region
returns-in_ok-next-in-Region g c d i = subst (λ (o : Option ℕ). lift Region o ≡ place_after c.args.at (children (shape_of c.args.self.now) d)) c.in_ok-next-in-Region.was (region_sibling (shape_of c.args.self.now) c.args.at c.in-Region.region c.in-Region.is c.next-in-Region.result (seen_next_region _ c.args.self.now c.self.view_is c.in-Region.region c.next-in-Region.result c.next-in-Region.ensures) d i)
