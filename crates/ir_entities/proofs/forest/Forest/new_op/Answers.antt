use Rattle.std.proofs.Common.{arith}
use Rattle.ir_entities.proofs.Trees.{held_kept}
use Rattle.ir_entities.proofs.Made.{ops_grown, made_bare}
use Rattle.ir_entities.proofs.forest.Forest.new_op.Goals as goal

pub invariant_of-self : goal.invariant_of-self
invariant_of-self g c = ops_grown _ c.self.inside.ops c.make_slot.new.nodes c.make_slot.new.lists c.self.invariant c.make_slot.ensures.same
    (omega (arith, c.make_slot.ensures.kept, c.self.invariant.ops.nodes)) c.make_slot.ensures.lists (omega (arith, c.make_slot.ensures.lists_kept, c.self.invariant.regions.lists_made)) c.make_slot.ensures.nodes (λ i h. h)

pub invariant_of-self-2 : goal.invariant_of-self-2
invariant_of-self-2 g c = ops_grown _ c.alloc.new.self c.make_slot.new.nodes c.make_slot.new.lists c.self.invariant c.make_slot.ensures.same
    (omega (arith, c.in_ok-make_slot.ensures.made, c.alloc.ensures.by_one, c.slots-slots.ensures)) c.make_slot.ensures.lists (omega (arith, c.in_ok-make_slot.ensures.list_made, c.alloc.ensures.by_one, c.slots-slots.ensures)) c.make_slot.ensures.nodes
    (held_kept c.alloc.result c.self.inside.ops c.alloc.new.self c.args.op c.alloc.ensures.slot c.alloc.ensures.err)

pub returns-clause-bare : goal.returns-clause-bare
returns-clause-bare g c = made_bare c.alloc.result c.self.inside.ops c.alloc.new.self c.self.inside.regions c.self.inside.in_ops c.make_slot.new.lists c.args.op c.self.invariant.regions c.make_slot.ensures.lists c.alloc.ensures.slot
