use Rattle.ir_program.proofs.made.Held.{last_held_slot, rest_held_slots}
use Rattle.ir_program.proofs.listing.BlocksDoubleEndedIterator.next_back.Goals as goal

pub block_in-requires : goal.block_in-requires
block_in-requires g c = last_held_slot c.self.inside.program.now.forest.blocks _ _ c.in_ok-slot.slot c.in_ok-slot.ensures.steps c.self.invariant

pub invariant_of-self-2 : goal.invariant_of-self-2
invariant_of-self-2 g c = rest_held_slots c.self.inside.program.now.forest.blocks _ _ c.in_ok-slot.slot c.in_ok-slot.ensures.steps c.self.invariant
