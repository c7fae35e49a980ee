use Rattle.ir_entities.specs.Forest.{shape_of}
use Rattle.ir_program.proofs.used.UserWalks.{AreSeen}
use Rattle.ir_program.proofs.users.users_inside.Given as goal

abbrev pub invariant-loop-place : goal.invariant-loop-place
invariant-loop-place g l = AreSeen (shape_of l.forest) l.x l.uses l.thread l.place-iterator
