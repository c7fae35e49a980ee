use Rattle.std.proofs.Common.{◌≡◌, ℕ, ◌<◌, Some, slice_get}
use Rattle.ir_entities.specs.Forest.{shape_of}
use Rattle.ir_program.specs.UsersInside.{AreUsersInside}
use Rattle.ir_program.specs.declared.records.Definition.{Definition}
use Rattle.ir_program.proofs.users.all_users_inside.Given as goal

abbrev pub invariant-loop-definition : goal.invariant-loop-definition
invariant-loop-definition g l = (j : ℕ) (d : Definition) → j < l.definition-index → slice_get l.definitions j ≡ Some d → AreUsersInside (shape_of l.forest) l.x l.values d.thread
