-- The users that stand in a list of uses.
use Rattle.std.proofs.Common.{◌≡◌, Option, None, Some, [], slice_get, option_map, unwrap_or, refl}
use Rattle.std.specs.Prelude.{IsSome}
use Rattle.ir_program.specs.Program.{Program, OperationView, operation_at}
use Rattle.ir_program.specs.Uses.{IsBlockUse}
use Rattle.ir_program.specs.declared.handles.BasicBlock.{BasicBlock}
use Rattle.ir_program.specs.declared.handles.Ptr.{Ptr}
use Rattle.ir_program.specs.declared.handles.Use.{Use}

pub user_live : {O B : Type 0} (c : Program O B) (u : Use (Ptr BasicBlock)) → IsBlockUse c u → IsSome (operation_at c u.user_op)
user_live {O} {B} c u given = by (operation_at c u.user_op) given
  where
    by : (o : Option (OperationView O)) → slice_get (unwrap_or (option_map (λ (v : OperationView O). v.successors) o) []) u.index ≡ Some u.def → IsSome o
    by None e = cc
    by (Some v) e = refl
