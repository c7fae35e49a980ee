-- The rows of an operation: the values that it takes, and the blocks that it may go on to.
use Rattle.std.specs.Prelude.{List, [], option_map, unwrap_or}
use Rattle.ir_program.specs.Program.{Program, OperationView, operation_at}
use Rattle.ir_program.specs.declared.handles.Ptr.{Ptr}
use Rattle.ir_program.specs.declared.handles.Operation.{Operation}
use Rattle.ir_program.specs.declared.handles.BasicBlock.{BasicBlock}
use Rattle.ir_program.specs.declared.handles.Value.{Value}

module _ {O B : Type 0} where
  -- the operands of an operation, none where it is not there
  abbrev pub operands_at : Program O B → Ptr Operation → List Value
  operands_at c p = unwrap_or (option_map (λ (o : OperationView O). o.operands) (operation_at c p)) []

  -- its successors, none where it is not there
  abbrev pub successors_at : Program O B → Ptr Operation → List (Ptr BasicBlock)
  successors_at c p = unwrap_or (option_map (λ (o : OperationView O). o.successors) (operation_at c p)) []
