-- Edges that lead into a module from outside.
use Rattle.ir_program.specs.Lists.{StandsInside}
use Rattle.ir_program.specs.Program.{Program}
use Rattle.ir_program.specs.Rows.{successors_at}
use Rattle.ir_program.specs.declared.handles.BasicBlock.{BasicBlock}
use Rattle.ir_program.specs.declared.handles.IRNode.TheVariants.{Operation as OperationNode}
use Rattle.ir_program.specs.declared.handles.Operation.{Operation}
use Rattle.ir_program.specs.declared.handles.Ptr.{Ptr}
use Rattle.ir_trees.specs.Searched.{Lists}
use Rattle.kit.specs.Context.{KitContext}
use Rattle.opt_inside.specs.Occurring.{IsBlockBelow}

-- some operation that isn't inside the root leads to the block
abbrev pub IsEnteredOutside : {O B : Type 0} → Program O B → Ptr Operation → Ptr BasicBlock → Type 0
IsEnteredOutside c root b = (p : Ptr Operation) × (StandsInside c (OperationNode root) (OperationNode p) → ⊥)
    × Lists (successors_at c p) b

-- no operation outside the root leads to a block inside it
abbrev pub IsEnteredNowhere : KitContext → Ptr Operation → Type 0
IsEnteredNowhere s root = (b : Ptr BasicBlock) → IsBlockBelow s.program root b → IsEnteredOutside s.program root b → ⊥
