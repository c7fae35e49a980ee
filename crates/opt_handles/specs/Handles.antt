-- What becomes of handles where a pass changes a program below an operation, its root.
use Rattle.std.specs.Prelude.{◌⊎◌}
use Rattle.ir_program.specs.Edits.{KeepsErased}
use Rattle.ir_program.specs.Erased.{IsGone}
use Rattle.ir_program.specs.Lists.{StandsInside, IsLiveNode}
use Rattle.ir_program.specs.Program.{Program}
use Rattle.ir_program.specs.declared.handles.IRNode.{IRNode}
use Rattle.ir_program.specs.declared.handles.IRNode.TheVariants.{Operation as OperationNode}
use Rattle.ir_program.specs.declared.handles.Operation.{Operation}
use Rattle.ir_program.specs.declared.handles.Ptr.{Ptr}

module _ {O B : Type 0} where
  -- A handle of something that was erased before leads nowhere afterwards either. And each operation, block and region
  -- inside the root is inside it still, or is erased: its handle leads nowhere, and never will.
  pub record KeepsHandles (old new : Program O B) (op : Ptr Operation) : Type 0 where
    pub erased : KeepsErased old new
    pub inside : (e : IRNode) → StandsInside old (OperationNode op) e
        → StandsInside new (OperationNode op) e ⊎ IsGone new e

-- what is there now and wasn't before has a handle that was never given out: it is none of something erased
abbrev pub NewHandlesAreFresh : Type 0 → Type 0 → Type 0
NewHandlesAreFresh O B = (old new : Program O B) (op : Ptr Operation) → KeepsHandles old new op
    → (e : IRNode) → IsLiveNode new e → (IsLiveNode old e → ⊥) → IsGone old e → ⊥

-- handles that two passes keep, one after the other, are kept by both together
abbrev pub HandlesCompose : Type 0 → Type 0 → Type 0
HandlesCompose O B = (old mid new : Program O B) (op : Ptr Operation) → KeepsHandles old mid op → KeepsHandles mid new op
    → KeepsHandles old new op
