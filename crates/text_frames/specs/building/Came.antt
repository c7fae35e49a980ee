-- How the loose things change while more is made.
use Rattle.std.specs.Prelude.{◌≡◌, ◌⊎◌, ℕ, List, Some, slice_get}
use Rattle.ir_program.specs.declared.handles.IRNode.{IRNode}
use Rattle.ir_program.specs.declared.handles.IRNode.TheVariants.{Operation as OperationNode, BasicBlock as BlockNode}
use Rattle.ir_program.specs.declared.handles.Ptr.{Ptr}
use Rattle.ir_program.specs.declared.handles.Operation.{Operation}
use Rattle.ir_program.specs.declared.handles.BasicBlock.{BasicBlock}

-- x is one of these
abbrev pub IsAmong : IRNode → List IRNode → Type 0
IsAmong x xs = (k : ℕ) × (slice_get xs k ≡ Some x)

-- the second has what the first has, in any order, and x
pub record OneMore (xs ys : List IRNode) (x : IRNode) : Type 0 where
  pub front : (y : IRNode) → IsAmong y xs → IsAmong y ys
  pub new : IsAmong x ys
  pub from : (y : IRNode) → IsAmong y ys → IsAmong y xs ⊎ (y ≡ x)

-- the second has what the first has, in any order, but for the operation p; both have the block b
pub record Attached (xs ys : List IRNode) (b : Ptr BasicBlock) (p : Ptr Operation) : Type 0 where
  pub was_open : IsAmong (BlockNode b) xs
  pub was_loose : IsAmong (OperationNode p) xs
  pub stays : IsAmong (BlockNode b) ys
  pub but_one : (y : IRNode) → IsAmong y xs → IsAmong y ys ⊎ (y ≡ OperationNode p)
  pub from : (y : IRNode) → IsAmong y ys → IsAmong y xs

-- the second has what the first has, in any order, but for blocks of these lists, and the operation p; the first has
-- the blocks
pub record TakenIn (xs ys : List IRNode) (p : Ptr Operation) (bss : List (List (Ptr BasicBlock))) : Type 0 where
  pub blocks : (i k : ℕ) (bs : List (Ptr BasicBlock)) (b : Ptr BasicBlock) → slice_get bss i ≡ Some bs
      → slice_get bs k ≡ Some b → IsAmong (BlockNode b) xs
  pub new : IsAmong (OperationNode p) ys
  pub stays_or_in : (y : IRNode) → IsAmong y xs
      → IsAmong y ys
      ⊎ ((i : ℕ) × (k : ℕ) × (bs : List (Ptr BasicBlock)) × (b : Ptr BasicBlock) × (slice_get bss i ≡ Some bs)
      × (slice_get bs k ≡ Some b) × (y ≡ BlockNode b))
  pub from : (y : IRNode) → IsAmong y ys → IsAmong y xs ⊎ (y ≡ OperationNode p)
