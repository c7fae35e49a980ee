-- What is dead inside an operation, as handles: a plan of what dead code elimination takes out.
use Rattle.std.specs.Prelude.{◌≡◌, ◌↔◌, ◌⊎◌, ℕ, true, length, map, Some, slice_get}
use Rattle.ir_program.specs.Program.{Program, TypedValue, OperationView, BlockView, operation_at, block_at}
use Rattle.ir_program.specs.Lists.{StandsInside}
use Rattle.ir_program.specs.Rows.{operands_at, successors_at}
use Rattle.ir_program.specs.declared.handles.IRNode.{IRNode}
use Rattle.ir_program.specs.declared.handles.IRNode.TheVariants.{Operation as OperationNode, BasicBlock as BlockNode}
use Rattle.ir_program.specs.declared.handles.DefiningEntity.TheVariants.{Block as ByBlock}
use Rattle.ir_program.specs.Erased.{definer_node}
use Rattle.ir_program.specs.declared.handles.Ptr.{Ptr}
use Rattle.ir_program.specs.declared.handles.Operation.{Operation}
use Rattle.ir_program.specs.declared.handles.BasicBlock.{BasicBlock}
use Rattle.ir_program.specs.declared.handles.Value.{Value}
use Rattle.ir_trees.specs.Searched.{Lists, AreDistinct}
use Rattle.ir_trees.specs.Stands.{by_handle, in_program, StandsFor, ProgramTree}
use Rattle.opt_trees.specs.Dialect.{Dialect}
use Rattle.opt_trees.specs.Dce.{TreeSurroundings, Gone, Whole, Slot, IsGoneExactly}
use Rattle.opt_dce.specs.declared.liveness.plan.DeadPlan.{DeadPlan}
use Rattle.opt_dce.specs.declared.liveness.plan.LostOperands.{LostOperands}
use Rattle.opt_dce.specs.declared.liveness.plan.DeadArguments.{DeadArguments}

-- a value is pinned where an operation that isn't inside the root takes it
pub record SaysPins {O B A : Type 0} (c : Program O B) (op : Ptr Operation) (w : TreeSurroundings by_handle A) : Type 0 where
  pub pinned : (v : Value) → (w.is_pinned v ≡ true) ↔ ((p : Ptr Operation) × (StandsInside c (OperationNode op) (OperationNode p) → ⊥) × Lists (operands_at c p) v)

module _ {O B : Type 0} (c : Program O B) (g : Gone by_handle) where
  -- it is in an operation that goes, or is one
  abbrev pub GoesWith : IRNode → Type 0
  GoesWith e = (a : Ptr Operation) × (g.item (Whole a) ≡ true) × StandsInside c (OperationNode a) e

  -- the value goes: what defines it goes, or it is an argument that does
  abbrev pub IsGoing : Value → Type 0
  IsGoing v = GoesWith (definer_node v.definer) ⊎ (g.item (Slot v) ≡ true)

  -- what goes is used by what goes alone, or at operands that go
  pub record UsesGo : Type 0 where
    pub values : (p : Ptr Operation) (k : ℕ) (v : Value) → slice_get (operands_at c p) k ≡ Some v → IsGoing v → GoesWith (OperationNode p) ⊎ (g.operand p k ≡ true)
    pub blocks : (p : Ptr Operation) (k : ℕ) (b : Ptr BasicBlock) → slice_get (successors_at c p) k ≡ Some b → GoesWith (BlockNode b) → GoesWith (OperationNode p)

-- the plan lists what goes: operations, each once; operations with operands that go, and which; blocks with arguments that go, and which
pub record IsPlan {O B : Type 0} (c : Program O B) (g : Gone by_handle) (plan : DeadPlan) : Type 0 where
  pub operations : (p : Ptr Operation) → Lists plan.operations.items p ↔ (g.item (Whole p) ≡ true)
  pub operations_once : AreDistinct plan.operations.items
  pub operands : (l : LostOperands) → Lists plan.operands.items l → (i : ℕ) → (slice_get l.marks.items i ≡ Some true) ↔ (g.operand l.op i ≡ true)
  pub operand_count : (l : LostOperands) (v : OperationView O) → Lists plan.operands.items l → operation_at c l.op ≡ Some v → length l.marks.items ≡ length v.operands
  pub all_operands : (p : Ptr Operation) (i : ℕ) → g.operand p i ≡ true → (l : LostOperands) × Lists plan.operands.items l × (l.op ≡ p)
  pub operands_once : (j k : ℕ) (l m : LostOperands) → slice_get plan.operands.items j ≡ Some l → slice_get plan.operands.items k ≡ Some m → l.op ≡ m.op → j ≡ k
  pub arguments : (a : DeadArguments) (v : BlockView B) → Lists plan.arguments.items a → block_at c a.block ≡ Some v → (length a.marks.items ≡ length v.arguments) × ((i : ℕ) (x : Value) → slice_get (map (λ (x : TypedValue). x.value) v.arguments) i ≡ Some x → (slice_get a.marks.items i ≡ Some true) ↔ (g.item (Slot x) ≡ true))
  pub all_arguments : (v : Value) → g.item (Slot v) ≡ true → (a : DeadArguments) × Lists plan.arguments.items a × (v.definer ≡ ByBlock a.block)
  pub arguments_once : (j k : ℕ) (a b : DeadArguments) → slice_get plan.arguments.items j ≡ Some a → slice_get plan.arguments.items k ≡ Some b → a.block ≡ b.block → j ≡ k
  -- all of it is there
  pub operations_live : (p : Ptr Operation) → g.item (Whole p) ≡ true → (v : OperationView O) × (operation_at c p ≡ Some v)
  pub blocks_live : (a : DeadArguments) → Lists plan.arguments.items a → (v : BlockView B) × (block_at c a.block ≡ Some v)
  pub operands_live : (l : LostOperands) → Lists plan.operands.items l → (v : OperationView O) × (operation_at c l.op ≡ Some v)

-- what is dead in each tree that the operation stands for, and the plan of it
pub record IsDeadPlan {O B A : Type 0} (d : Dialect (in_program O B) A) (c : Program O B) (op : Ptr Operation) (plan : DeadPlan) (t : ProgramTree O B) : Type 0 where
  pub around : TreeSurroundings by_handle A
  pub pins : SaysPins c op around
  pub gone : Gone by_handle
  pub is_gone : StandsFor c op t → IsGoneExactly d around t gone
  -- so with any other context that pins these values
  pub is_gone_with : (w : TreeSurroundings by_handle A) → SaysPins c op w → StandsFor c op t → IsGoneExactly d w t gone
  pub plan_of : IsPlan c gone plan
  pub uses : UsesGo c gone
