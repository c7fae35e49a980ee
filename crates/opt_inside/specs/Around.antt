-- What a program says beside the trees of an operation.
use Rattle.std.specs.Prelude.{◌≡◌, ◌↔◌, ℕ, Bool, true, map, Option, Some, None, slice_get, if◌then◌else◌}
use Rattle.ir_program.specs.Lists.{StandsInside}
use Rattle.ir_program.specs.Program.{Program, TypedValue, OperationView, BlockView, operation_at, block_at}
use Rattle.ir_program.specs.Rows.{operands_at}
use Rattle.ir_program.specs.declared.handles.IRNode.TheVariants.{Operation as OperationNode}
use Rattle.ir_program.specs.declared.handles.Ptr.{Ptr}
use Rattle.ir_program.specs.declared.handles.Operation.{Operation}
use Rattle.ir_program.specs.declared.handles.BasicBlock.{BasicBlock}
use Rattle.ir_program.specs.declared.handles.Value.{Value}
use Rattle.ir_trees.specs.Searched.{Lists}
use Rattle.ir_trees.specs.Stands.{by_handle, in_program}
use Rattle.opt_trees.specs.Dialect.{Dialect}
use Rattle.opt_trees.specs.Dce.{TreeSurroundings}
use Rattle.opt_inside.specs.Numbered.{values_in}

-- what a result of an operation folds to with no operand known
abbrev pub or_none : {A : Type 0} → Option (Option A) → Option A
or_none None = None
or_none (Some x) = x

abbrev pub folded_alone : {O B A : Type 0} → Dialect (in_program O B) A → OperationView O → ℕ → Option A
folded_alone d o i = if d.is_foldable o.payload then or_none (slice_get (d.fold o.payload (map (λ (r : TypedValue). r.ty) o.results) (map (λ (v : Value). None) o.operands)) i) else None

-- an operation outside the root takes the value
abbrev pub IsTakenOutside : {O B : Type 0} → Program O B → Ptr Operation → Value → Type 0
IsTakenOutside c op v = (p : Ptr Operation) × (StandsInside c (OperationNode op) (OperationNode p) → ⊥) × Lists (operands_at c p) v

-- it can be told of each value whether one does
abbrev pub CanTellTaken : {O B : Type 0} → Program O B → Ptr Operation → Type 0
CanTellTaken c op = (f : Value → Bool) × ((v : Value) → (f v ≡ true) ↔ IsTakenOutside c op v)

-- which values are taken outside the root, and what values are known to be by their definers alone
pub record SaysAround {O B A : Type 0} (d : Dialect (in_program O B) A) (c : Program O B) (op : Ptr Operation) (w : TreeSurroundings by_handle A) : Type 0 where
  pub pinned : (v : Value) → (w.is_pinned v ≡ true) ↔ IsTakenOutside c op v
  pub result : (p : Ptr Operation) (o : OperationView O) (i : ℕ) (v : Value) → operation_at c p ≡ Some o → slice_get (values_in o.results) i ≡ Some v → w.alone v ≡ folded_alone d o i
  pub argument : (b : Ptr BasicBlock) (x : BlockView B) (v : Value) → block_at c b ≡ Some x → Lists (values_in x.arguments) v → w.alone v ≡ None
