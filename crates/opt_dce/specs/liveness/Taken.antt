-- What is taken by marks: operations, operands and arguments, each at most once.
use Rattle.std.specs.Prelude.{◌≡◌, ◌↔◌, ◌⊎◌, ℕ, Bool, true, List, [], ◌∷◌, ◌++◌, length, Some, slice_get}
use Rattle.ir_program.specs.Program.{Program, arguments_at, argument_count, value_in}
use Rattle.ir_program.specs.declared.handles.Ptr.{Ptr}
use Rattle.ir_program.specs.declared.handles.Operation.{Operation}
use Rattle.ir_program.specs.declared.handles.BasicBlock.{BasicBlock}
use Rattle.ir_program.specs.declared.handles.Value.{Value}
use Rattle.ir_trees.specs.Searched.{Lists}
use Rattle.opt_rows.specs.declared.dead_problem.Operand.{Operand}
use Rattle.opt_rows.specs.DeadCandidates.{Candidate}
use Rattle.opt_rows.specs.declared.dead_problem.DeadProblem.{DeadProblem}
use Rattle.opt_rows.specs.declared.dead_problem.DeadItems.{DeadItems}
use Rattle.opt_inside.specs.Numbered.{Numbers}
use Rattle.opt_dce.specs.declared.liveness.plan.DeadPlan.{DeadPlan}
use Rattle.opt_dce.specs.declared.liveness.plan.LostOperands.{LostOperands}
use Rattle.opt_dce.specs.declared.liveness.plan.DeadArguments.{DeadArguments}

-- there is a mark at this index
abbrev pub HasMarkAt : List Bool → ℕ → Type 0
HasMarkAt marks k = slice_get marks k ≡ Some true

-- the two lists have these at one index
abbrev pub ArePaired : {X Y : Type 0} → List X → List Y → X → Y → Type 0
ArePaired xs ys x y = (k : ℕ) × (slice_get xs k ≡ Some x) × (slice_get ys k ≡ Some y)

-- a row for each key that is wanted, each once
pub record Picks {X R : Type 0} (name : R → X) (Is : R → Type 0) (Wanted : X → Type 0) (keys : List X) (rows : List R) : Type 0 where
  pub sound : (r : R) → Lists rows r → Lists keys (name r) × Is r × Wanted (name r)
  pub all : (x : X) → Lists keys x → Wanted x → (r : R) × Lists rows r × (name r ≡ x)
  pub once : (i j : ℕ) (r s : R) → slice_get rows i ≡ Some r → slice_get rows j ≡ Some s → name r ≡ name s → i ≡ j

-- a row of this key comes to the list where it is wanted
abbrev pub TakesIf : {X R : Type 0} → (R → X) → (R → Type 0) → X → Type 0 → List R → List R → Type 0
TakesIf {X} {R} name Is x wanted old new = (wanted × ((r : R) × (name r ≡ x) × Is r × (new ≡ old ++ r ∷ []))) ⊎ ((wanted → ⊥) × (new ≡ old))

-- the operand at this index goes to a marked argument
abbrev pub OperandGoes : List Operand → List Bool → ℕ → Type 0
OperandGoes operands arguments i = (o : Operand) × (x : ℕ) × (slice_get operands i ≡ Some o) × (o.argument ≡ Some x) × HasMarkAt arguments x

-- of each operand, whether it goes to a marked argument
pub record AreLost (operands : List Operand) (arguments goes : List Bool) : Type 0 where
  pub len : length goes ≡ length operands
  pub marks : (i : ℕ) → HasMarkAt goes i ↔ OperandGoes operands arguments i

-- the value's number is marked
abbrev pub ArgumentGoes : Numbers → List Bool → Value → Type 0
ArgumentGoes n arguments v = (x : ℕ) × (slice_get n.values x ≡ Some v) × HasMarkAt arguments x

-- of each argument of the block, whether its number is marked
pub record AreGoing {O B : Type 0} (c : Program O B) (n : Numbers) (arguments : List Bool) (b : Ptr BasicBlock) (goes : List Bool) : Type 0 where
  pub len : length goes ≡ argument_count c b
  pub marks : (i : ℕ) (v : Value) → value_in (arguments_at c b) i ≡ Some v → HasMarkAt goes i ↔ ArgumentGoes n arguments v

-- an argument of the block goes
abbrev pub HasGoing : {O B : Type 0} → Program O B → Numbers → List Bool → Ptr BasicBlock → Type 0
HasGoing c n arguments b = (i : ℕ) × (v : Value) × (value_in (arguments_at c b) i ≡ Some v) × ArgumentGoes n arguments v

module _ (n : Numbers) (rows : List Candidate) (arguments : List Bool) where
  -- an operand of the operation goes
  abbrev pub LosesSome : Ptr Operation → Type 0
  LosesSome p = (row : Candidate) × ArePaired n.operations rows p row × ((i : ℕ) × OperandGoes row.operands arguments i)

  -- the marks are those of its operands
  abbrev pub IsLoss : LostOperands → Type 0
  IsLoss l = (row : Candidate) → ArePaired n.operations rows l.op row → AreLost row.operands arguments l.marks.items

-- the operation that loses operands
abbrev pub op_of : LostOperands → Ptr Operation
op_of l = l.op

-- the block that loses arguments
abbrev pub block_of : DeadArguments → Ptr BasicBlock
block_of a = a.block

-- a row that is its own key
abbrev pub same : {X : Type 0} → X → X
same x = x

-- the operations with a mark
abbrev pub AreDeadOperations : Numbers → List Bool → List (Ptr Operation) → Type 0
AreDeadOperations n marks dead = Picks same (λ p. Unit {0}) (λ p. ArePaired n.operations marks p true) n.operations dead

-- the operands that go to marked arguments, by their operations
abbrev pub AreLostOperands : Numbers → List Candidate → List Bool → List LostOperands → Type 0
AreLostOperands n rows arguments lost = Picks op_of (IsLoss n rows arguments) (LosesSome n rows arguments) n.operations lost

module _ {O B : Type 0} (c : Program O B) (n : Numbers) (arguments : List Bool) where
  -- the marks are those of the block's arguments
  abbrev pub IsGoing : DeadArguments → Type 0
  IsGoing a = AreGoing c n arguments a.block a.marks.items

  -- the arguments with a mark, by their blocks
  abbrev pub AreDeadArguments : List DeadArguments → Type 0
  AreDeadArguments dead = Picks block_of IsGoing (HasGoing c n arguments) n.blocks dead

-- the operation comes to the list where it goes
abbrev pub TakesOperation : Ptr Operation → Bool → List (Ptr Operation) → List (Ptr Operation) → Type 0
TakesOperation op goes old new = TakesIf same (λ p. Unit {0}) op (goes ≡ true) old new

-- the operation comes to the list with the marks of its operands, where one of these goes
abbrev pub TakesLost : Ptr Operation → List Operand → List Bool → List LostOperands → List LostOperands → Type 0
TakesLost op operands arguments old new =
    TakesIf op_of (λ l. AreLost operands arguments l.marks.items) op ((i : ℕ) × OperandGoes operands arguments i) old new

module _ {O B : Type 0} (c : Program O B) (n : Numbers) (arguments : List Bool) where
  -- the block comes to the list with the marks of its arguments, where one of these goes
  abbrev pub TakesArguments : Ptr BasicBlock → List DeadArguments → List DeadArguments → Type 0
  TakesArguments b old new = TakesIf block_of (IsGoing c n arguments) b (HasGoing c n arguments b) old new

-- the plan has what the marks say
pub record TakesMarked {O B : Type 0} (c : Program O B) (n : Numbers) (problem : DeadProblem) (items : DeadItems) (plan : DeadPlan) : Type 0 where
  pub operations : AreDeadOperations n items.operations.items plan.operations.items
  pub operands : AreLostOperands n problem.operations items.arguments.items plan.operands.items
  pub arguments : AreDeadArguments c n items.arguments.items plan.arguments.items
