-- What a numbered problem says of the operation that it is made of: operations and values inside it by their numbers.
use Rattle.std.specs.Prelude.{◌≡◌, ◌↔◌, ◌⊎◌, ◌<◌, ℕ, Bool, true, false, List, length, Option, Some, None, IsSome, slice_get, Contains}
use Rattle.ir_program.specs.Program.{Program, OperationView, IsLiveValue, operation_at, block_at, arguments_at, value_in}
use Rattle.ir_program.specs.Lists.{StandsInBlock, StandsInRegion, StandsInOperation, StandsInside}
use Rattle.ir_program.specs.Rows.{operands_at}
use Rattle.ir_program.specs.declared.handles.IRNode.TheVariants.{Operation as OperationNode}
use Rattle.ir_program.specs.declared.handles.DefiningEntity.TheVariants.{Op as ByOp, Block as ByBlock}
use Rattle.ir_program.specs.declared.handles.Ptr.{Ptr}
use Rattle.ir_program.specs.declared.handles.Operation.{Operation}
use Rattle.ir_program.specs.declared.handles.Region.{Region}
use Rattle.ir_program.specs.declared.handles.BasicBlock.{BasicBlock}
use Rattle.ir_program.specs.declared.handles.Value.{Value}
use Rattle.ir_trees.specs.Searched.{Lists}
use Rattle.ir_trees.specs.Stands.{in_program}
use Rattle.opt_trees.specs.Dialect.{Dialect}
use Rattle.opt_dialect.specs.Removable.{IsRemovable}
use Rattle.opt_rows.specs.declared.dead_problem.Definer.{Definer}
use Rattle.opt_rows.specs.declared.dead_problem.Definer.TheVariants.{Result, Argument as ByArgument, Outside}
use Rattle.opt_rows.specs.declared.dead_problem.Operand.{Operand}
use Rattle.opt_rows.specs.DeadCandidates.{Candidate}
use Rattle.opt_rows.specs.declared.dead_problem.Argument.{Argument}
use Rattle.opt_rows.specs.declared.dead_problem.DeadProblem.{DeadProblem}
use Rattle.opt_inside.specs.Numbered.{Numbers}

-- the number of x among these, where it has one
pub record IsNumberAmong {X : Type 0} (keys : List X) (x : X) (o : Option ℕ) : Type 0 where
  pub found : (i : ℕ) → o ≡ Some i → slice_get keys i ≡ Some x
  pub none : o ≡ None → Lists keys x → ⊥

-- what defines the value, by numbers: an operation inside, by its own number; an argument of a block inside, by the number that it has among the values
abbrev pub IsDefiner : Numbers → Value → Definer → Type 0
IsDefiner n v (Result a) = (p : Ptr Operation) × (v.definer ≡ ByOp p) × (slice_get n.operations a ≡ Some p)
IsDefiner n v (ByArgument k) = (b : Ptr BasicBlock) × (v.definer ≡ ByBlock b) × (slice_get n.values k ≡ Some v)
IsDefiner n v Outside = ((p : Ptr Operation) → v.definer ≡ ByOp p → Lists n.operations p → ⊥) × ((b : Ptr BasicBlock) → v.definer ≡ ByBlock b → Lists n.values v → ⊥)

-- the list has what defines these values, and nothing else
pub record ListsDefiners (n : Numbers) (Of : Value → Type 0) (kept : List Definer) : Type 0 where
  pub sound : (x : Definer) → Contains kept x → (v : Value) × Of v × IsDefiner n v x
  pub all : (v : Value) → Of v → (x : Definer) × Contains kept x × IsDefiner n v x

module _ {O B : Type 0} (c : Program O B) where
  -- a region of the operation has the block
  pub record HoldsBlock (q : Ptr Operation) (b : Ptr BasicBlock) : Type 0 where
    pub region : Ptr Region
    pub in_region : StandsInRegion c b region
    pub in_operation : StandsInOperation c region q

  -- the number of the operation that has the block, where this one has a number
  pub record IsNumberOfHolder (n : Numbers) (b : Ptr BasicBlock) (o : Option ℕ) : Type 0 where
    pub found : (j : ℕ) → o ≡ Some j → (q : Ptr Operation) × HoldsBlock q b × (slice_get n.operations j ≡ Some q)
    pub none : o ≡ None → (q : Ptr Operation) → HoldsBlock q b → Lists n.operations q → ⊥

  -- the number of the operation that has the block in which the operation stands, where this one has a number
  abbrev pub IsAroundOperation : Numbers → Ptr Operation → Option ℕ → Type 0
  IsAroundOperation n p o = (b : Ptr BasicBlock) → StandsInBlock c p b → IsNumberOfHolder n b o

  -- an operation that isn't inside the root takes the value
  abbrev pub IsPinned : Ptr Operation → Value → Type 0
  IsPinned op v = (p : Ptr Operation) × (StandsInside c (OperationNode op) (OperationNode p) → ⊥) × Lists (operands_at c p) v

module _ {O B : Type 0} (c : Program O B) (n : Numbers) where
  -- the value is one of the root's operands, or it is inside and is used from outside
  abbrev pub IsKeptValue : Ptr Operation → Value → Type 0
  IsKeptValue op v = Lists (operands_at c op) v ⊎ (Lists n.values v × IsPinned c op v)

  -- what defines these values is kept, and nothing else
  abbrev pub AreKept : Ptr Operation → List Definer → Type 0
  AreKept op kept = ListsDefiners n (IsKeptValue op) kept

  -- x is the number of the block's argument at this place
  pub record HasNumberAt (b : Ptr BasicBlock) (place x : ℕ) : Type 0 where
    pub argument : Value
    pub takes : value_in (arguments_at c b) place ≡ Some argument
    pub number : slice_get n.values x ≡ Some argument

module _ {O B A : Type 0} (d : Dialect (in_program O B) A) (c : Program O B) where
  -- the operation is a branch
  abbrev pub IsBranch : Ptr Operation → Type 0
  IsBranch p = (view : OperationView O) → operation_at c p ≡ Some view → d.is_branch view.payload ≡ true

  -- nothing but uses keeps the operation exactly where this is true: it has no side effects, and ends no block
  abbrev pub SaysMayGo : Ptr Operation → Bool → Type 0
  SaysMayGo p may_go = (view : OperationView O) → operation_at c p ≡ Some view → (may_go ≡ true) ↔ ((d.has_effects view.payload ≡ false) × (d.is_terminator view.payload ≡ false))

  -- each edge to the block comes from a branch
  abbrev pub HasBranchesOnly : Ptr BasicBlock → Type 0
  HasBranchesOnly b = (p : Ptr Operation) (view : OperationView O) → operation_at c p ≡ Some view → Lists view.successors b → d.is_branch view.payload ≡ true

  module _ (n : Numbers) where
    -- what is said of each argument of the block
    pub record IsBlockRow (b : Ptr BasicBlock) (row : Argument) : Type 0 where
      pub may_go : (row.may_go ≡ true) ↔ (IsRemovable d c b × HasBranchesOnly b)
      pub around : IsNumberOfHolder c n b row.around

    -- what is said of the value: a result never goes as an argument does
    pub record IsValueRow (v : Value) (row : Argument) : Type 0 where
      pub result : (p : Ptr Operation) → v.definer ≡ ByOp p → (row.may_go ≡ false) × (row.around ≡ None)
      pub argument : (b : Ptr BasicBlock) → v.definer ≡ ByBlock b → IsBlockRow b row

    -- so of the blocks, by their numbers
    abbrev pub AreBlockRows : List Argument → Type 0
    AreBlockRows rows = (k : ℕ) (b : Ptr BasicBlock) (row : Argument) → slice_get n.blocks k ≡ Some b →
        slice_get rows k ≡ Some row → IsBlockRow b row

    -- so of the values, by their numbers
    abbrev pub AreValueRows : List Argument → Type 0
    AreValueRows rows = (k : ℕ) (v : Value) (row : Argument) → slice_get n.values k ≡ Some v →
        slice_get rows k ≡ Some row → IsValueRow v row

    -- the operation is a branch and forwards its operand at k to the argument with number x
    pub record Forwards (p : Ptr Operation) (k x : ℕ) : Type 0 where
      pub view : OperationView O
      pub there : operation_at c p ≡ Some view
      pub branch : d.is_branch view.payload ≡ true
      pub edge : ℕ
      pub target : Ptr BasicBlock
      pub leads : slice_get view.successors edge ≡ Some target
      pub place : ℕ
      pub gives : slice_get (d.forwards view.payload (length view.operands) edge) place ≡ Some k
      pub takes : HasNumberAt c n target place x

    -- an operand with a target is forwarded to it
    abbrev pub AreForwardTargets : Ptr Operation → List (Option ℕ) → Type 0
    AreForwardTargets p targets = (k x : ℕ) → slice_get targets k ≡ Some (Some x) → Forwards p k x

    -- an operand without a target is forwarded to no argument that has a number
    abbrev pub OthersStay : Ptr Operation → List (Option ℕ) → Type 0
    OthersStay p targets = (k x : ℕ) → slice_get targets k ≡ Some None → Forwards p k x → ⊥

    -- what is said of the operand at k of the operation
    pub record IsOperandOf (p : Ptr Operation) (k : ℕ) (o : Operand) : Type 0 where
      pub value : Value
      pub there : slice_get (operands_at c p) k ≡ Some value
      pub definer : IsDefiner n value o.definer
      pub argument : (x : ℕ) → o.argument ≡ Some x → Forwards p k x
      pub no_argument : o.argument ≡ None → (x : ℕ) → Forwards p k x → ⊥

    -- so of all its operands
    abbrev pub AreOperandsOf : Ptr Operation → List Operand → Type 0
    AreOperandsOf p operands = (k : ℕ) (o : Operand) → slice_get operands k ≡ Some o → IsOperandOf p k o

    -- what is said of the operation
    pub record IsCandidate (p : Ptr Operation) (row : Candidate) : Type 0 where
      pub view : OperationView O
      pub there : operation_at c p ≡ Some view
      pub may_go : (row.may_go ≡ true) ↔ ((d.has_effects view.payload ≡ false) × (d.is_terminator view.payload ≡ false))
      pub around : IsAroundOperation c n p row.around
      pub count : length row.operands ≡ length (operands_at c p)
      pub operands : AreOperandsOf p row.operands

    -- so of the operations, by their numbers
    abbrev pub AreCandidates : List Candidate → Type 0
    AreCandidates rows = (i : ℕ) (p : Ptr Operation) (row : Candidate) → slice_get n.operations i ≡ Some p →
        slice_get rows i ≡ Some row → IsCandidate p row

    -- each number has the row of the operation or value with this number
    pub record IsProblemOf (op : Ptr Operation) (problem : DeadProblem) : Type 0 where
      pub operations_len : length problem.operations ≡ length n.operations
      pub operations : AreCandidates problem.operations
      pub arguments_len : length problem.arguments.items ≡ length n.values
      pub arguments : AreValueRows problem.arguments.items
      pub kept : AreKept c n op problem.kept.items

-- of operands, the number of the argument that each goes to, if it goes to one
abbrev pub Targets : Type 0
Targets = List (Option ℕ)

-- the new targets are the old ones, but that operands that go to an argument have one
pub record Notes (To : ℕ → ℕ → Type 0) (old new : Targets) : Type 0 where
  pub len : length new ≡ length old
  pub sound : (k x : ℕ) → slice_get new k ≡ Some (Some x) → (slice_get old k ≡ Some (Some x)) ⊎ To k x
  pub kept : (k x : ℕ) → slice_get old k ≡ Some (Some x) → (y : ℕ) × (slice_get new k ≡ Some (Some y))
  pub noted : (k x : ℕ) → To k x → k < length old → (y : ℕ) × (slice_get new k ≡ Some (Some y))

module _ {O B : Type 0} (c : Program O B) (n : Numbers) where
  -- the operand k goes to the argument x, where the operands with these indices go to the arguments of the block in order
  abbrev pub GoesAlong : Ptr BasicBlock → List ℕ → ℕ → ℕ → Type 0
  GoesAlong b indices k x = (place : ℕ) × (slice_get indices place ≡ Some k) × HasNumberAt c n b place x

  -- the operand at the index goes to the block's argument at the place
  abbrev pub GoesAt : Ptr BasicBlock → ℕ → ℕ → ℕ → ℕ → Type 0
  GoesAt b place index k x = (k ≡ index) × HasNumberAt c n b place x

  -- all that has a number is there
  pub record AreThere : Type 0 where
    pub operations : (p : Ptr Operation) → Lists n.operations p → IsSome (operation_at c p)
    pub blocks : (b : Ptr BasicBlock) → Lists n.blocks b → IsSome (block_at c b)
    pub values : (v : Value) → Lists n.values v → IsLiveValue c v
    pub definers : (v : Value) (b : Ptr BasicBlock) → Lists n.values v → v.definer ≡ ByBlock b → Lists n.blocks b

-- the row of a value, by the rows of blocks
pub record TakesRow (n : Numbers) (blocks : List Argument) (v : Value) (row : Argument) : Type 0 where
  pub result : (p : Ptr Operation) → v.definer ≡ ByOp p → (row.may_go ≡ false) × (row.around ≡ None)
  pub argument : (b : Ptr BasicBlock) → v.definer ≡ ByBlock b → (k : ℕ) × (slice_get n.blocks k ≡ Some b) × (slice_get blocks k ≡ Some row)

-- the definer of the value comes to the list where this is so
pub record KeepsIf (n : Numbers) (If : Type 0) (v : Value) (old new : List Definer) : Type 0 where
  pub sound : (x : Definer) → Contains new x → Contains old x ⊎ (If × IsDefiner n v x)
  pub kept : (x : Definer) → Contains old x → Contains new x
  pub noted : If → (x : Definer) × Contains new x × IsDefiner n v x
