-- The numbered problem whose most precise facts are those of what is inside an operation.
use Rattle.std.specs.Prelude.{◌≡◌, ◌+◌, ℕ, Bool, true, false, List, [], ◌∷◌, map, length, filter, nat_lt, Some, slice_get}
use Rattle.std.specs.List.{position_or_len}
use Rattle.std.specs.declared.vec.Vec.{Vec}
use Rattle.std.specs.declared.alloc.Global.{Global}
use Rattle.ir_program.specs.Program.{Program, OperationView, TypedValue, operation_at, arguments_at}
use Rattle.ir_program.specs.Lists.{StandsInBlock, blocks_in, regions_in}
use Rattle.ir_program.specs.Rows.{operands_at}
use Rattle.ir_program.specs.Lent.{payload_at}
use Rattle.ir_program.specs.Replacing.{same_value, same_block}
use Rattle.ir_program.specs.declared.handles.Ptr.{Ptr}
use Rattle.ir_program.specs.declared.handles.Operation.{Operation}
use Rattle.ir_program.specs.declared.handles.Region.{Region}
use Rattle.ir_program.specs.declared.handles.BasicBlock.{BasicBlock}
use Rattle.ir_program.specs.declared.handles.Value.{Value}
use Rattle.ir_trees.specs.Stands.{in_program}
use Rattle.opt_rows.specs.declared.facts_problem.Role.{Role}
use Rattle.opt_rows.specs.declared.facts_problem.Role.TheVariants.{Folds, Branches, Other}
use Rattle.opt_rows.specs.OperationRows.{BranchEdge, Row}
use Rattle.opt_rows.specs.declared.facts_problem.FactsProblem.{FactsProblem}
use Rattle.opt_trees.specs.Occurrences.{cons_if, picks}
use Rattle.opt_trees.specs.Dialect.{Dialect}
use Rattle.opt_inside.specs.Numbered.{Numbers}

-- the number of a value: its index, and for each that comes from outside the number behind these
abbrev pub value_number : Numbers → Value → ℕ
value_number n v = position_or_len (same_value v) n.values

-- the number of a block that is inside
abbrev pub block_number : Numbers → Ptr BasicBlock → ℕ
block_number n b = position_or_len (same_block b) n.blocks

-- definitions without their types
abbrev pub values_of : List TypedValue → List Value
values_of ts = map (λ (t : TypedValue). t.value) ts

-- what an operation is asked that is foldable or not, a branch or not
abbrev pub role_of : Bool → Bool → Role
role_of true branch = Folds
role_of false true = Branches
role_of false false = Other

-- where a branch leads, and nowhere what is none
abbrev pub edges_if : Bool → List (Ptr BasicBlock) → List (Ptr BasicBlock)
edges_if true bs = bs
edges_if false bs = []

-- the lists are equally long, and what stands at one index in both belongs together
pub record PairsByIndex {X Y : Type 0} (P : ℕ → X → Y → Type 0) (xs : List X) (ys : List Y) : Type 0 where
  pub onto : (i : ℕ) (x : X) → slice_get xs i ≡ Some x → (y : Y) × (slice_get ys i ≡ Some y) × P i x y
  pub from : (i : ℕ) (y : Y) → slice_get ys i ≡ Some y → (x : X) × (slice_get xs i ≡ Some x) × P i x y

-- the entry blocks of regions
abbrev pub entries_in : {O B : Type 0} → Program O B → List (Ptr Region) → List (Ptr BasicBlock)
entries_in c [] = []
entries_in c (r ∷ rs) = cons_if (slice_get (blocks_in c r) 0) (entries_in c rs)

-- the edge of this index of an operation: its target, and the indices of the operands that it forwards
pub record IsEdge {O B A : Type 0} (d : Dialect (in_program O B) A) (n : Numbers) (v : OperationView O) (index : ℕ) (successor : Ptr BasicBlock) (e : BranchEdge) : Type 0 where
  pub target : e.target ≡ block_number n successor
  pub forwards : map (slice_get v.operands) e.forwards ≡ map Some (picks v.operands (d.forwards v.payload (length v.operands) index))

-- the indices of the operands that an operation forwards to its successor with this index, of those that there are
abbrev pub AreForwarded : {O B A : Type 0} → Dialect (in_program O B) A → Program O B → Ptr Operation → ℕ → List ℕ → Type 0
AreForwarded {O} d c p index indices = (w : O) → payload_at c p ≡ Some w → indices ≡ filter (λ i. nat_lt i (length (operands_at c p))) (d.forwards w (length (operands_at c p)) index)

-- where an operation leads as a branch
abbrev pub branches_to : {O B A : Type 0} → Dialect (in_program O B) A → OperationView O → List (Ptr BasicBlock)
branches_to d v = edges_if (d.is_branch v.payload) v.successors

-- as many edges as the operation has
abbrev pub IsEdgeCount : {O B A : Type 0} → Dialect (in_program O B) A → Program O B → Ptr Operation → ℕ → Type 0
IsEdgeCount {O} d c p count = (v : OperationView O) → operation_at c p ≡ Some v → count ≡ length (branches_to d v)

-- the edges of an operation
abbrev pub AreEdges : {O B A : Type 0} → Dialect (in_program O B) A → Program O B → Numbers → Ptr Operation → List BranchEdge → Type 0
AreEdges {O} {B} d c n p edges = (v : OperationView O) → operation_at c p ≡ Some v → PairsByIndex (IsEdge {B = B} d n v) (branches_to d v) edges

-- the row of an operation
pub record IsRowOfOperation {O B A : Type 0} (d : Dialect (in_program O B) A) (c : Program O B) (n : Numbers) (p : Ptr Operation) (r : Row) : Type 0 where
  pub view : OperationView O
  pub there : operation_at c p ≡ Some view
  pub block : (b : Ptr BasicBlock) → StandsInBlock c p b → r.block ≡ block_number n b
  pub role : r.role ≡ role_of (d.is_foldable view.payload) (d.is_branch view.payload)
  pub operands : r.operands ≡ map (value_number n) view.operands
  pub results : r.results ≡ map (value_number n) (values_of view.results)
  pub edges : PairsByIndex (IsEdge {B = B} d n view) (branches_to d view) r.edges
  pub entries : r.entries ≡ map (block_number n) (entries_in c view.regions)

-- the rows of these operations
abbrev pub AreRowsOfOperations : {O B A : Type 0} → Dialect (in_program O B) A → Program O B → Numbers → List (Ptr Operation) → List Row → Type 0
AreRowsOfOperations d c n ps rows = PairsByIndex (λ i p r. IsRowOfOperation d c n p r) ps rows

-- the numbers of the arguments of a block
abbrev pub AreArguments : {O B : Type 0} → Program O B → Numbers → ℕ → Ptr BasicBlock → Vec ℕ Global → Type 0
AreArguments c n i b arguments = arguments.items ≡ map (value_number n) (values_of (arguments_at c b))

-- the problem of what is inside an operation, with one number for all values from outside
pub record IsFactsProblemOf {O B A : Type 0} (d : Dialect (in_program O B) A) (c : Program O B) (op : Ptr Operation) (n : Numbers) (p : FactsProblem) : Type 0 where
  pub rows : AreRowsOfOperations d c n n.operations p.rows
  pub arguments : PairsByIndex (AreArguments c n) n.blocks p.arguments.items
  pub values : p.values ≡ length n.values + 1
  pub entries : p.entries.items ≡ map (block_number n) (entries_in c (regions_in c op))
  pub outside : p.outside.items ≡ length n.values ∷ []
