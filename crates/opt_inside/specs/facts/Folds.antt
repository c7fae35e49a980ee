-- What the operations of a program answer, by their numbers.
use Rattle.std.specs.Prelude.{◌≡◌, ℕ, Bool, true, List, [], map, Option, Some, None, slice_get}
use Rattle.ir_base.specs.declared.types.TypeHandle.{TypeHandle}
use Rattle.ir_program.specs.Program.{Program, OperationView, TypedValue, operation_at}
use Rattle.ir_program.specs.declared.handles.Ptr.{Ptr}
use Rattle.ir_program.specs.declared.handles.Operation.{Operation}
use Rattle.ir_trees.specs.Stands.{in_program}
use Rattle.opt_rows.specs.Known.{KnowsMore}
use Rattle.opt_rows.specs.Facts.{Answers}
use Rattle.opt_trees.specs.Dialect.{Dialect, Lawful}

-- the types of definitions
abbrev pub result_types : List TypedValue → List TypeHandle
result_types ts = map (λ (t : TypedValue). t.ty) ts

abbrev pub operation_if : {O B : Type 0} → Program O B → Option (Ptr Operation) → Option (OperationView O)
operation_if c None = None
operation_if c (Some p) = operation_at c p

-- the operation with this number
abbrev pub operation_numbered : {O B : Type 0} → Program O B → List (Ptr Operation) → ℕ → Option (OperationView O)
operation_numbered c operations i = operation_if c (slice_get operations i)

-- what the results fold to, and whether an edge is feasible; where there is no operation, nothing is said
abbrev pub fold_if : {O B A : Type 0} → Dialect (in_program O B) A → Option (OperationView O) → List (Option A) → List (Option A)
fold_if d None xs = []
fold_if d (Some v) xs = d.fold v.payload (result_types v.results) xs

abbrev pub feasible_if : {O B A : Type 0} → Dialect (in_program O B) A → Option (OperationView O) → List (Option A) → ℕ → Bool
feasible_if d None xs edge = true
feasible_if d (Some v) xs edge = d.feasible v.payload xs edge

-- the answers of these operations
abbrev pub answers_of : {O B A : Type 0} → Dialect (in_program O B) A → Program O B → List (Ptr Operation) → Answers A
answers_of d c operations = record { fold = λ i xs. fold_if d (operation_numbered c operations i) xs; feasible = λ i xs edge. feasible_if d (operation_numbered c operations i) xs edge }

-- more known operands give the same folds and maybe more, and no more feasible edges
pub folds_more : {O B A : Type 0} (d : Dialect (in_program O B) A) → Lawful d → (o : Option (OperationView O)) (xs ys : List (Option A)) → KnowsMore xs ys → KnowsMore (fold_if d o xs) (fold_if d o ys)
folds_more d lawful None xs ys more = tt
folds_more d lawful (Some v) xs ys more = lawful.folds_more v.payload (result_types v.results) xs ys more

pub feasible_less : {O B A : Type 0} (d : Dialect (in_program O B) A) → Lawful d → (o : Option (OperationView O)) (xs ys : List (Option A)) (edge : ℕ) → KnowsMore xs ys → feasible_if d o ys edge ≡ true → feasible_if d o xs edge ≡ true
feasible_less d lawful None xs ys edge more e = e
feasible_less d lawful (Some v) xs ys edge more e = lawful.feasible_less v.payload xs ys edge more e
