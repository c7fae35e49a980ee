-- The facts that are closed under what operations do, and the most precise of them, over numbered operations, blocks and values.
-- Source: Wegman and Zadeck, Constant propagation with conditional branches, 1991; here by what holds of the solution, not by its computation.
use Rattle.std.specs.Prelude.{◌≡◌, ◌<◌, ℕ, Bool, true, false, List, [], map, length, Option, Some, None, slice_get, ◌∷◌, Contains, unwrap_or, option_map}
use Rattle.std.specs.declared.vec.Vec.{Vec}
use Rattle.std.specs.declared.alloc.Global.{Global}
use Rattle.opt_rows.specs.declared.known.Known.{Known}
use Rattle.opt_rows.specs.declared.known.Known.TheVariants.{Any, Undetermined}
use Rattle.opt_rows.specs.declared.facts_problem.Role.{Role}
use Rattle.opt_rows.specs.declared.facts_problem.Role.TheVariants.{Folds, Branches, Other}
use Rattle.opt_rows.specs.OperationRows.{BranchEdge, Row}
use Rattle.opt_rows.specs.declared.facts_problem.FactsProblem.{FactsProblem}
use Rattle.opt_rows.specs.Known.{asked, answer, FactsOf, AllBelow, AllAny, MorePrecise}

-- what operations answer, by their numbers: what their results fold to, and which of their edges are feasible
pub record Answers (A : Type 0) : Type 0 where
  pub fold : ℕ → List (Option A) → List (Option A)
  pub feasible : ℕ → List (Option A) → ℕ → Bool

-- facts of numbered blocks and values
abbrev pub NumberedFacts : Type 0 → Type 0
NumberedFacts A = FactsOf ℕ ℕ A

-- the arguments of a block
abbrev pub arguments_of : FactsProblem → ℕ → List ℕ
arguments_of p b = unwrap_or (option_map (λ (v : Vec ℕ Global). v.items) (slice_get p.arguments.items b)) []

-- the block runs, with any arguments
pub record RunsWithAny {A : Type 0} (p : FactsProblem) (k : NumberedFacts A) (b : ℕ) : Type 0 where
  pub runs : k.runs b ≡ true
  pub arguments : AllAny k.of (arguments_of p b)

-- the values that an edge forwards
abbrev pub picked : List ℕ → List ℕ → List (Option ℕ)
picked operands is = map (λ i. slice_get operands i) is

-- each argument lies at or below what is forwarded to it, as far as both lists go
abbrev pub ForwardedBelow : {A : Type 0} → NumberedFacts A → List ℕ → List (Option ℕ) → Type 0
ForwardedBelow k arguments values = (i v u : ℕ) → slice_get arguments i ≡ Some v → slice_get values i ≡ Some (Some u) → AllBelow k.of (v ∷ []) (k.of u ∷ [])

-- the block is the target of a feasible edge: one edge to it is enough for all
pub record IsFeasibleTarget {A : Type 0} (ask : Answers A) (i : ℕ) (r : Row) (xs : List (Option A)) (b : ℕ) : Type 0 where
  pub index : ℕ
  pub edge : BranchEdge
  pub stands : slice_get r.edges index ≡ Some edge
  pub leads : edge.target ≡ b
  pub feasible : ask.feasible i xs index ≡ true

-- the target of the edge runs, and its arguments lie at or below what is forwarded
pub record RowEdgeClosed {A : Type 0} (p : FactsProblem) (k : NumberedFacts A) (r : Row) (e : BranchEdge) : Type 0 where
  pub target : k.runs e.target ≡ true
  pub arguments : ForwardedBelow k (arguments_of p e.target) (picked r.operands e.forwards)

-- each edge of a branch whose target is feasible; nothing, where an operand is undetermined
abbrev pub EdgesClosed : {A : Type 0} → Answers A → FactsProblem → NumberedFacts A → ℕ → Row → Option (List (Option A)) → Type 0
EdgesClosed ask p k i r None = Unit {0}
EdgesClosed ask p k i r (Some xs) = (n : ℕ) (e : BranchEdge) → slice_get r.edges n ≡ Some e → IsFeasibleTarget ask i r xs e.target → RowEdgeClosed p k r e

-- the results lie at or below what the operation folds to; nothing, where an operand is undetermined
abbrev pub ResultsClosed : {A : Type 0} → Answers A → NumberedFacts A → ℕ → Row → Option (List (Option A)) → Type 0
ResultsClosed ask k i r None = Unit {0}
ResultsClosed ask k i r (Some xs) = AllBelow k.of r.results (map answer (ask.fold i xs))

-- what an operation in a block that runs asks, by its role
abbrev pub RoleClosed : {A : Type 0} → Answers A → FactsProblem → NumberedFacts A → ℕ → Row → Role → Type 0
RoleClosed ask p k i r Folds = ResultsClosed ask k i r (asked (map k.of r.operands))
RoleClosed ask p k i r Branches = AllAny k.of r.results × EdgesClosed ask p k i r (asked (map k.of r.operands))
RoleClosed ask p k i r Other = AllAny k.of r.results

pub record RowClosed {A : Type 0} (ask : Answers A) (p : FactsProblem) (k : NumberedFacts A) (i : ℕ) (r : Row) : Type 0 where
  pub role : RoleClosed ask p k i r r.role
  pub entries : (b : ℕ) → Contains r.entries b → RunsWithAny p k b

-- the facts are closed: entries run with any arguments, values from outside may be any, and what operations in blocks that run ask holds
pub record IsClosedSolution {A : Type 0} (ask : Answers A) (p : FactsProblem) (k : NumberedFacts A) : Type 0 where
  pub entries : (b : ℕ) → Contains p.entries.items b → RunsWithAny p k b
  pub outside : (v : ℕ) → Contains p.outside.items v → k.of v ≡ Any
  pub rows : (i : ℕ) (r : Row) → slice_get p.rows i ≡ Some r → k.runs r.block ≡ true → RowClosed ask p k i r

-- closed, and more precise than all that are closed
pub record IsMostPreciseSolution {A : Type 0} (ask : Answers A) (p : FactsProblem) (k : NumberedFacts A) : Type 0 where
  pub closed : IsClosedSolution ask p k
  pub best : (l : NumberedFacts A) → IsClosedSolution ask p l → MorePrecise k l

-- the numbers of a row are below the numbers of blocks, values and operands
pub record IsRow (p : FactsProblem) (r : Row) : Type 0 where
  pub block : r.block < length p.arguments.items
  pub operands : (v : ℕ) → Contains r.operands v → v < p.values
  pub results : (v : ℕ) → Contains r.results v → v < p.values
  pub targets : (e : BranchEdge) → Contains r.edges e → e.target < length p.arguments.items
  pub forwards : (e : BranchEdge) (i : ℕ) → Contains r.edges e → Contains e.forwards i → i < length r.operands
  pub entries : (b : ℕ) → Contains r.entries b → b < length p.arguments.items

-- the numbers of a problem are in range
pub record IsProblem (p : FactsProblem) : Type 0 where
  pub rows : (r : Row) → Contains p.rows r → IsRow p r
  pub arguments : (b v : ℕ) → Contains (arguments_of p b) v → v < p.values
  pub entries : (b : ℕ) → Contains p.entries.items b → b < length p.arguments.items
  pub outside : (v : ℕ) → Contains p.outside.items v → v < p.values

-- marks and facts in lists, as facts: past the end of a list no block runs and nothing is found out of a value
abbrev pub as_facts : {A : Type 0} → List Bool → List (Known A) → NumberedFacts A
as_facts runs known = record { runs = λ b. unwrap_or (slice_get runs b) false; of = λ v. unwrap_or (slice_get known v) Undetermined }
