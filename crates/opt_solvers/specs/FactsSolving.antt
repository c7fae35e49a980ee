-- What a solver keeps true while facts fall.
use Rattle.std.specs.Prelude.{◌≡◌, ◌⊎◌, ℕ, ◌<◌, ◌≤◌, Bool, true, false, List, [], map, length, Option, Some, None, slice_get, Contains, replicate}
use Rattle.opt_rows.specs.declared.known.Known.{Known}
use Rattle.opt_rows.specs.declared.known.Known.TheVariants.{Any, Undetermined}
use Rattle.opt_rows.specs.declared.facts_problem.Role.{Role}
use Rattle.opt_rows.specs.declared.facts_problem.Role.TheVariants.{Folds, Branches, Other}
use Rattle.opt_rows.specs.OperationRows.{BranchEdge, Row}
use Rattle.opt_rows.specs.declared.facts_problem.FactsProblem.{FactsProblem}
use Rattle.opt_rows.specs.Rows.{row_at}
use Rattle.opt_rows.specs.declared.facts_found.Found.{Found}
use Rattle.opt_solvers.specs.declared.facts_tables.Place.{Place}
use Rattle.opt_solvers.specs.declared.facts_tables.Slot.{Slot}
use Rattle.opt_solvers.specs.declared.facts_solver.Solver.{Solver}
use Rattle.opt_rows.specs.Known.{AtOrBelow, AllBelow, AllAny, MorePrecise, asked, answer}
use Rattle.opt_rows.specs.Facts.{Answers, NumberedFacts, RunsWithAny, IsFeasibleTarget, RowEdgeClosed, ResultsClosed, IsClosedSolution}
use Rattle.opt_rows.specs.FactsFound.{facts_of, left, Falls}
use Rattle.opt_steps.specs.FactsEdges.{IsTaken, EdgeLies, MarkedClosed}
use Rattle.opt_solvers.specs.FactsSeen.{unseen}
use Rattle.opt_rows.specs.FactsTaken.{untaken}

-- what an operation has seen of its operands
abbrev pub seen_of : {A : Type 0} → List (List (Known A)) → ℕ → List (Known A)
seen_of ss i = row_at ss i

-- each operation can be asked
abbrev pub CanAskRows : (ℕ → ℕ → Type 0) → FactsProblem → Type 0
CanAskRows can_ask p = (i : ℕ) (r : Row) → slice_get p.rows i ≡ Some r → can_ask i (length r.operands)

-- the operation with this number has the role
abbrev pub HasRole : FactsProblem → ℕ → Role → Type 0
HasRole p i role = (r : Row) → slice_get p.rows i ≡ Some r → r.role ≡ role

-- its block runs
abbrev pub RowRuns : {A : Type 0} → FactsProblem → Found A → ℕ → Type 0
RowRuns p s i = (r : Row) → slice_get p.rows i ≡ Some r → (facts_of s).runs r.block ≡ true

-- the results lie at or below what the operation folds to
abbrev pub FoldsBelow : {A : Type 0} → Answers A → ℕ → List ℕ → List (Option A) → NumberedFacts A → Type 0
FoldsBelow ask i results xs k = AllBelow k.of results (map answer (ask.fold i xs))

-- the results of all but what folds may be any value
abbrev pub AnyResults : {A : Type 0} → List ℕ → Role → NumberedFacts A → Type 0
AnyResults results Folds k = Unit {0}
AnyResults results Branches k = AllAny k.of results
AnyResults results Other k = AllAny k.of results

-- what an operation asks whatever its operands are
pub record Started {A : Type 0} (p : FactsProblem) (r : Row) (k : NumberedFacts A) : Type 0 where
  pub results : AnyResults r.results r.role k
  pub entries : (b : ℕ) → Contains r.entries b → RunsWithAny p k b

-- edges with feasible targets are taken
abbrev pub EdgesTaken : {A : Type 0} → Answers A → ℕ → Row → List Bool → Option (List (Option A)) → Type 0
EdgesTaken ask i r taken None = Unit {0}
EdgesTaken ask i r taken (Some xs) = (n : ℕ) (e : BranchEdge) → slice_get r.edges n ≡ Some e → IsFeasibleTarget ask i r xs e.target → slice_get taken n ≡ Some true

-- what an operation asks by what it has seen
abbrev pub Refreshed : {A : Type 0} → Answers A → NumberedFacts A → ℕ → Row → Role → List (Known A) → List Bool → Type 0
Refreshed ask k i r Folds seen taken = ResultsClosed ask k i r (asked seen)
Refreshed ask k i r Branches seen taken = EdgesTaken ask i r taken (asked seen)
Refreshed ask k i r Other seen taken = Unit {0}

-- an operation in a block that runs asks nothing more than what it has seen
pub record RowDone {A : Type 0} (ask : Answers A) (p : FactsProblem) (s : Solver A) (i : ℕ) (r : Row) : Type 0 where
  pub started : Started p r (facts_of s.found)
  pub refreshed : Refreshed ask (facts_of s.found) i r r.role (seen_of s.seen i) (row_at s.taken i)

-- what a solver keeps true at every moment: the facts are at or above all that are closed, whatever was taken holds of all that are closed, and taken edges lie where they should, but for what is forwarded of values that were popped and not told yet
pub record IsSolving {A : Type 0} (ask : Answers A) (p : FactsProblem) (s : Solver A) (popped : List ℕ) : Type 0 where
  pub blocks_len : length s.found.runs.items ≡ length p.arguments.items
  pub values_len : length s.found.known.items ≡ p.values
  pub marks_len : length s.marks.items ≡ length p.arguments.items
  pub seen_len : length s.seen ≡ length p.rows
  pub taken_len : length s.taken ≡ length p.rows
  pub operands_len : (i : ℕ) (r : Row) → slice_get p.rows i ≡ Some r → length (seen_of s.seen i) ≡ length r.operands
  pub edges_len : (i : ℕ) (r : Row) → slice_get p.rows i ≡ Some r → length (row_at s.taken i) ≡ length r.edges
  pub best : (l : NumberedFacts A) → IsClosedSolution ask p l → MorePrecise (facts_of s.found) l
  pub marks_best : (l : NumberedFacts A) → IsClosedSolution ask p l → (i : ℕ) (r : Row) → slice_get p.rows i ≡ Some r → MarkedClosed p i r s.marks.items l
  pub taken_best : (l : NumberedFacts A) → IsClosedSolution ask p l → (i n : ℕ) (r : Row) (e : BranchEdge) → slice_get p.rows i ≡ Some r → slice_get r.edges n ≡ Some e → IsTaken s.taken i n → RowEdgeClosed p l r e
  pub above : (i j v : ℕ) (r : Row) (x : Known A) → slice_get p.rows i ≡ Some r → slice_get r.operands j ≡ Some v → slice_get (seen_of s.seen i) j ≡ Some x → AtOrBelow ((facts_of s.found).of v) x
  pub edges : (i n : ℕ) (r : Row) (e : BranchEdge) → slice_get p.rows i ≡ Some r → slice_get r.edges n ≡ Some e → IsTaken s.taken i n → EdgeLies p s.found popped r e

-- what is left to do waits: operations of blocks that run, and places that have not seen what is known
pub record IsWaiting {A : Type 0} (ask : Answers A) (p : FactsProblem) (s : Solver A) (rest : List ℕ) (places : List Place) : Type 0 where
  pub entries : (b : ℕ) → Contains p.entries.items b → RunsWithAny p (facts_of s.found) b
  pub outside : (v : ℕ) → Contains p.outside.items v → (facts_of s.found).of v ≡ Any
  pub rows : (i : ℕ) (r : Row) → slice_get p.rows i ≡ Some r → (facts_of s.found).runs r.block ≡ true → RowDone ask p s i r ⊎ (Contains s.found.blocks.items r.block ⊎ Contains rest i)
  pub seen : (i j v : ℕ) (r : Row) (x : Known A) → slice_get p.rows i ≡ Some r → slice_get r.operands j ≡ Some v → slice_get (seen_of s.seen i) j ≡ Some x → ((facts_of s.found).of v ≡ x) ⊎ (Contains s.found.values.items v ⊎ Contains places (record { row = i; operand = j }))

-- the facts fell, and what was taken stays taken
pub record SolverSteps {A : Type 0} (ask : Answers A) (p : FactsProblem) (old new : Solver A) : Type 0 where
  pub found : Falls (IsClosedSolution ask p) old.found new.found
  pub seen : new.seen ≡ old.seen
  pub taken : (i n : ℕ) → IsTaken old.taken i n → IsTaken new.taken i n

-- an operation was looked at
pub record Refreshes {A : Type 0} (ask : Answers A) (p : FactsProblem) (old new : Solver A) (i : ℕ) : Type 0 where
  pub solving : IsSolving ask p new []
  pub steps : SolverSteps ask p old new
  pub done : (r : Row) → slice_get p.rows i ≡ Some r → Refreshed ask (facts_of new.found) i r r.role (seen_of new.seen i) (row_at new.taken i)

-- such operations were visited
pub record VisitsOperations {A : Type 0} (ask : Answers A) (p : FactsProblem) (old new : Solver A) (such : ℕ → Row → Type 0) : Type 0 where
  pub solving : IsSolving ask p new []
  pub steps : SolverSteps ask p old new
  pub done : (i : ℕ) (r : Row) → such i r → slice_get p.rows i ≡ Some r → RowDone ask p new i r

-- the place sees what is known of the value
pub record Sees {A : Type 0} (ask : Answers A) (p : FactsProblem) (old new : Solver A) (v : ℕ) (x : Place) : Type 0 where
  pub solving : IsSolving ask p new []
  pub found : Falls (IsClosedSolution ask p) old.found new.found
  pub taken : (i n : ℕ) → IsTaken old.taken i n → IsTaken new.taken i n
  pub others : (i : ℕ) → (i ≡ x.row → ⊥) → seen_of new.seen i ≡ seen_of old.seen i
  pub other_places : (j : ℕ) → (j ≡ x.operand → ⊥) → slice_get (seen_of new.seen x.row) j ≡ slice_get (seen_of old.seen x.row) j
  pub here : slice_get (seen_of new.seen x.row) x.operand ≡ Some ((facts_of old.found).of v)
  pub refreshed : (r : Row) → slice_get p.rows x.row ≡ Some r → (facts_of old.found).runs r.block ≡ true → Refreshed ask (facts_of new.found) x.row r r.role (seen_of new.seen x.row) (row_at new.taken x.row)

-- the argument of a slot lies at or below the fact, if its edge is taken
abbrev pub SlotBelow : {A : Type 0} → List (List Bool) → Slot → Known A → NumberedFacts A → Type 0
SlotBelow taken x fact l = IsTaken taken x.row x.edge → AtOrBelow (l.of x.argument) fact

-- so do those of all slots
abbrev pub SlotsBelow : {A : Type 0} → List (List Bool) → List Slot → Known A → NumberedFacts A → Type 0
SlotsBelow taken slots fact l = (x : Slot) → Contains slots x → SlotBelow taken x fact l

-- what a solver keeps true holds, where these places have still to be told
pub record HasToTell {A : Type 0} (ask : Answers A) (p : FactsProblem) (old : Found A) (new : Solver A) (places : List Place) : Type 0 where
  pub solving : IsSolving ask p new []
  pub waiting : IsWaiting ask p new [] places
  pub work : left new.found ≤ left old

-- one block or value was taken from its list and looked at, or there was none
pub record IsStep {A : Type 0} (ask : Answers A) (p : FactsProblem) (old new : Solver A) (more : Bool) : Type 0 where
  pub solving : IsSolving ask p new []
  pub waiting : IsWaiting ask p new [] []
  pub less : more ≡ true → left new.found < left old.found
  pub no_blocks : more ≡ false → new.found.blocks.items ≡ []
  pub no_values : more ≡ false → new.found.values.items ≡ []

-- what the root asks of facts
pub record MeetsRootDemand {A : Type 0} (p : FactsProblem) (k : NumberedFacts A) : Type 0 where
  pub entries : (b : ℕ) → Contains p.entries.items b → RunsWithAny p k b
  pub outside : AllAny k.of p.outside.items

-- what the root asks is found, and nothing else
pub record IsFirstFound {A : Type 0} (p : FactsProblem) (s : Found A) : Type 0 where
  pub blocks_len : length s.runs.items ≡ length p.arguments.items
  pub values_len : length s.known.items ≡ p.values
  pub entered : MeetsRootDemand p (facts_of s)
  pub best : (l : NumberedFacts A) → MeetsRootDemand p l → MorePrecise (facts_of s) l
  pub blocks_wait : (b : ℕ) → (facts_of s).runs b ≡ true → Contains s.blocks.items b
  pub values_wait : (v : ℕ) → ((facts_of s).of v ≡ Undetermined) ⊎ Contains s.values.items v

-- what the root asks is found, nothing else, and nobody has looked at it
pub record IsInitialSolver {A : Type 0} (p : FactsProblem) (s : Solver A) : Type 0 where
  pub found : IsFirstFound p s.found
  pub seen : s.seen ≡ map unseen p.rows
  pub taken : s.taken ≡ map untaken p.rows
  pub marks : s.marks.items ≡ replicate (length p.arguments.items) None
