-- Edges that are taken, and what is forwarded along them.
use Rattle.std.specs.Prelude.{◌≡◌, ◌⊎◌, ℕ, ◌<◌, Bool, true, List, [], length, Option, Some, slice_get, Contains}
use Rattle.opt_rows.specs.OperationRows.{BranchEdge, Row}
use Rattle.opt_rows.specs.declared.facts_problem.FactsProblem.{FactsProblem}
use Rattle.opt_rows.specs.Rows.{row_at}
use Rattle.opt_rows.specs.declared.facts_found.Found.{Found}
use Rattle.opt_rows.specs.Known.{AtOrBelow}
use Rattle.opt_rows.specs.Facts.{Answers, NumberedFacts, arguments_of, IsFeasibleTarget, RowEdgeClosed}
use Rattle.opt_rows.specs.FactsFound.{facts_of, Falls}

-- by an edge with these forwards the value is forwarded to the argument
pub record ForwardsToArgument (arguments indices operands : List ℕ) (v w : ℕ) : Type 0 where
  pub index : ℕ
  pub argument : slice_get arguments index ≡ Some w
  pub operand : ℕ
  pub forwards : slice_get indices index ≡ Some operand
  pub value : slice_get operands operand ≡ Some v

-- the edge of the operation is taken
abbrev pub IsTaken : List (List Bool) → ℕ → ℕ → Type 0
IsTaken ts i n = slice_get (row_at ts i) n ≡ Some true

-- the targets of feasible edges are marked with the operation's number, as far as the edges were looked at, and no other block
pub record Marks {A : Type 0} (ask : Answers A) (i : ℕ) (r : Row) (xs : List (Option A)) (upto : ℕ) (old new : List (Option ℕ)) : Type 0 where
  pub len : length new ≡ length old
  pub keeps : (b : ℕ) → slice_get old b ≡ Some (Some i) → slice_get new b ≡ Some (Some i)
  pub has : (n : ℕ) (e : BranchEdge) → n < upto → slice_get r.edges n ≡ Some e → ask.feasible i xs n ≡ true → slice_get new e.target ≡ Some (Some i)
  pub only : (b j : ℕ) → slice_get new b ≡ Some (Some j) → (slice_get old b ≡ Some (Some j)) ⊎ ((j ≡ i) × IsFeasibleTarget ask i r xs b)

-- all edges were looked at
abbrev pub MarksTargets : {A : Type 0} → Answers A → ℕ → Row → List (Option A) → List (Option ℕ) → List (Option ℕ) → Type 0
MarksTargets ask i r xs = Marks ask i r xs (length r.edges)

-- each argument lies at or below what is forwarded to it
abbrev pub ForwardsBelow : {A : Type 0} → List ℕ → List ℕ → List ℕ → NumberedFacts A → Type 0
ForwardsBelow arguments forwards operands k = (v w : ℕ) → ForwardsToArgument arguments forwards operands v w → AtOrBelow (k.of w) (k.of v)

-- or what is forwarded waits
abbrev pub ForwardsLie : {A : Type 0} → List ℕ → List ℕ → List ℕ → Found A → List ℕ → Type 0
ForwardsLie arguments forwards operands s popped = (v w : ℕ) → ForwardsToArgument arguments forwards operands v w → AtOrBelow ((facts_of s).of w) ((facts_of s).of v) ⊎ (Contains s.values.items v ⊎ Contains popped v)

-- the arguments were lowered by what is forwarded to them
pub record ForwardsAll {A : Type 0} (arguments forwards operands : List ℕ) (old new : Found A) : Type 0 where
  pub steps : Falls (ForwardsBelow arguments forwards operands) old new
  pub lie : ForwardsLie arguments forwards operands new []

-- a taken edge: its target runs, and its arguments lie at or below what is forwarded, unless that waits
pub record EdgeLies {A : Type 0} (p : FactsProblem) (s : Found A) (popped : List ℕ) (r : Row) (e : BranchEdge) : Type 0 where
  pub target : (facts_of s).runs e.target ≡ true
  pub arguments : ForwardsLie (arguments_of p e.target) e.forwards r.operands s popped

-- an edge was taken
pub record TakesEdge {A : Type 0} (p : FactsProblem) (r : Row) (e : BranchEdge) (old new : Found A) : Type 0 where
  pub steps : Falls (λ l. RowEdgeClosed p l r e) old new
  pub lies : EdgeLies p new [] r e

-- the edges with marked targets are closed
abbrev pub MarkedClosed : {A : Type 0} → FactsProblem → ℕ → Row → List (Option ℕ) → NumberedFacts A → Type 0
MarkedClosed p i r marks l = (n : ℕ) (e : BranchEdge) → slice_get r.edges n ≡ Some e → slice_get marks e.target ≡ Some (Some i) → RowEdgeClosed p l r e

-- the edges with marked targets are taken, as far as they were looked at, and no other operation's
pub record TakesMarkedEdges {A : Type 0} (p : FactsProblem) (i : ℕ) (r : Row) (marks : List (Option ℕ)) (upto : ℕ) (taken after : List (List Bool)) (old new : Found A) : Type 0 where
  pub len : length after ≡ length taken
  pub edges_len : length (row_at after i) ≡ length (row_at taken i)
  pub others : (j : ℕ) → (j ≡ i → ⊥) → row_at after j ≡ row_at taken j
  pub steps : Falls (MarkedClosed p i r marks) old new
  pub keeps : (n : ℕ) → IsTaken taken i n → IsTaken after i n
  pub has : (n : ℕ) (e : BranchEdge) → n < upto → slice_get r.edges n ≡ Some e → slice_get marks e.target ≡ Some (Some i) → IsTaken after i n
  pub only : (n : ℕ) (e : BranchEdge) → slice_get r.edges n ≡ Some e → IsTaken after i n → IsTaken taken i n ⊎ ((slice_get marks e.target ≡ Some (Some i)) × EdgeLies p new [] r e)

-- all edges were looked at
abbrev pub TakesAllMarked : {A : Type 0} → FactsProblem → ℕ → Row → List (Option ℕ) → List (List Bool) → List (List Bool) → Found A → Found A → Type 0
TakesAllMarked p i r marks = TakesMarkedEdges p i r marks (length r.edges)
