-- How many uses keep each item.
use Rattle.std.specs.Prelude.{◌≡◌, ℕ, ◌+◌, ◌++◌, Bool, true, false, List, [], ◌∷◌, length, map, slice_index}
use Rattle.digraph.specs.Counts.{count_of}
use Rattle.opt_rows.specs.DeadCandidates.{Candidate}
use Rattle.opt_rows.specs.declared.dead_problem.Argument.{Argument}
use Rattle.opt_rows.specs.declared.dead_problem.DeadProblem.{DeadProblem}

-- a use that never goes, of what may not go
abbrev pub held : Bool → ℕ
held true = 0
held false = 1

abbrev pub held_operation : Candidate → ℕ
held_operation c = held c.may_go

abbrev pub held_argument : Argument → ℕ
held_argument c = held c.may_go

abbrev pub first_uses : DeadProblem → List ℕ
first_uses p = map held_operation p.operations ++ map held_argument p.arguments.items

-- how often a number is in some rows
abbrev pub kept_by : List (List ℕ) → ℕ → ℕ
kept_by [] x = 0
kept_by (row ∷ rows) x = count_of x row + kept_by rows x

-- each number is counted so many times more
pub record CountsItems (more : ℕ → ℕ) (old new : List ℕ) : Type 0 where
  pub len : length new ≡ length old
  pub counts : (x : ℕ) → slice_index new x ≡ slice_index old x + more x
