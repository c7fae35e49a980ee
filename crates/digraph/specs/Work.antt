-- A list of work: marks, and the marked nodes that wait.
use Rattle.std.specs.Prelude.{◌≡◌, ◌⊎◌, ℕ, ◌+◌, ◌<◌, ◌≤◌, List, [], length, not, count_by, Contains, false, nat_eq, slice_index_or}
use Rattle.digraph.specs.Counts.{one, count_of}
use Rattle.digraph.specs.declared.worklist.Worklist.{Worklist}
use Rattle.digraph.specs.Marks.{IsMarked}

abbrev pub HasNode : Worklist → ℕ → Type 0
HasNode w n = IsMarked w.marked.items n

abbrev pub Waits : Worklist → ℕ → Type 0
Waits w n = Contains w.waiting.items n

-- at most how often a node can still be taken
abbrev pub left : Worklist → ℕ
left w = count_by not w.marked.items + length w.waiting.items

-- 1 for a marked node
abbrev pub mark : Worklist → ℕ → ℕ
mark w n = one (slice_index_or w.marked.items n false)

pub record IsEmptyWorklist (w : Worklist) (count : ℕ) : Type 0 where
  pub len : length w.marked.items ≡ count
  pub none : (n : ℕ) → HasNode w n → ⊥
  pub waits : w.waiting.items ≡ []

pub record Adds (old new : Worklist) (nodes : List ℕ) : Type 0 where
  pub len : length new.marked.items ≡ length old.marked.items
  pub has : (n : ℕ) → Contains nodes n → HasNode new n
  pub keeps : (n : ℕ) → HasNode old n → HasNode new n
  pub only : (n : ℕ) → HasNode new n → HasNode old n ⊎ Contains nodes n
  pub waits : (n : ℕ) → Waits old n → Waits new n
  pub fresh : (n : ℕ) → HasNode new n → HasNode old n ⊎ Waits new n
  pub news : (n : ℕ) → Waits new n → Waits old n ⊎ (HasNode old n → ⊥)
  pub counts : (n : ℕ) → count_of n new.waiting.items + mark old n ≡ count_of n old.waiting.items + mark new n
  pub work : left new ≤ left old

pub record Takes (old new : Worklist) (node : ℕ) : Type 0 where
  pub in_range : node < length old.marked.items
  pub has : HasNode old node
  pub waited : Waits old node
  pub rest : (n : ℕ) → Waits old n → Waits new n ⊎ (n ≡ node)
  pub less : (n : ℕ) → Waits new n → Waits old n
  pub counts : (n : ℕ) → count_of n old.waiting.items ≡ count_of n new.waiting.items + one (nat_eq n node)
  pub work : left new < left old

pub record IsDone (w : Worklist) : Type 0 where
  pub done : (n : ℕ) → Waits w n → ⊥
