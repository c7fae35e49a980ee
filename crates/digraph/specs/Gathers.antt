-- What is gathered from a root: all that is unmarked and reached by nodes that were unmarked.
use Rattle.std.specs.Prelude.{◌≡◌, ◌⊎◌, ℕ, ◌≤◌, Bool, List, [], length, Contains}
use Rattle.digraph.specs.declared.worklist.Worklist.{Worklist}
use Rattle.digraph.specs.Marks.{IsMarked}
use Rattle.digraph.specs.Counts.{count_of}
use Rattle.digraph.specs.Work.{HasNode}

-- a path over nodes that have no mark
pub data LeadsUnmarked (next : ℕ → List ℕ) (w : Worklist) (a : ℕ) : ℕ → Type 0 where
  Begin : (HasNode w a → ⊥) → LeadsUnmarked next w a a
  Go : {b c : ℕ} → LeadsUnmarked next w a b → Contains (next b) c → (HasNode w c → ⊥) → LeadsUnmarked next w a c

pub record Gathers (next : ℕ → List ℕ) (root : ℕ) (old new : Worklist) (part : List ℕ) : Type 0 where
  pub len : length new.marked.items ≡ length old.marked.items
  pub waits : new.waiting.items ≡ []
  pub keeps : (n : ℕ) → HasNode old n → HasNode new n
  pub cases : (n : ℕ) → HasNode new n → HasNode old n ⊎ Contains part n
  pub marked : (n : ℕ) → Contains part n → HasNode new n
  pub sound : (HasNode old root → ⊥) → (n : ℕ) → Contains part n → LeadsUnmarked next old root n
  pub begun : HasNode new root
  pub closed : (n m : ℕ) → Contains part n → Contains (next n) m → HasNode new m
  pub once : (n : ℕ) → count_of n part ≤ 1

abbrev pub AnyUnmarked : List Bool → List ℕ → Type 0
AnyUnmarked marked nodes = (n : ℕ) × Contains nodes n × (IsMarked marked n → ⊥)
