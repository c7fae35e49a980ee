-- Components of numbers that no edge leaves.
use Rattle.std.specs.Prelude.{◌≡◌, ◌⊎◌, ℕ, ◌≤◌, ◌<◌, List, [], ◌∷◌, ◌++◌, Bool, All, length, Contains}
use Rattle.digraph.specs.Graph.{Reaches}
use Rattle.digraph.specs.Marks.{IsMarked}
use Rattle.ir_graph.specs.Graphs.{AreDistinctNodes}

-- all that a number reaches reaches it too, and isn't greater
abbrev pub IsSinkEnd : (ℕ → List ℕ) → ℕ → Type 0
IsSinkEnd next n = (m : ℕ) → Reaches next n m → Reaches next m n × (m ≤ n)

-- the numbers below a count of which this holds, each once
pub record AreSinkEnds (next : ℕ → List ℕ) (count : ℕ) (ends : List ℕ) : Type 0 where
  pub only : (n : ℕ) → Contains ends n → (n < count) × IsSinkEnd next n
  pub all : (n : ℕ) → n < count → IsSinkEnd next n → Contains ends n
  pub once : AreDistinctNodes ends

-- one of the numbers is marked
abbrev pub AnyMarked : List Bool → List ℕ → Type 0
AnyMarked marks row = (n : ℕ) × Contains row n × IsMarked marks n

-- an edge leads from one of the numbers to a marked one
abbrev pub LeadsOut : (ℕ → List ℕ) → List Bool → List ℕ → Type 0
LeadsOut next marks row = (n m : ℕ) × Contains row n × Contains (next n) m × IsMarked marks m

-- some numbers are marked, and every other mark was there
pub record MarksAll (old new : List Bool) (row : List ℕ) : Type 0 where
  pub len : length new ≡ length old
  pub has : (n : ℕ) → Contains row n → IsMarked new n
  pub keeps : (n : ℕ) → IsMarked old n → IsMarked new n
  pub only : (n : ℕ) → IsMarked new n → IsMarked old n ⊎ Contains row n

-- What a component adds to the ends: nothing where an edge leads out or it has no node, else the greatest of its numbers.
pub data AddsEnd (next : ℕ → List ℕ) (marks : List Bool) (row old : List ℕ) : List ℕ → Type 0 where
  IsLeft : {new : List ℕ} → LeadsOut next marks row → new ≡ old → AddsEnd next marks row old new
  IsEmpty : {new : List ℕ} → length row ≡ 0 → new ≡ old → AddsEnd next marks row old new
  Ends : {new : List ℕ} (last : ℕ) → (LeadsOut next marks row → ⊥) → Contains row last → All (λ n. n ≤ last) row → new ≡ old ++ last ∷ [] → AddsEnd next marks row old new
