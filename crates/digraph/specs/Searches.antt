-- The state of a walk with a stack, and what is left to do in it.
use Rattle.std.specs.Prelude.{◌≡◌, ◌⊎◌, ℕ, ◌+◌, ◌-◌, ◌<◌, List, [], ◌∷◌, ◌++◌, Bool, true, false, All, Contains, length, drop, reverse, slice_set}
use Rattle.std.specs.declared.vec.Vec.{Vec}
use Rattle.std.specs.declared.alloc.Global.{Global}
use Rattle.digraph.specs.Graph.{successors}
use Rattle.digraph.specs.Marks.{IsMarked}
use Rattle.digraph.specs.declared.search.Open.{Open}
use Rattle.digraph.specs.declared.search.Search.{Search}
use Rattle.digraph.specs.Visits.{Traversal, leave, Visits}

abbrev pub orders : Search → Traversal ℕ
orders s = record { seen = s.pre.items; left = s.post.items }

abbrev pub stack : Search → List Open
stack s = reverse s.path.items

-- what is left to do leads from one order to another: the rest of each open node, and then some nodes
abbrev pub Resumes : (ℕ → List ℕ) → Traversal ℕ → List Open → List ℕ → Traversal ℕ → Type 0
Resumes next o [] ns q = Visits next o ns q
Resumes next o (f ∷ fs) ns q = (p : Traversal ℕ) × Visits next o (drop f.next (next f.node)) p × Resumes next (leave f.node p) fs ns q

-- an unseen node costs one step for each edge and one to leave it
abbrev pub unseen_work : List (Vec ℕ Global) → List Bool → ℕ
unseen_work [] ms = 0
unseen_work (row ∷ g) [] = 0
unseen_work (row ∷ g) (true ∷ ms) = unseen_work g ms
unseen_work (row ∷ g) (false ∷ ms) = (length row.items + 1) + unseen_work g ms

abbrev pub open_work : List (Vec ℕ Global) → List Open → ℕ
open_work g [] = 0
open_work g (f ∷ fs) = ((length (successors g f.node) - f.next) + 1) + open_work g fs

abbrev pub work : List (Vec ℕ Global) → Search → ℕ
work g s = unseen_work g s.seen.items + open_work g (stack s)

pub record IsSearch (g : List (Vec ℕ Global)) (s : Search) : Type 0 where
  pub len : length s.seen.items ≡ length g
  pub seen : (n : ℕ) → IsMarked s.seen.items n → Contains s.pre.items n
  pub marked : (n : ℕ) → Contains s.pre.items n → IsMarked s.seen.items n
  pub open_in : All (λ (f : Open). f.node < length g) s.path.items

pub record IsNewSearch (s : Search) (count : ℕ) : Type 0 where
  pub len : length s.seen.items ≡ count
  pub none : (n : ℕ) → IsMarked s.seen.items n → ⊥
  pub pre : s.pre.items ≡ []
  pub post : s.post.items ≡ []
  pub open_none : s.path.items ≡ []

pub record SeenBefore (a b : Search) (node : ℕ) : Type 0 where
  pub before : IsMarked a.seen.items node
  pub seen : b.seen.items ≡ a.seen.items
  pub pre : b.pre.items ≡ a.pre.items
  pub post : b.post.items ≡ a.post.items
  pub open_same : b.path.items ≡ a.path.items

pub record SeenNow (a b : Search) (node : ℕ) : Type 0 where
  pub before : IsMarked a.seen.items node → ⊥
  pub seen : b.seen.items ≡ slice_set a.seen.items node true
  pub pre : b.pre.items ≡ a.pre.items ++ node ∷ []
  pub post : b.post.items ≡ a.post.items
  pub open_more : b.path.items ≡ a.path.items ++ record { node = node; next = 0 } ∷ []

abbrev pub Enters : Search → Search → ℕ → Type 0
Enters a b node = SeenBefore a b node ⊎ SeenNow a b node

pub record Goes (g : List (Vec ℕ Global)) (a b : Search) : Type 0 where
  pub search : IsSearch g b
  pub back : (ns : List ℕ) (q : Traversal ℕ) → Resumes (successors g) (orders b) (stack b) ns q → Resumes (successors g) (orders a) (stack a) ns q
  pub work : work g b < work g a

pub record RestsUnchanged (a b : Search) : Type 0 where
  pub seen : b.seen.items ≡ a.seen.items
  pub pre : b.pre.items ≡ a.pre.items
  pub post : b.post.items ≡ a.post.items
  pub open_none : a.path.items ≡ []
  pub open_same : b.path.items ≡ []
