-- What a search over numbers found.
use Rattle.std.specs.Prelude.{ℕ, List, [], ◌∷◌, ◌++◌, map}
use Rattle.std.specs.declared.vec.Vec.{Vec}
use Rattle.std.specs.declared.alloc.Global.{Global}
use Rattle.digraph.specs.declared.orders.Orders.{Orders}
use Rattle.digraph.specs.Visits.{Traversal, VisitsApart}

abbrev pub order_of : Orders → Traversal ℕ
order_of o = record { seen = o.pre.items; left = o.post.items }

-- the rows as lists
abbrev pub rows_of : List (Vec ℕ Global) → List (List ℕ)
rows_of rows = map (λ (row : Vec ℕ Global). row.items) rows

-- one more root is visited, and its component, if it begins one, is behind those of the roots before it
abbrev pub AddsComponent : (ℕ → List ℕ) → Traversal ℕ → Traversal ℕ → List (List ℕ) → List (List ℕ) → ℕ → Type 0
AddsComponent next p q before after root = (o : Traversal ℕ) (roots : List ℕ) → VisitsApart next o roots before p → VisitsApart next o (roots ++ root ∷ []) after q
