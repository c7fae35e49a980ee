-- A walk leads to one order alone.
use Rattle.std.proofs.Common.{◌≡◌, ℕ, List, refl, sym, subst}
use Rattle.digraph.specs.Visits.{Traversal, leave, Visits, Nothing, Passes, Enters}

module _ (next : ℕ → List ℕ) where
  pub one : {o p q : Traversal ℕ} {ns : List ℕ} → Visits next o ns p → Visits next o ns q → p ≡ q
  one Nothing Nothing = refl
  one (Passes c v) (Passes d w) = one v w
  one (Passes c v) (Enters f x y) = absurd (f c)
  one (Enters f v w) (Passes d x) = absurd (f d)
  one (Enters {q = p'} {n = n} {ns = ns} f v w) (Enters {p = b} {q = q} g x y) = one w (subst (λ m. Visits next (leave n m) ns q) (sym (one v x)) y)
