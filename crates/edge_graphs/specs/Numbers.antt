-- The numbers below a count as nodes.
use Rattle.std.specs.Prelude.{◌≡◌, ℕ, ◌<◌, ◌+◌, List, [], ◌∷◌, ◌++◌, Option, None, Some, IfSome, Bool, true, nat_eq, length, slice_get, Contains, ◌↔◌}
use Rattle.std.proofs.Common.{◌⊎◌, inl, inr, zero, suc, refl, sym, ap, ◌∙◌, subst, ⊎_elim, arith, add-one}
use Rattle.std.proofs.lemmas.Bool.{cases_lt}
use Rattle.std.proofs.lemmas.List.{length-append}
use Rattle.std.proofs.lemmas.List.Elements.{Contains-append_left, Contains-push, Contains-push_cases}
use Rattle.std.proofs.lemmas.Option.{slice_get_within, get_or_from_slice_get, none-some, same_Some}
use Rattle.std.specs.declared.vec.Vec.{Vec}
use Rattle.std.specs.declared.alloc.Global.{Global}
use Rattle.digraph.specs.Graph.{successors, InRange}
use Rattle.digraph.specs.Transpose.{AreTransposed}
use Rattle.ir_graph.proofs.Places.{push_cases}
use Rattle.ir_graph.specs.Graphs.{AreDistinctNodes}

-- these numbers, in order
abbrev pub numbers : ℕ → List ℕ
numbers zero = []
numbers (suc n) = numbers n ++ n ∷ []

-- the first of them
abbrev pub first_number : ℕ → Option ℕ
first_number zero = None
first_number (suc n) = Some 0

pub below : (k n : ℕ) → Contains (numbers k) n → n < k
below zero n c = absurd (omega (arith, c.1))
below (suc k) n c = ⊎_elim (λ a. let l = below k n a in omega (arith, l)) (λ e. omega (arith, e)) (Contains-push_cases (numbers k) k n c)

pub is_number : (k n : ℕ) → n < k → Contains (numbers k) n
is_number zero n h = absurd (omega (arith, h))
is_number (suc k) n h = ⊎_elim (λ e. subst (λ x. Contains (numbers k ++ k ∷ []) x) e (Contains-push (numbers k) k)) (λ l. Contains-append_left (numbers k) (k ∷ []) n (is_number k n l)) (last_or k n h)
  where
    last_or : (k n : ℕ) → n < suc k → (k ≡ n) ⊎ (n < k)
    last_or k n h = ⊎_elim (λ l. inr l) (λ l. inl (omega (arith, l, h))) (cases_lt n k)

counted : (k : ℕ) → length (numbers k) ≡ k
counted zero = refl
counted (suc k) = length-append (numbers k) (k ∷ []) ∙ ap (λ n. n + 1) (counted k) ∙ add-one k

-- each stands at its own place
itself : (k i n : ℕ) → slice_get (numbers k) i ≡ Some n → i ≡ n
itself zero i n e = absurd (none-some n e)
itself (suc k) i n e = ⊎_elim (λ a. itself k i n a) (λ b. b.0 ∙ counted k ∙ b.1) (push_cases (numbers k) k n i e)

pub numbers_distinct : (k : ℕ) → AreDistinctNodes (numbers k)
numbers_distinct k i j n a b = itself k i n a ∙ sym (itself k j n b)

pub first_in : (k : ℕ) → IfSome (first_number k) (λ n. Contains (numbers k) n)
first_in zero = tt
first_in (suc k) = is_number (suc k) 0 (omega arith)

row_within : (g : List (Vec ℕ Global)) (n m : ℕ) → Contains (successors g n) m → n < length g
row_within [] n m c = absurd (omega (arith, c.1))
row_within (row ∷ g) zero m c = omega arith
row_within (row ∷ g) (suc n) m c = let l = row_within g n m c in omega (arith, l)

module _ (g r : List (Vec ℕ Global)) (range : InRange g) (turned : AreTransposed g r) where
  pub row_there : (n m : ℕ) → Contains (successors g n) m → n < length g
  row_there n m c = row_within g n m c

  pub onward_in : (n m : ℕ) → Contains (numbers (length g)) n → Contains (successors g n) m → Contains (numbers (length g)) m
  onward_in n m c d = is_number (length g) m (range n m d)

  pub backward_in : (n m : ℕ) → Contains (numbers (length g)) n → Contains (successors r n) m → Contains (numbers (length g)) m
  backward_in n m c d = is_number (length g) m (row_there m n (turned.back m n d))

  pub converse_of : (n m : ℕ) → Contains (numbers (length g)) n → Contains (numbers (length g)) m → Contains (successors r m) n ↔ Contains (successors g n) m
  converse_of n m c d = ((λ h. turned.back n m h), (λ h. turned.there n m h))

pub same_number : (n m : ℕ) → nat_eq n m ≡ true → n ≡ m
same_number n m e = grind arith
