-- What is left of a block, and names.
use Rattle.std.proofs.Common.{◌≡◌, ℕ, zero, suc, ◌≤◌, Bool, true, List, [], ◌∷◌, length, Option, Some, None, arith}
use Rattle.std.specs.Prelude.{slice_get, drop}
use Rattle.kit_behaviour.specs.Machine.{Op, Block, Fun, Frame, left_in, ops_left}

-- a test that says which names are the same
pub record IsSameness {V : Type 0} (same : V → V → Bool) : Type 0 where
  pub true_same : (a b : V) → same a b ≡ true → a ≡ b
  pub same_true : (a : V) → same a a ≡ true

drop_next : {A : Type 0} (xs : List A) (i : ℕ) (x : A) (rest : List A) → drop i xs ≡ x ∷ rest → drop (suc i) xs ≡ rest
drop_next [] zero x rest e = absurd (cc e)
drop_next [] (suc i) x rest e = absurd (cc e)
drop_next (y ∷ ys) zero x rest e = cc e
drop_next (y ∷ ys) (suc i) x rest e = drop_next ys i x rest e

ops_next : {V : Type 0} (b : Option (Block V)) (i : ℕ) (op : Op V) (ops : List (Op V)) → ops_left b i ≡ op ∷ ops → ops_left b (suc i) ≡ ops
ops_next None i op ops e = absurd (cc e)
ops_next (Some b) i op ops e = drop_next b.ops i op ops e

pub left_next : {V : Type 0} (f : Option (Fun V)) (b i : ℕ) (op : Op V) (ops : List (Op V)) → left_in f b i ≡ op ∷ ops → left_in f b (suc i) ≡ ops
left_next None b i op ops e = absurd (cc e)
left_next (Some f) b i op ops e = ops_next (slice_get f b) i op ops e

drop_length : {A : Type 0} (xs : List A) (i : ℕ) → length (drop i xs) ≤ length xs
drop_length [] zero = omega arith
drop_length [] (suc i) = omega arith
drop_length (y ∷ ys) zero = omega arith
drop_length (y ∷ ys) (suc i) = omega (arith, drop_length ys i)

ops_length : {V : Type 0} (b : Option (Block V)) (i : ℕ) → length (ops_left b i) ≤ length (ops_left b 0)
ops_length None i = omega arith
ops_length (Some b) i = drop_length b.ops i

pub left-length : {V : Type 0} (f : Option (Fun V)) (b i : ℕ) → length (left_in f b i) ≤ length (left_in f b 0)
left-length None b i = omega arith
left-length (Some f) b i = ops_length (slice_get f b) i

-- a frame by its parts
abbrev pub fr : {V : Type 0} → List ℕ → ℕ → ℕ → (V → ℕ) → Frame V
fr path b i env = record { path = path; block = b; index = i; env = env }
