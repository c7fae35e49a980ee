-- What is left of sizes and of names, where operands or arguments go.
use Rattle.std.proofs.Common.{◌≡◌, ℕ, zero, suc, ◌+◌, ◌<◌, ◌≤◌, Bool, true, false, List, [], ◌∷◌, Option, length}
use Rattle.std.proofs.Common.{refl, sym, ap, ◌∙◌, subst, arith}
use Rattle.std.specs.Prelude.{if◌then◌else◌, slice_index, slice_set}
use Rattle.std.proofs.lemmas.List.{set-get_or}
use Rattle.std.specs.Global.{Vec}
use Rattle.std.specs.Vec.{with_item}
use mathlib.Core.HLevel.{is_prop→PathP}
use Rattle.std.proofs.Math.Nat.{ℕ_set}
use Rattle.std.proofs.Math.Bridge.{le_prop}
use Rattle.ir_names.specs.declared.identifier.Identifier.{Identifier}
use Rattle.opt_trees.specs.Dialect.{drop}

-- how many of so many indices from the first one on stay
abbrev pub kept : (ℕ → Bool) → ℕ → ℕ → ℕ
kept p s zero = 0
kept p s (suc n) = if p s then kept p (suc s) n else suc (kept p (suc s) n)

-- the sizes of a conditional branch's segments, behind its condition, less what goes of each
abbrev pub less_sizes : (ℕ → Bool) → Vec ℕ → Vec ℕ
less_sizes p v =
    with_item (with_item v 1 (kept p 1 (slice_index v.items 1))) 2
    (kept p (1 + slice_index v.items 1) (slice_index v.items 2))

-- no more are left than there were
pub dropped_below : {X : Type 0} (p : ℕ → Bool) (xs : List X) → length (drop p xs) ≤ length xs
dropped_below p [] = omega arith
dropped_below {X} p (x ∷ xs) = step (p 0) (drop (λ i. p (suc i)) xs) (dropped_below (λ i. p (suc i)) xs)
  where
    step : (b : Bool) (ys : List X) → length ys ≤ length xs → length (if b then ys else x ∷ ys) ≤ suc (length xs)
    step true ys h = omega arith
    step false ys h = omega arith

-- what is no more than what fits, fits
pub fits : (a b c d : ℕ) → a ≤ b → c ≡ b → c ≤ d → a ≤ d
fits a b c d h e f = omega arith

-- the names without those that go, in the same memory
abbrev pub less_names : (ℕ → Bool) → Vec (Option Identifier) → Vec (Option Identifier)
less_names p v = record {
  ptr = v.ptr;
  len = length (drop p v.items);
  cap = v.cap;
  alloc = v.alloc;
  items = drop p v.items;
  ok = (refl, fits (length (drop p v.items)) (length v.items) v.len v.cap (dropped_below p v.items) v.ok.0 v.ok.1);
  small = v.small;
}

-- vectors of the same elements in the same memory are the same
pub same_vec : {X : Type 0} (v w : Vec X) → v.ptr ≡ w.ptr → v.cap ≡ w.cap → v.items ≡ w.items → v ≡ w
same_vec v w p c e =
    let l : v.len ≡ w.len = v.ok.0 ∙ (ap length e ∙ sym w.ok.0) in
    λ i. record {
      ptr = p i;
      len = l i;
      cap = c i;
      alloc = v.alloc;
      items = e i;
      ok = is_prop→PathP (λ i. (l i ≡ length (e i)) × (l i ≤ c i))
          (λ i a b j. (ℕ_set _ _ a.0 b.0 j, le_prop a.1 b.1 j)) v.ok w.ok i;
      small = is_prop→PathP (λ i. c i < 9223372036854775808) (λ i a b j. le_prop a b j) v.small w.small i;
    }

set_past : (xs : List ℕ) (i n : ℕ) → length xs ≤ i → xs ≡ slice_set xs i n
set_past [] i n h = refl
set_past (x ∷ xs) zero n h = absurd (omega arith)
set_past (x ∷ xs) (suc i) n h = ap (λ ys. x ∷ ys) (set_past xs i n (omega arith))

-- nothing is written past the end
pub put_past : (v : Vec ℕ) (i n : ℕ) → v.len ≤ i → v ≡ with_item v i n
put_past v i n h =
    let b : length v.items ≤ i = subst (λ z. z ≤ i) v.ok.0 h in
    same_vec v (with_item v i n) refl refl (set_past v.items i n b)

all_stay : (s n : ℕ) → kept (λ i. false) s n ≡ n
all_stay s zero = refl
all_stay s (suc n) = ap suc (all_stay (suc s) n)

none_go : {X : Type 0} (xs : List X) → drop (λ i. false) xs ≡ xs
none_go [] = refl
none_go (x ∷ xs) = ap (λ ys. x ∷ ys) (none_go xs)

pub all_names : (v : Vec (Option Identifier)) → less_names (λ i. false) v ≡ v
all_names v = same_vec (less_names (λ i. false) v) v refl refl (none_go v.items)

pub all_sizes : (v : Vec ℕ) → less_sizes (λ i. false) v ≡ v
all_sizes v = same_vec (less_sizes (λ i. false) v) v refl refl (written v.items)
  where
    written : (xs : List ℕ)
        → slice_set (slice_set xs 1 (kept (λ i. false) 1 (slice_index xs 1))) 2
        (kept (λ i. false) (1 + slice_index xs 1) (slice_index xs 2)) ≡ xs
    written xs =
        (λ i. slice_set (slice_set xs 1 (all_stay 1 (slice_index xs 1) i)) 2
        (all_stay (1 + slice_index xs 1) (slice_index xs 2) i))
        ∙ ap (λ ys. slice_set ys 2 (slice_index xs 2)) (set-get_or xs 1 0) ∙ set-get_or xs 2 0

-- the second size is what is left of the second segment
pub second_left : (p : ℕ → Bool) (xs : List ℕ) (n : ℕ)
    → slice_index (slice_set (slice_set xs 1 (kept p 1 (slice_index xs 1))) 2 n) 1 ≡ kept p 1 (slice_index xs 1)
second_left p [] n = refl
second_left p (x ∷ []) n = refl
second_left p (x ∷ (y ∷ [])) n = refl
second_left p (x ∷ (y ∷ (z ∷ xs))) n = refl
