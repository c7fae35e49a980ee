-- Places in lists by a test of sameness.
use Rattle.std.proofs.Common.{◌≡◌, ◌≢◌, ◌⊎◌, inl, inr, ⊎_elim, ℕ, zero, suc, ◌+◌, ◌≤◌, Bool, true, false, List, [], ◌∷◌, length, cond, None, Some, slice_get, refl, sym, ap, ◌∙◌, subst, arith}
use Rattle.std.specs.Prelude.{not, nat_lt}
use Rattle.std.specs.List.{position, position_or_len}
use Rattle.std.proofs.lemmas.Option.{none-some, same_Some}
use Rattle.std.proofs.lemmas.List.Sums.{prefix_len-le-length}
use Rattle.ir_program.proofs.used.Renames.{IsTestOf}
use Rattle.ir_trees.specs.Searched.{Lists, AreDistinct}

-- what is not below is not less
not_less : (a b : ℕ) → nat_lt a b ≡ false → b ≤ a
not_less a b e = grind arith

-- where nothing passes, the place is behind the list
pub no_place : {X : Type 0} (p : X → Bool) (xs : List X) → None ≡ position p xs → position_or_len p xs ≡ length xs
no_place {X} p xs e = go (nat_lt (position_or_len p xs) (length xs)) refl e
  where
    go : (b : Bool) → nat_lt (position_or_len p xs) (length xs) ≡ b → None ≡ cond b (Some (position_or_len p xs)) None → position_or_len p xs ≡ length xs
    go true is h = cc
    go false is h = let l = not_less (position_or_len p xs) (length xs) is in let m = prefix_len-le-length (λ x. not (p x)) xs in omega (arith, l, m)

-- where one passes, the first is at the place
pub a_place : {X : Type 0} (p : X → Bool) (xs : List X) (i : ℕ) → Some i ≡ position p xs → i ≡ position_or_len p xs
a_place {X} p xs i e = go (nat_lt (position_or_len p xs) (length xs)) e
  where
    go : (b : Bool) → Some i ≡ cond b (Some (position_or_len p xs)) None → i ≡ position_or_len p xs
    go true h = cc
    go false h = cc

module _ {X : Type 0} (same : X → X → Bool) (test : IsTestOf same) where
  -- what is listed stands at its place
  pub placed : (xs : List X) (x : X) → Lists xs x → slice_get xs (position_or_len (same x) xs) ≡ Some x
  placed [] x h = absurd (none-some x h.1)
  placed (y ∷ ys) x h = ⊎_elim
      (λ (e : x ≡ y). subst (λ b. slice_get (y ∷ ys) (cond (not b) (1 + position_or_len (same x) ys) 0) ≡ Some x) (sym (test.yes x y e)) (ap Some (sym e)))
      (λ (ne : x ≢ y). subst (λ b. slice_get (y ∷ ys) (cond (not b) (1 + position_or_len (same x) ys) 0) ≡ Some x) (sym (test.no x y ne))
      (let one : suc (position_or_len (same x) ys) ≡ 1 + position_or_len (same x) ys = omega arith in
      subst (λ k. slice_get (y ∷ ys) k ≡ Some x) one (placed ys x (behind h.0 h.1 ne))))
      (test.decide x y)
    where
      behind : (k : ℕ) → slice_get (y ∷ ys) k ≡ Some x → x ≢ y → Lists ys x
      behind zero e ne = absurd (ne (same_Some x y (sym e)))
      behind (suc k) e ne = (k, e)

  -- what isn't listed has the place behind the list
  pub unplaced : (xs : List X) (x : X) → (Lists xs x → ⊥) → position_or_len (same x) xs ≡ length xs
  unplaced [] x h = refl
  unplaced (y ∷ ys) x h = subst (λ b. cond (not b) (1 + position_or_len (same x) ys) 0 ≡ suc (length ys)) (sym (test.no x y (λ e. h (0, ap Some (sym e)))))
      (let r = unplaced ys x (λ l. h (suc l.0, l.1)) in omega (arith, r))

  -- it is listed, or not
  pub listed_or_not : (xs : List X) (x : X) → Lists xs x ⊎ (Lists xs x → ⊥)
  listed_or_not [] x = inr (λ h. none-some x h.1)
  listed_or_not (y ∷ ys) x = ⊎_elim
      (λ (e : x ≡ y). inl (0, ap Some (sym e)))
      (λ (ne : x ≢ y). ⊎_elim (λ (l : Lists ys x). inl (suc l.0, l.1)) (λ (out : Lists ys x → ⊥). inr (λ h. later h.0 h.1 ne out)) (listed_or_not ys x))
      (test.decide x y)
    where
      later : (k : ℕ) → slice_get (y ∷ ys) k ≡ Some x → x ≢ y → (Lists ys x → ⊥) → ⊥
      later zero e ne out = ne (same_Some x y (sym e))
      later (suc k) e ne out = out (k, e)

  -- in a list without repeats each index is the place of what stands there
  pub own_place : (xs : List X) → AreDistinct xs → (i : ℕ) (x : X) → slice_get xs i ≡ Some x → position_or_len (same x) xs ≡ i
  own_place xs distinct i x h = distinct (position_or_len (same x) xs) i x (placed xs x (i, h)) h

  -- one place, one of the list
  pub one_place : (xs : List X) (x y : X) → Lists xs x → Lists xs y → position_or_len (same x) xs ≡ position_or_len (same y) xs → x ≡ y
  one_place xs x y a b e = same_Some x y (sym (placed xs x a) ∙ ap (slice_get xs) e ∙ placed xs y b)

-- a place is within the list or behind it
pub place_within : {X : Type 0} (same : X → X → Bool) (xs : List X) (x : X) → position_or_len (same x) xs ≤ length xs
place_within same xs x = prefix_len-le-length (λ y. not (same x y)) xs
