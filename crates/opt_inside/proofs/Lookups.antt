-- Items of lists found by tests of equality.
use Rattle.std.proofs.Common.{◌≡◌, ◌↔◌, inl, inr, ⊎_elim, ℕ, zero, suc, ◌<◌, ◌≤◌, Bool, true, false, true≢false, cond, List, [], ◌∷◌, ◌++◌, length, take, Option, Some, None, get_or, slice_get, refl, sym, ap, ◌∙◌, subst, arith}
use Rattle.std.specs.Prelude.{is_some, nat_lt, if◌then◌else◌}
use Rattle.std.specs.List.{list_any, position, position_or_len}
use Rattle.std.proofs.lemmas.Option.{get_or_from_slice_get, slice_get-get_or, slice_get_within}
use Rattle.std.proofs.lemmas.List.Folds.{list_any_at}
use Rattle.std.proofs.lemmas.List.Sums.{fails_before_first}
use Rattle.std.proofs.lemmas.List.Quantifiers.{position-Some}
use Rattle.indexmap.specs.IndexSet.{insert_key}
use Rattle.ir_trees.specs.Searched.{AreDistinct}
use Rattle.ir_trees.proofs.Members.{has_at}
use Rattle.opt_trees.specs.Occurrences.{Has}

-- none of the second list is one of the first
abbrev pub AreNew : {X : Type 0} → List X → List X → Type 0
AreNew {X} all xs = (x : X) → Has x xs → Has x all → ⊥

not_less : (a b : ℕ) → nat_lt a b ≡ false → b ≤ a
not_less a b e = grind arith

module _ {X : Type 0} where
  taken_at : (xs : List X) (n : ℕ) (x : X) → Has x (take n xs) → (j : ℕ) × (j < n) × (slice_get xs j ≡ Some x)
  taken_at [] zero x h = absurd h
  taken_at [] (suc n) x h = absurd h
  taken_at (y ∷ xs) zero x h = absurd h
  taken_at (y ∷ xs) (suc n) x h = ⊎_elim (λ e. (0, omega arith, ap Some (sym e))) (λ r. let g = taken_at xs n x r in (suc g.0, omega (arith, g.1), g.2)) h

  -- of distinct items, the next one isn't among those before it
  pub next_new : (before xs : List X) (k : ℕ) (x : X) → before ≡ take k xs → AreDistinct xs → slice_get xs k ≡ Some x → AreNew before (x ∷ [])
  next_new before xs k x is distinct at y is_x has = ⊎_elim
      (λ (e : y ≡ x).
      let g = taken_at xs k y (subst (Has y) is has) in
      let same : g.0 ≡ k = distinct g.0 k x (g.2 ∙ ap Some e) at in absurd (omega (arith, g.1, same)))
      (λ n. n)
      is_x

  -- where no item passes, none is at any index
  nowhere : (p : X → Bool) (xs : List X) (n : ℕ) (x : X) → position p xs ≡ None → slice_get xs n ≡ Some x → p x ≡ true → ⊥
  nowhere p xs n x none at passes = by (nat_lt (position_or_len p xs) (length xs)) refl none (slice_get_within xs n x at) (ap p (get_or_from_slice_get xs n x x at) ∙ passes)
    where
      by : (b : Bool) → nat_lt (position_or_len p xs) (length xs) ≡ b → cond b (Some (position_or_len p xs)) None ≡ None → n < length xs → p (get_or xs n x) ≡ true → ⊥
      by true is e within passes = cc
      by false is e within passes =
          let behind = not_less (position_or_len p xs) (length xs) is in
          true≢false (sym passes ∙ fails_before_first p xs n x (omega (arith, behind, within)))

module _ {X : Type 0} (eq : X → X → Bool) (same : (a b : X) → eq a b ≡ true → a ≡ b) where
  none_equal : (keys : List X) (x : X) → (Has x keys → ⊥) → list_any (eq x) keys ≡ false
  none_equal [] x lacks = refl
  none_equal (k ∷ ks) x lacks = go (eq x k) refl (none_equal ks x (λ h. lacks (inr h)))
    where
      go : (b : Bool) → eq x k ≡ b → list_any (eq x) ks ≡ false → list_any (eq x) (k ∷ ks) ≡ false
      go true q r = absurd (lacks (inl (same x k q)))
      go false q r = cc

  -- a set gets an item that it lacks behind the others
  pub added : (keys after : List X) (x : X) → AreNew keys (x ∷ []) → after ≡ insert_key eq keys x → after ≡ keys ++ x ∷ []
  added keys after x lacks is = is ∙ ap (λ t. if t then keys else keys ++ x ∷ []) (none_equal keys x (lacks x (inl refl)))

  module _ (own : (a : X) → eq a a ≡ true) (xs : List X) (x : X) where
    equal_there : (n : ℕ) → slice_get xs n ≡ Some x → list_any (eq x) xs ≡ true
    equal_there n at = list_any_at (eq x) xs n x (slice_get_within xs n x at) (ap (eq x) (get_or_from_slice_get xs n x x at) ∙ own x)

    -- the number of an item is that of the first that is equal to it
    pub number_is : (r : Option ℕ) → ((n : ℕ) → r ≡ Some n ↔ slice_get xs n ≡ Some x) → r ≡ position (eq x) xs
    number_is r exact = by (position (eq x) xs) refl r refl
      where
        by : (o : Option ℕ) → position (eq x) xs ≡ o → (s : Option ℕ) → r ≡ s → r ≡ o
        by (Some n) is s e =
            let first = position-Some (eq x) xs n x is in
            let there : slice_get xs n ≡ Some x = slice_get-get_or xs n x first.0 ∙ ap Some (sym (same x (get_or xs n x) first.1)) in
            (exact n).1 there
        by None is None e = e
        by None is (Some n) e = absurd (nowhere (eq x) xs n x is ((exact n).0 e) (own x))

    -- it is there where one that is equal is
    pub number_found : (r : Option ℕ) → ((n : ℕ) → r ≡ Some n ↔ slice_get xs n ≡ Some x) → is_some r ≡ list_any (eq x) xs
    number_found (Some n) exact = sym (equal_there n ((exact n).0 refl))
    number_found None exact = sym (none_equal xs x (λ has. let at = has_at xs x has in let e : None ≡ Some at.0 = (exact at.0).1 at.1 in cc))
