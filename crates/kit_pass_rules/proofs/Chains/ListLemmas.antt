-- Lists one after the other, their members, and the results of operations.
use Rattle.std.proofs.Common.{◌≡◌, ◌⊎◌, ⊎_elim, inl, inr, ℕ, zero, suc, ◌+◌, ◌<◌, ◌≤◌, List, [], ◌∷◌, ◌++◌, map, take}
use Rattle.std.proofs.Common.{length, Some, slice_get, refl, ap, ◌∙◌, arith}
use Rattle.ir_program.specs.declared.handles.Value.{Value}
use Rattle.ir_trees.specs.Stands.{by_handle, in_program}
use Rattle.ir_trees.specs.Trees.{Head}
use Rattle.kit.specs.Context.{KitTree}
use Rattle.kit.specs.Meaning.{KitOperation, KitBlock}
use Rattle.kit_checks.specs.Words.{values_of, results_of}
use Rattle.opt_trees.specs.Occurrences.{Has}
use Rattle.opt_trees.proofs.Lists.{none_some}
use Rattle.opt_trees.proofs.NoneDead.{has-append, has-left, has-right}

-- an index behind the first list is one of the second
pub record Behind {X : Type 0} (xs ys : List X) (k : ℕ) (x : X) : Type 0 where
  pub place : ℕ
  pub here : slice_get ys place ≡ Some x
  pub index : k ≡ length xs + place

pub get_append : {X : Type 0} (xs ys : List X) (k : ℕ) (x : X) → slice_get (xs ++ ys) k ≡ Some x →
    (slice_get xs k ≡ Some x) ⊎ Behind xs ys k x
get_append [] ys k x e = inr (record { place = k; here = e; index = omega arith })
get_append (z ∷ xs) ys zero x e = inl e
get_append (z ∷ xs) ys (suc k) x e = ⊎_elim (λ a. inl a)
    (λ b. inr (record { place = b.place; here = b.here; index = omega (arith, b.index) })) (get_append xs ys k x e)

pub get_below : {X : Type 0} (xs : List X) (k : ℕ) (x : X) → slice_get xs k ≡ Some x → k < length xs
get_below [] k x e = absurd (none_some x e)
get_below (y ∷ xs) zero x e = omega arith
get_below (y ∷ xs) (suc k) x e = let h = get_below xs k x e in omega (arith, h)

pub length_append : {X : Type 0} (xs ys : List X) → length (xs ++ ys) ≡ length xs + length ys
length_append [] ys = omega arith
length_append (x ∷ xs) ys = let e : length (xs ++ ys) ≡ length xs + length ys = length_append xs ys in omega (arith, e)

pub take_front : {X : Type 0} (xs ys : List X) (k : ℕ) → k ≤ length xs → take k (xs ++ ys) ≡ take k xs
take_front xs ys zero h = refl
take_front [] ys (suc k) h = absurd (omega (arith, h))
take_front (x ∷ xs) ys (suc k) h = ap (λ l. x ∷ l) (take_front xs ys k (omega (arith, h)))

pub take_behind : {X : Type 0} (xs ys : List X) (k j : ℕ) → k ≡ length xs + j → take k (xs ++ ys) ≡ xs ++ take j ys
take_behind [] ys k j h = let e : k ≡ j = omega (arith, h) in ap (λ n. take n ys) e
take_behind (x ∷ xs) ys zero j h = absurd (omega (arith, h))
take_behind (x ∷ xs) ys (suc k) j h = ap (λ l. x ∷ l) (take_behind xs ys k j (omega (arith, h)))

pub has_take : {X : Type 0} (xs : List X) (k : ℕ) (x : X) → Has x (take k xs) → Has x xs
has_take xs zero x h = absurd h
has_take [] (suc k) x h = absurd h
has_take (y ∷ xs) (suc k) x h = ⊎_elim (λ e. inl e) (λ t. inr (has_take xs k x t)) h

-- ---- results

abbrev pub KitHead : Type 0
KitHead = Head by_handle (in_program KitOperation KitBlock)

-- the heads of operations
abbrev pub heads : List KitTree → List KitHead
heads us = map (λ (u : KitTree). u.head) us

-- what operations with these heads define
abbrev pub defined_by : List KitHead → List Value
defined_by [] = []
defined_by (h ∷ hs) = values_of h.results ++ defined_by hs

pub results_are : (us : List KitTree) → results_of us ≡ defined_by (heads us)
results_are [] = refl
results_are (u ∷ us) = ap (λ l. values_of u.head.results ++ l) (results_are us)

pub take_heads : (us : List KitTree) (k : ℕ) → heads (take k us) ≡ take k (heads us)
take_heads us zero = refl
take_heads [] (suc k) = refl
take_heads (u ∷ us) (suc k) = ap (λ l. u.head ∷ l) (take_heads us k)

pub results_taken : (us : List KitTree) (k : ℕ) → results_of (take k us) ≡ defined_by (take k (heads us))
results_taken us k = results_are (take k us) ∙ ap defined_by (take_heads us k)

pub defined_left : (v : Value) (xs ys : List KitHead) → Has v (defined_by xs) → Has v (defined_by (xs ++ ys))
defined_left v [] ys h = absurd h
defined_left v (x ∷ xs) ys h = ⊎_elim
    (λ a. has-left v (values_of x.results) (defined_by (xs ++ ys)) a)
    (λ b. has-right v (values_of x.results) (defined_by (xs ++ ys)) (defined_left v xs ys b))
    (has-append v (values_of x.results) (defined_by xs) h)

pub defined_right : (v : Value) (xs ys : List KitHead) → Has v (defined_by ys) → Has v (defined_by (xs ++ ys))
defined_right v [] ys h = h
defined_right v (x ∷ xs) ys h = has-right v (values_of x.results) (defined_by (xs ++ ys)) (defined_right v xs ys h)

-- a result is one of an operation
pub definer : (v : Value) (us : List KitTree) → Has v (defined_by (heads us)) →
    (k : ℕ) × (u : KitTree) × (slice_get us k ≡ Some u) × Has v (values_of u.head.results)
definer v [] h = absurd h
definer v (u ∷ us) h = ⊎_elim (λ a. (0, u, refl, a))
    (λ b. let d = definer v us b in (suc d.0, d.1, d.2, d.3))
    (has-append v (values_of u.head.results) (defined_by (heads us)) h)

pub defined_take : (v : Value) (hs : List KitHead) (k : ℕ) → Has v (defined_by (take k hs)) → Has v (defined_by hs)
defined_take v hs zero h = absurd h
defined_take v [] (suc k) h = absurd h
defined_take v (x ∷ hs) (suc k) h = ⊎_elim
    (λ a. has-left v (values_of x.results) (defined_by hs) a)
    (λ b. has-right v (values_of x.results) (defined_by hs) (defined_take v hs k b))
    (has-append v (values_of x.results) (defined_by (take k hs)) h)
