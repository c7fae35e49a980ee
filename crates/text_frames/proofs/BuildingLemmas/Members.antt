-- Members of lists by index, and lists that go side by side.
use Rattle.std.proofs.Common.{◌≡◌, ◌≢◌, ◌⊎◌, inl, inr, ⊎_elim, ℕ, zero, suc, ◌+◌, ◌<◌, List, [], ◌∷◌, ◌++◌, Option, Some, None, option_map, slice_get, length, take, refl, sym, ap, ◌∙◌, subst, arith}
use Rattle.std.proofs.lemmas.List.{append-nil, append_assoc, take_more}
use Rattle.std.proofs.lemmas.Option.{slice_get_within, get_or_from_slice_get}
use Rattle.ir_print.specs.Shown.{Pairs}
use Rattle.ir_program.specs.declared.handles.Ptr.{Ptr}
use Rattle.ir_program.proofs.made.Frames.{same_or_not}
use Rattle.text_frames.proofs.BuildingLemmas.Options.{no_some, same_some}

-- what is in two lists one after the other is in one of them
pub in_append : {X : Type 0} (xs ys : List X) (k : ℕ) (x : X) → slice_get (xs ++ ys) k ≡ Some x → (slice_get xs k ≡ Some x) ⊎ ((j : ℕ) × (slice_get ys j ≡ Some x))
in_append [] ys k x e = inr (k, e)
in_append (y ∷ xs) ys zero x e = inl e
in_append (y ∷ xs) ys (suc k) x e = in_append xs ys k x e

-- one more of a list
pub take_step : {X : Type 0} (xs : List X) (i : ℕ) (x : X) → slice_get xs i ≡ Some x → take (i + 1) xs ≡ take i xs ++ x ∷ []
take_step xs i x e = take_more xs i x (slice_get_within xs i x e) ∙ ap (λ y. take i xs ++ y ∷ []) (get_or_from_slice_get xs i x x e)

-- what is in a front of a list is in the list
pub at_take : {X : Type 0} (xs : List X) (i k : ℕ) (x : X) → slice_get (take i xs) k ≡ Some x → (k < i) × (slice_get xs k ≡ Some x)
at_take [] zero k x e = no_some x e
at_take [] (suc i) k x e = no_some x e
at_take (y ∷ ys) zero k x e = no_some x e
at_take (y ∷ ys) (suc i) zero x e = (omega arith, e)
at_take (y ∷ ys) (suc i) (suc k) x e = let r : (k < i) × (slice_get ys k ≡ Some x) = at_take ys i k x e in (let l : k < i = r.0 in omega arith, r.1)

-- a handle is in a list at some index, or not in it
pub found_or_not : {E : Type 0} (p : Ptr E) (xs : List (Ptr E)) → ((k : ℕ) × (slice_get xs k ≡ Some p)) ⊎ ((k : ℕ) → slice_get xs k ≢ Some p)
found_or_not p [] = inr (λ k e. no_some p e)
found_or_not {E} p (x ∷ xs) = ⊎_elim
    (λ (e : p ≡ x). inl (zero, ap Some (sym e)))
    (λ (ne : p ≢ x). ⊎_elim (λ (r : (k : ℕ) × (slice_get xs k ≡ Some p)). inl (suc r.0, r.1)) (λ (none : (k : ℕ) → slice_get xs k ≢ Some p). inr (not_first p x xs ne none)) (found_or_not p xs))
    (same_or_not p x)
  where
    not_first : {E : Type 0} (p x : Ptr E) (xs : List (Ptr E)) → p ≢ x → ((k : ℕ) → slice_get xs k ≢ Some p) → (k : ℕ) → slice_get (x ∷ xs) k ≢ Some p
    not_first p x xs ne none zero e = let s : p ≡ x = cc in ne s
    not_first p x xs ne none (suc k) e = none k e

pub nothing_more : {X : Type 0} (o : Option (List X)) → option_map (λ (were : List X). were ++ []) o ≡ o
nothing_more None = refl
nothing_more (Some xs) = ap Some (append-nil xs)

pub twice_more : {X : Type 0} (xs ys : List X) (o : Option (List X)) → option_map (λ (were : List X). were ++ ys) (option_map (λ (were : List X). were ++ xs) o) ≡ option_map (λ (were : List X). were ++ (xs ++ ys)) o
twice_more xs ys None = refl
twice_more xs ys (Some zs) = ap Some (append_assoc zs xs ys)

pub pairs_map : {X Y : Type 0} (R S : X → Y → Type 0) (xs : List X) (ys : List Y) → ((k : ℕ) (x : X) (y : Y) → slice_get xs k ≡ Some x → slice_get ys k ≡ Some y → R x y → S x y) → Pairs R xs ys → Pairs S xs ys
pairs_map R S [] [] f h = h
pairs_map R S [] (y ∷ ys) f h = absurd h
pairs_map R S (x ∷ xs) [] f h = absurd h
pairs_map R S (x ∷ xs) (y ∷ ys) f h = (f zero x y refl refl h.0, pairs_map R S xs ys (λ k a b. f (suc k) a b) h.1)

pub pairs_push : {X Y : Type 0} (R : X → Y → Type 0) (xs : List X) (ys : List Y) (x : X) (y : Y) → Pairs R xs ys → R x y → Pairs R (xs ++ x ∷ []) (ys ++ y ∷ [])
pairs_push R [] [] x y h r = (r, tt)
pairs_push R [] (v ∷ ys) x y h r = absurd h
pairs_push R (u ∷ xs) [] x y h r = absurd h
pairs_push R (u ∷ xs) (v ∷ ys) x y h r = (h.0, pairs_push R xs ys x y h.1 r)

pub pairs_at : {X Y : Type 0} (R : X → Y → Type 0) (xs : List X) (ys : List Y) → Pairs R xs ys → (k : ℕ) (x : X) → slice_get xs k ≡ Some x → (y : Y) × (slice_get ys k ≡ Some y) × R x y
pairs_at R [] [] h k x e = no_some x e
pairs_at R [] (v ∷ ys) h k x e = absurd h
pairs_at R (u ∷ xs) [] h k x e = absurd h
pairs_at R (u ∷ xs) (v ∷ ys) h zero x e = (v, refl, let s : u ≡ x = cc in subst (λ z. R z v) s h.0)
pairs_at R (u ∷ xs) (v ∷ ys) h (suc k) x e = pairs_at R xs ys h.1 k x e

pub last_of : {X : Type 0} (xs : List X) (x : X) → slice_get (xs ++ x ∷ []) (length xs) ≡ Some x
last_of [] x = refl
last_of (y ∷ xs) x = last_of xs x

pub in_front : {X : Type 0} (xs ys : List X) (k : ℕ) (x : X) → slice_get xs k ≡ Some x → slice_get (xs ++ ys) k ≡ Some x
in_front [] ys k x e = no_some x e
in_front (y ∷ xs) ys zero x e = e
in_front (y ∷ xs) ys (suc k) x e = in_front xs ys k x e

pub only_member : {X : Type 0} (x : X) (k : ℕ) (y : X) → slice_get (x ∷ []) k ≡ Some y → y ≡ x
only_member x zero y e = sym (same_some x y e)
only_member x (suc k) y e = no_some y e

pub pairs_back : {X Y : Type 0} (R : X → Y → Type 0) (xs : List X) (ys : List Y) → Pairs R xs ys → (k : ℕ) (y : Y) → slice_get ys k ≡ Some y → (x : X) × (slice_get xs k ≡ Some x) × R x y
pairs_back R [] [] h k y e = no_some y e
pairs_back R [] (v ∷ ys) h k y e = absurd h
pairs_back R (u ∷ xs) [] h k y e = absurd h
pairs_back R (u ∷ xs) (v ∷ ys) h zero y e = (u, refl, subst (λ z. R u z) (same_some v y e) h.0)
pairs_back R (u ∷ xs) (v ∷ ys) h (suc k) y e = pairs_back R xs ys h.1 k y e
