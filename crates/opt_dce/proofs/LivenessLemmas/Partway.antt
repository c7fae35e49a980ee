-- Half way through a list.
use Rattle.std.proofs.Common.{◌≡◌, ◌⊎◌, inl, inr, ⊎_elim, ℕ, zero, suc, ◌+◌, ◌<◌, Bool, true, List, [], ◌∷◌, ◌++◌, length, get_or, Some, slice_get, refl, sym, ap, ◌∙◌, subst, append_assoc, length-append, arith}
use Rattle.std.specs.Prelude.{◌↔◌}
use Rattle.std.proofs.Math.ListN.{set}
use Rattle.std.proofs.lemmas.List.{get_or-set_same, length-set}
use Rattle.std.proofs.lemmas.Option.{same_Some, slice_get-get_or, slice_get_read, get_or_from_slice_get}
use Rattle.opt_dce.specs.liveness.Taken.{HasMarkAt}

pub at_middle : {X : Type 0} (done rest : List X) (x : X) → slice_get (done ++ x ∷ rest) (length done) ≡ Some x
at_middle [] rest x = refl
at_middle (d ∷ done) rest x = at_middle done rest x

pub at_front : {X : Type 0} (done rest : List X) (k : ℕ) (x : X) → slice_get done k ≡ Some x → slice_get (done ++ rest) k ≡ Some x
at_front [] rest k x e = cc
at_front (d ∷ done) rest zero x e = e
at_front (d ∷ done) rest (suc k) x e = at_front done rest k x e

-- what stands in a list with one item more is that item, at the end, or stood there before
pub at_last : {X : Type 0} (done : List X) (y : X) (i : ℕ) (x : X) → slice_get (done ++ y ∷ []) i ≡ Some x → (slice_get done i ≡ Some x) ⊎ ((i ≡ length done) × (x ≡ y))
at_last [] y zero x e = inr (refl, same_Some x y (sym e))
at_last [] y (suc i) x e = cc
at_last (d ∷ done) y zero x e = inl e
at_last (d ∷ done) y (suc i) x e = ⊎_elim inl (λ (r : (i ≡ length done) × (x ≡ y)). inr (ap suc r.0, r.1)) (at_last done y i x e)

-- one item further, and at the end
pub moved : {X : Type 0} (P : List X → Type 0) (done rest next : List X) (x : X) → rest ≡ x ∷ next → P (done ++ rest) → P ((done ++ x ∷ []) ++ next)
moved P done rest next x e h = subst P (ap (λ r. done ++ r) e ∙ sym (append_assoc done (x ∷ []) next)) h

nothing_behind : {X : Type 0} (done : List X) → done ++ [] ≡ done
nothing_behind [] = refl
nothing_behind (d ∷ done) = ap (λ r. d ∷ r) (nothing_behind done)

pub ended : {X : Type 0} (P : List X → Type 0) (done rest : List X) → rest ≡ [] → P (done ++ rest) → P done
ended P done rest e h = subst P (ap (λ r. done ++ r) e ∙ nothing_behind done) h

-- what holds of each item holds with one item more
pub each_push : {X : Type 0} (P : ℕ → X → Type 0) (xs : List X) (x : X) → ((k : ℕ) (y : X) → slice_get xs k ≡ Some y → P k y) → P (length xs) x → (k : ℕ) (y : X) → slice_get (xs ++ x ∷ []) k ≡ Some y → P k y
each_push P xs x each here k y e = ⊎_elim
    (λ (old : slice_get xs k ≡ Some y). each k y old)
    (λ (new : (k ≡ length xs) × (y ≡ x)). subst (λ z. P k z) (sym new.1) (subst (λ i. P i x) (sym new.0) here))
    (at_last xs x k y e)

-- marks up to here
pub marks_push : (P : ℕ → Type 0) (xs : List Bool) (b : Bool) → ((i : ℕ) → HasMarkAt xs i ↔ ((i < length xs) × P i)) → ((b ≡ true) ↔ P (length xs)) → (i : ℕ) → HasMarkAt (xs ++ b ∷ []) i ↔ ((i < length (xs ++ b ∷ [])) × P i)
marks_push P xs b so_far here i = (
  λ m. ⊎_elim
      (λ (old : slice_get xs i ≡ Some true). let w = (so_far i).0 old in (let lt = w.0 in omega (arith, length-append xs (b ∷ [])), w.1))
      (λ (new : (i ≡ length xs) × (true ≡ b)). (let e = new.0 in omega (arith, length-append xs (b ∷ [])), subst P (sym new.0) (here.0 (sym new.1))))
      (at_last xs b i true m),
  λ w. ⊎_elim
      (λ (old : i < length xs). at_front xs (b ∷ []) i true ((so_far i).1 (old, w.1)))
      (λ (new : i ≡ length xs). subst (λ k. HasMarkAt (xs ++ b ∷ []) k) (sym new) (at_middle xs [] b ∙ ap Some (here.1 (subst P new w.1))))
      (earlier i (length xs) (let lt = w.0 in omega (arith, length-append xs (b ∷ [])))),
)
  where
    earlier : (i n : ℕ) → i < n + 1 → (i < n) ⊎ (i ≡ n)
    earlier i n lt = grind arith

-- one write
pub at_set_same : {X : Type 0} (xs : List X) (i : ℕ) (v : X) → i < length xs → slice_get (set xs i v) i ≡ Some v
at_set_same xs i v lt = slice_get_read (set xs i v) (length xs) i v (sym (length-set xs i v)) lt (sym (get_or-set_same xs i v v lt))

pub at_set_other : {X : Type 0} (xs : List X) (i : ℕ) (v : X) (k : ℕ) → (k ≡ i → ⊥) → slice_get (set xs i v) k ≡ slice_get xs k
at_set_other [] i v k ne = refl
at_set_other (x ∷ xs) zero v zero ne = absurd (ne refl)
at_set_other (x ∷ xs) zero v (suc k) ne = refl
at_set_other (x ∷ xs) (suc i) v zero ne = refl
at_set_other (x ∷ xs) (suc i) v (suc k) ne = at_set_other xs i v k (λ e. ne (ap suc e))

-- a row more
pub pushed_len : {X : Type 0} (xs new : List X) (x : X) (i : ℕ) → new ≡ xs ++ x ∷ [] → length xs ≡ i → length new ≡ i + 1
pushed_len xs new x i e len = ap length e ∙ (length-append xs (x ∷ []) ∙ ap (λ k. k + 1) len)

pub item_is : {X : Type 0} (items keys : List X) (i : ℕ) (d y : X) → items ≡ keys → slice_get keys i ≡ Some y → get_or items i d ≡ y
item_is items keys i d y e h = ap (λ xs. get_or xs i d) e ∙ get_or_from_slice_get keys i y d h

pub item_at : {X : Type 0} (items keys : List X) (i : ℕ) (d : X) → items ≡ keys → i < length items → slice_get keys i ≡ Some (get_or items i d)
item_at items keys i d e lt = ap (λ xs. slice_get xs i) (sym e) ∙ slice_get-get_or items i d lt

pub rows_step : {X R : Type 0} (P : X → R → Type 0) (keys : List X) (rows new : List R) (i : ℕ) (x : X) (r : R) → new ≡ rows ++ r ∷ [] → length rows ≡ i → ((k : ℕ) (s : R) → slice_get rows k ≡ Some s → (y : X) → slice_get keys k ≡ Some y → P y s) → ((y : X) → slice_get keys i ≡ Some y → x ≡ y) → P x r → (k : ℕ) (s : R) → slice_get new k ≡ Some s → (y : X) → slice_get keys k ≡ Some y → P y s
rows_step P keys rows new i x r e len so_far is here k s h y at = ⊎_elim
    (λ (old : slice_get rows k ≡ Some s). so_far k s old y at)
    (λ (last : (k ≡ length rows) × (s ≡ r)).
    let same : x ≡ y = is y (ap (slice_get keys) (sym (last.0 ∙ len)) ∙ at) in
    subst (P y) (sym last.1) (subst (λ z. P z r) same here))
    (at_last rows r k s (ap (λ l. slice_get l k) (sym e) ∙ h))
