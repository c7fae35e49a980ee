-- What is put into a list before and after each of its members, and which members stay.
use Rattle.std.proofs.Common.{◌≡◌, ◌≢◌, ℕ, zero, suc, ◌+◌, Bool, true, false, not, cond, List, [], ◌∷◌, ◌++◌, Some, slice_get, insert, remove, refl, sym, ap, subst, inl, inr, add-one}
use Rattle.ir_trees.proofs.Members.{Has, Once, at_has}

-- members with what is put before and after them, and without those that don't stay
abbrev pub placed : {X : Type 0} → (X → List X) → (X → List X) → (X → Bool) → List X → List X
placed before after keeps [] = []
placed before after keeps (x ∷ xs) = before x ++ cond (keeps x) (x ∷ (after x ++ placed before after keeps xs)) (after x ++ placed before after keeps xs)

-- members that stay
abbrev pub staying : {X : Type 0} → (X → Bool) → List X → List X
staying keeps [] = []
staying keeps (x ∷ xs) = cond (keeps x) (x ∷ staying keeps xs) (staying keeps xs)

module _ {X : Type 0} (test : X → X → Bool) (yes : (x y : X) → x ≡ y → test x y ≡ true) (no : (x y : X) → x ≢ y → test x y ≡ false) where
  -- nothing at any member
  pub all_stay : (xs : List X) → placed (λ x. []) (λ x. []) (λ x. true) xs ≡ xs
  all_stay [] = refl
  all_stay (x ∷ xs) = ap (λ l. x ∷ l) (all_stay xs)

  module _ (mark new : X) where
    abbrev pub at_mark : X → List X
    at_mark x = cond (test x mark) (new ∷ []) []

    abbrev pub not_mark : X → Bool
    not_mark x = not (test x mark)

    differs : (x : X) (xs : List X) → (Has mark (x ∷ xs) → ⊥) → test x mark ≡ false
    differs x xs h = no x mark (λ e. h (inl (sym e)))

    later : (x : X) (xs : List X) (k : ℕ) → Once (x ∷ xs) → slice_get xs k ≡ Some mark → test x mark ≡ false
    later x xs k once h = no x mark (λ e. once.0 (subst (λ y. Has y xs) (sym e) (at_has xs k mark h)))

    first_is : (x : X) (xs : List X) → slice_get (x ∷ xs) zero ≡ Some mark → test x mark ≡ true
    first_is x xs h = let s : Some x ≡ Some mark = h in let e : x ≡ mark = cc in yes x mark e

    none_behind : (x : X) (xs : List X) → Once (x ∷ xs) → slice_get (x ∷ xs) zero ≡ Some mark → Has mark xs → ⊥
    none_behind x xs once h has = let s : Some x ≡ Some mark = h in let e : mark ≡ x = cc in once.0 (subst (λ y. Has y xs) e has)

    pub before_none : (xs : List X) → (Has mark xs → ⊥) → placed at_mark (λ x. []) (λ x. true) xs ≡ xs
    before_none [] h = refl
    before_none (x ∷ xs) h = rw (differs x xs h) (ap (λ l. x ∷ l) (before_none xs (λ g. h (inr g))))

    pub before_at : (xs : List X) (k : ℕ) → Once xs → slice_get xs k ≡ Some mark → placed at_mark (λ x. []) (λ x. true) xs ≡ insert xs k new
    before_at [] k once h = cc
    before_at (x ∷ xs) zero once h = rw (first_is x xs h) (ap (λ l. new ∷ (x ∷ l)) (before_none xs (none_behind x xs once h)))
    before_at (x ∷ xs) (suc k) once h = rw (later x xs k once h) (ap (λ l. x ∷ l) (before_at xs k once.1 h))

    pub after_none : (xs : List X) → (Has mark xs → ⊥) → placed (λ x. []) at_mark (λ x. true) xs ≡ xs
    after_none [] h = refl
    after_none (x ∷ xs) h = rw (differs x xs h) (ap (λ l. x ∷ l) (after_none xs (λ g. h (inr g))))

    after_suc : (xs : List X) (k : ℕ) → Once xs → slice_get xs k ≡ Some mark → placed (λ x. []) at_mark (λ x. true) xs ≡ insert xs (suc k) new
    after_suc [] k once h = cc
    after_suc (x ∷ xs) zero once h = rw (first_is x xs h) (ap (λ l. x ∷ (new ∷ l)) (after_none xs (none_behind x xs once h)))
    after_suc (x ∷ xs) (suc k) once h = rw (later x xs k once h) (ap (λ l. x ∷ l) (after_suc xs k once.1 h))

    pub after_at : (xs : List X) (k : ℕ) → Once xs → slice_get xs k ≡ Some mark → placed (λ x. []) at_mark (λ x. true) xs ≡ insert xs (k + 1) new
    after_at xs k once h = rw (add-one k) (after_suc xs k once h)

    pub out_none : (xs : List X) → (Has mark xs → ⊥) → staying not_mark xs ≡ xs
    out_none [] h = refl
    out_none (x ∷ xs) h = rw (differs x xs h) (ap (λ l. x ∷ l) (out_none xs (λ g. h (inr g))))

    pub out_at : (xs : List X) (k : ℕ) → Once xs → slice_get xs k ≡ Some mark → staying not_mark xs ≡ remove xs k
    out_at [] k once h = cc
    out_at (x ∷ xs) zero once h = rw (first_is x xs h) (out_none xs (none_behind x xs once h))
    out_at (x ∷ xs) (suc k) once h = rw (later x xs k once h) (ap (λ l. x ∷ l) (out_at xs k once.1 h))

-- where nothing is put, those that stay are left
pub only_staying : {X : Type 0} (keeps : X → Bool) (xs : List X) → placed (λ x. []) (λ x. []) keeps xs ≡ staying keeps xs
only_staying keeps [] = refl
only_staying keeps (x ∷ xs) = let e = only_staying keeps xs in λ i. cond (keeps x) (x ∷ e i) (e i)

pub all_staying : {X : Type 0} (xs : List X) → staying (λ x. true) xs ≡ xs
all_staying [] = refl
all_staying (x ∷ xs) = ap (λ l. x ∷ l) (all_staying xs)
