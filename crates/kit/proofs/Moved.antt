-- Elements that are moved to the front.
use Rattle.std.proofs.Common.{◌≡◌, ℕ, zero, suc, ◌+◌, ◌<◌, ◌≤◌, Bool, true, false, List, [], ◌∷◌, ◌++◌, length, take}
use Rattle.std.proofs.Common.{refl, sym, ap, ◌∙◌, subst, arith}
use Rattle.std.specs.Prelude.{if◌then◌else◌, slice_index_or, drop as list_drop}
use Rattle.opt_trees.specs.Dialect.{drop}

one_stays : {X : Type 0} (p : ℕ → Bool) (i : ℕ) (xs : List X) (d : X) → i < length xs → p i ≡ false
    → drop p (take (suc i) xs) ≡ drop p (take i xs) ++ slice_index_or xs i d ∷ []
one_stays p i [] d w e = absurd (omega arith)
one_stays p zero (x ∷ xs) d w e = ap (λ (b : Bool). if b then [] else x ∷ []) e
one_stays {X} p (suc i) (x ∷ xs) d w e =
    step (p 0) (drop (λ j. p (suc j)) (take (suc i) xs)) (drop (λ j. p (suc j)) (take i xs))
    (one_stays (λ j. p (suc j)) i xs d (omega arith) e)
  where
    step : (b : Bool) (us vs : List X) → us ≡ vs ++ slice_index_or xs i d ∷ []
        → (if b then us else x ∷ us) ≡ (if b then vs else x ∷ vs) ++ slice_index_or xs i d ∷ []
    step true us vs e = e
    step false us vs e = ap (λ zs. x ∷ zs) e

one_goes : {X : Type 0} (p : ℕ → Bool) (i : ℕ) (xs : List X) → p i ≡ true
    → drop p (take (suc i) xs) ≡ drop p (take i xs)
one_goes p zero [] e = refl
one_goes p (suc i) [] e = refl
one_goes p zero (x ∷ xs) e = ap (λ (b : Bool). if b then [] else x ∷ []) e
one_goes p (suc i) (x ∷ xs) e =
    ap (λ zs. if p 0 then zs else x ∷ zs) (one_goes (λ j. p (suc j)) i xs e)

-- what is behind an index is the same, and so is what is at it
same_at : {X : Type 0} (ys xs : List X) (i : ℕ) (d : X) → list_drop i ys ≡ list_drop i xs
    → slice_index_or ys i d ≡ slice_index_or xs i d
same_at {X} ys xs i d e = sym (at ys i) ∙ (ap (λ zs. slice_index_or zs 0 d) e ∙ at xs i)
  where
    at : (zs : List X) (i : ℕ) → slice_index_or (list_drop i zs) 0 d ≡ slice_index_or zs i d
    at [] zero = refl
    at [] (suc i) = refl
    at (z ∷ zs) zero = refl
    at (z ∷ zs) (suc i) = at zs i

again : {X : Type 0} (zs : List X) (i : ℕ) → list_drop 1 (list_drop i zs) ≡ list_drop (suc i) zs
again zs zero = refl
again [] (suc i) = refl
again (z ∷ zs) (suc i) = again zs i

pub less_behind : {X : Type 0} (ys xs : List X) (i : ℕ) → list_drop i ys ≡ list_drop i xs
    → list_drop (i + 1) ys ≡ list_drop (i + 1) xs
less_behind ys xs i e =
    let n : i + 1 ≡ suc i = omega arith in
    subst (λ z. list_drop z ys ≡ list_drop z xs) (sym n) (sym (again ys i) ∙ (ap (list_drop 1) e ∙ again xs i))

pub take_twice : {X : Type 0} (a b : ℕ) (xs : List X) → a ≤ b → take a (take b xs) ≡ take a xs
take_twice zero b xs h = take_none (take b xs) ∙ sym (take_none xs)
  where
    take_none : {X : Type 0} (xs : List X) → take 0 xs ≡ []
    take_none [] = refl
    take_none (x ∷ xs) = refl
take_twice (suc a) zero xs h = absurd (omega arith)
take_twice (suc a) (suc b) [] h = refl
take_twice (suc a) (suc b) (x ∷ xs) h = ap (λ zs. x ∷ zs) (take_twice a b xs (omega arith))

pub stays_next : {X : Type 0} (p : ℕ → Bool) (ys zs xs : List X) (k i : ℕ) (d : X) → take k ys ≡ drop p (take i xs)
    → list_drop i ys ≡ list_drop i xs → i < length xs → p i ≡ false
    → take (k + 1) zs ≡ take k ys ++ slice_index_or ys i d ∷ [] → take (k + 1) zs ≡ drop p (take (i + 1) xs)
stays_next p ys zs xs k i d front back w e moved =
    let n : i + 1 ≡ suc i = omega arith in
    moved ∙ ((λ j. front j ++ same_at ys xs i d back j ∷ [])
    ∙ (sym (one_stays p i xs d w e) ∙ ap (λ z. drop p (take z xs)) (sym n)))

pub goes_next : {X : Type 0} (p : ℕ → Bool) (ys xs : List X) (k i : ℕ) → take k ys ≡ drop p (take i xs) → p i ≡ true
    → take k ys ≡ drop p (take (i + 1) xs)
goes_next p ys xs k i front e =
    let n : i + 1 ≡ suc i = omega arith in
    front ∙ (sym (one_goes p i xs e) ∙ ap (λ z. drop p (take z xs)) (sym n))
