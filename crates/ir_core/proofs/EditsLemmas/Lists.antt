-- Lists are looked at as a loop goes over them.
use Rattle.std.proofs.Common.{◌≡◌, ℕ, zero, suc, ◌<◌, ◌+◌, ⊎_elim, List, [], ◌∷◌, ◌++◌, length, Option, Some, refl, sym, ap, ◌∙◌, subst, arith, slice_get}
use Rattle.std.proofs.lemmas.List.{length-append}
use Rattle.std.proofs.lemmas.Bool.{cases_eq}

-- one element more
pub one-more : {X : Type 0} (P : X → Type 0) (xs : List X) (n : ℕ) (x : X) → slice_get xs n ≡ Some x → P x → ((j : ℕ) (y : X) → j < n → slice_get xs j ≡ Some y → P y)
    → (j : ℕ) (y : X) → j < n + 1 → slice_get xs j ≡ Some y → P y
one-more P xs n x here holds below j y lt at = ⊎_elim
    (λ (same : j ≡ n). let s : Some x ≡ Some y = sym here ∙ ap (slice_get xs) (sym same) ∙ at in let q : x ≡ y = cc in subst P q holds)
    (λ ne. below j y (omega (arith, lt, ne)) at)
    (cases_eq j n)

-- a list with one element more has the old ones where they were, and the new one last
pub before-last : {X : Type 0} (xs : List X) (x : X) (j : ℕ) → j < length xs → slice_get (xs ++ x ∷ []) j ≡ slice_get xs j
before-last [] x j lt = absurd (omega (arith, lt))
before-last (y ∷ xs) x zero lt = refl
before-last (y ∷ xs) x (suc j) lt = before-last xs x j (omega (arith, lt))

pub last-one : {X : Type 0} (xs : List X) (x : X) → slice_get (xs ++ x ∷ []) (length xs) ≡ Some x
last-one [] x = refl
last-one (y ∷ xs) x = last-one xs x

-- one name more stands for something
pub named-more : {X Y : Type 0} (name : X → Option Y) (xs : List X) (ys more : List Y) (n : ℕ) (x : X) (y : Y) → slice_get xs n ≡ Some x → name x ≡ Some y → more ≡ ys ++ y ∷ []
    → (length ys ≡ n) × ((j : ℕ) (z : X) → j < n → slice_get xs j ≡ Some z → slice_get ys j ≡ name z)
    → (length more ≡ n + 1) × ((j : ℕ) (z : X) → j < n + 1 → slice_get xs j ≡ Some z → slice_get more j ≡ name z)
named-more name xs ys more n x y here named grown so = (
  ap length grown ∙ length-append ys (y ∷ []) ∙ ap (λ k. k + 1) so.0,
  λ j z lt at. ⊎_elim
      (λ (same : j ≡ n). let s : Some x ≡ Some z = sym here ∙ ap (slice_get xs) (sym same) ∙ at in let q : x ≡ z = cc in
      ap (λ l. slice_get l j) grown ∙ ap (slice_get (ys ++ y ∷ [])) (same ∙ sym so.0) ∙ last-one ys y ∙ sym named ∙ ap name q)
      (λ ne. ap (λ l. slice_get l j) grown ∙ before-last ys y j (omega (arith, lt, ne, so.0)) ∙ so.1 j z (omega (arith, lt, ne)) at)
      (cases_eq j n),
)
