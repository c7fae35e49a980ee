-- What holds of each member of a list, found out one after the other.
use Rattle.std.proofs.Common.{◌≡◌, ◌↔◌, ℕ, ◌<◌, ◌≤◌, ◌+◌, true, false, List, length, Some, slice_get, refl, sym, ◌∙◌, subst, arith, IsTrue, zero, suc, [], ◌∷◌}
use Rattle.std.proofs.lemmas.Bool.{false≢true}
use Rattle.std.proofs.lemmas.Option.{slice_get_within}
use Rattle.std.proofs.Common.{below_more}
use Rattle.kit_checks.specs.Words.{Every}

module _ {X : Type 0} (P : X → Type 0) (xs : List X) where
  -- it holds of the first n members
  abbrev pub EveryBelow : ℕ → Type 0
  EveryBelow n = (k : ℕ) (x : X) → k < n → slice_get xs k ≡ Some x → P x

  pub every_none : EveryBelow 0
  every_none k x below here = absurd (omega arith)

  pub every_more : (n : ℕ) (x : X) → slice_get xs n ≡ Some x → P x → EveryBelow n → EveryBelow (n + 1)
  every_more n x here holds every k y below at = below_more (λ j. slice_get xs j ≡ Some y → P y) n
      (λ j less. every j y less)
      (λ same. let e : Some x ≡ Some y = sym here ∙ same in let q : x ≡ y = cc in subst P q holds)
      k below at

  pub every_all : (n : ℕ) → length xs ≡ n → EveryBelow n → Every P xs
  every_all n many every k x here = every k x (let w : k < length xs = slice_get_within xs k x here in omega arith) here

  pub every_end : (n : ℕ) → length xs ≤ n → EveryBelow n → Every P xs
  every_end n many every k x here = every k x (let w : k < length xs = slice_get_within xs k x here in omega arith) here

-- a test of each member that fails at one
pub not_every : {X : Type 0} (P : X → Type 0) (xs ys : List X) (k : ℕ) (x : X) → xs ≡ ys → slice_get ys k ≡ Some x → (P x → ⊥) → IsTrue false ↔ Every P xs
not_every P xs ys k x same here fails = (λ h. absurd (false≢true h), λ every. absurd (fails (every k x (subst (λ l. slice_get l k ≡ Some x) (sym same) here))))

pub is_every : {X : Type 0} (P : X → Type 0) (xs ys : List X) → xs ≡ ys → Every P ys → IsTrue true ↔ Every P xs
is_every P xs ys same every = (λ h. subst (Every P) (sym same) every, λ h. refl)

-- there is a member at each index below the length
pub at_index : {X : Type 0} (xs : List X) (k : ℕ) → k < length xs → (x : X) × (slice_get xs k ≡ Some x)
at_index [] k below = absurd (omega arith)
at_index (x ∷ xs) zero below = (x, refl)
at_index (x ∷ xs) (suc k) below = at_index xs k (omega arith)
