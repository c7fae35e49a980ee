-- What holds of the members of a list that were seen holds of one more.
use Rattle.std.proofs.Common.{◌≡◌, ℕ, ◌+◌, ◌<◌, List, Some, slice_get, sym, ◌∙◌, subst, below_more}
use Rattle.std.proofs.lemmas.Option.{same_Some}

pub one_more : {X : Type 0} (xs : List X) (R : X → Type 0) (n : ℕ) (x : X) → slice_get xs n ≡ Some x → R x
    → ((k : ℕ) → k < n → (i : X) → slice_get xs k ≡ Some i → R i)
    → (k : ℕ) → k < n + 1 → (i : X) → slice_get xs k ≡ Some i → R i
one_more {X} xs R n x here holds before =
    below_more (λ k. (i : X) → slice_get xs k ≡ Some i → R i) n before
    (λ i at. subst R (same_Some x i (sym here ∙ at)) holds)
