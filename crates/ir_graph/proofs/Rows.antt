-- Rows that are filled one by one.
use Rattle.std.proofs.Common.{◌≡◌, ℕ, zero, suc, ◌+◌, ◌≤◌, List, [], ◌∷◌, ◌++◌, Some, take, length, slice_get, refl, sym, ap, ◌∙◌, arith}
use Rattle.std.proofs.lemmas.List.{take_more}
use Rattle.std.proofs.lemmas.Option.{slice_get_within, get_or_from_slice_get}

module _ {X : Type 0} where
  -- the next one is put behind the first i
  pub row_next : (xs row row' : List X) (i : ℕ) (x : X) → slice_get xs i ≡ Some x → row' ≡ row ++ x ∷ [] → row ≡ take i xs → row' ≡ take (i + 1) xs
  row_next xs row row' i x h e s = e ∙ ap (λ ys. ys ++ x ∷ []) s ∙ sym (take_more xs i x (slice_get_within xs i x h) ∙ ap (λ y. take i xs ++ y ∷ []) (get_or_from_slice_get xs i x x h))

  whole : (xs : List X) (i : ℕ) → length xs ≤ i → take i xs ≡ xs
  whole [] zero h = refl
  whole [] (suc i) h = refl
  whole (x ∷ xs) zero h = absurd (omega (arith, h))
  whole (x ∷ xs) (suc i) h = ap (λ ys. x ∷ ys) (whole xs i (omega (arith, h)))

  -- all are there
  pub row_whole : (xs row : List X) (i : ℕ) → length xs ≤ i → row ≡ take i xs → row ≡ xs
  row_whole xs row i h s = s ∙ whole xs i h
