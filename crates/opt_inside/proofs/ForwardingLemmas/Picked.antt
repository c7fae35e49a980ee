-- Elements of a list at some indices, one index after the other.
use Rattle.std.proofs.Common.{◌≡◌, ℕ, zero, suc, ◌≤◌, ◌+◌, List, [], ◌∷◌, ◌++◌, length, take, Option, Some, None, slice_get, refl, sym, ap, ◌∙◌, arith}
use Rattle.std.proofs.lemmas.List.{take_more}
use Rattle.std.proofs.lemmas.Option.{slice_get_within, get_or_from_slice_get}
use Rattle.opt_trees.specs.Occurrences.{cons_if, picks}

-- the first i and the next are the first i + 1
take_next : {X : Type 0} (xs : List X) (i : ℕ) (x : X) → slice_get xs i ≡ Some x → take (i + 1) xs ≡ take i xs ++ x ∷ []
take_next xs i x h = take_more xs i x (slice_get_within xs i x h) ∙ ap (λ y. take i xs ++ y ∷ []) (get_or_from_slice_get xs i x x h)

take_all : {X : Type 0} (xs : List X) (i : ℕ) → length xs ≤ i → take i xs ≡ xs
take_all [] zero h = refl
take_all [] (suc i) h = refl
take_all (x ∷ xs) zero h = absurd (omega (arith, h))
take_all (x ∷ xs) (suc i) h = ap (λ ys. x ∷ ys) (take_all xs i (omega (arith, h)))

-- picks, one index after the other
module _ {X : Type 0} (xs : List X) where
  picks_both : (is js : List ℕ) → picks xs (is ++ js) ≡ picks xs is ++ picks xs js
  picks_both [] js = refl
  picks_both (i ∷ is) js = ap (λ r. cons_if (slice_get xs i) r) (picks_both is js) ∙ front (slice_get xs i) (picks xs is) (picks xs js)
    where
      front : (o : Option X) (ys zs : List X) → cons_if o (ys ++ zs) ≡ cons_if o ys ++ zs
      front None ys zs = refl
      front (Some x) ys zs = refl

  nothing_behind : (ys : List X) → ys ++ [] ≡ ys
  nothing_behind [] = refl
  nothing_behind (x ∷ ys) = ap (λ zs. x ∷ zs) (nothing_behind ys)

  pub picked_more : (is : List ℕ) (j i : ℕ) (x : X) (row row' : List X) → slice_get is j ≡ Some i → slice_get xs i ≡ Some x → row' ≡ row ++ x ∷ [] → row ≡ picks xs (take j is) → row' ≡ picks xs (take (j + 1) is)
  picked_more is j i x row row' at there pushed done =
      pushed ∙ ap (λ r. r ++ x ∷ []) done ∙ ap (λ o. picks xs (take j is) ++ cons_if o []) (sym there)
      ∙ sym (picks_both (take j is) (i ∷ [])) ∙ ap (picks xs) (sym (take_next is j i at))

  behind_all : (ys : List X) (i : ℕ) → length ys ≤ i → slice_get ys i ≡ None
  behind_all [] i h = refl
  behind_all (y ∷ ys) zero h = absurd (omega (arith, h))
  behind_all (y ∷ ys) (suc i) h = behind_all ys i (omega (arith, h))

  pub picked_none : (is : List ℕ) (j i : ℕ) (row : List X) → slice_get is j ≡ Some i → length xs ≤ i → row ≡ picks xs (take j is) → row ≡ picks xs (take (j + 1) is)
  picked_none is j i row at past done =
      done ∙ sym (nothing_behind (picks xs (take j is))) ∙ ap (λ o. picks xs (take j is) ++ cons_if o []) (sym (behind_all xs i past))
      ∙ sym (picks_both (take j is) (i ∷ [])) ∙ ap (picks xs) (sym (take_next is j i at))

  pub picked_all : (is : List ℕ) (j : ℕ) (row : List X) → length is ≤ j → row ≡ picks xs (take j is) → row ≡ picks xs is
  picked_all is j row h done = done ∙ ap (picks xs) (take_all is j h)
