-- Members of a list have numbers that tell them apart: the indices at which they first stand.
use Rattle.std.proofs.Common.{◌≡◌, ◌≢◌, ◌⊎◌, inl, inr, ⊎_elim, ℕ, suc, List, [], ◌∷◌, sym, ◌∙◌}
use Rattle.opt_trees.specs.Occurrences.{Has}

module _ {X : Type 0} (test : (x y : X) → (x ≡ y) ⊎ (x ≢ y)) where
  -- the index of the first that is this one, or the length of the list
  abbrev pub index_of : List X → X → ℕ
  index_of [] x = 0
  index_of (y ∷ ys) x = ⊎_elim (λ _. 0) (λ _. suc (index_of ys x)) (test x y)

  -- what is told apart behind the first member is told apart with it
  apart_here : (y : X) (ys : List X) (x z : X) (m n : ℕ) (d : (x ≡ y) ⊎ (x ≢ y)) (e : (z ≡ y) ⊎ (z ≢ y)) →
      (x ≡ y) ⊎ Has x ys → (z ≡ y) ⊎ Has z ys → (Has x ys → Has z ys → m ≡ n → x ≡ z) →
      ⊎_elim (λ _. 0) (λ _. suc m) d ≡ ⊎_elim (λ _. 0) (λ _. suc n) e → x ≡ z
  apart_here y ys x z m n (inl s) (inl t) h k rest e = s ∙ sym t
  apart_here y ys x z m n (inl s) (inr differ) h k rest e = let same : 0 ≡ suc n = e in cc
  apart_here y ys x z m n (inr differ) (inl t) h k rest e = let same : suc m ≡ 0 = e in cc
  apart_here y ys x z m n (inr differ) (inr other) h k rest e =
      let same : suc m ≡ suc n = e in
      let within : m ≡ n = cc in
      rest (⊎_elim (λ s. absurd (differ s)) (λ l. l) h) (⊎_elim (λ s. absurd (other s)) (λ l. l) k) within

  -- members of one index are the same
  pub indices_apart : (ys : List X) (x z : X) → Has x ys → Has z ys → index_of ys x ≡ index_of ys z → x ≡ z
  indices_apart [] x z h k e = absurd h
  indices_apart (y ∷ ys) x z h k e =
      apart_here y ys x z (index_of ys x) (index_of ys z) (test x y) (test z y) h k (indices_apart ys x z) e
