-- Lists that are the same, and conditions on each member and its index, found out index by index.
use Rattle.std.proofs.Common.{◌≡◌, ◌↔◌, ℕ, zero, suc, ◌<◌, ◌≤◌, ◌+◌, false, true, List, [], ◌∷◌, take, drop, length, Some, slice_get, refl, sym, ap, ◌∙◌, subst, arith, below_more, IsTrue}
use Rattle.std.proofs.lemmas.Bool.{false≢true}
use Rattle.std.proofs.lemmas.Option.{slice_get_within}

module _ {X : Type 0} where
  -- the first n members are the same
  abbrev pub AgreeBelow : List X → List X → ℕ → Type 0
  AgreeBelow xs ys n = (k : ℕ) → k < n → slice_get xs k ≡ slice_get ys k

  pub agree_none : (xs ys : List X) → AgreeBelow xs ys 0
  agree_none xs ys k below = absurd (omega arith)

  pub agree_more : (xs ys : List X) (n : ℕ) → slice_get xs n ≡ slice_get ys n → AgreeBelow xs ys n → AgreeBelow xs ys (n + 1)
  agree_more xs ys n here rest k below = below_more (λ j. slice_get xs j ≡ slice_get ys j) n rest here k below

  pub agree_all : (xs ys : List X) (n : ℕ) → length xs ≡ length ys → length ys ≤ n → AgreeBelow xs ys n → xs ≡ ys
  agree_all [] [] n same many h = refl
  agree_all [] (y ∷ ys) n same many h = absurd (omega arith)
  agree_all (x ∷ xs) [] n same many h = absurd (omega arith)
  agree_all (x ∷ xs) (y ∷ ys) n same many h =
      let first : Some x ≡ Some y = h 0 (omega arith) in
      let e : x ≡ y = cc in
      let rest : xs ≡ ys = agree_all xs ys (length ys) (omega arith) (omega arith) (λ k below. h (suc k) (omega arith)) in
      λ i. e i ∷ rest i

  -- lists that differ somewhere, or in length
  pub not_at : (xs ys : List X) (k : ℕ) (x y : X) → slice_get xs k ≡ Some x → slice_get ys k ≡ Some y → (x ≡ y → ⊥) → IsTrue false ↔ (xs ≡ ys)
  not_at xs ys k x y a b other = (
    λ h. absurd (false≢true h),
    λ same. let e : Some x ≡ Some y = sym a ∙ ap (λ l. slice_get l k) same ∙ b in let q : x ≡ y = cc in absurd (other q),
  )

  pub not_long : (xs ys : List X) → (length xs ≡ length ys → ⊥) → IsTrue false ↔ (xs ≡ ys)
  not_long xs ys other = (λ h. absurd (false≢true h), λ same. absurd (other (ap length same)))

  -- what stands in a run of members
  get_take : (xs : List X) (count k : ℕ) → k < count → slice_get (take count xs) k ≡ slice_get xs k
  get_take xs zero k below = absurd (omega arith)
  get_take [] (suc n) k below = refl
  get_take (x ∷ xs) (suc n) zero below = refl
  get_take (x ∷ xs) (suc n) (suc k) below = get_take xs n k (omega arith)

  get_drop : (xs : List X) (first k : ℕ) → slice_get (drop first xs) k ≡ slice_get xs (first + k)
  get_drop xs zero k = let z : k ≡ 0 + k = omega arith in ap (slice_get xs) z
  get_drop [] (suc n) k = refl
  get_drop (x ∷ xs) (suc n) k = let z : suc (n + k) ≡ suc n + k = omega arith in get_drop xs n k ∙ ap (slice_get (x ∷ xs)) z

  pub get_run : (xs : List X) (first count k : ℕ) → k < count → slice_get (take count (drop first xs)) k ≡ slice_get xs (first + k)
  get_run xs first count k below = get_take (drop first xs) count k below ∙ get_drop xs first k

-- it holds of each of the first n members and its index
module _ {X : Type 0} (P : ℕ → X → Type 0) (xs : List X) where
  abbrev pub Each : Type 0
  Each = (k : ℕ) (x : X) → slice_get xs k ≡ Some x → P k x

  abbrev pub EachBelow : ℕ → Type 0
  EachBelow n = (k : ℕ) (x : X) → k < n → slice_get xs k ≡ Some x → P k x

  pub each_none : EachBelow 0
  each_none k x below here = absurd (omega arith)

  pub each_more : (n : ℕ) (x : X) → slice_get xs n ≡ Some x → P n x → EachBelow n → EachBelow (n + 1)
  each_more n x here holds each k y below at = below_more (λ j. slice_get xs j ≡ Some y → P j y) n
      (λ j less. each j y less)
      (λ same. let e : Some x ≡ Some y = sym here ∙ same in let q : x ≡ y = cc in subst (P n) q holds)
      k below at

  pub each_all : (n : ℕ) → length xs ≤ n → EachBelow n → IsTrue true ↔ Each
  each_all n many each = (λ h k x here. each k x (let w : k < length xs = slice_get_within xs k x here in omega arith) here, λ h. refl)

  pub not_each : (k : ℕ) (x : X) → slice_get xs k ≡ Some x → (P k x → ⊥) → IsTrue false ↔ Each
  not_each k x here fails = (λ h. absurd (false≢true h), λ each. absurd (fails (each k x here)))
