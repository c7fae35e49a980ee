-- Lists whose elements are the same at the same indices, and the map that leads from the one to the other.
use Rattle.std.proofs.Common.{◌≡◌, ◌≢◌, ◌⊎◌, ℕ, zero, suc, List, [], ◌∷◌, ◌++◌, map, Option, Some, None, option_map, slice_get, refl, sym, ap, ◌∙◌, inl, inr, ⊎_elim}
use Rattle.std.proofs.lemmas.Option.{slice_get-map}
use Rattle.ir_trees.specs.Searched.{Lists}
use Rattle.ir_trees.specs.Renames.{KeepsApart, RepeatAlike}

abbrev pub nothing : {X : Type 0} → X → Unit {0}
nothing x = tt

-- lists of one length
abbrev pub AsLong : {X Y : Type 0} → List X → List Y → Type 0
AsLong {X} {Y} xs ys = map (nothing {X = X}) xs ≡ map (nothing {X = Y}) ys

pub split : {X : Type 0} (us vs xs ys : List X) → AsLong us xs → us ++ vs ≡ xs ++ ys → (us ≡ xs) × (vs ≡ ys)
split [] vs [] ys l e = (refl, e)
split [] vs (x ∷ xs) ys l e = cc
split (u ∷ us) vs [] ys l e = cc
split {X} (u ∷ us) vs (x ∷ xs) ys l e =
    let same : u ≡ x = cc in
    let r = split us vs xs ys (let long : AsLong us xs = cc in long) (let more : us ++ vs ≡ xs ++ ys = cc in more) in
    ((λ i. same i ∷ r.0 i), r.1)

pub alike_here : {X : Type 0} (xs : List X) → RepeatAlike xs xs
alike_here xs j k = ((λ e. e), (λ e. e))

pub alike_back : {X Y : Type 0} (xs : List X) (ys : List Y) → RepeatAlike xs ys → RepeatAlike ys xs
alike_back xs ys a j k = ((a j k).1, (a j k).0)

pub alike_on : {X Y Z : Type 0} (xs : List X) (ys : List Y) (zs : List Z) → RepeatAlike xs ys → RepeatAlike ys zs → RepeatAlike xs zs
alike_on xs ys zs a b j k = ((λ e. (b j k).0 ((a j k).0 e)), (λ e. (a j k).1 ((b j k).1 e)))

module _ {X Y : Type 0} (f : X → Y) (xs : List X) (apart : KeepsApart f xs) where
  same_before : (a b : Option X) → ((x : X) → a ≡ Some x → Lists xs x) → ((x : X) → b ≡ Some x → Lists xs x) → option_map f a ≡ option_map f b → a ≡ b
  same_before None None la lb e = refl
  same_before None (Some y) la lb e = cc
  same_before (Some x) None la lb e = cc
  same_before (Some x) (Some y) la lb e = let same : f x ≡ f y = cc in ap Some (apart x y (la x refl) (lb y refl) same)

  pub alike_map : (ys : List Y) → ys ≡ map f xs → RepeatAlike xs ys
  alike_map ys e j k =
      let at : (i : ℕ) → slice_get ys i ≡ option_map f (slice_get xs i) = λ i. ap (λ l. slice_get l i) e ∙ slice_get-map f xs i in
      ((λ s. at j ∙ ap (option_map f) s ∙ sym (at k)), (λ s. same_before (slice_get xs j) (slice_get xs k) (λ x h. (j, h)) (λ x h. (k, h)) (sym (at j) ∙ s ∙ at k)))

-- the first element of ys that stands where xs has x
abbrev pub pick : {X Y : Type 0} → ((x y : X) → (x ≡ y) ⊎ (x ≢ y)) → (X → Y) → List X → List Y → X → Y
pick test other [] ys x = other x
pick test other (a ∷ xs) [] x = other x
pick test other (a ∷ xs) (b ∷ ys) x = ⊎_elim (λ _. b) (λ _. pick test other xs ys x) (test x a)

same_list : {X : Type 0} (xs ys : List X) → ((k : ℕ) → slice_get xs k ≡ slice_get ys k) → xs ≡ ys
same_list [] [] h = refl
same_list [] (y ∷ ys) h = let e = h zero in cc
same_list (x ∷ xs) [] h = let e = h zero in cc
same_list (x ∷ xs) (y ∷ ys) h = let e : Some x ≡ Some y = h zero in let s : x ≡ y = cc in λ i. s i ∷ same_list xs ys (λ k. h (suc k)) i

none_too : (X : Type 0) {Y : Type 0} (o : Option Y) → option_map (nothing {X = X}) None ≡ option_map (nothing {X = Y}) o → None ≡ o
none_too X None e = refl
none_too X (Some y) e = cc

module _ {X Y : Type 0} (test : (x y : X) → (x ≡ y) ⊎ (x ≢ y)) (other : X → Y) where
  picked : (xs : List X) (ys : List Y) → AsLong xs ys → (k : ℕ) (x : X) → slice_get xs k ≡ Some x → (j : ℕ) × (slice_get xs j ≡ Some x) × (slice_get ys j ≡ Some (pick test other xs ys x))
  picked [] ys l k x h = cc
  picked (a ∷ xs) [] l k x h = cc
  picked (a ∷ xs) (b ∷ ys) l zero x h =
      let s : Some a ≡ Some x = h in
      let e : x ≡ a = cc in
      elim (test x a) as (λ d. (j : ℕ) × (slice_get (a ∷ xs) j ≡ Some x) × (slice_get (b ∷ ys) j ≡ Some (⊎_elim (λ _. b) (λ _. pick test other xs ys x) d))) [
        | inl same ↦ (zero, h, refl)
        | inr differ ↦ absurd (differ e)
      ]
  picked (a ∷ xs) (b ∷ ys) l (suc k) x h =
      let r = picked xs ys (let long : AsLong xs ys = cc in long) k x h in
      elim (test x a) as (λ d. (j : ℕ) × (slice_get (a ∷ xs) j ≡ Some x) × (slice_get (b ∷ ys) j ≡ Some (⊎_elim (λ _. b) (λ _. pick test other xs ys x) d))) [
        | inl same ↦ (zero, ap Some (sym same), refl)
        | inr differ ↦ (suc r.0, r.1, r.2)
      ]

  module _ (xs : List X) (ys : List Y) (long : AsLong xs ys) (alike : RepeatAlike xs ys) where
    picked_at : (k : ℕ) (o : Option X) → slice_get xs k ≡ o → option_map (pick test other xs ys) o ≡ slice_get ys k
    picked_at k None e = none_too X (slice_get ys k) (
        ap (option_map (nothing {X = X})) (sym e) ∙ sym (slice_get-map (nothing {X = X}) xs k)
        ∙ ap (λ l. slice_get l k) long ∙ slice_get-map (nothing {X = Y}) ys k)
    picked_at k (Some x) e = let r = picked xs ys long k x e in sym r.2 ∙ (alike r.0 k).0 (r.1 ∙ sym e)

    pub picked_all : map (pick test other xs ys) xs ≡ ys
    picked_all = same_list (map (pick test other xs ys) xs) ys (λ k. slice_get-map (pick test other xs ys) xs k ∙ picked_at k (slice_get xs k) refl)

    pub picked_apart : KeepsApart (pick test other xs ys) xs
    picked_apart x y a b e =
        let s : Some x ≡ Some y = sym a.1 ∙ (alike a.0 b.0).1 (sym (picked_at a.0 (Some x) a.1) ∙ ap Some e ∙ picked_at b.0 (Some y) b.1) ∙ b.1 in
        cc
