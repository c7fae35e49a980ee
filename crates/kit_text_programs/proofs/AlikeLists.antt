-- Lists whose members belong to one another one by one.
use Rattle.std.proofs.Common.{◌≡◌, ℕ, zero, suc, List, [], ◌∷◌, ◌++◌, map, take, drop, length, Option, Some, None}
use Rattle.std.proofs.Common.{slice_get, refl}
use Rattle.std.proofs.Common.{ap, ◌∙◌, subst}
use Rattle.ir_print.specs.Shown.{Pairs}
use Rattle.ir_trees.specs.Searched.{Lists}
use Rattle.kit_checks.specs.Words.{Every, AreAllEqual, joined, segment}
use Rattle.kit_text_programs.specs.Alike.{AreBoth, IsInjective}

module _ {X Y : Type 0} (R : X → Y → Type 0) where
  pub same_length : (xs : List X) (ys : List Y) → Pairs R xs ys → length xs ≡ length ys
  same_length [] [] h = refl
  same_length [] (y ∷ ys) h = absurd h
  same_length (x ∷ xs) [] h = absurd h
  same_length (x ∷ xs) (y ∷ ys) h = ap suc (same_length xs ys h.1)

  -- what stands at an index of the first has something beside it
  pub beside : (xs : List X) (ys : List Y) → Pairs R xs ys → (k : ℕ) (x : X) → slice_get xs k ≡ Some x
      → (y : Y) × (slice_get ys k ≡ Some y) × R x y
  beside [] ys h k x e = cc
  beside (z ∷ xs) [] h k x e = absurd h
  beside (z ∷ xs) (y ∷ ys) h zero x e =
      let o : Some z ≡ Some x = e in
      let same : z ≡ x = cc in (y, refl, subst (λ v. R v y) same h.0)
  beside (z ∷ xs) (y ∷ ys) h (suc k) x e = beside xs ys h.1 k x e

  -- and the other way round
  pub before : (xs : List X) (ys : List Y) → Pairs R xs ys → (k : ℕ) (y : Y) → slice_get ys k ≡ Some y
      → (x : X) × (slice_get xs k ≡ Some x) × R x y
  before xs [] h k y e = cc
  before [] (z ∷ ys) h k y e = absurd h
  before (x ∷ xs) (z ∷ ys) h zero y e =
      let o : Some z ≡ Some y = e in
      let same : z ≡ y = cc in (x, refl, subst (λ v. R x v) same h.0)
  before (x ∷ xs) (z ∷ ys) h (suc k) y e = before xs ys h.1 k y e

  -- both at an index, or neither
  pub both_at : (xs : List X) (ys : List Y) → Pairs R xs ys → (k : ℕ) → AreBoth R (slice_get xs k) (slice_get ys k)
  both_at [] [] h k = tt
  both_at [] (y ∷ ys) h k = absurd h
  both_at (x ∷ xs) [] h k = absurd h
  both_at (x ∷ xs) (y ∷ ys) h zero = h.0
  both_at (x ∷ xs) (y ∷ ys) h (suc k) = both_at xs ys h.1 k

  pub pairs_joined : (xs xs2 : List X) (ys ys2 : List Y) → Pairs R xs ys → Pairs R xs2 ys2
      → Pairs R (xs ++ xs2) (ys ++ ys2)
  pairs_joined [] xs2 [] ys2 h k = k
  pairs_joined [] xs2 (y ∷ ys) ys2 h k = absurd h
  pairs_joined (x ∷ xs) xs2 [] ys2 h k = absurd h
  pairs_joined (x ∷ xs) xs2 (y ∷ ys) ys2 h k = (h.0, pairs_joined xs xs2 ys ys2 h.1 k)

  pub pairs_taken : (xs : List X) (ys : List Y) (n : ℕ) → Pairs R xs ys → Pairs R (take n xs) (take n ys)
  pairs_taken xs ys zero h = tt
  pairs_taken [] [] (suc n) h = tt
  pairs_taken [] (y ∷ ys) (suc n) h = absurd h
  pairs_taken (x ∷ xs) [] (suc n) h = absurd h
  pairs_taken (x ∷ xs) (y ∷ ys) (suc n) h = (h.0, pairs_taken xs ys n h.1)

  pub all_joined : (xs : List (List X)) (ys : List (List Y)) → Pairs (Pairs R) xs ys → Pairs R (joined xs) (joined ys)
  all_joined [] [] h = tt
  all_joined [] (y ∷ ys) h = absurd h
  all_joined (x ∷ xs) [] h = absurd h
  all_joined (x ∷ xs) (y ∷ ys) h = pairs_joined x (joined xs) y (joined ys) h.0 (all_joined xs ys h.1)

  pub none_left : (xs : List X) (ys : List Y) → Pairs R xs ys → ys ≡ [] → xs ≡ []
  none_left [] ys h e = refl
  none_left (x ∷ xs) [] h e = absurd h
  none_left (x ∷ xs) (y ∷ ys) h e = cc

  -- what holds of each of the second, and comes from them, holds of each of the first
  pub every_back : (P : X → Type 0) (Q : Y → Type 0) → ((x : X) (y : Y) → R x y → Q y → P x)
      → (xs : List X) (ys : List Y)
      → Pairs R xs ys → Every Q ys → Every P xs
  every_back P Q each xs ys h all k x e =
      let other = beside xs ys h k x e in each x other.0 other.2 (all k other.0 other.1)

  module _ (back : IsInjective R) where
    pub list_back : (xs zs : List X) (ys us : List Y) → Pairs R xs ys → Pairs R zs us → ys ≡ us → xs ≡ zs
    list_back [] [] ys us h k e = refl
    list_back [] (z ∷ zs) [] [] h k e = absurd k
    list_back [] (z ∷ zs) [] (u ∷ us) h k e = cc
    list_back [] (z ∷ zs) (y ∷ ys) us h k e = absurd h
    list_back (x ∷ xs) [] [] us h k e = absurd h
    list_back (x ∷ xs) [] (y ∷ ys) [] h k e = cc
    list_back (x ∷ xs) [] (y ∷ ys) (u ∷ us) h k e = absurd k
    list_back (x ∷ xs) (z ∷ zs) [] us h k e = absurd h
    list_back (x ∷ xs) (z ∷ zs) (y ∷ ys) [] h k e = absurd k
    list_back (x ∷ xs) (z ∷ zs) (y ∷ ys) (u ∷ us) h k e =
        let first : y ≡ u = cc in
        let rest : ys ≡ us = cc in
        ap (λ v. v ∷ xs) (back x z y u h.0 k.0 first) ∙ ap (λ vs. z ∷ vs) (list_back xs zs ys us h.1 k.1 rest)

    pub both_back : IsInjective (AreBoth R)
    both_back None None c d h k e = refl
    both_back None (Some b) None None h k e = absurd k
    both_back None (Some b) None (Some d) h k e = cc
    both_back None (Some b) (Some c) d h k e = absurd h
    both_back (Some a) None None d h k e = absurd h
    both_back (Some a) None (Some c) None h k e = cc
    both_back (Some a) None (Some c) (Some d) h k e = absurd k
    both_back (Some a) (Some b) None d h k e = absurd h
    both_back (Some a) (Some b) (Some c) None h k e = absurd k
    both_back (Some a) (Some b) (Some c) (Some d) h k e = let same : c ≡ d = cc in ap Some (back a b c d h k same)

    -- a member of the first list is one where its own is one of the second
    pub member_back : (xs : List X) (ys : List Y) (x : X) (y : Y) → Pairs R xs ys → R x y → Lists ys y → Lists xs x
    member_back xs ys x y h r at =
        let other = before xs ys h at.0 y at.1 in
        (at.0, other.1 ∙ ap Some (back other.0 x y y other.2 r refl))

    pub alike_back : (xs : List X) (ys : List Y) → Pairs R xs ys → AreAllEqual ys → AreAllEqual xs
    alike_back xs ys h alike a b in_a in_b =
        let c = beside xs ys h in_a.0 a in_a.1 in
        let d = beside xs ys h in_b.0 b in_b.1 in
        back a b c.0 d.0 c.2 d.2 (alike c.0 d.0 (in_a.0, c.1) (in_b.0, d.1))

  -- where the second is there the first is
  pub some_first : (o : Option X) (p : Option Y) (y : Y) → AreBoth R o p → p ≡ Some y → (x : X) × (o ≡ Some x) × R x y
  some_first None None y h e = cc
  some_first None (Some z) y h e = absurd h
  some_first (Some x) None y h e = absurd h
  some_first (Some x) (Some z) y h e = let same : z ≡ y = cc in (x, refl, subst (λ v. R x v) same h)

  -- where the first is there the second is
  pub some_second : (o : Option X) (p : Option Y) (x : X) → AreBoth R o p → o ≡ Some x → (y : Y) × (p ≡ Some y) × R x y
  some_second None p x h e = cc
  some_second (Some z) None x h e = absurd h
  some_second (Some z) (Some y) x h e = let same : z ≡ x = cc in (y, refl, subst (λ v. R v y) same h)

  pub none_second : (o : Option X) (p : Option Y) → AreBoth R o p → o ≡ None → p ≡ None
  none_second None None h e = refl
  none_second None (Some y) h e = absurd h
  none_second (Some x) p h e = cc

pub pairs_mapped : {X Y A D : Type 0} (R : X → Y → Type 0) (S : A → D → Type 0) (f : X → A) (g : Y → D)
    → ((x : X) (y : Y) → R x y → S (f x) (g y)) → (xs : List X) (ys : List Y) → Pairs R xs ys
    → Pairs S (map f xs) (map g ys)
pairs_mapped R S f g each [] [] h = tt
pairs_mapped R S f g each [] (y ∷ ys) h = absurd h
pairs_mapped R S f g each (x ∷ xs) [] h = absurd h
pairs_mapped R S f g each (x ∷ xs) (y ∷ ys) h = (each x y h.0, pairs_mapped R S f g each xs ys h.1)

pub pairs_unmapped : {X Y A D : Type 0} (S : A → D → Type 0) (f : X → A) (g : Y → D) (xs : List X) (ys : List Y)
    → Pairs S (map f xs) (map g ys) → Pairs (λ x y. S (f x) (g y)) xs ys
pairs_unmapped S f g [] [] h = tt
pairs_unmapped S f g [] (y ∷ ys) h = absurd h
pairs_unmapped S f g (x ∷ xs) [] h = absurd h
pairs_unmapped S f g (x ∷ xs) (y ∷ ys) h = (h.0, pairs_unmapped S f g xs ys h.1)

pub pairs_dropped : {X Y : Type 0} (R : X → Y → Type 0) (xs : List X) (ys : List Y) (n : ℕ) → Pairs R xs ys
    → Pairs R (drop n xs) (drop n ys)
pairs_dropped R xs ys zero h = h
pairs_dropped R [] [] (suc n) h = tt
pairs_dropped R [] (y ∷ ys) (suc n) h = absurd h
pairs_dropped R (x ∷ xs) [] (suc n) h = absurd h
pairs_dropped R (x ∷ xs) (y ∷ ys) (suc n) h = pairs_dropped R xs ys n h.1

-- so it is of each segment
pub pairs_segment : {X Y : Type 0} (R : X → Y → Type 0) (xs : List X) (ys : List Y) (sizes : List ℕ) (i : ℕ)
    → Pairs R xs ys → Pairs R (segment xs sizes i) (segment ys sizes i)
pairs_segment R xs ys [] i h = tt
pairs_segment R xs ys (n ∷ sizes) zero h = pairs_taken R xs ys n h
pairs_segment R xs ys (n ∷ sizes) (suc i) h =
    pairs_segment R (drop n xs) (drop n ys) sizes i (pairs_dropped R xs ys n h)
