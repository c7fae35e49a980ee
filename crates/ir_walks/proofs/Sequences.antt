-- Lists: what stands at a place, what stands before and after it.
use Rattle.std.proofs.Common.{◌≡◌, ◌⊎◌, inl, inr, ⊎_elim, ℕ, zero, suc, ◌<◌, List, [], ◌∷◌, ◌++◌, map, length, reverse, slice_get, Option, Some, None, refl, sym, ap, ◌∙◌, subst, arith, append_assoc, length-append, ◌-◌, ◌+◌}
use Rattle.std.specs.Prelude.{Contains, AllPairs, slice_index_or, option_map, MatchOption, ⊤}
use Rattle.std.proofs.lemmas.Option.{slice_get-map}
use Rattle.std.proofs.lemmas.List.{reverse-append, reverse-reverse}
use Rattle.ir_walks.specs.declared.config.Direction.{Direction}
use Rattle.ir_walks.specs.declared.config.Direction.TheVariants.{Forward, Reverse}
use Rattle.ir_walks.specs.Levels.{directed}

module _ {X : Type 0} where
  -- x stands in the list, with these before and after it
  pub record SplitAt (xs : List X) (k : ℕ) (x : X) : Type 0 where
    pub before : List X
    pub after : List X
    pub parts : xs ≡ before ++ x ∷ after
    pub many : length before ≡ k

  pub split : (xs : List X) (k : ℕ) (x : X) → slice_get xs k ≡ Some x → SplitAt xs k x
  split [] k x h = cc
  split (y ∷ ys) zero x h = let e : y ≡ x = cc in record { before = []; after = ys; parts = ap (λ z. z ∷ ys) e; many = refl }
  split (y ∷ ys) (suc k) x h =
      let s : SplitAt ys k x = split ys k x h in
      record { before = y ∷ s.before; after = s.after; parts = ap (λ zs. y ∷ zs) s.parts; many = ap suc s.many }

  pub at_seam : (before : List X) (x : X) (after : List X) → slice_get (before ++ x ∷ after) (length before) ≡ Some x
  at_seam [] x after = refl
  at_seam (y ∷ ys) x after = at_seam ys x after

  pub same_split : (b1 b2 a1 a2 : List X) (x : X) → b1 ++ x ∷ a1 ≡ b2 ++ x ∷ a2 → length b1 ≡ length b2 → (b1 ≡ b2) × (a1 ≡ a2)
  same_split [] [] a1 a2 x h l = (refl, cc)
  same_split [] (y ∷ ys) a1 a2 x h l = absurd (omega (arith, l))
  same_split (y ∷ ys) [] a1 a2 x h l = absurd (omega (arith, l))
  same_split (y ∷ ys) (z ∷ zs) a1 a2 x h l =
      let first : y ≡ z = cc in
      let rest : ys ++ x ∷ a1 ≡ zs ++ x ∷ a2 = cc in
      let many : length ys ≡ length zs = omega (arith, l) in
      let s : (ys ≡ zs) × (a1 ≡ a2) = same_split ys zs a1 a2 x rest many in
      ((λ i. first i ∷ s.0 i), s.1)

  pub starts : (xs : List X) (k : X) → slice_get xs 0 ≡ Some k → (ks : List X) × (xs ≡ k ∷ ks)
  starts [] k h = cc
  starts (x ∷ xs) k h = let e : x ≡ k = cc in (xs, ap (λ y. y ∷ xs) e)

  pub is_empty : (xs : List X) → slice_get xs 0 ≡ None → xs ≡ []
  is_empty [] h = refl
  is_empty (x ∷ xs) h = cc

  -- in the other direction
  pub turned : (before : List X) (x : X) (after : List X) → reverse (before ++ x ∷ after) ≡ reverse after ++ x ∷ reverse before
  turned before x after =
      reverse-append before (x ∷ after) ∙ ap (λ zs. zs ++ reverse before) (reverse-append (x ∷ []) after) ∙ simp append_assoc

  snoc : (x : X) (xs : List X) → (init : List X) × (last : X) × (x ∷ xs ≡ init ++ last ∷ [])
  snoc x [] = ([], x, refl)
  snoc x (y ∷ ys) = let r = snoc y ys in (x ∷ r.0, r.1, ap (λ zs. x ∷ zs) r.2)

  first_of_reversed : (init : List X) (last : X) → slice_get (reverse (init ++ last ∷ [])) 0 ≡ slice_get (init ++ last ∷ []) (length (init ++ last ∷ []) - 1)
  first_of_reversed init last =
      let many : length (init ++ last ∷ []) - 1 ≡ length init = let l : length (init ++ last ∷ []) ≡ length init + 1 = length-append init (last ∷ []) in omega (arith, l) in
      ap (λ ys. slice_get ys 0) (turned init last []) ∙ sym (ap (slice_get (init ++ last ∷ [])) many ∙ at_seam init last [])

  pub first_reversed : (xs : List X) → slice_get (reverse xs) 0 ≡ slice_get xs (length xs - 1)
  first_reversed [] = refl
  first_reversed (x ∷ xs) = let r = snoc x xs in subst (λ ys. slice_get (reverse ys) 0 ≡ slice_get ys (length ys - 1)) (sym r.2) (first_of_reversed r.0 r.1)

  -- a list that is split so in a direction
  abbrev pub unsplit : Direction → List X → X → List X → List X
  unsplit Forward before x after = before ++ x ∷ after
  unsplit Reverse before x after = reverse after ++ x ∷ reverse before

  -- the place of the one between
  abbrev pub place_in : Direction → List X → List X → ℕ
  place_in Forward before after = length before
  place_in Reverse before after = length (reverse after)

  pub undirected : (direction : Direction) (xs before : List X) (x : X) (after : List X) → directed direction xs ≡ before ++ x ∷ after → xs ≡ unsplit direction before x after
  undirected Forward xs before x after h = h
  undirected Reverse xs before x after h = sym (reverse-reverse xs) ∙ ap reverse h ∙ turned before x after

  pub unsplit_at : (direction : Direction) (before : List X) (x : X) (after : List X) → slice_get (unsplit direction before x after) (place_in direction before after) ≡ Some x
  unsplit_at Forward before x after = at_seam before x after
  unsplit_at Reverse before x after = at_seam (reverse after) x (reverse before)

  unreversed : (xs ys : List X) → reverse xs ≡ reverse ys → xs ≡ ys
  unreversed xs ys h = sym (reverse-reverse xs) ∙ ap reverse h ∙ reverse-reverse ys

  pub same_unsplit : (direction : Direction) (b1 b2 a1 a2 : List X) (x : X) → unsplit direction b1 x a1 ≡ unsplit direction b2 x a2 → place_in direction b1 a1 ≡ place_in direction b2 a2 → (b1 ≡ b2) × (a1 ≡ a2)
  same_unsplit Forward b1 b2 a1 a2 x h l = same_split b1 b2 a1 a2 x h l
  same_unsplit Reverse b1 b2 a1 a2 x h l =
      let s : (reverse a1 ≡ reverse a2) × (reverse b1 ≡ reverse b2) = same_split (reverse a1) (reverse a2) (reverse b1) (reverse b2) x h l in
      (unreversed b1 b2 s.1, unreversed a1 a2 s.0)

  -- the fact holds of each
  abbrev pub OfEach : (X → Type 0) → List X → Type 0
  OfEach P [] = ⊤
  OfEach P (x ∷ xs) = P x × OfEach P xs

  -- the fact holds of each and each later one
  abbrev pub InTurn : (X → X → Type 0) → List X → Type 0
  InTurn R [] = ⊤
  InTurn R (x ∷ xs) = OfEach (R x) xs × InTurn R xs

  pub each_map : (P Q : X → Type 0) → ((x : X) → P x → Q x) → (xs : List X) → OfEach P xs → OfEach Q xs
  each_map P Q f [] h = tt
  each_map P Q f (x ∷ xs) h = (f x h.0, each_map P Q f xs h.1)

  pub each_append : (P : X → Type 0) (xs ys : List X) → OfEach P xs → OfEach P ys → OfEach P (xs ++ ys)
  each_append P [] ys h k = k
  each_append P (x ∷ xs) ys h k = (h.0, each_append P xs ys h.1 k)

  pub turn_map : (R S : X → X → Type 0) → ((x y : X) → R x y → S x y) → (xs : List X) → InTurn R xs → InTurn S xs
  turn_map R S f [] h = tt
  turn_map R S f (x ∷ xs) h = (each_map (R x) (S x) (f x) xs h.0, turn_map R S f xs h.1)

  pub turn_append : (R : X → X → Type 0) (xs ys : List X) → InTurn R xs → InTurn R ys → OfEach (λ x. OfEach (R x) ys) xs → InTurn R (xs ++ ys)
  turn_append R [] ys h k x = k
  turn_append R (x ∷ xs) ys h k m = (each_append (R x) xs ys h.0 m.0, turn_append R xs ys h.1 k m.1)

  each_at : (P : X → Type 0) (xs : List X) → OfEach P xs → (k : ℕ) (d : X) → k < length xs → P (slice_index_or xs k d)
  each_at P [] h k d lt = absurd (omega (arith, lt))
  each_at P (x ∷ xs) h zero d lt = h.0
  each_at P (x ∷ xs) h (suc k) d lt = each_at P xs h.1 k d (omega (arith, lt))

  pub each_of : (P : X → Type 0) (xs : List X) → OfEach P xs → (x : X) → Contains xs x → P x
  each_of P xs h x m = subst P m.2 (each_at P xs h m.0 x m.1)

  pub in_pairs : (R : X → X → Type 0) (xs : List X) → InTurn R xs → AllPairs R xs
  in_pairs R [] h i j d lt within = absurd (omega (arith, within))
  in_pairs R (x ∷ xs) h i zero d lt within = absurd (omega (arith, lt))
  in_pairs R (x ∷ xs) h zero (suc j) d lt within = each_at (R x) xs h.0 j d (omega (arith, within))
  in_pairs R (x ∷ xs) h (suc i) (suc j) d lt within = in_pairs R xs h.1 i j d (omega (arith, lt)) (omega (arith, within))

  each_get : (P : X → Type 0) (xs : List X) → OfEach P xs → (k : ℕ) (x : X) → slice_get xs k ≡ Some x → P x
  each_get P [] h k x e = cc
  each_get P (y ∷ ys) h zero x e = let s : y ≡ x = cc in subst P s h.0
  each_get P (y ∷ ys) h (suc k) x e = each_get P ys h.1 k x e

  pub turn_get : (R : X → X → Type 0) (xs : List X) → InTurn R xs → (i j : ℕ) (x y : X) → i < j → slice_get xs i ≡ Some x → slice_get xs j ≡ Some y → R x y
  turn_get R [] h i j x y lt a b = cc
  turn_get R (z ∷ zs) h i zero x y lt a b = absurd (omega (arith, lt))
  turn_get R (z ∷ zs) h zero (suc j) x y lt a b = let s : z ≡ x = cc in subst (λ w. R w y) s (each_get (R z) zs h.0 j y b)
  turn_get R (z ∷ zs) h (suc i) (suc j) x y lt a b = turn_get R zs h.1 i j x y (omega (arith, lt)) a b

  pub contains_here : (x : X) (xs : List X) → Contains (x ∷ xs) x
  contains_here x xs = (0, omega arith, refl)

  pub contains_there : (y : X) (xs : List X) (x : X) → Contains xs x → Contains (y ∷ xs) x
  contains_there y xs x m = (suc m.0, omega (arith, m.1), m.2)

  pub directed_at : (direction : Direction) (xs : List X) (k : ℕ) (x : X) → slice_get xs k ≡ Some x → (j : ℕ) × (slice_get (directed direction xs) j ≡ Some x)
  directed_at Forward xs k x h = (k, h)
  directed_at Reverse xs k x h =
      let s : SplitAt xs k x = split xs k x h in
      (length (reverse s.after), ap (λ ys. slice_get (reverse ys) (length (reverse s.after))) s.parts ∙ ap (λ ys. slice_get ys (length (reverse s.after))) (turned s.before x s.after) ∙ at_seam (reverse s.after) x (reverse s.before))

  pub contains_get : (xs : List X) (x : X) (k : ℕ) → k < length xs → slice_index_or xs k x ≡ x → (j : ℕ) × (slice_get xs j ≡ Some x)
  contains_get [] x k lt e = absurd (omega (arith, lt))
  contains_get (y ∷ ys) x zero lt e = (0, ap Some e)
  contains_get (y ∷ ys) x (suc k) lt e = let r = contains_get ys x k (omega (arith, lt)) e in (suc r.0, r.1)

pub compare : (j k : ℕ) → (j < k) ⊎ ((j ≡ k) ⊎ (k < j))
compare zero zero = inr (inl refl)
compare zero (suc k) = inl (omega arith)
compare (suc j) zero = inr (inr (omega arith))
compare (suc j) (suc k) = ⊎_elim (λ a. inl (omega (arith, a))) (λ b. ⊎_elim (λ e. inr (inl (ap suc e))) (λ g. inr (inr (omega (arith, g)))) b) (compare j k)

-- what stands in a list that was made of another
pub got_from : {X Y : Type 0} (f : X → Y) (xs : List X) (k : ℕ) (y : Y) → slice_get (map f xs) k ≡ Some y → (x : X) × (slice_get xs k ≡ Some x) × (y ≡ f x)
got_from f [] k y h = cc
got_from f (x ∷ xs) zero y h = let e : f x ≡ y = cc in (x, refl, sym e)
got_from f (x ∷ xs) (suc k) y h = got_from f xs k y h

pub at_node : {X Y : Type 0} (f : X → Y) (xs : List X) (k : ℕ) (x : X) → slice_get xs k ≡ Some x → slice_get (map f xs) k ≡ Some (f x)
at_node f xs k x h = slice_get-map f xs k ∙ ap (option_map f) h

-- what comes right after one, in a direction
after_seam : {X : Type 0} (before : List X) (x : X) (after : List X) → slice_get (before ++ x ∷ after) (length before + 1) ≡ slice_get after 0
after_seam [] x after = refl
after_seam (y ∷ ys) x after = let e : suc (length ys) + 1 ≡ suc (length ys + 1) = omega arith in ap (slice_get (y ∷ (ys ++ x ∷ after))) e ∙ after_seam ys x after

pub after_forward : {X : Type 0} (xs before : List X) (x : X) (after : List X) (r : Option X) → ((k : ℕ) → slice_get xs k ≡ Some x → r ≡ slice_get xs (k + 1)) → xs ≡ before ++ x ∷ after → r ≡ slice_get after 0
after_forward xs before x after r next h =
    next (length before) (ap (λ ys. slice_get ys (length before)) h ∙ at_seam before x after)
    ∙ ap (λ ys. slice_get ys (length before + 1)) h ∙ after_seam before x after

pub after_reverse : {X : Type 0} (xs before : List X) (x : X) (after : List X) (r : Option X) → ((k : ℕ) → slice_get xs (k + 1) ≡ Some x → r ≡ slice_get xs k) → (slice_get xs 0 ≡ Some x → r ≡ None) → reverse xs ≡ before ++ x ∷ after → r ≡ slice_get after 0
after_reverse xs before x [] r previous first h = first (ap (λ ys. slice_get ys 0) (undirected Reverse xs before x [] h))
after_reverse {X} xs before x (a ∷ rest) r previous first h =
    let parts : xs ≡ reverse (a ∷ rest) ++ x ∷ reverse before = undirected Reverse xs before x (a ∷ rest) h in
    let last : xs ≡ (reverse rest ++ a ∷ []) ++ x ∷ reverse before = parts ∙ ap (λ (ys : List X). ys ++ x ∷ reverse before) (reverse-append (a ∷ []) rest) in
    let here : xs ≡ reverse rest ++ a ∷ x ∷ reverse before = last ∙ append_assoc (reverse rest) (a ∷ []) (x ∷ reverse before) in
    previous (length (reverse rest)) (ap (λ ys. slice_get ys (length (reverse rest) + 1)) here ∙ after_seam (reverse rest) a (x ∷ reverse before))
    ∙ ap (λ ys. slice_get ys (length (reverse rest))) here ∙ at_seam (reverse rest) a (x ∷ reverse before)

-- the first of what is left from the back
pub last_taken : {X : Type 0} (r : Option X) (was left : List X) → MatchOption r ((was ≡ []) × (left ≡ [])) (λ x. was ≡ left ++ x ∷ []) → r ≡ slice_get (reverse was) 0
last_taken None was left h = sym (ap (λ ys. slice_get (reverse ys) 0) h.0)
last_taken (Some x) was left h = sym (ap (λ ys. slice_get (reverse ys) 0) h ∙ ap (λ ys. slice_get ys 0) (turned left x []))
