-- Lists side by side, and the numbers of values in two lists that are alike.
use Rattle.std.proofs.Common.{◌≡◌, ◌⊎◌, ⊎_elim, inl, inr, ℕ, zero, suc, List, [], ◌∷◌, ◌++◌, length, Some, slice_get, refl}
use Rattle.std.proofs.Common.{sym, ap, ◌∙◌, subst, arith}
use Rattle.std.proofs.lemmas.Option.{same_Some}
use Rattle.ir_print.specs.Shown.{Pairs}
use Rattle.ir_trees.specs.Renames.{RepeatAlike}
use Rattle.opt_trees.specs.Occurrences.{Has}

-- ---- places

-- what is in a list has a place
pub place_of : {X : Type 0} (x : X) (xs : List X) → Has x xs → (k : ℕ) × (slice_get xs k ≡ Some x)
place_of x [] h = absurd h
place_of x (y ∷ ys) h =
    ⊎_elim (λ e. (zero, ap Some (sym e))) (λ t. let k = place_of x ys t in (suc k.0, k.1)) h

-- what has a place is in the list
pub has_place : {X : Type 0} (x : X) (xs : List X) (k : ℕ) → slice_get xs k ≡ Some x → Has x xs
has_place x [] k e = absurd cc
has_place x (y ∷ ys) zero e = inl (sym (same_Some y x e))
has_place x (y ∷ ys) (suc k) e = inr (has_place x ys k e)

-- lists with the same at each place are the same
pub same_lists : {X : Type 0} (xs ys : List X) → length xs ≡ length ys
    → ((k : ℕ) (x y : X) → slice_get xs k ≡ Some x → slice_get ys k ≡ Some y → x ≡ y) → xs ≡ ys
same_lists [] [] l each = refl
same_lists [] (y ∷ ys) l each = absurd (omega arith)
same_lists (x ∷ xs) [] l each = absurd (omega arith)
same_lists {X} (x ∷ xs) (y ∷ ys) l each =
    let more : length xs ≡ length ys = omega arith in
    ap (λ (a : X). a ∷ xs) (each zero x y refl refl)
    ∙ ap (λ (zs : List X). y ∷ zs) (same_lists xs ys more (λ k a b at there. each (suc k) a b at there))

-- ---- appended lists

-- lists are the same where they are appended to lists of one length, which are the same too
pub split_same : {X : Type 0} (xs ys us vs : List X) → length xs ≡ length ys → xs ++ us ≡ ys ++ vs
    → (xs ≡ ys) × (us ≡ vs)
split_same [] [] us vs l e = (refl, e)
split_same [] (y ∷ ys) us vs l e = absurd (omega arith)
split_same (x ∷ xs) [] us vs l e = absurd (omega arith)
split_same {X} (x ∷ xs) (y ∷ ys) us vs l e =
    let more : length xs ≡ length ys = omega arith in
    let first : x ≡ y = cc in
    let rest : xs ++ us ≡ ys ++ vs = cc in
    let parts = split_same xs ys us vs more rest in
    (ap (λ (a : X). a ∷ xs) first ∙ ap (λ (zs : List X). y ∷ zs) parts.0, parts.1)

-- lists of the same lengths one after the other
pub long_parts : {X Y : Type 0} (xs us : List X) (ys vs : List Y) → length xs ≡ length ys → length us ≡ length vs
    → length (xs ++ us) ≡ length (ys ++ vs)
long_parts [] us [] vs l m = m
long_parts [] us (y ∷ ys) vs l m = absurd (omega arith)
long_parts (x ∷ xs) us [] vs l m = absurd (omega arith)
long_parts (x ∷ xs) us (y ∷ ys) vs l m =
    let more : length xs ≡ length ys = omega arith in ap suc (long_parts xs us ys vs more m)

-- appending three lists
pub three_lists : {X : Type 0} (xs ys zs : List X) → (xs ++ ys) ++ zs ≡ xs ++ (ys ++ zs)
three_lists [] ys zs = refl
three_lists {X} (x ∷ xs) ys zs = ap (λ (zs : List X). x ∷ zs) (three_lists xs ys zs)

-- ---- two at one place

-- the lists have these two at one place
abbrev pub Both : List ℕ → List ℕ → ℕ → ℕ → Type 0
Both (x ∷ xs) (y ∷ ys) n m = ((x ≡ n) × (y ≡ m)) ⊎ Both xs ys n m
Both _ _ n m = ⊥

-- two at one place of appended lists are at one place of the first lists or of the others
pub both_parts : (xs ys us vs : List ℕ) (n m : ℕ) → length xs ≡ length ys → Both (xs ++ us) (ys ++ vs) n m
    → Both xs ys n m ⊎ Both us vs n m
both_parts [] [] us vs n m l h = inr h
both_parts [] (y ∷ ys) us vs n m l h = absurd (omega arith)
both_parts (x ∷ xs) [] us vs n m l h = absurd (omega arith)
both_parts (x ∷ xs) (y ∷ ys) us vs n m l h =
    let more : length xs ≡ length ys = omega arith in
    ⊎_elim (λ e. inl (inl e)) (λ t. ⊎_elim (λ a. inl (inr a)) (λ b. inr b) (both_parts xs ys us vs n m more t)) h

-- two at one place of the first lists are at one place of appended ones
pub both_left : (xs ys us vs : List ℕ) (n m : ℕ) → Both xs ys n m → Both (xs ++ us) (ys ++ vs) n m
both_left [] ys us vs n m h = absurd h
both_left (x ∷ xs) [] us vs n m h = absurd h
both_left (x ∷ xs) (y ∷ ys) us vs n m h = ⊎_elim (λ e. inl e) (λ t. inr (both_left xs ys us vs n m t)) h

-- and so are two at one place of the others, where the first lists have one length
pub both_right : (xs ys us vs : List ℕ) (n m : ℕ) → length xs ≡ length ys → Both us vs n m
    → Both (xs ++ us) (ys ++ vs) n m
both_right [] [] us vs n m l h = h
both_right [] (y ∷ ys) us vs n m l h = absurd (omega arith)
both_right (x ∷ xs) [] us vs n m l h = absurd (omega arith)
both_right (x ∷ xs) (y ∷ ys) us vs n m l h =
    let more : length xs ≡ length ys = omega arith in inr (both_right xs ys us vs n m more h)

-- a list has each of its members where it has it
pub both_same : (n : ℕ) (xs : List ℕ) → Has n xs → Both xs xs n n
both_same n [] h = absurd h
both_same n (x ∷ xs) h = ⊎_elim (λ e. inl (sym e, sym e)) (λ t. inr (both_same n xs t)) h

-- two at one place have a place
pub both_place : (xs ys : List ℕ) (n m : ℕ) → Both xs ys n m
    → (k : ℕ) × (slice_get xs k ≡ Some n) × (slice_get ys k ≡ Some m)
both_place [] ys n m h = absurd h
both_place (x ∷ xs) [] n m h = absurd h
both_place (x ∷ xs) (y ∷ ys) n m h =
    ⊎_elim (λ e. (zero, ap Some e.0, ap Some e.1)) (λ t. let k = both_place xs ys n m t in (suc k.0, k.1, k.2)) h

-- ---- pairs

module _ {X Y : Type 0} (R : X → Y → Type 0) where
  -- appended lists are paired where their parts are
  pub pairs_parts : (xs us : List X) (ys vs : List Y) → Pairs R xs ys → Pairs R us vs → Pairs R (xs ++ us) (ys ++ vs)
  pairs_parts [] us [] vs h k = k
  pairs_parts [] us (y ∷ ys) vs h k = absurd h
  pairs_parts (x ∷ xs) us [] vs h k = absurd h
  pairs_parts (x ∷ xs) us (y ∷ ys) vs h k = (h.0, pairs_parts xs us ys vs h.1 k)

  -- lists that are paired have one length
  pub pairs_long : (xs : List X) (ys : List Y) → Pairs R xs ys → length xs ≡ length ys
  pairs_long [] [] h = refl
  pairs_long [] (y ∷ ys) h = absurd h
  pairs_long (x ∷ xs) [] h = absurd h
  pairs_long (x ∷ xs) (y ∷ ys) h = ap suc (pairs_long xs ys h.1)

  -- with each of the second there is one of the first
  pub pair_at : (xs : List X) (ys : List Y) (k : ℕ) (y : Y) → Pairs R xs ys → slice_get ys k ≡ Some y
      → (x : X) × (slice_get xs k ≡ Some x) × R x y
  pair_at [] [] k y h e = absurd cc
  pair_at [] (b ∷ ys) k y h e = absurd h
  pair_at (x ∷ xs) [] k y h e = absurd h
  pair_at (x ∷ xs) (b ∷ ys) zero y h e = (x, refl, subst (R x) (same_Some b y e) h.0)
  pair_at (x ∷ xs) (b ∷ ys) (suc k) y h e = pair_at xs ys k y h.1 e

-- ---- numbers

-- What is alike in two lists, and has numbers, has the same numbers in both, where each number of the first stands somewhere in both.
pub one_numbering : {X Y : Type 0} (R : X → ℕ → Type 0) (S : Y → ℕ → Type 0) (vs : List X) (us : List Y) (ns ms : List ℕ)
    → ((x y : X) (n : ℕ) → R x n → R y n → x ≡ y) → ((y : Y) (n m : ℕ) → S y n → S y m → n ≡ m) → RepeatAlike vs us
    → Pairs R vs ns → Pairs S us ms → length ns ≡ length ms
    → ((k n : ℕ) → slice_get ns k ≡ Some n → (j : ℕ) × (slice_get ns j ≡ Some n) × (slice_get ms j ≡ Some n)) → ns ≡ ms
one_numbering R S vs us ns ms single own alike here there long meet =
    same_lists ns ms long (λ k n m at too.
    let meets = meet k n at in
    let j = meets.0 in
    let a = pair_at R vs ns k n here at in
    let b = pair_at R vs ns j n here meets.1 in
    let same : slice_get vs j ≡ slice_get vs k = b.1 ∙ ap Some (single b.0 a.0 n b.2 a.2) ∙ sym a.1 in
    let c = pair_at S us ms k m there too in
    let d = pair_at S us ms j n there meets.2 in
    let one : d.0 ≡ c.0 = same_Some d.0 c.0 (sym d.1 ∙ ((alike j k).0 same ∙ c.1)) in
    own c.0 n m (subst (λ y. S y n) one d.2) c.2)
