-- Ranges of a list.
use Rattle.std.proofs.Common.{◌≡◌, ℕ, zero, suc, ◌+◌, ◌-◌, ◌<◌, ◌≤◌, List, [], ◌∷◌, ◌++◌, Some, take, drop, slice_get, slice_range, length, min, refl, sym, ap, ◌∙◌, arith}
use Rattle.std.proofs.lemmas.Grind.{common_steps}
use Rattle.std.proofs.lemmas.List.{take_more, take_rest}
use Rattle.std.proofs.lemmas.Option.{slice_get_within, get_or_from_slice_get}

-- what a list has up to and with index i
one_more : {X : Type 0} (xs : List X) (i : ℕ) (x : X) → slice_get xs i ≡ Some x → take (i + 1) xs ≡ take i xs ++ x ∷ []
one_more xs i x e = take_more xs i x (slice_get_within xs i x e) ∙ ap (λ y. take i xs ++ y ∷ []) (get_or_from_slice_get xs i x x e)

-- what is at an index behind the first ones
behind : {X : Type 0} (xs : List X) (start k : ℕ) → slice_get (drop start xs) k ≡ slice_get xs (start + k)
behind xs zero k = ap (slice_get xs) (omega arith)
behind [] (suc start) k = refl
behind (y ∷ xs) (suc start) k =
    let e : suc start + k ≡ suc (start + k) = omega arith in
    behind xs start k ∙ ap (slice_get (y ∷ xs)) (sym e)

-- what a range has up to and with index i, where the items so far are known
pub next_in_range : {X : Type 0} (xs items : List X) (start i : ℕ) (x : X) → start ≤ i → items ≡ slice_range xs start i → slice_get xs i ≡ Some x → items ++ x ∷ [] ≡ slice_range xs start (i + 1)
next_in_range xs items start i x order so_far e =
    let here : start + (i - start) ≡ i = omega arith in
    let later : (i - start) + 1 ≡ i + 1 - start = omega arith in
    let found : slice_get (drop start xs) (i - start) ≡ Some x = behind xs start (i - start) ∙ (ap (slice_get xs) here ∙ e) in
    ap (λ l. l ++ x ∷ []) so_far ∙ (sym (one_more (drop start xs) (i - start) x found) ∙ ap (λ n. take n (drop start xs)) later)

-- what is behind more items than there are is what is behind all of them
capped : {X : Type 0} (xs : List X) (first : ℕ) → drop (min first (length xs)) xs ≡ drop first xs
capped xs first = grind (arith, common_steps)

-- the range up to the end is what is behind the first ones, also where there are fewer
pub rest_from : {X : Type 0} (xs : List X) (first : ℕ) → slice_range xs (min first (length xs)) (length xs) ≡ drop first xs
rest_from xs first = take_rest xs (min first (length xs)) ∙ capped xs first

-- there is an item at each index below the length
pub item_there : {X : Type 0} (xs : List X) (k : ℕ) → k < length xs → (x : X) × (slice_get xs k ≡ Some x)
item_there [] k within = absurd (none k within)
  where
    none : (n : ℕ) → n < 0 → ⊥
    none n h = omega arith
item_there (x ∷ xs) zero within = (x, refl)
item_there (x ∷ xs) (suc k) within = item_there xs k (omega arith)
