-- Rows that stand one after the other in one list: a row more, the row at an index, and an entry that is changed.
use Rattle.std.proofs.Common.{◌≡◌, ℕ, zero, suc, ◌+◌, ◌-◌, ◌<◌, ◌≤◌, List, [], ◌∷◌, ◌++◌, take, drop, length, get_or, map, refl, sym, ap, ◌∙◌, arith}
use Rattle.std.proofs.Math.ListN.{set}
use Rattle.std.proofs.Math.Seq.{drop-append_seam, take-length}
use Rattle.std.proofs.lemmas.List.{take-append-le, drop-append-le, length-drop, length-take-le, get_or-take, get_or-drop}
use Rattle.std.proofs.lemmas.Option.{slice_get_read, get_or_from_slice_get}
use Rattle.opt_rows.specs.Rows.{rows_from, AreEnds, row_at, start_from}

-- ends don't fall
pub ends_rise : (low : ℕ) (es : List ℕ) (high : ℕ) → AreEnds low es high → low ≤ high
ends_rise low [] high h = omega (arith, h)
ends_rise low (e ∷ es) high h = let r = ends_rise e es high h.1 in let l = h.0 in omega (arith, r, l)

pub read_there : (xs : List ℕ) (i x : ℕ) → i < length xs → x ≡ get_or xs i x → x ≡ get_or xs i 0
read_there xs i x h e = sym (get_or_from_slice_get xs i x 0 (slice_get_read xs (length xs) i x refl h e))

-- a row more ends
pub ends_more : (low : ℕ) (es : List ℕ) (high n : ℕ) → high ≤ n → AreEnds low es high → AreEnds low (es ++ n ∷ []) n
ends_more low [] high n l h = (omega (arith, l, h), refl)
ends_more low (e ∷ es) high n l h = (h.0, ends_more e es high n l h.1)

-- a row stands inside the list
pub row_inside : (low : ℕ) (es : List ℕ) (high k : ℕ) → k < length es → AreEnds low es high → (low ≤ start_from low es k) × (start_from low es k ≤ get_or es k 0) × (get_or es k 0 ≤ high)
row_inside low [] high k h a = absurd (omega (arith, h))
row_inside low (e ∷ es) high zero h a = (omega arith, a.0, ends_rise e es high a.1)
row_inside low (e ∷ es) high (suc k) h a = let r = row_inside e es high k (omega (arith, h)) a.1 in (let l = a.0 in let m = r.0 in omega (arith, l, m), r.1, r.2)

pub start_is : (low : ℕ) (es : List ℕ) (k : ℕ) → k < length es → start_from low es (suc k) ≡ get_or es k 0
start_is low [] k h = absurd (omega (arith, h))
start_is low (e ∷ es) zero h = refl
start_is low (e ∷ es) (suc k) h = start_is e es k (omega (arith, h))

module _ {X : Type 0} where
  pub as_many : (low : ℕ) (es : List ℕ) (ns : List X) → length (rows_from low es ns) ≡ length es
  as_many low [] ns = refl
  as_many low (e ∷ es) ns = let r = as_many e es ns in omega (arith, r)

  -- what stands before the end of a list stays when the list grows
  part_stays : (low e : ℕ) (ns row : List X) → low ≤ e → e ≤ length ns → take (e - low) (drop low (ns ++ row)) ≡ take (e - low) (drop low ns)
  part_stays low e ns row l h =
      let d = length-drop low ns in
      ap (take (e - low)) (drop-append-le low ns row (omega (arith, l, h))) ∙ take-append-le (e - low) (drop low ns) row (omega (arith, d, l, h))

  last_part : (low n : ℕ) (ns row : List X) → low ≡ length ns → n ≡ length ns + length row → take (n - low) (drop low (ns ++ row)) ≡ row
  last_part low n ns row l h =
      let m : n - low ≡ length row = omega (arith, l, h) in
      ap (λ k. take (n - low) (drop k (ns ++ row))) l ∙ ap (take (n - low)) (drop-append_seam ns row) ∙ ap (λ k. take k row) m ∙ take-length row

  pub row_more : (low : ℕ) (es : List ℕ) (ns row : List X) (n : ℕ) → n ≡ length ns + length row → AreEnds low es (length ns) → rows_from low (es ++ n ∷ []) (ns ++ row) ≡ rows_from low es ns ++ row ∷ []
  row_more low [] ns row n e h = ap (λ (r : List X). r ∷ []) (last_part low n ns row h e)
  row_more low (f ∷ es) ns row n e h =
      let l = ends_rise f es (length ns) h.1 in
      ap (λ (r : List X). r ∷ rows_from f (es ++ n ∷ []) (ns ++ row)) (part_stays low f ns row h.0 l)
      ∙ ap (λ (rs : List (List X)). take (f - low) (drop low ns) ∷ rs) (row_more f es ns row n e h.1)

  pub row_is : (low : ℕ) (es : List ℕ) (ns : List X) (k : ℕ) → k < length es → row_at (rows_from low es ns) k ≡ take (get_or es k 0 - start_from low es k) (drop (start_from low es k) ns)
  row_is low [] ns k h = absurd (omega (arith, h))
  row_is low (e ∷ es) ns zero h = refl
  row_is low (e ∷ es) ns (suc k) h = row_is e es ns k (omega (arith, h))

  pub row_bounds : (rows : List (List X)) (es fs : List ℕ) (ns : List X) (k start e : ℕ) → rows_from 0 es ns ≡ rows → k < length rows → AreEnds 0 es (length ns) → fs ≡ es → start ≡ start_from 0 fs k → e ≡ get_or es k e
      → (start ≤ e) × (e ≤ length ns)
  row_bounds rows es fs ns k start e v h a q s f =
      let m = as_many 0 es ns in let l = ap (λ (rs : List (List X)). length rs) v in
      let i = row_inside 0 es (length ns) k (omega (arith, m, l, h)) a in
      let t = s ∙ ap (λ (xs : List ℕ). start_from 0 xs k) q in
      let r = read_there es k e (omega (arith, m, l, h)) f in
      (let b = i.1 in omega (arith, b, t, r), (let b = i.2 in omega (arith, b, r)))

  pub row_found : (rows : List (List X)) (es fs : List ℕ) (ns ms : List X) (k start e : ℕ) → rows_from 0 es ns ≡ rows → k < length rows → fs ≡ es → start ≡ start_from 0 fs k → e ≡ get_or es k e → ms ≡ ns
      → take (e - start) (drop start ms) ≡ row_at rows k
  row_found rows es fs ns ms k start e v h q s f m =
      let n = as_many 0 es ns in let l = ap (λ (rs : List (List X)). length rs) v in
      let t = s ∙ ap (λ (xs : List ℕ). start_from 0 xs k) q in
      ap (λ (xs : List X). take (e - start) (drop start xs)) m
      ∙ ap (λ (j : ℕ). take (e - j) (drop j ns)) t
      ∙ ap (λ (j : ℕ). take (j - start_from 0 es k) (drop (start_from 0 es k) ns)) (read_there es k e (omega (arith, n, l, h)) f)
      ∙ sym (row_is 0 es ns k (omega (arith, n, l, h)))
      ∙ ap (λ (rs : List (List X)). row_at rs k) v

  pub row_read : (rows : List (List X)) (k : ℕ) (row : List X) → k < length rows → row ≡ row_at rows k → row ≡ get_or rows k row
  row_read [] k row h e = absurd (omega (arith, h))
  row_read (r ∷ rows) zero row h e = e
  row_read (r ∷ rows) (suc k) row h e = row_read rows k row (omega (arith, h)) e

  -- ---- an entry that is changed

  drop_before : (n m : ℕ) (xs : List X) (x : X) → m < n → drop n (set xs m x) ≡ drop n xs
  drop_before zero m xs x h = absurd (omega (arith, h))
  drop_before (suc n) m [] x h = refl
  drop_before (suc n) zero (y ∷ xs) x h = refl
  drop_before (suc n) (suc m) (y ∷ xs) x h = drop_before n m xs x (omega (arith, h))

  drop_behind : (n i : ℕ) (xs : List X) (x : X) → drop n (set xs (n + i) x) ≡ set (drop n xs) i x
  drop_behind zero i xs x = let e : 0 + i ≡ i = omega arith in ap (λ k. set xs k x) e
  drop_behind (suc n) i [] x = refl
  drop_behind (suc n) i (y ∷ xs) x = let e : suc n + i ≡ suc (n + i) = omega arith in ap (λ k. drop (suc n) (set (y ∷ xs) k x)) e ∙ drop_behind n i xs x

  take_before : (n i : ℕ) (xs : List X) (x : X) → n ≤ i → take n (set xs i x) ≡ take n xs
  take_before zero i xs x h = refl
  take_before (suc n) i [] x h = refl
  take_before (suc n) zero (y ∷ xs) x h = absurd (omega (arith, h))
  take_before (suc n) (suc i) (y ∷ xs) x h = ap (λ (zs : List X). y ∷ zs) (take_before n i xs x (omega (arith, h)))

  take_within : (n i : ℕ) (xs : List X) (x : X) → i < n → take n (set xs i x) ≡ set (take n xs) i x
  take_within zero i xs x h = absurd (omega (arith, h))
  take_within (suc n) i [] x h = refl
  take_within (suc n) zero (y ∷ xs) x h = refl
  take_within (suc n) (suc i) (y ∷ xs) x h = ap (λ (zs : List X). y ∷ zs) (take_within n i xs x (omega (arith, h)))

  -- rows behind an entry stay when it is changed
  behind_stay : (low : ℕ) (es : List ℕ) (high m : ℕ) (ns : List X) (x : X) → AreEnds low es high → m < low → rows_from low es (set ns m x) ≡ rows_from low es ns
  behind_stay low [] high m ns x a h = refl
  behind_stay low (e ∷ es) high m ns x a h =
      ap (λ (r : List X). take (e - low) r ∷ rows_from e es (set ns m x)) (drop_before low m ns x h)
      ∙ ap (λ (rs : List (List X)). take (e - low) (drop low ns) ∷ rs) (behind_stay e es high m ns x a.1 (let l = a.0 in omega (arith, l, h)))

  -- the row before an entry stays
  part_before : (low e m : ℕ) (ns : List X) (x : X) → low ≤ e → e ≤ m → take (e - low) (drop low (set ns m x)) ≡ take (e - low) (drop low ns)
  part_before low e m ns x l h =
      let q : m ≡ low + (m - low) = omega (arith, l, h) in
      ap (λ k. take (e - low) (drop low (set ns k x))) q ∙ ap (take (e - low)) (drop_behind low (m - low) ns x) ∙ take_before (e - low) (m - low) (drop low ns) x (omega (arith, l, h))

  pub entry_set : (low : ℕ) (es : List ℕ) (high k i : ℕ) (ns : List X) (x : X) → AreEnds low es high → k < length es → start_from low es k + i < get_or es k 0
      → rows_from low es (set ns (start_from low es k + i) x) ≡ set (rows_from low es ns) k (set (row_at (rows_from low es ns) k) i x)
  entry_set low [] high k i ns x a h l = absurd (omega (arith, h))
  entry_set low (e ∷ es) high zero i ns x a h l =
      ap (λ (r : List X). take (e - low) r ∷ rows_from e es (set ns (low + i) x)) (drop_behind low i ns x)
      ∙ ap (λ (r : List X). r ∷ rows_from e es (set ns (low + i) x)) (take_within (e - low) i (drop low ns) x (omega (arith, l)))
      ∙ ap (λ (rs : List (List X)). set (take (e - low) (drop low ns)) i x ∷ rs) (behind_stay e es high (low + i) ns x a.1 l)
  entry_set low (e ∷ es) high (suc k) i ns x a h l =
      let r = row_inside e es high k (omega (arith, h)) a.1 in
      ap (λ (r : List X). r ∷ rows_from e es (set ns (start_from e es k + i) x)) (part_before low e (start_from e es k + i) ns x a.0 (let m = r.0 in omega (arith, m)))
      ∙ ap (λ (rs : List (List X)). take (e - low) (drop low ns) ∷ rs) (entry_set e es high k i ns x a.1 (omega (arith, h)) l)

-- where an entry of a row stands among all
pub record StandsAt {X : Type 0} (es : List ℕ) (ns : List X) (k i start : ℕ) : Type 0 where
  pub row : k < length es
  pub start_is : start ≡ start_from 0 es k
  pub within : start_from 0 es k + i < get_or es k 0
  pub inside : start + i < length ns

module _ {X : Type 0} where
  pub row_length : (es : List ℕ) (ns : List X) (k : ℕ) → AreEnds 0 es (length ns) → k < length es → length (row_at (rows_from 0 es ns) k) ≡ get_or es k 0 - start_from 0 es k
  row_length es ns k a h =
      let r = row_inside 0 es (length ns) k h a in let d = length-drop (start_from 0 es k) ns in let b = r.1 in let c = r.2 in
      ap length (row_is 0 es ns k h) ∙ length-take-le (get_or es k 0 - start_from 0 es k) (drop (start_from 0 es k) ns) (omega (arith, b, c, d))

  pub stands_at : (rows : List (List X)) (es fs : List ℕ) (ns : List X) (k i start : ℕ) → rows_from 0 es ns ≡ rows → AreEnds 0 es (length ns) → k < length rows → i < length (row_at rows k) → fs ≡ es → start ≡ start_from 0 fs k → StandsAt es ns k i start
  stands_at rows es fs ns k i start v a h l q s =
      let m = as_many 0 es ns in let n = ap (λ (rs : List (List X)). length rs) v in
      let row : k < length es = omega (arith, m, n, h) in
      let w = row_length es ns k a row in let y = ap (λ (rs : List (List X)). length (row_at rs k)) v in
      let t = s ∙ ap (λ (xs : List ℕ). start_from 0 xs k) q in
      let r = row_inside 0 es (length ns) k row a in
      record { row = row; start_is = t; within = omega (arith, w, y, l); inside = let b = r.2 in omega (arith, w, y, l, t, b) }

  module _ (es : List ℕ) (ns : List X) (k i start : ℕ) (a : AreEnds 0 es (length ns)) (at : StandsAt es ns k i start) where
    pub entry_in : i < length (row_at (rows_from 0 es ns) k)
    entry_in = let w = row_length es ns k a at.row in let h = at.within in omega (arith, w, h)

    pub entry_read : (d : X) → get_or (row_at (rows_from 0 es ns) k) i d ≡ get_or ns (start + i) d
    entry_read d =
        let h = at.within in
        ap (λ (xs : List X). get_or xs i d) (row_is 0 es ns k at.row)
        ∙ (get_or-take (get_or es k 0 - start_from 0 es k) (drop (start_from 0 es k) ns) i d (omega (arith, h))
        ∙ (get_or-drop (start_from 0 es k) ns i d
        ∙ ap (λ (n : ℕ). get_or ns (n + i) d) (sym at.start_is)))

    pub entry_written : (x : X) → rows_from 0 es (set ns (start + i) x) ≡ set (rows_from 0 es ns) k (set (row_at (rows_from 0 es ns) k) i x)
    entry_written x = ap (λ (n : ℕ). rows_from 0 es (set ns (n + i) x)) at.start_is ∙ entry_set 0 es (length ns) k i ns x a at.row at.within

-- rows of what a list is mapped to
module _ {X Y : Type 0} (f : X → Y) where
  pub take_mapped : (n : ℕ) (xs : List X) → take n (map f xs) ≡ map f (take n xs)
  take_mapped zero xs = refl
  take_mapped (suc n) [] = refl
  take_mapped (suc n) (x ∷ xs) = ap (λ (ys : List Y). f x ∷ ys) (take_mapped n xs)

  pub drop_mapped : (n : ℕ) (xs : List X) → drop n (map f xs) ≡ map f (drop n xs)
  drop_mapped zero xs = refl
  drop_mapped (suc n) [] = refl
  drop_mapped (suc n) (x ∷ xs) = drop_mapped n xs
