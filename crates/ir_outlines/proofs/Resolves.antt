-- Numbered marks lead back by their section.
use Rattle.std.proofs.Common.{◌≡◌, ℕ, zero, suc, ◌+◌, ◌==◌, List, [], ◌∷◌, ◌++◌, map, length, Bool, true, false, ◌||◌, Option, Some, None, slice_get, flat_map, if◌then◌else◌, refl, ap, sym, subst, ◌∙◌, arith}
use Rattle.std.specs.List.{list_any, range_with_len}
use Rattle.ir_outlines.specs.Marks.{Beside, is_marked, marks_from, marks_of, marked}
use Rattle.ir_outlines.specs.Section.{here, at_mark, Entry, single, Section, Sharing, IsSameExactly, indices_of, once_in, with_distinct, index_of, reference, indexed, once_of, entry, entries_of, section_of, both, entry_among, single_in, attribute_of, attributes_of, with_location, bracketed_in, beside_of, besides_in}

-- ---- lists

get_front : {X : Type 0} (xs ys : List X) (i : ℕ) (x : X) → slice_get xs i ≡ Some x → slice_get (xs ++ ys) i ≡ Some x
get_front [] ys i x h = cc
get_front (y ∷ xs) ys zero x h = h
get_front (y ∷ xs) ys (suc i) x h = get_front xs ys i x h

get_behind : {X : Type 0} (xs ys : List X) (i : ℕ) → slice_get (xs ++ ys) (length xs + i) ≡ slice_get ys i
get_behind [] ys i = ap (slice_get ys) (omega arith)
get_behind (x ∷ xs) ys i =
    let e : length (x ∷ xs) + i ≡ suc (length xs + i) = omega arith in
    ap (slice_get (x ∷ (xs ++ ys))) e ∙ get_behind xs ys i

mapped : {X Y : Type 0} (f : X → Y) (xs : List X) (i : ℕ) (x : X) → slice_get xs i ≡ Some x → slice_get (map f xs) i ≡ Some (f x)
mapped f [] i x e = cc
mapped f (y ∷ xs) zero x e = let k : y ≡ x = cc in ap (λ z. Some (f z)) k
mapped f (y ∷ xs) (suc i) x e = mapped f xs i x e

length_mapped : {X Y : Type 0} (f : X → Y) (xs : List X) → length (map f xs) ≡ length xs
length_mapped f [] = refl
length_mapped f (x ∷ xs) = grind (arith, length_mapped f xs)

both_some : {X Y Z : Type 0} (o : Option X) (p : Option Y) (f : X → Y → Z) (x : X) (y : Y) → o ≡ Some x → p ≡ Some y → both o p f ≡ Some (f x y)
both_some o p f x y g h = ap (λ z. both z p f) g ∙ ap (λ z. both (Some x) z f) h

-- ---- items

module _ {A L : Type 0} (s : Section A L) where
  -- The marks from n on lead to these, one after the other.
  record LeadsFrom (n : ℕ) (bs : List (Beside A L)) : Type 0 where
    at : (i : ℕ) (b : Beside A L) → slice_get bs i ≡ Some b → beside_of s (Some (n + i)) ≡ Some b

  first_leads : (n : ℕ) (b : Beside A L) (bs : List (Beside A L)) → LeadsFrom n (b ∷ bs) → beside_of s (Some n) ≡ Some b
  first_leads n b bs h = let k : n + 0 ≡ n = omega arith in subst (λ j. beside_of s (Some j) ≡ Some b) k (h.at 0 b refl)

  rest_leads : (n : ℕ) (b : Beside A L) (bs : List (Beside A L)) → LeadsFrom n (b ∷ bs) → LeadsFrom (suc n) bs
  rest_leads n b bs h = record {
    at = λ i c e. let k : n + suc i ≡ suc n + i = omega arith in subst (λ j. beside_of s (Some j) ≡ Some c) k (h.at (suc i) c e);
  }

  -- what isn't marked has nothing beside it
  unmarked : (as_ : List (List ℕ × A)) (l : Option L) → is_marked (record { attributes = as_; location = l }) ≡ false
      → beside_of s None ≡ Some (record { attributes = as_; location = l })
  unmarked [] None h = refl
  unmarked [] (Some l) h = cc
  unmarked (a ∷ as_) l h = cc

  -- one item more, where so it is of those behind it
  one_leads : (n : ℕ) (b : Beside A L) (bs : List (Beside A L)) → ((m : ℕ) → LeadsFrom m (marked bs) → besides_in s (marks_from m bs) ≡ Some bs)
      → (q : Bool) → is_marked b ≡ q → LeadsFrom n (if q then b ∷ marked bs else marked bs)
      → besides_in s (if q then Some n ∷ marks_from (suc n) bs else None ∷ marks_from n bs) ≡ Some (b ∷ bs)
  one_leads n b bs more true e h = both_some _ _ (λ c cs. c ∷ cs) b bs (first_leads n b (marked bs) h) (more (suc n) (rest_leads n b (marked bs) h))
  one_leads n b bs more false e h = both_some _ _ (λ c cs. c ∷ cs) b bs (unmarked b.attributes b.location e) (more n h)

  -- the marks lead to these, where the numbers lead to those that are marked
  marks_lead : (n : ℕ) (bs : List (Beside A L)) → LeadsFrom n (marked bs) → besides_in s (marks_from n bs) ≡ Some bs
  marks_lead n [] h = refl
  marks_lead n (b ∷ bs) h = one_leads n b bs (λ m g. marks_lead m bs g) (is_marked b) refl h

-- ---- the section

other_index : (n i : ℕ) → (n == n + suc i) ≡ false
other_index n i = grind arith

own_index : (n m : ℕ) → m ≡ n → (n == m) ≡ true
own_index n m e = grind (arith, e)

if_true : {X : Type 0} (b : Bool) (x y : X) → b ≡ true → (if b then x else y) ≡ x
if_true b x y e = ap (λ z. if z then x else y) e

if_false : {X : Type 0} (b : Bool) (x y : X) → b ≡ false → (if b then x else y) ≡ y
if_false b x y e = ap (λ z. if z then x else y) e

module _ {A L : Type 0} where
  -- the entry with an index is the one at that place
  entry_there : (n i : ℕ) (es : List (Entry A L)) → entry_among (indexed n es) (n + i) ≡ slice_get es i
  entry_there n i [] = refl
  entry_there n zero (e ∷ es) = if_true (n == n + 0) _ _ (own_index n (n + 0) (omega arith))
  entry_there n (suc i) (e ∷ es) =
      let k : n + suc i ≡ n + 1 + i = omega arith in
      if_false (n == n + suc i) _ _ (other_index n i) ∙ (ap (entry_among (indexed (n + 1) es)) k ∙ entry_there (n + 1) i es)

-- ---- attributes that are printed once

module _ {A : Type 0} (d : Sharing A) (exact : IsSameExactly d) where
  -- each of these is among those
  abbrev AreAmong : List A → List A → Type 0
  AreAmong once [] = Unit {0}
  AreAmong once (x ∷ xs) = (list_any (d.is_same x) once ≡ true) × AreAmong once xs

  any_front : (p : A → Bool) (xs ys : List A) → list_any p xs ≡ true → list_any p (xs ++ ys) ≡ true
  any_front p [] ys h = cc
  any_front p (x ∷ xs) ys h = elim (p x) as (λ q. (q || list_any p xs) ≡ true → (q || list_any p (xs ++ ys)) ≡ true) [ true ↦ λ e. refl | false ↦ λ e. any_front p xs ys e ] h

  any_last : (p : A → Bool) (xs : List A) (y : A) → p y ≡ true → list_any p (xs ++ y ∷ []) ≡ true
  any_last p [] y h = ap (λ q. q || false) h
  any_last p (x ∷ xs) y h = elim (p x) as (λ q. (q || list_any p (xs ++ y ∷ [])) ≡ true) [ true ↦ refl | false ↦ any_last p xs y h ]

  kept_with : (p : A → Bool) (seen : List A) (x : A) (q : Bool) → list_any p seen ≡ true → list_any p (if q then seen else seen ++ x ∷ []) ≡ true
  kept_with p seen x true h = h
  kept_with p seen x false h = any_front p seen (x ∷ []) h

  -- what is seen stays
  kept : (p : A → Bool) (xs seen : List A) → list_any p seen ≡ true → list_any p (with_distinct d seen xs) ≡ true
  kept p [] seen h = h
  kept p (x ∷ xs) seen h = kept p xs (if list_any (d.is_same x) seen then seen else seen ++ x ∷ []) (kept_with p seen x (list_any (d.is_same x) seen) h)

  seen_now : (seen : List A) (x : A) (q : Bool) → list_any (d.is_same x) seen ≡ q → list_any (d.is_same x) (if q then seen else seen ++ x ∷ []) ≡ true
  seen_now seen x true h = h
  seen_now seen x false h = any_last (d.is_same x) seen x (exact.itself x)

  all_kept : (xs seen : List A) → AreAmong (with_distinct d seen xs) xs
  all_kept [] seen = tt
  all_kept (x ∷ xs) seen = let now = if list_any (d.is_same x) seen then seen else seen ++ x ∷ [] in
      (kept (d.is_same x) xs now (seen_now seen x (list_any (d.is_same x) seen) refl), all_kept xs now)

  among_first : (once xs ys : List A) → AreAmong once (xs ++ ys) → AreAmong once xs
  among_first once [] ys h = tt
  among_first once (x ∷ xs) ys h = (h.0, among_first once xs ys h.1)

  among_second : (once xs ys : List A) → AreAmong once (xs ++ ys) → AreAmong once ys
  among_second once [] ys h = h
  among_second once (x ∷ xs) ys h = among_second once xs ys h.1

  -- an attribute stands at the place of the first that is the same
  found_by : (y : A) (ys : List A) (x : A) (i : ℕ) (q : Bool) → d.is_same x y ≡ q → (list_any (d.is_same x) ys ≡ true → slice_get ys i ≡ Some x)
      → (q || list_any (d.is_same x) ys) ≡ true → slice_get (y ∷ ys) (if q then 0 else suc i) ≡ Some x
  found_by y ys x i true e more h = ap Some (sym (exact.same x y e))
  found_by y ys x i false e more h = more h

  found : (once : List A) (x : A) → list_any (d.is_same x) once ≡ true → slice_get once (index_of d once x) ≡ Some x
  found [] x h = cc
  found (y ∷ ys) x h = found_by y ys x (index_of d ys x) (d.is_same x y) refl (found ys x) h

  module _ {L : Type 0} (s : Section A L) (base : ℕ) (once : List A)
      (leads : (j : ℕ) (a : A) → slice_get once j ≡ Some a → single_in (entry_among s (base + j)) ≡ Some a) where
    -- an attribute that is printed once is found by its mark
    reference_leads : (a : A) (rest : List A) (q : Bool) → AreAmong once (if q then a ∷ rest else rest)
        → attribute_of s (if q then at_mark (base + index_of d once a) else here a) ≡ Some a
    reference_leads a rest true h = leads (index_of d once a) a (found once a h.0)
    reference_leads a rest false h = refl

    among_rest : (a : A) (rest : List A) (q : Bool) → AreAmong once (if q then a ∷ rest else rest) → AreAmong once rest
    among_rest a rest true h = h.1
    among_rest a rest false h = h

    references_lead : (ms : List (List ℕ × A)) → AreAmong once (once_in d ms) → attributes_of s (map (reference d base once) ms) ≡ Some ms
    references_lead [] h = refl
    references_lead (m ∷ ms) h = both_some _ _ (λ a as_. (m.0, a) ∷ as_) m.1 ms
        (reference_leads m.1 (once_in d ms) (d.is_once m.0 m.1) h)
        (references_lead ms (among_rest m.1 (once_in d ms) (d.is_once m.0 m.1) h))

  -- ---- the section of some items

  module _ {L : Type 0} where
    among_at : (once : List A) (bs : List (Beside A L)) (i : ℕ) (b : Beside A L) → slice_get bs i ≡ Some b
        → AreAmong once (flat_map (λ (b : Beside A L). once_in d b.attributes) bs) → AreAmong once (once_in d b.attributes)
    among_at once [] i b e h = cc
    among_at once (c ∷ bs) zero b e h =
        let k : c ≡ b = cc in
        subst (λ (z : Beside A L). AreAmong once (once_in d z.attributes)) k (among_first once (once_in d c.attributes) _ h)
    among_at once (c ∷ bs) (suc i) b e h = among_at once bs i b e (among_second once (once_in d c.attributes) _ h)

    single_leads : (bs : List (Beside A L)) (j : ℕ) (a : A) → slice_get (once_of d bs) j ≡ Some a
        → single_in (entry_among (indexed 0 (entries_of d bs)) (length bs + j)) ≡ Some a
    single_leads bs j a e =
        let front = map (entry d (length bs) (once_of d bs)) bs in
        let n : length bs + j ≡ 0 + (length front + j) = omega (arith, length_mapped (entry d (length bs) (once_of d bs)) bs) in
        ap (λ k. single_in (entry_among (indexed 0 (entries_of d bs)) k)) n
        ∙ (ap single_in (entry_there 0 (length front + j) (entries_of d bs) ∙ (get_behind front (map single (once_of d bs)) j ∙ mapped single (once_of d bs) j a e)))

    items_lead : (bs : List (Beside A L)) → LeadsFrom (indexed 0 (entries_of d bs)) 0 bs
    items_lead bs = record {
      at = λ i b e.
          let once = once_of d bs in
          let there : entry_among (indexed 0 (entries_of d bs)) (0 + i) ≡ Some (entry d (length bs) once b) =
          entry_there 0 i (entries_of d bs) ∙ get_front (map (entry d (length bs) once) bs) (map single once) i _ (mapped (entry d (length bs) once) bs i b e) in
          let among : AreAmong once (once_in d b.attributes) = among_at once bs i b e (all_kept (flat_map (λ (b : Beside A L). once_in d b.attributes) bs) []) in
          ap (bracketed_in (indexed 0 (entries_of d bs))) there
          ∙ ap (with_location b.location) (references_lead (indexed 0 (entries_of d bs)) (length bs) once (single_leads bs) b.attributes among);
    }

    -- what stands beside items is found by their marks
    pub resolves : (bs : List (Beside A L)) → besides_in (section_of d bs) (marks_of bs) ≡ Some bs
    resolves bs = marks_lead (section_of d bs) 0 bs (items_lead (marked bs))

-- ---- indices

module _ {A L : Type 0} where
  indices_count : (n : ℕ) (es : List (Entry A L)) → indices_of (indexed n es) ≡ range_with_len n (length (indexed n es))
  indices_count n [] = refl
  indices_count n (e ∷ es) = ap (λ ns. n ∷ ns) (indices_count (n + 1) es)

  pub indices_are : (d : Sharing A) (bs : List (Beside A L)) → indices_of (section_of d bs) ≡ range_with_len 0 (length (section_of d bs))
  indices_are d bs = indices_count 0 (entries_of d (marked bs))
