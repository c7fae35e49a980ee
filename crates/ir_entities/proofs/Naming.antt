-- The definition of a place, and the thread that it stands in.
use Rattle.std.proofs.Common.{◌≡◌, ◌≢◌, ℕ, ◌<◌, ◌≤◌, ◌+◌, ◌-◌, ◌||◌, ⊎_elim, Bool, true, false, cond, eqb, List, [], ◌∷◌, ◌++◌, length, Option, Some, None, is_some, IsSome, refl, sym, ap, ◌∙◌, arith, set, get_or, zero, suc, add-zero, zero-add, length-append}
use Rattle.std.proofs.lemmas.List.{length-set, get_or-set_same, get_or-set_other, get_or_past}
use Rattle.std.proofs.Math.ListN.{get_or-map}
use Rattle.std.proofs.Math.Seq.{map-set_same}
use Rattle.std.proofs.lemmas.Bool.{eqb-true, ne_eqb, or_right, cases_eq, cases_lt, both_ways}
use Rattle.ir_entities.specs.Links.{has, list_at, AreApart, without, IsUnlinked}
use Rattle.ir_entities.proofs.Segments.{has_here, has-append}
use Rattle.ir_entities.specs.Uses.{Uses, place_of}
use Rattle.ir_entities.specs.Threads.{thread_from, thread_of, place_in, places_from, threads_from, key_in, counted, definition_at, keys_of, AreThreads}
use Rattle.ir_entities.specs.declared.uses.Spot.{Spot}
use Rattle.ir_entities.specs.declared.uses.Defined.{Defined}

-- what is found is there
found_in : (k : ℕ) (ls : List (List ℕ)) (p d : ℕ) → thread_from k ls p ≡ Some d → (i : ℕ) × (d ≡ k + i) × (has p (list_at ls i) ≡ true)
found_in k [] p d e = cc
found_in k (l ∷ ls) p d e = split (has p l) refl e (found_in (suc k) ls p d) where
  split : (b : Bool) → has p l ≡ b → cond b (Some k) (thread_from (suc k) ls p) ≡ Some d → (thread_from (suc k) ls p ≡ Some d → (i : ℕ) × (d ≡ suc k + i) × (has p (list_at ls i) ≡ true)) → (i : ℕ) × (d ≡ k + i) × (has p (list_at (l ∷ ls) i) ≡ true)
  split true h e rest = let same : d ≡ k = cc in (0, omega arith, h)
  split false h e rest = let r : (i : ℕ) × (d ≡ suc k + i) × (has p (list_at ls i) ≡ true) = rest e in (suc r.0, omega arith, r.2)

not_found : (k : ℕ) (ls : List (List ℕ)) (p : ℕ) → ((i : ℕ) → has p (list_at ls i) ≡ false) → thread_from k ls p ≡ None
not_found k [] p none = refl
not_found k (l ∷ ls) p none = rw (none 0) (not_found (suc k) ls p (λ i. none (suc i)))

pub none_in : (k : ℕ) (ls : List (List ℕ)) (p : ℕ) → thread_from k ls p ≡ None → (i : ℕ) → has p (list_at ls i) ≡ false
none_in k [] p e = λ i. refl
none_in k (l ∷ ls) p e = split (has p l) refl e (none_in (suc k) ls p) where
  split : (b : Bool) → has p l ≡ b → cond b (Some k) (thread_from (suc k) ls p) ≡ None → (thread_from (suc k) ls p ≡ None → (i : ℕ) → has p (list_at ls i) ≡ false) → (i : ℕ) → has p (list_at (l ∷ ls) i) ≡ false
  split true h e rest = λ i. cc
  split false h e rest = elim [ zero ↦ h | suc i ↦ rest e i ]

pub thread_has : (ls : List (List ℕ)) (p d : ℕ) → thread_of ls p ≡ Some d → has p (list_at ls d) ≡ true
thread_has ls p d e = let f : (i : ℕ) × (d ≡ 0 + i) × (has p (list_at ls i) ≡ true) = found_in 0 ls p d e in let is : d ≡ f.0 = omega arith in rw is f.2

pub no_thread : (ls : List (List ℕ)) (p : ℕ) → IsUnlinked ls p → thread_of ls p ≡ None
no_thread ls p none = not_found 0 ls p none

pub thread_is : (ls : List (List ℕ)) (p d : ℕ) → AreApart ls → has p (list_at ls d) ≡ true → thread_of ls p ≡ Some d
thread_is ls p d apart h = by_cases (thread_of ls p) refl where
  by_cases : (o : Option ℕ) → thread_of ls p ≡ o → o ≡ Some d
  by_cases None e = absurd (both_ways (has p (list_at ls d)) (none_in 0 ls p e d) h)
  by_cases (Some c) e = ap Some (apart p c d (thread_has ls p c e) h)

-- a place that stands where it stood has the thread that it had
pub thread_same : (ls ms : List (List ℕ)) (p : ℕ) → AreApart ms → ((c : ℕ) → has p (list_at ms c) ≡ has p (list_at ls c)) → thread_of ms p ≡ thread_of ls p
thread_same ls ms p apart same = by_cases (thread_of ls p) refl where
  by_cases : (o : Option ℕ) → thread_of ls p ≡ o → thread_of ms p ≡ o
  by_cases None e = no_thread ms p (λ d. same d ∙ none_in 0 ls p e d)
  by_cases (Some d) e = thread_is ms p d apart (same d ∙ thread_has ls p d e)

pub place_none : (t : Option ℕ) → place_in t None ≡ None
place_none None = refl
place_none (Some d) = refl

-- the thread of a definition is listed
pub listed_at : {X : Type 0} (k : ℕ) (ls : List (List ℕ)) (ds : List (Option X)) (d : ℕ) → IsSome (get_or ds d None) → get_or (threads_from k ls ds) d [] ≡ list_at ls (k + d)
listed_at k ls [] d h = cc
listed_at k ls (x ∷ ds) zero h = rw (add-zero k) refl
listed_at k ls (x ∷ ds) (suc d) h = let e : k + suc d ≡ suc k + d = omega arith in rw e (listed_at (suc k) ls ds d h)

places_at : (k : ℕ) (ls : List (List ℕ)) (ss : List (Option Spot)) (p : ℕ) → get_or (places_from k ls ss) p None ≡ place_in (thread_of ls (k + p)) (get_or ss p None)
places_at k ls [] p = sym (place_none (thread_of ls (k + p)))
places_at k ls (s ∷ ss) zero = rw (add-zero k) refl
places_at k ls (s ∷ ss) (suc p) = let e : k + suc p ≡ suc k + p = omega arith in rw e (places_at (suc k) ls ss p)

pub places_same : (k : ℕ) (ls ms : List (List ℕ)) (ss : List (Option Spot)) → ((p : ℕ) → thread_of ms p ≡ thread_of ls p) → places_from k ms ss ≡ places_from k ls ss
places_same k ls ms [] same = refl
places_same k ls ms (s ∷ ss) same =
    ap (λ t. place_in t s ∷ places_from (suc k) ms ss) (same k) ∙ ap (λ r. place_in (thread_of ls k) s ∷ r) (places_same (suc k) ls ms ss same)

-- the writes of one list
module _ (ls ms : List (List ℕ)) (d : ℕ) (zs : List ℕ) (is : ms ≡ set ls d zs) where
  pub list_here : d < length ls → list_at ms d ≡ zs
  list_here lt = rw is (get_or-set_same ls d zs [] lt)

  pub list_other : (e : ℕ) → e ≢ d → list_at ms e ≡ list_at ls e
  list_other e ne = rw is (get_or-set_other ls d e zs [] ne)

  pub others_one : d < length ls → (p : ℕ) → ((q : ℕ) → q ≢ p → has q zs ≡ has q (list_at ls d)) → (q c : ℕ) → q ≢ p → has q (list_at ms c) ≡ has q (list_at ls c)
  others_one lt p same q c ne = ⊎_elim (λ (e : c ≡ d). rw (e, list_here lt) (same q ne)) (λ n. rw (list_other c n) refl) (cases_eq c d)

pub has_added : (p : ℕ) (xs : List ℕ) → has p (xs ++ p ∷ []) ≡ true
has_added p xs = rw has-append (or_right (has p xs) (has p (p ∷ [])) (has_here p []))

pub has_added_other : (p : ℕ) (xs : List ℕ) (q : ℕ) → q ≢ p → has q (xs ++ p ∷ []) ≡ has q xs
has_added_other p [] q ne = rw (ne_eqb q p ne) refl
has_added_other p (x ∷ xs) q ne = ap (λ b. eqb q x || b) (has_added_other p xs q ne)

pub length_without : (p : ℕ) (xs : List ℕ) → has p xs ≡ true → length (without p xs) + 1 ≡ length xs
length_without p [] h = cc
length_without p (x ∷ xs) h = split (eqb p x) refl h (length_without p xs) where
  split : (b : Bool) → eqb p x ≡ b → (b || has p xs) ≡ true → (has p xs ≡ true → length (without p xs) + 1 ≡ length xs) → length (cond b xs (x ∷ without p xs)) + 1 ≡ suc (length xs)
  split true e h rest = omega arith
  split false e h rest = let r : length (without p xs) + 1 ≡ length xs = rest h in omega arith

pub has_without_other : (p : ℕ) (xs : List ℕ) (q : ℕ) → q ≢ p → has q (without p xs) ≡ has q xs
has_without_other p [] q ne = refl
has_without_other p (x ∷ xs) q ne = split (eqb p x) refl (has_without_other p xs q ne) where
  split : (b : Bool) → eqb p x ≡ b → has q (without p xs) ≡ has q xs → has q (cond b xs (x ∷ without p xs)) ≡ (eqb q x || has q xs)
  split true e rest = rw (ne_eqb q x (λ k. ne (k ∙ sym (eqb-true p x e)))) refl
  split false e rest = ap (λ b. eqb q x || b) rest

pub long_added : (p n : ℕ) (xs : List ℕ) → n ≡ length xs → n + 1 ≡ length (xs ++ p ∷ [])
long_added p n xs e = let l : length (xs ++ p ∷ []) ≡ length xs + length (p ∷ []) = length-append xs (p ∷ []) in omega arith

pub long_without : (p n : ℕ) (xs : List ℕ) → has p xs ≡ true → n ≡ length xs → n - 1 ≡ length (without p xs)
long_without p n xs h e = let l : length (without p xs) + 1 ≡ length xs = length_without p xs h in omega arith

module _ {K : Type 0} where
  pub key_some : (o : Option (Defined K)) → is_some (key_in o) ≡ is_some o
  key_some None = refl
  key_some (Some x) = refl

  pub key_at : (ds : List (Option (Defined K))) (d : ℕ) → get_or (keys_of ds) d None ≡ key_in (definition_at ds d)
  key_at ds d = get_or-map key_in ds d None

  pub defined_at : (ds : List (Option (Defined K))) (d : ℕ) → is_some (get_or (keys_of ds) d None) ≡ is_some (definition_at ds d)
  defined_at ds d = ap is_some (key_at ds d) ∙ key_some (definition_at ds d)

  pub defined_same : (ds es : List (Option (Defined K))) (d : ℕ) → keys_of es ≡ keys_of ds → is_some (definition_at es d) ≡ is_some (definition_at ds d)
  defined_same ds es d keys = sym (defined_at es d) ∙ ap (λ ks. is_some (get_or ks d None)) keys ∙ defined_at ds d

  key_counted : (n : ℕ) (o : Option (Defined K)) → key_in (counted n o) ≡ key_in o
  key_counted n None = refl
  key_counted n (Some x) = refl

  pub keys_counted : (ds : List (Option (Defined K))) (d n : ℕ) → keys_of (set ds d (counted n (definition_at ds d))) ≡ keys_of ds
  keys_counted ds d n = map-set_same key_in ds d (counted n (definition_at ds d)) None (key_counted n (definition_at ds d))

  within : (ds : List (Option (Defined K))) (d : ℕ) (x : Defined K) → definition_at ds d ≡ Some x → d < length ds
  within ds d x e = ⊎_elim (λ l. l) (λ ge. absurd (let n : None ≡ Some x = sym (get_or_past ds d None ge) ∙ e in cc)) (cases_lt d (length ds))

  pub counted_here : (ds : List (Option (Defined K))) (d n : ℕ) (x y : Defined K) → definition_at ds d ≡ Some x → definition_at (set ds d (counted n (definition_at ds d))) d ≡ Some y → y.uses ≡ n
  counted_here ds d n x y e f =
      let g : Some y ≡ Some (record x { uses = n }) = sym f ∙ get_or-set_same ds d (counted n (definition_at ds d)) None (within ds d x e) ∙ ap (counted n) e in
      let same : y ≡ record x { uses = n } = cc in
      ap (λ (z : Defined K). z.uses) same

  pub counted_other : (ds : List (Option (Defined K))) (d n e : ℕ) → e ≢ d → definition_at (set ds d (counted n (definition_at ds d))) e ≡ definition_at ds e
  counted_other ds d n e ne = get_or-set_other ds d e (counted n (definition_at ds d)) None ne

  -- new links and new counts
  pub threads_after : (ds es : List (Option (Defined K))) (ls ms : List (List ℕ)) → AreThreads ds ls → keys_of es ≡ keys_of ds → AreApart ms → length ls ≤ length ms
      → ((d : ℕ) (x : Defined K) → definition_at es d ≡ Some x → x.uses ≡ length (list_at ms d))
      → ((p d : ℕ) → has p (list_at ms d) ≡ true → IsSome (definition_at ds d)) → AreThreads es ms
  threads_after ds es ls ms t keys apart longer counts defined =
      record {
        apart = apart;
        known = λ d u. let lt : d < length ls = t.known d (sym (defined_same ds es d keys) ∙ u) in omega arith;
        counts = counts;
        defined = λ p d h. defined_same ds es d keys ∙ defined p d h;
      }

  pub one_thread : (ds : List (Option (Defined K))) (ls ms : List (List ℕ)) (d n : ℕ) (zs : List ℕ) (x : Defined K) → AreThreads ds ls → AreApart ms → definition_at ds d ≡ Some x → ms ≡ set ls d zs → n ≡ length zs
      → AreThreads (set ds d (counted n (definition_at ds d))) ms
  one_thread ds ls ms d n zs x t apart e is long =
      threads_after ds (set ds d (counted n (definition_at ds d))) ls ms t (keys_counted ds d n) apart
      (let l : length ms ≡ length ls = ap length is ∙ length-set ls d zs in omega arith)
      (λ c y f. ⊎_elim
      (λ (k : c ≡ d). rw (k, list_here ls ms d zs is lt) (counted_here ds d n x y e (rw k at f) ∙ long))
      (λ k. rw (list_other ls ms d zs is c k) (t.counts c y (sym (counted_other ds d n c k) ∙ f)))
      (cases_eq c d))
      (λ p c h. ⊎_elim
      (λ (k : c ≡ d). rw (k, e) refl)
      (λ k. t.defined p c (rw (list_other ls ms d zs is c k) at h))
      (cases_eq c d))
    where
      lt : d < length ls
      lt = t.known d (rw e refl)

  -- what the tables show
  abbrev pub shown : List (Option (Defined K)) → List (Option Spot) → List (List ℕ) → Uses K
  shown ds ss ls = record { definitions = keys_of ds; places = places_from 0 ls ss; threads = threads_from 0 ls ds }

  pub place_at : (ds : List (Option (Defined K))) (ss : List (Option Spot)) (ls : List (List ℕ)) (p : ℕ) → place_of (shown ds ss ls) p ≡ place_in (thread_of ls p) (get_or ss p None)
  place_at ds ss ls p = places_at 0 ls ss p ∙ ap (λ q. place_in (thread_of ls q) (get_or ss p None)) (zero-add p)

  -- one thread moved behind another
  module _ (ds : List (Option (Defined K))) (ls ms : List (List ℕ)) (from to : ℕ) (x y : Defined K) (t : AreThreads ds ls) (ne : from ≢ to) (x_is : definition_at ds from ≡ Some x) (y_is : definition_at ds to ≡ Some y) (is : ms ≡ set (set ls to (list_at ls to ++ list_at ls from)) from []) where
    pub merged_from : list_at ms from ≡ []
    merged_from = list_here (set ls to (list_at ls to ++ list_at ls from)) ms from [] is (rw length-set (t.known from (rw x_is refl)))

    pub merged_to : list_at ms to ≡ list_at ls to ++ list_at ls from
    merged_to = list_other (set ls to (list_at ls to ++ list_at ls from)) ms from [] is to (λ e. ne (sym e)) ∙ list_here ls (set ls to (list_at ls to ++ list_at ls from)) to (list_at ls to ++ list_at ls from) refl (t.known to (rw y_is refl))

    pub merged_other : (c : ℕ) → c ≢ from → c ≢ to → list_at ms c ≡ list_at ls c
    merged_other c f o = list_other (set ls to (list_at ls to ++ list_at ls from)) ms from [] is c f ∙ list_other ls (set ls to (list_at ls to ++ list_at ls from)) to (list_at ls to ++ list_at ls from) refl c o

    pub merged_length : y.uses + x.uses ≡ length (list_at ms to)
    merged_length =
        let a : y.uses ≡ length (list_at ls to) = t.counts to y y_is in
        let b : x.uses ≡ length (list_at ls from) = t.counts from x x_is in
        let l : length (list_at ms to) ≡ length (list_at ls to) + length (list_at ls from) = ap length merged_to ∙ length-append (list_at ls to) (list_at ls from) in
        omega arith

    pub merged_keys : keys_of (set (set ds from (counted 0 (definition_at ds from))) to (counted (y.uses + x.uses) (definition_at (set ds from (counted 0 (definition_at ds from))) to))) ≡ keys_of ds
    merged_keys = keys_counted (set ds from (counted 0 (definition_at ds from))) to (y.uses + x.uses) ∙ keys_counted ds from 0

    pub merged_threads : AreApart ms → AreThreads (set (set ds from (counted 0 (definition_at ds from))) to (counted (y.uses + x.uses) (definition_at (set ds from (counted 0 (definition_at ds from))) to))) ms
    merged_threads apart =
        threads_after ds (set (set ds from (counted 0 (definition_at ds from))) to (counted (y.uses + x.uses) (definition_at (set ds from (counted 0 (definition_at ds from))) to))) ls ms t merged_keys apart
        (let l : length ms ≡ length ls = ap length is ∙ length-set (set ls to (list_at ls to ++ list_at ls from)) from [] ∙ length-set ls to (list_at ls to ++ list_at ls from) in omega arith)
        (λ c z f. ⊎_elim
        (λ (k : c ≡ to). rw k (counted_here (set ds from (counted 0 (definition_at ds from))) to (y.uses + x.uses) y z (counted_other ds from 0 to (λ e. ne (sym e)) ∙ y_is) (rw k at f) ∙ merged_length))
        (λ o.
        let f' : definition_at (set ds from (counted 0 (definition_at ds from))) c ≡ Some z = sym (counted_other (set ds from (counted 0 (definition_at ds from))) to (y.uses + x.uses) c o) ∙ f in
        ⊎_elim
        (λ (k : c ≡ from). rw (k, merged_from) (counted_here ds from 0 x z x_is (rw k at f')))
        (λ k. rw (merged_other c k o) (t.counts c z (sym (counted_other ds from 0 c k) ∙ f')))
        (cases_eq c from))
        (cases_eq c to))
        (λ p c h. ⊎_elim
        (λ (k : c ≡ to). rw (k, y_is) refl)
        (λ o. ⊎_elim
        (λ (k : c ≡ from). rw (k, x_is) refl)
        (λ k. t.defined p c (rw (merged_other c k o) at h))
        (cases_eq c from))
        (cases_eq c to))
