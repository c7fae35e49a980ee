-- What a contract sees of the tables, and what the edits do to it.
use Rattle.std.proofs.Common.{◌≡◌, ◌≢◌, ℕ, ◌<◌, ◌≤◌, ◌||◌, ⊎_elim, true, false, cond, eqb, List, [], ◌∷◌, length, Option, Some, None, is_some, IsSome, MatchOption, refl, sym, ap, subst, ◌∙◌, arith, get_or, suc, zero-add}
use Rattle.std.proofs.lemmas.Bool.{eq-eqb, ne_eqb, or_cases, or_left, or_right, cases_eq, both_ways, false_from_ne_true}
use Rattle.ir_entities.specs.Links.{has, list_at, AreApart, AreDistinctNumbers, first_or, IsLinked, IsUnlinked}
use Rattle.ir_entities.proofs.Segments.{has_here}
use Rattle.ir_entities.specs.Uses.{Uses, PlaceOfUse, listed_of, key_of, place_of, named_of, spot_of, IsDefined, IsPlace, NamesDefinition, SetsKey, SetsPlace, AreNamingPlaces, naming, at_index, renamed}
use Rattle.ir_entities.specs.Threads.{thread_of, place_in, places_from, threads_from, key_in, definition_at, keys_of, AreThreads, ThreadsHoldPlaces}
use Rattle.ir_entities.specs.declared.uses.Spot.{Spot}
use Rattle.ir_entities.specs.declared.uses.Defined.{Defined}
use Rattle.ir_entities.proofs.Naming.{none_in, thread_has, no_thread, thread_is, thread_same, places_same, key_some, key_at, shown, place_at, listed_at}

-- what one place shows
spot_some : (t : Option ℕ) (s : Option Spot) → IsSome (place_in t s) → IsSome s
spot_some None s h = cc
spot_some (Some d) None h = cc
spot_some (Some d) (Some s) h = refl

named_thread : (t : Option ℕ) (s : Option Spot) (d : ℕ) → named_of (place_in t s) ≡ Some d → t ≡ Some d
named_thread None s d h = cc
named_thread (Some c) None d h = cc
named_thread (Some c) (Some s) d h = h

named_in : (d : ℕ) (s : Option Spot) → IsSome s → named_of (place_in (Some d) s) ≡ Some d
named_in d None h = cc
named_in d (Some s) h = refl

spot_in : (d : ℕ) (s : Option Spot) → spot_of (place_in (Some d) s) ≡ s
spot_in d None = refl
spot_in d (Some s) = refl

naming_in : (d e : ℕ) (s : Option Spot) → place_in (Some e) s ≡ naming e (place_in (Some d) s)
naming_in d e None = refl
naming_in d e (Some s) = refl

index_in : (t : Option ℕ) (s : Spot) (i : ℕ) → place_in t (Some (record s { index = i })) ≡ at_index i (place_in t (Some s))
index_in None s i = refl
index_in (Some d) s i = refl

renamed_in : (from to d : ℕ) (s : Option Spot) → place_in (Some (cond (eqb d from) to d)) s ≡ renamed from to (place_in (Some d) s)
renamed_in from to d None = refl
renamed_in from to d (Some s) = refl

bare : (xs : List ℕ) → ((p : ℕ) → has p xs ≡ false) → xs ≡ []
bare [] h = refl
bare (x ∷ xs) h = absurd (both_ways (has x (x ∷ xs)) (h x) (has_here x xs))

pub some_not_none : {A : Type 0} (o : Option A) → o ≡ None → IsSome o → ⊥
some_not_none o e h = let f : is_some o ≡ false = ap is_some e in both_ways (is_some o) f h

-- the places in use and the threads, after an edit of place p alone
pub places_after : (ss tt : List (Option Spot)) (ls ms : List (List ℕ)) (p : ℕ) → ThreadsHoldPlaces ss ls
    → ((q c : ℕ) → q ≢ p → has q (list_at ms c) ≡ has q (list_at ls c)) → ((q : ℕ) → q ≢ p → get_or tt q None ≡ get_or ss q None)
    → ((d : ℕ) → has p (list_at ms d) ≡ true → IsSome (get_or tt p None)) → (IsSome (get_or tt p None) → IsLinked ms p) → ThreadsHoldPlaces tt ms
places_after ss tt ls ms p s lists spots placed linked =
    record {
      placed = λ q d h. ⊎_elim
          (λ (e : q ≡ p). rw e (placed d (rw e at h)))
          (λ n. rw (spots q n) (s.placed q d (sym (lists q d n) ∙ h)))
          (cases_eq q p);
      linked = λ q h. ⊎_elim
          (λ (e : q ≡ p). rw e (linked (rw e at h)))
          (λ n. let was : IsLinked ls q = s.linked q (rw (spots q n) at h) in (was.0, lists q was.0 n ∙ was.1))
          (cases_eq q p);
    }

pub vacant_unlinked : (ss : List (Option Spot)) (ls : List (List ℕ)) (p : ℕ) → ThreadsHoldPlaces ss ls → get_or ss p None ≡ None → IsUnlinked ls p
vacant_unlinked ss ls p s e d = false_from_ne_true (has p (list_at ls d)) (λ h. some_not_none (get_or ss p None) e (s.placed p d h))

-- the same lists, of which there may be more
module _ (ls ms : List (List ℕ)) (same : (c : ℕ) → list_at ms c ≡ list_at ls c) where
  same_apart : AreApart ls → AreApart ms
  same_apart apart x c d h k = apart x c d (rw (← same c) h) (rw (← same d) k)

  pub same_places : (ss : List (Option Spot)) → ThreadsHoldPlaces ss ls → ThreadsHoldPlaces ss ms
  same_places ss s =
      record {
        placed = λ p d h. s.placed p d (rw (same d) at h);
        linked = λ p h. let was : IsLinked ls p = s.linked p h in (was.0, rw (same was.0) was.1);
      }

  pub same_shown : (ss : List (Option Spot)) → AreApart ls → places_from 0 ms ss ≡ places_from 0 ls ss
  same_shown ss apart = places_same 0 ls ms ss (λ p. thread_same ls ms p (same_apart apart) (λ c. ap (has p) (same c)))

  same_listed : {X : Type 0} (k : ℕ) (ds : List X) → threads_from k ms ds ≡ threads_from k ls ds
  same_listed k [] = refl
  same_listed k (d ∷ ds) = rw (same k, same_listed (suc k) ds) refl

  pub same_view : {K : Type 0} (ds es : List (Option (Defined K))) (ss : List (Option Spot)) → AreApart ls → es ≡ ds → shown es ss ms ≡ shown ds ss ls
  same_view {K} ds es ss apart is =
      ap (λ ks. shown {K = K} ks ss ms) is
      ∙ ap (λ (ps : List (Option PlaceOfUse)). record { definitions = keys_of ds; places = ps; threads = threads_from 0 ms ds }) (same_shown ss apart)
      ∙ ap (λ (ts : List (List ℕ)). record { definitions = keys_of ds; places = places_from 0 ls ss; threads = ts }) (same_listed 0 ds)

  pub same_threads : {K : Type 0} (ds : List (Option (Defined K))) → length ls ≤ length ms → AreThreads ds ls → AreThreads ds ms
  same_threads ds longer t =
      record {
        apart = same_apart t.apart;
        known = λ d u. let lt : d < length ls = t.known d u in omega arith;
        counts = λ d x e. rw (same d) (t.counts d x e);
        defined = λ p d h. t.defined p d (rw (same d) at h);
      }

module _ {K : Type 0} where
  -- a definition comes into use, with no place
  pub defined_threads : (ds es : List (Option (Defined K))) (ls : List (List ℕ)) (d : ℕ) (x : Defined K) → AreThreads ds ls → d < length ls → definition_at ds d ≡ None → definition_at es d ≡ Some x → x.uses ≡ 0
      → ((e : ℕ) → e ≢ d → definition_at es e ≡ definition_at ds e) → AreThreads es ls
  defined_threads ds es ls d x t lt was is zero_uses others =
      record {
        apart = t.apart;
        known = λ c u. ⊎_elim (λ (k : c ≡ d). rw k lt) (λ k. t.known c (rw (others c k) at u)) (cases_eq c d);
        counts = λ c y e. ⊎_elim
            (λ (k : c ≡ d).
            let one : Some y ≡ Some x = sym e ∙ ap (definition_at es) k ∙ is in
            let same : y ≡ x = cc in
            let none : list_at ls d ≡ [] = bare (list_at ls d) (λ p. false_from_ne_true (has p (list_at ls d)) (λ h. some_not_none (definition_at ds d) was (t.defined p d h))) in
            rw (k, none) (ap (λ (z : Defined K). z.uses) same ∙ zero_uses))
            (λ k. t.counts c y (sym (others c k) ∙ e))
            (cases_eq c d);
        defined = λ p c h. ⊎_elim (λ (k : c ≡ d). rw (k, is) refl) (λ k. rw (others c k) (t.defined p c h)) (cases_eq c d);
      }

  -- a definition goes out of use, which no place names
  pub forgotten_threads : (ds es : List (Option (Defined K))) (ls : List (List ℕ)) (d : ℕ) → AreThreads ds ls → ((p : ℕ) → has p (list_at ls d) ≡ true → ⊥) → definition_at es d ≡ None
      → ((e : ℕ) → e ≢ d → definition_at es e ≡ definition_at ds e) → AreThreads es ls
  forgotten_threads ds es ls d t free gone others =
      record {
        apart = t.apart;
        known = λ c u. ⊎_elim
            (λ (k : c ≡ d). absurd (some_not_none (definition_at es c) (ap (definition_at es) k ∙ gone) u))
            (λ k. t.known c (rw (others c k) at u))
            (cases_eq c d);
        counts = λ c y e. ⊎_elim
            (λ (k : c ≡ d). absurd (some_not_none (definition_at es c) (ap (definition_at es) k ∙ gone) (ap is_some e)))
            (λ k. t.counts c y (sym (others c k) ∙ e))
            (cases_eq c d);
        defined = λ p c h. ⊎_elim
            (λ (k : c ≡ d). absurd (free p (rw k at h)))
            (λ k. rw (others c k) (t.defined p c h))
            (cases_eq c d);
      }

  -- what is seen of the tables
  module _ (ds : List (Option (Defined K))) (ss : List (Option Spot)) (ls : List (List ℕ)) (v : Uses K) (seen : shown ds ss ls ≡ v) where
    pub seen_place : (p : ℕ) → place_of v p ≡ place_in (thread_of ls p) (get_or ss p None)
    seen_place p = ap (λ (u : Uses K). place_of u p) (sym seen) ∙ place_at ds ss ls p

    pub seen_key : (d : ℕ) → key_of v d ≡ key_in (definition_at ds d)
    seen_key d = ap (λ (u : Uses K). key_of u d) (sym seen) ∙ key_at ds d

    pub seen_listed : (d : ℕ) → IsSome (definition_at ds d) → listed_of v d ≡ list_at ls d
    seen_listed d h = ap (λ (u : Uses K). listed_of u d) (sym seen) ∙ listed_at 0 ls ds d h ∙ ap (list_at ls) (zero-add d)

    pub is_defined : (d : ℕ) → IsDefined v d → IsSome (definition_at ds d)
    is_defined d h = sym (key_some (definition_at ds d)) ∙ sym (ap is_some (seen_key d)) ∙ h

    pub defined_shown : (d : ℕ) → IsSome (definition_at ds d) → IsDefined v d
    defined_shown d h = ap is_some (seen_key d) ∙ key_some (definition_at ds d) ∙ h

    pub sets_key : (es : List (Option (Defined K))) (tt : List (Option Spot)) (ms : List (List ℕ)) (d : ℕ) (w : Option K) → key_in (definition_at es d) ≡ w
        → ((e : ℕ) → e ≢ d → definition_at es e ≡ definition_at ds e) → SetsKey v (shown es tt ms) d w
    sets_key es tt ms d w is others =
        record {
          changed = key_at es d ∙ is;
          others = λ e n. key_at es e ∙ ap key_in (others e n) ∙ sym (seen_key e);
        }

    pub sets_place : (es : List (Option (Defined K))) (tt : List (Option Spot)) (ms : List (List ℕ)) (p : ℕ) (w : Option PlaceOfUse) → AreApart ms
        → ((q c : ℕ) → q ≢ p → has q (list_at ms c) ≡ has q (list_at ls c)) → ((q : ℕ) → q ≢ p → get_or tt q None ≡ get_or ss q None)
        → place_in (thread_of ms p) (get_or tt p None) ≡ w → SetsPlace v (shown es tt ms) p w
    sets_place es tt ms p w apart lists spots is =
        record {
          changed = place_at es tt ms p ∙ is;
          others = λ q n. place_at es tt ms q ∙ ap (λ t. place_in t (get_or tt q None)) (thread_same ls ms q apart (λ c. lists q c n)) ∙ ap (place_in (thread_of ls q)) (spots q n) ∙ sym (seen_place q);
        }

    module _ (s : ThreadsHoldPlaces ss ls) (p : ℕ) where
      pub is_place : IsPlace v p → IsSome (get_or ss p None)
      is_place h = spot_some (thread_of ls p) (get_or ss p None) (sym (ap is_some (seen_place p)) ∙ h)

      pub is_linked : IsPlace v p → IsLinked ls p
      is_linked h = s.linked p (is_place h)

      pub has_named : (d : ℕ) → NamesDefinition v p d → has p (list_at ls d) ≡ true
      has_named d h = thread_has ls p d (named_thread (thread_of ls p) (get_or ss p None) d (sym (ap named_of (seen_place p)) ∙ h))

      pub names : (d : ℕ) → AreApart ls → has p (list_at ls d) ≡ true → NamesDefinition v p d
      names d apart h = ap named_of (seen_place p) ∙ ap (λ t. named_of (place_in t (get_or ss p None))) (thread_is ls p d apart h) ∙ named_in d (get_or ss p None) (s.placed p d h)

      pub at_spot : AreApart ls → IsPlace v p → spot_of (place_of v p) ≡ get_or ss p None
      at_spot apart h =
          let l : IsLinked ls p = is_linked h in
          ap spot_of (seen_place p) ∙ ap (λ t. spot_of (place_in t (get_or ss p None))) (thread_is ls p l.0 apart l.1) ∙ spot_in l.0 (get_or ss p None)

      pub now_named : (ms : List (List ℕ)) (d : ℕ) → AreApart ls → AreApart ms → IsPlace v p → has p (list_at ms d) ≡ true → place_in (thread_of ms p) (get_or ss p None) ≡ naming d (place_of v p)
      now_named ms d apart later h k =
          let l : IsLinked ls p = is_linked h in
          ap (λ t. place_in t (get_or ss p None)) (thread_is ms p d later k) ∙ naming_in l.0 d (get_or ss p None) ∙ ap (λ t. naming d (place_in t (get_or ss p None))) (sym (thread_is ls p l.0 apart l.1)) ∙ ap (naming d) (sym (seen_place p))

      pub now_at : (tt : List (Option Spot)) (i : ℕ) (x : Spot) → get_or ss p None ≡ Some x → get_or tt p None ≡ Some (record x { index = i }) → place_in (thread_of ls p) (get_or tt p None) ≡ at_index i (place_of v p)
      now_at tt i x was is = ap (place_in (thread_of ls p)) is ∙ index_in (thread_of ls p) x i ∙ ap (λ o. at_index i (place_in (thread_of ls p) o)) (sym was) ∙ ap (at_index i) (sym (seen_place p))

    pub uses_of : (d : ℕ) → ThreadsHoldPlaces ss ls → AreApart ls → AreDistinctNumbers (list_at ls d) → AreNamingPlaces v d (list_at ls d)
    uses_of d s apart distinct =
        record {
          distinct = distinct;
          exact = λ p. (names s p d apart, has_named s p d);
        }

    pub first_named : (d : ℕ) (r : Option ℕ) → ThreadsHoldPlaces ss ls → AreApart ls → r ≡ first_or None (list_at ls d) → MatchOption r ((p : ℕ) → NamesDefinition v p d → ⊥) (λ p. NamesDefinition v p d)
    first_named d r s apart e = by_list (list_at ls d) refl r e where
      by_list : (xs : List ℕ) → list_at ls d ≡ xs → (r : Option ℕ) → r ≡ first_or None xs → MatchOption r ((p : ℕ) → NamesDefinition v p d → ⊥) (λ p. NamesDefinition v p d)
      by_list [] is None e = λ p n. both_ways (has p (list_at ls d)) (ap (has p) is) (has_named s p d n)
      by_list [] is (Some q) e = cc
      by_list (x ∷ xs) is None e = cc
      by_list (x ∷ xs) is (Some q) e = let same : q ≡ x = cc in names s q d apart (rw is (or_left (eqb q x) (has q xs) (eq-eqb q x same)))

    -- one thread has moved behind another
    module _ (es : List (Option (Defined K))) (ms : List (List ℕ)) (from to : ℕ) (apart : AreApart ms) (emptied : (p : ℕ) → has p (list_at ms from) ≡ false)
        (joined : (p : ℕ) → has p (list_at ms to) ≡ (has p (list_at ls to) || has p (list_at ls from))) (others : (p c : ℕ) → c ≢ from → c ≢ to → has p (list_at ms c) ≡ has p (list_at ls c)) where
      pub merged_places : ThreadsHoldPlaces ss ls → ThreadsHoldPlaces ss ms
      merged_places s =
          record {
            placed = λ p c h. ⊎_elim
                (λ (k : c ≡ from). absurd (both_ways (has p (list_at ms from)) (emptied p) (rw k at h)))
                (λ k. ⊎_elim
                (λ (o : c ≡ to). ⊎_elim (s.placed p to) (s.placed p from) (or_cases (has p (list_at ls to)) (has p (list_at ls from)) (sym (joined p) ∙ (rw o at h))))
                (λ o. s.placed p c (sym (others p c k o) ∙ h))
                (cases_eq c to))
                (cases_eq c from);
            linked = λ p h.
                let was : IsLinked ls p = s.linked p h in
                ⊎_elim
                (λ (k : was.0 ≡ from). (to, joined p ∙ or_right (has p (list_at ls to)) (has p (list_at ls from)) (subst (λ c. has p (list_at ls c) ≡ true) k was.1)))
                (λ k. ⊎_elim
                (λ (o : was.0 ≡ to). (to, joined p ∙ or_left (has p (list_at ls to)) (has p (list_at ls from)) (subst (λ c. has p (list_at ls c) ≡ true) o was.1)))
                (λ o. (was.0, others p was.0 k o ∙ was.1))
                (cases_eq was.0 to))
                (cases_eq was.0 from);
          }

      pub merged_shown : from ≢ to → (p : ℕ) → place_of (shown es ss ms) p ≡ renamed from to (place_of v p)
      merged_shown ne p = place_at es ss ms p ∙ by_thread (thread_of ls p) refl ∙ ap (renamed from to) (sym (seen_place p)) where
        by_thread : (t : Option ℕ) → thread_of ls p ≡ t → place_in (thread_of ms p) (get_or ss p None) ≡ renamed from to (place_in (thread_of ls p) (get_or ss p None))
        by_thread None e =
            let none : (c : ℕ) → has p (list_at ls c) ≡ false = none_in 0 ls p e in
            let gone : thread_of ms p ≡ None = no_thread ms p (λ c. ⊎_elim
            (λ (k : c ≡ from). rw k (emptied p))
            (λ k. ⊎_elim
            (λ (o : c ≡ to). rw o (joined p ∙ ap (λ b. b || has p (list_at ls from)) (none to) ∙ none from))
            (λ o. others p c k o ∙ none c)
            (cases_eq c to))
            (cases_eq c from)) in
            ap (λ t. place_in t (get_or ss p None)) gone ∙ ap (λ t. renamed from to (place_in t (get_or ss p None))) (sym e)
        by_thread (Some d) e =
            let was : has p (list_at ls d) ≡ true = thread_has ls p d e in
            let moved : thread_of ms p ≡ Some (cond (eqb d from) to d) = ⊎_elim
            (λ (k : d ≡ from). rw (eq-eqb d from k) (thread_is ms p to apart (joined p ∙ or_right (has p (list_at ls to)) (has p (list_at ls from)) (rw k at was))))
            (λ k. rw (ne_eqb d from k) (⊎_elim
            (λ (o : d ≡ to). thread_is ms p d apart (rw o (joined p ∙ or_left (has p (list_at ls to)) (has p (list_at ls from)) (rw o at was))))
            (λ o. thread_is ms p d apart (others p d k o ∙ was))
            (cases_eq d to)))
            (cases_eq d from) in
            ap (λ t. place_in t (get_or ss p None)) moved ∙ renamed_in from to d (get_or ss p None) ∙ ap (λ t. renamed from to (place_in t (get_or ss p None))) (sym e)
