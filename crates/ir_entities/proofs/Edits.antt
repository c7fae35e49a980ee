-- What putting a node in, and taking one out, makes of the lists.
use Rattle.std.proofs.Common.{◌≡◌, ◌≢◌, ℕ, ◌<◌, ⊎_elim, true, false, eqb, List, [], ◌∷◌, ◌++◌, length, Option, Some, None, refl, sym, ap, subst, ◌∙◌, set}
use Rattle.std.proofs.lemmas.List.{length-set, get_or-set_same, get_or-set_other}
use Rattle.std.proofs.lemmas.Bool.{eqb-true, eqb-false, eq-eqb, or_cases, or_parts, or_left, or_right, cases_eq, false_from_ne_true, both_ways}
use Rattle.ir_entities.specs.declared.siblings.Node.{Node}
use Rattle.ir_entities.specs.declared.siblings.Ends.{Ends}
use Rattle.ir_entities.specs.Links.{first_or, last_or, has, AreDistinctNumbers, IsSegment, IsList, AreLists, list_at, ends_at}
use Rattle.ir_entities.proofs.Segments.{is_at, rejoined, has_here, has-append, has_last, parent_in, segment_left, segment_right, segment_both, segment_kept, segment_to, segment_from}

-- the ends of list c fit zs, and no other list's ends changed
pub record AreEndsOf (old new : List Ends) (c : ℕ) (zs : List ℕ) : Type 0 where
  pub count : length new ≡ length old
  pub here : ends_at new c ≡ record { head = first_or None zs; tail = last_or None zs }
  pub others : (d : ℕ) → d ≢ c → ends_at new d ≡ ends_at old d

pub last_in : (us : List ℕ) (y : ℕ) → is_at (last_or None us) y ≡ true → has y us ≡ true
last_in [] y h = absurd (both_ways false refl h)
last_in (a ∷ us) y h = has_last a us y h

pub first_in : (vs : List ℕ) (y : ℕ) → is_at (first_or None vs) y ≡ true → has y vs ≡ true
first_in [] y h = absurd (both_ways false refl h)
first_in (b ∷ vs) y h = or_left (eqb y b) (has y vs) h

pub has_left : (y : ℕ) (xs ys : List ℕ) → has y xs ≡ true → has y (xs ++ ys) ≡ true
has_left y xs ys h = rw has-append (or_left (has y xs) (has y ys) h)

pub has_right : (y : ℕ) (xs ys : List ℕ) → has y ys ≡ true → has y (xs ++ ys) ≡ true
has_right y xs ys h = rw has-append (or_right (has y xs) (has y ys) h)

pub has_middle : (y x : ℕ) (us vs : List ℕ) → has y (us ++ vs) ≡ true → has y (us ++ x ∷ vs) ≡ true
has_middle y x us vs h = ⊎_elim
    (λ t. has_left y us (x ∷ vs) t)
    (λ t. has_right y us (x ∷ vs) (or_right (eqb y x) (has y vs) t))
    (or_cases (has y us) (has y vs) (sym (has-append y us vs) ∙ h))

pub has_but : (y x : ℕ) (us vs : List ℕ) → y ≢ x → has y (us ++ x ∷ vs) ≡ true → has y (us ++ vs) ≡ true
has_but y x us vs ne h = ⊎_elim
    (λ t. has_left y us vs t)
    (λ t. ⊎_elim (λ i. absurd (ne (eqb-true y x i))) (λ u. has_right y us vs u) (or_cases (eqb y x) (has y vs) t))
    (or_cases (has y us) (has y (x ∷ vs)) (sym (has-append y us (x ∷ vs)) ∙ h))

distinct_left : (us vs : List ℕ) → AreDistinctNumbers (us ++ vs) → AreDistinctNumbers us
distinct_left [] vs d = tt
distinct_left (a ∷ us) vs d = ((or_parts (has a us) (has a vs) (sym (has-append a us vs) ∙ d.0)).0, distinct_left us vs d.1)

pub distinct_right : (us vs : List ℕ) → AreDistinctNumbers (us ++ vs) → AreDistinctNumbers vs
distinct_right [] vs d = d
distinct_right (a ∷ us) vs d = distinct_right us vs d.1

-- what stands in the one part doesn't stand in the other
pub apart : (us vs : List ℕ) (y : ℕ) → AreDistinctNumbers (us ++ vs) → has y us ≡ true → has y vs ≡ true → ⊥
apart [] vs y d h k = both_ways false refl h
apart (a ∷ us) vs y d h k = ⊎_elim
    (λ t. let i : y ≡ a = eqb-true y a t in both_ways (has a (us ++ vs)) d.0 (has_right a us vs (rw (← i) k)))
    (λ t. apart us vs y d.1 t k)
    (or_cases (eqb y a) (has y us) h)

distinct_with : (x : ℕ) (us vs : List ℕ) → AreDistinctNumbers (us ++ vs) → has x (us ++ vs) ≡ false → AreDistinctNumbers (us ++ x ∷ vs)
distinct_with x [] vs d n = (n, d)
distinct_with x (a ∷ us) vs d n =
    let m : (eqb x a ≡ false) × (has x (us ++ vs) ≡ false) = or_parts (eqb x a) (has x (us ++ vs)) n in
    (false_from_ne_true (has a (us ++ x ∷ vs)) (λ h. both_ways (has a (us ++ vs)) d.0 (has_but a x us vs (λ i. eqb-false x a m.0 (sym i)) h)), distinct_with x us vs d.1 m.1)

distinct_without : (x : ℕ) (us vs : List ℕ) → AreDistinctNumbers (us ++ x ∷ vs) → AreDistinctNumbers (us ++ vs)
distinct_without x [] vs d = d.1
distinct_without x (a ∷ us) vs d =
    (false_from_ne_true (has a (us ++ vs)) (λ h. both_ways (has a (us ++ x ∷ vs)) d.0 (has_middle a x us vs h)), distinct_without x us vs d.1)

module _ (at new : ℕ → Node) (c : ℕ) (q b : Option ℕ) where
  -- the part before the change
  left_part : (us : List ℕ) (e f : Option ℕ) → IsSegment at c None us e → AreDistinctNumbers us → ((y : ℕ) → has y us ≡ true → is_at f y ≡ false) → ((y : ℕ) → has y us ≡ true → new y ≡ rejoined at (last_or None us) q f b y) → IsSegment new c None us q
  left_part [] e f s d nf same = tt
  left_part (a ∷ us) e f s d nf same =
      segment_kept (rejoined at (last_or (Some a) us) q f b) c new None (a ∷ us) q same
      (segment_to at c None a us e (last_or (Some a) us) q f b s d refl nf)

  -- the part after it
  right_part : (vs : List ℕ) (p l : Option ℕ) → IsSegment at c p vs None → AreDistinctNumbers vs → ((y : ℕ) → has y vs ≡ true → is_at l y ≡ false) → ((y : ℕ) → has y vs ≡ true → new y ≡ rejoined at l q (first_or None vs) b y) → IsSegment new c b vs None
  right_part [] p l s d nl same = tt
  right_part (z ∷ vs) p l s d nl same =
      segment_kept (rejoined at l q (Some z) b) c new b (z ∷ vs) None same
      (segment_from at c p z vs None l q (Some z) b s d refl nl)

  -- another list is us before
  other_list : (d : ℕ) (xs us vs : List ℕ) → d ≢ c → IsSegment at d None xs None → ((y : ℕ) → has y us ≡ true → (at y).parent ≡ Some c) → ((y : ℕ) → has y vs ≡ true → (at y).parent ≡ Some c)
      → ((y : ℕ) → has y xs ≡ true → new y ≡ rejoined at (last_or None us) q (first_or None vs) b y) → IsSegment new d None xs None
  other_list d xs us vs ne s pa pb same =
      segment_kept at d new None xs None
      (λ y h.
      let no : (at y).parent ≡ Some c → ⊥ = λ i. let two : Some d ≡ Some c = sym (parent_in at d None xs None y s h) ∙ i in ne (cc) in
      let kl : is_at (last_or None us) y ≡ false = false_from_ne_true (is_at (last_or None us) y) (λ t. no (pa y (last_in us y t))) in
      let kf : is_at (first_or None vs) y ≡ false = false_from_ne_true (is_at (first_or None vs) y) (λ t. no (pb y (first_in vs y t))) in
      same y h ∙ rw (kl, kf) refl)
      s

-- node x goes between us and vs
pub put_in : (at new : ℕ → Node) (es fs : List Ends) (ls : List (List ℕ)) (c x : ℕ) (us vs : List ℕ)
    → AreLists at es ls → c < length ls → list_at ls c ≡ us ++ vs → (at x).parent ≡ None
    → new x ≡ record { parent = Some c; prev = last_or None us; next = first_or None vs }
    → ((y : ℕ) → y ≢ x → new y ≡ rejoined at (last_or None us) (Some x) (first_or None vs) (Some x) y)
    → AreEndsOf es fs c (us ++ x ∷ vs)
    → AreLists new fs (set ls c (us ++ x ∷ vs))
put_in at new es fs ls c x us vs are lt is free here others ends =
    let mine : IsList at (ends_at es c) c (us ++ vs) = rw (← is) (are.each c lt) in
    let sl : IsSegment at c None us (first_or None vs) = segment_left at c None us vs None mine.chain in
    let sr : IsSegment at c (last_or None us) vs None = segment_right at c None us vs None mine.chain in
    let pa : (y : ℕ) → has y us ≡ true → (at y).parent ≡ Some c = λ y h. parent_in at c None us (first_or None vs) y sl h in
    let pb : (y : ℕ) → has y vs ≡ true → (at y).parent ≡ Some c = λ y h. parent_in at c (last_or None us) vs None y sr h in
    let out : (y d : ℕ) → (at y).parent ≡ Some d → y ≢ x = λ y d p i. let two : Some d ≡ None = sym p ∙ ap (λ z. (at z).parent) i ∙ free in cc in
    let fresh : has x (us ++ vs) ≡ false = false_from_ne_true (has x (us ++ vs)) (λ h. out x c (parent_in at c None (us ++ vs) None x mine.chain h) refl) in
    record {
      count = length-set ls c (us ++ x ∷ vs) ∙ are.count ∙ sym ends.count;
      each = λ d ld. ⊎_elim
          (λ i. subst (λ (k : ℕ). IsList new (ends_at fs k) k (list_at (set ls c (us ++ x ∷ vs)) k)) (sym i) (rw (get_or-set_same ls c (us ++ x ∷ vs) [] lt) (record {
            head = rw ends.here refl;
            tail = rw ends.here refl;
            chain = segment_both new c None us (x ∷ vs) None
                (left_part at new c (Some x) (Some x) us (first_or None vs) (first_or None vs) sl (distinct_left us vs mine.distinct)
                (λ y h. false_from_ne_true (is_at (first_or None vs) y) (λ t. apart us vs y mine.distinct h (first_in vs y t)))
                (λ y h. others y (out y c (pa y h)))) (
                  here,
                  right_part at new c (Some x) (Some x) vs (last_or None us) (last_or None us) sr (distinct_right us vs mine.distinct)
                      (λ y h. false_from_ne_true (is_at (last_or None us) y) (λ t. apart us vs y mine.distinct (last_in us y t) h))
                      (λ y h. others y (out y c (pb y h))),
                );
            distinct = distinct_with x us vs mine.distinct fresh;
          })))
          (λ ne.
          let old : IsList at (ends_at es d) d (list_at ls d) = are.each d (rw length-set at ld) in
          rw (get_or-set_other ls c d (us ++ x ∷ vs) [] ne, ends.others d ne) (record {
            head = old.head;
            tail = old.tail;
            chain = other_list at new c (Some x) (Some x) d (list_at ls d) us vs ne old.chain pa pb
                (λ y h. others y (out y d (parent_in at d None (list_at ls d) None y old.chain h)));
            distinct = old.distinct;
          }))
          (cases_eq d c);
      owned = λ y d p. ⊎_elim
          (λ i.
          let e : Some d ≡ Some c = sym p ∙ ap (λ z. (new z).parent) i ∙ ap (λ (n : Node). n.parent) here in
          let dc : d ≡ c = cc in
          subst (λ (k : ℕ). has y (list_at (set ls c (us ++ x ∷ vs)) k) ≡ true) (sym dc) (rw (get_or-set_same ls c (us ++ x ∷ vs) [] lt, i) (has_right x us (x ∷ vs) (has_here x vs))))
          (λ ne.
          let was : has y (list_at ls d) ≡ true = are.owned y d (sym (ap (λ (n : Node). n.parent) (others y ne)) ∙ p) in
          ⊎_elim
          (λ dc. subst (λ (k : ℕ). has y (list_at (set ls c (us ++ x ∷ vs)) k) ≡ true) (sym dc) (rw (get_or-set_same ls c (us ++ x ∷ vs) [] lt) (has_middle y x us vs (rw is at (subst (λ (k : ℕ). has y (list_at ls k) ≡ true) dc was)))))
          (λ nd. rw (get_or-set_other ls c d (us ++ x ∷ vs) [] nd) was)
          (cases_eq d c))
          (cases_eq y x);
    }

-- node x, which stands between us and vs, goes out
pub take_out : (at new : ℕ → Node) (es fs : List Ends) (ls : List (List ℕ)) (c x : ℕ) (us vs : List ℕ)
    → AreLists at es ls → c < length ls → list_at ls c ≡ us ++ x ∷ vs
    → (new x).parent ≡ None
    → ((y : ℕ) → y ≢ x → new y ≡ rejoined at (last_or None us) (first_or None vs) (first_or None vs) (last_or None us) y)
    → AreEndsOf es fs c (us ++ vs)
    → AreLists new fs (set ls c (us ++ vs))
take_out at new es fs ls c x us vs are lt is free others ends =
    let mine : IsList at (ends_at es c) c (us ++ x ∷ vs) = rw (← is) (are.each c lt) in
    let sl : IsSegment at c None us (Some x) = segment_left at c None us (x ∷ vs) None mine.chain in
    let sx : IsSegment at c (last_or None us) (x ∷ vs) None = segment_right at c None us (x ∷ vs) None mine.chain in
    let sr : IsSegment at c (Some x) vs None = sx.1 in
    let less : AreDistinctNumbers (us ++ vs) = distinct_without x us vs mine.distinct in
    let pa : (y : ℕ) → has y us ≡ true → (at y).parent ≡ Some c = λ y h. parent_in at c None us (Some x) y sl h in
    let pb : (y : ℕ) → has y vs ≡ true → (at y).parent ≡ Some c = λ y h. parent_in at c (Some x) vs None y sr h in
    let px : (at x).parent ≡ Some c = ap (λ (n : Node). n.parent) sx.0 in
    let xu : (y : ℕ) → has y us ≡ true → y ≢ x = λ y h i. apart us (x ∷ vs) y mine.distinct h (or_left (eqb y x) (has y vs) (eq-eqb y x i)) in
    let xv : (y : ℕ) → has y vs ≡ true → y ≢ x = λ y h i. both_ways (has x vs) (distinct_right us (x ∷ vs) mine.distinct).0 (rw i at h) in
    record {
      count = length-set ls c (us ++ vs) ∙ are.count ∙ sym ends.count;
      each = λ d ld. ⊎_elim
          (λ i. subst (λ (k : ℕ). IsList new (ends_at fs k) k (list_at (set ls c (us ++ vs)) k)) (sym i) (rw (get_or-set_same ls c (us ++ vs) [] lt) (record {
            head = rw ends.here refl;
            tail = rw ends.here refl;
            chain = segment_both new c None us vs None
                (left_part at new c (first_or None vs) (last_or None us) us (Some x) (first_or None vs) sl (distinct_left us vs less)
                (λ y h. false_from_ne_true (is_at (first_or None vs) y) (λ t. apart us vs y less h (first_in vs y t)))
                (λ y h. others y (xu y h)))
                (right_part at new c (first_or None vs) (last_or None us) vs (Some x) (last_or None us) sr (distinct_right us vs less)
                (λ y h. false_from_ne_true (is_at (last_or None us) y) (λ t. apart us vs y less (last_in us y t) h))
                (λ y h. others y (xv y h)));
            distinct = less;
          })))
          (λ ne.
          let old : IsList at (ends_at es d) d (list_at ls d) = are.each d (rw length-set at ld) in
          rw (get_or-set_other ls c d (us ++ vs) [] ne, ends.others d ne) (record {
            head = old.head;
            tail = old.tail;
            chain = other_list at new c (first_or None vs) (last_or None us) d (list_at ls d) us vs ne old.chain pa pb
                (λ y h. others y (λ i. let two : Some d ≡ Some c = sym (parent_in at d None (list_at ls d) None y old.chain h) ∙ ap (λ z. (at z).parent) i ∙ px in ne (cc)));
            distinct = old.distinct;
          }))
          (cases_eq d c);
      owned = λ y d p. ⊎_elim
          (λ i. let e : Some d ≡ None = sym p ∙ ap (λ z. (new z).parent) i ∙ free in cc)
          (λ ne.
          let was : has y (list_at ls d) ≡ true = are.owned y d (sym (ap (λ (n : Node). n.parent) (others y ne)) ∙ p) in
          ⊎_elim
          (λ dc. subst (λ (k : ℕ). has y (list_at (set ls c (us ++ vs)) k) ≡ true) (sym dc) (rw (get_or-set_same ls c (us ++ vs) [] lt) (has_but y x us vs ne (rw is at (subst (λ (k : ℕ). has y (list_at ls k) ≡ true) dc was)))))
          (λ nd. rw (get_or-set_other ls c d (us ++ vs) [] nd) was)
          (cases_eq d c))
          (cases_eq y x);
    }
