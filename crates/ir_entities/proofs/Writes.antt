-- What the writes of links are, node by node, and what the edits of lists are, part by part.
use Rattle.std.proofs.Common.{◌≡◌, ◌≢◌, ℕ, ◌<◌, ◌≤◌, ◌-◌, ⊎_elim, Bool, true, false, cond, eqb, List, [], ◌∷◌, ◌++◌, map, length, Option, Some, None, IfSome, IsNone, OnErr, Result, Ok, Err, refl, sym, ap, subst, ◌∙◌, arith, set, get_or, length-append, append_assoc, zero, suc}
use Rattle.std.proofs.lemmas.List.{get_or_default, get_or_past, append-nil, length-set, get_or-set_same, get_or-set_other, get_or_append_left, get_or-append_right}
use Rattle.std.proofs.lemmas.Bool.{eqb-true, eq-eqb, ne_eqb, or_cases, or_parts, or_left, or_right, or_from, cases_eq, cases_lt, false_from_ne_true, both_ways}
use Rattle.ir_entities.specs.declared.siblings.Node.{Node}
use Rattle.ir_entities.specs.declared.siblings.Ends.{Ends}
use Rattle.ir_entities.specs.Links.{node_at, ends_at, unlinked, no_ends, with_next, with_prev, with_head, with_tail, with_node, first_or, last_or, has, AreDistinctNumbers, IsSegment, IsList, AreLists, list_at, put_after, put_before, without, IsUnlinked, next_in, prev_in, prev_from, AreApart}
use Rattle.ir_entities.specs.Lists.{ListsView}
use Rattle.ir_entities.specs.Unique.{lists_one}
use Rattle.ir_entities.specs.declared.siblings.Siblings.TheInside.{Inside}
use Rattle.ir_entities.specs.contracts.siblings.Siblings.{the_view}
use Rattle.ir_entities.proofs.Segments.{is_at, rejoined, has-append, last_or-append, first_or-append, parent_in, segment_left, segment_right}
use Rattle.ir_entities.proofs.Edits.{AreEndsOf, put_in, take_out, last_in, first_in, distinct_right}

-- a node with a parent is in the table
pub in_table : (ns : List Node) (y c : ℕ) → (node_at ns y).parent ≡ Some c → y < length ns
in_table ns y c p = ⊎_elim (λ h. h)
    (λ h. let past : node_at ns y ≡ unlinked = get_or_past ns y unlinked h in let two : None ≡ Some c = sym (ap (λ (n : Node). n.parent) past) ∙ p in cc)
    (cases_lt y (length ns))

pub next_written : (ns : List Node) (l q : Option ℕ) (y : ℕ) → IfSome l (λ i. i < length ns) → node_at (with_next ns l q) y ≡ rejoined (node_at ns) l q None None y
next_written ns None q y h = refl
next_written ns (Some z) q y h = ⊎_elim
    (λ i. let t : eqb y z ≡ true = eq-eqb y z i in
    rw t (subst (λ k. node_at (set ns z (record (node_at ns z) { next = q })) k ≡ record (node_at ns k) { next = q }) (sym i) (get_or-set_same ns z (record (node_at ns z) { next = q }) unlinked h)))
    (λ ne. let f : eqb y z ≡ false = ne_eqb y z ne in
    rw f (get_or-set_other ns z y (record (node_at ns z) { next = q }) unlinked ne))
    (cases_eq y z)

pub prev_written : (ns : List Node) (f b : Option ℕ) (y : ℕ) → IfSome f (λ i. i < length ns) → node_at (with_prev ns f b) y ≡ rejoined (node_at ns) None None f b y
prev_written ns None b y h = refl
prev_written ns (Some z) b y h = ⊎_elim
    (λ i. let t : eqb y z ≡ true = eq-eqb y z i in
    rw t (subst (λ k. node_at (set ns z (record (node_at ns z) { prev = b })) k ≡ record (node_at ns k) { prev = b }) (sym i) (get_or-set_same ns z (record (node_at ns z) { prev = b }) unlinked h)))
    (λ ne. let k : eqb y z ≡ false = ne_eqb y z ne in
    rw k (get_or-set_other ns z y (record (node_at ns z) { prev = b }) unlinked ne))
    (cases_eq y z)

pub length-with_next : (ns : List Node) (l q : Option ℕ) → length (with_next ns l q) ≡ length ns
length-with_next ns None q = refl
length-with_next ns (Some z) q = length-set ns z _

pub length-with_prev : (ns : List Node) (f b : Option ℕ) → length (with_prev ns f b) ≡ length ns
length-with_prev ns None b = refl
length-with_prev ns (Some z) b = length-set ns z _

-- the three writes of an edit, at another node than the third
pub written : (ns : List Node) (l q f b : Option ℕ) (x : ℕ) (n : Node) (y : ℕ) → IfSome l (λ i. i < length ns) → IfSome f (λ i. i < length ns) → y ≢ x
    → node_at (with_node (with_prev (with_next ns l q) f b) x n) y ≡ rejoined (node_at ns) l q f b y
written ns l q f b x n y hl hf ne =
    let hf' : IfSome f (λ i. i < length (with_next ns l q)) = rw (length-with_next ns l q) hf in
    get_or-set_other (with_prev (with_next ns l q) f b) x y n unlinked ne
    ∙ prev_written (with_next ns l q) f b y hf'
    ∙ ap (λ (m : Node). record { parent = m.parent; prev = cond (is_at f y) b m.prev; next = m.next }) (next_written ns l q y hl)

pub written_here : (ns : List Node) (l q f b : Option ℕ) (x : ℕ) (n : Node) → x < length ns → node_at (with_node (with_prev (with_next ns l q) f b) x n) x ≡ n
written_here ns l q f b x n lt =
    get_or-set_same (with_prev (with_next ns l q) f b) x n unlinked (rw (length-with_prev (with_next ns l q) f b, length-with_next ns l q) lt)

-- the ends after the edit of list c from us ++ .. ++ vs to us ++ xs ++ vs
tail_of : (us xs : List ℕ) (v : ℕ) (vs : List ℕ) → last_or None (us ++ (xs ++ v ∷ vs)) ≡ last_or (Some v) vs
tail_of us xs v vs = last_or-append None us (xs ++ v ∷ vs) ∙ last_or-append (last_or None us) xs (v ∷ vs)

tail_end : (us xs : List ℕ) → last_or None (us ++ (xs ++ [])) ≡ last_or (last_or None us) xs
tail_end us xs = rw append-nil (last_or-append None us xs)

head_kept : (es : List Ends) (c u : ℕ) (us : List ℕ) (q : Option ℕ) → with_head es c (last_or (Some u) us) q ≡ es
head_kept es c u [] q = refl
head_kept es c u (v ∷ us) q = head_kept es c v us q

-- the ends after the edit of list c from us ++ zs ++ vs to us ++ xs ++ vs
pub ends_written : (es : List Ends) (c : ℕ) (us xs zs vs : List ℕ) → c < length es
    → ends_at es c ≡ record { head = first_or None (us ++ (zs ++ vs)); tail = last_or None (us ++ (zs ++ vs)) }
    → AreEndsOf es (with_tail (with_head es c (last_or None us) (first_or (first_or None vs) xs)) c (first_or None vs) (last_or (last_or None us) xs)) c (us ++ (xs ++ vs))
ends_written es c [] xs zs [] lt was =
    let e : List Ends = set es c (record (ends_at es c) { head = first_or None xs }) in
    let n : Ends = record { head = first_or None xs; tail = last_or None xs } in
    record {
      count = length-set e c _ ∙ length-set es c _;
      here = get_or-set_same e c _ no_ends (rw length-set lt) ∙ rw (get_or-set_same es c (record (ends_at es c) { head = first_or None xs }) no_ends lt, append-nil) refl;
      others = λ d ne. get_or-set_other e c d _ no_ends ne ∙ get_or-set_other es c d _ no_ends ne;
    }
ends_written es c [] xs zs (v ∷ vs) lt was =
    record {
      count = length-set es c _;
      here = get_or-set_same es c _ no_ends lt ∙ rw (was, first_or-append None xs (v ∷ vs), tail_of [] xs v vs, tail_of [] zs v vs) refl;
      others = λ d ne. get_or-set_other es c d _ no_ends ne;
    }
ends_written es c (u ∷ us) xs zs [] lt was =
    rw (head_kept es c u us (first_or (first_or None []) xs)) (record {
      count = length-set es c _;
      here = get_or-set_same es c _ no_ends lt ∙ rw (was, tail_end (u ∷ us) xs) refl;
      others = λ d ne. get_or-set_other es c d _ no_ends ne;
    })
ends_written es c (u ∷ us) xs zs (v ∷ vs) lt was =
    rw (head_kept es c u us (first_or (first_or None (v ∷ vs)) xs)) (record {
      count = refl;
      here = was ∙ rw (tail_of (u ∷ us) xs v vs, tail_of (u ∷ us) zs v vs) refl;
      others = λ d ne. refl;
    })

-- x stands in list c, between us and vs
pub record Stands (at : ℕ → Node) (ls : List (List ℕ)) (c x : ℕ) : Type 0 where
  pub us : List ℕ
  pub vs : List ℕ
  pub is : list_at ls c ≡ us ++ x ∷ vs
  pub first : has x us ≡ false
  pub node : at x ≡ record { parent = Some c; prev = last_or None us; next = first_or None vs }
  pub within : c < length ls

record Splits (x : ℕ) (xs : List ℕ) : Type 0 where
  pub us : List ℕ
  pub vs : List ℕ
  pub is : xs ≡ us ++ x ∷ vs
  pub first : has x us ≡ false

split_at : (x : ℕ) (xs : List ℕ) → has x xs ≡ true → Splits x xs
split_at x [] h = absurd (both_ways false refl h)
split_at x (y ∷ ys) h = ⊎_elim
    (λ i. record { us = []; vs = ys; is = rw i refl; first = refl })
    (λ ne.
    let s : Splits x ys = split_at x ys (⊎_elim (λ t. absurd (ne (eqb-true x y t))) (λ t. t) (or_cases (eqb x y) (has x ys) h)) in
    record { us = y ∷ s.us; vs = s.vs; is = ap (λ t. y ∷ t) s.is; first = or_from (eqb x y) (has x s.us) (ne_eqb x y ne) s.first })
    (cases_eq x y)

pub stands : (at : ℕ → Node) (es : List Ends) (ls : List (List ℕ)) (c x : ℕ) → AreLists at es ls → has x (list_at ls c) ≡ true → Stands at ls c x
stands at es ls c x are h =
    let lt : c < length ls = ⊎_elim (λ l. l) (λ l. absurd (both_ways false refl (rw (get_or_past ls c [] l) at h))) (cases_lt c (length ls)) in
    let s : Splits x (list_at ls c) = split_at x (list_at ls c) h in
    let chain : IsSegment at c None (s.us ++ x ∷ s.vs) None = rw s.is at ((are.each c lt).chain) in
    record {
      us = s.us;
      vs = s.vs;
      is = s.is;
      first = s.first;
      within = lt;
      node = (segment_right at c None s.us (x ∷ s.vs) None chain).0;
    }

some_below : (o : Option ℕ) (n : ℕ) → ((z : ℕ) → is_at o z ≡ true → z < n) → IfSome o (λ i. i < n)
some_below None n h = tt
some_below (Some z) n h = h z (eq-eqb z z refl)

some_is_not_none : (o : Option ℕ) (d : ℕ) → IsNone o → o ≡ Some d → ⊥
some_is_not_none None d n e = cc
some_is_not_none (Some z) d n e = cc

none_here : (o : Option ℕ) → ((d : ℕ) → o ≡ Some d → ⊥) → o ≡ None
none_here None h = refl
none_here (Some d) h = absurd (h d refl)

both_ends : (e : Ends) (h t : Option ℕ) → e.head ≡ h → e.tail ≡ t → e ≡ record { head = h; tail = t }
both_ends e h t p q = rw (← p, ← q) refl

-- the neighbours of a place in list c are in the tables
pub record HaveRoom (ns : List Node) (es : List Ends) (c : ℕ) (l f : Option ℕ) : Type 0 where
  pub before : IfSome l (λ i. i < length ns)
  pub after : IfSome f (λ i. i < length ns)
  pub list : c < length es

module _ (ns : List Node) (es : List Ends) (ls : List (List ℕ)) (c x : ℕ) (us vs : List ℕ) where
  before_in : (e : Option ℕ) → IsSegment (node_at ns) c None us e → IfSome (last_or None us) (λ i. i < length ns)
  before_in e s = some_below (last_or None us) (length ns) (λ z h. in_table ns z c (parent_in (node_at ns) c None us e z s (last_in us z h)))

  after_in : (p : Option ℕ) → IsSegment (node_at ns) c p vs None → IfSome (first_or None vs) (λ i. i < length ns)
  after_in p s = some_below (first_or None vs) (length ns) (λ z h. in_table ns z c (parent_in (node_at ns) c p vs None z s (first_in vs z h)))

  pub room_in : AreLists (node_at ns) es ls → c < length ls → list_at ls c ≡ us ++ vs → (l f : Option ℕ) → l ≡ last_or None us → f ≡ first_or None vs → HaveRoom ns es c l f
  room_in are lt is l f il fi =
      let chain : IsSegment (node_at ns) c None (us ++ vs) None = rw is at ((are.each c lt).chain) in
      record {
        before = rw il (before_in (first_or None vs) (segment_left (node_at ns) c None us vs None chain));
        after = rw fi (after_in (last_or None us) (segment_right (node_at ns) c None us vs None chain));
        list = omega (arith, are.count);
      }

  pub room_out : AreLists (node_at ns) es ls → c < length ls → list_at ls c ≡ us ++ x ∷ vs → (l f : Option ℕ) → l ≡ last_or None us → f ≡ first_or None vs → HaveRoom ns es c l f
  room_out are lt is l f il fi =
      let chain : IsSegment (node_at ns) c None (us ++ x ∷ vs) None = rw is at ((are.each c lt).chain) in
      record {
        before = rw il (before_in (Some x) (segment_left (node_at ns) c None us (x ∷ vs) None chain));
        after = rw fi (after_in (Some x) (segment_right (node_at ns) c None us (x ∷ vs) None chain).1);
        list = omega (arith, are.count);
      }

  pub linked_in : AreLists (node_at ns) es ls → c < length ls → list_at ls c ≡ us ++ vs → IsUnlinked ls x → x < length ns
      → AreLists (node_at (with_node (with_prev (with_next ns (last_or None us) (Some x)) (first_or None vs) (Some x)) x (record { parent = Some c; prev = last_or None us; next = first_or None vs })))
      (with_tail (with_head es c (last_or None us) (Some x)) c (first_or None vs) (Some x)) (set ls c (us ++ x ∷ vs))
  linked_in are lt is free xn =
      let room : HaveRoom ns es c (last_or None us) (first_or None vs) = room_in are lt is _ _ refl refl in
      let list : IsList (node_at ns) (ends_at es c) c (us ++ vs) = rw is at (are.each c lt) in
      let here : (node_at ns x).parent ≡ None = none_here ((node_at ns x).parent) (λ d p. both_ways (has x (list_at ls d)) (free d) (are.owned x d p)) in
      put_in (node_at ns) _ es _ ls c x us vs are lt is here
      (written_here ns (last_or None us) (Some x) (first_or None vs) (Some x) x _ xn)
      (λ y ne. written ns (last_or None us) (Some x) (first_or None vs) (Some x) x _ y room.before room.after ne)
      (ends_written es c us (x ∷ []) [] vs room.list (both_ends (ends_at es c) _ _ list.head list.tail))

  pub cut_out : AreLists (node_at ns) es ls → c < length ls → list_at ls c ≡ us ++ x ∷ vs
      → AreLists (node_at (with_node (with_prev (with_next ns (last_or None us) (first_or None vs)) (first_or None vs) (last_or None us)) x unlinked))
      (with_tail (with_head es c (last_or None us) (first_or None vs)) c (first_or None vs) (last_or None us)) (set ls c (us ++ vs))
  cut_out are lt is =
      let room : HaveRoom ns es c (last_or None us) (first_or None vs) = room_out are lt is _ _ refl refl in
      let list : IsList (node_at ns) (ends_at es c) c (us ++ x ∷ vs) = rw is at (are.each c lt) in
      let sx : IsSegment (node_at ns) c (last_or None us) (x ∷ vs) None = segment_right (node_at ns) c None us (x ∷ vs) None list.chain in
      let xn : x < length ns = in_table ns x c (ap (λ (n : Node). n.parent) sx.0) in
      take_out (node_at ns) _ es _ ls c x us vs are lt is
      (ap (λ (n : Node). n.parent) (written_here ns (last_or None us) (first_or None vs) (first_or None vs) (last_or None us) x unlinked xn))
      (λ y ne. written ns (last_or None us) (first_or None vs) (first_or None vs) (last_or None us) x unlinked y room.before room.after ne)
      (ends_written es c us [] (x ∷ []) vs room.list (both_ends (ends_at es c) _ _ list.head list.tail))

-- an edit that leaves each list as it is
map_none : (f : List ℕ → List ℕ) (ls : List (List ℕ)) → ((d : ℕ) → f (list_at ls d) ≡ list_at ls d) → map f ls ≡ ls
map_none f [] same = refl
map_none f (l ∷ ls) same = rw (same 0) (ap (λ t. l ∷ t) (map_none f ls (λ d. same (suc d))))

-- an edit that leaves each list but one as it is
map_one : (f : List ℕ → List ℕ) (ls : List (List ℕ)) (c : ℕ) → c < length ls → ((d : ℕ) → d ≢ c → f (list_at ls d) ≡ list_at ls d) → map f ls ≡ set ls c (f (list_at ls c))
map_one f [] c lt same = absurd (omega arith)
map_one f (l ∷ ls) zero lt same = ap (λ t. f l ∷ t) (map_none f ls (λ d. same (suc d) (λ e. omega arith)))
map_one f (l ∷ ls) (suc c) lt same = rw (same 0 (λ e. omega arith)) (ap (λ t. l ∷ t) (map_one f ls c (omega arith) (λ d ne. same (suc d) (λ e. ne (omega arith)))))

put_after_none : (m x : ℕ) (xs : List ℕ) → has m xs ≡ false → put_after m x xs ≡ xs
put_after_none m x [] h = refl
put_after_none m x (y ∷ ys) h = let p : (eqb m y ≡ false) × (has m ys ≡ false) = or_parts _ _ h in rw p.0 (ap (λ t. y ∷ t) (put_after_none m x ys p.1))

put_after_at : (m x : ℕ) (us vs : List ℕ) → has m us ≡ false → put_after m x (us ++ m ∷ vs) ≡ us ++ m ∷ x ∷ vs
put_after_at m x [] vs h = let p : eqb m m ≡ true = eq-eqb m m refl in rw p refl
put_after_at m x (y ∷ us) vs h = let p : (eqb m y ≡ false) × (has m us ≡ false) = or_parts _ _ h in rw p.0 (ap (λ t. y ∷ t) (put_after_at m x us vs p.1))

put_before_none : (m x : ℕ) (xs : List ℕ) → has m xs ≡ false → put_before m x xs ≡ xs
put_before_none m x [] h = refl
put_before_none m x (y ∷ ys) h = let p : (eqb m y ≡ false) × (has m ys ≡ false) = or_parts _ _ h in rw p.0 (ap (λ t. y ∷ t) (put_before_none m x ys p.1))

put_before_at : (m x : ℕ) (us vs : List ℕ) → has m us ≡ false → put_before m x (us ++ m ∷ vs) ≡ us ++ x ∷ m ∷ vs
put_before_at m x [] vs h = let p : eqb m m ≡ true = eq-eqb m m refl in rw p refl
put_before_at m x (y ∷ us) vs h = let p : (eqb m y ≡ false) × (has m us ≡ false) = or_parts _ _ h in rw p.0 (ap (λ t. y ∷ t) (put_before_at m x us vs p.1))

pub prev_from_at : (p : Option ℕ) (x : ℕ) (us vs : List ℕ) → has x us ≡ false → prev_from p x (us ++ x ∷ vs) ≡ last_or p us
prev_from_at p x [] vs h = rw (eq-eqb x x refl) refl
prev_from_at p x (y ∷ us) vs h = let q : (eqb x y ≡ false) × (has x us ≡ false) = or_parts _ _ h in rw q.0 (prev_from_at (Some y) x us vs q.1)

without_none : (x : ℕ) (xs : List ℕ) → has x xs ≡ false → without x xs ≡ xs
without_none x [] h = refl
without_none x (y ∷ ys) h = let p : (eqb x y ≡ false) × (has x ys ≡ false) = or_parts _ _ h in rw p.0 (ap (λ t. y ∷ t) (without_none x ys p.1))

without_at : (x : ℕ) (us vs : List ℕ) → has x us ≡ false → without x (us ++ x ∷ vs) ≡ us ++ vs
without_at x [] vs h = let p : eqb x x ≡ true = eq-eqb x x refl in rw p refl
without_at x (y ∷ us) vs h = let p : (eqb x y ≡ false) × (has x us ≡ false) = or_parts _ _ h in rw p.0 (ap (λ t. y ∷ t) (without_at x us vs p.1))

list_at-map : (f : List ℕ → List ℕ) (ls : List (List ℕ)) (d : ℕ) → f [] ≡ [] → list_at (map f ls) d ≡ f (list_at ls d)
list_at-map f [] d e = sym e
list_at-map f (l ∷ ls) zero e = refl
list_at-map f (l ∷ ls) (suc d) e = list_at-map f ls d e

has_without : (x i : ℕ) (xs : List ℕ) → has i (without x xs) ≡ true → has i xs ≡ true
has_without x i [] h = h
has_without x i (y ∷ ys) h = without_cases (eqb x y) (has_without x i ys) h where
  without_cases : (b : Bool) → (has i (without x ys) ≡ true → has i ys ≡ true) → has i (cond b ys (y ∷ without x ys)) ≡ true → has i (y ∷ ys) ≡ true
  without_cases true rest h = or_right (eqb i y) (has i ys) h
  without_cases false rest h = ⊎_elim
      (λ a. or_left (eqb i y) (has i ys) a)
      (λ a. or_right (eqb i y) (has i ys) (rest a))
      (or_cases (eqb i y) (has i (without x ys)) h)

-- a node that stands once is gone when it is taken out
gone_twice : (m : ℕ) (us vs : List ℕ) → AreDistinctNumbers (us ++ m ∷ vs) → has m us ≡ false → has m (us ++ vs) ≡ true → ⊥
gone_twice m us vs d f h = ⊎_elim
    (λ a. both_ways (has m us) f a)
    (λ a. both_ways (has m vs) (distinct_right us (m ∷ vs) d).0 a)
    (or_cases (has m us) (has m vs) (sym (has-append m us vs) ∙ h))

-- a node stands in one list
pub in_one : (at : ℕ → Node) (es : List Ends) (ls : List (List ℕ)) (c d x : ℕ) → AreLists at es ls → (at x).parent ≡ Some c → d ≢ c → has x (list_at ls d) ≡ false
in_one at es ls c d x are p ne = false_from_ne_true _ (λ h.
    let s : Stands at ls d x = stands at es ls d x are h in
    let two : Some d ≡ Some c = sym (ap (λ (n : Node). n.parent) s.node) ∙ p in ne (cc))

-- the edits as the code makes them
pub after_mark : (ns : List Node) (es : List Ends) (ls : List (List ℕ)) (c m x : ℕ) → AreLists (node_at ns) es ls → (node_at ns m).parent ≡ Some c → IsUnlinked ls x → x < length ns
    → AreLists (node_at (with_node (with_prev (with_next ns (Some m) (Some x)) (node_at ns m).next (Some x)) x (record { parent = Some c; prev = Some m; next = (node_at ns m).next })))
    (with_tail (with_head es c (Some m) (Some x)) c (node_at ns m).next (Some x)) (map (put_after m x) ls)
after_mark ns es ls c m x are p free xn =
    let s : Stands (node_at ns) ls c m = stands (node_at ns) es ls c m are (are.owned m c p) in
    let l : last_or None (s.us ++ m ∷ []) ≡ Some m = last_or-append None s.us (m ∷ []) in
    let n : (node_at ns m).next ≡ first_or None s.vs = ap (λ (n : Node). n.next) s.node in
    let both : list_at ls c ≡ (s.us ++ m ∷ []) ++ s.vs = s.is ∙ sym (append_assoc s.us (m ∷ []) s.vs) in
    let done : put_after m x (list_at ls c) ≡ (s.us ++ m ∷ []) ++ x ∷ s.vs = rw s.is (put_after_at m x s.us s.vs s.first) ∙ sym (append_assoc s.us (m ∷ []) (x ∷ s.vs)) in
    let all : map (put_after m x) ls ≡ set ls c ((s.us ++ m ∷ []) ++ x ∷ s.vs) = map_one (put_after m x) ls c s.within (λ d ne. put_after_none m x (list_at ls d) (in_one (node_at ns) es ls c d m are p ne)) ∙ ap (set ls c) done in
    subst
    (λ (o : Option ℕ). AreLists (node_at (with_node (with_prev (with_next ns o (Some x)) (node_at ns m).next (Some x)) x (record { parent = Some c; prev = o; next = (node_at ns m).next })))
    (with_tail (with_head es c o (Some x)) c (node_at ns m).next (Some x)) (map (put_after m x) ls))
    l (rw (all, n) (linked_in ns es ls c x (s.us ++ m ∷ []) s.vs are s.within both free xn))

pub before_mark : (ns : List Node) (es : List Ends) (ls : List (List ℕ)) (c m x : ℕ) → AreLists (node_at ns) es ls → (node_at ns m).parent ≡ Some c → IsUnlinked ls x → x < length ns
    → AreLists (node_at (with_node (with_prev (with_next ns (node_at ns m).prev (Some x)) (Some m) (Some x)) x (record { parent = Some c; prev = (node_at ns m).prev; next = Some m })))
    (with_tail (with_head es c (node_at ns m).prev (Some x)) c (Some m) (Some x)) (map (put_before m x) ls)
before_mark ns es ls c m x are p free xn =
    let s : Stands (node_at ns) ls c m = stands (node_at ns) es ls c m are (are.owned m c p) in
    let n : (node_at ns m).prev ≡ last_or None s.us = ap (λ (n : Node). n.prev) s.node in
    let done : put_before m x (list_at ls c) ≡ s.us ++ x ∷ m ∷ s.vs = rw s.is (put_before_at m x s.us s.vs s.first) in
    let all : map (put_before m x) ls ≡ set ls c (s.us ++ x ∷ m ∷ s.vs) = map_one (put_before m x) ls c s.within (λ d ne. put_before_none m x (list_at ls d) (in_one (node_at ns) es ls c d m are p ne)) ∙ ap (set ls c) done in
    rw (all, n) (linked_in ns es ls c x s.us (m ∷ s.vs) are s.within s.is free xn)

pub from_list : (ns : List Node) (es : List Ends) (ls : List (List ℕ)) (c x : ℕ) → AreLists (node_at ns) es ls → (node_at ns x).parent ≡ Some c
    → AreLists (node_at (with_node (with_prev (with_next ns (node_at ns x).prev (node_at ns x).next) (node_at ns x).next (node_at ns x).prev) x unlinked))
    (with_tail (with_head es c (node_at ns x).prev (node_at ns x).next) c (node_at ns x).next (node_at ns x).prev) (map (without x) ls)
from_list ns es ls c x are p =
    let s : Stands (node_at ns) ls c x = stands (node_at ns) es ls c x are (are.owned x c p) in
    let done : without x (list_at ls c) ≡ s.us ++ s.vs = rw s.is (without_at x s.us s.vs s.first) in
    let all : map (without x) ls ≡ set ls c (s.us ++ s.vs) = map_one (without x) ls c s.within (λ d ne. without_none x (list_at ls d) (in_one (node_at ns) es ls c d x are p ne)) ∙ ap (set ls c) done in
    rw (all, s.node) (cut_out ns es ls c x s.us s.vs are s.within s.is)

pub at_front : (ns : List Node) (es : List Ends) (ls : List (List ℕ)) (c x : ℕ) → AreLists (node_at ns) es ls → c < length ls → IsUnlinked ls x → x < length ns
    → AreLists (node_at (with_node (with_prev ns (ends_at es c).head (Some x)) x (record { parent = Some c; prev = None; next = (ends_at es c).head })))
    (with_tail (with_head es c None (Some x)) c (ends_at es c).head (Some x)) (set ls c (x ∷ list_at ls c))
at_front ns es ls c x are lt free xn = rw ((are.each c lt).head) (linked_in ns es ls c x [] (list_at ls c) are lt refl free xn)

last_or_past : (k : ℕ) → get_or (unlinked ∷ []) k unlinked ≡ unlinked
last_or_past zero = refl
last_or_past (suc k) = refl

last_list : (k : ℕ) → list_at ([] ∷ []) k ≡ []
last_list zero = refl
last_list (suc k) = refl

last_ends : (k : ℕ) → ends_at (no_ends ∷ []) k ≡ no_ends
last_ends zero = refl
last_ends (suc k) = refl

pub at_back : (ns : List Node) (es : List Ends) (ls : List (List ℕ)) (c x : ℕ) → AreLists (node_at ns) es ls → c < length ls → IsUnlinked ls x → x < length ns
    → AreLists (node_at (with_node (with_next ns (ends_at es c).tail (Some x)) x (record { parent = Some c; prev = (ends_at es c).tail; next = None })))
    (with_tail (with_head es c (ends_at es c).tail (Some x)) c None (Some x)) (set ls c (list_at ls c ++ x ∷ []))
at_back ns es ls c x are lt free xn = rw ((are.each c lt).tail) (linked_in ns es ls c x (list_at ls c) [] are lt (sym (append-nil (list_at ls c))) free xn)

-- a member of a list is in the table
pub member_in : (ns : List Node) (es : List Ends) (ls : List (List ℕ)) (c x : ℕ) → AreLists (node_at ns) es ls → has x (list_at ls c) ≡ true → x < length ns
member_in ns es ls c x are h = in_table ns x c (ap (λ (n : Node). n.parent) (stands (node_at ns) es ls c x are h).node)

-- the table with one node more
pub one_more : (ns : List Node) (es : List Ends) (ls : List (List ℕ)) → AreLists (node_at ns) es ls → AreLists (node_at (ns ++ unlinked ∷ [])) es ls
one_more ns es ls are =
    let same : (y : ℕ) → node_at ns y ≡ node_at (ns ++ unlinked ∷ []) y = λ y. ⊎_elim
    (λ h. sym (get_or_append_left ns (unlinked ∷ []) unlinked y h))
    (λ h. get_or_past ns y unlinked h ∙ sym (get_or-append_right ns (unlinked ∷ []) (length ns) y unlinked refl h ∙ last_or_past (y - length ns)))
    (cases_lt y (length ns)) in
    let all : node_at ns ≡ node_at (ns ++ unlinked ∷ []) = λ i y. same y i in
    subst (λ (at : ℕ → Node). AreLists at es ls) all are

-- the lists with one more, which is empty
pub one_empty : (at : ℕ → Node) (es : List Ends) (ls : List (List ℕ)) → AreLists at es ls → AreLists at (es ++ no_ends ∷ []) (ls ++ [] ∷ [])
one_empty at es ls are = record {
  count = rw (length-append, length-append) (omega (arith, are.count));
  each = λ c lt. ⊎_elim
      (λ h.
      let h' : c < length es = omega (arith, are.count) in
      rw (get_or_append_left ls ([] ∷ []) [] c h, get_or_append_left es (no_ends ∷ []) no_ends c h') (are.each c h))
      (λ h.
      let h' : length es ≤ c = omega (arith, are.count) in
      rw (get_or-append_right ls ([] ∷ []) (length ls) c [] refl h, get_or-append_right es (no_ends ∷ []) (length es) c no_ends refl h', last_list (c - length ls), last_ends (c - length es))
      (record { head = refl; tail = refl; chain = tt; distinct = tt }))
      (cases_lt c (length ls));
  owned = λ x c p. ⊎_elim
      (λ h. rw (get_or_append_left ls ([] ∷ []) [] c h) (are.owned x c p))
      (λ h. absurd (both_ways false refl (rw (get_or_past ls c [] h) at (are.owned x c p))))
      (cases_lt c (length ls));
}

pub on_err_from : {T E P : Type 0} (r : Result T E) → P → OnErr r P
on_err_from (Ok x) p = tt
on_err_from (Err e) p = p

pub maybe_more : (b : Bool) (ns new : List Node) (es : List Ends) (ls : List (List ℕ)) → new ≡ cond b (ns ++ unlinked ∷ []) ns → AreLists (node_at ns) es ls → AreLists (node_at new) es ls
maybe_more true ns new es ls is are = rw is (one_more ns es ls are)
maybe_more false ns new es ls is are = rw is are

pub maybe_empty : (b : Bool) (at : ℕ → Node) (es new : List Ends) (ls : List (List ℕ)) → new ≡ cond b (es ++ no_ends ∷ []) es → AreLists at es ls → AreLists at new (cond b (ls ++ [] ∷ []) ls)
maybe_empty true at es new ls is are = rw is (one_empty at es ls are)
maybe_empty false at es new ls is are = rw is are

pub next_in_at : (x : ℕ) (us vs : List ℕ) → has x us ≡ false → next_in x (us ++ x ∷ vs) ≡ first_or None vs
next_in_at x [] vs h = rw (eq-eqb x x refl) refl
next_in_at x (y ∷ us) vs h = let p : (eqb x y ≡ false) × (has x us ≡ false) = or_parts _ _ h in rw p.0 (next_in_at x us vs p.1)

-- What an answer has at hand: the fields and the value, the node that was read, and what the writes left
module _ (s : Inside) (v : ListsView) (seen : the_view s ≡ v) where
  pub are_lists : AreLists (node_at s.nodes.items) s.ends.items v.lists
  are_lists = subst (λ (w : ListsView). AreLists (node_at s.nodes.items) s.ends.items w.lists) seen s.lists.1

  pub are_apart : AreApart v.lists
  are_apart x c d h k =
      let a : Stands (node_at s.nodes.items) v.lists c x = stands (node_at s.nodes.items) s.ends.items v.lists c x are_lists h in
      let b : Stands (node_at s.nodes.items) v.lists d x = stands (node_at s.nodes.items) s.ends.items v.lists d x are_lists k in
      let two : Some c ≡ Some d = ap (λ (n : Node). n.parent) (sym a.node ∙ b.node) in
      cc

  pub nodes_are : length s.nodes.items ≡ v.nodes
  nodes_are = ap (λ (w : ListsView). w.nodes) seen

  -- the same links are the same lists
  pub seen_alike : (ns : List Node) (es : List Ends) (ls : List (List ℕ)) → AreLists (node_at ns) es ls → ns ≡ s.nodes.items → es ≡ s.ends.items → record { lists = ls; nodes = length ns } ≡ v
  seen_alike ns es ls are ni ei =
      let same : ls ≡ v.lists = lists_one (node_at s.nodes.items) s.ends.items ls v.lists (rw (← ni, ← ei) are) are_lists in
      rw (same, ni, nodes_are) refl

  module _ (m : ℕ) (n : Node) (lt : m < v.nodes) (read : n ≡ get_or s.nodes.items m n) where
    pub node_is : n ≡ node_at s.nodes.items m
    node_is = read ∙ get_or_default s.nodes.items m n unlinked (rw nodes_are lt)

    pub stands_in : (c : ℕ) → n.parent ≡ Some c → Stands (node_at s.nodes.items) v.lists c m
    stands_in c p = stands (node_at s.nodes.items) s.ends.items v.lists c m are_lists (are_lists.owned m c (rw (← node_is) p))

    pub room_at : (c : ℕ) → n.parent ≡ Some c → HaveRoom s.nodes.items s.ends.items c n.prev n.next
    room_at c p =
        let t : Stands (node_at s.nodes.items) v.lists c m = stands_in c p in
        room_out s.nodes.items s.ends.items v.lists c m t.us t.vs are_lists t.within t.is n.prev n.next
        (ap (λ (k : Node). k.prev) (node_is ∙ t.node)) (ap (λ (k : Node). k.next) (node_is ∙ t.node))

    pub no_parent : ((c : ℕ) × (has m (list_at v.lists c) ≡ true)) → ((c : ℕ) → n.parent ≡ Some c → ⊥) → ⊥
    no_parent l none =
        let t : Stands (node_at s.nodes.items) v.lists l.0 m = stands (node_at s.nodes.items) s.ends.items v.lists l.0 m are_lists l.1 in
        none l.0 (ap (λ (k : Node). k.parent) (node_is ∙ t.node))

    pub put_after_is : (c x : ℕ) (ns : List Node) (es : List Ends) → n.parent ≡ Some c → IsUnlinked v.lists x → x < v.nodes
        → ns ≡ with_node (with_prev (with_next s.nodes.items (Some m) (Some x)) n.next (Some x)) x (record { parent = Some c; prev = Some m; next = n.next })
        → es ≡ with_tail (with_head s.ends.items c (Some m) (Some x)) c n.next (Some x)
        → AreLists (node_at ns) es (map (put_after m x) v.lists)
    put_after_is c x ns es p free xn ni ei =
        rw (ni, ei, node_is) (after_mark s.nodes.items s.ends.items v.lists c m x are_lists (rw (← node_is) p) free (rw nodes_are xn))

    pub put_before_is : (c x : ℕ) (ns : List Node) (es : List Ends) → n.parent ≡ Some c → IsUnlinked v.lists x → x < v.nodes
        → ns ≡ with_node (with_prev (with_next s.nodes.items n.prev (Some x)) (Some m) (Some x)) x (record { parent = Some c; prev = n.prev; next = Some m })
        → es ≡ with_tail (with_head s.ends.items c n.prev (Some x)) c (Some m) (Some x)
        → AreLists (node_at ns) es (map (put_before m x) v.lists)
    put_before_is c x ns es p free xn ni ei =
        rw (ni, ei, node_is) (before_mark s.nodes.items s.ends.items v.lists c m x are_lists (rw (← node_is) p) free (rw nodes_are xn))

    pub prev_is : (d : ℕ) → has m (list_at v.lists d) ≡ true → n.prev ≡ prev_in m (list_at v.lists d)
    prev_is d h =
        let t : Stands (node_at s.nodes.items) v.lists d m = stands (node_at s.nodes.items) s.ends.items v.lists d m are_lists h in
        ap (λ (k : Node). k.prev) (node_is ∙ t.node) ∙ sym (rw t.is (prev_from_at None m t.us t.vs t.first))

    pub without_is : (c : ℕ) (ns : List Node) (es : List Ends) → n.parent ≡ Some c
        → ns ≡ with_node (with_prev (with_next s.nodes.items n.prev n.next) n.next n.prev) m unlinked
        → es ≡ with_tail (with_head s.ends.items c n.prev n.next) c n.next n.prev
        → AreLists (node_at ns) es (map (without m) v.lists)
    without_is c ns es p ni ei =
        rw (ni, ei, node_is) (from_list s.nodes.items s.ends.items v.lists c m are_lists (rw (← node_is) p))

    pub set_without : (c : ℕ) → n.parent ≡ Some c → (d : ℕ) → has m (list_at v.lists d) ≡ true → map (without m) v.lists ≡ set v.lists d (without m (list_at v.lists d))
    set_without c p d h =
        let t : Stands (node_at s.nodes.items) v.lists d m = stands (node_at s.nodes.items) s.ends.items v.lists d m are_lists h in
        map_one (without m) v.lists d t.within (λ k ne. without_none m (list_at v.lists k) (in_one (node_at s.nodes.items) s.ends.items v.lists d k m are_lists (ap (λ (k : Node). k.parent) t.node) ne))

    pub out_of_all : (d : ℕ) → has m (list_at (map (without m) v.lists) d) ≡ false
    out_of_all d = rw (list_at-map (without m) v.lists d refl) (false_from_ne_true _ (λ h.
        let was : has m (list_at v.lists d) ≡ true = has_without m m (list_at v.lists d) h in
        let t : Stands (node_at s.nodes.items) v.lists d m = stands (node_at s.nodes.items) s.ends.items v.lists d m are_lists was in
        let distinct : AreDistinctNumbers (t.us ++ m ∷ t.vs) = rw t.is at ((are_lists.each d t.within).distinct) in
        gone_twice m t.us t.vs distinct t.first (rw (← without_at m t.us t.vs t.first, ← t.is) h)))

    pub not_linked : IsNone n.parent → IsUnlinked v.lists m
    not_linked none d = false_from_ne_true _ (λ h.
        let t : Stands (node_at s.nodes.items) v.lists d m = stands (node_at s.nodes.items) s.ends.items v.lists d m are_lists h in
        some_is_not_none n.parent d none (ap (λ (k : Node). k.parent) (node_is ∙ t.node)))

    pub next_is : (d : ℕ) → has m (list_at v.lists d) ≡ true → n.next ≡ next_in m (list_at v.lists d)
    next_is d h =
        let t : Stands (node_at s.nodes.items) v.lists d m = stands (node_at s.nodes.items) s.ends.items v.lists d m are_lists h in
        ap (λ (k : Node). k.next) (node_is ∙ t.node) ∙ sym (rw t.is (next_in_at m t.us t.vs t.first))

  module _ (c : ℕ) (e : Ends) (lt : c < length v.lists) (read : e ≡ get_or s.ends.items c e) where
    pub ends_is : e ≡ ends_at s.ends.items c
    ends_is = read ∙ get_or_default s.ends.items c e no_ends (omega (arith, are_lists.count))

    pub head_is : e.head ≡ first_or None (list_at v.lists c)
    head_is = ap (λ (k : Ends). k.head) ends_is ∙ (are_lists.each c lt).head

    pub tail_is : e.tail ≡ last_or None (list_at v.lists c)
    tail_is = ap (λ (k : Ends). k.tail) ends_is ∙ (are_lists.each c lt).tail

    pub room_back : HaveRoom s.nodes.items s.ends.items c e.tail None
    room_back = room_in s.nodes.items s.ends.items v.lists c 0 (list_at v.lists c) [] are_lists lt (sym (append-nil (list_at v.lists c))) e.tail None tail_is refl

    pub back_is : (x : ℕ) (ns : List Node) (es : List Ends) → IsUnlinked v.lists x → x < v.nodes
        → ns ≡ with_node (with_next s.nodes.items e.tail (Some x)) x (record { parent = Some c; prev = e.tail; next = None })
        → es ≡ with_tail (with_head s.ends.items c e.tail (Some x)) c None (Some x)
        → AreLists (node_at ns) es (set v.lists c (list_at v.lists c ++ x ∷ []))
    back_is x ns es free xn ni ei =
        rw (ni, ei, ends_is) (at_back s.nodes.items s.ends.items v.lists c x are_lists lt free (rw nodes_are xn))

    pub room_front : HaveRoom s.nodes.items s.ends.items c None e.head
    room_front = room_in s.nodes.items s.ends.items v.lists c 0 [] (list_at v.lists c) are_lists lt refl None e.head refl head_is

    pub front_is : (x : ℕ) (ns : List Node) (es : List Ends) → IsUnlinked v.lists x → x < v.nodes
        → ns ≡ with_node (with_prev (with_next s.nodes.items None (Some x)) e.head (Some x)) x (record { parent = Some c; prev = None; next = e.head })
        → es ≡ with_tail (with_head s.ends.items c None (Some x)) c e.head (Some x)
        → AreLists (node_at ns) es (set v.lists c (x ∷ list_at v.lists c))
    front_is x ns es free xn ni ei =
        rw (ni, ei, ends_is) (at_front s.nodes.items s.ends.items v.lists c x are_lists lt free (rw nodes_are xn))

    pub first_below : IfSome e.head (λ i. i < v.nodes)
    first_below = rw (← nodes_are) ((room_front).after)
