-- The descendants of a node in a depth-first search, by paths and by the times at which nodes are seen and left.
use Rattle.std.proofs.Common.{◌≡◌, ◌⊎◌, inl, inr, ⊎_elim, ℕ, ◌≤◌, List, [], ◌∷◌, ◌++◌, Some, length, sym, ap, ◌∙◌, subst, arith}
use Rattle.std.specs.Prelude.{Contains, slice_get}
use Rattle.std.proofs.lemmas.Bool.{cases_lt, cases_eq}
use Rattle.std.proofs.lemmas.List.{append_assoc, append-nil, length-append}
use Rattle.std.proofs.lemmas.List.Elements.{Contains-append_left, Contains-append_right, Contains-push, Contains-push_cases}
use Rattle.std.proofs.lemmas.Option.{slice_get_within, same_Some}
use Rattle.digraph.specs.Visits.{Traversal, empty, see, leave, Visits, Nothing, Passes, Enters}
use Rattle.digraph.proofs.Visiting.{left_grows}
use Rattle.ir_graph.specs.EdgeKinds.{LeadsPast, Begin, Go, Descends}
use Rattle.ir_graph.specs.Graphs.{AreDistinctNodes}
use Rattle.ir_graph.proofs.Numbers.{first, first_or}
use Rattle.ir_graph.proofs.Places.{place_of, stands_in, get_front, get_back, get_mid, same_front, distinct_push, distinct_none}

module _ {X : Type 0} (next : X → List X) where
  -- what was seen stays seen, in its order
  pub seen_grows : {o q : Traversal X} {ns : List X} → Visits next o ns q → (more : List X) × (q.seen ≡ o.seen ++ more)
  seen_grows {o = o} Nothing = ([], sym (append-nil o.seen))
  seen_grows (Passes c v) = seen_grows v
  seen_grows (Enters {o = o} {n = n} f v w) = let a = seen_grows v in let b = seen_grows w in
      ((n ∷ []) ++ a.0 ++ b.0, b.1 ∙ ap (λ xs. xs ++ b.0) a.1 ∙ simp append_assoc)

  stays_seen : {o q : Traversal X} {ns : List X} → Visits next o ns q → (x : X) → Contains o.seen x → Contains q.seen x
  stays_seen {o = o} v x c = let g = seen_grows v in subst (λ xs. Contains xs x) (sym g.1) (Contains-append_left o.seen g.0 x c)

  -- all that is visited is seen
  all_seen : {o q : Traversal X} {ns : List X} → Visits next o ns q → (x : X) → Contains ns x → Contains q.seen x
  all_seen Nothing x c = absurd (omega (arith, c.1))
  all_seen (Passes {o = o} {n = n} {ns = ns} h v) x c = ⊎_elim (λ e. stays_seen v x (subst (Contains o.seen) e h)) (λ d. all_seen v x d) (first_or n ns x c)
  all_seen (Enters {o = o} {p = p} {n = n} {ns = ns} f v w) x c = ⊎_elim (λ e. stays_seen w x (stays_seen v x (subst (Contains (o.seen ++ n ∷ [])) e (Contains-push o.seen n)))) (λ d. all_seen w x d) (first_or n ns x c)

  -- what is left was seen
  abbrev Within : Traversal X → Type 0
  Within o = (x : X) → Contains o.left x → Contains o.seen x

  within_see : (o : Traversal X) (n : X) → Within o → Within (see n o)
  within_see o n h x c = Contains-append_left o.seen (n ∷ []) x (h x c)

  within_leave : (p : Traversal X) (n : X) → Within p → Contains p.seen n → Within (leave n p)
  within_leave p n h s x c = ⊎_elim (λ a. h x a) (λ e. subst (Contains p.seen) e s) (Contains-push_cases p.left n x c)

  pub within_on : {o q : Traversal X} {ns : List X} → Visits next o ns q → Within o → Within q
  within_on Nothing h = h
  within_on (Passes c v) h = within_on v h
  within_on (Enters {o = o} {p = p} {n = n} f v w) h = within_on w (within_leave p n (within_on v (within_see o n h)) (stays_seen v n (Contains-push o.seen n)))

  -- an open node is not left
  stays_open : {o q : Traversal X} {ns : List X} → Visits next o ns q → (x : X) → Contains o.seen x → Contains q.left x → Contains o.left x
  stays_open Nothing x s l = l
  stays_open (Passes c v) x s l = stays_open v x s l
  stays_open (Enters {o = o} {p = p} {n = n} f v w) x s l =
      let t = Contains-append_left o.seen (n ∷ []) x s in
      ⊎_elim (λ a. stays_open v x t a) (λ e. absurd (f (subst (Contains o.seen) (sym e) s))) (Contains-push_cases p.left n x (stays_open w x (stays_seen v x t) l))

  -- each node is seen once and left once
  pub seen_once : {o q : Traversal X} {ns : List X} → Visits next o ns q → AreDistinctNodes o.seen → AreDistinctNodes q.seen
  seen_once Nothing d = d
  seen_once (Passes c v) d = seen_once v d
  seen_once (Enters {o = o} {n = n} f v w) d = seen_once w (seen_once v (distinct_push o.seen n d f))

  pub left_once : {o q : Traversal X} {ns : List X} → Visits next o ns q → Within o → AreDistinctNodes o.left → AreDistinctNodes q.left
  left_once Nothing h d = d
  left_once (Passes c v) h d = left_once v h d
  left_once (Enters {o = o} {p = p} {n = n} f v w) h d =
      left_once w (within_leave p n (within_on v (within_see o n h)) (stays_seen v n (Contains-push o.seen n)))
      (distinct_push p.left n (left_once v (within_see o n h) d) (λ c. f (h n (stays_open v n (Contains-push o.seen n) c))))

  -- The visit of the node that is seen at a place.
  pub record Opened (q : Traversal X) (i : ℕ) (a : X) : Type 0 where
    pub before : Traversal X
    pub inside : Traversal X
    pub at : length before.seen ≡ i
    pub fresh : Contains before.seen a → ⊥
    pub within : Within before
    pub visit : Visits next (see a before) (next a) inside
    pub seen_more : List X
    pub seen_is : q.seen ≡ inside.seen ++ seen_more
    pub left_more : List X
    pub left_is : q.left ≡ inside.left ++ a ∷ left_more

  -- where a node that is seen at a place behind some was seen
  later : (os ms : List X) (n a : X) (i : ℕ) → length os ≤ i → slice_get ((os ++ n ∷ []) ++ ms) i ≡ Some a → ((i ≡ length os) × (n ≡ a)) ⊎ (length (os ++ n ∷ []) ≤ i)
  later os ms n a i h e = ⊎_elim
      (λ q. let s : slice_get (os ++ n ∷ ms) i ≡ Some a = subst (λ xs. slice_get xs i ≡ Some a) (append_assoc os (n ∷ []) ms) e in
      inl (q, same_Some n a (sym (get_mid os ms n) ∙ subst (λ k. slice_get (os ++ n ∷ ms) k ≡ Some a) q s)))
      (λ q. inr (let l = length-append os (n ∷ []) in omega (arith, l, h, q)))
      (cases_eq i (length os))

  pub opened : {o q : Traversal X} {ns : List X} → Visits next o ns q → Within o → (i : ℕ) (a : X) → length o.seen ≤ i → slice_get q.seen i ≡ Some a → Opened q i a
  opened {o = o} Nothing h i a l e = absurd (let w = slice_get_within o.seen i a e in omega (arith, w, l))
  opened (Passes c v) h i a l e = opened v h i a l e
  opened (Enters {o = o} {p = p} {q = q} {n = n} f v w) h i a l e =
      let g = seen_grows v in
      let k = seen_grows w in
      let z = left_grows next w in
      ⊎_elim
      (λ s. let b = get_back p.seen k.0 i a s (subst (λ xs. slice_get xs i ≡ Some a) k.1 e) in
      ⊎_elim
      (λ t. let at_a = t.1 in record {
        before = o;
        inside = p;
        at = sym t.0;
        fresh = subst (λ x. Contains o.seen x → ⊥) at_a f;
        within = h;
        visit = subst (λ x. Visits next (see x o) (next x) p) at_a v;
        seen_more = k.0;
        seen_is = k.1;
        left_more = z.0;
        left_is = z.1 ∙ append_assoc p.left (n ∷ []) z.0 ∙ ap (λ x. p.left ++ x ∷ z.0) at_a;
      })
      (λ t. wider n (opened v (within_see o n h) i a t b) k.0 k.1 z.0 z.1)
      (later o.seen g.0 n a i l (subst (λ xs. slice_get xs i ≡ Some a) g.1 b)))
      (λ s. opened w (within_leave p n (within_on v (within_see o n h)) (stays_seen v n (Contains-push o.seen n))) i a s e)
      (cases_lt i (length p.seen))
    where
      wider : {p q : Traversal X} {i : ℕ} {a : X} (n : X) → Opened p i a → (more : List X) → q.seen ≡ p.seen ++ more → (rest : List X) → q.left ≡ (p.left ++ n ∷ []) ++ rest → Opened q i a
      wider {a = a} n s more d rest e = record {
        before = s.before;
        inside = s.inside;
        at = s.at;
        fresh = s.fresh;
        within = s.within;
        visit = s.visit;
        seen_more = s.seen_more ++ more;
        seen_is = d ∙ ap (λ xs. xs ++ more) s.seen_is ∙ append_assoc s.inside.seen s.seen_more more;
        left_more = s.left_more ++ n ∷ rest;
        left_is = e ∙ ap (λ xs. (xs ++ n ∷ []) ++ rest) s.left_is ∙ simp append_assoc;
      }

  -- what is new after a visit was left in it
  new_left : {o q : Traversal X} {ns : List X} → Visits next o ns q → Within o → (i : ℕ) (x : X) → length o.seen ≤ i → slice_get q.seen i ≡ Some x → Contains q.left x
  new_left v h i x l e = let s = opened v h i x l e in subst (λ xs. Contains xs x) (sym s.left_is) (Contains-append_right s.inside.left (x ∷ s.left_more) x (first x s.left_more))

  pub search_seen_once : (roots : List X) (q : Traversal X) → Visits next empty roots q → AreDistinctNodes q.seen
  search_seen_once roots q v = seen_once v distinct_none

  pub search_left_once : (roots : List X) (q : Traversal X) → Visits next empty roots q → AreDistinctNodes q.left
  search_left_once roots q v = left_once v (λ y d. d) distinct_none

  -- all that is seen in a search is left
  pub all_left : (roots : List X) (q : Traversal X) → Visits next empty roots q → (x : X) → Contains q.seen x → Contains q.left x
  all_left roots q v x c = let p = place_of q.seen x c in new_left v (λ y d. d) p.0 x (omega arith) p.1

  -- the successors of what is new were seen
  new_closed : {o q : Traversal X} {ns : List X} → Visits next o ns q → Within o → (i : ℕ) (x m : X) → length o.seen ≤ i → slice_get q.seen i ≡ Some x → Contains (next x) m → Contains q.seen m
  new_closed v h i x m l e c = let s = opened v h i x l e in subst (λ xs. Contains xs m) (sym s.seen_is) (Contains-append_left s.inside.seen s.seen_more m (all_seen s.visit m c))

  -- paths past fewer nodes
  past_fewer : {few many : List X} {a b : X} → ((x : X) → Contains few x → Contains many x) → LeadsPast next many a b → LeadsPast next few a b
  past_fewer h (Begin f) = Begin (λ c. f (h _ c))
  past_fewer h (Go r c f) = Go (past_fewer h r) c (λ d. f (h _ d))

  from_before : {past : List X} {n m b : X} → (Contains past n → ⊥) → Contains (next n) m → LeadsPast next past m b → LeadsPast next past n b
  from_before f c (Begin g) = Go (Begin f) c g
  from_before f c (Go r d g) = Go (from_before f c r) d g

  end_past : {past : List X} {a b : X} → LeadsPast next past a b → Contains past b → ⊥
  end_past (Begin f) = f
  end_past (Go r c f) = f

  -- what is new after a visit was reached from a visited node past all that was seen before
  new_reached : {o q : Traversal X} {ns : List X} → Visits next o ns q → (i : ℕ) (x : X) → length o.seen ≤ i → slice_get q.seen i ≡ Some x → (m : X) × Contains ns m × LeadsPast next o.seen m x
  new_reached {o = o} Nothing i x l e = absurd (let w = slice_get_within o.seen i x e in omega (arith, w, l))
  new_reached (Passes {n = n} {ns = ns} c v) i x l e = let r = new_reached v i x l e in (r.0, Contains-append_right (n ∷ []) ns r.0 r.1, r.2)
  new_reached (Enters {o = o} {p = p} {q = q} {n = n} {ns = ns} f v w) i x l e =
      let g = seen_grows v in
      let k = seen_grows w in
      ⊎_elim
      (λ s. let b = get_back p.seen k.0 i x s (subst (λ xs. slice_get xs i ≡ Some x) k.1 e) in
      ⊎_elim
      (λ t. (n, first n ns, subst (λ y. LeadsPast next o.seen n y) t.1 (Begin f)))
      (λ t. let r = new_reached v i x t b in (n, first n ns, from_before f r.1 (past_fewer (λ y c. Contains-append_left o.seen (n ∷ []) y c) r.2)))
      (later o.seen g.0 n x i l (subst (λ xs. slice_get xs i ≡ Some x) g.1 b)))
      (λ s. let r = new_reached w i x s e in (r.0, Contains-append_right (n ∷ []) ns r.0 r.1, past_fewer (λ y c. stays_seen v y (Contains-append_left o.seen (n ∷ []) y c)) r.2))
      (cases_lt i (length p.seen))

  module _ (q : Traversal X) (i : ℕ) (a : X) (s : Opened q i a) where
    -- a member of what is seen inside is a itself, was seen before, or is new
    inside_cases : (b : X) → (Contains s.before.seen b → ⊥) → Contains s.inside.seen b → (a ≡ b) ⊎ ((j : ℕ) × (length (see a s.before).seen ≤ j) × (slice_get s.inside.seen j ≡ Some b))
    inside_cases b f c =
        let p = place_of s.inside.seen b c in
        let g = seen_grows s.visit in
        let e = subst (λ xs. slice_get xs p.0 ≡ Some b) g.1 p.1 in
        ⊎_elim
        (λ l. absurd (f (stands_in s.before.seen p.0 b (get_back s.before.seen (a ∷ g.0) p.0 b l (subst (λ xs. slice_get xs p.0 ≡ Some b) (append_assoc s.before.seen (a ∷ []) g.0) e)))))
        (λ l. ⊎_elim (λ t. inl t.1) (λ t. inr (p.0, t, p.1)) (later s.before.seen g.0 a b p.0 l e))
        (cases_lt p.0 (length s.before.seen))

    -- all that a white path leads to is seen inside
    white_seen : {b : X} → LeadsPast next s.before.seen a b → Contains s.inside.seen b
    white_seen (Begin f) = stays_seen s.visit a (Contains-push s.before.seen a)
    white_seen (Go {b = b} {c = m} r c f) = ⊎_elim
        (λ e. all_seen s.visit m (subst (λ y. Contains (next y) m) (sym e) c))
        (λ t. new_closed s.visit (within_see s.before a s.within) t.0 b m t.1 t.2 c)
        (inside_cases b (end_past r) (white_seen r))

    -- what is seen inside is reached by a white path
    seen_white : (j : ℕ) (b : X) → i ≤ j → slice_get s.inside.seen j ≡ Some b → LeadsPast next s.before.seen a b
    seen_white j b l e =
        let g = seen_grows s.visit in
        ⊎_elim
        (λ t. subst (λ y. LeadsPast next s.before.seen a y) t.1 (Begin s.fresh))
        (λ t. let r = new_reached s.visit j b t e in from_before s.fresh r.1 (past_fewer (λ y c. Contains-append_left s.before.seen (a ∷ []) y c) r.2))
        (later s.before.seen g.0 a b j (omega (arith, s.at, l)) (subst (λ xs. slice_get xs j ≡ Some b) g.1 e))

    module _ (seen_once' : AreDistinctNodes q.seen) (left_once' : AreDistinctNodes q.left) (j k l : ℕ) (b : X) (seen_b : slice_get q.seen j ≡ Some b) (left_a : slice_get q.left k ≡ Some a) (left_b : slice_get q.left l ≡ Some b) where
      left_at : k ≡ length s.inside.left
      left_at = left_once' k (length s.inside.left) a left_a (subst (λ xs. slice_get xs (length s.inside.left) ≡ Some a) (sym s.left_is) (get_mid s.inside.left s.left_more a))

      seen_at : (x : ℕ) → slice_get s.inside.seen x ≡ Some b → x ≡ j
      seen_at x e = seen_once' x j b (subst (λ xs. slice_get xs x ≡ Some b) (sym s.seen_is) (get_front s.inside.seen s.seen_more x b e)) seen_b

      split : q.seen ≡ s.before.seen ++ a ∷ ((seen_grows s.visit).0 ++ s.seen_more)
      split = let g = seen_grows s.visit in s.seen_is ∙ ap (λ xs. xs ++ s.seen_more) g.1 ∙ simp append_assoc

      seen_a : slice_get q.seen i ≡ Some a
      seen_a = let g = seen_grows s.visit in
          subst (λ x. slice_get q.seen x ≡ Some a) s.at (subst (λ xs. slice_get xs (length s.before.seen) ≡ Some a) (sym split) (get_mid s.before.seen (g.0 ++ s.seen_more) a))

      -- seen not before a and left not behind it
      pub by_times : i ≤ j → l ≤ k → Descends next q.seen a b
      by_times h h' =
          let g = seen_grows s.visit in (
            s.before.seen,
            g.0 ++ s.seen_more,
            split,
            ⊎_elim
                (λ z. let e = get_back s.inside.left (a ∷ s.left_more) l b z (subst (λ xs. slice_get xs l ≡ Some b) s.left_is left_b) in
                let p = place_of s.inside.seen b (within_on s.visit (within_see s.before a s.within) b (stands_in s.inside.left l b e)) in
                seen_white p.0 b (let y = seen_at p.0 p.1 in omega (arith, y, h)) p.1)
                (λ z. let y : l ≡ k = let t = left_at in omega (arith, z, h', t) in
                subst (λ x. LeadsPast next s.before.seen a x) (same_Some a b (sym left_a ∙ subst (λ x. slice_get q.left x ≡ Some b) y left_b)) (Begin s.fresh))
                (cases_lt l (length s.inside.left)),
          )

      pub times_of : Descends next q.seen a b → (i ≤ j) × (l ≤ k)
      times_of d =
          let same : d.0 ≡ s.before.seen = same_front d.0 s.before.seen (a ∷ d.1) (a ∷ ((seen_grows s.visit).0 ++ s.seen_more))
          (seen_once' (length d.0) i a (subst (λ xs. slice_get xs (length d.0) ≡ Some a) (sym d.2) (get_mid d.0 d.1 a)) seen_a ∙ sym s.at) (sym d.2 ∙ split) in
          let r = subst (λ xs. LeadsPast next xs a b) same d.3 in
          ⊎_elim
          (λ e. (let y : i ≡ j = seen_once' i j b (subst (λ x. slice_get q.seen i ≡ Some x) e seen_a) seen_b in omega (arith, y), let y : l ≡ k = left_once' l k b left_b (subst (λ x. slice_get q.left k ≡ Some x) e left_a) in omega (arith, y)))
          (λ t.
          let y = seen_at t.0 t.2 in
          let z = length-append s.before.seen (a ∷ []) in
          let c = place_of s.inside.left b (new_left s.visit (within_see s.before a s.within) t.0 b t.1 t.2) in
          let u : c.0 ≡ l = left_once' c.0 l b (subst (λ xs. slice_get xs c.0 ≡ Some b) (sym s.left_is) (get_front s.inside.left (a ∷ s.left_more) c.0 b c.1)) left_b in
          let v = slice_get_within s.inside.left c.0 b c.1 in
          let x = left_at in
          let w = t.1 in
          (omega (arith, y, z, w, s.at), omega (arith, u, v, x)))
          (inside_cases b (end_past r) (white_seen r))

-- In a search from the beginning, b descends from a exactly where it is not seen before a and not left behind it.
pub descends_by_times : {X : Type 0} (next : X → List X) (roots : List X) (q : Traversal X) → Visits next empty roots q → (a b : X) (i j k l : ℕ) → slice_get q.seen i ≡ Some a → slice_get q.seen j ≡ Some b → slice_get q.left k ≡ Some a → slice_get q.left l ≡ Some b
    → (i ≤ j → l ≤ k → Descends next q.seen a b) × (Descends next q.seen a b → (i ≤ j) × (l ≤ k))
descends_by_times next roots q v a b i j k l sa sb la lb =
    let none : (x : _) → Contains [] x → Contains [] x = λ x c. c in
    let s = opened next v none i a (omega arith) sa in
    (by_times next q i a s (seen_once next v distinct_none) (left_once next v none distinct_none) j k l b sb la lb, times_of next q i a s (seen_once next v distinct_none) (left_once next v none distinct_none) j k l b sb la lb)
