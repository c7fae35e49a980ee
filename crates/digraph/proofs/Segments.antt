-- In the order in which a depth-first walk leaves the nodes, each node stands behind those that it reached,
-- and nothing before these leads to them.
use Rattle.std.proofs.Common.{◌≡◌, ◌⊎◌, inl, inr, ⊎_elim, ℕ, List, [], ◌∷◌, ◌++◌, length, refl, sym, ap, ◌∙◌, subst, arith}
use Rattle.std.specs.Prelude.{Contains}
use Rattle.std.proofs.lemmas.List.{append_assoc, append-nil, length-append}
use Rattle.std.proofs.lemmas.List.Elements.{Contains-push, Contains-push_cases, Contains-append_left, Contains-append_right, Contains-append_cases}
use Rattle.digraph.specs.Graph.{Reaches, Here, Along}
use Rattle.digraph.specs.Visits.{Traversal, see, leave, Visits, Nothing, Passes, Enters}

module _ (next : ℕ → List ℕ) where
  pub data Segmented : List ℕ → Type 0 where
    None : Segmented []
    Segment : {xs : List ℕ} (us ds : List ℕ) (n : ℕ) → xs ≡ (us ++ ds) ++ n ∷ [] → Segmented (us ++ ds)
        → ((d : ℕ) → Contains ds d → Reaches next n d)
        → ((u v : ℕ) → Contains us u → Contains (next u) v → Contains ds v ⊎ (v ≡ n) → ⊥) → Segmented xs

  pub reach_on : (a b : ℕ) → Reaches next a b → (c : ℕ) → Reaches next b c → Reaches next a c
  reach_on a b r c Here = r
  reach_on a b r c (Along {b = x} s e) = Along (reach_on a b r x s) e

  pub record IsSound (o : Traversal ℕ) : Type 0 where
    pub segmented : Segmented o.left
    pub succ : (u v : ℕ) → Contains o.left u → Contains (next u) v → Contains o.seen v

  pub record Grows (o q : Traversal ℕ) (ns : List ℕ) : Type 0 where
    pub new : List ℕ
    pub left : q.left ≡ o.left ++ new
    pub fresh : (d : ℕ) → Contains new d → Contains o.seen d → ⊥
    pub from : (d : ℕ) → Contains new d → (n : ℕ) × Contains ns n × Reaches next n d
    pub keeps : (x : ℕ) → Contains o.seen x → Contains q.seen x
    pub all : (x : ℕ) → Contains ns x → Contains q.seen x
    pub only : (x : ℕ) → Contains q.seen x → Contains o.seen x ⊎ Contains new x

  none_in : (x : ℕ) → Contains [] x → ⊥
  none_in x h = absurd (omega (arith, h.1))

  first : (n : ℕ) (ns : List ℕ) → Contains (n ∷ ns) n
  first n ns = (0, omega arith, refl)

  later : (n : ℕ) (ns : List ℕ) (x : ℕ) → Contains ns x → Contains (n ∷ ns) x
  later n ns x h = Contains-append_right (n ∷ []) ns x h

  first_or : (n : ℕ) (ns : List ℕ) (x : ℕ) → Contains (n ∷ ns) x → (x ≡ n) ⊎ Contains ns x
  first_or n ns x h = ⊎_elim (λ a. ⊎_elim (λ b. absurd (none_in x b)) (λ e. inl (sym e)) (Contains-push_cases [] n x a)) (λ b. inr b) (Contains-append_cases (n ∷ []) ns x h)

  module _ (o p : Traversal ℕ) (n : ℕ) (s : IsSound o) (free : Contains o.seen n → ⊥) (g : Grows (see n o) p (next n)) (sp : IsSound p) where
    left_p : p.left ≡ o.left ++ g.new
    left_p = g.left

    pub sound_left : IsSound (leave n p)
    sound_left = record {
      segmented = Segment o.left g.new n (ap (λ xs. xs ++ n ∷ []) left_p) (subst Segmented left_p sp.segmented)
          (λ d h. let f = g.from d h in reach_on n f.0 (Along Here f.1) d f.2)
          (λ u v a e b. ⊎_elim (λ l. g.fresh v l (Contains-append_left o.seen (n ∷ []) v (s.succ u v a e))) (λ q. free (subst (Contains o.seen) q (s.succ u v a e))) b);
      succ = λ u v a e. ⊎_elim (λ l. sp.succ u v l e) (λ q. g.all v (subst (λ x. Contains (next x) v) (sym q) e)) (Contains-push_cases p.left n u a);
    }

    pub grown_on : (q : Traversal ℕ) (ns : List ℕ) → Grows (leave n p) q ns → Grows o q (n ∷ ns)
    grown_on q ns h = record {
      new = (g.new ++ n ∷ []) ++ h.new;
      left = h.left ∙ ap (λ xs. (xs ++ n ∷ []) ++ h.new) left_p ∙ regroup;
      fresh = λ d a t. ⊎_elim
          (λ b. ⊎_elim (λ c. g.fresh d c (Contains-append_left o.seen (n ∷ []) d t)) (λ e. free (subst (Contains o.seen) (sym e) t)) (Contains-push_cases g.new n d b))
          (λ b. h.fresh d b (g.keeps d (Contains-append_left o.seen (n ∷ []) d t)))
          (Contains-append_cases (g.new ++ n ∷ []) h.new d a);
      from = λ d a. ⊎_elim
          (λ b. (n, first n ns, ⊎_elim (λ c. let f = g.from d c in reach_on n f.0 (Along Here f.1) d f.2) (λ e. subst (Reaches next n) e Here) (Contains-push_cases g.new n d b)))
          (λ b. let f = h.from d b in (f.0, later n ns f.0 f.1, f.2))
          (Contains-append_cases (g.new ++ n ∷ []) h.new d a);
      keeps = λ x a. h.keeps x (g.keeps x (Contains-append_left o.seen (n ∷ []) x a));
      all = λ x a. ⊎_elim (λ e. subst (Contains q.seen) (sym e) (h.keeps n (g.keeps n (Contains-push o.seen n)))) (λ b. h.all x b) (first_or n ns x a);
      only = λ x a. ⊎_elim
          (λ b. ⊎_elim
          (λ c. ⊎_elim (λ d. inl d) (λ e. inr (Contains-append_left (g.new ++ n ∷ []) h.new x (subst (Contains (g.new ++ n ∷ [])) e (Contains-push g.new n)))) (Contains-push_cases o.seen n x c))
          (λ c. inr (Contains-append_left (g.new ++ n ∷ []) h.new x (Contains-append_left g.new (n ∷ []) x c)))
          (g.only x b))
          (λ b. inr (Contains-append_right (g.new ++ n ∷ []) h.new x b))
          (h.only x a);
    }
      where
        regroup : ((o.left ++ g.new) ++ n ∷ []) ++ h.new ≡ o.left ++ ((g.new ++ n ∷ []) ++ h.new)
        regroup = simp append_assoc

  -- what a walk does to what was left
  pub grown : {o q : Traversal ℕ} {ns : List ℕ} → Visits next o ns q → IsSound o → Grows o q ns × IsSound q
  grown {o = o} Nothing s = (
    record {
      new = [];
      left = sym (append-nil o.left);
      fresh = λ d h t. none_in d h;
      from = λ d h. absurd (none_in d h);
      keeps = λ x h. h;
      all = λ x h. absurd (none_in x h);
      only = λ x h. inl h;
    },
    s,
  )
  grown (Passes {o = o} {q = q} {n = n} {ns = ns} c v) s = let h = grown v s in (
    record {
      new = h.0.new;
      left = h.0.left;
      fresh = h.0.fresh;
      from = λ d a. let f = h.0.from d a in (f.0, later n ns f.0 f.1, f.2);
      keeps = h.0.keeps;
      all = λ x a. ⊎_elim (λ e. subst (Contains q.seen) (sym e) (h.0.keeps n c)) (λ b. h.0.all x b) (first_or n ns x a);
      only = h.0.only;
    },
    h.1,
  )
  grown (Enters {o = o} {p = p} {q = q} {n = n} {ns = ns} f v w) s =
      let a = grown v (record { segmented = s.segmented; succ = λ x y h e. Contains-append_left o.seen (n ∷ []) y (s.succ x y h e) }) in
      let b = grown w (sound_left o p n s f a.0 a.1) in
      (grown_on o p n s f a.0 a.1 q ns b.0, b.1)

  snoc_same : (xs zs : List ℕ) (r n : ℕ) → xs ++ r ∷ [] ≡ zs ++ n ∷ [] → (xs ≡ zs) × (r ≡ n)
  snoc_same [] [] r n e = (refl, cc)
  snoc_same [] (z ∷ zs) r n e = absurd (omega (arith, ap length e, length-append zs (n ∷ [])))
  snoc_same (x ∷ xs) [] r n e = absurd (omega (arith, ap length e, length-append xs (r ∷ [])))
  snoc_same (x ∷ xs) (z ∷ zs) r n e =
      let q : xs ++ r ∷ [] ≡ zs ++ n ∷ [] = cc in
      let h = snoc_same xs zs r n q in
      let p : x ≡ z = cc in
      (ap (λ y. y ∷ xs) p ∙ ap (λ ys. z ∷ ys) h.0, h.1)

  -- the segment of the last node
  pub record LastSegment (xs : List ℕ) (n : ℕ) : Type 0 where
    pub us : List ℕ
    pub ds : List ℕ
    pub split : xs ≡ us ++ ds
    pub rest : Segmented xs
    pub down : (d : ℕ) → Contains ds d → Reaches next n d
    pub apart : (u v : ℕ) → Contains us u → Contains (next u) v → Contains ds v ⊎ (v ≡ n) → ⊥

  pub last_segment : {ys : List ℕ} → Segmented ys → (xs : List ℕ) (n : ℕ) → ys ≡ xs ++ n ∷ [] → LastSegment xs n
  last_segment None xs n e = absurd (omega (arith, ap length e, length-append xs (n ∷ [])))
  last_segment (Segment us ds m q s f h) xs n e =
      let z = snoc_same xs (us ++ ds) n m (sym e ∙ q) in
      record { us = us; ds = ds; split = z.0; rest = subst Segmented (sym z.0) s; down = λ d c. subst (λ x. Reaches next x d) (sym z.1) (f d c); apart = λ u v a b c. h u v a b (⊎_elim (λ l. inl l) (λ r. inr (r ∙ z.1)) c) }
