-- Chains: a block has one predecessor in its chain, and a depth.
use Rattle.std.proofs.Common.{◌≡◌, ◌⊎◌, ⊎_elim, inl, inr, ℕ, zero, suc, ◌+◌, ◌≤◌, Bool, true, false, List, [], ◌∷◌, ◌++◌, Option, Some, None, refl, sym, ap, ◌∙◌, subst, arith}
use Rattle.std.specs.Prelude.{slice_get, if◌then◌else◌, nat_eq}
use Rattle.std.proofs.lemmas.Bool.{eq-eqb}
use Rattle.kit_behaviour.specs.Machine.{Edge, Op, Const, Calc, Emit, Call, Branch, Return, Block, Fun, ops_left, left_in}
use Rattle.kit_behaviour.specs.Scopes.{In, defs, all_defs, EdgeScoped, OpScoped, OpsWith}
use Rattle.kit_behaviour.specs.Places.{Place}
use Rattle.kit_behaviour.specs.SimplifiedBlocks.{edges_of, all_edges, LeadsTo, Reached, first, further, lone, last_edge, count_to, blocks_edges, edges_in, BlocksAreJoinable, IsJoinedSet, Depth, top, below, forwarded_to}
use Rattle.kit_behaviour.proofs.ControlFlow.PlacesJoined.{Follows, stop, more}
use Rattle.kit_behaviour.proofs.Propagation.ScopeLemmas.{in_append, in_split}

module _ {V : Type 0} (t : ℕ) where
  pub count_append : (xs ys : List (Edge V)) → count_to t (xs ++ ys) ≡ count_to t xs + count_to t ys
  count_append [] ys = let z : count_to t ys ≡ 0 + count_to t ys = omega arith in z
  count_append (e ∷ xs) ys = by_test (nat_eq e.target t) (count_append xs ys)
    where
      by_test : (b : Bool) → count_to t (xs ++ ys) ≡ count_to t xs + count_to t ys → (if b then suc (count_to t (xs ++ ys)) else count_to t (xs ++ ys)) ≡ (if b then suc (count_to t xs) else count_to t xs) + count_to t ys
      by_test true h = omega (arith, h)
      by_test false h = h

  tail_count : (e : Edge V) (es : List (Edge V)) → count_to t es ≤ count_to t (e ∷ es)
  tail_count e es = by_test (nat_eq e.target t)
    where
      by_test : (b : Bool) → count_to t es ≤ (if b then suc (count_to t es) else count_to t es)
      by_test true = omega arith
      by_test false = omega arith

  pub head_count : (e : Edge V) (es : List (Edge V)) → e.target ≡ t → count_to t (e ∷ es) ≡ suc (count_to t es)
  head_count e es q = ap (λ b. if b then suc (count_to t es) else count_to t es) (eq-eqb e.target t q)

  pub leads_count : (es : List (Edge V)) → LeadsTo t es → 1 ≤ count_to t es
  leads_count [] h = absurd h
  leads_count (e ∷ es) h = ⊎_elim (λ q. let c = head_count e es q in omega (arith, c)) (λ l. omega (arith, leads_count es l, tail_count e es)) h

  pub leads_left : (xs ys : List (Edge V)) → LeadsTo t xs → LeadsTo t (xs ++ ys)
  leads_left [] ys h = absurd h
  leads_left (x ∷ xs) ys h = ⊎_elim (λ q. inl q) (λ l. inr (leads_left xs ys l)) h

  pub leads_right : (xs ys : List (Edge V)) → LeadsTo t ys → LeadsTo t (xs ++ ys)
  leads_right [] ys h = h
  leads_right (x ∷ xs) ys h = inr (leads_right xs ys h)

  pub in_leads : (e : Edge V) (es : List (Edge V)) → In e es → e.target ≡ t → LeadsTo t es
  in_leads e [] i q = absurd i
  in_leads e (x ∷ es) i q = ⊎_elim (λ y. inl (sym (ap (λ (z : Edge V). z.target) y) ∙ q)) (λ k. inr (in_leads e es k q)) i

  block_count : (ks : List (Block V)) (b : ℕ) → count_to t (all_edges (ops_left (slice_get ks b) 0)) ≤ count_to t (blocks_edges ks)
  block_count [] b = omega arith
  block_count (k ∷ ks) zero = omega (arith, count_append (all_edges k.ops) (blocks_edges ks))
  block_count (k ∷ ks) (suc b) = omega (arith, count_append (all_edges k.ops) (blocks_edges ks), block_count ks b)

  one_block : (ks : List (Block V)) (b c : ℕ) → LeadsTo t (all_edges (ops_left (slice_get ks b) 0)) → LeadsTo t (all_edges (ops_left (slice_get ks c) 0)) → count_to t (blocks_edges ks) ≤ 1 → b ≡ c
  one_block [] b c h g le = absurd h
  one_block (k ∷ ks) zero zero h g le = refl
  one_block (k ∷ ks) zero (suc c) h g le = absurd (omega (arith, le, count_append (all_edges k.ops) (blocks_edges ks), leads_count (all_edges k.ops) h, leads_count (all_edges (ops_left (slice_get ks c) 0)) g, block_count ks c))
  one_block (k ∷ ks) (suc b) zero h g le = absurd (omega (arith, le, count_append (all_edges k.ops) (blocks_edges ks), leads_count (all_edges k.ops) g, leads_count (all_edges (ops_left (slice_get ks b) 0)) h, block_count ks b))
  one_block (k ∷ ks) (suc b) (suc c) h g le = ap suc (one_block ks b c h g (omega (arith, le, count_append (all_edges k.ops) (blocks_edges ks))))

  pub one_place : (f : Option (Fun V)) (b c : ℕ) → count_to t (edges_in f) ≡ 1 → LeadsTo t (all_edges (left_in f b 0)) → LeadsTo t (all_edges (left_in f c 0)) → b ≡ c
  one_place None b c e h g = absurd h
  one_place (Some f) b c e h g = one_block f b c h g (omega (arith, e))

  pub left_count : (f : Option (Fun V)) (b : ℕ) → count_to t (all_edges (left_in f b 0)) ≤ count_to t (edges_in f)
  left_count None b = omega arith
  left_count (Some f) b = block_count f b

  pub ops_count : (op : Op V) (ops : List (Op V)) → count_to t (edges_of op) + count_to t (all_edges ops) ≡ count_to t (all_edges (op ∷ ops))
  ops_count op ops = sym (count_append (edges_of op) (all_edges ops))

  -- the one edge there
  pub gives_unique : (e : Edge V) (es : List (Edge V)) → count_to t es ≤ 1 → In e es → e.target ≡ t → forwarded_to t es ≡ e.forwards
  gives_unique e [] le i q = absurd i
  gives_unique e (x ∷ es) le i q = by_test (nat_eq x.target t) refl (gives_unique e es (omega (arith, le, tail_count x es)))
    where
      by_test : (b : Bool) → nat_eq x.target t ≡ b → (In e es → e.target ≡ t → forwarded_to t es ≡ e.forwards) → forwarded_to t (x ∷ es) ≡ e.forwards
      by_test true h ih =
          let c : count_to t (x ∷ es) ≡ suc (count_to t es) = ap (λ b. if b then suc (count_to t es) else count_to t es) h in
          ap (λ b. if b then x.forwards else forwarded_to t es) h ∙ ⊎_elim (λ y. ap (λ (z : Edge V). z.forwards) (sym y)) (λ k. absurd (omega (arith, le, c, leads_count es (in_leads e es k q)))) i
      by_test false h ih =
          ap (λ b. if b then x.forwards else forwarded_to t es) h
          ∙ ⊎_elim (λ y. let bad : true ≡ false = sym (eq-eqb x.target t (ap (λ (z : Edge V). z.target) (sym y) ∙ q)) ∙ h in absurd (cc bad)) (λ k. ih k q) i

module _ {V : Type 0} where
  lone_in : (op : Op V) (e : Edge V) → lone op ≡ Some e → In e (edges_of op)
  lone_in (Branch s xs x []) e h = let q : x ≡ e = cc h in inl (sym q)
  lone_in (Branch s xs x (y ∷ ys)) e h = absurd (cc h)
  lone_in (Const r n) e h = absurd (cc h)
  lone_in (Calc a w r x y) e h = absurd (cc h)
  lone_in (Emit x) e h = absurd (cc h)
  lone_in (Call rs c xs) e h = absurd (cc h)
  lone_in (Return xs) e h = absurd (cc h)

  pub last_in : (ops : List (Op V)) (e : Edge V) → last_edge ops ≡ Some e → In e (all_edges ops)
  last_in [] e h = absurd (cc h)
  last_in (op ∷ []) e h = in_append e (edges_of op) [] (inl (lone_in op e h))
  last_in (op ∷ next ∷ ops) e h = in_append e (edges_of op) (all_edges (next ∷ ops)) (inr (last_in (next ∷ ops) e h))

  -- the scope at the last operation
  pub last_scope : (f : Option (Fun V)) (a : List V) (ops : List (Op V)) (e : Edge V) → OpsWith (OpScoped f) a ops → last_edge ops ≡ Some e → (c : List V) × EdgeScoped f c e × ((x : V) → In x c → In x (all_defs ops) ⊎ In x a)
  last_scope f a [] e w h = absurd (cc h)
  last_scope f a (Branch s xs x [] ∷ []) e w h = let q : x ≡ e = cc h in (a, subst (EdgeScoped f a) q w.0.1.0, λ z i. inr i)
  last_scope f a (Branch s xs x (y ∷ ys) ∷ []) e w h = absurd (cc h)
  last_scope f a (Const r n ∷ []) e w h = absurd (cc h)
  last_scope f a (Calc o t r x y ∷ []) e w h = absurd (cc h)
  last_scope f a (Emit x ∷ []) e w h = absurd (cc h)
  last_scope f a (Call rs c xs ∷ []) e w h = absurd (cc h)
  last_scope f a (Return xs ∷ []) e w h = absurd (cc h)
  last_scope f a (op ∷ next ∷ ops) e w h =
      let r = last_scope f (defs op ++ a) (next ∷ ops) e w.1 h in
      (r.0, r.1, λ x i. ⊎_elim (λ l. inl (in_append x (defs op) (all_defs (next ∷ ops)) (inr l))) (λ k. ⊎_elim (λ d. inl (in_append x (defs op) (all_defs (next ∷ ops)) (inl d))) (λ z. inr z) (in_split x (defs op) a k)) (r.2 x i))

  blocks_in : (e : Edge V) (ks : List (Block V)) (b : ℕ) → In e (all_edges (ops_left (slice_get ks b) 0)) → In e (blocks_edges ks)
  blocks_in e [] b i = absurd i
  blocks_in e (k ∷ ks) zero i = in_append e (all_edges k.ops) (blocks_edges ks) (inl i)
  blocks_in e (k ∷ ks) (suc b) i = in_append e (all_edges k.ops) (blocks_edges ks) (inr (blocks_in e ks b i))

  pub edge_in : (f : Option (Fun V)) (e : Edge V) (b : ℕ) → In e (all_edges (left_in f b 0)) → In e (edges_in f)
  edge_in None e b i = absurd i
  edge_in (Some f) e b i = blocks_in e f b i

  pub joinable_leads : (f : Option (Fun V)) (b t : ℕ) → BlocksAreJoinable f b t → LeadsTo t (all_edges (left_in f b 0))
  joinable_leads f b t h = in_leads t h.edge (all_edges (left_in f b 0)) (last_in (left_in f b 0) h.edge h.last) h.target

  pub one_before : (f : Option (Fun V)) (b c t : ℕ) → BlocksAreJoinable f b t → BlocksAreJoinable f c t → b ≡ c
  one_before f b c t h g = one_place t f b c h.single (joinable_leads f b t h) (joinable_leads f c t g)

  module _ (f : Option (Fun V)) (j : ℕ → Bool) (taken : IsJoinedSet f j) where
    not_taken : (b t : ℕ) → BlocksAreJoinable f b t → j t ≡ false → ⊥
    not_taken b t h e = let bad : true ≡ false = sym (taken.back b t h) ∙ e in cc bad

    pub entry_free : j 0 ≡ false
    entry_free = by_test (j 0) refl
      where
        by_test : (b : Bool) → j 0 ≡ b → j 0 ≡ false
        by_test false e = e
        by_test true e = absurd ((taken.there 0 e).1.not_entry refl)

    pub depth_one : (b n m : ℕ) → Depth f j b n → Depth f j b m → n ≡ m
    depth_one b n m (top b1 n1 h e) (top b2 m1 g q) = e ∙ sym q
    depth_one b n m (top b1 n1 h e) (below c t k m1 g q d) = absurd (not_taken c t g h)
    depth_one b n m (below c t k n1 g q d) (top b2 m1 h e) = absurd (not_taken c t g h)
    depth_one b n m (below c t k n1 g q d) (below c2 t2 k2 m1 g2 q2 d2) =
        q ∙ ap suc (depth_one c k k2 d (subst (λ x. Depth f j x k2) (one_before f c2 c t g2 g) d2)) ∙ sym q2

    pub reached_depth : (t : ℕ) → Reached f t → (n : ℕ) × Depth f j t n
    reached_depth t (first b e) = (0, top b 0 (ap j e ∙ entry_free) refl)
    reached_depth t (further b u r l) = by_test (j u) refl (reached_depth b r)
      where
        by_test : (c : Bool) → j u ≡ c → (n : ℕ) × Depth f j b n → (n : ℕ) × Depth f j u n
        by_test false e ih = (0, top u 0 e refl)
        by_test true e ih =
            let h = taken.there u e in
            let q = one_place u f h.0 b h.1.single (joinable_leads f h.0 u h.1) l in
            (suc ih.0, below b u ih.0 (suc ih.0) (subst (λ x. BlocksAreJoinable f x u) q h.1) refl ih.1)

-- what is followed

module _ (n : Place → Option Place) where
  pub ends_none : (v u : Place) → Follows n v u → n v ≡ None → u ≡ v
  ends_none v u (stop w x e q) h = q
  ends_none v u (more w x y e r) h = let bad : None ≡ Some x = sym h ∙ e in absurd (cc bad)

  pub ends_at : (v u : Place) → Follows n v u → n u ≡ None
  ends_at v u (stop w x e q) = ap n q ∙ e
  ends_at v u (more w x y e r) = ends_at x y r

  pub follows_one : (v u w : Place) → Follows n v u → Follows n v w → u ≡ w
  follows_one v u w (stop a b e q) (stop c d g h) = q ∙ sym h
  follows_one v u w (stop a b e q) (more c x d g r) = let bad : None ≡ Some x = sym e ∙ g in absurd (cc bad)
  follows_one v u w (more a x b e r) (stop c d g h) = let bad : None ≡ Some x = sym g ∙ e in absurd (cc bad)
  follows_one v u w (more a x b e r) (more c y d g z) = let s : Some x ≡ Some y = sym e ∙ g in let q : x ≡ y = cc s in follows_one x b d r (subst (λ k. Follows n k d) (sym q) z)

  pub follows_on : (v w u x : Place) → n v ≡ Some w → Follows n v u → Follows n w x → u ≡ x
  follows_on v w u x e (stop a b g h) r = let bad : None ≡ Some w = sym g ∙ e in absurd (cc bad)
  follows_on v w u x e (more a y b g z) r = let s : Some y ≡ Some w = sym g ∙ e in let q : y ≡ w = cc s in follows_one w b x (subst (λ k. Follows n k b) q z) r
