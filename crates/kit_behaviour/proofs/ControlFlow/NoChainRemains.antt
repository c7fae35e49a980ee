-- What the pass leaves: no chain of two blocks.
use Rattle.std.proofs.Common.{◌≡◌, ◌⊎◌, ⊎_elim, inl, inr, ℕ, zero, suc, ◌+◌, ◌<◌, ◌≤◌, Bool, true, false, List, [], ◌∷◌, ◌++◌, length, Option, Some, None, refl, sym, ap, ◌∙◌, subst, arith}
use Rattle.std.specs.Prelude.{map, slice_get, if◌then◌else◌, nat_eq, not}
use Rattle.std.proofs.lemmas.Bool.{eqb-true}
use Rattle.kit_behaviour.proofs.Behaviour.SizeLemmas.{place_size}
use Rattle.kit_behaviour.specs.Machine.{AllEdges, Edge, Op, Const, Calc, Emit, Call, Branch, Return, Block, Fun, ops_left, left_in, arguments_in, size}
use Rattle.kit_behaviour.specs.Renaming.{rename_edge, rename_op, same_block}
use Rattle.kit_behaviour.specs.RemovedValues.{thin_edge, thin_op}
use Rattle.kit_behaviour.specs.JoinedBlocks.{join_ops, joined}
use Rattle.kit_behaviour.specs.Scopes.{In}
use Rattle.kit_behaviour.specs.Replacement.{replace_edge, replace_op, replace}
use Rattle.kit_behaviour.specs.Rules.{is_terminator, EndsWell, Rules}
use Rattle.kit_behaviour.specs.Numbering.{place_fun}
use Rattle.kit_behaviour.specs.Places.{Place, same_place}
use Rattle.kit_behaviour.specs.SimplifiedBlocks.{constants, edges_of, all_edges, LeadsTo, Reached, between, retarget_edge, retarget, keep, lone, last_edge, count_to, blocks_edges, edges_in, BlocksAreJoinable, IsJoinedSet, Depth, top, below, join_fun, branched}
use Rattle.kit_behaviour.proofs.ControlFlow.PlacesJoined.{forward, Follows, taken_arg, replaced_args, Simplifies}
use Rattle.kit_behaviour.proofs.Numbering.PlaceEquality.{place_law}
use Rattle.kit_behaviour.proofs.Numbering.NumberingBehaviour.{place_name, place_left}
use Rattle.kit_behaviour.proofs.ControlFlow.KeptBlocks.{at, keep_left, stood}
use Rattle.kit_behaviour.proofs.ControlFlow.DecisionRules.{decide_rules}
use Rattle.kit_behaviour.proofs.ControlFlow.ChainLemmas.{count_append, leads_count, left_count, in_leads, last_in, one_place, joinable_leads, reached_depth}
use Rattle.kit_behaviour.proofs.ControlFlow.JoiningPremises.{left_two, not_free, to_next, drop_stays}
use Rattle.kit_behaviour.proofs.ControlFlow.ScopesAfterJoining.{left_three}
use Rattle.kit_behaviour.proofs.ControlFlow.SimplifyBehaviour.{leads_split, kept_lives, kept_rules}
use Rattle.kit_behaviour.proofs.ControlFlow.AllReached.{kept_reached, on, no_edges, ends_of, leads_ends, top_of, top_free, leads_top, leads_left_over, three_size}

clash : true ≡ false → ⊥
clash e = cc e

either_le : (a b : ℕ) → (a ≤ b) ⊎ (b ≤ a)
either_le zero b = inl (omega arith)
either_le (suc a) zero = inr (omega arith)
either_le (suc a) (suc b) = ⊎_elim (λ h. inl (omega (arith, h))) (λ h. inr (omega (arith, h))) (either_le a b)

le_or : (a m : ℕ) → a ≤ suc m → (a ≤ m) ⊎ (a ≡ suc m)
le_or zero m h = inl (omega arith)
le_or (suc a) zero h = inr (let z : suc a ≡ 1 = omega (arith, h) in z)
le_or (suc a) (suc m) h = ⊎_elim (λ x. inl (omega (arith, x))) (λ x. inr (ap suc x)) (le_or a m (omega (arith, h)))

-- the numbers of blocks that stay are apart
between_inj : (r : ℕ → Bool) (i x y : ℕ) → r (i + x) ≡ true → r (i + y) ≡ true → between r i x ≡ between r i y → x ≡ y
between_inj r i zero zero ex ey h = refl
between_inj r i zero (suc y) ex ey h =
    let z : i ≡ i + 0 = omega arith in
    let q : 0 ≡ suc (between r (suc i) y) = h ∙ ap (λ t. if t then suc (between r (suc i) y) else between r (suc i) y) (ap r z ∙ ex) in absurd (omega (arith, q))
between_inj r i (suc x) zero ex ey h =
    let z : i ≡ i + 0 = omega arith in
    let q : suc (between r (suc i) x) ≡ 0 = sym (ap (λ t. if t then suc (between r (suc i) x) else between r (suc i) x) (ap r z ∙ ey)) ∙ h in absurd (omega (arith, q))
between_inj r i (suc x) (suc y) ex ey h =
    let u : suc i + x ≡ i + suc x = omega arith in let v : suc i + y ≡ i + suc y = omega arith in
    by_test (r i) h (between_inj r (suc i) x y (ap r u ∙ ex) (ap r v ∙ ey))
  where
    by_test : (t : Bool) → (if t then suc (between r (suc i) x) else between r (suc i) x) ≡ (if t then suc (between r (suc i) y) else between r (suc i) y) → (between r (suc i) x ≡ between r (suc i) y → x ≡ y) → suc x ≡ suc y
    by_test true e ih = ap suc (ih (omega (arith, e)))
    by_test false e ih = ap suc (ih e)

at_inj : (r : ℕ → Bool) (x y : ℕ) → r x ≡ true → r y ≡ true → at r x ≡ at r y → x ≡ y
at_inj r x y ex ey h = let u : 0 + x ≡ x = omega arith in let v : 0 + y ≡ y = omega arith in between_inj r 0 x y (ap r u ∙ ex) (ap r v ∙ ey) h

-- counting places

leads_or : {V : Type 0} (t : ℕ) (es : List (Edge V)) → LeadsTo t es ⊎ (count_to t es ≡ 0)
leads_or t [] = inr refl
leads_or t (e ∷ es) = by_test (nat_eq e.target t) refl (leads_or t es)
  where
    by_test : (b : Bool) → nat_eq e.target t ≡ b → LeadsTo t es ⊎ (count_to t es ≡ 0) → LeadsTo t (e ∷ es) ⊎ (count_to t (e ∷ es) ≡ 0)
    by_test true h ih = inl (inl (eqb-true e.target t h))
    by_test false h ih = ⊎_elim (λ l. inl (inr l)) (λ z. inr (ap (λ b. if b then suc (count_to t es) else count_to t es) h ∙ z)) ih

blocks_leads : {V : Type 0} (t : ℕ) (ks : List (Block V)) → LeadsTo t (blocks_edges ks) → (b : ℕ) × LeadsTo t (all_edges (ops_left (slice_get ks b) 0))
blocks_leads t [] h = absurd h
blocks_leads t (k ∷ ks) h = ⊎_elim (λ l. (0, l)) (λ r. let w = blocks_leads t ks r in (suc w.0, w.1)) (leads_split t (all_edges k.ops) (blocks_edges ks) h)

-- one block leads there, by one place
count_blocks : {V : Type 0} (t : ℕ) (ks : List (Block V)) → ((b : ℕ) → count_to t (all_edges (ops_left (slice_get ks b) 0)) ≤ 1) → ((b c : ℕ) → LeadsTo t (all_edges (ops_left (slice_get ks b) 0)) → LeadsTo t (all_edges (ops_left (slice_get ks c) 0)) → b ≡ c) → count_to t (blocks_edges ks) ≤ 1
count_blocks t [] one same = omega arith
count_blocks t (k ∷ ks) one same =
    let a = count_append t (all_edges k.ops) (blocks_edges ks) in
    ⊎_elim
    (λ l. ⊎_elim
    (λ r. let w = blocks_leads t ks r in let e : 0 ≡ suc w.0 = same 0 (suc w.0) l w.1 in absurd (omega (arith, e)))
    (λ z. omega (arith, a, z, one 0))
    (leads_or t (blocks_edges ks)))
    (λ z. let h = count_blocks t ks (λ b. one (suc b)) (λ b c x y. let e = same (suc b) (suc c) x y in omega (arith, e)) in omega (arith, a, z, h))
    (leads_or t (all_edges k.ops))

count_fun : {V : Type 0} (t : ℕ) (f : Option (Fun V)) → ((b : ℕ) → count_to t (all_edges (left_in f b 0)) ≤ 1) → ((b c : ℕ) → LeadsTo t (all_edges (left_in f b 0)) → LeadsTo t (all_edges (left_in f c 0)) → b ≡ c) → count_to t (edges_in f) ≤ 1
count_fun t None one same = omega arith
count_fun t (Some f) one same = count_blocks t f one same

block_range : {V : Type 0} (t : ℕ) (ks : List (Block V)) (b : ℕ) → LeadsTo t (all_edges (ops_left (slice_get ks b) 0)) → b < length ks
block_range t [] b h = absurd h
block_range t (k ∷ ks) zero h = omega arith
block_range t (k ∷ ks) (suc b) h = let r = block_range t ks b h in omega (arith, r)

pub leads_range : {V : Type 0} (t : ℕ) (f : Option (Fun V)) (b : ℕ) → LeadsTo t (all_edges (left_in f b 0)) → b < size f
leads_range t None b h = absurd h
leads_range t (Some f) b h = block_range t f b h

-- the last edge under other names and numbers
module _ {V W : Type 0} (g : Op V → Op W) (k : ℕ → ℕ) (of : (op : Op V) (e : Edge W) → lone (g op) ≡ Some e → (d : Edge V) × (lone op ≡ Some d) × (e.target ≡ k d.target)) where
  last_back : (ops : List (Op V)) (e : Edge W) → last_edge (map g ops) ≡ Some e → (d : Edge V) × (last_edge ops ≡ Some d) × (e.target ≡ k d.target)
  last_back [] e h = absurd (cc h)
  last_back (op ∷ []) e h = of op e h
  last_back (op ∷ next ∷ ops) e h = last_back (next ∷ ops) e h

lone_retarget : {V : Type 0} (k : ℕ → ℕ) (op : Op V) (e : Edge V) → lone (retarget k op) ≡ Some e → (d : Edge V) × (lone op ≡ Some d) × (e.target ≡ k d.target)
lone_retarget {V} k (Branch s xs x []) e h = let q : retarget_edge k x ≡ e = cc h in (x, refl, sym (ap (λ (y : Edge V). y.target) q))
lone_retarget k (Branch s xs x (y ∷ ys)) e h = absurd (cc h)
lone_retarget k (Const r n) e h = absurd (cc h)
lone_retarget k (Calc a w r x y) e h = absurd (cc h)
lone_retarget k (Emit x) e h = absurd (cc h)
lone_retarget k (Call rs c xs) e h = absurd (cc h)
lone_retarget k (Return xs) e h = absurd (cc h)

lone_renamed : {V W : Type 0} (r : V → W) (op : Op V) (e : Edge W) → lone (rename_op r same_block op) ≡ Some e → (d : Edge V) × (lone op ≡ Some d) × (e.target ≡ d.target)
lone_renamed {V} {W} r (Branch s xs x []) e h = let q : rename_edge r same_block x ≡ e = cc h in (x, refl, sym (ap (λ (y : Edge W). y.target) q))
lone_renamed r (Branch s xs x (y ∷ ys)) e h = absurd (cc h)
lone_renamed r (Const v n) e h = absurd (cc h)
lone_renamed r (Calc a w v x y) e h = absurd (cc h)
lone_renamed r (Emit x) e h = absurd (cc h)
lone_renamed r (Call vs c xs) e h = absurd (cc h)
lone_renamed r (Return xs) e h = absurd (cc h)

module _ (f : Option (Fun Place)) (rules : Rules f) (j : ℕ → Bool) (taken : IsJoinedSet f j) (s : Place → Place) (fol : (v : Place) → Follows (forward j f) v (s v)) (lives : (b : ℕ) → (arguments_in f b ≡ []) ⊎ Reached f b) (k : ℕ) (long : (b n : ℕ) → Depth f j b n → n ≤ k) (all : (b : ℕ) → b < size f → Reached f b) where
  abbrev f1 : Option (Fun Place)
  f1 = replace s f

  abbrev f2 : Option (Fun Place)
  f2 = replaced_args j s f

  abbrev f3 : Option (Fun Place)
  f3 = join_fun j k f2

  abbrev stays : ℕ → Bool
  stays b = not (j b)

  abbrev q : Option (Fun Place)
  q = place_fun same_place (keep stays f3)

  abbrev tw : Op Place → Op Place
  tw op = thin_op f1 (taken_arg j) (replace_op s op)

  abbrev first_of : (b n : ℕ) → Depth f j b n → ℕ
  first_of b n d = top_of f rules j taken s fol lives k long b n d

  -- blocks that end with one edge

  lone_leads : (t : ℕ) (ops : List (Op Place)) (e : Edge Place) → EndsWell ops → last_edge ops ≡ Some e → LeadsTo t (all_edges ops) → e.target ≡ t
  lone_leads t [] e w h l = absurd l
  lone_leads t (Branch u xs x [] ∷ []) e w h l = let p : x ≡ e = cc h in sym (ap (λ (y : Edge Place). y.target) p) ∙ ⊎_elim (λ a. a) (λ b. absurd b) l
  lone_leads t (Branch u xs x (y ∷ ys) ∷ []) e w h l = absurd (cc h)
  lone_leads t (Const r m ∷ []) e w h l = absurd l
  lone_leads t (Calc a v r x y ∷ []) e w h l = absurd l
  lone_leads t (Emit x ∷ []) e w h l = absurd l
  lone_leads t (Call rs c xs ∷ []) e w h l = absurd l
  lone_leads t (Return xs ∷ []) e w h l = absurd l
  lone_leads t (op ∷ next ∷ ops) e w h l =
      lone_leads t (next ∷ ops) e w.1 h (⊎_elim (λ p. absurd (subst (LeadsTo t) (no_edges f rules j taken s fol lives k long op w.0) p)) (λ r. r) (leads_split t (edges_of op) (all_edges (next ∷ ops)) l))

  lone_count : (t : ℕ) (ops : List (Op Place)) (e : Edge Place) → EndsWell ops → last_edge ops ≡ Some e → count_to t (all_edges ops) ≤ 1
  lone_count t [] e w h = omega arith
  lone_count t (Branch u xs x [] ∷ []) e w h = by_test (nat_eq x.target t)
    where
      by_test : (b : Bool) → (if b then 1 else 0) ≤ 1
      by_test true = omega arith
      by_test false = omega arith
  lone_count t (Branch u xs x (y ∷ ys) ∷ []) e w h = absurd (cc h)
  lone_count t (Const r m ∷ []) e w h = omega arith
  lone_count t (Calc a v r x y ∷ []) e w h = omega arith
  lone_count t (Emit x ∷ []) e w h = omega arith
  lone_count t (Call rs c xs ∷ []) e w h = omega arith
  lone_count t (Return xs ∷ []) e w h = omega arith
  lone_count t (op ∷ next ∷ ops) e w h =
      subst (λ l. count_to t (l ++ all_edges (next ∷ ops)) ≤ 1) (sym (no_edges f rules j taken s fol lives k long op w.0)) (lone_count t (next ∷ ops) e w.1 h)

  ends : (b t : ℕ) → LeadsTo t (all_edges (left_in f b 0)) → EndsWell (left_in f b 0)
  ends b t l = leads_ends f rules j taken s fol lives k long b t l

  -- blocks of one chain

  next_one : (c x y : ℕ) → BlocksAreJoinable f c x → BlocksAreJoinable f c y → x ≡ y
  next_one c x y h g =
      let p : Some h.edge ≡ Some g.edge = sym h.last ∙ g.last in
      let e : h.edge ≡ g.edge = cc p in
      sym h.target ∙ ap (λ (z : Edge Place). z.target) e ∙ g.target

  same_depth : (b n : ℕ) (d : Depth f j b n) (c m : ℕ) (e : Depth f j c m) → n ≡ m → first_of b n d ≡ first_of c m e → b ≡ c
  same_depth b n (top u1 n1 h1 z1) c m (top u2 m1 h2 z2) q e = e
  same_depth b n (top u1 n1 h1 z1) c m (below p t i m1 h2 z2 d2) q e = absurd (omega (arith, q, z1, z2))
  same_depth b n (below p t i n1 h1 z1 d1) c m (top u2 m1 h2 z2) q e = absurd (omega (arith, q, z1, z2))
  same_depth b n (below p t i n1 h1 z1 d1) c m (below p2 t2 i2 m1 h2 z2 d2) q e =
      let r = same_depth p i d1 p2 i2 d2 (omega (arith, q, z1, z2)) e in next_one p2 t t2 (subst (λ x. BlocksAreJoinable f x t) r h1) h2

  -- of two blocks of a chain the upper one has a next
  upper_next : (c m : ℕ) (e : Depth f j c m) (b n : ℕ) (d : Depth f j b n) → n ≤ m → first_of b n d ≡ first_of c m e → (b ≡ c) ⊎ ((x : ℕ) × BlocksAreJoinable f b x)
  upper_next c m (top u m1 h z) b n d le e = inl (same_depth b n d u m1 (top u m1 h z) (omega (arith, le, z)) e)
  upper_next c m (below p t i m1 h z w) b n d le e =
      ⊎_elim
      (λ l. ⊎_elim (λ y. inr (t, subst (λ x. BlocksAreJoinable f x t) (sym y) h)) (λ y. inr y) (upper_next p i w b n d l e))
      (λ y. inl (same_depth b n d t m1 (below p t i m1 h z w) (y ∙ sym z) e))
      (le_or n i (omega (arith, le, z)))

  free_last : (b t x : ℕ) → j t ≡ false → LeadsTo t (all_edges (left_in f b 0)) → BlocksAreJoinable f b x → ⊥
  free_last b t x jt l h =
      let e = lone_leads t (left_in f b 0) h.edge (ends b t l) h.last l in
      let bad : true ≡ false = sym (taken.back b x h) ∙ ap j (sym h.target ∙ e) ∙ jt in cc bad

  chain_one : (t : ℕ) → j t ≡ false → (b n : ℕ) (d : Depth f j b n) (c m : ℕ) (e : Depth f j c m) → LeadsTo t (all_edges (left_in f b 0)) → LeadsTo t (all_edges (left_in f c 0)) → first_of b n d ≡ first_of c m e → b ≡ c
  chain_one t jt b n d c m e lb lc h =
      ⊎_elim
      (λ le. ⊎_elim (λ y. y) (λ y. absurd (free_last b t y.0 jt lb y.1)) (upper_next c m e b n d le h))
      (λ le. ⊎_elim (λ y. sym y) (λ y. absurd (free_last c t y.0 jt lc y.1)) (upper_next b n d c m e le (sym h)))
      (either_le n m)

  -- the last edge of what was joined is that of a block of the chain

  lone_tw : (op : Op Place) (e : Edge Place) → lone (tw op) ≡ Some e → (d : Edge Place) × (lone op ≡ Some d) × (e.target ≡ d.target)
  lone_tw (Branch u xs x []) e h = let p : thin_edge f1 (taken_arg j) (replace_edge s x) ≡ e = cc h in (x, refl, sym (ap (λ (y : Edge Place). y.target) p))
  lone_tw (Branch u xs x (y ∷ ys)) e h = absurd (cc h)
  lone_tw (Const r n) e h = absurd (cc h)
  lone_tw (Calc a w r x y) e h = absurd (cc h)
  lone_tw (Emit x) e h = absurd (cc h)
  lone_tw (Call rs c xs) e h = absurd (cc h)
  lone_tw (Return xs) e h = absurd (cc h)

  lone_none : (op : Op Place) (e : Edge Place) → is_terminator op ≡ false → lone (tw op) ≡ Some e → ⊥
  lone_none (Branch u xs x ys) e w h = let bad : true ≡ false = w in cc bad
  lone_none (Const r n) e w h = cc h
  lone_none (Calc a v r x y) e w h = cc h
  lone_none (Emit x) e w h = cc h
  lone_none (Call rs c xs) e w h = cc h
  lone_none (Return xs) e w h = cc w

  last_cons : (op : Op Place) (rest : List (Op Place)) (e : Edge Place) → is_terminator op ≡ false → last_edge (tw op ∷ rest) ≡ Some e → last_edge rest ≡ Some e
  last_cons op [] e w h = absurd (lone_none op e w h)
  last_cons op (r ∷ rest) e w h = h

  abbrev Ends : (ℕ → List (Op Place)) → List (Op Place) → Edge Place → Type 0
  Ends n ops e = (d : Edge Place) × (last_edge ops ≡ Some d) × (((j d.target ≡ false) × (e.target ≡ d.target)) ⊎ ((j d.target ≡ true) × (last_edge (n d.target) ≡ Some e)))

  last_join : (n : ℕ → List (Op Place)) (ops : List (Op Place)) (e : Edge Place) → EndsWell ops → last_edge (join_ops j n (map tw ops)) ≡ Some e → Ends n ops e
  last_join n [] e w h = absurd w
  last_join n (Branch u xs x [] ∷ []) e w h = by_test (j x.target) refl h
    where
      by_test : (t : Bool) → j x.target ≡ t → last_edge (if t then n x.target else tw (Branch u xs x []) ∷ []) ≡ Some e → Ends n (Branch u xs x [] ∷ []) e
      by_test true a g = (x, refl, inr (a, g))
      by_test false a g = let r = lone_tw (Branch u xs x []) e g in let p : Some x ≡ Some r.0 = r.1 in let y : x ≡ r.0 = cc p in (x, refl, inl (a, r.2 ∙ ap (λ (z : Edge Place). z.target) (sym y)))
  last_join n (Branch u xs x (y ∷ ys) ∷ []) e w h = absurd (cc h)
  last_join n (Const r m ∷ []) e w h = absurd (cc h)
  last_join n (Calc a v r x y ∷ []) e w h = absurd (cc h)
  last_join n (Emit x ∷ []) e w h = absurd (cc h)
  last_join n (Call rs c xs ∷ []) e w h = absurd (cc h)
  last_join n (Return xs ∷ []) e w h = absurd (cc h)
  last_join n (op ∷ next ∷ ops) e w h =
      last_join n (next ∷ ops) e w.1 (last_cons op (join_ops j n (map tw (next ∷ ops))) e w.0 (ap last_edge (sym (on f rules j taken s fol lives k long n op (map tw (next ∷ ops)) w.0)) ∙ h))

  record LastOf (b n : ℕ) (d : Depth f j b n) (t : ℕ) : Type 0 where
    block : ℕ
    deep : ℕ
    depth : Depth f j block deep
    chain : first_of block deep depth ≡ first_of b n d
    edge : Edge Place
    last : last_edge (left_in f block 0) ≡ Some edge
    target : edge.target ≡ t

  not_empty : (m b : ℕ) (e : Edge Place) → last_edge (joined j f2 m (map tw (left_in f b 0))) ≡ Some e → EndsWell (left_in f b 0)
  not_empty m b e h = by_ops (left_in f b 0) refl m h
    where
      by_ops : (ops : List (Op Place)) → left_in f b 0 ≡ ops → (m : ℕ) → last_edge (joined j f2 m (map tw ops)) ≡ Some e → EndsWell ops
      by_ops [] z zero g = absurd (cc g)
      by_ops [] z (suc m) g = absurd (cc g)
      by_ops (op ∷ ops) z m g = ends_of f rules j taken s fol lives k long b (op ∷ ops) z (λ bad. cc bad)

  last_of : (m b n : ℕ) (d : Depth f j b n) (e : Edge Place) → last_edge (joined j f2 m (map tw (left_in f b 0))) ≡ Some e → LastOf b n d e.target
  last_of zero b n d e h =
      let r = last_join (λ u. []) (left_in f b 0) e (not_empty zero b e h) h in
      ⊎_elim
      (λ x. record { block = b; deep = n; depth = d; chain = refl; edge = r.0; last = r.1; target = sym x.1 })
      (λ x. absurd (cc x.1))
      r.2
  last_of (suc m) b n d e h =
      let r = last_join (λ u. joined j f2 m (left_in f2 u 0)) (left_in f b 0) e (not_empty (suc m) b e h) h in
      ⊎_elim
      (λ x. record { block = b; deep = n; depth = d; chain = refl; edge = r.0; last = r.1; target = sym x.1 })
      (λ x.
      let t = r.0.target in
      let g = (to_next f rules j taken s fol lives k long b t x.0 (in_leads t r.0 (all_edges (left_in f b 0)) (last_in (left_in f b 0) r.0 r.1) refl)).0 in
      let dt = below b t n (suc n) g refl d in
      let w = last_of m t (suc n) dt e (ap (λ o. last_edge (joined j f2 m o)) (sym (left_two f rules j taken s fol lives k long t)) ∙ x.1) in
      record { block = w.block; deep = w.deep; depth = w.depth; chain = w.chain; edge = w.edge; last = w.last; target = w.target })
      r.2

  stays_at : (P : Edge Place → Type 0) (es : List (Edge Place)) (e : Edge Place) → AllEdges P es → In e es → P e
  stays_at P [] e a i = absurd i
  stays_at P (x ∷ es) e a i = ⊎_elim (λ y. subst P (sym y) a.0) (λ r. stays_at P es e a.1 r) i

  -- the two blocks would have been joined
  pub no_chain : size f3 ≡ size f → (b t : ℕ) → BlocksAreJoinable q b t → ⊥
  no_chain sz b t h =
      let lq = joinable_leads q b t h in
      let rq = leads_range t q b lq in
      let w = stood stays f3 b (omega (arith, rq, place_size same_place (keep stays f3))) in
      let B = w.old in
      let jB = not_free f rules j taken s fol lives k long (j B) w.kept in
      let n = place_name same_place place_law (keep stays f3) in
      let e1 : last_edge (map (rename_op n same_block) (left_in (keep stays f3) (at stays B) 0)) ≡ Some h.edge = ap last_edge (sym (place_left same_place place_law (keep stays f3) (at stays B))) ∙ ap (λ x. last_edge (left_in q x 0)) (sym w.is) ∙ h.last in
      let x1 = last_back (rename_op n same_block) same_block (lone_renamed n) (left_in (keep stays f3) (at stays B) 0) h.edge e1 in
      let x2 = last_back (retarget (at stays)) (at stays) (lone_retarget (at stays)) (left_in f3 B 0) x1.0 (ap last_edge (sym (keep_left stays f3 B w.kept)) ∙ x1.1) in
      let T = x2.0.target in
      let tT : t ≡ at stays T = sym h.target ∙ x1.2 ∙ x2.2 in
      let sT = stays_at (λ x. not (j x.target) ≡ true) (all_edges (left_in f3 B 0)) x2.0 (drop_stays f rules j taken s fol lives k long B w.kept) (last_in (left_in f3 B 0) x2.0 x2.1) in
      let jT = not_free f rules j taken s fol lives k long (j T) sT in
      let dB = top B 0 jB refl in
      let c = last_of k B 0 dB x2.0 (ap last_edge (sym (left_three f rules j taken s fol lives k long B)) ∙ x2.1) in
      let lc : LeadsTo T (all_edges (left_in f c.block 0)) = in_leads T c.edge (all_edges (left_in f c.block 0)) (last_in (left_in f c.block 0) c.edge c.last) c.target in
      let only = λ (b2 : ℕ) (lb : LeadsTo T (all_edges (left_in f b2 0))).
      let db = reached_depth f j taken b2 (all b2 (leads_range T f b2 lb)) in
      let F = first_of b2 db.0 db.1 in
      let l3 = leads_left_over f rules j taken s fol lives k long F T (top_free f rules j taken s fol lives k long b2 db.0 db.1) (leads_top f rules j taken s fol lives k long b2 db.0 T db.1 jT lb) in
      let l4 = subst (λ y. LeadsTo y (all_edges (left_in q (at stays F) 0))) (sym tT) l3 in
      let p = one_place t q (at stays F) b h.single l4 lq in
      let FB : F ≡ B = at_inj stays F B (ap not (top_free f rules j taken s fol lives k long b2 db.0 db.1)) w.kept (p ∙ w.is) in
      chain_one T jT b2 db.0 db.1 c.block c.deep c.depth lb lc (FB ∙ sym c.chain) in
      let few : count_to T (edges_in f) ≤ 1 =
      count_fun T f
      (λ b2. ⊎_elim
      (λ lb. subst (λ y. count_to T (all_edges (left_in f y 0)) ≤ 1) (sym (only b2 lb)) (lone_count T (left_in f c.block 0) c.edge (ends c.block T lc) c.last))
      (λ z. omega (arith, z))
      (leads_or T (all_edges (left_in f b2 0))))
      (λ b2 c2 x y. only b2 x ∙ sym (only c2 y)) in
      let some : 1 ≤ count_to T (edges_in f) = some_count T c.block lc in
      let g : BlocksAreJoinable f c.block T =
      record {
        edge = c.edge;
        last = c.last;
        target = c.target;
        not_entry = λ z. h.not_entry (tT ∙ ap (at stays) z);
        other = λ z. let y : c.block ≡ B = first_same c.block c.deep c.depth (ap j z ∙ jT) ∙ c.chain in h.other (w.is ∙ ap (at stays) (sym y ∙ z) ∙ sym tT);
        single = omega (arith, few, some);
      } in
      clash (sym (taken.back c.block T g) ∙ jT)
    where
      some_count : (u b : ℕ) → LeadsTo u (all_edges (left_in f b 0)) → 1 ≤ count_to u (edges_in f)
      some_count u b l = let x = leads_count u (all_edges (left_in f b 0)) l in let y = left_count u f b in omega (arith, x, y)

      first_same : (c n : ℕ) (d : Depth f j c n) → j c ≡ false → c ≡ first_of c n d
      first_same c n (top u m a z) e = refl
      first_same c n (below p u i m a z d) e = let bad : true ≡ false = sym (taken.back p u a) ∙ e in absurd (cc bad)

-- what the pass leaves has no chain of two
pub simplified_joined : (f g : Option (Fun Place)) → Rules f → Simplifies f g → (b t : ℕ) → BlocksAreJoinable g b t → ⊥
simplified_joined f g rules is b t h =
    let m = is.merges in
    let g2 = place_fun same_place (keep is.reach (branched f)) in
    let r2 = kept_rules (branched f) is.reach is.reached (decide_rules (constants f) f rules) in
    no_chain g2 r2 m.taken m.is_taken m.names m.follows (kept_lives (branched f) is.reach is.reached) m.most m.long (kept_reached (branched f) is.reach is.reached) (three_size m.taken m.names m.most g2) b t (subst (λ x. BlocksAreJoinable x b t) m.is h)
