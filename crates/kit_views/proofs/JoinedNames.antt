-- Where chains of blocks are joined, what had distinct names has: each stands in one place of one chain.
use Rattle.std.proofs.Common.{◌≡◌, ◌⊎◌, ⊎_elim, inl, inr, ℕ, suc, ◌<◌, ◌≤◌, Bool, true, false, List, [], ◌∷◌, ◌++◌}
use Rattle.std.proofs.Common.{length, Some, refl, sym, ap, ◌∙◌, subst, arith}
use Rattle.std.specs.Prelude.{slice_get}
use Rattle.ir_trees.specs.Names.{Names, Contents}
use Rattle.ir_trees.specs.Trees.{Head, Label, Sort, Operations, Blocks, Tree, end, operation, block, region}
use Rattle.opt_trees.specs.Dialect.{Dialect}
use Rattle.opt_trees.specs.Occurrences.{Has, Occurrence, BlockOccurrence, OperationSite, Spot, next_block, inner, occurrences_in}
use Rattle.opt_trees.specs.Occurrences.{occurrences_of, block_occurrences_in, block_occurrences_of}
use Rattle.opt_trees.specs.Simplify.{but_last, append}
use Rattle.opt_trees.proofs.NoneDead.{has-append, has-left, has-right}
use Rattle.kit_behaviour.specs.Machine.{Fun, left_in}
use Rattle.kit_behaviour.specs.Rules.{EndsWell}
use Rattle.kit_behaviour.specs.SimplifiedBlocks.{Reached, BlocksAreJoinable, IsJoinedSet}
use Rattle.kit_behaviour.proofs.ControlFlow.ChainLemmas.{one_before}
use Rattle.kit_views.specs.Reading.{Reading}
use Rattle.kit_views.specs.FlatView.{AreOps, AreFlatBlocks, names_in}
use Rattle.kit_views.proofs.Lists.{Distinct, Sub, sub_all, sub_none, sub_append, sub_has, sub_distinct}
use Rattle.kit_views.proofs.Pairs.{op_pairs, no_blocks}
use Rattle.kit_views.proofs.Read.{Reads}
use Rattle.kit_views.proofs.Uses.{true_false}
use Rattle.kit_views.proofs.Standing.{whole, Given, root_spot, strip}
use Rattle.kit_views.proofs.JoinableBoth.{nothing_behind}
use Rattle.kit_views.proofs.ChainedTree.{NoRegions, bare_ops, BlockAt, Stand, Chained, alone, behind, JoinedFrom}
use Rattle.kit_views.proofs.ChainedTree.{no_more, later, head}

-- 1. lists

pub distinct_both : {X : Type 0} (xs ys : List X) → Distinct xs → Distinct ys → ((x : X) → Has x xs → Has x ys → ⊥) →
    Distinct (xs ++ ys)
distinct_both [] ys a b n = b
distinct_both (x ∷ xs) ys a b n = (
  λ i. ⊎_elim (λ k. a.0 k) (λ k. n x (inl refl) k) (has-append x xs ys i),
  distinct_both xs ys a.1 b (λ z i k. n z (inr i) k),
)

-- all that operations and blocks of a tree have: F gives what an operation has, G what a block has
module _ {N : Names} {S : Contents} {X : Type 0} (F : Head N S → List X) (G : Label N S → List X) where
  abbrev pub all_in : {s : Sort} → Tree N S s → List X
  all_in end = []
  all_in (operation o rs rest) = F o ++ (all_in rs ++ all_in rest)
  all_in (block l os rest) = G l ++ (all_in os ++ all_in rest)
  all_in (region bs rest) = all_in bs ++ all_in rest

  all_append : (os us : Tree N S Operations) → all_in (append os us) ≡ all_in os ++ all_in us
  all_append end us = refl
  all_append (operation o rs more) us =
      ap (λ l. F o ++ (all_in rs ++ l)) (all_append more us)
      ∙ (ap (λ l. F o ++ l) (sym (append_same (all_in rs) (all_in more) (all_in us)))
      ∙ sym (append_same (F o) (all_in rs ++ all_in more) (all_in us)))
    where
      append_same : {Z : Type 0} (ws bs cs : List Z) → (ws ++ bs) ++ cs ≡ ws ++ (bs ++ cs)
      append_same [] bs cs = refl
      append_same (a ∷ ws) bs cs = ap (λ l. a ∷ l) (append_same ws bs cs)

  front_sub : (os : Tree N S Operations) → Sub (all_in (but_last os)) (all_in os)
  front_sub end = refl
  front_sub (operation o rs end) = sub_none (F o ++ (all_in rs ++ []))
  front_sub (operation o rs (operation g qs rest)) =
      sub_append (F o) (F o) (all_in rs ++ all_in (but_last (operation g qs rest)))
      (all_in rs ++ all_in (operation g qs rest)) (sub_all (F o))
      (sub_append (all_in rs) (all_in rs) (all_in (but_last (operation g qs rest))) (all_in (operation g qs rest))
      (sub_all (all_in rs)) (front_sub (operation g qs rest)))

  sub_left : (ws xs ys : List X) → Sub ws xs → Sub ws (xs ++ ys)
  sub_left ws xs ys h = subst (λ z. Sub z (xs ++ ys)) (nothing_behind ws) (sub_append ws xs [] ys h (sub_none ys))

  sub_right : (ws xs ys : List X) → Sub ws ys → Sub ws (xs ++ ys)
  sub_right ws xs ys h = sub_append [] xs ws ys (sub_none xs) h

  -- what an operation of a list has
  pub record FromOp (os : List (Occurrence N S)) (x : X) : Type 0 where
    pub it : Occurrence N S
    pub stands : Has it os
    pub has : Has x (F it.head)

  from_ops : (os : Tree N S Operations) (c : OperationSite N S) → NoRegions os → (x : X) → Has x (all_in os) →
      FromOp (occurrences_in os c) x
  from_ops end c b x i = absurd i
  from_ops (operation o rs more) c b x i =
      ⊎_elim
      (λ k. record { it = record { site = c; head = o; regions = rs }; stands = inl refl; has = k })
      (λ k. ⊎_elim
      (λ y. absurd (subst (λ z. Has x (all_in z)) b.0 y))
      (λ y. let q = from_ops more c b.1 x y in record {
        it = q.it;
        stands =
            inr (has-right q.it (occurrences_in rs (inner o c)) (occurrences_in more c) q.stands);
        has = q.has;
      })
      (has-append x (all_in rs) (all_in more) k))
      (has-append x (F o) (all_in rs ++ all_in more) i)

  -- a block's operations stand in the tree, and so does what they have
  module _ (r : Reading S) (names : List N.block) where
    block_stand : (ts : Tree N S Blocks) (ks : Fun N.value) (c : Spot N S) → AreFlatBlocks r names ts ks →
        (x : BlockOccurrence N S) → Has x (block_occurrences_in ts c) → (o : Occurrence N S) →
        Has o (occurrences_in x.operations (record { spot = x.spot; label = x.label })) → Has o (occurrences_in ts c)
    block_stand end ks c a x i o w = absurd i
    block_stand (block l os more) [] c a x i o w = absurd a
    block_stand (block l os more) (k ∷ ks) c a x i o w =
        ⊎_elim
        (λ e. has-left o (occurrences_in os (record { spot = c; label = l })) (occurrences_in more (next_block c))
        (subst (λ (z : BlockOccurrence N S). Has o (occurrences_in z.operations
        (record { spot = z.spot; label = z.label }))) e w))
        (λ y. ⊎_elim
        (λ z. absurd (no_blocks r names os k.ops (record { spot = c; label = l }) a.1 x z))
        (λ z. has-right o (occurrences_in os (record { spot = c; label = l })) (occurrences_in more (next_block c))
        (block_stand more ks (next_block c) a.2 x z o w))
        (has-append x (block_occurrences_in os (record { spot = c; label = l }))
        (block_occurrences_in more (next_block c)) y)) i

    block_sub : (ts : Tree N S Blocks) (ks : Fun N.value) (c : Spot N S) → AreFlatBlocks r names ts ks →
        (x : BlockOccurrence N S) → Has x (block_occurrences_in ts c) →
        Sub (all_in x.operations) (all_in ts) × Sub (G x.label) (all_in ts)
    block_sub end ks c a x i = absurd i
    block_sub (block l os more) [] c a x i = absurd a
    block_sub (block l os more) (k ∷ ks) c a x i =
        ⊎_elim
        (λ e. subst (λ (z : BlockOccurrence N S). Sub (all_in z.operations) (all_in (block l os more)) × Sub (G z.label)
        (all_in (block l os more))) (sym e) (
          sub_right (all_in os) (G l) (all_in os ++ all_in more)
              (sub_left (all_in os) (all_in os) (all_in more) (sub_all (all_in os))),
          sub_left (G l) (G l) (all_in os ++ all_in more) (sub_all (G l)),
        ))
        (λ y. ⊎_elim
        (λ z. absurd (no_blocks r names os k.ops (record { spot = c; label = l }) a.1 x z))
        (λ z.
        let q = block_sub more ks (next_block c) a.2 x z in
        let up = λ (ws : List X) (m : Sub ws (all_in more)). sub_right ws (G l) (all_in os ++ all_in more)
        (sub_right ws (all_in os) (all_in more) m) in
        (up (all_in x.operations) q.0, up (G x.label) q.1))
        (has-append x (block_occurrences_in os (record { spot = c; label = l }))
        (block_occurrences_in more (next_block c)) y)) i

-- 2. chains

-- the block c is the nth further one in the chain of b
pub data InChain {V : Type 0} (f : Fun V) (j : ℕ → Bool) : ℕ → ℕ → ℕ → Type 0 where
  starts : (b c n : ℕ) → b ≡ c → n ≡ 0 → j c ≡ false → InChain f j b c n
  steps : (b c t n m : ℕ) → m ≡ suc n → BlocksAreJoinable (Some f) c t → InChain f j b c n → InChain f j b t m

chain_one : {V : Type 0} (f : Fun V) (j : ℕ → Bool) → IsJoinedSet (Some f) j → (a b c n m : ℕ) → InChain f j a c n →
    InChain f j b c m → (a ≡ b) × (n ≡ m)
chain_one f j is a b c n m (starts a1 c1 n1 e z w) (starts b2 c2 m2 q y v) = (e ∙ sym q, z ∙ sym y)
chain_one f j is a b c n m (starts a1 c1 n1 e z w) (steps b2 c2 t2 n2 m2 y x g) =
    absurd (true_false (j t2) (is.back c2 t2 x) w)
chain_one f j is a b c n m (steps a1 c1 t1 n1 m1 z x h) (starts b2 c2 m2 q y v) =
    absurd (true_false (j t1) (is.back c1 t1 x) v)
chain_one f j is a b c n m (steps a1 c1 t1 n1 m1 z x h) (steps b2 c2 t2 n2 m2 y w g) =
    let q : c2 ≡ c1 = one_before (Some f) c2 c1 t1 w x in
    let k = chain_one f j is a1 b2 c1 n1 n2 h (subst (λ v. InChain f j b2 v n2) q g) in
    (k.0, z ∙ ap suc k.1 ∙ sym y)

module _ {N : Names} {S : Contents} {X : Type 0} (F : Head N S → List X) (G : Label N S → List X) {A : Type 0}
    (d : Dialect S A) (r : Reading S) (law : Reads d r) (h : Head N S) (bs : Tree N S Blocks) (f : Fun N.value)
    (given : Given r h bs f) (ssa : d.is_ssa h.content 0 ≡ true)
    (good_ends : (b : ℕ) → b < length f → EndsWell (left_in (Some f) b 0))
    (all_reached : (b : ℕ) → b < length f → Reached (Some f) b) (j : ℕ → Bool) (is_taken : IsJoinedSet (Some f) j)
    (apart : Distinct (all_in F G bs))
    (one_op : (o p : Occurrence N S) (x : X) → Has o (occurrences_of (whole r h bs f)) →
    Has p (occurrences_of (whole r h bs f)) → Has x (F o.head) → Has x (F p.head) → o ≡ p)
    (one_block : (y z : BlockOccurrence N S) (x : X) → Has y (block_occurrences_of (whole r h bs f)) →
    Has z (block_occurrences_of (whole r h bs f)) → Has x (G y.label) → Has x (G z.label) → y ≡ z)
    (not_both : (o : Occurrence N S) (y : BlockOccurrence N S) (x : X) → Has o (occurrences_of (whole r h bs f)) →
    Has y (block_occurrences_of (whole r h bs f)) → Has x (F o.head) → Has x (G y.label) → ⊥) where
  abbrev all : {s : Sort} → Tree N S s → List X
  all t = all_in F G t

  abbrev At : ℕ → Label N S → Tree N S Operations → Type 0
  At = BlockAt d r law h bs f given ssa good_ends all_reached

  -- an operation of block c has x
  pub record OfOp (c : ℕ) (x : X) : Type 0 where
    pub it : Occurrence N S
    pub stands : Has it (occurrences_of (whole r h bs f))
    pub name : slice_get (names_in bs) c ≡ Some it.site.label.name
    pub has : Has x (F it.head)

  -- the block c itself has x
  pub record OfBlock (c : ℕ) (x : X) : Type 0 where
    pub it : BlockOccurrence N S
    pub stands : Has it (block_occurrences_of (whole r h bs f))
    pub name : slice_get (names_in bs) c ≡ Some it.label.name
    pub has : Has x (G it.label)

  op_one : (b c : ℕ) (x : X) → OfOp b x → OfOp c x → b ≡ c
  op_one b c x o p =
      let e = one_op o.it p.it x o.stands p.stands o.has p.has in
      given.blocks b c p.it.site.label.name (o.name ∙ ap (λ (z : Occurrence N S). Some z.site.label.name) e) p.name

  block_one : (b c : ℕ) (x : X) → OfBlock b x → OfBlock c x → b ≡ c
  block_one b c x o p =
      let e = one_block o.it p.it x o.stands p.stands o.has p.has in
      given.blocks b c p.it.label.name (o.name ∙ ap (λ (z : BlockOccurrence N S). Some z.label.name) e) p.name

  op_block : (b c : ℕ) (x : X) → OfOp b x → OfBlock c x → ⊥
  op_block b c x o y = not_both o.it y.it x o.stands y.stands o.has y.has

  of_ops : (b : ℕ) (l : Label N S) (os : Tree N S Operations) → At b l os → (x : X) → Has x (all os) → OfOp b x
  of_ops b l os st x i =
      let q = from_ops F G st.it.operations (record { spot = st.it.spot; label = st.it.label })
      (subst NoRegions (sym st.is) (bare_ops r (names_in bs) os st.k.ops st.ops)) x
      (subst (λ z. Has x (all z)) (sym st.is) i) in
      let w = block_stand F G r (names_in bs) bs f (root_spot r h bs f given) given.are st.it
      (strip st.it (block_occurrences_in bs (root_spot r h bs f given)) st.stands) q.it q.stands in
      record {
        it = q.it;
        stands = has-left q.it (occurrences_in bs (root_spot r h bs f given)) [] w;
        name = st.name ∙ ap Some (sym (ap (λ (z : Label N S). z.name) (site_label q.it q.stands ∙ st.label)));
        has = q.has;
      }
    where
      site_label : (o : Occurrence N S) → Has o (occurrences_in st.it.operations
          (record { spot = st.it.spot; label = st.it.label })) → o.site.label ≡ st.it.label
      site_label o w =
          ap (λ (z : OperationSite N S). z.label) (op_pairs r (names_in bs) st.it.operations st.k.ops
          (record { spot = st.it.spot; label = st.it.label })
          (subst (λ z. AreOps r (names_in bs) z st.k.ops) (sym st.is) st.ops) o w).where_it_is

  subs : (b : ℕ) (l : Label N S) (os : Tree N S Operations) → At b l os → Sub (all os) (all bs) × Sub (G l) (all bs)
  subs b l os st =
      let q = block_sub F G r (names_in bs) bs f (root_spot r h bs f given) given.are st.it
      (strip st.it (block_occurrences_in bs (root_spot r h bs f given)) st.stands) in
      (subst (λ z. Sub (all z) (all bs)) st.is q.0, subst (λ z. Sub (G z) (all bs)) st.label q.1)

  -- x is of an operation of the chain of b, of its nth block at the least
  pub record InChainOf (b n : ℕ) (x : X) : Type 0 where
    pub c : ℕ
    pub m : ℕ
    pub chain : InChain f j b c m
    pub least : n ≤ m
    pub of : OfOp c x

  pub record Joined (b n : ℕ) (os : Tree N S Operations) : Type 0 where
    pub distinct : Distinct (all os)
    pub of : (x : X) → Has x (all os) → InChainOf b n x

  chained_names : (b : ℕ) (os us : Tree N S Operations) →
      Chained d r law h bs f given ssa good_ends all_reached b os us → (l : Label N S) → At b l os → (t n : ℕ) →
      InChain f j t b n → Joined t n us
  chained_names _ _ _ (alone b os none) l st t n ch = record {
    distinct = sub_distinct (all os) (all bs) (subs b l os st).0 apart;
    of = λ x i. record { c = b; m = n; chain = ch; least = omega arith; of = of_ops b l os st x i };
  }
  chained_names _ _ _ (behind b u os more others y x w ch2) l st t n ch =
      let ih = chained_names u more others ch2 y w t (suc n) (steps t b u n (suc n) refl x ch) in
      let own = front_sub F G os in
      record {
        distinct = subst Distinct (sym (all_append F G (but_last os) others))
            (distinct_both (all (but_last os)) (all others)
            (sub_distinct (all (but_last os)) (all os) own (sub_distinct (all os) (all bs) (subs b l os st).0 apart))
            ih.distinct
            (λ x i k.
            let p = of_ops b l os st x (sub_has (all (but_last os)) (all os) x own i) in
            let q = ih.of x k in
            let e : q.c ≡ b = op_one q.c b x q.of p in
            let one = chain_one f j is_taken t t b q.m n (subst (λ z. InChain f j t z q.m) e q.chain) ch in
            absurd (omega (arith, one.1, q.least))));
        of = λ x i.
            ⊎_elim
            (λ k. record {
              c = b;
              m = n;
              chain = ch;
              least = omega arith;
              of =
                  of_ops b l os st x (sub_has (all (but_last os)) (all os) x own k);
            })
            (λ k. let q = ih.of x k in record {
              c = q.c;
              m = q.m;
              chain = q.chain;
              least = omega (arith, q.least);
              of =
                  q.of;
            })
            (has-append x (all (but_last os)) (all others) (subst (Has x) (all_append F G (but_last os) others) i));
      }

  -- 3. blocks

  -- x is of a chain that begins at the ith block or behind it
  pub record InBlocks (i : ℕ) (x : X) : Type 0 where
    pub b : ℕ
    pub least : i ≤ b
    pub of : InChainOf b 0 x ⊎ OfBlock b x

  pub record JoinedBlocks (i : ℕ) (ts : Tree N S Blocks) : Type 0 where
    pub distinct : Distinct (all ts)
    pub of : (x : X) → Has x (all ts) → InBlocks i x

  one_of : (b c : ℕ) (x : X) → InChainOf b 0 x ⊎ OfBlock b x → InChainOf c 0 x ⊎ OfBlock c x → b ≡ c
  one_of b c x u v =
      ⊎_elim
      (λ (p : InChainOf b 0 x). ⊎_elim
      (λ (q : InChainOf c 0 x).
      let e : q.c ≡ p.c = op_one q.c p.c x q.of p.of in
      (chain_one f j is_taken b c p.c p.m q.m p.chain (subst (λ z. InChain f j c z q.m) e q.chain)).0)
      (λ (q : OfBlock c x). absurd (op_block p.c c x p.of q)) v)
      (λ (p : OfBlock b x). ⊎_elim
      (λ (q : InChainOf c 0 x). absurd (op_block q.c b x q.of p))
      (λ (q : OfBlock c x). block_one b c x p q) v) u

  of_block : (b : ℕ) (l : Label N S) (os : Tree N S Operations) → At b l os → (x : X) → Has x (G l) → OfBlock b x
  of_block b l os st x i = record {
    it = st.it;
    stands = st.stands;
    name = st.name ∙ ap (λ (z : Label N S). Some z.name) (sym st.label);
    has = subst (λ z. Has x (G z)) (sym st.label) i;
  }

  pub joined_names : (i : ℕ) (ts more : Tree N S Blocks) →
      JoinedFrom d r law h bs f given ssa good_ends all_reached j i ts more →
      Stand d r law h bs f given ssa good_ends all_reached i ts → JoinedBlocks i more
  joined_names _ _ _ (no_more i) st = record { distinct = tt; of = λ x w. absurd w }
  joined_names _ _ _ (later i l os rest more q x) st =
      let ih = joined_names (suc i) rest more x st.1 in
      record {
        distinct = ih.distinct;
        of = λ x w. let g =
            ih.of x w in record { b = g.b; least = omega (arith, g.least); of = g.of };
      }
  joined_names _ _ _ (head i l os us rest more q c x) st =
      let ih = joined_names (suc i) rest more x st.1 in
      let ch = chained_names i os us c l st.0 i 0 (starts i i 0 refl refl q) in
      record {
        distinct =
            distinct_both (G l) (all us ++ all more) (sub_distinct (G l) (all bs) (subs i l os st.0).1 apart)
            (distinct_both (all us) (all more) ch.distinct ih.distinct
            (λ x k w. behind_it x (inl (ch.of x k)) (ih.of x w)))
            (λ x k w. ⊎_elim
            (λ y. op_block (ch.of x y).c i x (ch.of x y).of (of_block i l os st.0 x k))
            (λ y. behind_it x (inr (of_block i l os st.0 x k)) (ih.of x y))
            (has-append x (all us) (all more) w));
        of = λ x w.
            ⊎_elim
            (λ k. record { b = i; least = omega arith; of = inr (of_block i l os st.0 x k) })
            (λ k. ⊎_elim
            (λ y. record { b = i; least = omega arith; of = inl (ch.of x y) })
            (λ y. let g = ih.of x y in record { b = g.b; least = omega (arith, g.least); of = g.of })
            (has-append x (all us) (all more) k))
            (has-append x (G l) (all us ++ all more) w);
      }
    where
      behind_it : (x : X) → InChainOf i 0 x ⊎ OfBlock i x → InBlocks (suc i) x → ⊥
      behind_it x u v = let e : i ≡ v.b = one_of i v.b x u v.of in omega (arith, e, v.least)
