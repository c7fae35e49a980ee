-- Blocks that may be joined behind another, in the tree of a function and in its flat view.
use Rattle.std.proofs.Common.{◌≡◌, ⊎_elim, inl, inr, ℕ, zero, suc, ◌<◌, Bool, true, false, List, [], ◌∷◌, ◌++◌, map}
use Rattle.std.proofs.Common.{length, Option, Some, None, refl, sym, ap, ◌∙◌, subst, arith}
use Rattle.std.specs.Prelude.{slice_get, if◌then◌else◌, nat_eq}
use Rattle.std.proofs.lemmas.Bool.{eqb-true}
use Rattle.ir_trees.specs.Names.{Names, Contents}
use Rattle.ir_trees.specs.Renames.{names_of}
use Rattle.ir_trees.specs.Trees.{Defined, Head, Operations, Blocks, Tree, end, operation, block}
use Rattle.opt_trees.specs.Dialect.{Dialect}
use Rattle.opt_trees.specs.Occurrences.{Has, Occurrence, OperationSite, Spot, inner, next_block, occurrences_in, occurrences_of}
use Rattle.opt_trees.specs.Simplify as trees
use Rattle.opt_trees.specs.Simplify.{is_empty, is_end, of_place, all_of, IsVisitedSsa}
use Rattle.opt_trees.proofs.Lists.{some_same, none_some, length-map}
use Rattle.opt_trees.proofs.NoneDead.{has-append}
use Rattle.kit_behaviour.specs.Machine.{Edge, Op, Const, Calc, Emit, Call, Branch, Return, Block, Fun, ops_left}
use Rattle.kit_behaviour.specs.Machine.{left_in}
use Rattle.kit_behaviour.specs.Rules.{is_terminator, EndsWell}
use Rattle.kit_behaviour.specs.SimplifiedBlocks.{edges_of, all_edges, LeadsTo, Reached, lone, last_edge, count_to}
use Rattle.kit_behaviour.specs.SimplifiedBlocks.{blocks_edges, BlocksAreJoinable}
use Rattle.kit_behaviour.proofs.ControlFlow.ChainLemmas.{count_append, head_count, one_place, joinable_leads}
use Rattle.kit_behaviour.proofs.ControlFlow.NamedChains.{no_edges}
use Rattle.kit_views.specs.Reading.{Reading}
use Rattle.kit_views.specs.FlatView.{IsOp, AreOps, AreFlatBlocks, names_in}
use Rattle.kit_views.proofs.Lists.{Distinct, has_get, at_has, to_distinct}
use Rattle.kit_views.proofs.Read.{Reads}
use Rattle.kit_views.proofs.Forwarded.{IsForwarding, from_branch, get_below}
use Rattle.kit_views.proofs.Pairs.{first_at, op_pairs, pairs}
use Rattle.kit_views.proofs.Uses.{true_false, and_both}
use Rattle.kit_views.proofs.Standing.{whole, Given, root_spot, strip, pair, back, block_pair, block_back, leads_by}
use Rattle.kit_views.proofs.ReachedBoth.{successors_are, leads_some, some_leads, at_leads, named_block, edge_to}
use Rattle.kit_views.proofs.ReachedBoth.{reached_back}

-- 1. lists of operations and edges

pub nothing_behind : {X : Type 0} (xs : List X) → xs ++ [] ≡ xs
nothing_behind [] = refl
nothing_behind (x ∷ xs) = ap (λ l. x ∷ l) (nothing_behind xs)

zero_suc : (n : ℕ) → suc n ≡ 0 → ⊥
zero_suc n e = cc e

suc_same : (m n : ℕ) → suc m ≡ suc n → m ≡ n
suc_same m n e = cc e

module _ {V : Type 0} where
  -- a terminator is the last operation, and has all edges
  last_is : (ps : List (Op V)) → EndsWell ps → (p : Op V) → Has p ps → is_terminator p ≡ true →
      (last_edge ps ≡ lone p) × (all_edges ps ≡ edges_of p)
  last_is [] w p i t = absurd i
  last_is (q ∷ []) w p i t =
      ⊎_elim (λ e. (ap lone (sym e), nothing_behind (edges_of q) ∙ ap edges_of (sym e))) (λ k. absurd k) i
  last_is (q ∷ z ∷ ps) w p i t =
      ⊎_elim (λ e. absurd (true_false (is_terminator q) (ap is_terminator (sym e) ∙ t) w.0))
      (λ k. let m = last_is (z ∷ ps) w.1 p k t in (m.0, ap (λ l. l ++ all_edges (z ∷ ps)) (no_edges q w.0) ∙ m.1)) i

  leads_ends : (t : ℕ) (p : Op V) → LeadsTo t (edges_of p) → is_terminator p ≡ true
  leads_ends t (Const r n) l = absurd l
  leads_ends t (Calc a w r x y) l = absurd l
  leads_ends t (Emit x) l = absurd l
  leads_ends t (Call rs c xs) l = absurd l
  leads_ends t (Branch s xs e es) l = refl
  leads_ends t (Return xs) l = absurd l

  -- an operation of one edge
  one_lone : (p : Op V) (e : Edge V) → length (edges_of p) ≡ 1 → slice_get (edges_of p) 0 ≡ Some e → lone p ≡ Some e
  one_lone (Const r n) e l q = absurd (none_some e q)
  one_lone (Calc a w r x y) e l q = absurd (none_some e q)
  one_lone (Emit x) e l q = absurd (none_some e q)
  one_lone (Call rs c xs) e l q = absurd (none_some e q)
  one_lone (Branch s xs x []) e l q = q
  one_lone (Branch s xs x (y ∷ ys)) e l q = absurd (omega (arith, l))
  one_lone (Return xs) e l q = absurd (none_some e q)

  lone_edges : (p : Op V) (e : Edge V) → lone p ≡ Some e → edges_of p ≡ e ∷ []
  lone_edges (Const r n) e q = absurd (none_some e q)
  lone_edges (Calc a w r x y) e q = absurd (none_some e q)
  lone_edges (Emit x) e q = absurd (none_some e q)
  lone_edges (Call rs c xs) e q = absurd (none_some e q)
  lone_edges (Branch s xs x []) e q = ap (λ z. z ∷ []) (some_same x e q)
  lone_edges (Branch s xs x (y ∷ ys)) e q = absurd (none_some e q)
  lone_edges (Return xs) e q = absurd (none_some e q)

  pub record LastOp (ps : List (Op V)) (e : Edge V) : Type 0 where
    pub op : Op V
    pub stands : Has op ps
    pub lone : lone op ≡ Some e

  last_op : (ps : List (Op V)) (e : Edge V) → last_edge ps ≡ Some e → LastOp ps e
  last_op [] e q = absurd (none_some e q)
  last_op (p ∷ []) e q = record { op = p; stands = inl refl; lone = q }
  last_op (p ∷ z ∷ ps) e q = let m = last_op (z ∷ ps) e q in record { op = m.op; stands = inr m.stands; lone = m.lone }

  -- how many edges lead to a block

  count_none : (t : ℕ) (es : List (Edge V)) → (LeadsTo t es → ⊥) → count_to t es ≡ 0
  count_none t [] h = refl
  count_none t (e ∷ es) h = by_test (nat_eq e.target t) refl (count_none t es (λ l. h (inr l)))
    where
      by_test : (b : Bool) → nat_eq e.target t ≡ b → count_to t es ≡ 0 →
          (if nat_eq e.target t then suc (count_to t es) else count_to t es) ≡ 0
      by_test true q ih = absurd (h (inl (eqb-true e.target t q)))
      by_test false q ih = ap (λ b. if b then suc (count_to t es) else count_to t es) q ∙ ih

  count_zero : (t : ℕ) (ks : List (Block V)) → ((c : ℕ) → count_to t (all_edges (left_in (Some ks) c 0)) ≡ 0) →
      count_to t (blocks_edges ks) ≡ 0
  count_zero t [] h = refl
  count_zero t (k ∷ ks) h = let a = h 0 in let m = count_zero t ks (λ c. h (suc c)) in omega
      (arith, count_append t (all_edges k.ops) (blocks_edges ks), a, m)

  count_one : (t : ℕ) (ks : List (Block V)) (b : ℕ) →
      ((c : ℕ) → (c ≡ b → ⊥) → count_to t (all_edges (left_in (Some ks) c 0)) ≡ 0) →
      count_to t (all_edges (left_in (Some ks) b 0)) ≡ 1 → count_to t (blocks_edges ks) ≡ 1
  count_one t [] b h e = absurd (omega (arith, e))
  count_one t (k ∷ ks) zero h e =
      let m = count_zero t ks (λ c. h (suc c) (zero_suc c)) in
      omega (arith, count_append t (all_edges k.ops) (blocks_edges ks), e, m)
  count_one t (k ∷ ks) (suc b) h e =
      let a = h 0 (λ q. zero_suc b (sym q)) in
      let m = count_one t ks b (λ c ne. h (suc c) (λ q. ne (suc_same c b q))) e in
      omega (arith, count_append t (all_edges k.ops) (blocks_edges ks), a, m)

-- 2. where operations stand

module _ {N : Names} {S : Contents} (r : Reading S) (names : List N.block) where
  -- operations stand in the region of the root
  site_spot : (ts : Tree N S Blocks) (ks : Fun N.value) (c : Spot N S) → AreFlatBlocks r names ts ks →
      (o : Occurrence N S) → Has o (occurrences_in ts c) →
      (o.site.spot.owner ≡ c.owner) × (o.site.spot.region ≡ c.region)
  site_spot end ks c a o i = absurd i
  site_spot (block l os more) [] c a o i = absurd a
  site_spot (block l os more) (k ∷ ks) c a o i =
      ⊎_elim
      (λ y. let q = op_pairs r names os k.ops (record { spot = c; label = l }) a.1 o y in
      (ap (λ (z : OperationSite N S). z.spot.owner) q.where_it_is, ap (λ (z : OperationSite N S). z.spot.region) q.where_it_is))
      (λ y. site_spot more ks (next_block c) a.2 o y)
      (has-append o (occurrences_in os (record { spot = c; label = l })) (occurrences_in more (next_block c)) i)

  -- it names a successor
  Leads : Occurrence N S → Type 0
  Leads o = (n : N.block) × Has n o.head.successors

  no_leads : (o : Head N S) (p : Op N.value) → IsOp r names o p → is_terminator p ≡ false → (n : N.block) →
      Has n o.successors → ⊥
  no_leads o p is e n i =
      let a = at_has o.successors n i in
      let q : map Some o.successors ≡ [] = successors_are r names o p is
      ∙ ap (map (λ (x : Edge N.value). slice_get names x.target)) (no_edges p e) in
      none_at o.successors n a.place q a.is
    where
      none_at : (xs : List N.block) (n : N.block) (i : ℕ) → map Some xs ≡ [] → slice_get xs i ≡ Some n → ⊥
      none_at [] n i q w = none_some n w
      none_at (x ∷ xs) n i q w = cc q

  -- of the operations of a block one names successors
  one_end_ops : (os : Tree N S Operations) (ps : List (Op N.value)) (c : OperationSite N S) → AreOps r names os ps →
      EndsWell ps → (o z : Occurrence N S) → Has o (occurrences_in os c) → Has z (occurrences_in os c) → Leads o →
      Leads z → o ≡ z
  unfolding Leads
  one_end_ops end ps c a w o z i k lo lz = absurd i
  one_end_ops (operation h rs more) [] c a w o z i k lo lz = absurd a
  one_end_ops (operation h rs end) (p ∷ []) c a w o z i k lo lz = it o i ∙ sym (it z k)
    where
      it : (o : Occurrence N S) → Has o (occurrences_in (operation h rs end) c) →
          o ≡ record { site = c; head = h; regions = rs }
      it o i = ⊎_elim (λ e. e) (λ x. ⊎_elim (λ y. absurd (subst (λ z. Has o (occurrences_in z (inner h c))) a.0 y))
          (λ y. absurd y) (has-append o (occurrences_in rs (inner h c)) [] x)) i
  one_end_ops (operation h rs end) (p ∷ q ∷ ps) c a w o z i k lo lz = absurd a.2
  one_end_ops (operation h rs (operation g qs more)) (p ∷ []) c a w o z i k lo lz = absurd a.2
  one_end_ops (operation h rs (operation g qs more)) (p ∷ q ∷ ps) c a w o z i k lo lz =
      one_end_ops (operation g qs more) (q ∷ ps) c a.2 w.1 o z (later o i lo) (later z k lz) lo lz
    where
      later : (o : Occurrence N S) → Has o (occurrences_in (operation h rs (operation g qs more)) c) → Leads o →
          Has o (occurrences_in (operation g qs more) c)
      later o i l =
          ⊎_elim (λ e. absurd (no_leads h p a.1 w.0 l.0 (subst
          (λ (x : Occurrence N S). Has l.0 x.head.successors) e l.1)))
          (λ x. ⊎_elim (λ y. absurd (subst (λ z. Has o (occurrences_in z (inner h c))) a.0 y)) (λ y. y)
          (has-append o (occurrences_in rs (inner h c)) (occurrences_in (operation g qs more) c) x)) i

  one_end : (ts : Tree N S Blocks) (ks : Fun N.value) (c : Spot N S) → AreFlatBlocks r names ts ks →
      Distinct (names_in ts) → ((b : ℕ) → b < length ks → EndsWell (left_in (Some ks) b 0)) → (o z : Occurrence N S) →
      Has o (occurrences_in ts c) → Has z (occurrences_in ts c) → o.site.label.name ≡ z.site.label.name →
      (n : N.block) → Has n o.head.successors → Has n z.head.successors → o ≡ z
  unfolding Leads
  one_end end ks c a dn w o z i k e n lo lz = absurd i
  one_end (block l os more) [] c a dn w o z i k e n lo lz = absurd a
  one_end (block l os more) (j ∷ ks) c a dn w o z i k e n lo lz =
      ⊎_elim
      (λ x. ⊎_elim
      (λ y. one_end_ops os j.ops (record { spot = c; label = l }) a.1 (w 0 (omega arith)) o z x y (n, lo) (n, lz))
      (λ y. absurd (apart z o y x (sym e)))
      (has-append z (occurrences_in os (record { spot = c; label = l })) (occurrences_in more (next_block c)) k))
      (λ x. ⊎_elim
      (λ y. absurd (apart o z x y e))
      (λ y. one_end more ks (next_block c) a.2 dn.1 (λ b lt. w (suc b) (omega (arith, lt))) o z x y e n lo lz)
      (has-append z (occurrences_in os (record { spot = c; label = l })) (occurrences_in more (next_block c)) k))
      (has-append o (occurrences_in os (record { spot = c; label = l })) (occurrences_in more (next_block c)) i)
    where
      apart : (o z : Occurrence N S) → Has o (occurrences_in more (next_block c)) →
          Has z (occurrences_in os (record { spot = c; label = l })) → o.site.label.name ≡ z.site.label.name → ⊥
      apart o z x y e =
          let p = pairs r names more ks (next_block c) a.2 o x in
          let q = op_pairs r names os j.ops (record { spot = c; label = l }) a.1 z y in
          dn.0 (has_get (names_in more) p.place l.name (p.name
          ∙ ap Some (e ∙ ap (λ (s : OperationSite N S). s.label.name) q.where_it_is)))

-- 3. both

no_results : {V X : Type 0} (ds : List (Defined V X)) → names_of ds ≡ [] → is_empty ds ≡ true
no_results [] e = refl
no_results (x ∷ ds) e = absurd (cc e)

not_first : (t : ℕ) → (t ≡ 0 → ⊥) → first_at true t ≡ false
not_first zero h = absurd (h refl)
not_first (suc t) h = refl

one_successor : {B : Type 0} (xs : List B) (m : B) → map Some xs ≡ Some m ∷ [] → xs ≡ m ∷ []
one_successor [] m e = absurd (cc e)
one_successor (x ∷ []) m e = ap (λ z. z ∷ []) (some_same x m (cc e))
one_successor (x ∷ y ∷ xs) m e = absurd (cc e)

module _ {N : Names} {S : Contents} {A : Type 0} (d : Dialect S A) (r : Reading S) (law : Reads d r) (h : Head N S)
    (bs : Tree N S Blocks) (f : Fun N.value) (given : Given r h bs f) (ssa : d.is_ssa h.content 0 ≡ true)
    (ends : (b : ℕ) → b < length f → EndsWell (left_in (Some f) b 0))
    (all_reached : (b : ℕ) → b < length f → Reached (Some f) b) where
  abbrev pub JoinableThere : N.block → N.block → Type 0
  JoinableThere n m = trees.Joinable d (all_of (whole r h bs f)) (whole r h bs f) n m

  pub ends_at : (b : ℕ) (k : Block N.value) → slice_get f b ≡ Some k → EndsWell k.ops
  ends_at b k e = subst (λ o. EndsWell (ops_left o 0)) e (ends b (get_below f b k e))

  pub lone_forwarding : (o : Head N S) (p : Op N.value) (e : Edge N.value) → IsOp r (names_in bs) o p →
      lone p ≡ Some e → (xs : List N.value) × IsForwarding d (names_in bs) o xs (e ∷ [])
  lone_forwarding o (Branch s xs x []) e is q = (
    xs,
    subst (λ z. IsForwarding d (names_in bs) o xs (z ∷ []))
        (some_same x e q) (from_branch d r law (names_in bs) o s xs x [] is),
  )
  lone_forwarding o (Branch s xs x (y ∷ ys)) e is q = absurd (none_some e q)
  lone_forwarding o (Const v n) e is q = absurd (none_some e q)
  lone_forwarding o (Calc a w v x y) e is q = absurd (none_some e q)
  lone_forwarding o (Emit x) e is q = absurd (none_some e q)
  lone_forwarding o (Call rs c xs) e is q = absurd (none_some e q)
  lone_forwarding o (Return xs) e is q = absurd (none_some e q)

  -- the flat operation that a block of a chain ends in
  pub record FlatEnd (o : Occurrence N S) (n m : N.block) : Type 0 where
    pub place : ℕ
    pub k : Block N.value
    pub at : slice_get f place ≡ Some k
    pub name : slice_get (names_in bs) place ≡ Some n
    pub op : Op N.value
    pub stands : Has op k.ops
    pub is : IsOp r (names_in bs) o.head op
    pub e : Edge N.value
    pub alone : lone op ≡ Some e
    pub target : slice_get (names_in bs) e.target ≡ Some m

  pub flat_end : (n m : N.block) (x : JoinableThere n m) → FlatEnd x.last n m
  flat_end n m x =
      let p = pair r h bs f given x.last x.stands in
      let e = edge_to r h bs f given x.last.head p.op m p.is 0 (ap (λ z. slice_get z 0) x.leads) in
      let len : length (edges_of p.op) ≡ 1 =
      sym (length-map (λ (z : Edge N.value). slice_get (names_in bs) z.target) (edges_of p.op))
      ∙ (ap length (sym (successors_are r (names_in bs) x.last.head p.op p.is))
      ∙ ap (λ z. length (map Some z)) x.leads) in
      record {
        place = p.place;
        k = p.k;
        at = p.at;
        name = p.name ∙ ap Some x.in_block;
        op = p.op;
        stands = p.stands;
        is = p.is;
        e = e.e;
        alone = one_lone p.op e.e len e.at;
        target = e.name;
      }

  pub end_edges : (n m : N.block) (o : Occurrence N S) (q : FlatEnd o n m) →
      (last_edge q.k.ops ≡ Some q.e) × (all_edges q.k.ops ≡ q.e ∷ [])
  end_edges n m o q =
      let l = lone_edges q.op q.e q.alone in
      let t = leads_ends q.e.target q.op (subst (LeadsTo q.e.target) (sym l) (inl refl)) in
      let s = last_is q.k.ops (ends_at q.place q.k q.at) q.op q.stands t in
      (s.0 ∙ q.alone, s.1 ∙ l)

  -- an operation that leads to the flat block t names it
  pub record NamesIt (c t : ℕ) : Type 0 where
    pub it : Occurrence N S
    pub stands : Has it (occurrences_of (whole r h bs f))
    pub name : slice_get (names_in bs) c ≡ Some it.site.label.name
    pub target : N.block
    pub is : slice_get (names_in bs) t ≡ Some target
    pub leads : Has target it.head.successors

  names_it : (c t : ℕ) → LeadsTo t (all_edges (left_in (Some f) c 0)) → NamesIt c t
  names_it c t l = by_block (slice_get f c) refl l
    where
      by_block : (o : Option (Block N.value)) → slice_get f c ≡ o → LeadsTo t (all_edges (ops_left o 0)) → NamesIt c t
      by_block None e l = absurd l
      by_block (Some k) e l =
          let s = leads_some t k.ops l in
          let q = back r h bs f given c k s.op e s.stands in
          let y = leads_by (names_in bs) q.it.head.successors (edges_of s.op)
          (successors_are r (names_in bs) q.it.head s.op q.is) s.place s.e s.at in
          record {
            it = q.it;
            stands = q.stands;
            name = q.name;
            target = y.b;
            is = ap (slice_get (names_in bs)) (sym s.is) ∙ y.name;
            leads = has_get q.it.head.successors s.place y.b y.successor;
          }

  pub to_flat_join : (n m : N.block) → JoinableThere n m → (b t : ℕ) → slice_get (names_in bs) b ≡ Some n →
      slice_get (names_in bs) t ≡ Some m → BlocksAreJoinable (Some f) b t
  to_flat_join n m x b t nb mt =
      let q = flat_end n m x in
      let l = end_edges n m x.last q in
      let z : q.e.target ≡ t = given.blocks q.e.target t m q.target mt in
      let at_b : q.place ≡ b = given.blocks q.place b n q.name nb in
      let y = block_pair r h bs f given x.target x.target_stands in
      let at_t : y.place ≡ t = given.blocks y.place t m (y.same.name ∙ ap Some x.target_name) mt in
      let here : count_to t (all_edges (left_in (Some f) q.place 0)) ≡ 1 =
      ap (λ o. count_to t (all_edges (ops_left o 0))) q.at ∙ (ap (count_to t) l.1 ∙ head_count t q.e [] z) in
      subst (λ w. BlocksAreJoinable (Some f) w t) at_b (record {
        edge = q.e;
        last = ap (λ o. last_edge (ops_left o 0)) q.at ∙ l.0;
        target = z;
        not_entry = λ w. true_false x.target.spot.first (y.same.first ∙ ap (first_at true) (at_t ∙ w)) x.not_entry;
        other = λ w. x.other (some_same n m (sym q.name ∙ (ap (slice_get (names_in bs)) w ∙ mt)));
        single = count_one t f q.place (λ c ne. count_none t (all_edges (left_in (Some f) c 0))
            (λ l. elsewhere q.place q.name c ne l)) here;
      })
    where
      elsewhere : (place : ℕ) → slice_get (names_in bs) place ≡ Some n → (c : ℕ) → (c ≡ place → ⊥) →
          LeadsTo t (all_edges (left_in (Some f) c 0)) → ⊥
      elsewhere place name c ne l =
          let w = names_it c t l in
          let u : w.target ≡ m = some_same w.target m (sym w.is ∙ mt) in
          let one : w.it ≡ x.last = x.single w.it w.stands (subst (λ v. Has v w.it.head.successors) u w.leads) in
          ne (given.blocks c place n (w.name ∙ ap Some (ap (λ (o : Occurrence N S). o.site.label.name) one
          ∙ x.in_block)) name)

  visited : (o : Occurrence N S) → Has o (occurrences_of (whole r h bs f)) →
      IsVisitedSsa d (all_of (whole r h bs f)) (whole r h bs f) o.site.spot
  visited o i =
      let s = site_spot r (names_in bs) bs f (root_spot r h bs f given) given.are o
      (strip o (occurrences_in bs (root_spot r h bs f given)) i) in
      record {
        visited = of_place o.site.spot.owner.name o.site.spot.region (inl (ap (λ (z : Head N S). z.name) s.0));
        ssa = (λ k. d.is_ssa (s.0 k).content (s.1 k)) ∙ ssa;
      }

  -- the operation of the tree that a flat block of a chain ends in
  pub to_tree_join : (b t : ℕ) → BlocksAreJoinable (Some f) b t → (n m : N.block) → slice_get (names_in bs) b ≡ Some n →
      slice_get (names_in bs) t ≡ Some m → JoinableThere n m
  to_tree_join b t x n m nb mt = by_block (slice_get f b) refl x.last
    where
      by_block : (o : Option (Block N.value)) → slice_get f b ≡ o → last_edge (ops_left o 0) ≡ Some x.edge →
          JoinableThere n m
      by_block None e l = absurd (none_some x.edge l)
      by_block (Some k) e l =
          let p = last_op k.ops x.edge l in
          let q = back r h bs f given b k p.op e p.stands in
          let w = lone_forwarding q.it.head p.op x.edge q.is p.lone in
          let kt = named_block r (names_in bs) bs f given.are t m mt in
          let y = block_back r h bs f given t kt.0 kt.1 in
          record {
            last = q.it;
            stands = q.stands;
            in_block = some_same q.it.site.label.name n (sym q.name ∙ nb);
            visited = visited q.it q.stands;
            reached = reached_back r h bs f given b n (all_reached b (get_below f b k e)) nb;
            bare = and_both _ _ w.1.branch (and_both _ _ (no_results q.it.head.results w.1.results)
                (ap is_end q.regions));
            leads = one_successor q.it.head.successors m (w.1.successors
                ∙ ap (λ z. z ∷ []) (ap (slice_get (names_in bs)) x.target ∙ mt));
            target = y.it;
            target_stands = y.stands;
            target_name = some_same y.it.label.name m (sym y.same.name ∙ mt);
            not_entry = y.same.first ∙ not_first t x.not_entry;
            other = λ z. x.other (given.blocks b t n nb (mt ∙ ap Some (sym z)));
            single = λ o i s. one_other q.it q.stands (some_same q.it.site.label.name n (sym q.name ∙ nb))
                (subst (Has m) (sym (one_successor q.it.head.successors m
                (w.1.successors ∙ ap (λ z. z ∷ []) (ap (slice_get (names_in bs)) x.target ∙ mt)))) (inl refl)) o i s;
          }
        where
          one_other : (z : Occurrence N S) → Has z (occurrences_of (whole r h bs f)) → z.site.label.name ≡ n →
              Has m z.head.successors → (o : Occurrence N S) → Has o (occurrences_of (whole r h bs f)) →
              Has m o.head.successors → o ≡ z
          one_other z iz ez sz o i s =
              let p = pair r h bs f given o i in
              let a = at_has o.head.successors m s in
              let g = edge_to r h bs f given o.head p.op m p.is a.place a.is in
              let u : g.e.target ≡ t = given.blocks g.e.target t m g.name mt in
              let lead : LeadsTo t (all_edges (left_in (Some f) p.place 0)) =
              subst (λ o. LeadsTo t (all_edges (ops_left o 0))) (sym p.at)
              (some_leads t p.k.ops p.op p.stands (subst (λ v. LeadsTo v (edges_of p.op)) u
              (at_leads (edges_of p.op) a.place g.e g.at))) in
              let c : p.place ≡ b = one_place t (Some f) p.place b x.single lead (joinable_leads (Some f) b t x) in
              let label : o.site.label.name ≡ z.site.label.name =
              some_same o.site.label.name z.site.label.name
              (sym p.name ∙ (ap (slice_get (names_in bs)) c ∙ (nb ∙ ap Some (sym ez)))) in
              one_end r (names_in bs) bs f (root_spot r h bs f given) given.are
              (to_distinct (names_in bs) given.blocks) ends o z
              (strip o (occurrences_in bs (root_spot r h bs f given)) i)
              (strip z (occurrences_in bs (root_spot r h bs f given)) iz) label m s sz
