-- The flat view of a tree without some of its blocks: those to which no block that stays leads.
use Rattle.std.proofs.Common.{◌≡◌, inl, inr, ℕ, zero, suc, ◌+◌, Bool, true, false, List, [], ◌∷◌, ◌++◌, map, Option}
use Rattle.std.proofs.Common.{Some, refl, sym, ap, ◌∙◌, subst, arith}
use Rattle.std.specs.Prelude.{slice_get, if◌then◌else◌, not}
use Rattle.ir_trees.specs.Names.{Names, Contents}
use Rattle.ir_trees.specs.Renames.{names_of}
use Rattle.ir_trees.specs.Searched.{heads_in}
use Rattle.ir_trees.specs.Trees.{Head, Sort, Operations, Blocks, Tree, end, operation, block, region, Root}
use Rattle.opt_trees.specs.Dialect.{Dialect}
use Rattle.opt_trees.specs.Occurrences.{BlockOccurrence, defined_in}
use Rattle.opt_trees.specs.Simplify as trees
use Rattle.opt_trees.specs.Simplify.{IsUnreached, IsVisitedSsa, of_place, all_of, IsCut}
use Rattle.opt_trees.proofs.Lists.{map-append, some_same, length-map}
use Rattle.kit_behaviour.specs.Facts.{all_forwarded}
use Rattle.kit_behaviour.specs.Machine.{AllEdges, Edge, Plain, Nonzero, Cases, Op, Const, Calc, Emit, Call, Branch}
use Rattle.kit_behaviour.specs.Machine.{Return, Block, Fun, left_in}
use Rattle.kit_behaviour.specs.SimplifiedBlocks.{edges_of, all_edges, Reached, further, IsReachedSet, between}
use Rattle.kit_behaviour.specs.SimplifiedBlocks.{retarget_edge, retarget, retarget_block, keep_blocks}
use Rattle.kit_behaviour.proofs.ControlFlow.ChainLemmas.{in_leads}
use Rattle.kit_behaviour.proofs.ControlFlow.JoiningPremises.{edges_by}
use Rattle.kit_behaviour.proofs.ControlFlow.KeptBlocks.{edges_front, edges_rest, keep_fits}
use Rattle.ir_base.specs.declared.types.TypeHandle.{TypeHandle}
use Rattle.kit_ops.specs.declared.kinds.KitOp.{KitOp}
use Rattle.kit_ops.specs.declared.types.KitType.{KitType}
use Rattle.kit.specs.Meaning.{kit, is_module}
use Rattle.kit_views.specs.Reading.{Reading, kit_contents, kit_reading}
use Rattle.kit_views.specs.FlatView.{IsOf, IsOp, AreOps, AreFlatBlocks, names_in, FlattensTo}
use Rattle.kit_views.specs.Laws.{IsCutFlat}
use Rattle.kit_views.proofs.Lists.{Sub, sub_all, sub_none, sub_append, sub_distinct, to_distinct, from_distinct}
use Rattle.kit_views.proofs.Pairs.{AreSame}
use Rattle.kit_views.proofs.Uses.{bool_same, not_false, not_true}
use Rattle.kit_views.proofs.Standing.{whole, Given, root_spot, block_back}
use Rattle.kit_views.proofs.FlatRemoval.{given_of}
use Rattle.kit_views.proofs.ReachedBoth.{flat_set, set_reached, set_same, named_block}

-- 1. names that stay are some of those that were there

module _ {N : Names} {S : Contents} (g : N.block → Bool) where
  abbrev name_list : {s : Sort} → Tree N S s → List N.operation
  name_list t = map (λ (z : Head N S). z.name) (heads_in t)

  names_both : (xs ys : List (Head N S)) → map (λ (z : Head N S). z.name) (xs ++ ys) ≡ map
      (λ (z : Head N S). z.name) xs ++ map (λ (z : Head N S). z.name) ys
  names_both xs ys = map-append (λ (z : Head N S). z.name) xs ys

  names_two : {s q : Sort} (a b : Tree N S s) (c e : Tree N S q) → Sub (name_list a) (name_list b) →
      Sub (name_list c) (name_list e) → Sub (map (λ (z : Head N S). z.name) (heads_in a ++ heads_in c))
      (map (λ (z : Head N S). z.name) (heads_in b ++ heads_in e))
  names_two a b c e x y =
      subst (λ z. Sub z (map (λ (z : Head N S). z.name) (heads_in b ++ heads_in e)))
      (sym (names_both (heads_in a) (heads_in c)))
      (subst (λ z. Sub (name_list a ++ name_list c) z) (sym (names_both (heads_in b) (heads_in e)))
      (sub_append (name_list a) (name_list b) (name_list c) (name_list e) x y))

  names_left : {s : Sort} (t : Tree N S s) → Sub (name_list (trees.keep g t)) (name_list t)
  names_left end = refl
  names_left (operation h rs rest) = inr (
    map (λ (z : Head N S). z.name) (heads_in (trees.keep g rs) ++ heads_in (trees.keep g rest)),
    refl,
    names_two (trees.keep g rs) rs (trees.keep g rest) rest (names_left rs) (names_left rest),
  )
  names_left (block l os rest) = step (g l.name) (names_left os) (names_left rest)
    where
      step : (b : Bool) → Sub (name_list (trees.keep g os)) (name_list os) →
          Sub (name_list (trees.keep g rest)) (name_list rest) →
          Sub (name_list (if b then trees.keep g rest else block l (trees.keep g os) (trees.keep g rest)))
          (name_list (block l os rest))
      step true a c = subst (λ z. Sub (name_list (trees.keep g rest)) z)
          (sym (names_both (heads_in os) (heads_in rest))) (sub_append [] (name_list os) (name_list (trees.keep g rest))
          (name_list rest) (sub_none (name_list os)) c)
      step false a c = names_two (trees.keep g os) os (trees.keep g rest) rest a c
  names_left (region bs rest) = names_two (trees.keep g bs) bs (trees.keep g rest) rest (names_left bs)
      (names_left rest)

  values_left : {s : Sort} (t : Tree N S s) → Sub (defined_in (trees.keep g t)) (defined_in t)
  values_left end = refl
  values_left (operation h rs rest) =
      sub_append (names_of h.results) (names_of h.results)
      (defined_in (trees.keep g rs) ++ defined_in (trees.keep g rest)) (defined_in rs ++ defined_in rest)
      (sub_all (names_of h.results))
      (sub_append (defined_in (trees.keep g rs)) (defined_in rs) (defined_in (trees.keep g rest)) (defined_in rest)
      (values_left rs) (values_left rest))
  values_left (block l os rest) = step (g l.name) (values_left os) (values_left rest)
    where
      step : (b : Bool) → Sub (defined_in (trees.keep g os)) (defined_in os) →
          Sub (defined_in (trees.keep g rest)) (defined_in rest) →
          Sub (defined_in (if b then trees.keep g rest else block l (trees.keep g os) (trees.keep g rest)))
          (names_of l.arguments ++ (defined_in os ++ defined_in rest))
      step true a c =
          sub_append [] (names_of l.arguments) (defined_in (trees.keep g rest)) (defined_in os ++ defined_in rest)
          (sub_none (names_of l.arguments))
          (sub_append [] (defined_in os) (defined_in (trees.keep g rest)) (defined_in rest)
          (sub_none (defined_in os)) c)
      step false a c =
          sub_append (names_of l.arguments) (names_of l.arguments)
          (defined_in (trees.keep g os) ++ defined_in (trees.keep g rest)) (defined_in os ++ defined_in rest)
          (sub_all (names_of l.arguments))
          (sub_append (defined_in (trees.keep g os)) (defined_in os) (defined_in (trees.keep g rest))
          (defined_in rest) a c)
  values_left (region bs rest) = sub_append (defined_in (trees.keep g bs)) (defined_in bs)
      (defined_in (trees.keep g rest)) (defined_in rest) (values_left bs) (values_left rest)

  blocks_left : (bs : Tree N S Blocks) → Sub (names_in (trees.keep g bs)) (names_in bs)
  blocks_left end = refl
  blocks_left (block l os rest) = step (g l.name) (blocks_left rest)
    where
      step : (b : Bool) → Sub (names_in (trees.keep g rest)) (names_in rest) →
          Sub (names_in (if b then trees.keep g rest else block l (trees.keep g os) (trees.keep g rest)))
          (l.name ∷ names_in rest)
      step true c = inl c
      step false c = inr (names_in (trees.keep g rest), refl, c)

-- 2. edges under other numbers

module _ {V : Type 0} (k : ℕ → ℕ) where
  pub same_forwarded : (es : List (Edge V)) → all_forwarded (map (retarget_edge k) es) ≡ all_forwarded es
  same_forwarded [] = refl
  same_forwarded (e ∷ es) = ap (λ l. e.forwards ++ l) (same_forwarded es)

targets_same : {V B : Type 0} (names others : List B) (k : ℕ → ℕ) (P : ℕ → Type 0) →
    ((t : ℕ) → P t → slice_get others (k t) ≡ slice_get names t) → (es : List (Edge V)) →
    AllEdges (λ x. P x.target) es → map (λ (e : Edge V). slice_get names e.target) es ≡ map
    (λ (e : Edge V). slice_get others e.target) (map (retarget_edge k) es)
targets_same names others k P there [] h = refl
targets_same names others k P there (e ∷ es) h = λ i. sym
    (there e.target h.0) i ∷ targets_same names others k P there es h.1 i

module _ {N : Names} {S : Contents} (r : Reading S) (names others : List N.block) (k : ℕ → ℕ) (P : ℕ → Type 0)
    (there : (t : ℕ) → P t → slice_get others (k t) ≡ slice_get names t) where
  -- the operation leads to the same blocks under their other numbers
  of_same : (h : Head N S) (c : KitOp) (rs xs ys : List N.value) (es : List (Edge N.value)) →
      AllEdges (λ x. P x.target) es → xs ≡ ys → IsOf r names h c rs xs es →
      IsOf r others h c rs ys (map (retarget_edge k) es)
  of_same h c rs xs ys es p q is = record {
    kind = is.kind;
    results = is.results;
    operands =
        is.operands ∙ q;
    successors = is.successors ∙ targets_same names others k P there es p;
  }

  op_same : (h : Head N S) (p : Op N.value) → AllEdges (λ x. P x.target) (edges_of p) → IsOp r names h p →
      IsOp r others h (retarget k p)
  op_same h (Const y n) q is = (of_same h _ _ _ _ [] tt refl is.0, is.1)
  op_same h (Calc a w y b c) q is = (of_same h _ _ _ _ [] tt refl is.0, is.1)
  op_same h (Emit x) q is = of_same h _ _ _ _ [] tt refl is
  op_same h (Call rs c xs) q is = (of_same h _ _ _ _ [] tt refl is.0, is.1)
  op_same h (Branch Plain xs e es) q is = (
    of_same h _ _ _ _ (e ∷ es) q (ap (λ l. xs ++ l) (sym (same_forwarded k (e ∷ es)))) is.0,
    is.1,
    length-map (retarget_edge k) es ∙ is.2,
  )
  op_same h (Branch Nonzero xs e es) q is = (
    of_same h _ _ _ _ (e ∷ es) q (ap (λ l. xs ++ l) (sym (same_forwarded k (e ∷ es)))) is.0,
    is.1,
    length-map (retarget_edge k) es ∙ is.2,
    is.3,
  )
  op_same h (Branch (Cases ns) xs e es) q is = absurd is
  op_same h (Return xs) q is = of_same h _ _ _ _ [] tt refl is

  pub ops_moved : (os : Tree N S Operations) (ps : List (Op N.value)) → AllEdges (λ x. P x.target) (all_edges ps) →
      AreOps r names os ps → AreOps r others os (map (retarget k) ps)
  ops_moved end [] q a = tt
  ops_moved end (p ∷ ps) q a = absurd a
  ops_moved (operation h rs more) [] q a = absurd a
  ops_moved (operation h rs more) (p ∷ ps) q a = (
    a.0,
    op_same h p (edges_front (λ x. P x.target) (edges_of p) (all_edges ps) q) a.1,
    ops_moved more ps (edges_rest (λ x. P x.target) (edges_of p) (all_edges ps) q) a.2,
  )

  ops_same : (g : N.block → Bool) (os : Tree N S Operations) (ps : List (Op N.value)) →
      AllEdges (λ x. P x.target) (all_edges ps) → AreOps r names os ps →
      AreOps r others (trees.keep g os) (map (retarget k) ps)
  ops_same g end [] q a = tt
  ops_same g end (p ∷ ps) q a = absurd a
  ops_same g (operation h rs more) [] q a = absurd a
  ops_same g (operation h rs more) (p ∷ ps) q a = (
    ap (λ z. trees.keep g z) a.0,
    op_same h p (edges_front (λ x. P x.target) (edges_of p) (all_edges ps) q) a.1,
    ops_same g more ps (edges_rest (λ x. P x.target) (edges_of p) (all_edges ps) q) a.2,
  )

-- 3. the blocks that stay

module _ {N : Names} {S : Contents} (r : Reading S) (gone : N.block → Bool) (stay : ℕ → Bool) where
  -- from the ith on a block goes by its name if it does not stay by its number
  abbrev Agree : ℕ → Tree N S Blocks → Type 0
  Agree i ts = (m : ℕ) (n : N.block) → slice_get (names_in ts) m ≡ Some n → gone n ≡ not (stay (i + m))

  next_agree : (i : ℕ) (l : N.block) (ts : Tree N S Blocks) →
      ((m : ℕ) (n : N.block) → slice_get (l ∷ names_in ts) m ≡ Some n → gone n ≡ not (stay (i + m))) → Agree (suc i) ts
  next_agree i l ts ag m n e = let s : i + suc m ≡ suc i + m = omega arith in ag (suc m) n e ∙ ap (λ z. not (stay z)) s

  here_agrees : (i : ℕ) (l : N.block) (ts : Tree N S Blocks) →
      ((m : ℕ) (n : N.block) → slice_get (l ∷ names_in ts) m ≡ Some n → gone n ≡ not (stay (i + m))) →
      gone l ≡ not (stay i)
  here_agrees i l ts ag = let s : i + 0 ≡ i = omega arith in ag 0 l refl ∙ ap (λ z. not (stay z)) s

  kept_names : (i n : ℕ) (ts : Tree N S Blocks) → Agree i ts → stay (i + n) ≡ true →
      slice_get (names_in (trees.keep gone ts)) (between stay i n) ≡ slice_get (names_in ts) n
  kept_names i n end ag e = refl
  kept_names i zero (block l os rest) ag e =
      let s : i ≡ i + 0 = omega arith in
      ap (λ t. slice_get (names_in (if t then trees.keep gone rest else block l (trees.keep gone os)
      (trees.keep gone rest))) 0)
      (here_agrees i l.name rest ag ∙ ap not (ap stay s ∙ e))
  kept_names i (suc n) (block l os rest) ag e =
      by_test (stay i) refl (let s : suc i + n ≡ i + suc n =
      omega arith in kept_names (suc i) n rest (next_agree i l.name rest ag) (ap stay s ∙ e))
    where
      by_test : (t : Bool) → stay i ≡ t → slice_get (names_in (trees.keep gone rest))
          (between stay (suc i) n) ≡ slice_get (names_in rest) n →
          slice_get (names_in (trees.keep gone (block l os rest))) (between stay i (suc n)) ≡ slice_get
          (names_in rest) n
      by_test true q ih =
          (λ j. slice_get (names_in (if (here_agrees i l.name rest ag ∙ ap not q) j then trees.keep gone rest else block
          l (trees.keep gone os) (trees.keep gone rest)))
          (if q j then suc (between stay (suc i) n) else between stay (suc i) n)) ∙ ih
      by_test false q ih =
          (λ j. slice_get (names_in (if (here_agrees i l.name rest ag ∙ ap not q) j then trees.keep gone rest else block
          l (trees.keep gone os) (trees.keep gone rest)))
          (if q j then suc (between stay (suc i) n) else between stay (suc i) n)) ∙ ih

  module _ (names others : List N.block) (there : (t : ℕ) → stay t ≡ true →
      slice_get others (between stay 0 t) ≡ slice_get names t) where
    blocks_same : (i : ℕ) (ts : Tree N S Blocks) (ks : Fun N.value) → Agree i ts →
        ((m : ℕ) → stay (i + m) ≡ true → AllEdges (λ x. stay x.target ≡ true) (all_edges (left_in (Some ks) m 0))) →
        AreFlatBlocks r names ts ks → AreFlatBlocks r others (trees.keep gone ts) (keep_blocks stay (between stay 0) i ks)
    blocks_same i end [] ag w a = tt
    blocks_same i end (k ∷ ks) ag w a = absurd a
    blocks_same i (block l os more) [] ag w a = absurd a
    blocks_same i (block l os more) (k ∷ ks) ag w a =
        by_test (gone l.name) (stay i) refl (here_agrees i l.name more ag)
        (blocks_same (suc i) more ks (next_agree i l.name more ag)
        (λ m e. let s : i + suc m ≡ suc i + m = omega arith in w (suc m) (ap stay s ∙ e)) a.2)
      where
        by_test : (x y : Bool) → stay i ≡ y → x ≡ not y → AreFlatBlocks r others (trees.keep gone more)
            (keep_blocks stay (between stay 0) (suc i) ks) →
            AreFlatBlocks r others (if x then trees.keep gone more else block l (trees.keep gone os) (trees.keep gone more))
            (if y then retarget_block (between stay 0) k ∷ keep_blocks stay (between stay 0)
            (suc i) ks else keep_blocks stay (between stay 0) (suc i) ks)
        by_test true true e q m = absurd (cc q)
        by_test true false e q m = m
        by_test false true e q m =
            let s : i + 0 ≡ i = omega arith in (
              a.0,
              ops_same r names others (between stay 0) (λ t. stay t ≡ true) there gone os k.ops
                  (w 0 (ap stay s ∙ e)) a.1,
              m,
            )
        by_test false false e q m = absurd (cc q)

-- 4. blocks that are not reached

module _ {N : Names} {S : Contents} {A : Type 0} (d : Dialect S A) (r : Reading S) (h : Head N S) (bs : Tree N S Blocks)
    (f : Fun N.value) (given : Given r h bs f) (ssa : d.is_ssa h.content 0 ≡ true) where
  module _ (after : Root N S) (cut : IsCut d (all_of (whole r h bs f)) (whole r h bs f) after) where
    abbrev pub reach : ℕ → Bool
    reach = flat_set r h bs f given cut.reach

    pub is_reach : IsReachedSet (Some f) reach
    is_reach = set_reached r h bs f given cut.reach cut.reached cut.all_reached

    visited : (x : BlockOccurrence N S) (b : ℕ) (k : Block N.value) →
        AreSame r (names_in bs) (root_spot r h bs f given) (names_in bs) x b k →
        IsVisitedSsa d (all_of (whole r h bs f)) (whole r h bs f) x.spot
    visited x b k s = record {
      visited = of_place x.spot.owner.name x.spot.region (inl (ap (λ (z : Head N S). z.name) s.owner));
      ssa = (λ i. d.is_ssa (s.owner i).content (s.number i)) ∙ ssa;
    }

    gone_same : (b : ℕ) (n : N.block) → slice_get (names_in bs) b ≡ Some n → cut.gone n ≡ not (reach b)
    gone_same b n e =
        bool_same (cut.gone n) (not (reach b))
        (λ q. not_true (reach b) (λ w. (cut.there n q).unreached
        (cut.reached n (sym (set_same r h bs f given cut.reach cut.reached cut.all_reached b n e) ∙ w))))
        (λ q.
        let k = named_block r (names_in bs) bs f given.are b n e in
        let x = block_back r h bs f given b k.0 k.1 in
        cut.all n (record {
          it = x.it;
          stands = x.stands;
          name = some_same x.it.label.name n (sym x.same.name ∙ e);
          visited = visited x.it b k.0 x.same;
          unreached = λ m. not_false (reach b) q (set_same r h bs f given cut.reach cut.reached cut.all_reached b n e
              ∙ cut.all_reached n m);
        }))

    agree : (m : ℕ) (n : N.block) → slice_get (names_in bs) m ≡ Some n → cut.gone n ≡ not (reach (0 + m))
    agree m n e = let s : m ≡ 0 + m = omega arith in gone_same m n e ∙ ap (λ z. not (reach z)) s

    stays : (b : ℕ) → reach b ≡ true → AllEdges (λ x. reach x.target ≡ true) (all_edges (left_in (Some f) b 0))
    stays b e =
        edges_by (λ x. reach x.target ≡ true) (all_edges (left_in (Some f) b 0))
        (λ z i. is_reach.full z.target (further b z.target (is_reach.sound b e)
        (in_leads z.target z (all_edges (left_in (Some f) b 0)) i refl)))

    there : (t : ℕ) → reach t ≡ true → slice_get (names_in (trees.keep cut.gone bs)) (between reach 0 t) ≡ slice_get
        (names_in bs) t
    there t e = let s : 0 + t ≡ t = omega arith in kept_names r cut.gone reach 0 t bs agree (ap reach s ∙ e)

    pub cut_flat : FlattensTo r after (keep_blocks reach (between reach 0) 0 f)
    cut_flat = subst (λ z. FlattensTo r z (keep_blocks reach (between reach 0) 0 f)) (sym cut.is) (record {
      view = record {
        function = given.function;
        no_operands = given.no_operands;
        blocks = trees.keep cut.gone bs;
        region = refl;
        are = blocks_same r cut.gone reach (names_in bs) (names_in (trees.keep cut.gone bs)) there 0 bs f agree
            (λ m e. let s : m ≡ 0 + m = omega arith in stays m (ap reach s ∙ e)) given.are;
      };
      operations =
          let before : List N.operation = map (λ (z : Head N S). z.name) (heads_in (region bs end)) in
          let left : List N.operation = map (λ (z : Head N S). z.name)
          (heads_in (trees.keep cut.gone (region bs end))) in
          from_distinct (h.name ∷ left) (sub_distinct (h.name ∷ left) (h.name ∷ before)
          (inr (left, refl, names_left cut.gone (region bs end))) (to_distinct (h.name ∷ before) given.operations));
      blocks = from_distinct (names_in (trees.keep cut.gone bs))
          (sub_distinct (names_in (trees.keep cut.gone bs)) (names_in bs) (blocks_left cut.gone bs)
          (to_distinct (names_in bs) given.blocks));
      values = from_distinct (defined_in (trees.keep cut.gone (region bs end)))
          (sub_distinct (defined_in (trees.keep cut.gone (region bs end))) (defined_in (region bs end))
          (values_left cut.gone (region bs end)) (to_distinct (defined_in (region bs end)) given.values));
      edges = keep_fits reach (Some f) (is_reach.full 0 (Reached.first 0 refl)) stays (λ b e. given.edges b);
    })

pub unreached_cut : {N : Names} (leads : TypeHandle → Option KitType) (numbered : List ℕ → ℕ)
    (t after : Root N kit_contents) (f : Fun N.value) → FlattensTo (kit_reading leads numbered) t f →
    IsCut kit (all_of t) t after → IsCutFlat (kit_reading leads numbered) f after
unreached_cut {N} leads numbered t after f flat cut =
    let r : Reading kit_contents = kit_reading leads numbered in
    let bs : Tree N kit_contents Blocks = flat.view.blocks in
    let given : Given r t.head bs f = given_of r t f flat in
    let e : t ≡ whole r t.head bs f = λ i. record { head = t.head; regions = flat.view.region i } in
    let ssa : kit.is_ssa t.head.content 0 ≡ true = ap (λ k. not (is_module k)) given.function in
    let is : IsCut kit (all_of (whole r t.head bs f)) (whole r t.head bs f) after =
    subst (λ z. IsCut kit (all_of z) z after) e cut in
    record {
      reach = reach kit r t.head bs f given ssa after is;
      is_reach = is_reach kit r t.head bs f given ssa after is;
      rest = keep_blocks (reach kit r t.head bs f given ssa after is)
          (between (reach kit r t.head bs f given ssa after is) 0) 0 f;
      is = refl;
      is_view = cut_flat kit r t.head bs f given ssa after is;
    }
