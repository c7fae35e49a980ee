-- The flat view of a tree whose branches are decided.
use Rattle.std.proofs.Common.{◌≡◌, ⊎_elim, inl, inr, ℕ, zero, suc, ◌<◌, Bool, true, false, List, [], ◌∷◌, ◌++◌, map, Option, Some, None, refl, sym, ap, ◌∙◌, subst}
use Rattle.std.specs.Prelude.{slice_get, option_map, if◌then◌else◌, not, ◌&&◌}
use Rattle.std.proofs.lemmas.Option.{slice_get-map}
use Rattle.ir_base.specs.declared.types.TypeHandle.{TypeHandle}
use Rattle.ir_names.specs.Dictionary.{attribute_at}
use Rattle.ir_trees.specs.Names.{Names}
use Rattle.ir_trees.specs.Renames.{names_of}
use Rattle.ir_trees.specs.Searched.{AreDistinct, heads_in}
use Rattle.ir_trees.specs.Trees.{Head, Sort, Operations, Blocks, Regions, Tree, end, operation, block, region, Root}
use Rattle.opt_trees.specs.Dce.{TreeSurroundings}
use Rattle.opt_trees.specs.Occurrences.{Has, Occurrence, OperationSite, Spot, inner, next_block, occurrences_in, occurrences_of, defined_in}
use Rattle.opt_trees.specs.Simplify.{is_bare, along_edge, decide_head, decide, decided}
use Rattle.opt_trees.proofs.Lists.{map-append}
use Rattle.opt_trees.proofs.NoneDead.{has-left, has-right}
use Rattle.kit_behaviour.specs.DecidedBranches.{single, branch_by, decide_op, decide_block}
use Rattle.kit_behaviour.specs.Facts.{Unknown, Known, FunctionFacts, Knows, Lacks, Numbers, Open, knows}
use Rattle.kit_behaviour.specs.Machine.{AllEdges, Edge, Select, Plain, Nonzero, Cases, nth, edge_at, chosen, Op, Const, Calc, Emit, Call, Branch, Return, Block, Fun, ops_left, left_in, arguments_of, arguments_in}
use Rattle.kit_behaviour.specs.Rules.{EdgeFits, EdgesOfOpFit, AllEdgesFit}
use Rattle.kit_behaviour.specs.Scopes.{In, SameLength}
use Rattle.kit_behaviour.specs.SimplifiedNames.{IsConstantIn, AreConstants}
use Rattle.kit_ops.specs.declared.attributes.IntegerAttr.{IntegerAttr}
use Rattle.kit_ops.specs.declared.attributes.KitAttr.TheVariants as attrs
use Rattle.kit_ops.specs.declared.kinds.KitOp.TheVariants as ops
use Rattle.kit_ops.specs.declared.types.KitType.{KitType}
use Rattle.kit_ops.specs.Keys.{constant_value}
use Rattle.kit.specs.Meaning.{KitOperation, kit, is_constant}
use Rattle.kit_views.specs.Reading.{kit_contents, kit_reading, number_in}
use Rattle.kit_views.specs.FlatView.{IsSameness, IsFlatBranch, IsOp, AreOps, AreFlatBlocks, names_in, FlattensTo}
use Rattle.kit_views.specs.Typed.{number_as, TypesFit, IsTyped}
use Rattle.kit_views.specs.FlatBranches.{KnowsConstants}
use Rattle.kit_views.proofs.OwnConstants.{own_alone, KnowsExactly, decided_own}
use Rattle.kit_views.proofs.Uses.{true_false}
use Rattle.kit_views.proofs.PutIn.{length_map}
use Rattle.kit_views.proofs.Standing.{whole, Given, root_spot, pair, back}
use Rattle.kit_views.proofs.FlatRemoval.{given_of}
use Rattle.kit_views.proofs.FlatPropagation.{arith_makes}
use Rattle.kit_views.proofs.DecidedHeads.{fact_of, facts_of, op_decided}

-- names and results stay

module _ {N : Names} (alone : N.value → Option IntegerAttr) where
  along_same : (h : Head N kit_contents) (i : Option ℕ) (c : Option KitOperation) → ((along_edge kit h i c).name ≡ h.name) × ((along_edge kit h i c).results ≡ h.results)
  along_same h None c = (refl, refl)
  along_same h (Some i) None = (refl, refl)
  along_same h (Some i) (Some c) = (refl, refl)

  head_same : (h : Head N kit_contents) (rs : Tree N kit_contents Regions) → ((decide_head kit alone h rs).name ≡ h.name) × ((decide_head kit alone h rs).results ≡ h.results)
  head_same h rs = step (is_bare kit h rs && not (kit.is_plain h.content))
    where
      step : (b : Bool) → ((if b then along_edge kit h (kit.edge h.content (map alone h.operands)) kit.plain else h).name ≡ h.name) × ((if b then along_edge kit h (kit.edge h.content (map alone h.operands)) kit.plain else h).results ≡ h.results)
      step true = along_same h (kit.edge h.content (map alone h.operands)) kit.plain
      step false = (refl, refl)

  abbrev name_list : {s : Sort} → Tree N kit_contents s → List N.operation
  name_list t = map (λ (z : Head N kit_contents). z.name) (heads_in t)

  names_both : (xs ys : List (Head N kit_contents)) → map (λ (z : Head N kit_contents). z.name) (xs ++ ys) ≡ map (λ (z : Head N kit_contents). z.name) xs ++ map (λ (z : Head N kit_contents). z.name) ys
  names_both xs ys = map-append (λ (z : Head N kit_contents). z.name) xs ys

  names_stay : {s : Sort} (t : Tree N kit_contents s) → name_list (decide kit alone t) ≡ name_list t
  names_stay end = refl
  names_stay (operation h rs rest) =
      (λ i. (head_same h rs).0 i ∷ names_both (heads_in (decide kit alone rs)) (heads_in (decide kit alone rest)) i)
      ∙ ap (λ l. h.name ∷ l) ((λ i. names_stay rs i ++ names_stay rest i) ∙ sym (names_both (heads_in rs) (heads_in rest)))
  names_stay (block l os rest) = names_both (heads_in (decide kit alone os)) (heads_in (decide kit alone rest)) ∙ ((λ i. names_stay os i ++ names_stay rest i) ∙ sym (names_both (heads_in os) (heads_in rest)))
  names_stay (region bs rest) = names_both (heads_in (decide kit alone bs)) (heads_in (decide kit alone rest)) ∙ ((λ i. names_stay bs i ++ names_stay rest i) ∙ sym (names_both (heads_in bs) (heads_in rest)))

  values_stay : {s : Sort} (t : Tree N kit_contents s) → defined_in (decide kit alone t) ≡ defined_in t
  values_stay end = refl
  values_stay (operation h rs rest) = λ i. names_of ((head_same h rs).1 i) ++ (values_stay rs i ++ values_stay rest i)
  values_stay (block l os rest) = λ i. names_of l.arguments ++ (values_stay os i ++ values_stay rest i)
  values_stay (region bs rest) = λ i. values_stay bs i ++ values_stay rest i

  blocks_stay : (bs : Tree N kit_contents Blocks) → names_in (decide kit alone bs) ≡ names_in bs
  blocks_stay end = refl
  blocks_stay (block l os rest) = ap (λ z. l.name ∷ z) (blocks_stay rest)

-- edges still fit
module _ {V : Type 0} (k : FunctionFacts V) (f : Fun V) where
  takes_same : (b : ℕ) → arguments_in (Some (map (decide_block k) f)) b ≡ arguments_in (Some f) b
  takes_same b = ap arguments_of (slice_get-map (decide_block k) f b) ∙ step (slice_get f b)
    where
      step : (o : Option (Block V)) → arguments_of (option_map (decide_block k) o) ≡ arguments_of o
      step None = refl
      step (Some j) = refl

  edge_same : (e : Edge V) → EdgeFits (Some f) e → EdgeFits (Some (map (decide_block k) f)) e
  edge_same e h = record {
    count = subst (λ z. SameLength z e.forwards) (sym (takes_same e.target)) h.count;
    leads = subst (λ n. e.target < n) (sym (length_map (decide_block k) f)) h.leads;
  }

  edges_same : (es : List (Edge V)) → AllEdges (EdgeFits (Some f)) es → AllEdges (EdgeFits (Some (map (decide_block k) f))) es
  edges_same [] h = tt
  edges_same (e ∷ es) h = (edge_same e h.0, edges_same es h.1)

  nth_fits : (d : Edge V) (es : List (Edge V)) (n : ℕ) → EdgeFits (Some f) d → AllEdges (EdgeFits (Some f)) es → EdgeFits (Some f) (nth d es n)
  nth_fits d [] n h a = h
  nth_fits d (e ∷ es) zero h a = a.0
  nth_fits d (e ∷ es) (suc n) h a = nth_fits d es n h a.1

  single_fits : (s : Select) (xs : List V) (e : Edge V) (es : List (Edge V)) → AllEdges (EdgeFits (Some f)) (e ∷ es) → EdgesOfOpFit (Some (map (decide_block k) f)) (single s xs e es)
  single_fits s xs e [] h = (edge_same e h.0, tt)
  single_fits s xs e (x ∷ es) h = edges_same (e ∷ x ∷ es) h

  branch_fits : (q : Knows) (s : Select) (xs : List V) (e : Edge V) (es : List (Edge V)) → AllEdges (EdgeFits (Some f)) (e ∷ es) → EdgesOfOpFit (Some (map (decide_block k) f)) (branch_by q s xs e es)
  branch_fits Lacks s xs e es h = single_fits s xs e es h
  branch_fits (Numbers ns) s xs e es h = (edge_same (edge_at e es (chosen s ns)) (nth_fits e (e ∷ es) (chosen s ns) h.0 h), tt)
  branch_fits Open s xs e es h = single_fits s xs e es h

  ops_fit : (ps : List (Op V)) → AllEdgesFit (Some f) ps → AllEdgesFit (Some (map (decide_block k) f)) (map (decide_op k) ps)
  ops_fit [] h = tt
  ops_fit (p ∷ ps) h = (step p h.0, ops_fit ps h.1)
    where
      step : (p : Op V) → EdgesOfOpFit (Some f) p → EdgesOfOpFit (Some (map (decide_block k) f)) (decide_op k p)
      step (Const y n) g = tt
      step (Calc a w y b c) g = tt
      step (Emit x) g = tt
      step (Call rs c xs) g = tt
      step (Branch s xs e es) g = branch_fits (knows (map k.of xs)) s xs e es g
      step (Return xs) g = tt

  decided_fits : ((b : ℕ) → AllEdgesFit (Some f) (left_in (Some f) b 0)) → (b : ℕ) → AllEdgesFit (Some (map (decide_block k) f)) (left_in (Some (map (decide_block k) f)) b 0)
  decided_fits h b = subst (λ o. AllEdgesFit (Some (map (decide_block k) f)) (ops_left o 0)) (sym (slice_get-map (decide_block k) f b)) (step (slice_get f b) (h b))
    where
      step : (o : Option (Block V)) → AllEdgesFit (Some f) (ops_left o 0) → AllEdgesFit (Some (map (decide_block k) f)) (ops_left (option_map (decide_block k) o) 0)
      step None g = tt
      step (Some j) g = ops_fit j.ops g

-- results of constants, by the numbers of their blocks

-- the value is the result of a constant of this block
record StandsAt {V : Type 0} (f : Fun V) (v : V) (n : ℕ) : Type 0 where
  b : ℕ
  block : Block V
  stands : slice_get f b ≡ Some block
  constant : Has (Const v n) block.ops

module _ {V : Type 0} where
  has_in : (p : Op V) (ps : List (Op V)) → Has p ps → In p ps
  has_in p [] h = h
  has_in p (q ∷ ps) h = ⊎_elim (λ e. inl e) (λ k. inr (has_in p ps k)) h

  in_has : (p : Op V) (ps : List (Op V)) → In p ps → Has p ps
  in_has p [] h = h
  in_has p (q ∷ ps) h = ⊎_elim (λ e. inl e) (λ k. inr (in_has p ps k)) h

  constant_there : (f : Fun V) (v : V) (n : ℕ) → StandsAt f v n → IsConstantIn (Some f) v n
  constant_there f v n c = (c.b, subst (λ o. In (Const v n) (ops_left o 0)) (sym c.stands) (has_in (Const v n) c.block.ops c.constant))

  constant_back : (f : Fun V) (v : V) (n : ℕ) → IsConstantIn (Some f) v n → StandsAt f v n
  constant_back f v n c = by_block (slice_get f c.0) refl c.1
    where
      by_block : (o : Option (Block V)) → slice_get f c.0 ≡ o → In (Const v n) (ops_left o 0) → StandsAt f v n
      by_block None e i = absurd i
      by_block (Some k) e i = record { b = c.0; block = k; stands = e; constant = in_has (Const v n) k.ops i }

module _ {N : Names} (leads : TypeHandle → Option KitType) (numbered : List ℕ → ℕ) (h : Head N kit_contents) (bs : Tree N kit_contents Blocks) (f : Fun N.value) (given : Given (kit_reading leads numbered) h bs f) (type_at : N.value → TypeHandle) (typed : IsTyped leads {N = N} type_at (whole (kit_reading leads numbered) h bs f)) (w : TreeSurroundings N IntegerAttr) (constants : KnowsExactly w (whole (kit_reading leads numbered) h bs f)) where
  abbrev Whole : Occurrence N kit_contents → Type 0
  Whole o = Has o (occurrences_of (whole (kit_reading leads numbered) h bs f))

  ops_decided : (os : Tree N kit_contents Operations) (ps : List (Op N.value)) (c : OperationSite N kit_contents) → AreOps (kit_reading leads numbered) (names_in bs) os ps → ((o : Occurrence N kit_contents) → Has o (occurrences_in os c) → Whole o) → AreOps (kit_reading leads numbered) (names_in bs) (decide kit w.alone os) (map (decide_op (facts_of w)) ps)
  ops_decided end [] c a st = tt
  ops_decided end (p ∷ ps) c a st = absurd a
  ops_decided (operation j rs more) [] c a st = absurd a
  ops_decided (operation j rs more) (p ∷ ps) c a st = (
    ap (λ z. decide kit w.alone z) a.0,
    op_decided leads numbered h bs f given type_at typed w constants (record { site = c; head = j; regions = rs }) p (st (record { site = c; head = j; regions = rs }) (inl refl)) a.1,
    ops_decided more ps c a.2 (λ o i. st o (inr (has-right o (occurrences_in rs (inner j c)) (occurrences_in more c) i))),
  )

  blocks_decided : (ts : Tree N kit_contents Blocks) (ks : Fun N.value) (c : Spot N kit_contents) → AreFlatBlocks (kit_reading leads numbered) (names_in bs) ts ks → ((o : Occurrence N kit_contents) → Has o (occurrences_in ts c) → Whole o) → AreFlatBlocks (kit_reading leads numbered) (names_in bs) (decide kit w.alone ts) (map (decide_block (facts_of w)) ks)
  blocks_decided end [] c a st = tt
  blocks_decided end (k ∷ ks) c a st = absurd a
  blocks_decided (block l os more) [] c a st = absurd a
  blocks_decided (block l os more) (k ∷ ks) c a st = (
    a.0,
    ops_decided os k.ops (record { spot = c; label = l }) a.1 (λ o i. st o (has-left o (occurrences_in os (record { spot = c; label = l })) (occurrences_in more (next_block c)) i)),
    blocks_decided more ks (next_block c) a.2 (λ o i. st o (has-right o (occurrences_in os (record { spot = c; label = l })) (occurrences_in more (next_block c)) i)),
  )

  decided_flat : FlattensTo (kit_reading leads numbered) (decided kit w (whole (kit_reading leads numbered) h bs f)) (map (decide_block (facts_of w)) f)
  decided_flat = record {
    view = record {
      function = given.function;
      no_operands = given.no_operands;
      blocks = decide kit w.alone bs;
      region = refl;
      are = subst (λ z. AreFlatBlocks (kit_reading leads numbered) z (decide kit w.alone bs) (map (decide_block (facts_of w)) f)) (sym (blocks_stay w.alone bs))
          (blocks_decided bs f (root_spot (kit_reading leads numbered) h bs f given) given.are (λ o i. has-left o (occurrences_in bs (root_spot (kit_reading leads numbered) h bs f given)) [] i));
    };
    operations = subst (λ l. AreDistinct (h.name ∷ l)) (sym (names_stay w.alone (region bs end))) given.operations;
    blocks = subst AreDistinct (sym (blocks_stay w.alone bs)) given.blocks;
    values = subst AreDistinct (sym (values_stay w.alone (region bs end))) given.values;
    edges = decided_fits (facts_of w) f given.edges;
  }

  -- the operation of a constant is one
  as_constant : (o : Occurrence N kit_contents) (v : N.value) (a : IntegerAttr) (p : Op N.value) → IsOp (kit_reading leads numbered) (names_in bs) o.head p → o.head.content.kind ≡ ops.Constant → Has v (names_of o.head.results) → attribute_at o.head.content.notes.attributes constant_value ≡ Some (attrs.Integer a) → p ≡ Const v a.bits
  as_constant o v a (Const y n) is e i q =
      let m : a.bits ≡ n = sym (ap number_in q) ∙ is.1 in
      let s : v ≡ y = ⊎_elim (λ z. z) (λ z. absurd z) (subst (Has v) is.0.results i) in
      λ j. Const (sym s j) (sym m j)
  as_constant o v a (Calc c u y x z) is e i q = absurd (true_false (is_constant o.head.content.kind) (ap is_constant e) (ap is_constant is.0.kind ∙ arith_makes c))
  as_constant o v a (Emit x) is e i q = absurd (true_false (is_constant o.head.content.kind) (ap is_constant e) (ap is_constant is.kind))
  as_constant o v a (Call rs c xs) is e i q = absurd (true_false (is_constant o.head.content.kind) (ap is_constant e) (ap is_constant is.0.kind))
  as_constant o v a (Branch s xs x es) is e i q = absurd (true_false (is_constant o.head.content.kind) (ap is_constant e) (branch_makes s xs x es is))
    where
      branch_makes : (s : Select) (xs : List N.value) (x : Edge N.value) (es : List (Edge N.value)) → IsFlatBranch (kit_reading leads numbered) (names_in bs) o.head s xs x es → is_constant o.head.content.kind ≡ false
      branch_makes Plain xs x es is = ap is_constant is.0.kind
      branch_makes Nonzero xs x es is = ap is_constant is.0.kind
      branch_makes (Cases ns) xs x es is = absurd is
  as_constant o v a (Return xs) is e i q = absurd (true_false (is_constant o.head.content.kind) (ap is_constant e) (ap is_constant is.kind))

  known_there : (v : N.value) (n : ℕ) (o : Option IntegerAttr) → w.alone v ≡ o → fact_of o ≡ Known n → StandsAt f v n
  known_there v n None e q = absurd (cc q)
  known_there v n (Some a) e q =
      let m : a.bits ≡ n = cc q in
      let c = (constants v a).0 e in
      let p = pair (kit_reading leads numbered) h bs f given c.definer c.stands in
      let s = as_constant c.definer v a p.op p.is c.constant c.result c.value in
      record { b = p.place; block = p.k; stands = p.at; constant = subst (λ z. Has z p.k.ops) (s ∙ ap (Const v) m) p.stands }

  known_back : (v : N.value) (n : ℕ) → StandsAt f v n → (facts_of w).of v ≡ Known n
  known_back v n c =
      let o = back (kit_reading leads numbered) h bs f given c.b c.block (Const v n) c.stands c.constant in
      let has = subst (Has v) (sym o.is.0.results) (inl refl) in
      let t = subst (λ z. TypesFit leads {N = N} type_at z o.it.head) o.is.0.kind (typed.operations o.it o.stands) v has in
      let m : t.0 ≡ n = sym (ap number_in t.1) ∙ o.is.1 in
      ap fact_of ((constants v (number_as leads (type_at v) t.0)).1 (record { definer = o.it; stands = o.stands; constant = o.is.0.kind; result = has; value = t.1 })) ∙ ap Known m

  constants_are : AreConstants (Some f) (facts_of w)
  constants_are = record {
    known = λ v n. (λ e. constant_there f v n (known_there v n (w.alone v) refl e), λ c. known_back v n (constant_back f v n c));
    unknown = λ v none. step v none (w.alone v) refl;
  }
    where
      step : (v : N.value) → ((n : ℕ) → IsConstantIn (Some f) v n → ⊥) → (o : Option IntegerAttr) → w.alone v ≡ o → fact_of (w.alone v) ≡ Unknown
      step v none None e = ap fact_of e
      step v none (Some a) e = absurd (none a.bits (constant_there f v a.bits (known_there v a.bits (Some a) e refl)))

pub branches_decided : {N : Names} (leads : TypeHandle → Option KitType) (numbered : List ℕ → ℕ) (type_at : N.value → TypeHandle) (w : TreeSurroundings N IntegerAttr) (t : Root N kit_contents) (f : Fun N.value) → FlattensTo (kit_reading leads numbered) t f → IsTyped leads {N = N} type_at t → KnowsExactly w t → (k : FunctionFacts N.value) × AreConstants (Some f) k × FlattensTo (kit_reading leads numbered) (decided kit w t) (map (decide_block k) f)
branches_decided {N} leads numbered type_at w t f is_flat typed constants =
    let bs : Tree N kit_contents Blocks = is_flat.view.blocks in
    let given : Given (kit_reading leads numbered) t.head bs f = given_of (kit_reading leads numbered) t f is_flat in
    let e : t ≡ whole (kit_reading leads numbered) t.head bs f = λ i. record { head = t.head; regions = is_flat.view.region i } in
    let types = subst (IsTyped leads {N = N} type_at) e typed in
    let known = subst (KnowsExactly w) e constants in (
      facts_of w,
      constants_are leads numbered t.head bs f given type_at types w known,
      subst (λ z. FlattensTo (kit_reading leads numbered) (decided kit w z) (map (decide_block (facts_of w)) f)) (sym e) (decided_flat leads numbered t.head bs f given type_at types w known),
    )

-- the same, where of the values of the tree exactly the results of constants are known alone
pub decided_by_own : {N : Names} (same : N.value → N.value → Bool) (leads : TypeHandle → Option KitType)
    (numbered : List ℕ → ℕ) (type_at : N.value → TypeHandle) (w : TreeSurroundings N IntegerAttr) (t : Root N kit_contents)
    (f : Fun N.value) → IsSameness same → FlattensTo (kit_reading leads numbered) t f → IsTyped leads {N = N} type_at t →
    KnowsConstants w t → (k : FunctionFacts N.value) × AreConstants (Some f) k
    × FlattensTo (kit_reading leads numbered) (decided kit w t) (map (decide_block k) f)
decided_by_own same leads numbered type_at w t f sameness is_flat typed constants =
    let own = decided_own same leads type_at w t sameness typed constants in
    let d = branches_decided leads numbered type_at (own_alone same t w) t f is_flat typed own.0 in
    (d.0, d.1, subst (λ z. FlattensTo (kit_reading leads numbered) z (map (decide_block d.0) f)) own.1 d.2)
