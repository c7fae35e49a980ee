-- A typed function whose branches are decided is typed.
use Rattle.std.proofs.Common.{◌≡◌, inl, inr, ⊎_elim, ◌<◌, ℕ, zero, suc, Bool, true, false, List, [], ◌∷◌, ◌++◌}
use Rattle.std.proofs.Common.{map, length, Option, Some, None, slice_get, refl, sym, ap, ◌∙◌, subst, arith}
use Rattle.std.specs.Prelude.{not, ◌&&◌, if◌then◌else◌}
use Rattle.ir_base.specs.declared.types.TypeHandle.{TypeHandle}
use Rattle.ir_trees.specs.Names.{Names, Contents}
use Rattle.ir_trees.specs.Renames.{names_of}
use Rattle.ir_trees.specs.Trees.{Head, Label, Regions, Sort, Tree, Root, end, operation, block, region}
use Rattle.opt_trees.specs.Dce.{TreeSurroundings, ForwardsTo}
use Rattle.opt_trees.specs.Dialect.{Dialect}
use Rattle.opt_trees.specs.Facts.{forwarded}
use Rattle.opt_trees.specs.Occurrences.{Has, Occurrence, BlockOccurrence, Inside, inner, next_block, next_region}
use Rattle.opt_trees.specs.Occurrences.{at_root, occurrences_in, occurrences_of, block_occurrences_in}
use Rattle.opt_trees.specs.Occurrences.{block_occurrences_of, defined_in, cons_if, picks}
use Rattle.opt_trees.specs.Simplify.{is_bare, along_edge, decide_head, decide, decided}
use Rattle.opt_trees.proofs.Lists.{some_same}
use Rattle.opt_trees.proofs.NoneDead.{has-append, has-left, has-right}
use Rattle.kit_ops.specs.declared.attributes.IntegerAttr.{IntegerAttr}
use Rattle.kit_ops.specs.declared.kinds.KitOp.TheVariants as ops
use Rattle.kit_ops.specs.declared.types.KitType.{KitType}
use Rattle.kit.specs.Lawful.{kit_lawful}
use Rattle.kit.specs.Meaning.{KitOperation, kit, operation_of}
use Rattle.kit_views.specs.Reading.{kit_contents}
use Rattle.kit_views.specs.Typed.{TypesFit, IsTyped}
use Rattle.kit_views.proofs.Forwarded.{get_there, range_get}
use Rattle.kit_views.proofs.Lists.{at_has, has_get}
use Rattle.kit_views.proofs.Uses.{and_left}

-- ---- what is picked

-- where all indices are of members, what is picked is at them
picked : {X : Type 0} (xs : List X) (is : List ℕ) → ((k j : ℕ) → slice_get is k ≡ Some j → j < length xs)
    → (k : ℕ) (x : X) → slice_get (picks xs is) k ≡ Some x → (j : ℕ) × (slice_get is k ≡ Some j)
    × (slice_get xs j ≡ Some x)
picked xs [] within k x here = cc
picked xs (i ∷ is) within zero x here =
    let y = get_there xs i (within 0 i refl) in
    (i, refl, y.1 ∙ ap (λ o. slice_get (cons_if o (picks xs is)) 0) (sym y.1) ∙ here)
picked xs (i ∷ is) within (suc k) x here =
    let y = get_there xs i (within 0 i refl) in
    let rest : slice_get (picks xs is) k ≡ Some x =
    ap (λ o. slice_get (cons_if o (picks xs is)) (suc k)) (sym y.1) ∙ here in
    picked xs is (λ n. within (suc n)) k x rest

-- the one member of a list that has one, or none
only_one : {X : Type 0} (o : Option X) (n : ℕ) (x : X) → slice_get (cons_if o []) n ≡ Some x → (n ≡ 0) × (o ≡ Some x)
only_one None n x here = cc
only_one (Some y) zero x here = (refl, here)
only_one (Some y) (suc n) x here = cc

module _ {N : Names} {S : Contents} {A : Type 0} (d : Dialect S A) (alone : N.value → Option A) where
  -- the head of the unconditional branch along an edge
  abbrev along : Head N S → ℕ → S.of_operation → Head N S
  along h i c = record {
    name = h.name;
    content = c;
    results = h.results;
    operands = forwarded d h i;
    successors = cons_if (slice_get h.successors i) [];
  }

  -- what becomes of an operation: it stays as it is, or is the unconditional branch along an edge
  data Decision (h after : Head N S) : Type 0 where
    stays : after ≡ h → Decision h after
    becomes : (i : ℕ) (c : S.of_operation) → d.plain ≡ Some c → d.is_branch h.content ≡ true → after ≡ along h i c
        → Decision h after

  edge_decision : (h : Head N S) → d.is_branch h.content ≡ true → (o : Option ℕ) (q : Option S.of_operation)
      → d.plain ≡ q → Decision h (along_edge d h o q)
  edge_decision h branch None q plain = stays refl
  edge_decision h branch (Some i) None plain = stays refl
  edge_decision h branch (Some i) (Some c) plain = becomes i c plain branch refl

  decision : (h : Head N S) (rs : Tree N S Regions) → Decision h (decide_head d alone h rs)
  decision h rs = go (is_bare d h rs && not (d.is_plain h.content)) refl
    where
      go : (b : Bool) → is_bare d h rs && not (d.is_plain h.content) ≡ b
          → Decision h (if b then along_edge d h (d.edge h.content (map alone h.operands)) d.plain else h)
      go false is = stays refl
      go true is =
          let bare = and_left (is_bare d h rs) (not (d.is_plain h.content)) is in
          edge_decision h (and_left (d.is_branch h.content) _ bare) (d.edge h.content (map alone h.operands)) d.plain
          refl

  results_same : (h after : Head N S) → Decision h after → after.results ≡ h.results
  results_same h after (stays e) = ap (λ (z : Head N S). z.results) e
  results_same h after (becomes i c plain branch e) = ap (λ (z : Head N S). z.results) e

  -- ---- where operations and blocks were

  record Was (os : List (Occurrence N S)) (p : Occurrence N S) : Type 0 where
    it : Occurrence N S
    here : Has it os
    head : Decision it.head p.head

  was_in : {os ps : List (Occurrence N S)} {p : Occurrence N S} → ((o : Occurrence N S) → Has o os → Has o ps)
      → Was os p → Was ps p
  was_in f w = record { it = w.it; here = f w.it w.here; head = w.head }

  operation_was : {s : Sort} (t : Tree N S s) (c e : Inside N S s) (p : Occurrence N S)
      → Has p (occurrences_in (decide d alone t) e) → Was (occurrences_in t c) p
  operation_was end c e p has = absurd has
  operation_was (operation h rs rest) c e p has = ⊎_elim
      (λ same. record {
        it = record { site = c; head = h; regions = rs };
        here = inl refl;
        head = subst (λ (z : Occurrence N S). Decision h z.head) (sym same) (decision h rs);
      })
      (λ more. ⊎_elim
      (λ x. was_in (λ o y. inr (has-left o (occurrences_in rs (inner h c)) (occurrences_in rest c) y))
      (operation_was rs (inner h c) (inner (decide_head d alone h rs) e) p x))
      (λ x. was_in (λ o y. inr (has-right o (occurrences_in rs (inner h c)) (occurrences_in rest c) y))
      (operation_was rest c e p x))
      (has-append p (occurrences_in (decide d alone rs) (inner (decide_head d alone h rs) e))
      (occurrences_in (decide d alone rest) e) more))
      has
  operation_was (block l os rest) c e p has = ⊎_elim
      (λ x. was_in (λ o y. has-left o (occurrences_in os (record { spot = c; label = l }))
      (occurrences_in rest (next_block c)) y)
      (operation_was os (record { spot = c; label = l }) (record { spot = e; label = l }) p x))
      (λ x. was_in (λ o y. has-right o (occurrences_in os (record { spot = c; label = l }))
      (occurrences_in rest (next_block c)) y)
      (operation_was rest (next_block c) (next_block e) p x))
      (has-append p (occurrences_in (decide d alone os) (record { spot = e; label = l }))
      (occurrences_in (decide d alone rest) (next_block e)) has)
  operation_was (region bs rest) c e p has = ⊎_elim
      (λ x. was_in (λ o y. has-left o (occurrences_in bs c) (occurrences_in rest (next_region c)) y)
      (operation_was bs c e p x))
      (λ x. was_in (λ o y. has-right o (occurrences_in bs c) (occurrences_in rest (next_region c)) y)
      (operation_was rest (next_region c) (next_region e) p x))
      (has-append p (occurrences_in (decide d alone bs) e) (occurrences_in (decide d alone rest) (next_region e)) has)

  record WasBlock (xs : List (BlockOccurrence N S)) (y : BlockOccurrence N S) : Type 0 where
    it : BlockOccurrence N S
    here : Has it xs
    label : y.label ≡ it.label

  block_in : {xs ys : List (BlockOccurrence N S)} {y : BlockOccurrence N S}
      → ((x : BlockOccurrence N S) → Has x xs → Has x ys) → WasBlock xs y → WasBlock ys y
  block_in f w = record { it = w.it; here = f w.it w.here; label = w.label }

  block_was : {s : Sort} (t : Tree N S s) (c e : Inside N S s) (y : BlockOccurrence N S)
      → Has y (block_occurrences_in (decide d alone t) e) → WasBlock (block_occurrences_in t c) y
  block_was end c e y has = absurd has
  block_was (operation h rs rest) c e y has = ⊎_elim
      (λ x. block_in (λ o z. has-left o (block_occurrences_in rs (inner h c)) (block_occurrences_in rest c) z)
      (block_was rs (inner h c) (inner (decide_head d alone h rs) e) y x))
      (λ x. block_in (λ o z. has-right o (block_occurrences_in rs (inner h c)) (block_occurrences_in rest c) z)
      (block_was rest c e y x))
      (has-append y (block_occurrences_in (decide d alone rs) (inner (decide_head d alone h rs) e))
      (block_occurrences_in (decide d alone rest) e) has)
  block_was (block l os rest) c e y has = ⊎_elim
      (λ same. record {
        it = record { spot = c; label = l; operations = os };
        here = inl refl;
        label = ap (λ (z : BlockOccurrence N S). z.label) same;
      })
      (λ more. ⊎_elim
      (λ x. block_in (λ o z. inr (has-left o (block_occurrences_in os (record { spot = c; label = l }))
      (block_occurrences_in rest (next_block c)) z))
      (block_was os (record { spot = c; label = l }) (record { spot = e; label = l }) y x))
      (λ x. block_in (λ o z. inr (has-right o (block_occurrences_in os (record { spot = c; label = l }))
      (block_occurrences_in rest (next_block c)) z))
      (block_was rest (next_block c) (next_block e) y x))
      (has-append y (block_occurrences_in (decide d alone os) (record { spot = e; label = l }))
      (block_occurrences_in (decide d alone rest) (next_block e)) more))
      has
  block_was (region bs rest) c e y has = ⊎_elim
      (λ x. block_in (λ o z. has-left o (block_occurrences_in bs c) (block_occurrences_in rest (next_region c)) z)
      (block_was bs c e y x))
      (λ x. block_in (λ o z. has-right o (block_occurrences_in bs c) (block_occurrences_in rest (next_region c)) z)
      (block_was rest (next_region c) (next_region e) y x))
      (has-append y (block_occurrences_in (decide d alone bs) e)
      (block_occurrences_in (decide d alone rest) (next_region e)) has)

  defined_same : {s : Sort} (t : Tree N S s) → defined_in (decide d alone t) ≡ defined_in t
  defined_same end = refl
  defined_same (operation h rs rest) = λ i.
      names_of (results_same h (decide_head d alone h rs) (decision h rs) i) ++
      (defined_same rs i ++ defined_same rest i)
  defined_same (block l os rest) = λ i. names_of l.arguments ++ (defined_same os i ++ defined_same rest i)
  defined_same (region bs rest) = λ i. defined_same bs i ++ defined_same rest i

module _ {N : Names} (leads : TypeHandle → Option KitType) (type_at : N.value → TypeHandle) (w : TreeSurroundings N IntegerAttr)
    (t : Root N kit_contents) (typed : IsTyped leads {N = N} type_at t) where
  abbrev after : Root N kit_contents
  after = decided kit w t

  abbrev WasIn : Occurrence N kit_contents → Type 0
  WasIn p = Was kit w.alone (occurrences_of t) p

  was : (p : Occurrence N kit_contents) → Has p (occurrences_of after) → WasIn p
  was p hp = operation_was kit w.alone t.regions (at_root t) (at_root after) p hp

  block_before : (y : BlockOccurrence N kit_contents) → Has y (block_occurrences_of after)
      → WasBlock kit w.alone (block_occurrences_of t) y
  block_before y hy = block_was kit w.alone t.regions (at_root t) (at_root after) y hy

  abbrev handed : Head N kit_contents → ℕ → List ℕ
  handed h i = kit.forwards h.content (length h.operands) i

  -- what is forwarded along an edge is an operand
  forwarded_was : (h : Head N kit_contents) (i k : ℕ) (x : N.value) → slice_get (forwarded kit h i) k ≡ Some x
      → (j : ℕ) × (slice_get (handed h i) k ≡ Some j) × (slice_get h.operands j ≡ Some x)
  forwarded_was h i k x here = picked h.operands (handed h i)
      (λ n j at. kit_lawful.forwards_within h.content (length h.operands) i n j at) k x here

  operand_was : (h head : Head N kit_contents) → Decision kit w.alone h head → (x : N.value) → Has x head.operands
      → Has x h.operands
  operand_was h head (stays e) x has = subst (λ (z : Head N kit_contents). Has x z.operands) e has
  operand_was h head (becomes i c plain branch e) x has =
      let at = at_has (forwarded kit h i) x (subst (λ (z : Head N kit_contents). Has x z.operands) e has) in
      let j = forwarded_was h i at.place x at.is in
      has_get h.operands j.0 x j.2

  plain_is : (c : KitOperation) → kit.plain ≡ Some c → c ≡ operation_of ops.Br []
  plain_is c e = sym (some_same (operation_of ops.Br []) c e)

  head_fits : (h head : Head N kit_contents) → Decision kit w.alone h head
      → TypesFit leads {N = N} type_at h.content.kind h → TypesFit leads {N = N} type_at head.content.kind head
  head_fits h head (stays e) fits =
      subst (λ (z : Head N kit_contents). TypesFit leads {N = N} type_at z.content.kind z) (sym e) fits
  head_fits h head (becomes i c plain branch e) fits =
      subst (λ (z : Head N kit_contents). TypesFit leads {N = N} type_at z.content.kind z) (sym e)
      (subst (λ (z : KitOperation). TypesFit leads {N = N} type_at z.kind (along kit w.alone h i z))
      (sym (plain_is c plain)) tt)

  -- ---- edges

  stays_forwards : (o p : Occurrence N kit_contents) → p.head ≡ o.head → (i : ℕ) (v : N.value)
      → ForwardsTo kit after p i v → ForwardsTo kit t o i v
  stays_forwards o p head i v f =
      let x = block_before f.target f.stands in
      record {
        branch = subst (λ (z : Head N kit_contents). kit.is_branch z.content ≡ true) head f.branch;
        edge = f.edge;
        target = x.it;
        stands = x.here;
        leads = subst (λ (z : Head N kit_contents). slice_get z.successors f.edge ≡ Some x.it.label.name) head
            (f.leads ∙ ap (λ (l : Label N kit_contents). Some l.name) x.label);
        place = f.place;
        gives = subst (λ (z : Head N kit_contents). slice_get (kit.forwards z.content (length z.operands) f.edge)
            f.place ≡ Some i)
            head f.gives;
        takes = ap (λ (l : Label N kit_contents). slice_get (names_of l.arguments) f.place) (sym x.label) ∙ f.takes;
      }

  -- an operand of the unconditional branch along an edge was forwarded along this edge
  along_forwards : (o p : Occurrence N kit_contents) (edge : ℕ) (c : KitOperation) → kit.plain ≡ Some c
      → kit.is_branch o.head.content ≡ true → p.head ≡ along kit w.alone o.head edge c → (i : ℕ) (x v : N.value)
      → slice_get p.head.operands i ≡ Some x → ForwardsTo kit after p i v
      → (j : ℕ) × (slice_get o.head.operands j ≡ Some x) × ForwardsTo kit t o j v
  along_forwards o p edge c plain branch head i x v operand f =
      let b = block_before f.target f.stands in
      let whole : p.head ≡ along kit w.alone o.head edge (operation_of ops.Br []) =
      head ∙ ap (along kit w.alone o.head edge) (plain_is c plain) in
      let leads_there = subst (λ (z : Head N kit_contents). slice_get z.successors f.edge ≡ Some f.target.label.name)
      whole f.leads in
      let one = only_one (slice_get o.head.successors edge) f.edge f.target.label.name leads_there in
      let gives = subst
      (λ (z : Head N kit_contents). slice_get (kit.forwards z.content (length z.operands) f.edge) f.place ≡ Some i)
      whole f.gives in
      let gives_first = subst
      (λ n. slice_get (kit.forwards (operation_of ops.Br []) (length (forwarded kit o.head edge)) n) f.place ≡ Some i)
      one.0 gives in
      let r = range_get 0 (length (forwarded kit o.head edge)) f.place i gives_first in
      let index : i ≡ f.place = omega (arith, r.0) in
      let here : slice_get (forwarded kit o.head edge) f.place ≡ Some x =
      ap (slice_get (forwarded kit o.head edge)) (sym index)
      ∙ subst (λ (z : Head N kit_contents). slice_get z.operands i ≡ Some x) whole operand in
      let j = forwarded_was o.head edge f.place x here in (
        j.0,
        j.2,
        record {
          branch = branch;
          edge = edge;
          target = b.it;
          stands = b.here;
          leads = one.1 ∙ ap (λ (l : Label N kit_contents). Some l.name) b.label;
          place = f.place;
          gives = j.1;
          takes = ap (λ (l : Label N kit_contents). slice_get (names_of l.arguments) f.place) (sym b.label) ∙ f.takes;
        },
      )

  forwards_typed : (p : Occurrence N kit_contents) (i : ℕ) (x v : N.value) → Has p (occurrences_of after)
      → slice_get p.head.operands i ≡ Some x → ForwardsTo kit after p i v → type_at x ≡ type_at v
  forwards_typed p i x v hp operand f = by_decision (was p hp)
    where
      by_head : (o : Occurrence N kit_contents) → Has o (occurrences_of t) → Decision kit w.alone o.head p.head
          → type_at x ≡ type_at v
      by_head o ho (stays e) = typed.forwards o i x v ho
          (subst (λ (z : Head N kit_contents). slice_get z.operands i ≡ Some x) e operand) (stays_forwards o p e i v f)
      by_head o ho (becomes edge c plain branch e) =
          let g = along_forwards o p edge c plain branch e i x v operand f in
          typed.forwards o g.0 x v ho g.1 g.2

      by_decision : WasIn p → type_at x ≡ type_at v
      by_decision o = by_head o.it o.here o.head

  decided_typed : IsTyped leads {N = N} type_at after
  decided_typed = record {
    results = λ p hp v hv.
        let o = was p hp in
        typed.results o.it o.here v
        (subst (Has v) (results_same kit w.alone o.it.head p.head o.head) hv);
    arguments = λ y hy v hv.
        let x = block_before y hy in
        typed.arguments x.it x.here v (subst (λ (l : Label N kit_contents). Has v l.arguments) x.label hv);
    integers = λ v has. typed.integers v (subst (Has v) (defined_same kit w.alone t.regions) has);
    operands = λ p x hp hx.
        let o = was p hp in
        subst (Has x) (sym (defined_same kit w.alone t.regions))
        (typed.operands o.it x o.here (operand_was o.it.head p.head o.head x hx));
    operations = λ p hp.
        let o = was p hp in
        head_fits o.it.head p.head o.head (typed.operations o.it o.here);
    forwards = forwards_typed;
  }

pub typed_after_decided : {N : Names} (leads : TypeHandle → Option KitType) (type_at : N.value → TypeHandle)
    (w : TreeSurroundings N IntegerAttr) (t : Root N kit_contents) → IsTyped leads {N = N} type_at t
    → IsTyped leads {N = N} type_at (decided kit w t)
typed_after_decided leads type_at w t typed = decided_typed leads type_at w t typed
