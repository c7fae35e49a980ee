-- A typed function under other names.
use Rattle.std.proofs.Common.{◌≡◌, inl, inr, ⊎_elim, ◌<◌, ◌^◌, ℕ, List, ◌++◌, true, map, length, Option, Some}
use Rattle.std.proofs.Common.{slice_get, sym, ap, ◌∙◌, subst}
use Rattle.ir_base.specs.declared.types.TypeHandle.{TypeHandle}
use Rattle.ir_names.specs.Dictionary.{attribute_at}
use Rattle.ir_trees.specs.Names.{Names, Contents}
use Rattle.ir_trees.specs.Renames.{Maps, IsOneToOne, names_of, rename_defined, rename_head, rename_root, values_at}
use Rattle.ir_trees.specs.Renames.{values_in, values_of, blocks_in, blocks_of}
use Rattle.ir_trees.specs.Searched.{Lists}
use Rattle.ir_trees.specs.Trees.{Defined, Head, Sort, Tree, Root, end, operation, block, region}
use Rattle.opt_trees.specs.Dce.{ForwardsTo}
use Rattle.opt_trees.specs.Occurrences.{Has, Occurrence, BlockOccurrence, Inside, inner, next_block, next_region}
use Rattle.opt_trees.specs.Occurrences.{at_root, occurrences_in, occurrences_of, block_occurrences_in}
use Rattle.opt_trees.specs.Occurrences.{block_occurrences_of, defined_in, rename_occurrence, rename_block_occurrence}
use Rattle.opt_trees.proofs.Defined.{result_defined, argument_defined}
use Rattle.opt_trees.proofs.Lists.{names-map, length-map, has-map, has-from_map, Preimage}
use Rattle.opt_trees.proofs.NoneDead.{has-append, has-left, has-right}
use Rattle.opt_trees.proofs.Trees.{operations_renamed, blocks_renamed, values_renamed}
use Rattle.kit_ops.specs.declared.attributes.KitAttr.TheVariants as attrs
use Rattle.kit_ops.specs.declared.kinds.KitOp.{KitOp}
use Rattle.kit_ops.specs.declared.kinds.KitOp.TheVariants as ops
use Rattle.kit_ops.specs.declared.types.KitType.{KitType}
use Rattle.kit_ops.specs.Keys.{constant_value}
use Rattle.kit.specs.Meaning.{kit}
use Rattle.kit_views.specs.Reading.{kit_contents}
use Rattle.kit_views.specs.Typed.{IsMachineInteger, LeadsToBit, TypesFit, IsTyped, number_as, width_at}
use Rattle.kit_views.proofs.Lists.{at_has, has_get}
use Rattle.kit_ruled_views.proofs.RenamedViews.{value_listed}
use Rattle.kit_ruled_views.proofs.SmallLists.{at_mapped}

-- ---- blocks that are in a tree or mentioned in it

module _ {N : Names} {S : Contents} where
  successor_listed : {s : Sort} (t : Tree N S s) (c : Inside N S s) (o : Occurrence N S) (b : N.block)
      → Has o (occurrences_in t c) → Has b o.head.successors → Has b (blocks_in t)
  successor_listed end c o b has here = absurd has
  successor_listed (operation h rs rest) c o b has here = ⊎_elim
      (λ e. has-left b h.successors (blocks_in rs ++ blocks_in rest)
      (subst (λ (z : Occurrence N S). Has b z.head.successors) e here))
      (λ more. has-right b h.successors (blocks_in rs ++ blocks_in rest) (⊎_elim
      (λ x. has-left b (blocks_in rs) (blocks_in rest) (successor_listed rs (inner h c) o b x here))
      (λ x. has-right b (blocks_in rs) (blocks_in rest) (successor_listed rest c o b x here))
      (has-append o (occurrences_in rs (inner h c)) (occurrences_in rest c) more)))
      has
  successor_listed (block l os rest) c o b has here = inr (⊎_elim
      (λ x. has-left b (blocks_in os) (blocks_in rest)
      (successor_listed os (record { spot = c; label = l }) o b x here))
      (λ x. has-right b (blocks_in os) (blocks_in rest) (successor_listed rest (next_block c) o b x here))
      (has-append o (occurrences_in os (record { spot = c; label = l })) (occurrences_in rest (next_block c)) has))
  successor_listed (region bs rest) c o b has here = ⊎_elim
      (λ x. has-left b (blocks_in bs) (blocks_in rest) (successor_listed bs c o b x here))
      (λ x. has-right b (blocks_in bs) (blocks_in rest) (successor_listed rest (next_region c) o b x here))
      (has-append o (occurrences_in bs c) (occurrences_in rest (next_region c)) has)

  block_listed : {s : Sort} (t : Tree N S s) (c : Inside N S s) (x : BlockOccurrence N S)
      → Has x (block_occurrences_in t c) → Has x.label.name (blocks_in t)
  block_listed end c x has = absurd has
  block_listed (operation h rs rest) c x has =
      has-right x.label.name h.successors (blocks_in rs ++ blocks_in rest) (⊎_elim
      (λ y. has-left x.label.name (blocks_in rs) (blocks_in rest) (block_listed rs (inner h c) x y))
      (λ y. has-right x.label.name (blocks_in rs) (blocks_in rest) (block_listed rest c x y))
      (has-append x (block_occurrences_in rs (inner h c)) (block_occurrences_in rest c) has))
  block_listed (block l os rest) c x has = ⊎_elim
      (λ e. inl (ap (λ (z : BlockOccurrence N S). z.label.name) e))
      (λ more. inr (⊎_elim
      (λ y. has-left x.label.name (blocks_in os) (blocks_in rest)
      (block_listed os (record { spot = c; label = l }) x y))
      (λ y. has-right x.label.name (blocks_in os) (blocks_in rest) (block_listed rest (next_block c) x y))
      (has-append x (block_occurrences_in os (record { spot = c; label = l }))
      (block_occurrences_in rest (next_block c)) more)))
      has
  block_listed (region bs rest) c x has = ⊎_elim
      (λ y. has-left x.label.name (blocks_in bs) (blocks_in rest) (block_listed bs c x y))
      (λ y. has-right x.label.name (blocks_in bs) (blocks_in rest) (block_listed rest (next_region c) x y))
      (has-append x (block_occurrences_in bs c) (block_occurrences_in rest (next_region c)) has)

module _ {N M : Names} (leads : TypeHandle → Option KitType) (m : Maps N M) (t : Root N kit_contents)
    (type_at : N.value → TypeHandle) (type_under : M.value → TypeHandle) (one : IsOneToOne m t)
    (agree : (v : N.value) → Lists (values_of t) v → type_under (m.value v) ≡ type_at v)
    (typed : IsTyped leads {N = N} type_at t) where
  abbrev under : Root M kit_contents
  under = rename_root m t

  -- a value that is defined has the type that it had
  same_type : (v : N.value) → Has v (defined_in t.regions) → type_under (m.value v) ≡ type_at v
  same_type v has =
      let at = at_has (values_of t) v
      (has-right v (values_at t.head) (values_in t.regions) (value_listed t.regions v has)) in
      agree v (at.place, at.is)

  was : (p : Occurrence M kit_contents) → Has p (occurrences_of under)
      → Preimage (rename_occurrence m) p (occurrences_of t)
  was p hp = has-from_map (rename_occurrence m) p (occurrences_of t) (subst (Has p) (operations_renamed m t) hp)

  block_was : (y : BlockOccurrence M kit_contents) → Has y (block_occurrences_of under)
      → Preimage (rename_block_occurrence m) y (block_occurrences_of t)
  block_was y hy =
      has-from_map (rename_block_occurrence m) y (block_occurrences_of t) (subst (Has y) (blocks_renamed m t) hy)

  -- a name among renamed definitions
  name_was : (v : M.value) (ds : List (Defined N.value TypeHandle)) → Has v (names_of (map (rename_defined m.value) ds))
      → Preimage m.value v (names_of ds)
  name_was v ds has = has-from_map m.value v (names_of ds) (subst (Has v) (names-map m.value ds) has)

  definitions_typed : (ds : List (Defined N.value TypeHandle))
      → ((d : Defined N.value TypeHandle) → Has d ds → type_at d.name ≡ d.holds)
      → ((v : N.value) → Has v (names_of ds) → Has v (defined_in t.regions))
      → (v : Defined M.value TypeHandle) → Has v (map (rename_defined m.value) ds) → type_under v.name ≡ v.holds
  definitions_typed ds are sub v has =
      let d = has-from_map (rename_defined m.value) v ds has in
      let in_names = has-map (λ (x : Defined N.value TypeHandle). x.name) d.it ds d.stands in
      ap (λ (x : Defined M.value TypeHandle). type_under x.name) (sym d.is)
      ∙ same_type d.it.name (sub d.it.name in_names) ∙ are d.it d.stands
      ∙ ap (λ (x : Defined M.value TypeHandle). x.holds) d.is

  results_typed : (p : Occurrence M kit_contents) → Has p (occurrences_of under) → (v : Defined M.value TypeHandle)
      → Has v p.head.results → type_under v.name ≡ v.holds
  results_typed p hp v hv =
      let o = was p hp in
      definitions_typed o.it.head.results (typed.results o.it o.stands)
      (λ u hu. result_defined t.regions (at_root t) o.it u o.stands hu) v
      (subst (λ (z : Occurrence M kit_contents). Has v z.head.results) (sym o.is) hv)

  arguments_typed : (y : BlockOccurrence M kit_contents) → Has y (block_occurrences_of under)
      → (v : Defined M.value TypeHandle) → Has v y.label.arguments → type_under v.name ≡ v.holds
  arguments_typed y hy v hv =
      let x = block_was y hy in
      definitions_typed x.it.label.arguments (typed.arguments x.it x.stands)
      (λ u hu. argument_defined t.regions (at_root t) x.it u x.stands hu) v
      (subst (λ (z : BlockOccurrence M kit_contents). Has v z.label.arguments) (sym x.is) hv)

  values_integer : (v : M.value) → Has v (defined_in under.regions) → IsMachineInteger leads (type_under v)
  values_integer v has =
      let u = has-from_map m.value v (defined_in t.regions) (subst (Has v) (values_renamed m t.regions) has) in
      subst (λ z. IsMachineInteger leads (type_under z)) u.is
      (subst (IsMachineInteger leads) (sym (same_type u.it u.stands)) (typed.integers u.it u.stands))

  operands_defined : (p : Occurrence M kit_contents) (x : M.value) → Has p (occurrences_of under)
      → Has x p.head.operands → Has x (defined_in under.regions)
  operands_defined p x hp hx =
      let o = was p hp in
      let u = has-from_map m.value x o.it.head.operands
      (subst (λ (z : Occurrence M kit_contents). Has x z.head.operands) (sym o.is) hx) in
      subst (λ z. Has z (defined_in under.regions)) u.is
      (subst (Has (m.value u.it)) (sym (values_renamed m t.regions))
      (has-map m.value u.it (defined_in t.regions) (typed.operands o.it u.it o.stands u.stands)))

  -- ---- kinds

  module _ (o : Occurrence N kit_contents) (ho : Has o (occurrences_of t)) where
    operand_type : (x : M.value) → Has x (map m.value o.head.operands)
        → (u : N.value) × Has u o.head.operands × (type_under x ≡ type_at u)
    operand_type x has =
        let u = has-from_map m.value x o.head.operands has in
        (u.it, u.stands, ap type_under (sym u.is) ∙ same_type u.it (typed.operands o u.it ho u.stands))

    result_type : (v : M.value) → Has v (names_of (map (rename_defined m.value) o.head.results))
        → (u : N.value) × Has u (names_of o.head.results) × (type_under v ≡ type_at u)
    result_type v has =
        let u = name_was v o.head.results has in (
          u.it,
          u.stands,
          ap type_under (sym u.is)
              ∙ same_type u.it (result_defined t.regions (at_root t) o u.it ho u.stands),
        )

    fits_under : (k : KitOp) → TypesFit leads {N = N} type_at k o.head
        → TypesFit leads {N = M} type_under k (rename_head m o.head)
    fits_under ops.Constant fits = λ v hv.
        let u = result_type v hv in
        subst (λ h. (n : ℕ)
        × (attribute_at o.head.content.notes.attributes constant_value ≡ Some (attrs.Integer (number_as leads h n)))
        × (n < 2 ^ width_at leads h)) (sym u.2) (fits u.0 u.1)
    fits_under (ops.Arithmetic a) fits = λ x v hx hv.
        let y = operand_type x hx in
        let u = result_type v hv in
        y.2 ∙ fits y.0 u.0 y.1 u.1 ∙ sym u.2
    fits_under (ops.Comparison a) fits = (
      λ x y hx hy.
          let a = operand_type x hx in
          let b = operand_type y hy in
          a.2 ∙ fits.0 a.0 b.0 a.1 b.1 ∙ sym b.2,
      λ v hv. let u = result_type v hv in subst (LeadsToBit leads) (sym u.2) (fits.1 u.0 u.1),
    )
    fits_under ops.CondBr fits = λ x here.
        let u = at_mapped m.value o.head.operands 0 x here in
        let ty = ap type_under u.2 ∙ same_type u.0 (typed.operands o u.0 ho (has_get o.head.operands 0 u.0 u.1)) in
        subst (LeadsToBit leads) (sym ty) (fits u.0 u.1)
    fits_under _ fits = tt

    -- ---- edges

    forwards_was : (p : Occurrence M kit_contents) → p.head ≡ rename_head m o.head → (i : ℕ) (v : M.value)
        → ForwardsTo kit under p i v → (u : N.value) × ForwardsTo kit t o i u × (type_under v ≡ type_at u)
    forwards_was p head i v f =
        let x = block_was f.target f.stands in
        let leads_there : slice_get (map m.block o.head.successors) f.edge ≡ Some (m.block x.it.label.name) =
        subst (λ (h : Head M kit_contents). slice_get h.successors f.edge ≡ Some f.target.label.name) head f.leads
        ∙ ap (λ (z : BlockOccurrence M kit_contents). Some z.label.name) (sym x.is) in
        let b = at_mapped m.block o.head.successors f.edge (m.block x.it.label.name) leads_there in
        let in_b = at_has (blocks_of t) b.0 (has-right b.0 t.head.successors (blocks_in t.regions)
        (successor_listed t.regions (at_root t) o b.0 ho (has_get o.head.successors f.edge b.0 b.1))) in
        let in_x = at_has (blocks_of t) x.it.label.name
        (has-right x.it.label.name t.head.successors (blocks_in t.regions)
        (block_listed t.regions (at_root t) x.it x.stands)) in
        let same : b.0 ≡ x.it.label.name =
        one.blocks b.0 x.it.label.name (in_b.place, in_b.is) (in_x.place, in_x.is) (sym b.2) in
        let takes : slice_get (map m.value (names_of x.it.label.arguments)) f.place ≡ Some v =
        ap (λ l. slice_get l f.place) (sym (names-map m.value x.it.label.arguments))
        ∙ ap (λ (z : BlockOccurrence M kit_contents). slice_get (names_of z.label.arguments) f.place) x.is ∙ f.takes in
        let u = at_mapped m.value (names_of x.it.label.arguments) f.place v takes in
        let gives : slice_get (kit.forwards o.head.content (length (map m.value o.head.operands)) f.edge) f.place
        ≡ Some i =
        subst (λ (h : Head M kit_contents). slice_get (kit.forwards h.content (length h.operands) f.edge) f.place
        ≡ Some i) head f.gives in
        let defined = argument_defined t.regions (at_root t) x.it u.0 x.stands
        (has_get (names_of x.it.label.arguments) f.place u.0 u.1) in (
          u.0,
          record {
            branch = subst (λ (h : Head M kit_contents). kit.is_branch h.content ≡ true) head f.branch;
            edge = f.edge;
            target = x.it;
            stands = x.stands;
            leads = b.1 ∙ ap Some same;
            place = f.place;
            gives = ap (λ n. slice_get (kit.forwards o.head.content n f.edge) f.place)
                (sym (length-map m.value o.head.operands)) ∙ gives;
            takes = u.1;
          },
          ap type_under u.2 ∙ same_type u.0 defined,
        )

  forwards_typed : (p : Occurrence M kit_contents) (i : ℕ) (x v : M.value) → Has p (occurrences_of under)
      → slice_get p.head.operands i ≡ Some x → ForwardsTo kit under p i v → type_under x ≡ type_under v
  forwards_typed p i x v hp operand f =
      let o = was p hp in
      let head : p.head ≡ rename_head m o.it.head = ap (λ (z : Occurrence M kit_contents). z.head) (sym o.is) in
      let g = forwards_was o.it o.stands p head i v f in
      let y = at_mapped m.value o.it.head.operands i x
      (subst (λ (h : Head M kit_contents). slice_get h.operands i ≡ Some x) head operand) in
      ap type_under y.2 ∙ same_type y.0 (typed.operands o.it y.0 o.stands (has_get o.it.head.operands i y.0 y.1))
      ∙ typed.forwards o.it i y.0 g.0 o.stands y.1 g.1 ∙ sym g.2

  pub typed_under : IsTyped leads {N = M} type_under under
  typed_under = record {
    results = results_typed;
    arguments = arguments_typed;
    integers = values_integer;
    operands = operands_defined;
    operations = λ p hp.
        let o = was p hp in
        subst (λ (z : Occurrence M kit_contents). TypesFit leads {N = M} type_under z.head.content.kind z.head) o.is
        (fits_under o.it o.stands o.it.head.content.kind (typed.operations o.it o.stands));
    forwards = forwards_typed;
  }
