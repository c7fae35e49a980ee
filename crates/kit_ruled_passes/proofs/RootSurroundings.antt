-- What a context says beside the tree of a module that keeps the rules and stays apart.
use Rattle.std.proofs.Common.{◌≡◌, ◌↔◌, ℕ, List, [], ◌∷◌, map, None, Option, Some, option_map, slice_get, refl}
use Rattle.std.proofs.Common.{sym, ap, ◌∙◌, subst}
use Rattle.std.proofs.lemmas.Option.{slice_get-map}
use Rattle.ir_base.specs.declared.types.TypeHandle.{TypeHandle}
use Rattle.ir_names.specs.Dictionary.{attribute_at}
use Rattle.ir_types.specs.Interned.{key_at}
use Rattle.ir_program.specs.Program.{Program, TypedValue, type_at}
use Rattle.ir_program.specs.declared.handles.DefiningEntity.TheVariants.{Op as ByOp, Block as ByBlock}
use Rattle.ir_program.specs.declared.handles.IRNode.TheVariants.{Operation as OperationNode}
use Rattle.ir_program.specs.declared.handles.Operation.{Operation}
use Rattle.ir_program.specs.declared.handles.Ptr.{Ptr}
use Rattle.ir_program.specs.declared.handles.Value.{Value}
use Rattle.ir_trees.specs.Renames.{names_of}
use Rattle.ir_trees.specs.Searched.{AreDistinct, operation_names}
use Rattle.ir_trees.specs.Stands.{by_handle, in_program, ProgramHead, ProgramLabel, defined_by, StandsFor}
use Rattle.ir_trees.specs.Trees.{Defined}
use Rattle.ir_trees.proofs.Members.{has_at}
use Rattle.ir_trees.proofs.OneTree.{one_tree}
use Rattle.kit.specs.Context.{KitContext, KitTree}
use Rattle.opt_trees.specs.Dce.{TreeSurroundings}
use Rattle.opt_trees.specs.Occurrences.{Has, Occurrence, BlockOccurrence, occurrences_of, block_occurrences_of}
use Rattle.opt_trees.specs.Occurrences.{types_of}
use Rattle.opt_trees.proofs.Lists.{none_some}
use Rattle.opt_inside.specs.Around.{SaysAround}
use Rattle.opt_inside.specs.Numbered.{values_in}
use Rattle.opt_inside.proofs.Added.{HasValues, definer_of}
use Rattle.opt_inside.proofs.Among.{results_are, arguments_are}
use Rattle.opt_inside.proofs.Around.{HasLists}
use Rattle.opt_inside.proofs.Reached.{one}
use Rattle.opt_inside.proofs.Values.{defined}
use Rattle.opt_inside.proofs.Walked.{sound, blocks_sound}
use Rattle.kit_ops.specs.declared.attributes.IntegerAttr.{IntegerAttr}
use Rattle.kit_ops.specs.declared.attributes.KitAttr.TheVariants as attrs
use Rattle.kit_ops.specs.declared.kinds.KitOp.TheVariants as ops
use Rattle.kit_ops.specs.Keys as keys
use Rattle.kit.specs.Meaning.{KitOperation, KitBlock, kit}
use Rattle.kit_checks.specs.declared.rule.Rule.TheVariants as rule
use Rattle.kit_checks.proofs.Down.{located}
use Rattle.kit_checks.proofs.Upward.{is_place}
use Rattle.kit_views.specs.FlatBranches.{IsConstantOf, KnowsConstants}
use Rattle.kit_views.specs.Laws.{NothingPinned}
use Rattle.kit_ruled_views.specs.Functions.{KeepsRules, IsSelfContained}
use Rattle.kit_ruled_views.proofs.FunctionParts.{Maker, result, argument, maker_of}
use Rattle.kit_ruled_views.proofs.InsidePlaces.{path_down}
use Rattle.kit_ruled_views.proofs.KnownConstants.{alone_as, alone_known, unknown}
use Rattle.kit_ruled_views.proofs.TypeLemmas.{defined_as}

-- what is known of the program and of the tree of the root
pub record IsKnownRoot (c : Program KitOperation KitBlock) (root : Ptr Operation) : Type 0 where
  pub lists : HasLists c
  pub values : HasValues c
  pub operations : (t : KitTree) → StandsFor c root t → AreDistinct (operation_names t)

module _ (s : KitContext) (root : Ptr Operation) (known : IsKnownRoot s.program root) (rules : KeepsRules s root)
    (w : TreeSurroundings by_handle IntegerAttr) (says : SaysAround kit s.program root w) (t : KitTree)
    (stands : StandsFor s.program root t) where
  pub nothing_pinned : IsSelfContained s root → NothingPinned w t
  nothing_pinned closed v has pinned =
      closed v ((defined s.program known.lists root t stands v).0 has) ((says.pinned v).0 pinned)

  -- what a result folds to alone, by the head of its operation
  abbrev head_alone : ProgramHead KitOperation KitBlock → ℕ → Option IntegerAttr
  head_alone h i =
      alone_as h.content.kind h.content.notes.attributes (types_of h.results) (unknown h.operands) i

  -- the operation is a constant of this number
  abbrev MakesNumber : ProgramHead KitOperation KitBlock → IntegerAttr → Type 0
  MakesNumber h a = (h.content.kind ≡ ops.Constant)
      × (attribute_at h.content.notes.attributes keys.constant_value ≡ Some (attrs.Integer a))

  types_are : (ts : List TypedValue) → types_of (map defined_by ts) ≡ map (λ (x : TypedValue). x.ty) ts
  types_are [] = refl
  types_are (x ∷ xs) = ap (λ l. x.ty ∷ l) (types_are xs)

  values_are : (ts : List TypedValue) → names_of (map defined_by ts) ≡ values_in ts
  values_are [] = refl
  values_are (x ∷ xs) = ap (λ l. x.value ∷ l) (values_are xs)

  module _ (o : Occurrence by_handle (in_program KitOperation KitBlock)) (ho : Has o (occurrences_of t)) (v : Value)
      (hv : Has v (names_of o.head.results)) where
    index : (d : Defined Value TypeHandle) × (k : ℕ) × (slice_get o.head.results k ≡ Some d)
        × Has d o.head.results × (d.name ≡ v)
    index = defined_as o.head.results v hv

    -- what is known alone of the result
    alone_is : w.alone v ≡ head_alone o.head index.1
    alone_is =
        let occurs = sound s.program root known.lists t stands o ho in
        let at : slice_get (values_in occurs.view.results) index.1 ≡ Some v =
        ap (λ l. slice_get l index.1) (sym (values_are occurs.view.results))
        ∙ ap (λ (h : ProgramHead KitOperation KitBlock). slice_get (names_of h.results) index.1) (sym occurs.head)
        ∙ slice_get-map (λ (d : Defined Value TypeHandle). d.name) o.head.results index.1
        ∙ ap (option_map (λ (d : Defined Value TypeHandle). d.name)) index.2 ∙ ap Some index.4 in
        says.result o.head.name occurs.view index.1 v occurs.there at
        ∙ ap (λ ts. alone_as occurs.view.payload.kind occurs.view.payload.notes.attributes ts
        (unknown occurs.view.operands) index.1) (sym (types_are occurs.view.results))
        ∙ ap (λ (h : ProgramHead KitOperation KitBlock). head_alone h index.1) (sym occurs.head)

    result_known : (a : IntegerAttr) → (w.alone v ≡ Some a) ↔ MakesNumber o.head a
    result_known a =
        let leads = key_at s.types in
        let typed = type_at s.program in
        let occurs = sound s.program root known.lists t stands o ho in
        let down = path_down s.program (OperationNode root) (OperationNode o.head.name) occurs.below.inside in
        let x = is_place s.program root o.head.name down.0 down.1 t stands in
        let there = located s.program known.lists root t stands down.0 x.0 x.1 in
        let mine : StandsFor s.program o.head.name x.0.op =
        subst (λ (n : Ptr Operation). StandsFor s.program n x.0.op) x.2 there.tree in
        let own : StandsFor s.program o.head.name (record { head = o.head; regions = o.regions }) =
        record { view = occurs.view; there = occurs.there; head = occurs.head; regions = occurs.regions } in
        let same : x.0.op ≡ record { head = o.head; regions = o.regions } =
        one_tree s.program o.head.name x.0.op (record { head = o.head; regions = o.regions }) mine own in
        let head : x.0.op.head ≡ o.head = ap (λ (u : KitTree). u.head) same in
        let at : slice_get x.0.op.head.results index.1 ≡ Some index.0 =
        ap (λ (h : ProgramHead KitOperation KitBlock). slice_get h.results index.1) head ∙ index.2 in
        let alone = alone_known leads typed x.0.op index.1 index.0 at x.0.op.head.content.kind
        (rules t stands rule.FitsFormat down.0 x.0 x.1) (rules t stands rule.ConstantsFit down.0 x.0 x.1) a in
        let is : (head_alone o.head index.1 ≡ Some a) ↔ MakesNumber o.head a =
        subst (λ (h : ProgramHead KitOperation KitBlock). (head_alone h index.1 ≡ Some a) ↔ MakesNumber h a) head
        alone in
        (λ e. is.0 (sym alone_is ∙ e), λ e. alone_is ∙ is.1 e)

    definer : v.definer ≡ ByOp o.head.name
    definer =
        let occurs = sound s.program root known.lists t stands o ho in
        definer_of s.program known.values (ByOp o.head.name) v
        (subst (Has v) (results_are s.program o.head.name occurs.view occurs.there)
        (subst (λ (h : ProgramHead KitOperation KitBlock). Has v (names_of h.results)) occurs.head hv))

  module _ (x : BlockOccurrence by_handle (in_program KitOperation KitBlock)) (hx : Has x (block_occurrences_of t))
      (v : Value) (hv : Has v (names_of x.label.arguments)) where
    block_definer : v.definer ≡ ByBlock x.label.name
    block_definer =
        let occurs = blocks_sound s.program root known.lists t stands x hx in
        definer_of s.program known.values (ByBlock x.label.name) v
        (subst (Has v) (arguments_are s.program x.label.name occurs.view occurs.there)
        (subst (λ (l : ProgramLabel KitOperation KitBlock). Has v (names_of l.arguments)) occurs.label hv))

    argument_alone : w.alone v ≡ None
    argument_alone =
        let occurs = blocks_sound s.program root known.lists t stands x hx in
        let has : Has v (values_in occurs.view.arguments) =
        subst (Has v) (values_are occurs.view.arguments)
        (subst (λ (l : ProgramLabel KitOperation KitBlock). Has v (names_of l.arguments)) occurs.label hv) in
        says.argument x.label.name occurs.view v occurs.there (has_at (values_in occurs.view.arguments) v has)

  value_known : (v : Value) → Maker t v → (a : IntegerAttr) → (w.alone v ≡ Some a) ↔ IsConstantOf w t v a
  value_known v (result o ho hv) a =
      let r = result_known o ho v hv a in (
        λ e. let m = r.0 e in record { definer = o; stands = ho; constant = m.0; result = hv; value = m.1 },
        λ k.
            let named : ByOp o.head.name ≡ ByOp k.definer.head.name =
            sym (definer o ho v hv) ∙ definer k.definer k.stands v k.result in
            let same_name : o.head.name ≡ k.definer.head.name = cc in
            let same : o ≡ k.definer = one t (known.operations t stands) o k.definer ho k.stands same_name in
            r.1 (subst (λ (z : Occurrence by_handle (in_program KitOperation KitBlock)). MakesNumber z.head a)
            (sym same)
            (k.constant, k.value)),
      )
  value_known v (argument x hx hv) a = (
    λ e. absurd (none_some a (sym (argument_alone x hx v hv) ∙ e)),
    λ k.
        let other : ByBlock x.label.name ≡ ByOp k.definer.head.name =
        sym (block_definer x hx v hv) ∙ definer k.definer k.stands v k.result in
        cc,
  )

  pub knows_constants : KnowsConstants w t
  knows_constants v a has = value_known v (maker_of t v has) a
