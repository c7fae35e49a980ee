-- What a context says beside the tree of a function that keeps the rules.
use Rattle.std.proofs.Common.{◌≡◌, ◌↔◌, ℕ, List, [], ◌∷◌, map, None, Option, Some, option_map, slice_get, refl, sym, ap}
use Rattle.std.proofs.Common.{◌∙◌, subst}
use Rattle.std.proofs.lemmas.Option.{slice_get-map}
use Rattle.ir_base.specs.declared.types.TypeHandle.{TypeHandle}
use Rattle.ir_names.specs.Dictionary.{attribute_at}
use Rattle.ir_types.specs.Interned.{key_at}
use Rattle.ir_program.specs.Lists.{StandsInside}
use Rattle.ir_program.specs.Program.{TypedValue, arguments_at, type_at}
use Rattle.ir_program.specs.Rows.{operands_at}
use Rattle.ir_program.specs.declared.handles.DefiningEntity.TheVariants.{Op as ByOp, Block as ByBlock}
use Rattle.ir_program.specs.declared.handles.IRNode.TheVariants.{Operation as OperationNode}
use Rattle.ir_program.specs.declared.handles.Operation.{Operation}
use Rattle.ir_program.specs.declared.handles.Ptr.{Ptr}
use Rattle.ir_program.specs.declared.handles.Value.{Value}
use Rattle.ir_trees.specs.Renames.{names_of}
use Rattle.ir_trees.specs.Searched.{Lists}
use Rattle.ir_trees.specs.Stands.{by_handle, in_program, ProgramHead, ProgramLabel, defined_by}
use Rattle.ir_trees.specs.Trees.{Defined}
use Rattle.ir_trees.proofs.Members.{has_at}
use Rattle.kit.specs.Context.{KitContext, KitTree}
use Rattle.opt_trees.specs.Dce.{TreeSurroundings}
use Rattle.opt_trees.specs.Occurrences.{Has, Occurrence, BlockOccurrence, occurrences_of, block_occurrences_of}
use Rattle.opt_trees.specs.Occurrences.{types_of}
use Rattle.opt_trees.proofs.Lists.{none_some}
use Rattle.opt_inside.specs.Around.{SaysAround}
use Rattle.opt_inside.specs.Numbered.{values_in}
use Rattle.opt_inside.specs.Occurring.{IsDefinedBelow}
use Rattle.opt_inside.proofs.Added.{definer_of}
use Rattle.opt_inside.proofs.Among.{results_are, arguments_are}
use Rattle.opt_inside.proofs.Reached.{one}
use Rattle.opt_inside.proofs.Values.{defined}
use Rattle.opt_inside.proofs.Walked.{sound, blocks_sound}
use Rattle.kit_ops.specs.declared.attributes.IntegerAttr.{IntegerAttr}
use Rattle.kit_ops.specs.declared.attributes.KitAttr.TheVariants as attrs
use Rattle.kit_ops.specs.declared.kinds.KitOp.TheVariants as ops
use Rattle.kit_ops.specs.Keys as keys
use Rattle.kit.specs.Meaning.{KitOperation, KitBlock, kit}
use Rattle.kit_checks.specs.declared.rule.Rule.TheVariants as rule
use Rattle.kit_checks.specs.Located.{IsSiteOf}
use Rattle.kit_checks.specs.World.{world_of}
use Rattle.kit_checks.proofs.Down.{located}
use Rattle.kit_checks.proofs.Upward.{is_place}
use Rattle.kit_views.specs.FlatBranches.{IsConstantOf}
use Rattle.kit_ruled_views.specs.Functions.{KeepsRules, IsTreeOf, IsSelfContained, HasNothingPinned}
use Rattle.kit_ruled_views.specs.Functions.{HasKnownConstants}
use Rattle.kit_ruled_views.proofs.ContextFunctions.{IsKnown, ruled}
use Rattle.kit_ruled_views.proofs.FunctionParts.{Maker, result, argument, maker_of}
use Rattle.kit_ruled_views.proofs.FunctionSites.{own_region}
use Rattle.kit_ruled_views.proofs.FunctionTypes.{place, keeps}
use Rattle.kit_ruled_views.proofs.InsidePlaces.{path_down}
use Rattle.kit_ruled_views.proofs.KnownConstants.{alone_as, alone_known, unknown}
use Rattle.kit_ruled_views.proofs.TypeLemmas.{defined_as}
use Rattle.kit_ruled_views.proofs.UnpinnedValues.{taker_inside, defined_higher}

module _ (s : KitContext) (root function : Ptr Operation) (known : IsKnown s.program root function)
    (rules : KeepsRules s root)
    (inside : StandsInside s.program (OperationNode root) (OperationNode function)) where
  -- an operation inside the root that takes a value of the function is inside the function
  taker : (p : Ptr Operation) (v : Value) → Lists (operands_at s.program p) v
      → StandsInside s.program (OperationNode root) (OperationNode p) → IsDefinedBelow s.program function v
      → StandsInside s.program (OperationNode function) (OperationNode p)
  taker p v takes in_root below =
      let t = known.root_tree in
      let down = path_down s.program (OperationNode root) (OperationNode p) in_root in
      let x = is_place s.program root p down.0 down.1 t.0 t.1 in
      let at = located s.program known.lists root t.0 t.1 down.0 x.0 x.1 in
      let site : IsSiteOf s.program root p x.0 = subst (λ (n : Ptr Operation). IsSiteOf s.program root n x.0) x.2 at in
      taker_inside s.program known.lists known.values function (world_of s) root p x.0 site
      (rules t.0 t.1 rule.OperandsAreVisible down.0 x.0 x.1) v takes below

  pub has_nothing_pinned : IsSelfContained s root → HasNothingPinned s function
  has_nothing_pinned closed w says u is v has pinned =
      let below : IsDefinedBelow s.program function v = (defined s.program known.lists function u is.tree v).0 has in
      let taken = (says.pinned v).0 pinned in
      closed v (defined_higher s.program known.lists root function inside v below)
      (taken.0, (λ in_root. taken.1 (taker taken.0 v taken.2 in_root below)), taken.2)

  -- ---- constants

  module _ (w : TreeSurroundings by_handle IntegerAttr) (says : SaysAround kit s.program function w) (u : KitTree)
      (is : IsTreeOf s function u) where
    -- what a result folds to alone, by the head of its operation
    abbrev head_alone : ProgramHead KitOperation KitBlock → ℕ → Option IntegerAttr
    head_alone h i =
        alone_as h.content.kind h.content.notes.attributes (types_of h.results) (unknown h.operands) i

    -- the operation is a constant of this number
    abbrev MakesNumber : ProgramHead KitOperation KitBlock → IntegerAttr → Type 0
    MakesNumber h a = (h.content.kind ≡ ops.Constant)
        × (attribute_at h.content.notes.attributes keys.constant_value ≡ Some (attrs.Integer a))

    types_are : (ts : List TypedValue) → types_of (map defined_by ts) ≡ map (λ (t : TypedValue). t.ty) ts
    types_are [] = refl
    types_are (t ∷ ts) = ap (λ l. t.ty ∷ l) (types_are ts)

    values_are : (ts : List TypedValue) → names_of (map defined_by ts) ≡ values_in ts
    values_are [] = refl
    values_are (t ∷ ts) = ap (λ l. t.value ∷ l) (values_are ts)

    module _ (o : Occurrence by_handle (in_program KitOperation KitBlock)) (ho : Has o (occurrences_of u)) (v : Value)
        (hv : Has v (names_of o.head.results)) where
      index : (d : Defined Value TypeHandle) × (k : ℕ) × (slice_get o.head.results k ≡ Some d)
          × Has d o.head.results × (d.name ≡ v)
      index = defined_as o.head.results v hv

      -- what is known alone of the result
      alone_is : w.alone v ≡ head_alone o.head index.1
      alone_is =
          let occurs = sound s.program function known.lists u is.tree o ho in
          let at : slice_get (values_in occurs.view.results) index.1 ≡ Some v =
          ap (λ l. slice_get l index.1) (sym (values_are occurs.view.results))
          ∙ ap (λ (h : ProgramHead KitOperation KitBlock). slice_get (names_of h.results) index.1) (sym occurs.head)
          ∙ slice_get-map (λ (d : Defined Value TypeHandle). d.name) o.head.results index.1
          ∙ ap (option_map (λ (d : Defined Value TypeHandle). d.name)) index.2 ∙ ap Some index.4 in
          says.result o.head.name occurs.view index.1 v occurs.there at
          ∙ ap (λ ts. alone_as occurs.view.payload.kind occurs.view.payload.notes.attributes ts
          (unknown occurs.view.operands) index.1) (sym (types_are occurs.view.results))
          ∙ ap (λ (h : ProgramHead KitOperation KitBlock). head_alone h index.1) (sym occurs.head)

      result_known : (a : IntegerAttr) → (w.alone v ≡ Some a) ↔ MakesNumber o.head a
      result_known a =
          let leads = key_at s.types in
          let typed = type_at s.program in
          let is_ruled = ruled s root function known u is rules inside in
          let b = own_region leads typed u is_ruled in
          let p = place leads typed u is_ruled b.0 b.1 o ho in
          let kept = keeps leads typed u is_ruled b.0 b.1 o.head p in
          let at : slice_get p.op.head.results index.1 ≡ Some index.0 =
          ap (λ (h : ProgramHead KitOperation KitBlock). slice_get h.results index.1) p.head ∙ index.2 in
          let mine = alone_known leads typed p.op index.1 index.0 at p.op.head.content.kind (kept rule.FitsFormat)
          (kept rule.ConstantsFit) a in
          let there : (head_alone o.head index.1 ≡ Some a) ↔ MakesNumber o.head a =
          subst (λ (h : ProgramHead KitOperation KitBlock). (head_alone h index.1 ≡ Some a) ↔ MakesNumber h a) p.head
          mine in
          (λ e. there.0 (sym alone_is ∙ e), λ e. alone_is ∙ there.1 e)

      definer : v.definer ≡ ByOp o.head.name
      definer =
          let occurs = sound s.program function known.lists u is.tree o ho in
          definer_of s.program known.values (ByOp o.head.name) v
          (subst (Has v) (results_are s.program o.head.name occurs.view occurs.there)
          (subst (λ (h : ProgramHead KitOperation KitBlock). Has v (names_of h.results)) occurs.head hv))

    module _ (x : BlockOccurrence by_handle (in_program KitOperation KitBlock)) (hx : Has x (block_occurrences_of u))
        (v : Value) (hv : Has v (names_of x.label.arguments)) where
      arguments_here : Has v (values_in (arguments_at s.program x.label.name))
      arguments_here =
          let occurs = blocks_sound s.program function known.lists u is.tree x hx in
          subst (Has v) (arguments_are s.program x.label.name occurs.view occurs.there)
          (subst (λ (l : ProgramLabel KitOperation KitBlock). Has v (names_of l.arguments)) occurs.label hv)

      block_definer : v.definer ≡ ByBlock x.label.name
      block_definer = definer_of s.program known.values (ByBlock x.label.name) v arguments_here

      argument_alone : w.alone v ≡ None
      argument_alone =
          let occurs = blocks_sound s.program function known.lists u is.tree x hx in
          let has : Has v (values_in occurs.view.arguments) =
          subst (Has v) (values_are occurs.view.arguments)
          (subst (λ (l : ProgramLabel KitOperation KitBlock). Has v (names_of l.arguments)) occurs.label hv) in
          says.argument x.label.name occurs.view v occurs.there (has_at (values_in occurs.view.arguments) v has)

    value_known : (v : Value) → Maker u v → (a : IntegerAttr) → (w.alone v ≡ Some a) ↔ IsConstantOf w u v a
    value_known v (result o ho hv) a =
        let r = result_known o ho v hv a in (
          λ e. let m = r.0 e in record { definer = o; stands = ho; constant = m.0; result = hv; value = m.1 },
          λ c.
              let named : ByOp o.head.name ≡ ByOp c.definer.head.name =
              sym (definer o ho v hv) ∙ definer c.definer c.stands v c.result in
              let same_name : o.head.name ≡ c.definer.head.name = cc in
              let same : o ≡ c.definer = one u (known.operations u is.tree) o c.definer ho c.stands same_name in
              r.1 (subst (λ (z : Occurrence by_handle (in_program KitOperation KitBlock)). MakesNumber z.head a)
              (sym same)
              (c.constant, c.value)),
        )
    value_known v (argument x hx hv) a = (
      λ e. absurd (none_some a (sym (argument_alone x hx v hv) ∙ e)),
      λ c.
          let other : ByBlock x.label.name ≡ ByOp c.definer.head.name =
          sym (block_definer x hx v hv) ∙ definer c.definer c.stands v c.result in
          cc,
    )

  pub has_known_constants : HasKnownConstants s function
  has_known_constants w says u is v a has = value_known w says u is v (maker_of u v has) a
