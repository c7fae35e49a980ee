-- A function of a module of a context: its place, its names and its types.
use Rattle.std.proofs.Common.{◌≡◌, List, [], ◌∷◌, ◌++◌, map, Some, option_map, unwrap_or, slice_get, refl, sym, ap, ◌∙◌}
use Rattle.std.proofs.Common.{subst}
use Rattle.std.proofs.lemmas.List.{append-nil}
use Rattle.ir_base.specs.declared.types.TypeHandle.{TypeHandle}
use Rattle.ir_types.specs.Interned.{key_at}
use Rattle.ir_program.specs.Definers.{values_at}
use Rattle.ir_program.specs.Lists.{StandsInside}
use Rattle.ir_program.specs.Preorder.{nodes_inside, AreInside, IsPreorder, StandOnceEach, more}
use Rattle.ir_program.specs.Program.{Program, TypedValue, OperationView, BlockView, type_at, results_at, arguments_at}
use Rattle.ir_program.specs.declared.handles.DefiningEntity.{DefiningEntity}
use Rattle.ir_program.specs.declared.handles.DefiningEntity.TheVariants.{Op as ByOp, Block as ByBlock}
use Rattle.ir_program.specs.declared.handles.IRNode.{IRNode}
use Rattle.ir_program.specs.declared.handles.IRNode.TheVariants.{Operation as OperationNode}
use Rattle.ir_program.specs.declared.handles.Operation.{Operation}
use Rattle.ir_program.specs.declared.handles.Ptr.{Ptr}
use Rattle.ir_program.specs.declared.handles.Value.{Value}
use Rattle.ir_trees.specs.Searched.{AreDistinct, operation_names, block_names}
use Rattle.ir_trees.specs.Stands.{StandsFor, ProgramHead, ProgramLabel, defined_by}
use Rattle.ir_trees.specs.Trees.{Defined}
use Rattle.ir_trees.proofs.Members.{has_at, has_made}
use Rattle.ir_trees.proofs.OneTree.{one_tree}
use Rattle.kit.specs.Context.{KitContext, KitTree}
use Rattle.kit_checks.specs.KitWorld.{HasDeclaredTypes}
use Rattle.opt_trees.specs.Occurrences.{Has, defined_in}
use Rattle.opt_inside.proofs.Added.{HasValues}
use Rattle.opt_inside.proofs.Among.{numbers_among}
use Rattle.opt_inside.proofs.Around.{HasLists}
use Rattle.opt_inside.proofs.Counting.{numbering_ends}
use Rattle.opt_inside.proofs.Walked.{sound, blocks_sound}
use Rattle.kit.specs.Meaning.{KitOperation, KitBlock}
use Rattle.kit_checks.proofs.Down.{located}
use Rattle.kit_checks.proofs.Upward.{is_place}
use Rattle.kit_ruled_views.specs.Functions.{KeepsRules, IsTreeOf, HasFlatView, HasTypes}
use Rattle.kit_ruled_views.specs.Ruled.{IsRuledFunction, HasOwnNames}
use Rattle.kit_ruled_views.proofs.FunctionTypes.{typed_function}
use Rattle.kit_ruled_views.proofs.FunctionViews.{flat_view}
use Rattle.kit_ruled_views.proofs.InsidePlaces.{path_down}

root_first : {O B : Type 0} (c : Program O B) (e : IRNode) (all : List IRNode) → IsPreorder c (e ∷ []) all
    → (ns : List IRNode) × (all ≡ e ∷ ns)
root_first c _ _ (more e es inner rest d ds) = (inner ++ rest, refl)

module _ {O B : Type 0} (c : Program O B) (values : HasValues c) where
  -- the definitions of an entity say the types of its values
  definer_types : (e : DefiningEntity) (ts : List TypedValue) → values_at c e ≡ ts → (d : Defined Value TypeHandle)
      → Has d (map defined_by ts) → type_at c d.name ≡ Some d.holds
  definer_types e ts are d has =
      let m = has_made defined_by ts d has in
      let k = has_at ts m.0 m.1 in
      let at : slice_get (values_at c e) k.0 ≡ Some m.0 = ap (λ l. slice_get l k.0) are ∙ k.1 in
      let typed : type_at c m.0.value ≡ Some m.0.ty =
      values.typed e k.0 m.0.value (ap (option_map (λ (t : TypedValue). t.value)) at)
      ∙ ap (option_map (λ (t : TypedValue). t.ty)) at in
      ap (λ (x : Defined Value TypeHandle). type_at c x.name) m.2 ∙ typed
      ∙ ap (λ (x : Defined Value TypeHandle). Some x.holds) (sym m.2)

-- what a law learns of the program
pub record IsKnown (c : Program KitOperation KitBlock) (root function : Ptr Operation) : Type 0 where
  pub lists : HasLists c
  pub values : HasValues c
  pub root_tree : (t : KitTree) × StandsFor c root t
  pub operations : (u : KitTree) → StandsFor c function u → AreDistinct (operation_names u)
  pub blocks : (u : KitTree) → StandsFor c function u → AreDistinct (block_names u)
  pub inside : AreInside c (OperationNode function) (nodes_inside c (OperationNode function))
  pub once : StandOnceEach (nodes_inside c (OperationNode function))
  pub order : IsPreorder c (OperationNode function ∷ []) (nodes_inside c (OperationNode function))

module _ (s : KitContext) (root function : Ptr Operation) (known : IsKnown s.program root function) (u : KitTree)
    (is : IsTreeOf s function u) where
  -- the function is at a place of the root's tree
  pub ruled : KeepsRules s root → StandsInside s.program (OperationNode root) (OperationNode function)
      → IsRuledFunction (key_at s.types) (type_at s.program) u
  ruled rules inside =
      let t = known.root_tree in
      let down = path_down s.program (OperationNode root) (OperationNode function) inside in
      let x = is_place s.program root function down.0 down.1 t.0 t.1 in
      let at = located s.program known.lists root t.0 t.1 down.0 x.0 x.1 in
      let mine : StandsFor s.program function x.0.op =
      subst (λ (n : Ptr Operation). StandsFor s.program n x.0.op) x.2 at.tree in
      let same : x.0.op ≡ u = one_tree s.program function x.0.op u mine is.tree in
      record {
        root = t.0;
        keeps = rules t.0 t.1;
        place = down.0;
        around = x.0.around;
        there = x.1 ∙ (λ i. Some (record { op = same i; around = x.0.around }));
        function = is.kind;
      }

  own_values : AreDistinct (defined_in u.regions)
  own_values =
      let first = root_first s.program (OperationNode function) (nodes_inside s.program (OperationNode function))
      known.order in
      let parts = first.1 ∙ ap (λ l. OperationNode function ∷ l) (sym (append-nil first.0)) in
      let numbers = numbering_ends s.program function known.inside known.values known.once known.order
      (numbers_among s.program first.0) [] refl (record { done = first.0; parts = parts; numbers = refl }) in
      subst AreDistinct (numbers.in_preorder u is.tree).values numbers.values_once

  pub own_names : HasOwnNames u
  own_names = record {
    operations = known.operations u is.tree;
    blocks = known.blocks u is.tree;
    values = own_values;
  }

  pub types_in : HasDeclaredTypes (type_at s.program) u
  types_in = record {
    results = λ o ho d hd.
        let i = sound s.program function known.lists u is.tree o ho in
        let are : results_at s.program o.head.name ≡ i.view.results =
        ap (λ v. unwrap_or (option_map (λ (x : OperationView KitOperation). x.results) v) []) i.there in
        definer_types s.program known.values (ByOp o.head.name) i.view.results are d
        (subst (λ (h : ProgramHead KitOperation KitBlock). Has d h.results) i.head hd);
    arguments = λ x hx d hd.
        let i = blocks_sound s.program function known.lists u is.tree x hx in
        let are : arguments_at s.program x.label.name ≡ i.view.arguments =
        ap (λ v. unwrap_or (option_map (λ (y : BlockView KitBlock). y.arguments) v) []) i.there in
        definer_types s.program known.values (ByBlock x.label.name) i.view.arguments are d
        (subst (λ (l : ProgramLabel KitOperation KitBlock). Has d l.arguments) i.label hd);
  }

module _ (s : KitContext) (root function : Ptr Operation) (known : IsKnown s.program root function)
    (rules : KeepsRules s root)
    (inside : StandsInside s.program (OperationNode root) (OperationNode function)) where
  pub has_flat_view : HasFlatView s function
  has_flat_view u is numbered = flat_view (key_at s.types) (type_at s.program) numbered u
      (ruled s root function known u is rules inside) (own_names s root function known u is)

  pub has_types : HasTypes s function
  has_types u is = typed_function (key_at s.types) (type_at s.program) u
      (ruled s root function known u is rules inside) (known.blocks u is.tree) (types_in s root function known u is)
