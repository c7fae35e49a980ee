-- Simplification of control flow never finds that a value is still used, in a module that keeps the rules and stays apart.
use Rattle.std.proofs.Common.{◌≡◌, ◌≢◌, ⊎_elim, ℕ, true, [], ◌∷◌, Option, Some, None, IsSome}
use Rattle.std.proofs.Common.{option_map, unwrap_or, slice_get, refl, sym, ap, ◌∙◌, subst}
use Rattle.std.proofs.lemmas.Option.{slice_get-map}
use Rattle.ir_program.specs.Definers.{values_at}
use Rattle.ir_program.specs.Lists.{StandsInside}
use Rattle.ir_program.specs.Program.{TypedValue, OperationView, BlockView, operation_at, value_in}
use Rattle.ir_program.specs.declared.handles.BasicBlock.{BasicBlock}
use Rattle.ir_program.specs.declared.handles.DefiningEntity.{DefiningEntity}
use Rattle.ir_program.specs.declared.handles.DefiningEntity.TheVariants.{Op as ByOp, Block as ByBlock}
use Rattle.ir_program.specs.declared.handles.IRNode.TheVariants.{Operation as OperationNode}
use Rattle.ir_program.specs.declared.handles.Operation.{Operation}
use Rattle.ir_program.specs.declared.handles.Ptr.{Ptr}
use Rattle.ir_program.specs.declared.handles.Value.{Value}
use Rattle.ir_program.proofs.defined.Standing.{seen-definer}
use Rattle.ir_program.proofs.made.Frames.{same_or_not}
use Rattle.ir_trees.specs.Renames.{rename_root}
use Rattle.ir_trees.specs.Searched.{Lists}
use Rattle.ir_trees.specs.Stands.{by_handle, StandsFor, head_of}
use Rattle.ir_trees.specs.Trees.{Regions}
use Rattle.kit.specs.Context.{KitProgram, KitTree}
use Rattle.opt_decide.specs.Phase.{DecidesBranches}
use Rattle.opt_dialect.specs.declared.status.OptError.TheVariants.{LiveUse}
use Rattle.opt_inside.specs.Around.{IsTakenOutside, SaysAround, folded_alone}
use Rattle.opt_inside.specs.Numbered.{values_in}
use Rattle.opt_inside.proofs.Added.{HasValues}
use Rattle.opt_inside.proofs.Around.{HasLists}
use Rattle.ir_opts.specs.joining.Answers.{HasCircle}
use Rattle.opt_inside.specs.declared.reach.starts.Start.TheVariants as start
use Rattle.opt_simplify.specs.Phases.{RemovesBlocks}
use Rattle.opt_simplify.specs.Refusals.{LosesUses}
use Rattle.opt_trees.specs.Dce.{TreeSurroundings}
use Rattle.opt_trees.specs.Simplify.{OfOperations, all_of, decided, decide}
use Rattle.ir_opts.specs.Simplified.{StopsAt, while_deciding, while_removing, loses_uses, while_joining, comes_back}
use Rattle.kit.specs.Meaning.{KitOperation, KitBlock, kit}
use Rattle.kit_ops.specs.declared.attributes.IntegerAttr.{IntegerAttr}
use Rattle.kit_ruled_passes.specs.Phases.{DecidesBranchesBelow, RemovesBlocksBelow}
use Rattle.kit_ruled_passes.specs.Scopes.{IsInScope, IsUntaken}
use Rattle.kit_ruled_passes.proofs.Homes.{IsFirst, homed_regions}
use Rattle.kit_ruled_passes.proofs.KeptScopes.{cut_scoped, none_lost}
use Rattle.kit_ruled_passes.proofs.NoCircles.{no_circle}
use Rattle.kit_ruled_passes.proofs.Scopes.{Homed}
use Rattle.kit_ruled_passes.proofs.AloneAfter.{SaysHead, SaysIn, says_tree, tree_says, of_view, to_view}
use Rattle.kit_ruled_passes.proofs.AloneAfter.{says_decided, says_renamed, says_renamed_head}
use Rattle.kit_ruled_passes.proofs.HomesAfter.{homed_decided, homed_renamed, homed_cut}
use Rattle.pass_outside.proofs.InTrees.{has_or_not, same_some, operation_reached}

module _ (old new : KitProgram) (root : Ptr Operation) (t : KitTree) (stands : StandsFor old root t)
    (d : DecidesBranches kit old new root t) where
  -- ---- what is taken outside

  pub taken_before : (v : Value) → IsTakenOutside new root v → IsTakenOutside old root v
  taken_before v taken = go (operation_at new taken.0) refl
    where
      go : (o : Option (OperationView KitOperation)) → operation_at new taken.0 ≡ o → IsTakenOutside old root v
      go None at =
          let none : slice_get {X = Value} [] taken.2.0 ≡ Some v =
          ap (λ o. slice_get (unwrap_or (option_map (λ (x : OperationView KitOperation). x.operands) o) []) taken.2.0)
          (sym at) ∙ taken.2.1 in
          absurd (cc)
      go (Some view) at =
          let was = d.around_it taken.0 view taken.1 at in (
            taken.0,
            was.0,
            subst (λ o. Lists (unwrap_or (option_map (λ (x : OperationView KitOperation). x.operands) o) []) v)
                (at ∙ sym was.1) taken.2,
          )

  pub taken_after : (v : Value) → IsTakenOutside old root v → IsTakenOutside new root v
  taken_after v taken = go (operation_at old taken.0) refl
    where
      go : (o : Option (OperationView KitOperation)) → operation_at old taken.0 ≡ o → IsTakenOutside new root v
      go None at =
          let none : slice_get {X = Value} [] taken.2.0 ≡ Some v =
          ap (λ o. slice_get (unwrap_or (option_map (λ (x : OperationView KitOperation). x.operands) o) []) taken.2.0)
          (sym at) ∙ taken.2.1 in
          absurd (cc)
      go (Some view) at =
          let is = d.outside.operations taken.0 view taken.1 at in (
            taken.0,
            λ i. taken.1 (d.inside (OperationNode taken.0) (subst IsSome (sym at) refl) i),
            subst (λ o. Lists (unwrap_or (option_map (λ (x : OperationView KitOperation). x.operands) o) []) v)
                (at ∙ sym is) taken.2,
          )

  -- ---- what is known alone

  -- what was known alone of results, and nothing of arguments
  abbrev alone_as : DefiningEntity → Value → Option IntegerAttr
  alone_as (ByOp p) v = d.around.alone v
  alone_as (ByBlock b) v = None

  abbrev around_now : TreeSurroundings by_handle IntegerAttr
  around_now = record { alone = λ v. alone_as v.definer v; is_pinned = d.around.is_pinned }

  abbrev pub tree_now : KitTree
  tree_now = rename_root d.names (decided kit d.around t)

  says_now : SaysIn d.around.alone tree_now.regions
  says_now = says_renamed d.around.alone d.names d.values (decide kit d.around.alone t.regions)
      (says_decided d.around.alone t.regions
      (says_tree d.around.alone old d.says.result Regions stands.view.regions t.regions stands.regions))

  -- of the root, and of what is in it or isn't
  root_says : (o : OperationView KitOperation) → operation_at new root ≡ Some o → (i : ℕ) (v : Value)
      → slice_get (values_in o.results) i ≡ Some v → d.around.alone v ≡ folded_alone kit o i
  root_says o there =
      let alone = d.around.alone in
      let was : SaysHead alone (head_of root stands.view) =
      of_view alone stands.view (λ i v at. d.says.result root stands.view i v stands.there at) in
      let renamed = says_renamed_head alone d.names d.values t.head.content t.head.results t.head.operands
      (subst (SaysHead alone) (sym stands.head) was) in
      let now : SaysHead alone (head_of root d.stands.view) = subst (SaysHead alone) d.stands.head renamed in
      to_view alone o (subst (λ (x : OperationView KitOperation). SaysHead alone (head_of root x))
      (same_some (operation_at new root) d.stands.view o d.stands.there there) now)

  each_says : (p : Ptr Operation) (o : OperationView KitOperation) (i : ℕ) (v : Value) → operation_at new p ≡ Some o
      → slice_get (values_in o.results) i ≡ Some v → d.around.alone v ≡ folded_alone kit o i
  each_says p o i v there at = ⊎_elim
      (λ (e : p ≡ root). root_says o (ap (operation_at new) (sym e) ∙ there) i v at)
      (λ (other : p ≢ root). ⊎_elim
      (λ has. to_view d.around.alone o (tree_says d.around.alone new Regions d.stands.view.regions tree_now.regions
      d.stands.regions says_now p has o there) i v at)
      (λ none.
      let out : StandsInside new (OperationNode root) (OperationNode p) → ⊥ =
      λ inside. ⊎_elim other (λ m. none m.has) (operation_reached new root tree_now d.stands p inside) in
      d.says.result p o i v (d.around_it p o out there).1 at)
      (has_or_not tree_now.regions p (same_or_not p)))
      (same_or_not p root)

  known_now : SaysAround kit new root around_now
  known_now = record {
    pinned = λ v. (λ e. taken_after v ((d.says.pinned v).0 e), λ k. (d.says.pinned v).1 (taken_before v k));
    result = λ p o i v there at.
        let results : values_at new (ByOp p) ≡ o.results =
        ap (λ x. unwrap_or (option_map (λ (u : OperationView KitOperation). u.results) x) []) there in
        let by : v.definer ≡ ByOp p = seen-definer new (ByOp p) i v (ap (λ ts. value_in ts i) results
        ∙ sym (slice_get-map (λ (y : TypedValue). y.value) o.results i) ∙ at) in
        ap (λ e. alone_as e v) by ∙ each_says p o i v there at;
    argument = λ b x v there l.
        let arguments : values_at new (ByBlock b) ≡ x.arguments =
        ap (λ y. unwrap_or (option_map (λ (u : BlockView KitBlock). u.arguments) y) []) there in
        let by : v.definer ≡ ByBlock b = seen-definer new (ByBlock b) l.0 v (ap (λ ts. value_in ts l.0) arguments
        ∙ sym (slice_get-map (λ (y : TypedValue). y.value) x.arguments l.0) ∙ l.1) in
        ap (λ e. alone_as e v) by;
  }

  -- no use is lost
  pub none_loses : IsInScope new root → IsUntaken new root → LosesUses kit new root (start.Operation root) → ⊥
  none_loses scoped untaken loses =
      let l = loses (OfOperations (root ∷ [])) refl tree_now d.stands in
      none_lost around_now tree_now l.0
      (cut_scoped (OfOperations (root ∷ [])) tree_now l.0 l.1 (scoped.inside tree_now d.stands))
      (scoped.root_takes_none tree_now d.stands)
      (λ v has pinned. untaken tree_now d.stands v has ((known_now.pinned v).0 pinned))
      (l.2 around_now known_now)

  -- following what is forwarded never comes back
  pub none_circles : (cut : KitProgram) (E : Ptr BasicBlock → Type 0) → RemovesBlocks kit (all_of tree_now) new cut root tree_now
      → Homed E t.regions true → IsInScope cut root → HasCircle kit cut root (start.Operation root) → ⊥
  none_circles cut E r homed scoped circle =
      let now = homed_renamed E d.names d.values d.blocks (decide kit d.around.alone t.regions) true
      (homed_decided E d.around.alone t.regions true homed) in
      no_circle E (OfOperations (root ∷ [])) r.after (scoped.inside r.after r.stands)
      (homed_cut E (all_of tree_now) tree_now r.after r.cut now)
      (circle (OfOperations (root ∷ [])) refl r.after r.stands)

-- what holds of operands in scope, and of trees, while control flow is simplified
pub record StaysInScope (old : KitProgram) (root : Ptr Operation) : Type 0 where
  pub tree : (t : KitTree) × StandsFor old root t
  pub decided_in : (new : KitProgram) → DecidesBranchesBelow old new root → IsInScope new root
  pub untaken : (new : KitProgram) → DecidesBranchesBelow old new root → IsUntaken new root
  pub cut_in : (mid new : KitProgram) → DecidesBranchesBelow old mid root → RemovesBlocksBelow mid new root → IsInScope new root

pub no_live_use : (old : KitProgram) (root : Ptr Operation) → HasLists old → HasValues old → StaysInScope old root
    → (new : KitProgram) → StopsAt kit old new root LiveUse → ⊥
no_live_use old root lists values stays new (while_deciding short part) = cc
no_live_use old root lists values stays new (while_removing e d) = cc
no_live_use old root lists values stays new (loses_uses e d loses) =
    let t = stays.tree in
    none_loses old new root t.0 t.1 (d t.0 t.1) (stays.decided_in new d) (stays.untaken new d) loses
no_live_use old root lists values stays new (while_joining e mid d r) = cc
no_live_use old root lists values stays new (comes_back e mid d r circle) =
    let t = stays.tree in
    let m = d t.0 t.1 in
    none_circles old mid root t.0 t.1 m new (IsFirst old lists values)
    (r (tree_now old mid root t.0 t.1 m) m.stands)
    (homed_regions old lists values t.1.view.regions t.0.regions t.1.regions)
    (stays.cut_in mid new d r) circle
