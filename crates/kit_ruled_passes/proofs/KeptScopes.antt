-- Operands stay in scope where branches are decided and blocks go that nothing reaches; no use is lost then.
use Rattle.std.proofs.Common.{◌≡◌, ⊎_elim, Bool, true, false, [], ◌∷◌, map, Option, Some, None, option_map, unwrap_or}
use Rattle.std.proofs.Common.{slice_get}
use Rattle.std.proofs.Common.{refl, sym, ap, ◌∙◌, subst}
use Rattle.ir_program.specs.Lists.{StandsInside}
use Rattle.ir_program.specs.Program.{OperationView, operation_at}
use Rattle.ir_program.specs.Rows.{operands_at}
use Rattle.ir_program.specs.declared.handles.IRNode.TheVariants.{Operation as OperationNode}
use Rattle.ir_program.specs.declared.handles.Operation.{Operation}
use Rattle.ir_program.specs.declared.handles.Ptr.{Ptr}
use Rattle.ir_program.specs.declared.handles.Value.{Value}
use Rattle.ir_trees.specs.Renames.{rename_root}
use Rattle.ir_trees.specs.Searched.{Lists}
use Rattle.ir_trees.specs.Stands.{by_handle, StandsFor}
use Rattle.ir_trees.proofs.OneTree.{one_tree}
use Rattle.kit.specs.Context.{KitProgram, KitTree}
use Rattle.opt_decide.specs.Phase.{DecidesBranches}
use Rattle.opt_decide.proofs.SaidAround.{HasValues as Said, around_root, says_known}
use Rattle.opt_inside.specs.Around.{CanTellTaken, IsTakenOutside}
use Rattle.opt_inside.specs.declared.reach.starts.Start.TheVariants as start
use Rattle.opt_simplify.specs.Phases.{RemovesBlocks}
use Rattle.opt_simplify.specs.Refusals.{LosesUses}
use Rattle.opt_trees.specs.Dce.{TreeSurroundings}
use Rattle.opt_trees.specs.Occurrences.{Has, at_root, defined_in}
use Rattle.opt_trees.specs.Simplify.{StartingRegions, OfOperations, IsCut, LosesUse, entry, all_of, decided, decide}
use Rattle.kit.specs.Meaning.{KitOperation, kit}
use Rattle.kit_ops.specs.declared.attributes.IntegerAttr.{IntegerAttr}
use Rattle.kit_views.proofs.Lists.{has_get}
use Rattle.kit_ruled_passes.specs.Scopes.{IsNone, Scoped, IsInScope, IsUntaken}
use Rattle.kit_ruled_passes.proofs.ScopesAfter.{scoped_decided, scoped_renamed, scoped_kept, entries_stay}
use Rattle.kit_ruled_passes.proofs.ScopesAfter.{defined_decided, defined_renamed}
use Rattle.kit_ruled_passes.proofs.ScopeUses.{operand_defined}

-- ---- of trees

-- what is cut off holds no entry block
pub cut_scoped : (p : StartingRegions by_handle) (t after : KitTree) → IsCut kit p t after → Scoped t.regions IsNone
    → Scoped after.regions IsNone
cut_scoped p t after cut q =
    let stay = entries_stay cut.gone t.regions (at_root t) refl (λ y has first.
    stays (cut.gone y.label.name) refl (λ e. (cut.there y.label.name e).unreached (entry y has first))) in
    subst (λ (z : KitTree). Scoped z.regions IsNone) (sym cut.is) (scoped_kept cut.gone t.regions IsNone stay q)
  where
    stays : (b : Bool) {x : Bool} → x ≡ b → (x ≡ true → ⊥) → x ≡ false
    stays false e none = e
    stays true e none = absurd (none e)

-- where operands are in scope in what is left, none is lost
pub none_lost : (w : TreeSurroundings by_handle IntegerAttr) (t after : KitTree) → Scoped after.regions IsNone
    → t.head.operands ≡ [] → ((v : Value) → Has v (defined_in t.regions) → w.is_pinned v ≡ true → ⊥)
    → LosesUse w t after → ⊥
none_lost w t after q bare unpinned l = ⊎_elim
    (λ used. ⊎_elim
    (λ d. l.went d)
    (λ none. none)
    (operand_defined after.regions IsNone (at_root after) q used.user used.operand.stands l.value
    (has_get used.user.head.operands used.place l.value used.operand.operand)))
    (λ more. ⊎_elim
    (λ root. subst (Has l.value) bare root)
    (λ pinned. unpinned l.value l.was pinned)
    more)
    l.named

-- ---- of programs

module _ (old new : KitProgram) (root : Ptr Operation) (t : KitTree) (stands : StandsFor old root t) where
  module _ (d : DecidesBranches kit old new root t) where
    abbrev pub after_deciding : KitTree
    after_deciding = rename_root d.names (decided kit d.around t)

    one_after : (u : KitTree) → StandsFor new root u → after_deciding ≡ u
    one_after u is = one_tree new root after_deciding u d.stands is

    pub decided_in_scope : IsInScope old root → IsInScope new root
    decided_in_scope q = record {
      inside = λ u is. subst (λ (z : KitTree). Scoped z.regions IsNone) (one_after u is)
          (scoped_renamed d.names d.values d.blocks (decide kit d.around.alone t.regions) IsNone
          (scoped_decided d.around.alone t.regions IsNone (q.inside t stands)));
      root_takes_none = λ u is. subst (λ (z : KitTree). z.head.operands ≡ []) (one_after u is)
          (ap (map d.names.value) (q.root_takes_none t stands));
    }

    pub decided_untaken : IsUntaken old root → IsUntaken new root
    decided_untaken untaken u is v has taken =
        let same : Has v (defined_in after_deciding.regions) =
        subst (λ (z : KitTree). Has v (defined_in z.regions)) (sym (one_after u is)) has in
        let was : Has v (defined_in t.regions) =
        subst (Has v) (defined_renamed d.names d.values d.blocks (decide kit d.around.alone t.regions)
        ∙ defined_decided d.around.alone t.regions) same in
        untaken t stands v was (outside taken.0 (operation_at new taken.0) refl taken.1 taken.2)
      where
        outside : (p : Ptr Operation) (o : Option (OperationView KitOperation)) → operation_at new p ≡ o
            → (StandsInside new (OperationNode root) (OperationNode p) → ⊥) → Lists (operands_at new p) v
            → IsTakenOutside old root v
        outside p None at out takes =
            let none : slice_get {X = Value} [] takes.0 ≡ Some v =
            ap (λ o. slice_get (unwrap_or (option_map (λ (x : OperationView KitOperation). x.operands) o) []) takes.0)
            (sym at) ∙ takes.1 in
            absurd (cc)
        outside p (Some view) at out takes =
            let was = d.around_it p view out at in
            let same : operation_at new p ≡ operation_at old p = at ∙ sym was.1 in (
              p,
              was.0,
              subst (λ o. Lists (unwrap_or (option_map (λ (x : OperationView KitOperation). x.operands) o) []) v) same
                  takes,
            )

  pub cut_in_scope : RemovesBlocks kit (all_of t) old new root t → IsInScope old root → IsInScope new root
  cut_in_scope r q = record {
    inside = λ u is. subst (λ (z : KitTree). Scoped z.regions IsNone) (one_tree new root r.after u r.stands is)
        (cut_scoped (all_of t) t r.after r.cut (q.inside t stands));
    root_takes_none = λ u is. subst (λ (z : KitTree). z.head.operands ≡ []) (one_tree new root r.after u r.stands is)
        (ap (λ (z : KitTree). z.head.operands) r.cut.is ∙ q.root_takes_none t stands);
  }

-- the first refusal never comes
pub nothing_lost : (c : KitProgram) (root : Ptr Operation) (values : Said c) (told : CanTellTaken c root)
    (t : KitTree) → StandsFor c root t → IsInScope c root → IsUntaken c root
    → LosesUses kit c root (start.Operation root) → ⊥
nothing_lost c root values told t stands q untaken loses =
    let place : StartingRegions by_handle = OfOperations (root ∷ []) in
    let l = loses place refl t stands in
    let w : TreeSurroundings by_handle IntegerAttr = around_root kit c values root told in
    let says = says_known kit c values root told in
    none_lost w t l.0 (cut_scoped place t l.0 l.1 (q.inside t stands)) (q.root_takes_none t stands)
    (λ v has pinned. untaken t stands v has ((says.pinned v).0 pinned)) (l.2 w says)
