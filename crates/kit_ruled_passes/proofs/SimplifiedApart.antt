-- A module whose control flow is simplified is apart from all else, if it was.
use Rattle.std.proofs.Common.{◌≡◌, ◌⊎◌, inl, inr, ⊎_elim, map, Some, None, IsSome, refl, sym, ap, ◌∙◌, subst}
use Rattle.ir_program.specs.Lists.{StandsInside}
use Rattle.ir_program.specs.Program.{OperationView, operation_at}
use Rattle.ir_program.specs.declared.handles.BasicBlock.{BasicBlock}
use Rattle.ir_program.specs.declared.handles.IRNode.TheVariants.{Operation as OperationNode}
use Rattle.ir_program.specs.declared.handles.Operation.{Operation}
use Rattle.ir_program.specs.declared.handles.Ptr.{Ptr}
use Rattle.ir_program.specs.declared.handles.Value.{Value}
use Rattle.ir_trees.specs.Renames.{names_of, rename_root}
use Rattle.ir_trees.specs.Stands.{by_handle, StandsFor}
use Rattle.ir_trees.proofs.Members.{has_made}
use Rattle.kit.specs.Context.{KitProgram, KitTree}
use Rattle.opt_decide.specs.Phase.{maps_of}
use Rattle.opt_inside.specs.Occurring.{IsBelowRoot, IsBlockBelow, IsDefinedBelow}
use Rattle.opt_inside.proofs.Values.{defined}
use Rattle.opt_trees.specs.Occurrences.{Has, at_root, defined_in}
use Rattle.opt_trees.specs.Simplify.{StartingRegions, Follows, stops, goes_on, all_of, decide, keep, use_instead}
use Rattle.opt_trees.proofs.Defined.{argument_defined}
use Rattle.ir_opts.specs.SimplifiedTree.{SimplifiesTree}
use Rattle.kit.specs.Meaning.{KitOperation, kit}
use Rattle.kit_views.proofs.Lists.{has_get}
use Rattle.pass_outside.proofs.InTrees.{Includes, includes_both, operation_reached, block_reached, operation_held}
use Rattle.pass_outside.proofs.InTrees.{block_inside, same_some}
use Rattle.kit_ruled_passes.proofs.LeftApart.{IsKnownBefore, StoodOutside, LeavesApart, below_root, something}
use Rattle.pass_outside.proofs.PassIncludes.{decided_less, kept_less, joined_less, renamed_operation, renamed_block}

-- a value that is followed anywhere is an argument of a block of the tree
followed : (p : StartingRegions by_handle) (r : KitTree) (v x : Value) → Follows kit p r v x
    → (x ≡ v) ⊎ Has v (defined_in r.regions)
followed p r _ _ (stops v none) = inl refl
followed p r _ _ (goes_on v u x g rest) =
    inr (argument_defined r.regions (at_root r) g.joins.target v g.joins.target_stands
    (has_get (names_of g.joins.target.label.arguments) g.place v g.takes))

module _ (old new : KitProgram) (root : Ptr Operation) (known : IsKnownBefore old root) (t : KitTree)
    (stands : StandsFor old root t) (done : SimplifiesTree kit old new root t)
  where
    cut_less : Includes done.simplified.cut.regions t.regions
    cut_less =
        let middle = decide kit done.around.alone t.regions in
        let cut = done.simplified.is_cut in
        subst (λ (z : KitTree). Includes z.regions t.regions) (sym cut.is)
        (includes_both (keep cut.gone middle) middle t.regions (kept_less cut.gone middle)
        (decided_less kit done.around.alone t.regions))

    after_less : Includes done.after.regions t.regions
    after_less =
        let join = done.simplified.is_joined in
        subst (λ (z : KitTree). Includes z.regions t.regions) (sym join.is)
        (includes_both (use_instead join.names join.regions) done.simplified.cut.regions t.regions
        (joined_less kit (all_of t) done.simplified.cut join.names join.regions join.joins) cut_less)

    abbrev after : KitTree
    after = rename_root (maps_of done.names) done.after

    block_was : (b : Ptr BasicBlock) → IsBlockBelow new root b → IsBlockBelow old root b
    block_was b below =
        let m = block_reached new root after done.stands b below in
        let r = renamed_block (maps_of done.names) done.after.regions b m.has in
        subst (IsBlockBelow old root) (sym r.2) (block_inside old root t stands r.0 (after_less.blocks r.0 r.1))

    operation_was : (p : Ptr Operation) → IsBelowRoot new root p → IsBelowRoot old root p ⊎ (operation_at old p ≡ None)
    operation_was p below = ⊎_elim
        (λ e. absurd (below.other e))
        (λ m.
        let r = renamed_operation (maps_of done.names) done.after.regions p m.has in
        let was = after_less.operations r.0 r.1 in
        let held = operation_held old root t stands r.0 was in
        ⊎_elim
        (λ same. inl (subst (IsBelowRoot old root) (sym (r.2 ∙ same)) (below_root old root known.lists t stands r.0 was)))
        (λ gone. inr (ap (operation_at old) r.2 ∙ gone))
        (done.fresh r.0 held.1.operation))
        (operation_reached new root after done.stands p below.inside)

    -- what an operand outside becomes
    operand_was : (y : Value)
        → (done.simplified.is_joined.names y ≡ y) ⊎ IsDefinedBelow old root y
    operand_was y = ⊎_elim
        (λ e. inl e)
        (λ i. inr ((defined old known.lists root t stands y).0 (cut_less.values y i)))
        (followed (all_of t) done.simplified.cut y (done.simplified.is_joined.names y)
        (done.simplified.is_joined.follows y))

    operands_were : (w : OperationView KitOperation) (x : Value)
        → Has x (map done.simplified.is_joined.names w.operands)
        → (y : Value) × Has y w.operands × ((x ≡ y) ⊎ IsDefinedBelow old root y)
    operands_were w x has =
        let m = has_made done.simplified.is_joined.names w.operands x has in
        (m.0, m.1, ⊎_elim (λ e. inl (m.2 ∙ e)) (λ d. inr d) (operand_was m.0))

    outside_was : (p : Ptr Operation) (v : OperationView KitOperation)
        → (StandsInside new (OperationNode root) (OperationNode p) → ⊥) → operation_at new p ≡ Some v
        → StoodOutside old new root p v
    outside_was p v out there =
        let was = done.none_come p (subst IsSome (sym there) refl) out in
        let w = something (operation_at old p) was.0 in
        let same : v ≡ record w.0 { operands = map done.simplified.is_joined.names w.0.operands } =
        same_some (operation_at new p) v (record w.0 { operands = map done.simplified.is_joined.names w.0.operands }) there
        (done.outside.operations p w.0 was.1 w.1) in
        record {
          before = was.1;
          view = w.0;
          there = w.1;
          successors = ap (λ (x : OperationView KitOperation). x.successors) same;
          operands = λ x has.
              operands_were w.0 x (subst (λ (z : OperationView KitOperation). Has x z.operands) same has);
        }

    pub simplified_apart : LeavesApart old new root
    simplified_apart = record { blocks = block_was; operations = operation_was; outside = outside_was }
