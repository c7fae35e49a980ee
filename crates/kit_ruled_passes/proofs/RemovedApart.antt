-- A module without what is dead is apart from all else, if it was.
use Rattle.std.proofs.Common.{◌≡◌, ◌⊎◌, inl, ⊎_elim, Some, None, IsSome, refl, sym, ap, subst}
use Rattle.ir_program.specs.Lists.{StandsInside}
use Rattle.ir_program.specs.Program.{OperationView, operation_at}
use Rattle.ir_program.specs.declared.handles.BasicBlock.{BasicBlock}
use Rattle.ir_program.specs.declared.handles.IRNode.TheVariants.{Operation as OperationNode}
use Rattle.ir_program.specs.declared.handles.Operation.{Operation}
use Rattle.ir_program.specs.declared.handles.Ptr.{Ptr}
use Rattle.ir_trees.specs.Stands.{StandsFor}
use Rattle.kit.specs.Context.{KitProgram, KitTree}
use Rattle.opt_dce.specs.Thins.{MakesDce}
use Rattle.opt_inside.specs.Occurring.{IsBelowRoot, IsBlockBelow}
use Rattle.opt_trees.specs.Dce.{thin}
use Rattle.opt_trees.specs.Occurrences.{Has}
use Rattle.kit.specs.Meaning.{KitOperation, kit}
use Rattle.pass_outside.proofs.InTrees.{operation_reached, block_reached, block_inside, same_some}
use Rattle.kit_ruled_passes.proofs.LeftApart.{IsKnownBefore, StoodOutside, LeavesApart, below_root, something}
use Rattle.pass_outside.proofs.PassIncludes.{thinned_less}

module _ (old new : KitProgram) (root : Ptr Operation) (known : IsKnownBefore old root) (t : KitTree)
    (stands : StandsFor old root t) (done : MakesDce kit old new root t) where
  abbrev after : KitTree
  after = record { head = t.head; regions = thin kit done.dce.gone t.regions }

  now : StandsFor new root after
  now = subst (StandsFor new root) done.dce.is done.stands

  block_was : (b : Ptr BasicBlock) → IsBlockBelow new root b → IsBlockBelow old root b
  block_was b below =
      let less = thinned_less kit done.dce.gone t.regions in
      block_inside old root t stands b (less.blocks b (block_reached new root after now b below).has)

  operation_was : (p : Ptr Operation) → IsBelowRoot new root p → IsBelowRoot old root p ⊎ (operation_at old p ≡ None)
  operation_was p below =
      let less = thinned_less kit done.dce.gone t.regions in ⊎_elim
      (λ e. absurd (below.other e))
      (λ m. inl (below_root old root known.lists t stands p (less.operations p m.has)))
      (operation_reached new root after now p below.inside)

  outside_was : (p : Ptr Operation) (v : OperationView KitOperation)
      → (StandsInside new (OperationNode root) (OperationNode p) → ⊥) → operation_at new p ≡ Some v
      → StoodOutside old new root p v
  outside_was p v out there =
      let was = done.none_come p (subst IsSome (sym there) refl) out in
      let w = something (operation_at old p) was.0 in
      let same : v ≡ w.0 =
      same_some (operation_at new p) v w.0 there (done.outside.operations p w.0 was.1 w.1) in
      record {
        before = was.1;
        view = w.0;
        there = w.1;
        successors = ap (λ (x : OperationView KitOperation). x.successors) same;
        operands = λ x has.
            (x, subst (λ (z : OperationView KitOperation). Has x z.operands) same has, inl refl);
      }

  pub removed_apart : LeavesApart old new root
  removed_apart = record { blocks = block_was; operations = operation_was; outside = outside_was }
