-- What is left outside an operation where what is dead in it goes.
use Rattle.std.proofs.Common.{◌≡◌, ⊎_elim, inl, refl, sym, subst}
use Rattle.ir_program.specs.Lists.{StandsInside, itself}
use Rattle.ir_program.specs.Program.{Program, operation_at}
use Rattle.ir_program.specs.declared.handles.IRNode.TheVariants.{Operation as OperationNode}
use Rattle.ir_program.specs.declared.handles.Operation.{Operation}
use Rattle.ir_program.specs.declared.handles.Ptr.{Ptr}
use Rattle.ir_trees.specs.Stands.{in_program, ProgramTree, StandsFor}
use Rattle.opt_dce.specs.Thins.{MakesDce}
use Rattle.opt_trees.specs.Dce.{thin}
use Rattle.opt_trees.specs.Dialect.{Dialect}
use Rattle.pass_outside.specs.Outside.{LeavesOutside}
use Rattle.pass_outside.specs.Sound.{IsSound}
use Rattle.pass_outside.proofs.InTrees.{operation_reached, block_reached, operation_inside, block_inside}
use Rattle.pass_outside.proofs.LeftBy.{BringsNoOldInside, left_by, kept_changes}
use Rattle.pass_outside.proofs.Outside.{is_some}
use Rattle.pass_outside.proofs.PassIncludes.{thinned_less}

module _ {O B A : Type 0} (d : Dialect (in_program O B) A) (old new : Program O B) (op : Ptr Operation) (was : IsSound old)
    (is : IsSound new) (t : ProgramTree O B) (stands : StandsFor old op t) (made : MakesDce d old new op t) where
  abbrev after : ProgramTree O B
  after = record { head = t.head; regions = thin d made.dce.gone t.regions }

  now : StandsFor new op after
  now = subst (StandsFor new op) made.dce.is made.stands

  inside : BringsNoOldInside old new op
  inside =
      let less = thinned_less d made.dce.gone t.regions in
      record {
        operations = λ p live i. ⊎_elim
            (λ (e : p ≡ op). subst (λ z. StandsInside old (OperationNode op) (OperationNode z)) (sym e) itself)
            (λ m. operation_inside old op t stands p (less.operations p m.has))
            (operation_reached new op after now p i);
        blocks = λ b live i. block_inside old op t stands b (less.blocks b (block_reached new op after now b i).has);
      }

  pub dead_left : LeavesOutside old new op
  dead_left = left_by old new op was is (is_some (operation_at new op) now.view now.there) (λ v. v) (λ v. inl refl)
      (kept_changes old new op made.outside) inside made.none_come
