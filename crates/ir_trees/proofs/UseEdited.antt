-- One operand or one successor replaced is so in the trees.
use Rattle.std.proofs.Common.{ℕ, Bool, cond, slice_set, refl, sym, ap}
use Rattle.ir_program.specs.Program.{Program}
use Rattle.ir_program.specs.RowEdits.{ReplacesOperand, ReplacesSuccessor}
use Rattle.ir_program.specs.declared.handles.Ptr.{Ptr}
use Rattle.ir_program.specs.declared.handles.Operation.{Operation}
use Rattle.ir_program.specs.declared.handles.BasicBlock.{BasicBlock}
use Rattle.ir_program.specs.declared.handles.Value.{Value}
use Rattle.ir_trees.specs.Stands.{ProgramTree, head_of, StandsFor}
use Rattle.ir_trees.specs.Rewrites.{with_heads}
use Rattle.ir_trees.specs.ListRewrites.{with_operand, with_successor}
use Rattle.ir_trees.proofs.Changed.{one_edited_tree}
use Rattle.ir_trees.proofs.HandleTests.{operation_yes, operation_no}

module _ {O B : Type 0} (old new : Program O B) (op p : Ptr Operation) (i : ℕ) where
  pub operand_edited : (x : Value) → ReplacesOperand old new p i x → (t : ProgramTree O B) → StandsFor old op t → StandsFor new op (with_heads (with_operand p i x) t)
  operand_edited x edits = one_edited_tree old new op p (λ o. record o { operands = slice_set o.operands i x }) (with_operand p i x) edits
      (λ v. (sym (ap (λ (b : Bool). cond b (head_of p (record v { operands = slice_set v.operands i x })) (head_of p v)) (operation_yes p p refl)), refl))
      (λ h ne. ap (λ (b : Bool). cond b (record h { operands = slice_set h.operands i x }) h) (operation_no h.name p ne))

  pub successor_edited : (x : Ptr BasicBlock) → ReplacesSuccessor old new p i x → (t : ProgramTree O B) → StandsFor old op t → StandsFor new op (with_heads (with_successor p i x) t)
  successor_edited x edits = one_edited_tree old new op p (λ o. record o { successors = slice_set o.successors i x }) (with_successor p i x) edits
      (λ v. (sym (ap (λ (b : Bool). cond b (head_of p (record v { successors = slice_set v.successors i x })) (head_of p v)) (operation_yes p p refl)), refl))
      (λ h ne. ap (λ (b : Bool). cond b (record h { successors = slice_set h.successors i x }) h) (operation_no h.name p ne))
