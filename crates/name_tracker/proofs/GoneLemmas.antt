-- Lemmas on what is left once an operation or a block is erased.
use Rattle.std.proofs.Common.{◌≡◌, ◌∙◌, refl, sym, ap, ℕ, [], Option, Some, None, IsSome, option_map, unwrap_or, slice_get}
use Rattle.ir_program.specs.Program.{Program, OperationView, operation_at}
use Rattle.ir_program.specs.Lists.{StandsInside, itself, in_block}
use Rattle.ir_program.specs.Rows.{successors_at}
use Rattle.ir_program.specs.Uses.{IsUsed, HasPredecessor}
use Rattle.ir_program.specs.Erased.{ErasesOperation, ErasesBlock}
use Rattle.ir_program.specs.declared.handles.Ptr.{Ptr}
use Rattle.ir_program.specs.declared.handles.Operation.{Operation}
use Rattle.ir_program.specs.declared.handles.BasicBlock.{BasicBlock}
use Rattle.ir_program.specs.declared.handles.Value.{Value}
use Rattle.ir_program.specs.declared.handles.IRNode.TheVariants.{Operation as OperationNode, BasicBlock as BlockNode}

module _ {O B : Type 0} (old new : Program O B) where
  inside_operation : (p q : Ptr Operation) → IsSome (operation_at old p) → StandsInside old (OperationNode p) (OperationNode q) → IsSome (operation_at old q)
  inside_operation p q live itself = live
  inside_operation p q live (in_block r b s w) = s.operation

  inside_block : (b : Ptr BasicBlock) (q : Ptr Operation) → StandsInside old (BlockNode b) (OperationNode q) → IsSome (operation_at old q)
  inside_block b q (in_block r c s w) = s.operation

  -- what is left stood outside
  outside_operation : (p q : Ptr Operation) (o : OperationView O) → IsSome (operation_at old p) → ErasesOperation old new p → operation_at new q ≡ Some o →
      StandsInside old (OperationNode p) (OperationNode q) → ⊥
  outside_operation p q o live h there inside = let gone : operation_at new q ≡ None = (h.gone (OperationNode q) (inside_operation p q live inside) inside).0 in cc

  outside_block : (b : Ptr BasicBlock) (q : Ptr Operation) (o : OperationView O) → ErasesBlock old new b → operation_at new q ≡ Some o →
      StandsInside old (BlockNode b) (OperationNode q) → ⊥
  outside_block b q o h there inside = let gone : operation_at new q ≡ None = (h.gone (OperationNode q) (inside_block b q inside) inside).0 in cc

  -- so what nothing takes, nothing takes then
  pub unused_still : (p : Ptr Operation) → IsSome (operation_at old p) → ErasesOperation old new p → (v : Value) → (IsUsed old v → ⊥) → IsUsed new v → ⊥
  unused_still p live h v unused used =
      unused (used.0, used.1, sym (h.operations used.0 (outside_operation p used.0 used.1 live h used.2)) ∙ used.2, used.3, used.4)

  leads_still : (b q : _) (k : ℕ) (x : Ptr BasicBlock) → ErasesBlock old new b → (o : Option (OperationView O)) → operation_at new q ≡ o →
      slice_get (successors_at new q) k ≡ Some x → slice_get (successors_at old q) k ≡ Some x
  leads_still b q k x h None e leads =
      let none : slice_get (successors_at new q) k ≡ None = ap (λ o. slice_get (unwrap_or (option_map (λ (v : OperationView O). v.successors) o) []) k) e in cc
  leads_still b q k x h (Some o) e leads =
      ap (λ o. slice_get (unwrap_or (option_map (λ (v : OperationView O). v.successors) o) []) k) (sym (h.operations q (outside_block b q o h e))) ∙ leads

  -- and what nothing leads to, nothing leads to then
  pub unreached_still : (b : Ptr BasicBlock) → ErasesBlock old new b → (x : Ptr BasicBlock) → (HasPredecessor old x → ⊥) → HasPredecessor new x → ⊥
  unreached_still b h x none has =
      none (has.0, leads_still b has.0.user_op has.0.index has.0.def h (operation_at new has.0.user_op) refl has.1, has.2)
