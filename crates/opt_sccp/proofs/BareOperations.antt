-- Nothing is inside an operation without regions but itself.
use Rattle.std.proofs.Common.{◌≡◌, ◌≢◌, [], Some, None, slice_get, refl, sym, ap, ◌∙◌}
use Rattle.ir_program.specs.Program.{Program}
use Rattle.ir_program.specs.Lists.{regions_in, StandsInside, itself, in_block, in_region, in_operation}
use Rattle.ir_program.specs.declared.handles.IRNode.{IRNode}
use Rattle.ir_program.specs.declared.handles.IRNode.TheVariants.{Operation as OperationNode, BasicBlock as BlockNode}
use Rattle.ir_program.specs.declared.handles.Ptr.{Ptr}
use Rattle.ir_program.specs.declared.handles.Operation.{Operation}
use Rattle.ir_program.specs.declared.handles.BasicBlock.{BasicBlock}

module _ {O B : Type 0} (c : Program O B) (p : Ptr Operation) (bare : regions_in c p ≡ []) where
  pub only_itself : (x : IRNode) → StandsInside c (OperationNode p) x → x ≡ OperationNode p
  only_itself _ itself = refl
  only_itself _ (in_block q b s i) = let e : BlockNode b ≡ OperationNode p = only_itself (BlockNode b) i in cc
  only_itself _ (in_region b r s i) = let e = only_itself _ i in cc
  only_itself _ (in_operation r q s i) =
      let e : OperationNode q ≡ OperationNode p = only_itself (OperationNode q) i in
      let same : q ≡ p = cc in
      let none : None ≡ Some r = ap (λ rs. slice_get rs s.index) (sym bare) ∙ ap (λ z. slice_get (regions_in c z) s.index) (sym same) ∙ s.here in
      cc

  pub no_other_inside : (q : Ptr Operation) → q ≢ p → StandsInside c (OperationNode p) (OperationNode q) → ⊥
  no_other_inside q ne i = let e = only_itself (OperationNode q) i in let same : q ≡ p = cc in ne same

  pub no_block_inside : (b : Ptr BasicBlock) → StandsInside c (OperationNode p) (BlockNode b) → ⊥
  no_block_inside b i = let e = only_itself (BlockNode b) i in cc
