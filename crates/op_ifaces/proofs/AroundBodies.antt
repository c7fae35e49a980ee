-- What stands around a block of an operation's region stands around the operation.
use Rattle.std.proofs.Common.{◌≡◌, Some, slice_get, subst, ap}
use Rattle.ir_program.specs.Program.{Program}
use Rattle.ir_program.specs.Lists.{blocks_in, regions_in, StandsInOperation, StandsInRegion, StandsInside, StandOnce, itself, in_block, in_region, in_operation}
use Rattle.ir_program.specs.declared.handles.Ptr.{Ptr}
use Rattle.ir_program.specs.declared.handles.Operation.{Operation}
use Rattle.ir_program.specs.declared.handles.Region.{Region}
use Rattle.ir_program.specs.declared.handles.BasicBlock.{BasicBlock}
use Rattle.ir_program.specs.declared.handles.IRNode.{IRNode}
use Rattle.ir_program.specs.declared.handles.IRNode.TheVariants.{Operation as OperationNode, Region as RegionNode, BasicBlock as BlockNode}

module _ {O B : Type 0} (c : Program O B) (outer op : Ptr Operation) where
  -- an operation around a region of op stands around op
  around_region : StandOnce (regions_in c) → (r : Ptr Region) → StandsInOperation c r op → (n : IRNode) → n ≡ RegionNode r → StandsInside c (OperationNode outer) n → StandsInside c (OperationNode outer) (OperationNode op)
  around_region once r stands _ is itself = cc
  around_region once r stands _ is (in_block p b s w) = cc
  around_region once r stands _ is (in_region b q s w) = cc
  around_region once r stands _ is (in_operation q p s w) =
      let same : q ≡ r = cc in
      let here : slice_get (regions_in c p) s.index ≡ Some r = subst (λ x. slice_get (regions_in c p) s.index ≡ Some x) same s.here in
      subst (λ x. StandsInside c (OperationNode outer) (OperationNode x)) (once r p op s.index stands.index here stands.here).0 w

  -- so does one around a block of the region
  pub around_body : StandOnce (blocks_in c) → StandOnce (regions_in c) → (r : Ptr Region) (b : Ptr BasicBlock) → StandsInOperation c r op → StandsInRegion c b r → (n : IRNode) → n ≡ BlockNode b → StandsInside c (OperationNode outer) n → StandsInside c (OperationNode outer) (OperationNode op)
  around_body blocks regions r b of_op of_region _ is itself = cc
  around_body blocks regions r b of_op of_region _ is (in_block p q s w) = cc
  around_body blocks regions r b of_op of_region _ is (in_operation q p s w) = cc
  around_body blocks regions r b of_op of_region _ is (in_region d q s w) =
      let same : d ≡ b = cc in
      let here : slice_get (blocks_in c q) s.index ≡ Some b = subst (λ x. slice_get (blocks_in c q) s.index ≡ Some x) same s.here in
      let one : q ≡ r = (blocks b q r s.index of_region.index here of_region.here).0 in
      around_region regions r of_op (RegionNode q) (ap RegionNode one) w
