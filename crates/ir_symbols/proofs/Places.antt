-- Which operations can stand in a block.
use Rattle.std.proofs.Common.{◌≡◌, ◌≢◌, Some, Bool, true, false, not, IsTrue, slice_get, refl, subst}
use Rattle.ir_program.specs.Program.{Program}
use Rattle.ir_program.specs.Lists.{operations_in, StandsInBlock, StandsInside, StandOnce, IsUnlinkedOperation, itself, in_block, in_region, in_operation}
use Rattle.ir_program.specs.declared.handles.BasicBlock.{BasicBlock}
use Rattle.ir_program.specs.declared.handles.IRNode.{IRNode}
use Rattle.ir_program.specs.declared.handles.IRNode.TheVariants.{Operation as OperationNode, BasicBlock as BlockNode}
use Rattle.ir_program.specs.declared.handles.Operation.{Operation}
use Rattle.ir_program.specs.declared.handles.Ptr.{Ptr}
use Rattle.ir_symbols.specs.Insertions.{CanStandIn, there, free}

pub true_of_not : (b : Bool) → (IsTrue b → ⊥) → IsTrue (not b)
true_of_not true h = absurd (h refl)
true_of_not false h = refl

pub not_of_true : (b : Bool) → IsTrue (not b) → IsTrue b → ⊥
not_of_true true n t = cc
not_of_true false n t = cc

module _ {O B : Type 0} (c : Program O B) (body : Ptr BasicBlock) (op : Ptr Operation) where
  -- an operation of some block is one of this block's
  pub stands_there : CanStandIn c body op → (block : Ptr BasicBlock) → StandsInBlock c op block → StandsInBlock c op body
  stands_there (there s) block stands = s
  stands_there (free u apart) block stands = absurd (u block stands)

  -- an operation of no block isn't around this one
  pub apart_from : CanStandIn c body op → IsUnlinkedOperation c op → StandsInside c (OperationNode op) (BlockNode body) → ⊥
  apart_from (there s) u = absurd (u body s)
  apart_from (free u apart) _ = apart

  -- what isn't around the block is around none of its operations but itself
  apart_from_node : StandOnce (operations_in c) → (mark : Ptr Operation) → mark ≢ op → StandsInBlock c mark body → (StandsInside c (OperationNode op) (BlockNode body) → ⊥) → (n : IRNode) → n ≡ OperationNode mark → StandsInside c (OperationNode op) n → ⊥
  apart_from_node once mark differs stands apart _ is itself = let same : mark ≡ op = cc in differs same
  apart_from_node once mark differs stands apart _ is (in_region b r s w) = cc
  apart_from_node once mark differs stands apart _ is (in_operation r p s w) = cc
  apart_from_node once mark differs stands apart _ is (in_block p b s w) =
      let same : p ≡ mark = cc in
      let here : slice_get (operations_in c b) s.index ≡ Some mark = subst (λ x. slice_get (operations_in c b) s.index ≡ Some x) same s.here in
      apart (subst (λ x. StandsInside c (OperationNode op) (BlockNode x)) (once mark b body s.index stands.index here stands.here).0 w)

  pub apart_from_mark : StandOnce (operations_in c) → (mark : Ptr Operation) → mark ≢ op → StandsInBlock c mark body → (StandsInside c (OperationNode op) (BlockNode body) → ⊥) → StandsInside c (OperationNode op) (OperationNode mark) → ⊥
  apart_from_mark once mark differs stands apart w = apart_from_node once mark differs stands apart (OperationNode mark) refl w
