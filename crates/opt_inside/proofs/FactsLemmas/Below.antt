-- What is below a root is there, and stands somewhere.
use Rattle.std.proofs.Common.{◌≢◌, IsSome, refl}
use Rattle.ir_program.specs.Program.{Program, operation_at, block_at}
use Rattle.ir_program.specs.Lists.{StandsInBlock, IsLinkedOperation, StandsInside, itself, in_block, in_region}
use Rattle.ir_program.specs.declared.handles.IRNode.TheVariants.{Operation as OperationNode}
use Rattle.ir_program.specs.declared.handles.Ptr.{Ptr}
use Rattle.ir_program.specs.declared.handles.Operation.{Operation}
use Rattle.ir_program.specs.declared.handles.BasicBlock.{BasicBlock}
use Rattle.ir_trees.specs.Searched.{Lists}
use Rattle.opt_inside.specs.Occurring.{IsBelowRoot, IsBlockBelow}
use Rattle.opt_inside.specs.Numbered.{Numbers, NumbersInside}

module _ {O B : Type 0} (c : Program O B) (op : Ptr Operation) where
  around : (p : Ptr Operation) → p ≢ op → StandsInside c (OperationNode op) (OperationNode p) → (b : Ptr BasicBlock) × StandsInBlock c p b × IsBlockBelow c op b
  around _ other itself = absurd (other refl)
  around _ other (in_block p b here up) = (b, here, up)

  pub block_around : (p : Ptr Operation) → IsBelowRoot c op p → (b : Ptr BasicBlock) × StandsInBlock c p b × IsBlockBelow c op b
  block_around p below = around p below.other below.inside

  pub block_there : (b : Ptr BasicBlock) → IsBlockBelow c op b → IsSome (block_at c b)
  block_there _ (in_region b r here up) = here.block

  pub numbered_there : (n : Numbers) → NumbersInside c op n → (p : Ptr Operation) → Lists n.operations p → IsSome (operation_at c p)
  numbered_there n numbered p at = (block_around p ((numbered.operations p).0 at)).1.operation

  pub numbered_linked : (n : Numbers) → NumbersInside c op n → (p : Ptr Operation) → Lists n.operations p → IsLinkedOperation c p
  numbered_linked n numbered p at = let b = block_around p ((numbered.operations p).0 at) in (b.0, b.1)

  pub numbered_block : (n : Numbers) → NumbersInside c op n → (b : Ptr BasicBlock) → Lists n.blocks b → IsSome (block_at c b)
  numbered_block n numbered b at = block_there b ((numbered.blocks b).0 at)
