use Rattle.std.proofs.Common.{◌≡◌, Some, slice_get, ◌∙◌, subst}
use Rattle.ir_program.specs.Preorder.{nodes_in}
use Rattle.ir_walks.proofs.Holders.{operation_holder, region_holder, block_holder}
use Rattle.ir_walks.proofs.turns.holder.Goals as goal

pub returns-in-Operation : goal.returns-in-Operation
returns-in-Operation g c = λ holder k h. c.block_node.ensures ∙ operation_holder c.args.program.now c.know_lists.ensures.operations c.in-Operation.op c.parent_block.result c.parent_block.ensures.only holder k (subst (λ n. slice_get (nodes_in c.args.program.now holder) k ≡ Some n) c.in-Operation.is h)

pub returns-in-Region : goal.returns-in-Region
returns-in-Region g c = λ holder k h. region_holder c.args.program.now c.know_lists.ensures.regions c.in-Region.region c.parent_operation.result c.parent_operation.ensures.only holder k (subst (λ n. slice_get (nodes_in c.args.program.now holder) k ≡ Some n) c.in-Region.is h)

pub returns-in-BasicBlock : goal.returns-in-BasicBlock
returns-in-BasicBlock g c = λ holder k h. c.region_node.ensures ∙ block_holder c.args.program.now c.know_lists.ensures.blocks c.in-BasicBlock.block c.parent_region.result c.parent_region.ensures.only holder k (subst (λ n. slice_get (nodes_in c.args.program.now holder) k ≡ Some n) c.in-BasicBlock.is h)
