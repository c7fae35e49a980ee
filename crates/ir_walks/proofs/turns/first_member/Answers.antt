use Rattle.std.proofs.Common.{◌≡◌, slice_get, sym, ◌∙◌, subst}
use Rattle.ir_program.specs.Lists.{operations_in, blocks_in, regions_in}
use Rattle.ir_program.specs.declared.handles.IRNode.TheVariants.{Operation as OperationNode, Region as RegionNode, BasicBlock as BlockNode}
use Rattle.ir_walks.specs.Levels.{members}
use Rattle.ir_walks.proofs.Holders.{first_map}
use Rattle.ir_walks.proofs.turns.first_member.Goals as goal

pub returns-in-Operation : goal.returns-in-Operation
returns-in-Operation g c = subst (λ n. c.region_node.result ≡ slice_get (members c.args.program.now c.args.config.now n) 0) (sym c.in-Operation.is)
    (c.region_node.ensures ∙ first_map RegionNode c.args.config.now.operation.direction (regions_in c.args.program.now c.in-Operation.op) c.first_region.result c.first_region.ensures)

pub returns-in-Region : goal.returns-in-Region
returns-in-Region g c = subst (λ n. c.block_node.result ≡ slice_get (members c.args.program.now c.args.config.now n) 0) (sym c.in-Region.is)
    (c.block_node.ensures ∙ first_map BlockNode c.args.config.now.region.direction (blocks_in c.args.program.now c.in-Region.region) c.first_block.result c.first_block.ensures)

pub returns-in-BasicBlock : goal.returns-in-BasicBlock
returns-in-BasicBlock g c = subst (λ n. c.operation_node.result ≡ slice_get (members c.args.program.now c.args.config.now n) 0) (sym c.in-BasicBlock.is)
    (c.operation_node.ensures ∙ first_map OperationNode c.args.config.now.block.direction (operations_in c.args.program.now c.in-BasicBlock.block) c.first_operation.result c.first_operation.ensures)
