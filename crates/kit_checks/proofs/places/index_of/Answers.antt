use Rattle.kit_checks.proofs.Indexed.{ok_map, operation_indexed, block_indexed, region_indexed}
use Rattle.kit_checks.proofs.places.index_of.Goals as goal

pub returns-in-Some : goal.returns-in-Some
returns-in-Some g c =
    ok_map c.operation_index.result (λ k here. operation_indexed c.args.program.now c.args.node c.in-Operation.op c.parent_block.result c.in-Some.block k c.in-Operation.is c.parent_block.ensures.only c.in-Some.is here)
    c.operation_index.ensures

pub returns-in-Some-parent_region : goal.returns-in-Some-parent_region
returns-in-Some-parent_region g c =
    ok_map c.block_index.result (λ k here. block_indexed c.args.program.now c.args.node c.in-BasicBlock.block c.parent_region.result c.in-Some-parent_region.region k c.in-BasicBlock.is c.parent_region.ensures.only c.in-Some-parent_region.is here)
    c.block_index.ensures

pub returns-in-Region : goal.returns-in-Region
returns-in-Region g c = region_indexed c.args.program.now c.args.node c.in-Region.region c.region_index.result c.in-Region.is c.region_index.ensures
