use Rattle.std.proofs.Common.{◌≡◌, ◌≢◌, Some, rules, tests}
use Rattle.ir_program.specs.declared.handles.IRNode.TheVariants.{BasicBlock as BlockNode}
use Rattle.ir_queries.proofs.Ways.{met_live, found, passed, none, not_block}
use Rattle.ir_queries.proofs.blocks.block_in_region.Goals as goal

pub parent_region-requires : goal.parent_region-requires
parent_region-requires g c = met_live c.loop-node.invariant c.in-Some.ensures.steps (BlockNode c.in-BasicBlock.block) c.in-BasicBlock.is c.requires

pub returns-then-eq-clause-nearest : goal.returns-then-eq-clause-nearest
returns-then-eq-clause-nearest g c =
    let here : c.parent_region.result ≡ Some c.args.region = search (rules, tests) in
    found c.loop-node.invariant c.in-Some.ensures.steps c.in-BasicBlock.block c.in-BasicBlock.is (rw here at c.parent_region.ensures.parent)

pub loop-node-preserved-else-eq : goal.loop-node-preserved-else-eq
loop-node-preserved-else-eq g c =
    let elsewhere : c.parent_region.result ≢ Some c.args.region = search (rules, tests) in
    passed c.loop-node.invariant c.in-Some.ensures.steps (not_block _ c.in-Some.node c.in-BasicBlock.block c.in-BasicBlock.is (λ h. elsewhere (c.parent_region.ensures.only c.args.region h)))

pub loop-node-preserved : goal.loop-node-preserved
loop-node-preserved g c = passed c.loop-node.invariant c.in-Some.ensures.steps (λ x same h. c.in_default.not-BasicBlock x same)

pub returns-clause-nearest : goal.returns-clause-nearest
returns-clause-nearest g c = none c.loop-node.invariant c.in-None.ensures.steps.0
