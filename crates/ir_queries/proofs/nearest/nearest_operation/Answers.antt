use Rattle.std.proofs.lemmas.Bool.{both_ways}
use Rattle.ir_program.specs.declared.handles.IRNode.TheVariants.{Operation as OperationNode}
use Rattle.ir_queries.proofs.Ways.{met_live, found, passed, none, not_operation}
use Rattle.ir_queries.proofs.nearest.nearest_operation.Goals as goal

pub is_met-requires : goal.is_met-requires
is_met-requires g c = met_live c.loop-node.invariant c.in-Some.ensures.steps (OperationNode c.in-Operation.holder) c.in-Operation.is c.requires

pub returns-then-is_met-clause-nearest : goal.returns-then-is_met-clause-nearest
returns-then-is_met-clause-nearest g c = found c.loop-node.invariant c.in-Some.ensures.steps c.in-Operation.holder c.in-Operation.is (c.is_met.ensures.0 c.if-is_met.true)

pub loop-node-preserved-else-is_met : goal.loop-node-preserved-else-is_met
loop-node-preserved-else-is_met g c =
    passed c.loop-node.invariant c.in-Some.ensures.steps (not_operation _ c.in-Some.node c.in-Operation.holder c.in-Operation.is (λ h. both_ways _ c.if-is_met.false (c.is_met.ensures.1 h)))

pub loop-node-preserved : goal.loop-node-preserved
loop-node-preserved g c = passed c.loop-node.invariant c.in-Some.ensures.steps (λ x same h. c.in_default.not-Operation x same)

pub returns-clause-nearest : goal.returns-clause-nearest
returns-clause-nearest g c = none c.loop-node.invariant c.in-None.ensures.steps.0

pub returns-then-is_met-clause-live : goal.returns-then-is_met-clause-live
returns-then-is_met-clause-live g c = met_live c.loop-node.invariant c.in-Some.ensures.steps (OperationNode c.in-Operation.holder) c.in-Operation.is c.requires
