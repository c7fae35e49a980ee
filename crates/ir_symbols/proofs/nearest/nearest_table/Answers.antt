use Rattle.std.proofs.lemmas.Bool.{both_ways}
use Rattle.ir_program.specs.declared.handles.IRNode.TheVariants.{Operation as OperationNode}
use Rattle.ir_queries.proofs.Ways.{met_live, found, passed, none, not_operation}
use Rattle.ir_symbols.proofs.nearest.nearest_table.Goals as goal

pub is_table-requires : goal.is_table-requires
is_table-requires g c = met_live c.loop-node.invariant c.in-Some.ensures.steps (OperationNode c.in-Operation.holder) c.in-Operation.is c.requires

pub returns-then-is_table-clause-nearest : goal.returns-then-is_table-clause-nearest
returns-then-is_table-clause-nearest g c = found c.loop-node.invariant c.in-Some.ensures.steps c.in-Operation.holder c.in-Operation.is (c.is_table.ensures.0 c.if-is_table.true)

pub loop-node-preserved-else-is_table : goal.loop-node-preserved-else-is_table
loop-node-preserved-else-is_table g c =
    passed c.loop-node.invariant c.in-Some.ensures.steps (not_operation _ c.in-Some.node c.in-Operation.holder c.in-Operation.is (λ h. both_ways _ c.if-is_table.false (c.is_table.ensures.1 h)))

pub loop-node-preserved : goal.loop-node-preserved
loop-node-preserved g c = passed c.loop-node.invariant c.in-Some.ensures.steps (λ x same h. c.in_default.not-Operation x same)

pub returns-clause-nearest : goal.returns-clause-nearest
returns-clause-nearest g c = none c.loop-node.invariant c.in-None.ensures.steps.0

pub returns-then-is_table-clause-live : goal.returns-then-is_table-clause-live
returns-then-is_table-clause-live g c = met_live c.loop-node.invariant c.in-Some.ensures.steps (OperationNode c.in-Operation.holder) c.in-Operation.is c.requires
