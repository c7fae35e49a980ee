use Rattle.ir_queries.proofs.Ways.{Climbs}
use Rattle.ir_program.specs.declared.handles.IRNode.TheVariants.{Operation as OperationNode}
use Rattle.ir_queries.proofs.nearest.nearest_operation.Given as goal

abbrev pub invariant-loop-node : goal.invariant-loop-node
invariant-loop-node g l = Climbs OperationNode l.ctx.program (OperationNode l.fn.op) (g.P.OperationTest.holds l.test l.ctx.program) l.yielded l.node-iterator
