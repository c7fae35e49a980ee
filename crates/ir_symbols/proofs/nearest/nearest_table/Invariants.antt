use Rattle.ir_program.specs.declared.handles.IRNode.TheVariants.{Operation as OperationNode}
use Rattle.ir_queries.proofs.Ways.{Climbs}
use Rattle.ir_symbols.specs.Symbols.{IsTable}
use Rattle.ir_symbols.proofs.nearest.nearest_table.Given as goal

abbrev pub invariant-loop-node : goal.invariant-loop-node
invariant-loop-node g l = Climbs OperationNode l.program (OperationNode l.fn.op) (IsTable g.O.SymbolPayload.holds_table l.program) l.yielded l.node-iterator
