use Rattle.std.proofs.Common.{List, []}
use Rattle.ir_program.specs.declared.handles.IRNode.TheVariants.{Operation as OperationNode}
use Rattle.ir_walks.proofs.Measure.{turns_left}
use Rattle.ir_walks.proofs.Walked.{Walking}
use Rattle.ir_symbols.specs.TableWalks.{OperationCall, forward}
use Rattle.ir_symbols.proofs.TableWalked.{Takes}
use Rattle.ir_symbols.proofs.walking.walk_table.Given as goal

abbrev pub invariant-turns : goal.invariant-turns
invariant-turns g l = (us : List OperationCall)
    × Walking l.program forward (OperationNode l.table) (Takes g.O.SymbolPayload.holds_table l.program l.table g.F.FnMut l.ctx) ((l.fn.callback, l.fn.state), []) l.at ((l.callback, l.state), us)

abbrev pub decreases-turns : goal.decreases-turns
decreases-turns g l = turns_left l.program forward (OperationNode l.table) l.at
