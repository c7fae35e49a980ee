use Rattle.std.proofs.Common.{take}
use Rattle.ir_program.specs.Adds.{AddsOperands}
use Rattle.ir_program.proofs.program.Program.add_operands.Given as goal

abbrev pub invariant-loop-value : goal.invariant-loop-value
invariant-loop-value g l = AddsOperands l.fn.self l.self l.op (take l.value-index l.operands)
