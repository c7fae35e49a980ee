use Rattle.std.proofs.Common.{take}
use Rattle.ir_program.specs.Adds.{AddsSuccessors}
use Rattle.ir_program.proofs.program.Program.add_successors.Given as goal

abbrev pub invariant-loop-block : goal.invariant-loop-block
invariant-loop-block g l = AddsSuccessors l.fn.self l.self l.op (take l.block-index l.successors)
