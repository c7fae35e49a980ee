use Rattle.std.proofs.Common.{take}
use Rattle.ir_program.specs.Adds.{AddsResults}
use Rattle.ir_program.proofs.program.Program.add_results.Given as goal

abbrev pub invariant-loop-ty : goal.invariant-loop-ty
invariant-loop-ty g l = AddsResults l.fn.self l.self l.op (take l.ty-index l.types)
