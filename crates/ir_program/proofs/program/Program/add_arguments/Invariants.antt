use Rattle.std.proofs.Common.{take}
use Rattle.ir_program.specs.Adds.{AddsArguments}
use Rattle.ir_program.proofs.program.Program.add_arguments.Given as goal

abbrev pub invariant-loop-ty : goal.invariant-loop-ty
invariant-loop-ty g l = AddsArguments l.fn.self l.self l.block (take l.ty-index l.types)
