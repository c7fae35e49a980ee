use Rattle.std.proofs.Common.{◌≡◌, ◌++◌, take}
use Rattle.ir_program.specs.Program.{arguments_at}
use Rattle.opt_inside.specs.Numbered.{values_in}
use Rattle.opt_inside.proofs.numbering.add_arguments.Given as goal

abbrev pub invariant-loop-index : goal.invariant-loop-index
invariant-loop-index g l = l.values.items ≡ l.fn.values.items ++ take l.index (values_in (arguments_at l.program l.block))
