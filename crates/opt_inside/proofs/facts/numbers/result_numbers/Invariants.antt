use Rattle.std.proofs.Common.{◌≡◌, take}
use Rattle.std.specs.Prelude.{map}
use Rattle.ir_program.specs.Program.{results_at}
use Rattle.opt_inside.specs.Numbered.{numbers_of}
use Rattle.opt_inside.specs.facts.Problem.{value_number, values_of}
use Rattle.opt_inside.proofs.facts.numbers.result_numbers.Given as goal

abbrev pub invariant-loop-i : goal.invariant-loop-i
invariant-loop-i g l = l.row.items ≡ map (value_number (numbers_of l.inside)) (take l.i (values_of (results_at l.program l.op)))
