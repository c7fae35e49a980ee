use Rattle.std.proofs.Common.{◌≡◌, take}
use Rattle.std.specs.Prelude.{map}
use Rattle.ir_program.specs.Program.{results_at}
use Rattle.kit_places.specs.Numbers.{value_number, values_of}
use Rattle.kit_interpreter.proofs.numbering.result_numbers.Given as goal

abbrev pub invariant-loop-i : goal.invariant-loop-i
invariant-loop-i g l = l.row.items ≡ map (value_number l.values.keys) (take l.i (values_of (results_at l.program l.op)))
