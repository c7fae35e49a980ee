use Rattle.std.proofs.Common.{◌≡◌, take}
use Rattle.std.specs.Prelude.{map}
use Rattle.ir_program.specs.Rows.{operands_at}
use Rattle.kit_places.specs.Numbers.{value_number}
use Rattle.kit_interpreter.proofs.numbering.operand_numbers.Given as goal

abbrev pub invariant-loop-i : goal.invariant-loop-i
invariant-loop-i g l = l.row.items ≡ map (value_number l.values.keys) (take l.i (operands_at l.program l.op))
