use Rattle.std.proofs.Common.{arith}
use Rattle.ir_program.specs.Rows.{operands_at}
use Rattle.kit_places.specs.Numbers.{value_number}
use Rattle.kit_places.proofs.Rows.{mapped_next, mapped_all}
use Rattle.kit_interpreter.proofs.numbering.operand_numbers.Goals as goal

pub loop-i-preserved : goal.loop-i-preserved
loop-i-preserved g c = mapped_next (value_number c.args.values.now.keys) (operands_at c.args.program.now c.args.op)
    c.loop-i.row.items c.push.new.self.items c.loop-i.i c.operand.result c.number_of_value.result
    c.operand.ensures.exact c.number_of_value.ensures c.in_ok-push.ensures.items c.loop-i.invariant

pub returns : goal.returns
returns g c = mapped_all (value_number c.args.values.now.keys) (operands_at c.args.program.now c.args.op)
    c.loop-i.row.items c.loop-i.i (omega arith) c.loop-i.invariant
