use Rattle.std.proofs.Common.{arith}
use Rattle.ir_program.specs.Rows.{operands_at}
use Rattle.opt_inside.specs.Numbered.{numbers_of}
use Rattle.opt_inside.specs.facts.Problem.{value_number}
use Rattle.opt_inside.proofs.FactsLemmas.Lists.{mapped_next, mapped_all}
use Rattle.opt_inside.proofs.facts.numbers.operand_numbers.Goals as goal

pub loop-i-preserved : goal.loop-i-preserved
loop-i-preserved g c = mapped_next (value_number (numbers_of c.args.inside.now)) (operands_at c.args.program.now c.args.op) c.loop-i.row.items c.push.new.self.items c.loop-i.i c.operand.result c.number_of_value.result c.operand.ensures.exact c.number_of_value.ensures c.in_ok-push.ensures.items c.loop-i.invariant

pub returns : goal.returns
returns g c = mapped_all (value_number (numbers_of c.args.inside.now)) (operands_at c.args.program.now c.args.op) c.loop-i.row.items c.loop-i.i (omega arith) c.loop-i.invariant
