use Rattle.std.proofs.Common.{arith}
use Rattle.ir_program.specs.Rows.{operands_at}
use Rattle.opt_decide.specs.Planned.{known_alone}
use Rattle.opt_decide.proofs.Filled.{mapped_next, mapped_all}
use Rattle.opt_decide.proofs.alone.known_operands.Goals as goal

pub loop-i-preserved : goal.loop-i-preserved
loop-i-preserved g c =
    mapped_next (known_alone g.D.Meanings.meaning c.args.program.now) (operands_at c.args.program.now c.args.op) c.loop-i.known.items c.push.new.self.items c.loop-i.i c.operand.result c.in_ok-constant.constant c.operand.ensures.exact c.in_ok-constant.ensures c.in_ok-push.ensures.items c.loop-i.invariant

pub returns : goal.returns
returns g c = mapped_all (known_alone g.D.Meanings.meaning c.args.program.now) (operands_at c.args.program.now c.args.op) c.loop-i.known.items c.loop-i.i (omega arith) c.loop-i.invariant
