-- Each operand is looked up.
use Rattle.std.proofs.Common.{◌∙◌, arith}
use Rattle.std.proofs.lemmas.Option.{slice_get_within}
use Rattle.ir_program.specs.Rows.{operands_at}
use Rattle.opt_sccp.proofs.WantedAt.{none_further, not_at}
use Rattle.opt_sccp.proofs.wanted.has_undetermined.Goals as goal

pub loop-i-preserved : goal.loop-i-preserved
loop-i-preserved g c k h = none_further k (operands_at c.args.program.now c.args.op) c.loop-i.i c.operand.result (c.loop-i.invariant k h) c.operand.ensures.exact (λ e. c.in_default.not-Undetermined (c.known_of.ensures k h ∙ e))

pub returns : goal.returns
returns g c k h = not_at (λ u. c.loop-i.invariant k h u.index u.value
    (let l = slice_get_within (operands_at c.args.program.now c.args.op) u.index u.value u.stands in omega (arith, l, c.loop-i-test.false, c.operand_count-i-end.ensures)) u.stands u.lacks)
