use Rattle.op_ifaces.specs.Rows.{row_length, row_type}
use Rattle.op_ifaces.specs.Rules.{AllPassIn}
use Rattle.op_ifaces.specs.declared.rows.Row.TheVariants.{Operands}
use Rattle.builtin_ifaces.proofs.segment_types.all_pass_in.Given as goal

-- those that were seen pass
abbrev pub invariant-loop-i : goal.invariant-loop-i
invariant-loop-i g l = AllPassIn (row_type l.ctx.program l.op Operands) (row_length l.ctx.program l.op Operands) (g.P.TestOfOperands.passes l.test l.ctx.types) l.start l.i
