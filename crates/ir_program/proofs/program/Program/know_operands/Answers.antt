use Rattle.ir_program.proofs.rows.RowReads.{operand-live}
use Rattle.ir_program.proofs.program.Program.know_operands.Goals as goal

pub returns : goal.returns
returns g c = rw (← c.self.view_is) (operand-live _ c.self.invariant c.know_named.ensures)
