use Rattle.ir_program.proofs.rows.RowReads.{successor-live}
use Rattle.ir_program.proofs.program.Program.know_successors.Goals as goal

pub returns : goal.returns
returns g c = rw (← c.self.view_is) (successor-live _ c.self.invariant c.know_named.ensures)
