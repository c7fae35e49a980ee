use Rattle.ir_program.specs.Program.{Program}
use Rattle.ir_program.proofs.made.Vacant.{empty_exactly}
use Rattle.ir_program.proofs.program.Program.is_empty.Goals as goal

pub returns : goal.returns
returns g c = let was : Program _ _ = record { forest = c.self.inside.forest; values = c.self.inside.values; targets = c.self.inside.targets; counter = c.self.inside.counter } in
    rw (← c.self.view_is) (empty_exactly was c.is_vacant.result c.is_vacant.ensures)
