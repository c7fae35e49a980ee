use Rattle.ir_program.proofs.used.SeenUses.{successor-held}
use Rattle.ir_program.proofs.program.Program.successor_use.Goals as goal

pub operation_in-requires : goal.operation_in-requires
operation_in-requires g c = successor-held _ c.args.self.now c.self.view_is c.self.invariant c.args.place c.spot-spot.result c.spot-spot.ensures
