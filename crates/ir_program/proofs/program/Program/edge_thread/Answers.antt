use Rattle.std.proofs.Common.{sym}
use Rattle.ir_program.proofs.used.SeenUses.{edge-key}
use Rattle.ir_program.proofs.program.Program.edge_thread.Goals as goal

pub returns : goal.returns
returns g c = rw (← c.self.view_is) (edge-key _ c.args.block c.block.result.now c.self.invariant (sym c.block.ensures))
