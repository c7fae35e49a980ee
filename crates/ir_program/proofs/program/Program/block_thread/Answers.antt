use Rattle.std.proofs.Common.{sym}
use Rattle.ir_program.proofs.rows.RowReads.{block-thread}
use Rattle.ir_program.proofs.program.Program.block_thread.Goals as goal

pub returns : goal.returns
returns g c = rw (← c.self.view_is) (block-thread _ c.args.block c.block.result.now c.self.invariant (sym c.block.ensures))
