-- The constants before the index are put in.
use Rattle.std.proofs.Common.{◌≡◌, ◌+◌}
use Rattle.ir_program.specs.Edits.{KeepsErased}
use Rattle.opt_sccp.proofs.PuttingLoop.{IsPutting}
use Rattle.opt_sccp.proofs.putting.put_constants.Given as goal

abbrev pub invariant-loop-one : goal.invariant-loop-one
invariant-loop-one g l = record { putting : IsPutting g.D.Meanings.meaning l.fn.ctx.program l.ctx.program l.made l.one-index; types : l.ctx.types ≡ l.fn.ctx.types; numbers : l.ctx.program.counter ≡ l.fn.ctx.program.counter + l.one-index; erased : KeepsErased l.fn.ctx.program l.ctx.program }
