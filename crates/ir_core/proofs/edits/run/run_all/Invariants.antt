use Rattle.std.proofs.Common.{◌≡◌, length, take, drop}
use Rattle.ir_core.proofs.EditsLemmas.Running.{ComesTo}
use Rattle.ir_core.proofs.edits.run.run_all.Given as goal

abbrev pub invariant-loop-index : goal.invariant-loop-index
invariant-loop-index g l = (length l.made.items ≡ length l.edits) × ComesTo g.D.DialectTables.nowhere l.initial.ctx l.edits l.ctx (take l.index l.made.items) (drop l.index l.edits)
