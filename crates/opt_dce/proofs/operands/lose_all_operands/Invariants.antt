use Rattle.std.proofs.Common.{◌≡◌, take}
use Rattle.opt_dce.specs.Steps.{LosesListed}
use Rattle.opt_dce.proofs.operands.lose_all_operands.Given as goal

-- the operations up to here have lost their operands
abbrev pub invariant-loop-l : goal.invariant-loop-l
invariant-loop-l g l = record { lost : LosesListed g.D.Meanings.meaning l.fn.ctx.program l.ctx.program (take l.l-index l.lost); types : l.ctx.types ≡ l.fn.ctx.types; numbers : l.ctx.program.counter ≡ l.fn.ctx.program.counter }
