use Rattle.std.proofs.Common.{◌≡◌, take}
use Rattle.opt_dce.specs.Steps.{LosesArguments}
use Rattle.opt_dce.proofs.arguments.lose_all_arguments.Given as goal

-- the blocks up to here have lost their arguments
abbrev pub invariant-loop-a : goal.invariant-loop-a
invariant-loop-a g l = record { lost : LosesArguments g.D.Meanings.meaning l.fn.ctx.program l.ctx.program (take l.a-index l.dead); types : l.ctx.types ≡ l.fn.ctx.types; numbers : l.ctx.program.counter ≡ l.fn.ctx.program.counter }
