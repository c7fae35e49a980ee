use Rattle.std.proofs.Common.{◌≡◌}
use Rattle.ir_program.specs.Edits.{EditsBlock}
use Rattle.opt_dce.proofs.LostArguments.{loses_arguments_from}
use Rattle.opt_dce.proofs.arguments.remove_arguments.Given as goal

-- the marked arguments from here on are out
abbrev pub invariant-loop-i : goal.invariant-loop-i
invariant-loop-i g l = record { removed : EditsBlock l.fn.ctx.program l.ctx.program l.block (loses_arguments_from l.i l.marks); types : l.ctx.types ≡ l.fn.ctx.types; numbers : l.ctx.program.counter ≡ l.fn.ctx.program.counter }
