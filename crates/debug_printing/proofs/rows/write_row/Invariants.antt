use Rattle.std.proofs.Common.{take}
use Rattle.std.specs.Fmt.{HasWritten, IsPlainFormatter}
use Rattle.debug_printing.specs.DebugTexts.{joined, names_in}
use Rattle.debug_printing.proofs.rows.write_row.Given as goal

abbrev pub invariant-loop-index : goal.invariant-loop-index
invariant-loop-index g l =
    IsPlainFormatter l.initial.f → HasWritten g.W.Write.write_str_gives l.initial.f (joined (take l.index (names_in l.ctx.program l.op l.row))) l.f
