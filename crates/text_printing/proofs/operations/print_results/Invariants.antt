use Rattle.std.proofs.Common.{drop}
use Rattle.std.specs.String.{string_bytes}
use Rattle.ir_print.specs.Shown.{Pairs}
use Rattle.ir_program.specs.Program.{results_at}
use Rattle.text_printing.specs.Added.{HasName}
use Rattle.text_printing.proofs.Owed.{Owed}
use Rattle.text_printing.proofs.RowsOwed.{results_left}
use Rattle.text_printing.proofs.operations.print_results.Given as goal

abbrev pub invariant-loop-index : goal.invariant-loop-index
invariant-loop-index g l =
    Owed (Pairs (HasName g.D.TextDialect.says l.ctx.types.keys)) results_left (results_at l.ctx.program l.op)
    (drop l.index (results_at l.ctx.program l.op)) l.is_first (string_bytes l.fn.out) (string_bytes l.out)
