use Rattle.std.proofs.Common.{drop, take}
use Rattle.std.specs.String.{string_bytes}
use Rattle.ir_print.specs.Shown.{Pairs}
use Rattle.ir_program.specs.Rows.{operands_at}
use Rattle.text_dialect.specs.Printed.{IsValueName}
use Rattle.text_printing.proofs.Owed.{Owed}
use Rattle.text_printing.proofs.RowsOwed.{names_left}
use Rattle.text_printing.proofs.operations.print_operands.Given as goal

abbrev pub invariant-loop-index : goal.invariant-loop-index
invariant-loop-index g l =
    Owed (Pairs IsValueName) names_left (drop l.from (take l.to (operands_at l.ctx.program l.op)))
    (drop l.index (take l.to (operands_at l.ctx.program l.op))) l.is_first (string_bytes l.fn.out) (string_bytes l.out)
