use Rattle.std.proofs.Common.{drop}
use Rattle.std.specs.String.{string_bytes}
use Rattle.ir_print.specs.Shown.{Pairs}
use Rattle.ir_program.specs.Program.{arguments_at}
use Rattle.text_printing.proofs.Owed.{Owed}
use Rattle.text_printing.proofs.RowsOwed.{HasFlat, arguments_left}
use Rattle.text_printing.proofs.operations.print_arguments.Given as goal

abbrev pub invariant-loop-index : goal.invariant-loop-index
invariant-loop-index g l =
    let d = g.D.TextDialect in
    Owed (Pairs (HasFlat d.says l.ctx.types.keys d.formats l.left)) (arguments_left d.says l.ctx.types.keys d.formats l.left)
    (arguments_at l.ctx.program l.block) (drop l.index (arguments_at l.ctx.program l.block)) l.is_first (string_bytes l.fn.out)
    (string_bytes l.out)
