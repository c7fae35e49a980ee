use Rattle.std.proofs.Common.{arith}
use Rattle.ir_program.specs.Lists.{regions_in}
use Rattle.ir_program.specs.Rows.{operands_at, successors_at}
use Rattle.ir_print.specs.Formats.{step_of}
use Rattle.text_dialect.specs.Seen.{seen}
use Rattle.text_printing.proofs.OpsPrinted.{operands_printed, edge_printed, piece_printed}
use Rattle.text_printing.proofs.operations.print_flat_part.Goals as goal

pub returns-in-Operands : goal.returns-in-Operands
returns-in-Operands g c indent =
    let b = c.behind_part.ensures in
    operands_printed g.D.TextDialect.says g.D.TextDialect.formats (seen c.args.ctx.now)
    (operands_at c.args.ctx.now.program c.args.op) (successors_at c.args.ctx.now.program c.args.op)
    (regions_in c.args.ctx.now.program c.args.op) (step_of c.args.directive)
    c.args.part.now indent c.args.left c.args.progress c.behind_part.result c.in-Operands.count _ _ _ c.in-Operands.is
    (omega (arith, b.operands)) (omega (arith, b.operands)) (omega (arith, b.operands)) (λ lt. omega (arith, b.operands)) b.before
    b.successors b.regions c.in_ok-print_gap.ensures (λ xs rest h. c.in_ok-print_operands.ensures xs rest (rw (← b.operands) h))

pub returns-in-Successor : goal.returns-in-Successor
returns-in-Successor g c indent =
    let b = c.behind_part-in-Successor.ensures in
    edge_printed g.D.TextDialect.says g.D.TextDialect.formats (seen c.args.ctx.now)
    (operands_at c.args.ctx.now.program c.args.op) (successors_at c.args.ctx.now.program c.args.op)
    (regions_in c.args.ctx.now.program c.args.op) (step_of c.args.directive)
    c.args.part.now indent c.args.left c.args.progress c.behind_part-in-Successor.result c.in-Successor.count _ _ _ _ c.in-Successor.is
    (omega arith) (omega (arith, b.operands)) (λ lt. omega (arith, b.operands)) (omega (arith, b.operands))
    (λ lt. omega (arith, b.operands)) (omega (arith, b.successors)) (λ lt. omega (arith, b.successors)) b.before
    b.regions c.in_ok-print_gap-2.ensures (λ at ls xs rest h k. c.in_ok-print_successor.ensures at ls xs rest h (rw (← b.operands) k))

pub returns : goal.returns
returns g c indent =
    let b = c.behind_part-2.ensures in
    piece_printed g.D.TextDialect.says g.D.TextDialect.formats (seen c.args.ctx.now)
    (operands_at c.args.ctx.now.program c.args.op) (successors_at c.args.ctx.now.program c.args.op)
    (regions_in c.args.ctx.now.program c.args.op) (step_of c.args.directive)
    c.args.part.now indent c.args.left c.args.progress c.behind_part-2.result _ _ _ c.in_default.not-Operands c.in_default-part.not-Successor
    c.requires.flat b.before b.operands b.successors b.regions c.in_ok-print_gap-2.ensures c.in_ok-print_part.ensures
