use Rattle.std.proofs.Common.{arith}
use Rattle.ir_print.specs.Formats.{steps_of}
use Rattle.ir_format_checks.proofs.FormatLoops.{told}
use Rattle.ir_format_checks.proofs.decided.are_told.Goals as goal

pub returns-after-all_may_be_empty : goal.returns-after-all_may_be_empty
returns-after-all_may_be_empty c = grind (arith, told (steps_of c.args.format.now) c.args.others, c.all_begin.ensures)

pub returns-else-not-all_begin : goal.returns-else-not-all_begin
returns-else-not-all_begin c = grind (arith, told (steps_of c.args.format.now) c.args.others, c.all_begin.ensures)
