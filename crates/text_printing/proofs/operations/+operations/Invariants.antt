use Rattle.std.proofs.Common.{◌+◌, ◌*◌, drop, true}
use Rattle.std.specs.String.{string_bytes}
use Rattle.ir_program.specs.Lists.{StandsInBlock, StandsInRegion, blocks_in, operations_in, regions_in}
use Rattle.ir_program.specs.Rows.{operands_at, successors_at}
use Rattle.text_dialect.specs.Seen.{seen}
use Rattle.text_printing.proofs.OperationOwed.{OperationOwed}
use Rattle.text_printing.proofs.RowsOwed.{Each, ShallowBlock, ShallowOperation, blocks_left, operations_left}
use Rattle.text_printing.proofs.Walked.{IsWalked}
use Rattle.text_printing.proofs.operations.+operations.Given as goal

abbrev pub decreases-print_operation : goal.decreases-print_operation
decreases-print_operation g l = 5 * l.left + 2

abbrev pub decreases-print_operation_parts : goal.decreases-print_operation_parts
decreases-print_operation_parts g l = 5 * l.left + 1

abbrev pub decreases-print_operation_part : goal.decreases-print_operation_part
decreases-print_operation_part g l = 5 * l.left

abbrev pub decreases-print_region : goal.decreases-print_region
decreases-print_region g l = 5 * l.left + 4

abbrev pub decreases-print_block : goal.decreases-print_block
decreases-print_block g l = 5 * l.left + 3

abbrev pub invariant-print_operation_parts-loop-directive : goal.invariant-print_operation_parts-loop-directive
invariant-print_operation_parts-loop-directive g l =
    OperationOwed g.D.TextDialect.says g.D.TextDialect.formats (seen l.ctx) (operands_at l.ctx.program l.op)
    (successors_at l.ctx.program l.op) (regions_in l.ctx.program l.op) l.indent l.left l.parts (drop l.next l.parts) l.format
    (drop l.directive-index l.format) l.progress (string_bytes l.fn.out) (string_bytes l.out)

abbrev pub invariant-print_block-loop-op : goal.invariant-print_block-loop-op
invariant-print_block-loop-op g l =
    IsWalked (λ op. StandsInBlock l.ctx.program op l.fn.block)
    (Each (ShallowOperation g.D.TextDialect.says (seen l.ctx) g.D.TextDialect.formats (l.indent + 2) l.left))
    (operations_left g.D.TextDialect.says (seen l.ctx) g.D.TextDialect.formats (l.indent + 2) l.left)
    (operations_in l.ctx.program l.fn.block) l.op-iterator l.is_first (string_bytes l.initial.out) (string_bytes l.out)

abbrev pub invariant-print_region-loop-block : goal.invariant-print_region-loop-block
invariant-print_region-loop-block g l =
    IsWalked (λ block. StandsInRegion l.ctx.program block l.fn.region)
    (Each (ShallowBlock g.D.TextDialect.says (seen l.ctx) g.D.TextDialect.formats (l.indent + 2) l.left))
    (blocks_left g.D.TextDialect.says (seen l.ctx) g.D.TextDialect.formats (l.indent + 2) l.left)
    (blocks_in l.ctx.program l.fn.region) l.block-iterator true (string_bytes l.initial.out) (string_bytes l.out)
