use Rattle.std.proofs.Common.{map, Some}
use Rattle.ir_program.specs.Program.{type_at}
use Rattle.kit_checks.proofs.Alike.{alike_first, first_type}
use Rattle.kit_checks.proofs.Combined.{last_decides}
use Rattle.kit_checks.proofs.operands.has_equal_operands.Goals as goal

pub returns : goal.returns
returns c u s =
    let all = alike_first (map (type_at c.args.ctx.now.program) u.head.operands) (Some c.operand_type-first.result) (first_type c.args.ctx.now.program c.args.op u s c.operand_type-first.result c.operand_type-first.ensures) in
    last_decides c.operands_have.result (c.operands_have.ensures u s) all.0 all.1
