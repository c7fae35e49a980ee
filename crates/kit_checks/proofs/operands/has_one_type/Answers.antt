use Rattle.std.proofs.Common.{arith, ◌≡◌, length, map}
use Rattle.ir_program.specs.Program.{type_at}
use Rattle.ir_program.specs.Rows.{operands_at}
use Rattle.kit_checks.specs.Words.{types_of}
use Rattle.kit_checks.proofs.Alike.{alike_parts, alike_without, first_type, no_types, part_operands, part_results}
use Rattle.kit_checks.proofs.Combined.{part_fails, last_decides}
use Rattle.kit_checks.proofs.operands.has_one_type.Goals as goal

pub returns-then-get_num_operands-eq0 : goal.returns-then-get_num_operands-eq0
returns-then-get_num_operands-eq0 c u s =
    let none : length (operands_at c.args.ctx.now.program c.args.op) ≡ 0 = omega arith in
    let same = alike_without (map (type_at c.args.ctx.now.program) u.head.operands) (types_of u.head.results) (no_types c.args.ctx.now.program c.args.op u s none) in
    last_decides c.has_equal_results.result (c.has_equal_results.ensures u s) same.0 same.1

pub returns-then-not-operands_have : goal.returns-then-not-operands_have
returns-then-not-operands_have c u s =
    part_fails c.operands_have.result c.if-not-operands_have.true (c.operands_have.ensures u s)
    (part_operands (map (type_at c.args.ctx.now.program) u.head.operands) (types_of u.head.results) c.operand_type-first.result (first_type c.args.ctx.now.program c.args.op u s c.operand_type-first.result c.operand_type-first.ensures))

pub returns : goal.returns
returns c u s =
    let first = first_type c.args.ctx.now.program c.args.op u s c.operand_type-first.result c.operand_type-first.ensures in
    last_decides c.results_pass.result (c.results_pass.ensures u s)
    (alike_parts (map (type_at c.args.ctx.now.program) u.head.operands) (types_of u.head.results) c.operand_type-first.result first ((c.operands_have.ensures u s).0 c.if-not-operands_have.false))
    (part_results (map (type_at c.args.ctx.now.program) u.head.operands) (types_of u.head.results) c.operand_type-first.result first)
