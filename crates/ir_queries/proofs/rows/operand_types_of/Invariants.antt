use Rattle.std.proofs.Common.{take}
use Rattle.ir_program.specs.Rows.{operands_at}
use Rattle.ir_queries.specs.Rows.{AreTypesOf}
use Rattle.ir_queries.proofs.rows.operand_types_of.Given as goal

abbrev pub invariant-loop-i : goal.invariant-loop-i
invariant-loop-i g l = AreTypesOf l.program (take l.i (operands_at l.program l.op)) l.types.items
