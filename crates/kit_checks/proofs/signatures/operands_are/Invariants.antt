use Rattle.std.proofs.Common.{Some, map}
use Rattle.ir_program.specs.Program.{type_at}
use Rattle.ir_program.specs.Rows.{operands_at}
use Rattle.kit_checks.proofs.Rows.{AgreeBelow}
use Rattle.kit_checks.proofs.signatures.operands_are.Given as goal

-- those that were seen have the types
abbrev pub invariant-loop-index : goal.invariant-loop-index
invariant-loop-index l = AgreeBelow (map (type_at l.ctx.program) (operands_at l.ctx.program l.op)) (map Some l.types) l.index
