use Rattle.std.proofs.Common.{◌≡◌, map, Some}
use Rattle.ir_program.specs.Program.{type_at}
use Rattle.ir_program.specs.Rows.{operands_at}
use Rattle.kit_checks.proofs.Everys.{EveryBelow}
use Rattle.kit_checks.proofs.operands.operands_have.Given as goal

-- those that were seen have the type
abbrev pub invariant-loop-index : goal.invariant-loop-index
invariant-loop-index l = EveryBelow (λ o. o ≡ Some l.ty) (map (type_at l.ctx.program) (operands_at l.ctx.program l.op)) l.index
