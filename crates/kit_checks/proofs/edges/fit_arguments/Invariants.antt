use Rattle.std.proofs.Common.{Some, drop, map, take}
use Rattle.ir_program.specs.Program.{TypedValue, arguments_at, type_at}
use Rattle.ir_program.specs.Rows.{operands_at}
use Rattle.kit_checks.proofs.Rows.{AgreeBelow}
use Rattle.kit_checks.proofs.edges.fit_arguments.Given as goal

-- those that were seen have the types of the arguments
abbrev pub invariant-loop-index : goal.invariant-loop-index
invariant-loop-index l =
    AgreeBelow (map (type_at l.ctx.program) (take l.count (drop l.first (operands_at l.ctx.program l.op)))) (map Some (map (λ (t : TypedValue). t.ty) (arguments_at l.ctx.program l.block))) l.index
