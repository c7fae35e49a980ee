use Rattle.std.proofs.Common.{map}
use Rattle.ir_program.specs.Program.{TypedValue, arguments_at}
use Rattle.kit_checks.proofs.Rows.{AgreeBelow}
use Rattle.kit_checks.proofs.signatures.arguments_are.Given as goal

-- those that were seen have the types
abbrev pub invariant-loop-index : goal.invariant-loop-index
invariant-loop-index l = AgreeBelow (map (λ (t : TypedValue). t.ty) (arguments_at l.ctx.program l.block)) l.types l.index
