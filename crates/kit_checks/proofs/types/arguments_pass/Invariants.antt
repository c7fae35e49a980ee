use Rattle.std.proofs.Common.{map}
use Rattle.ir_program.specs.Program.{TypedValue, arguments_at}
use Rattle.kit_checks.specs.World.{world_of}
use Rattle.kit_checks.specs.Passing.{TypePasses}
use Rattle.kit_checks.proofs.Everys.{EveryBelow}
use Rattle.kit_checks.proofs.types.arguments_pass.Given as goal

-- those that were seen pass the test
abbrev pub invariant-loop-index : goal.invariant-loop-index
invariant-loop-index l = EveryBelow (TypePasses (world_of l.ctx) l.test) (map (λ (t : TypedValue). t.ty) (arguments_at l.ctx.program l.block)) l.index
