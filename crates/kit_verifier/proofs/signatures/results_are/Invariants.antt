use Rattle.std.proofs.Common.{map}
use Rattle.ir_program.specs.Program.{TypedValue, results_at}
use Rattle.kit_verifier.proofs.Typed.{AgreeBelow}
use Rattle.kit_verifier.proofs.signatures.results_are.Given as goal

-- the types that were compared are the same
abbrev pub invariant-loop-index : goal.invariant-loop-index
invariant-loop-index l = AgreeBelow (map (λ (t : TypedValue). t.ty) (results_at l.ctx.program l.op)) l.types l.index
