use Rattle.kit_checks.specs.World.{world_of}
use Rattle.kit_verifier.proofs.NameRules.{FitBelow}
use Rattle.kit_verifier.proofs.calls.all_fit.Given as goal

-- the calls up to here keep the rule
abbrev pub invariant-loop-call : goal.invariant-loop-call
invariant-loop-call l = FitBelow (world_of l.ctx) l.ctx.program l.root l.calls l.call-index
