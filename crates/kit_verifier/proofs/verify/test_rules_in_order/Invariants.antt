use Rattle.kit_checks.specs.World.{world_of}
use Rattle.kit_verifier.proofs.Verdicts.{KeptUpTo}
use Rattle.kit_verifier.proofs.verify.test_rules_in_order.Given as goal

-- the rules that were tested are kept everywhere
abbrev pub invariant-loop-rule : goal.invariant-loop-rule
invariant-loop-rule l = KeptUpTo (world_of l.ctx) l.ctx.program l.root l.rule-index
