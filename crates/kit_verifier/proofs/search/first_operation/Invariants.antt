use Rattle.kit_checks.specs.World.{world_of}
use Rattle.kit_checks.proofs.Searched.{IsKeptUpTo}
use Rattle.kit_verifier.specs.Tables.{rule_of}
use Rattle.kit_verifier.proofs.search.first_operation.Given as goal

-- those that were seen keep the rule
abbrev pub invariant-loop-node : goal.invariant-loop-node
invariant-loop-node l = IsKeptUpTo (world_of l.ctx) l.ctx.program l.root (rule_of l.table) l.node-iterator
