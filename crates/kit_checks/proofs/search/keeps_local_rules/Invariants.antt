use Rattle.kit_checks.specs.World.{world_of}
use Rattle.kit_checks.proofs.LocalRules.{AreKeptUpTo}
use Rattle.kit_checks.proofs.Numbering.{IsNumberedUpTo}
use Rattle.kit_checks.proofs.search.keeps_local_rules.Given as goal

-- those that were seen keep each rule, and are numbered
abbrev pub invariant-loop-node : goal.invariant-loop-node
invariant-loop-node l = AreKeptUpTo (world_of l.ctx) l.ctx.program l.root l.node-iterator
    × IsNumberedUpTo l.ctx.program l.root l.order l.number l.node-iterator
