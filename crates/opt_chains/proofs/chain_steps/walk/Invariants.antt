use Rattle.std.proofs.Common.{◌-◌, length}
use Rattle.opt_chains.specs.ChainSteps.{behind}
use Rattle.opt_chains.proofs.ChainRows.{IsWalking}
use Rattle.opt_chains.proofs.chain_steps.walk.Given as goal

-- the chain is walked up to here
abbrev pub invariant-loop-at : goal.invariant-loop-at
invariant-loop-at l = IsWalking l.next l.first l.initial.steps.items l.steps.items l.at

-- the numbers that are not yet behind the first
abbrev pub decreases-loop-at : goal.decreases-loop-at
decreases-loop-at l = length l.next - length (behind l.steps.items l.first)
