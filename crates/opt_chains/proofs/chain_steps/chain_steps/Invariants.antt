use Rattle.opt_chains.proofs.ChainRows.{HasWalked}
use Rattle.opt_chains.proofs.chain_steps.chain_steps.Given as goal

-- the chains of the firsts up to here are walked
abbrev pub invariant-loop-first : goal.invariant-loop-first
invariant-loop-first l = HasWalked l.next l.first l.steps.items
