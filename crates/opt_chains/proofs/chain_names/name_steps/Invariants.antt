use Rattle.opt_chains.proofs.ChainNames.{AreNamedUpTo}
use Rattle.opt_chains.proofs.chain_names.name_steps.Given as goal

-- the steps up to here have names
abbrev pub invariant-loop-step : goal.invariant-loop-step
invariant-loop-step g l = AreNamedUpTo g.D.Meanings.meaning l.program l.blocks l.steps l.step-index l.joins.items
