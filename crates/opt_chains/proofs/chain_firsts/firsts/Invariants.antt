use Rattle.opt_chains.proofs.ChainFirsts.{AreUnmarked}
use Rattle.opt_chains.proofs.chain_firsts.firsts.Given as goal

-- what the numbers up to here lead to isn't marked
abbrev pub invariant-loop-to : goal.invariant-loop-to
invariant-loop-to l = AreUnmarked l.next l.to-index l.marks.items
