use Rattle.opt_chains.proofs.StandInsLemmas.FollowingLemmas.{AreNumbersUpTo}
use Rattle.opt_chains.proofs.stand_ins.following.numbers_of_given.Given as goal

-- the numbers of the values before this one
abbrev pub invariant-loop-value : goal.invariant-loop-value
invariant-loop-value l = AreNumbersUpTo l.inside.values.keys l.given l.value-index l.next.items
