use Rattle.opt_chains.proofs.StandInsLemmas.FollowingLemmas.{AreFollowedUpTo}
use Rattle.opt_chains.proofs.stand_ins.following.stand_ins_at_ends.Given as goal

-- what stands for the values before this one
abbrev pub invariant-loop-number : goal.invariant-loop-number
invariant-loop-number l = AreFollowedUpTo l.values l.given l.finals l.number l.found.items
