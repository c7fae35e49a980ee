use Rattle.opt_steps.proofs.ChainsJoining.{IsJoining}
use Rattle.opt_steps.proofs.chains_joined.joined.Given as goal

abbrev pub invariant-loop-from : goal.invariant-loop-from
invariant-loop-from l = IsJoining l.blocks l.from l.next.items
