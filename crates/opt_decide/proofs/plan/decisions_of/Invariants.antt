use Rattle.std.proofs.Common.{◌≡◌, take}
use Rattle.opt_decide.specs.Planned.{decisions_of, picked_edge}
use Rattle.opt_decide.proofs.plan.decisions_of.Given as goal

-- the decisions of the first operations
abbrev pub invariant-loop-op : goal.invariant-loop-op
invariant-loop-op g l = l.decisions.items ≡ decisions_of (picked_edge g.D.Meanings.meaning l.program) (take l.op-index l.ops)
