use Rattle.opt_inside.specs.Numbered.{numbers_of}
use Rattle.opt_dce.specs.liveness.Problems.{Forwards, Notes}
use Rattle.std.proofs.Common.{◌<◌}
use Rattle.opt_dce.proofs.liveness.forwarding.forward_edges.Given as goal

abbrev pub invariant-loop-edge : goal.invariant-loop-edge
invariant-loop-edge g l = Notes (λ k x. (w : Forwards g.D.Meanings.meaning l.program (numbers_of l.inside) l.op k x) × (w.edge < l.edge)) l.initial.targets.items l.targets.items
