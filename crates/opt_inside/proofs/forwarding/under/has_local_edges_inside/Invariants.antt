use Rattle.opt_inside.specs.forwarding.Local.{HasLocalEdgesAt}
use Rattle.opt_inside.proofs.ForwardingLemmas.SeenUnder.{IsSeenUpTo}
use Rattle.opt_inside.proofs.forwarding.under.has_local_edges_inside.Given as goal

-- those that were seen hold regions where looking begins, or have local edges
abbrev pub invariant-loop-inner : goal.invariant-loop-inner
invariant-loop-inner g l = IsSeenUpTo l.program l.start (HasLocalEdgesAt g.D.Meanings.meaning.is_terminator l.program) l.fn.node l.inner-iterator
