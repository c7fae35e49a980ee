use Rattle.opt_inside.specs.forwarding.Fits.{FitsEdgesAt}
use Rattle.opt_inside.proofs.ForwardingLemmas.SeenUnder.{IsSeenUpTo}
use Rattle.opt_inside.proofs.forwarding.fits.fits_edges_inside.Given as goal

-- those that were seen hold regions where looking begins, or have edges that fit
abbrev pub invariant-loop-inner : goal.invariant-loop-inner
invariant-loop-inner g l = IsSeenUpTo l.program l.start (FitsEdgesAt g.D.Meanings.meaning l.program) l.fn.node l.inner-iterator
