use Rattle.std.proofs.Common.{◌<◌, ℕ}
use Rattle.opt_inside.specs.forwarding.Fits.{FitsEdge}
use Rattle.opt_inside.proofs.forwarding.fits.fits_edges.Given as goal

abbrev pub invariant-loop-edge : goal.invariant-loop-edge
invariant-loop-edge g l = (k : ℕ) → k < l.edge → FitsEdge g.D.Meanings.meaning l.program l.op k
