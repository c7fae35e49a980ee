use Rattle.std.proofs.Common.{◌↔◌, IfOk, IsTrue, sym, subst}
use Rattle.opt_inside.specs.forwarding.Fits.{FitsEdgesAt}
use Rattle.opt_inside.proofs.forwarding.fits.fits_edges_at.Goals as goal

pub returns-in-Operation : goal.returns-in-Operation
returns-in-Operation g c =
    subst (λ n. IfOk c.fits_if_branch.result (λ fits. IsTrue fits ↔ FitsEdgesAt g.D.Meanings.meaning c.args.program.now n)) (sym c.in-Operation.is) c.fits_if_branch.ensures
