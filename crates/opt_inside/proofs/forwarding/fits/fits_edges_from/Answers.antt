use Rattle.std.proofs.Common.{refl}
use Rattle.opt_inside.proofs.ForwardingLemmas.Fitting.{fits_of_none}
use Rattle.opt_inside.proofs.forwarding.fits.fits_edges_from.Goals as goal

pub returns-in-None : goal.returns-in-None
returns-in-None g c = (λ h. fits_of_none g.D.Meanings.meaning c.args.program.now c.args.start (c.start_node.ensures.nowhere c.in-None.is), λ h. refl)
