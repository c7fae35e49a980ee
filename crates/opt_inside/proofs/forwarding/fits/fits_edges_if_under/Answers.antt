use Rattle.std.proofs.Common.{◌∙◌, true≢false, sym}
use Rattle.opt_inside.specs.forwarding.Fits.{FitsEdgesAt}
use Rattle.opt_inside.specs.forwarding.Tops.{IsAbove}
use Rattle.opt_inside.proofs.ForwardingLemmas.Fitting.{about_either}
use Rattle.opt_inside.proofs.forwarding.fits.fits_edges_if_under.Goals as goal

pub returns : goal.returns
returns g c =
    about_either (IsAbove c.args.program.now c.args.start c.args.node) (FitsEdgesAt g.D.Meanings.meaning c.args.program.now c.args.node) c.fits_edges_at.result
    (λ above. true≢false (sym (c.is_above.ensures.1 above) ∙ c.if-is_above.false)) c.fits_edges_at.ensures
