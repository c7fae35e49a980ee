use Rattle.std.proofs.Common.{◌≡◌, ◌∙◌, length, eq-eqb, eqb-true, sym, ap}
use Rattle.opt_inside.proofs.ForwardingLemmas.Fitting.{edge_fits}
use Rattle.opt_inside.proofs.forwarding.fits.fits_edge.Goals as goal

pub returns : goal.returns
returns g c =
    let d = g.D.Meanings.meaning in
    let fits = edge_fits d c.args.program.now c.args.op c.args.edge c.successor.result c.payload.result.now c.operand_count-count.result c.payload.ensures c.operand_count-count.ensures c.successor.ensures.exact in
    let forwarded : c.len.result ≡ length (d.forwards c.payload.result.now c.operand_count-count.result c.args.edge) = c.len.ensures ∙ c.in_ok-forwarded.forwarded.ok.0 ∙ ap length c.in_ok-forwarded.ensures in (
      λ h. fits.0 (sym forwarded ∙ eqb-true c.len.result c.argument_count.result h ∙ c.argument_count.ensures),
      λ h. eq-eqb c.len.result c.argument_count.result (forwarded ∙ fits.1 h ∙ sym c.argument_count.ensures),
    )
