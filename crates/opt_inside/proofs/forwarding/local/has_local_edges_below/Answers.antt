use Rattle.opt_inside.proofs.ForwardingLemmas.Staying.{leads_below}
use Rattle.opt_inside.proofs.forwarding.local.has_local_edges_below.Goals as goal

pub returns-clause-exact : goal.returns-clause-exact
returns-clause-exact g c = (
  λ h. c.know_edges_under.ensures.local.1 (c.has_local_edges_from.ensures.0 h),
  λ h. c.has_local_edges_from.ensures.1 (c.know_edges_under.ensures.local.0 h),
)

pub returns-clause-leads : goal.returns-clause-leads
returns-clause-leads g c h =
    leads_below g.D.Meanings.meaning.is_terminator c.args.program.now c.args.op (c.know_edges_under.ensures.local.1 (c.has_local_edges_from.ensures.0 h))
