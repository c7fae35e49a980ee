use Rattle.std.proofs.Common.{refl}
use Rattle.opt_inside.proofs.ForwardingLemmas.EachUnder.{local_of_none}
use Rattle.opt_inside.proofs.forwarding.under.has_local_edges_from.Goals as goal

pub returns-in-None : goal.returns-in-None
returns-in-None g c = (λ h. local_of_none g.D.Meanings.meaning.is_terminator c.args.program.now c.args.start (c.start_node.ensures.nowhere c.in-None.is), λ h. refl)
