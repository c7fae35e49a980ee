use Rattle.std.proofs.Common.{subst}
use Rattle.std.specs.Prelude.{Contains, IsTrue, ◌↔◌}
use Rattle.digraph.specs.Visits.{Traversal}
use Rattle.ir_graph.proofs.Numbers.{any_or_none}
use Rattle.ir_graph.proofs.traversal.DFSTraversal.contains.Goals as goal

pub returns : goal.returns
returns g c = subst (λ (t : Traversal g.row.N.Denot). IsTrue c.contains.result ↔ Contains t.seen c.args.node.now) c.self.view_is
    (any_or_none g.N.PartialEq.eq c.self.invariant.1 c.args.node.now c.self.inside.pre.keys c.contains.result (g.met.N.Eq.laws.refl c.args.node.now) c.contains.ensures)
