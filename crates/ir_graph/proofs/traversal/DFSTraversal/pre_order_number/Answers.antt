use Rattle.std.proofs.Common.{◌≡◌, Some, subst}
use Rattle.std.specs.Prelude.{slice_get}
use Rattle.digraph.specs.Visits.{Traversal}
use Rattle.ir_graph.proofs.Numbers.{number_is}
use Rattle.ir_graph.proofs.traversal.DFSTraversal.pre_order_number.Goals as goal

pub returns : goal.returns
returns g c = subst (λ (t : Traversal g.row.N.Denot). slice_get t.seen c.in-Some.number ≡ Some c.args.node.now) c.self.view_is
    (number_is g.N.PartialEq.eq c.self.inside.pre.keys c.args.node.now c.in-Some.number c.self.invariant.1 c.in-Some.ensures.index)
