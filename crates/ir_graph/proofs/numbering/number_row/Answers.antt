use Rattle.std.proofs.Common.{subst, sym}
use Rattle.std.specs.Prelude.{Contains}
use Rattle.ir_graph.proofs.Numbers.{has_number, number_is, named_more}
use Rattle.ir_graph.proofs.numbering.number_row.Goals as goal

pub unreachable-requires : goal.unreachable-requires
unreachable-requires g c =
    has_number g.N.PartialEq.eq c.args.set.now.keys c.node-item.result (g.met.N.Eq.laws.refl c.node-item.result)
    (subst (Contains c.args.set.now.keys) (sym c.node-item.is) (c.requires.known c.loop-node.node-index c.node-item.result c.loop-node-test.true)) c.in-None.ensures.found

pub loop-node-preserved : goal.loop-node-preserved
loop-node-preserved g c =
    named_more c.args.set.now.keys c.args.row.now c.loop-node.ids.items c.push.new.self.items c.loop-node.node-index c.in-Some.number c.node-item.result c.loop-node-test.true c.node-item.is
    (number_is g.N.PartialEq.eq c.args.set.now.keys c.node-item.result c.in-Some.number c.requires.same c.in-Some.ensures.index) c.in_ok-push-in-Some.ensures.items c.loop-node.invariant
