use Rattle.std.proofs.Common.{◌<◌, length, sym, ap, ◌∙◌, subst, arith}
use Rattle.digraph.specs.Graph.{successors}
use Rattle.digraph.specs.Sccs.{AreSccs}
use Rattle.ir_graph.specs.Graphs.{AreNodeNumbers}
use Rattle.ir_graph.proofs.NamedOrders.{ok_more, graph_in, named_at}
use Rattle.ir_graph.proofs.NamedSccs.{names_of}
use Rattle.ir_graph.proofs.NamedSinks.{can_reverse}
use Rattle.ir_graph.proofs.reverse.pre_sentinels_of.Goals as goal

pub transposed-requires : goal.transposed-requires
transposed-requires g c = graph_in _ _ _ (g.met.G.ControlFlowGraph.distinct c.args.graph.now c.args.ctx.now c.requires) _ _ c.in_ok-numbering.ensures c.deref.result.now c.deref.ensures.value

pub sccs-requires-clause-graph : goal.sccs-requires-clause-graph
sccs-requires-clause-graph g c = graph_in _ _ _ (g.met.G.ControlFlowGraph.distinct c.args.graph.now c.args.ctx.now c.requires) _ _ c.in_ok-numbering.ensures c.deref-2.result.now c.deref-2.ensures.value

pub sink_ends-requires-clause-graph : goal.sink_ends-requires-clause-graph
sink_ends-requires-clause-graph g c = graph_in _ _ _ (g.met.G.ControlFlowGraph.distinct c.args.graph.now c.args.ctx.now c.requires) _ _ c.in_ok-numbering.ensures c.deref-4.result.now c.deref-4.ensures.value

pub sink_ends-requires-clause-parts : goal.sink_ends-requires-clause-parts
sink_ends-requires-clause-parts g c = subst (λ rs. AreSccs (successors rs) (λ n. n < length rs) c.in_ok-parts.parts.items) (c.deref-2.ensures.value ∙ sym c.deref-4.ensures.value) c.in_ok-parts.ensures

pub nodes_at-requires : goal.nodes_at-requires
nodes_at-requires g c =
    let n = c.in_ok-numbering.ensures in
    let r = names_of (g.G.ControlFlowGraph.nodes_of c.args.graph.now c.args.ctx.now) c.in_ok-ends.ends.items (λ i m. let l = (c.in_ok-ends.ensures.only i m).0 in omega (arith, l, n.len, ap length c.deref-4.ensures.value)) in
    (r.0, named_at (g.G.ControlFlowGraph.nodes_of c.args.graph.now c.args.ctx.now) c.in_ok-ends.ends.items r.0 r.1 c.deref-5.result.now c.deref-6.result.now (c.deref-5.ensures.value ∙ n.all) c.deref-6.ensures.value)

pub returns : goal.returns
returns g c =
    let n = c.in_ok-numbering.ensures in
    ok_more c.nodes_at.result (λ found a. can_reverse _ _ _ (g.met.G.ControlFlowGraph.distinct c.args.graph.now c.args.ctx.now c.requires) _ _ n c.deref-4.result.now c.in_ok-ends.ends.items found.items c.deref-4.ensures.value
    (subst (λ ks. AreNodeNumbers ks c.in_ok-ends.ends.items found.items) (c.deref-5.ensures.value ∙ n.all) (subst (λ ids. AreNodeNumbers c.deref-5.result.now ids found.items) c.deref-6.ensures.value a))
    c.in_ok-ends.ensures)
    c.nodes_at.ensures
