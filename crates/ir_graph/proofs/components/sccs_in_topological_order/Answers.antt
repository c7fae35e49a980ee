use Rattle.std.proofs.Common.{◌<◌, length, ap, ◌∙◌, subst, arith}
use Rattle.digraph.specs.Graph.{successors}
use Rattle.digraph.specs.Sccs.{AreSccs, IsInPart}
use Rattle.ir_graph.specs.Graphs.{AreNamedSccs}
use Rattle.ir_graph.proofs.NamedOrders.{ok_more, graph_in}
use Rattle.ir_graph.proofs.NamedSccs.{sccs_named}
use Rattle.ir_graph.proofs.components.sccs_in_topological_order.Goals as goal

pub transposed-requires : goal.transposed-requires
transposed-requires g c = graph_in _ _ _ (g.met.G.ControlFlowGraph.distinct c.args.graph.now c.args.ctx.now c.requires) _ _ c.in_ok-numbering.ensures c.deref.result.now c.deref.ensures.value

pub sccs-requires-clause-graph : goal.sccs-requires-clause-graph
sccs-requires-clause-graph g c = graph_in _ _ _ (g.met.G.ControlFlowGraph.distinct c.args.graph.now c.args.ctx.now c.requires) _ _ c.in_ok-numbering.ensures c.deref-2.result.now c.deref-2.ensures.value

pub sccs_at-requires : goal.sccs_at-requires
sccs_at-requires g c = λ k n h.
    let l = c.in_ok-parts.ensures.within k n (subst (λ ps. IsInPart ps k n) c.deref-5.ensures.value h) in
    omega (arith, l, c.in_ok-numbering.ensures.len, ap length c.deref-2.ensures.value, ap length (c.deref-4.ensures.value ∙ c.in_ok-numbering.ensures.all))

pub returns : goal.returns
returns g c =
    let n = c.in_ok-numbering.ensures in
    ok_more c.sccs_at.result (λ named a. sccs_named _ _ _ (g.met.G.ControlFlowGraph.distinct c.args.graph.now c.args.ctx.now c.requires) _ _ n c.in_ok-parts.parts.items named.items
    (subst (λ ks. AreNamedSccs ks c.in_ok-parts.parts.items named.items) (c.deref-4.ensures.value ∙ n.all) (subst (λ ps. AreNamedSccs c.deref-4.result.now ps named.items) c.deref-5.ensures.value a))
    (subst (λ rs. AreSccs (successors rs) (λ m. m < length rs) c.in_ok-parts.parts.items) c.deref-2.ensures.value c.in_ok-parts.ensures))
    c.sccs_at.ensures
