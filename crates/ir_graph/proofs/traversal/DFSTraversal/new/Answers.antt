use Rattle.std.proofs.Common.{option_to_list, sym, ◌∙◌, subst}
use Rattle.std.specs.Prelude.{All, Contains}
use Rattle.std.proofs.lemmas.List.Elements.{All-contains_itself}
use Rattle.digraph.specs.Orders.{order_of}
use Rattle.digraph.specs.Visits.{empty, Visits}
use Rattle.ir_graph.specs.Graphs.{AreDistinctNodes, AreNodeNumbers}
use Rattle.ir_graph.proofs.Descending.{all_left, search_seen_once, search_left_once}
use Rattle.ir_graph.proofs.NamedOrders.{ok_more, graph_in, roots_in, named_search, named_is, named_at, same_traversal}
use Rattle.ir_graph.proofs.traversal.DFSTraversal.new.Goals as goal

pub depth_first-requires-clause-graph : goal.depth_first-requires-clause-graph
depth_first-requires-clause-graph g c = graph_in _ _ _ (g.met.G.ControlFlowGraph.distinct c.args.graph.now c.args.ctx.now c.requires) _ _ c.in_ok-numbering.ensures c.deref-2.result.now c.deref-2.ensures.value

pub depth_first-requires-clause-roots : goal.depth_first-requires-clause-roots
depth_first-requires-clause-roots g c =
    let n = c.in_ok-numbering.ensures in
    let roots = subst (λ ids. AreNodeNumbers (g.G.ControlFlowGraph.nodes_of c.args.graph.now c.args.ctx.now) ids (option_to_list (g.G.ControlFlowGraph.entry_of c.args.graph.now c.args.ctx.now))) (sym c.deref-3.ensures.value)
    (subst (λ ks. AreNodeNumbers ks c.in_ok-roots.roots.items (option_to_list (g.G.ControlFlowGraph.entry_of c.args.graph.now c.args.ctx.now))) (c.deref.ensures.value ∙ n.all) c.in_ok-roots.ensures) in
    roots_in _ _ _ (g.met.G.ControlFlowGraph.distinct c.args.graph.now c.args.ctx.now c.requires) _ _ n c.deref-2.result.now c.deref-3.result.now (option_to_list (g.G.ControlFlowGraph.entry_of c.args.graph.now c.args.ctx.now)) c.deref-2.ensures.value roots

pub nodes_at-requires : goal.nodes_at-requires
nodes_at-requires g c =
    let n = c.in_ok-numbering.ensures in
    let roots = subst (λ ids. AreNodeNumbers (g.G.ControlFlowGraph.nodes_of c.args.graph.now c.args.ctx.now) ids (option_to_list (g.G.ControlFlowGraph.entry_of c.args.graph.now c.args.ctx.now))) (sym c.deref-3.ensures.value)
    (subst (λ ks. AreNodeNumbers ks c.in_ok-roots.roots.items (option_to_list (g.G.ControlFlowGraph.entry_of c.args.graph.now c.args.ctx.now))) (c.deref.ensures.value ∙ n.all) c.in_ok-roots.ensures) in
    let r = named_search _ _ _ (g.met.G.ControlFlowGraph.distinct c.args.graph.now c.args.ctx.now c.requires) _ _ n c.deref-2.result.now c.deref-3.result.now (option_to_list (g.G.ControlFlowGraph.entry_of c.args.graph.now c.args.ctx.now)) (order_of c.in_ok-orders.orders) c.deref-2.ensures.value roots c.in_ok-orders.ensures in
    (r.0.seen, named_at (g.G.ControlFlowGraph.nodes_of c.args.graph.now c.args.ctx.now) c.in_ok-orders.orders.pre.items r.0.seen r.1.seen c.deref-4.result.now c.deref-5.result.now (c.deref-4.ensures.value ∙ n.all) c.deref-5.ensures.value)

pub nodes_at-requires-2 : goal.nodes_at-requires-2
nodes_at-requires-2 g c =
    let n = c.in_ok-numbering.ensures in
    let roots = subst (λ ids. AreNodeNumbers (g.G.ControlFlowGraph.nodes_of c.args.graph.now c.args.ctx.now) ids (option_to_list (g.G.ControlFlowGraph.entry_of c.args.graph.now c.args.ctx.now))) (sym c.deref-3.ensures.value)
    (subst (λ ks. AreNodeNumbers ks c.in_ok-roots.roots.items (option_to_list (g.G.ControlFlowGraph.entry_of c.args.graph.now c.args.ctx.now))) (c.deref.ensures.value ∙ n.all) c.in_ok-roots.ensures) in
    let r = named_search _ _ _ (g.met.G.ControlFlowGraph.distinct c.args.graph.now c.args.ctx.now c.requires) _ _ n c.deref-2.result.now c.deref-3.result.now (option_to_list (g.G.ControlFlowGraph.entry_of c.args.graph.now c.args.ctx.now)) (order_of c.in_ok-orders.orders) c.deref-2.ensures.value roots c.in_ok-orders.ensures in
    (r.0.left, named_at (g.G.ControlFlowGraph.nodes_of c.args.graph.now c.args.ctx.now) c.in_ok-orders.orders.post.items r.0.left r.1.left c.deref-6.result.now c.deref-7.result.now (c.deref-6.ensures.value ∙ n.all) c.deref-7.ensures.value)

pub of_orders-requires-clause-seen_once : goal.of_orders-requires-clause-seen_once
of_orders-requires-clause-seen_once g c =
    let n = c.in_ok-numbering.ensures in
    let roots = subst (λ ids. AreNodeNumbers (g.G.ControlFlowGraph.nodes_of c.args.graph.now c.args.ctx.now) ids (option_to_list (g.G.ControlFlowGraph.entry_of c.args.graph.now c.args.ctx.now))) (sym c.deref-3.ensures.value)
    (subst (λ ks. AreNodeNumbers ks c.in_ok-roots.roots.items (option_to_list (g.G.ControlFlowGraph.entry_of c.args.graph.now c.args.ctx.now))) (c.deref.ensures.value ∙ n.all) c.in_ok-roots.ensures) in
    let r = named_search _ _ _ (g.met.G.ControlFlowGraph.distinct c.args.graph.now c.args.ctx.now c.requires) _ _ n c.deref-2.result.now c.deref-3.result.now (option_to_list (g.G.ControlFlowGraph.entry_of c.args.graph.now c.args.ctx.now)) (order_of c.in_ok-orders.orders) c.deref-2.ensures.value roots c.in_ok-orders.ensures in
    let pre = named_is (g.G.ControlFlowGraph.nodes_of c.args.graph.now c.args.ctx.now) c.in_ok-orders.orders.pre.items r.0.seen r.1.seen c.deref-4.result.now c.deref-5.result.now c.in_ok-pre.pre.items (c.deref-4.ensures.value ∙ n.all) c.deref-5.ensures.value c.in_ok-pre.ensures in
    subst (λ xs. AreDistinctNodes xs) (sym (c.deref-8.ensures.value ∙ pre)) (search_seen_once (g.G.ControlFlowGraph.successors_of c.args.graph.now c.args.ctx.now) (option_to_list (g.G.ControlFlowGraph.entry_of c.args.graph.now c.args.ctx.now)) r.0 r.2)

pub of_orders-requires-clause-left_once : goal.of_orders-requires-clause-left_once
of_orders-requires-clause-left_once g c =
    let n = c.in_ok-numbering.ensures in
    let roots = subst (λ ids. AreNodeNumbers (g.G.ControlFlowGraph.nodes_of c.args.graph.now c.args.ctx.now) ids (option_to_list (g.G.ControlFlowGraph.entry_of c.args.graph.now c.args.ctx.now))) (sym c.deref-3.ensures.value)
    (subst (λ ks. AreNodeNumbers ks c.in_ok-roots.roots.items (option_to_list (g.G.ControlFlowGraph.entry_of c.args.graph.now c.args.ctx.now))) (c.deref.ensures.value ∙ n.all) c.in_ok-roots.ensures) in
    let r = named_search _ _ _ (g.met.G.ControlFlowGraph.distinct c.args.graph.now c.args.ctx.now c.requires) _ _ n c.deref-2.result.now c.deref-3.result.now (option_to_list (g.G.ControlFlowGraph.entry_of c.args.graph.now c.args.ctx.now)) (order_of c.in_ok-orders.orders) c.deref-2.ensures.value roots c.in_ok-orders.ensures in
    let post = named_is (g.G.ControlFlowGraph.nodes_of c.args.graph.now c.args.ctx.now) c.in_ok-orders.orders.post.items r.0.left r.1.left c.deref-6.result.now c.deref-7.result.now c.in_ok-post.post.items (c.deref-6.ensures.value ∙ n.all) c.deref-7.ensures.value c.in_ok-post.ensures in
    subst (λ xs. AreDistinctNodes xs) (sym post) (search_left_once (g.G.ControlFlowGraph.successors_of c.args.graph.now c.args.ctx.now) (option_to_list (g.G.ControlFlowGraph.entry_of c.args.graph.now c.args.ctx.now)) r.0 r.2)

pub of_orders-requires-clause-both : goal.of_orders-requires-clause-both
of_orders-requires-clause-both g c =
    let n = c.in_ok-numbering.ensures in
    let roots = subst (λ ids. AreNodeNumbers (g.G.ControlFlowGraph.nodes_of c.args.graph.now c.args.ctx.now) ids (option_to_list (g.G.ControlFlowGraph.entry_of c.args.graph.now c.args.ctx.now))) (sym c.deref-3.ensures.value)
    (subst (λ ks. AreNodeNumbers ks c.in_ok-roots.roots.items (option_to_list (g.G.ControlFlowGraph.entry_of c.args.graph.now c.args.ctx.now))) (c.deref.ensures.value ∙ n.all) c.in_ok-roots.ensures) in
    let r = named_search _ _ _ (g.met.G.ControlFlowGraph.distinct c.args.graph.now c.args.ctx.now c.requires) _ _ n c.deref-2.result.now c.deref-3.result.now (option_to_list (g.G.ControlFlowGraph.entry_of c.args.graph.now c.args.ctx.now)) (order_of c.in_ok-orders.orders) c.deref-2.ensures.value roots c.in_ok-orders.ensures in
    let pre = named_is (g.G.ControlFlowGraph.nodes_of c.args.graph.now c.args.ctx.now) c.in_ok-orders.orders.pre.items r.0.seen r.1.seen c.deref-4.result.now c.deref-5.result.now c.in_ok-pre.pre.items (c.deref-4.ensures.value ∙ n.all) c.deref-5.ensures.value c.in_ok-pre.ensures in
    let post = named_is (g.G.ControlFlowGraph.nodes_of c.args.graph.now c.args.ctx.now) c.in_ok-orders.orders.post.items r.0.left r.1.left c.deref-6.result.now c.deref-7.result.now c.in_ok-post.post.items (c.deref-6.ensures.value ∙ n.all) c.deref-7.ensures.value c.in_ok-post.ensures in
    subst (λ xs. All (λ x. Contains xs x) c.deref-8.result.now) (sym post)
    (subst (λ xs. All (λ x. Contains r.0.left x) xs) (sym (c.deref-8.ensures.value ∙ pre)) (λ k d h. all_left (g.G.ControlFlowGraph.successors_of c.args.graph.now c.args.ctx.now) (option_to_list (g.G.ControlFlowGraph.entry_of c.args.graph.now c.args.ctx.now)) r.0 r.2 _ (All-contains_itself r.0.seen k d h)))

pub returns : goal.returns
returns g c =
    let n = c.in_ok-numbering.ensures in
    let roots = subst (λ ids. AreNodeNumbers (g.G.ControlFlowGraph.nodes_of c.args.graph.now c.args.ctx.now) ids (option_to_list (g.G.ControlFlowGraph.entry_of c.args.graph.now c.args.ctx.now))) (sym c.deref-3.ensures.value)
    (subst (λ ks. AreNodeNumbers ks c.in_ok-roots.roots.items (option_to_list (g.G.ControlFlowGraph.entry_of c.args.graph.now c.args.ctx.now))) (c.deref.ensures.value ∙ n.all) c.in_ok-roots.ensures) in
    let r = named_search _ _ _ (g.met.G.ControlFlowGraph.distinct c.args.graph.now c.args.ctx.now c.requires) _ _ n c.deref-2.result.now c.deref-3.result.now (option_to_list (g.G.ControlFlowGraph.entry_of c.args.graph.now c.args.ctx.now)) (order_of c.in_ok-orders.orders) c.deref-2.ensures.value roots c.in_ok-orders.ensures in
    let pre = named_is (g.G.ControlFlowGraph.nodes_of c.args.graph.now c.args.ctx.now) c.in_ok-orders.orders.pre.items r.0.seen r.1.seen c.deref-4.result.now c.deref-5.result.now c.in_ok-pre.pre.items (c.deref-4.ensures.value ∙ n.all) c.deref-5.ensures.value c.in_ok-pre.ensures in
    let post = named_is (g.G.ControlFlowGraph.nodes_of c.args.graph.now c.args.ctx.now) c.in_ok-orders.orders.post.items r.0.left r.1.left c.deref-6.result.now c.deref-7.result.now c.in_ok-post.post.items (c.deref-6.ensures.value ∙ n.all) c.deref-7.ensures.value c.in_ok-post.ensures in
    ok_more c.of_orders.result (λ t e. subst (λ x. Visits (g.G.ControlFlowGraph.successors_of c.args.graph.now c.args.ctx.now) empty (option_to_list (g.G.ControlFlowGraph.entry_of c.args.graph.now c.args.ctx.now)) x) (sym (e ∙ same_traversal (c.deref-8.ensures.value ∙ pre) post)) r.2) c.of_orders.ensures
