use Rattle.std.proofs.Common.{◌≡◌, ◌<◌, length, sym, ap, ◌∙◌, arith, rules}
use Rattle.digraph.proofs.Searching.{successors_at}
use Rattle.edge_graphs.specs.Numbers.{below}
use Rattle.edge_graphs.proofs.edges.EdgesControlFlowGraphNothing.num_predecessors.Goals as goal

pub index-requires : goal.index-requires
index-requires c = let w = below (length c.args.self.now.rows.items) c.args.node.now c.requires.node in let t = c.requires.graph.1.len in let o = c.args.self.now.back.ok.0 in omega (arith, w, t, o)

pub returns : goal.returns
returns c =
    let w = below (length c.args.self.now.rows.items) c.args.node.now c.requires.node in
    let t = c.requires.graph.1.len in
    let l : c.args.node.now < length c.args.self.now.back.items = omega (arith, w, t) in
    let e : c.len.result ≡ length c.index.result.now.items = search rules in
    e ∙ sym (ap length (successors_at c.args.self.now.back.items c.args.node.now c.index.result.now l c.index.ensures))
