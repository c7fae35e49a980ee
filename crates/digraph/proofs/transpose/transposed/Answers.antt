use Rattle.std.proofs.Common.{rules, ◌≡◌, sym, ◌∙◌, subst, arith}
use Rattle.digraph.specs.Graph.{successors}
use Rattle.digraph.specs.Transpose.{AddsSource}
use Rattle.digraph.proofs.Searching.{successors_at, successors_in}
use Rattle.digraph.proofs.Reversing.{turning_goes_on, turning_ends}
use Rattle.digraph.proofs.transpose.transposed.Goals as goal

pub add_source-requires : goal.add_source-requires
add_source-requires c = successors_in c.args.graph.now c.loop-node.node _ _ c.requires c.loop-node.invariant.len
    (successors_at c.args.graph.now c.loop-node.node c.index-graph-node.result (omega arith) (search rules) ∙ (search rules))

pub loop-node-preserved : goal.loop-node-preserved
loop-node-preserved c =
    let e : successors c.args.graph.now c.loop-node.node ≡ c.deref.result.now = successors_at c.args.graph.now c.loop-node.node c.index-graph-node.result (omega arith) (search rules) ∙ (search rules) in
    turning_goes_on c.args.graph.now c.loop-node.reverse.items c.add_source.new.reverse.items c.loop-node.node c.loop-node.invariant
    (subst (λ xs. AddsSource c.loop-node.reverse.items c.add_source.new.reverse.items c.loop-node.node xs) (sym e) c.in_ok-add_source.ensures)

pub returns : goal.returns
returns c = turning_ends c.args.graph.now c.loop-node.reverse.items c.loop-node.node (omega arith) c.loop-node.invariant
