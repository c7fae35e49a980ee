use Rattle.std.proofs.Common.{◌∙◌, Some, get_or, length, sym, ap, subst, below_more, arith, rules}
use Rattle.std.specs.Prelude.{Contains}
use Rattle.std.proofs.lemmas.List.Elements.{Contains-get_or}
use Rattle.std.proofs.lemmas.Option.{slice_get-get_or, get_or_from_slice_get}
use Rattle.digraph.specs.Graph.{successors}
use Rattle.digraph.proofs.Searching.{successors_at, successors_in}
use Rattle.ir_graph.specs.Sinks.{AnyMarked}
use Rattle.ir_graph.proofs.sinks.leads_out.Goals as goal

pub has_marked-requires : goal.has_marked-requires
has_marked-requires c =
    let n = get_or c.args.nodes.now c.loop-node.node-index 0 in
    let at = successors_at c.args.graph.now n c.index-graph-node.result (c.requires.nodes c.loop-node.node-index 0 c.loop-node-test.true) c.index-graph-node.is in
    successors_in c.args.graph.now n (length c.args.marks.now) c.deref.result.now c.requires.graph c.requires.len (at ∙ sym c.deref.ensures.value)

pub returns-then-has_marked : goal.returns-then-has_marked
returns-then-has_marked c =
    let n = get_or c.args.nodes.now c.loop-node.node-index 0 in
    let at = successors_at c.args.graph.now n c.index-graph-node.result (c.requires.nodes c.loop-node.node-index 0 c.loop-node-test.true) c.index-graph-node.is in
    ((λ b. let a = c.if-has_marked.ensures.0 b in (n, a.0, Contains-get_or c.args.nodes.now c.loop-node.node-index 0 c.loop-node-test.true, subst (λ xs. Contains xs a.0) (c.deref.ensures.value ∙ sym at) a.1, a.2)), (λ h. search rules))

pub loop-node-preserved : goal.loop-node-preserved
loop-node-preserved c =
    let n = get_or c.args.nodes.now c.loop-node.node-index 0 in
    let at = successors_at c.args.graph.now n c.index-graph-node.result (c.requires.nodes c.loop-node.node-index 0 c.loop-node-test.true) c.index-graph-node.is in
    below_more (λ k. AnyMarked c.args.marks.now (successors c.args.graph.now (get_or c.args.nodes.now k 0)) → ⊥) c.loop-node.node-index c.loop-node.invariant
    (λ a. let e = c.if-has_marked.ensures.1 (a.0, subst (λ xs. Contains xs a.0) (at ∙ sym c.deref.ensures.value) a.1, a.2) in cc)

pub returns : goal.returns
returns c = (
  (λ b. absurd (cc)),
  (λ h. absurd (c.loop-node.invariant h.2.0 (let a = h.2.1 in let f = c.loop-node-test.false in omega (arith, a, f))
      (h.1, subst (λ x. Contains (successors c.args.graph.now x) h.1) (sym (get_or_from_slice_get c.args.nodes.now h.2.0 h.0 0 (slice_get-get_or c.args.nodes.now h.2.0 h.0 h.2.1 ∙ ap Some h.2.2))) h.3, h.4))),
)
