use Rattle.std.proofs.Common.{◌∙◌, ℕ, false, get_or, subst, arith, below_more}
use Rattle.std.proofs.lemmas.List.{get_or_default}
use Rattle.digraph.specs.Marks.{IsMarked}
use Rattle.digraph.proofs.Marking.{marked_read}
use Rattle.digraph.proofs.components.has_unmarked.Goals as goal

pub loop-node-init : goal.loop-node-init
loop-node-init c = λ k h. absurd (omega (arith, h))

pub loop-node-preserved : goal.loop-node-preserved
loop-node-preserved c =
    let marked = c.args.marked.now in
    let node : ℕ = get_or c.args.nodes.now c.loop-node.node-index 0 in
    let within = c.requires c.loop-node.node-index 0 c.loop-node-test.true in
    below_more (λ k. IsMarked marked (get_or c.args.nodes.now k 0)) c.loop-node.node-index c.loop-node.invariant
    (marked_read marked node (get_or marked node false) within (get_or_default marked node false (get_or marked node false) within) c.if-not-marked-node.false)

pub returns : goal.returns
returns c = (
  λ yes. absurd (cc yes),
  λ any.
      let k = any.1.0 in
      let here = c.loop-node.invariant k (omega (arith, any.1.1, c.loop-node-test.false)) in
      absurd (any.2 (subst (λ n. IsMarked c.args.marked.now n) (get_or_default c.args.nodes.now k 0 any.0 any.1.1 ∙ any.1.2) here)),
)
