use Rattle.std.proofs.Common.{ℕ, ◌<◌, ◌+◌, below_more, ◌∷◌, ◌++◌, [], sym, subst}
use Rattle.std.specs.Prelude.{All, Contains}
use Rattle.std.proofs.lemmas.List.Elements.{All-push, Contains-push, Contains-append_left}
use Rattle.digraph.proofs.components.all_nodes.Goals as goal

pub loop-node-preserved : goal.loop-node-preserved
loop-node-preserved c = (
  subst (λ ys. (k : ℕ) → k < c.loop-node.node + 1 → Contains ys k) (sym c.in_ok-push.ensures.items)
      (below_more (λ k. Contains (c.loop-node.nodes.items ++ c.loop-node.node ∷ []) k) c.loop-node.node (λ k h. Contains-append_left c.loop-node.nodes.items (c.loop-node.node ∷ []) k (c.loop-node.invariant.0 k h)) (Contains-push c.loop-node.nodes.items c.loop-node.node)),
  subst (λ ys. All (λ n. n < c.args.count) ys) (sym c.in_ok-push.ensures.items)
      (All-push (λ n. n < c.args.count) c.loop-node.nodes.items c.loop-node.node c.loop-node.invariant.1 c.loop-node-test.true),
)
