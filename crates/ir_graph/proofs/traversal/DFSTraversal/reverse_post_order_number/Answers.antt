use Rattle.std.proofs.Common.{◌≡◌, ◌-◌, Some, length, sym, ap, ◌∙◌, subst, rules}
use Rattle.std.specs.Prelude.{reverse, slice_get}
use Rattle.digraph.specs.Visits.{Traversal}
use Rattle.ir_graph.proofs.Places.{reverse_place}
use Rattle.ir_graph.proofs.traversal.DFSTraversal.reverse_post_order_number.Goals as goal

pub returns : goal.returns
returns g c =
    let e : c.len.result ≡ length c.args.self.now.left = let l : c.len.result ≡ length c.self.inside.post.items = search rules in l ∙ ap (λ (t : Traversal g.row.N.Denot). length t.left) c.self.view_is in
    subst (λ n. slice_get (reverse c.args.self.now.left) (n - 1 - c.post_order_number-number.result) ≡ Some c.args.node.now) (sym e)
    (reverse_place c.args.self.now.left c.post_order_number-number.result c.args.node.now c.post_order_number-number.ensures)
