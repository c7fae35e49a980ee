use Rattle.std.proofs.Common.{◌≡◌, Some, sym, ◌∙◌, subst}
use Rattle.std.specs.Prelude.{slice_get}
use Rattle.std.proofs.lemmas.Option.{get_or_from_slice_get}
use Rattle.digraph.specs.Visits.{Traversal}
use Rattle.ir_graph.proofs.Numbers.{number_there}
use Rattle.ir_graph.proofs.traversal.DFSTraversal.post_order_number.Goals as goal

pub returns : goal.returns
returns g c =
    let i = c.pre_order_number.result in
    let r = number_there c.self.inside.post.items c.self.inside.post_numbers.items c.self.inside.pre.keys c.self.invariant.0 i c.args.node.now
    (subst (λ (t : Traversal g.row.N.Denot). slice_get t.seen i ≡ Some c.args.node.now) (sym c.self.view_is) c.pre_order_number.ensures) in
    subst (λ (t : Traversal g.row.N.Denot). slice_get t.left c.index.result.now ≡ Some c.args.node.now) c.self.view_is
    (subst (λ x. slice_get c.self.inside.post.items x ≡ Some c.args.node.now) (sym (c.index.ensures ∙ get_or_from_slice_get c.self.inside.post_numbers.items i r.0 c.index.result.now r.1)) r.2)
