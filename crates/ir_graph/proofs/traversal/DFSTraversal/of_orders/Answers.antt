use Rattle.std.proofs.Common.{sym, ◌∙◌, subst}
use Rattle.std.specs.Prelude.{All, Contains}
use Rattle.ir_graph.specs.Graphs.{AreNodeNumbers}
use Rattle.ir_graph.proofs.traversal.DFSTraversal.of_orders.Goals as goal

pub number_row-requires-clause-known : goal.number_row-requires-clause-known
number_row-requires-clause-known g c = subst (λ ks. All (λ n. Contains ks n) c.args.pre.now) (sym (c.in_ok-by_post.ensures ∙ c.deref.ensures.value)) c.requires.both

pub invariant_of-result : goal.invariant_of-result
invariant_of-result g c = (
  subst (λ ns. AreNodeNumbers c.args.post.items c.in_ok-post_numbers.post_numbers.items ns) (sym c.in_ok-set_of.ensures)
      (subst (λ ks. AreNodeNumbers ks c.in_ok-post_numbers.post_numbers.items c.args.pre.now) (c.in_ok-by_post.ensures ∙ c.deref.ensures.value) c.in_ok-post_numbers.ensures),
  c.requires.same,
)
