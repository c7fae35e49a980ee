use Rattle.std.proofs.Common.{[], take, sym, subst}
use Rattle.std.proofs.lemmas.List.{take_more, take_all}
use Rattle.digraph.specs.Graph.{successors}
use Rattle.digraph.specs.Orders.{rows_of}
use Rattle.digraph.specs.Searches.{orders}
use Rattle.digraph.specs.Visits.{empty, VisitsApart, NothingApart}
use Rattle.digraph.proofs.Running.{begins}
use Rattle.digraph.proofs.orders.visit_roots.Goals as goal

pub loop-root-init : goal.loop-root-init
loop-root-init c = let b = begins c.args.graph.now c.args.search.now c.requires.search in
    (b.0, b.1, subst (λ xs. VisitsApart (successors c.args.graph.now) empty [] (rows_of xs) (orders c.args.search.now)) (sym c.new-parts.ensures.items) (subst (λ o. VisitsApart (successors c.args.graph.now) empty [] [] o) (sym b.2) NothingApart))

pub loop-root-preserved : goal.loop-root-preserved
loop-root-preserved c = (
  c.in_ok-visit_root.ensures.search,
  c.in_ok-visit_root.ensures.idle,
  subst (λ xs. VisitsApart (successors c.args.graph.now) empty xs (rows_of c.visit_root.new.parts.items) (orders c.visit_root.new.search))
      (sym (take_more c.args.roots.now c.loop-root.root-index 0 c.loop-root-test.true))
      (c.in_ok-visit_root.ensures.visited empty (take c.loop-root.root-index c.args.roots.now) c.loop-root.invariant.2),
)

pub visit_root-requires-clause-root : goal.visit_root-requires-clause-root
visit_root-requires-clause-root c = c.requires.roots c.loop-root.root-index 0 c.loop-root-test.true

pub returns : goal.returns
returns c = (
  orders c.loop-root.search,
  subst (λ xs. VisitsApart (successors c.args.graph.now) empty xs (rows_of c.loop-root.parts.items) (orders c.loop-root.search))
      (take_all c.loop-root.root-index c.args.roots.now c.loop-root-test.false)
      c.loop-root.invariant.2,
)
