use Rattle.std.proofs.Common.{rules, Vec, ℕ, Global, [], get_or, sym, subst}
use Rattle.std.proofs.lemmas.List.{take_all}
use Rattle.digraph.specs.Graph.{successors}
use Rattle.digraph.specs.Searches.{orders}
use Rattle.digraph.specs.Visits.{empty, Visits, Nothing}
use Rattle.digraph.proofs.Running.{begins}
use Rattle.digraph.proofs.Visiting.{visits_next}
use Rattle.digraph.proofs.orders.depth_first.Goals as goal

pub loop-root-init : goal.loop-root-init
loop-root-init c = let b = begins c.args.graph.now c.in_ok-search.search c.in_ok-search.ensures in (b.0, b.1, subst (λ o. Visits (successors c.args.graph.now) empty [] o) (sym b.2) Nothing)

pub loop-root-preserved : goal.loop-root-preserved
loop-root-preserved c = (
  c.in_ok-visit.ensures.search,
  c.in_ok-visit.ensures.idle,
  visits_next (successors c.args.graph.now) empty _ _ c.args.roots.now c.loop-root.root-index (get_or c.args.roots.now c.loop-root.root-index 0) c.loop-root-test.true (search rules) c.loop-root.invariant.2 c.in_ok-visit.ensures.visited,
)

pub visit-requires-clause-root : goal.visit-requires-clause-root
visit-requires-clause-root c = c.requires.roots c.loop-root.root-index 0 c.loop-root-test.true

pub returns : goal.returns
returns c =
    let next = successors c.args.graph.now in
    let roots = c.args.roots.now in
    let search = c.loop-root.search in
    subst (λ (pre : Vec ℕ Global). Visits next empty roots (record { seen = pre.items; left = c.into_orders.result.post.items })) (sym c.into_orders.ensures.pre)
    (subst (λ (post : Vec ℕ Global). Visits next empty roots (record { seen = search.pre.items; left = post.items })) (sym c.into_orders.ensures.post)
    (subst (λ ns. Visits next empty ns (orders search)) (take_all c.loop-root.root-index roots c.loop-root-test.false) c.loop-root.invariant.2))
