use Rattle.std.proofs.Common.{◌≡◌, [], take}
use Rattle.digraph.specs.Graph.{successors}
use Rattle.digraph.specs.Orders.{rows_of}
use Rattle.digraph.specs.Visits.{empty, VisitsApart}
use Rattle.digraph.specs.Searches.{orders, IsSearch}
use Rattle.digraph.proofs.orders.visit_roots.Given as goal

abbrev pub invariant-loop-root : goal.invariant-loop-root
invariant-loop-root l = IsSearch l.graph l.search × (l.search.path.items ≡ []) × VisitsApart (successors l.graph) empty (take l.root-index l.roots) (rows_of l.parts.items) (orders l.search)
