use Rattle.std.proofs.Common.{◌≡◌, [], take}
use Rattle.digraph.specs.Graph.{successors}
use Rattle.digraph.specs.Visits.{empty, Visits}
use Rattle.digraph.specs.Searches.{orders, IsSearch}
use Rattle.digraph.proofs.orders.depth_first.Given as goal

abbrev pub invariant-loop-root : goal.invariant-loop-root
invariant-loop-root l = IsSearch l.graph l.search × (l.search.path.items ≡ []) × Visits (successors l.graph) empty (take l.root-index l.roots) (orders l.search)
