use Rattle.std.proofs.Common.{[], ◌∷◌}
use Rattle.digraph.specs.Searches.{orders, work}
use Rattle.digraph.proofs.Running.{Walks}
use Rattle.digraph.proofs.search.Search.visit.Given as goal

abbrev pub invariant-steps : goal.invariant-steps
invariant-steps l = Walks l.graph (orders l.fn.self) (l.root ∷ []) [] l.self

abbrev pub decreases-steps : goal.decreases-steps
decreases-steps l = work l.graph l.self
