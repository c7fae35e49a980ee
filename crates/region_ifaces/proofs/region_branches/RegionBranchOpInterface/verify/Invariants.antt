use Rattle.std.proofs.Common.{◌≡◌, ℕ, ◌<◌, Some, slice_get}
use Rattle.region_ifaces.specs.RegionEdges.{IsRegionEdge}
use Rattle.region_ifaces.specs.declared.region_edges.RegionEdge.{RegionEdge}
use Rattle.region_ifaces.proofs.region_branches.RegionBranchOpInterface.verify.Given as goal

-- those that were seen are edges
abbrev pub invariant-loop-i : goal.invariant-loop-i
invariant-loop-i g l = (k : ℕ) (edge : RegionEdge) → k < l.i → slice_get (g.D.RegionBranches.edges l.ctx l.op) k ≡ Some edge → IsRegionEdge g.D.DialectTables.op_has l.ctx.program l.op edge
