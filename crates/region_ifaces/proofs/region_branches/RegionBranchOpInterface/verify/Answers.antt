use Rattle.std.proofs.Common.{◌≡◌, ◌∙◌, Some, slice_get, refl, sym, subst, arith, below_more}
use Rattle.std.proofs.lemmas.Bool.{false≢true}
use Rattle.std.proofs.lemmas.Option.{same_Some}
use Rattle.region_ifaces.specs.RegionEdges.{IsRegionEdge}
use Rattle.region_ifaces.specs.declared.region_edges.RegionEdge.{RegionEdge}
use Rattle.region_ifaces.proofs.Within.{listed_within}
use Rattle.region_ifaces.proofs.region_branches.RegionBranchOpInterface.verify.Goals as goal

pub loop-i-preserved : goal.loop-i-preserved
loop-i-preserved g c =
    let edges = g.D.RegionBranches.edges c.args.ctx.now c.args.op in
    let P = λ (edge : RegionEdge). IsRegionEdge g.D.DialectTables.op_has c.args.ctx.now.program c.args.op edge in
    λ k edge lt at.
    below_more (λ k. (e : RegionEdge) → slice_get edges k ≡ Some e → P e) c.loop-i.i (λ j below e there. c.loop-i.invariant j e below there)
    (λ e there. subst P (same_Some _ e (sym c.region_edge.ensures ∙ there)) (c.in-Ok.ensures.0 refl)) k lt edge at

pub returns-in-Err : goal.returns-in-Err
returns-in-Err g c = (λ h. absurd (false≢true h), λ all. c.in-Err.ensures.1 (all c.loop-i.i c.region_edge.result c.region_edge.ensures))

pub returns : goal.returns
returns g c =
    let edges = g.D.RegionBranches.edges c.args.ctx.now c.args.op in (
      λ h k edge at. c.loop-i.invariant k edge (omega (arith, listed_within edges k edge at, c.loop-i-test.false, c.num_region_edges-i-end.ensures)) at,
      λ all. refl,
    )
