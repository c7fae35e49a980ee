use Rattle.std.proofs.Common.{◌≡◌, ◌∙◌, Some, None, subst, sym}
use Rattle.std.proofs.lemmas.Bool.{false≢true}
use Rattle.ir_program.specs.Lists.{StandsInRegion}
use Rattle.kit_checks.proofs.Handles.{same_yes, yes_same}
use Rattle.kit_checks.proofs.edges.is_in_region.Goals as goal

pub returns-in-Some : goal.returns-in-Some
returns-in-Some g c = (
  λ yes. subst (StandsInRegion c.args.program.now c.args.block) (same_yes c.in-Some.own c.args.region c.eq.result c.eq.ensures yes) c.in-Some.ensures.parent,
  λ h. let e : Some c.in-Some.own ≡ Some c.args.region = sym c.in-Some.is ∙ c.parent_region.ensures.only c.args.region h in yes_same c.in-Some.own c.args.region c.eq.result c.eq.ensures (cc),
)

pub returns-in-None : goal.returns-in-None
returns-in-None g c = (
  λ h. absurd (false≢true h),
  λ h. let e : None ≡ Some c.args.region = sym c.in-None.is ∙ c.parent_region.ensures.only c.args.region h in cc,
)
