use Rattle.std.proofs.Common.{◌≡◌, ◌∙◌, Some, None, subst, sym}
use Rattle.std.proofs.lemmas.Bool.{false≢true}
use Rattle.ir_program.specs.Lists.{StandsInRegion}
use Rattle.kit_checks.proofs.Handed.{in_no_block, region_is}
use Rattle.kit_checks.proofs.edges.is_beside.Goals as goal

pub returns-in-Some-parent_region : goal.returns-in-Some-parent_region
returns-in-Some-parent_region g c = (
  λ yes. record {
    own = c.in-Some.own;
    region = c.in-Some-parent_region.region;
    in_own = c.in-Some.ensures.parent;
    in_region = c.in-Some-parent_region.ensures.parent;
    beside = c.is_in_region.ensures.0 yes;
  },
  λ b.
      let r = region_is c.args.program.now c.args.op c.args.block c.parent_block.result c.parent_block.ensures.only c.in-Some.own c.in-Some.is c.parent_region.result c.parent_region.ensures.only b in
      let e : Some c.in-Some-parent_region.region ≡ Some b.region = sym c.in-Some-parent_region.is ∙ r in
      let same : b.region ≡ c.in-Some-parent_region.region = cc in
      c.is_in_region.ensures.1 (subst (StandsInRegion c.args.program.now c.args.block) same b.beside),
)

pub returns-in-None-parent_region : goal.returns-in-None-parent_region
returns-in-None-parent_region g c = (
  λ h. absurd (false≢true h),
  λ b.
      let r = region_is c.args.program.now c.args.op c.args.block c.parent_block.result c.parent_block.ensures.only c.in-Some.own c.in-Some.is c.parent_region.result c.parent_region.ensures.only b in
      let e : None ≡ Some b.region = sym c.in-None-parent_region.is ∙ r in cc,
)

pub returns-in-None : goal.returns-in-None
returns-in-None g c = (
  λ h. absurd (false≢true h),
  λ b. absurd (in_no_block c.args.program.now c.args.op c.args.block c.parent_block.result c.parent_block.ensures.only c.in-None.is b),
)
