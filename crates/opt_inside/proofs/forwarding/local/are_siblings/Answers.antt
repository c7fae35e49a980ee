use Rattle.std.proofs.Common.{◌≡◌, true≢false, Some, rules, tests, sym, subst}
use Rattle.ir_program.specs.Lists.{StandsInRegion}
use Rattle.opt_inside.proofs.forwarding.local.are_siblings.Goals as goal

pub returns-in-Some-Some : goal.returns-in-Some-Some
returns-in-Some-Some g c = (
  λ h. let same : c.in-Some-Some.one ≡ c.in-Some-Some.other = search (rules, tests) in
      record { region = c.in-Some-Some.one; first = c.in-Some-Some.ensures.parent; second = subst (StandsInRegion c.args.program.now c.args.second) (sym same) c.in-Some-Some.ensures'.parent },
  λ h. let one : Some c.in-Some-Some.one ≡ Some h.region = c.in-Some-Some.ensures.only h.region h.first in
      let other : Some c.in-Some-Some.other ≡ Some h.region = c.in-Some-Some.ensures'.only h.region h.second in
      let same : c.in-Some-Some.one ≡ c.in-Some-Some.other = cc in
      search (rules, tests),
)

pub returns-in_default : goal.returns-in_default
returns-in_default g c = (
  λ h. absurd (true≢false (sym h)),
  λ h. let found = c.parent_region-2.ensures.only h.region h.second in cc (found, c.in_default.is-1),
)

pub returns-in_default-2 : goal.returns-in_default-2
returns-in_default-2 g c = (
  λ h. absurd (true≢false (sym h)),
  λ h. let found = c.parent_region.ensures.only h.region h.first in cc (found, c.in_default.is-0),
)
