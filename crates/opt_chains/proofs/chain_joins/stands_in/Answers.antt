use Rattle.std.proofs.Common.{◌≡◌, true≢false, Some, rules, tests, sym, subst}
use Rattle.ir_program.specs.Lists.{StandsInRegion}
use Rattle.opt_chains.proofs.chain_joins.stands_in.Goals as goal

pub returns-in-Some : goal.returns-in-Some
returns-in-Some g c = (
  λ h. let same : c.in-Some.parent ≡ c.args.region = search (rules, tests) in subst (StandsInRegion c.args.program.now c.args.block) same c.in-Some.ensures.parent,
  λ h.
      let one : Some c.in-Some.parent ≡ Some c.args.region = c.in-Some.ensures.only c.args.region h in
      let same : c.in-Some.parent ≡ c.args.region = cc in
      search (rules, tests),
)

pub returns-in-None : goal.returns-in-None
returns-in-None g c = (λ h. absurd (true≢false (sym h)), λ h. absurd (c.in-None.ensures.parent c.args.region h))
