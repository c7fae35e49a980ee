use Rattle.std.proofs.Common.{◌≡◌, Some, rules, tests}
use Rattle.ir_queries.proofs.holders.InRegionOperationTest.is_met.Goals as goal

pub returns : goal.returns
returns g c = (
  λ h.
      let here : c.get_parent_region.result ≡ Some c.args.self.now.region = search (rules, tests) in
      rw here at c.get_parent_region.ensures.found,
  λ s.
      let here : c.get_parent_region.result ≡ Some c.args.self.now.region = c.get_parent_region.ensures.only c.args.self.now.region s in
      search (rules, tests),
)
