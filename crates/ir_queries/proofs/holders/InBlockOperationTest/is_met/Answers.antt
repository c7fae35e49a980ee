use Rattle.std.proofs.Common.{◌≡◌, Some, rules, tests}
use Rattle.ir_queries.proofs.holders.InBlockOperationTest.is_met.Goals as goal

pub returns : goal.returns
returns g c = (
  λ h.
      let here : c.get_parent_block.result ≡ Some c.args.self.now.block = search (rules, tests) in
      rw here at c.get_parent_block.ensures.parent,
  λ s.
      let here : c.get_parent_block.result ≡ Some c.args.self.now.block = c.get_parent_block.ensures.only c.args.self.now.block s in
      search (rules, tests),
)
