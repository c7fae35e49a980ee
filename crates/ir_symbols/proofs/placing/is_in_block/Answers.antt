use Rattle.std.proofs.Common.{◌≡◌, Some, rules, tests}
use Rattle.ir_symbols.proofs.placing.is_in_block.Goals as goal

pub returns-then-has_operation : goal.returns-then-has_operation
returns-then-has_operation g c = (
  λ h.
      let here : c.parent_block.result ≡ Some c.args.body = search (rules, tests) in
      rw here at c.parent_block.ensures.parent,
  λ s.
      let here : c.parent_block.result ≡ Some c.args.body = c.parent_block.ensures.only c.args.body s in
      search (rules, tests),
)
