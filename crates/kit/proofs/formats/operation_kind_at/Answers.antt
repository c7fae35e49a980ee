use Rattle.std.proofs.Common.{◌≤◌, ◌∙◌, sym, arith}
use Rattle.kit.proofs.Numbered.{operators_behind}
use Rattle.kit.proofs.formats.operation_kind_at.Goals as goal

pub returns-in_default : goal.returns-in_default
returns-in_default c =
    let others = c.in_default in
    let behind : 9 ≤ c.args.number = omega (arith, others) in
    c.operator_at.ensures ∙ sym (operators_behind c.args.number behind)
