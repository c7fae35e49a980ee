use Rattle.std.proofs.Common.{ap, ◌∙◌}
use Rattle.std.specs.List.{list_any}
use Rattle.ir_names.specs.contracts.interfaces.OpInterfacePartialEq.TheImpl as of_interfaces
use Rattle.kit_ops.specs.Table.{KindRow}
use Rattle.kit_ops.proofs.kinds.KitOp.implements.Goals as goal

pub returns : goal.returns
returns c =
    c.contains.ensures.value
    ∙ ap (λ (row : KindRow). list_any (λ held. of_interfaces.eq-value.it held c.args.interface) row.interfaces)
    c.row.ensures
