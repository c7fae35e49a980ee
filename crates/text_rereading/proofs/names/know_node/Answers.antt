use Rattle.std.proofs.Common.{sym, subst, arith}
use Rattle.text_rereading.specs.Numbers.{HasSmallNode}
use Rattle.text_rereading.proofs.names.know_node.Goals as goal

pub returns-in-Operation : goal.returns-in-Operation
returns-in-Operation g c =
    subst (HasSmallNode c.args.program.now) (sym c.in-Operation.is) (c.know_results.ensures, c.know_operands.ensures)

pub returns-in-BasicBlock : goal.returns-in-BasicBlock
returns-in-BasicBlock g c =
    let slot = c.slot-slot.ensures in
    let version = c.version-version.ensures in
    let slots = c.slot-slot.type_inv in
    let versions = c.version-version.type_inv in
    subst (HasSmallNode c.args.program.now) (sym c.in-BasicBlock.is)
    (omega (arith, slot, slots), omega (arith, version, versions), c.know_arguments.ensures)
