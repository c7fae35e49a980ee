use Rattle.std.proofs.Common.{◌∙◌}
use Rattle.kit_checks.proofs.Numbering.{numbering_begins, numbering_ends, numbering_goes_on}
use Rattle.kit_checks.proofs.walk_order.WalkOrder.inside.Goals as goal

pub loop-node-init : goal.loop-node-init
loop-node-init g c =
    numbering_begins c.args.program.now c.args.root c.new-order.result c.into_iter-node-iterator.result
    (c.into_iter-node-iterator.ensures.into_iter_gives ∙ c.nodes_inside-node-items.ensures.list) c.new-order.ensures

pub loop-node-preserved : goal.loop-node-preserved
loop-node-preserved g c =
    numbering_goes_on c.args.program.now c.args.root c.nodes_inside-node-items.ensures.inside
    c.nodes_inside-node-items.ensures.once c.loop-node.order c.number_entity.new.self c.loop-node.number
    c.in_ok-number.number c.loop-node.node-iterator c.next.new.self c.in-Some.node c.in-Some.ensures.steps
    c.in_ok-number.ensures c.in_ok-number_entity.ensures c.loop-node.invariant

pub returns : goal.returns
returns g c =
    numbering_ends c.args.program.now c.args.root c.nodes_inside-node-items.ensures.inside
    c.nodes_inside-node-items.ensures.order c.loop-node.order c.loop-node.number c.loop-node.node-iterator
    c.in-None.ensures.steps.0 c.loop-node.invariant
