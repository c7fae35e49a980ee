use Rattle.std.proofs.Common.{sym, subst}
use Rattle.opt_inside.specs.Numbered.{listed_in}
use Rattle.opt_inside.proofs.Counting.{IsNumberedUpTo, numbering_begins, numbering_goes_on, numbering_ends, next_is_live}
use Rattle.opt_inside.proofs.numbering.entities_inside.Goals as goal

pub loop-node-init : goal.loop-node-init
loop-node-init g c =
    subst (IsNumberedUpTo c.args.program.now c.args.op (record { operations = c.new.result.items; blocks = c.new-2.result.items; values = c.new-3.result.items })) (sym c.into_iter-node-iterator.ensures.into_iter_gives)
    (numbering_begins c.args.program.now c.args.op (record { operations = c.new.result.items; blocks = c.new-2.result.items; values = c.new-3.result.items }) c.nodes_inside-nodes.result c.next-root.new.self c.next-root.result
    c.nodes_inside-nodes.ensures.order c.nodes_inside-nodes.ensures.list c.next-root.ensures.steps (λ i. record { operations = c.new.ensures.items i; blocks = c.new-2.ensures.items i; values = c.new-3.ensures.items i }))

pub add-requires : goal.add-requires
add-requires g c =
    next_is_live c.args.program.now c.args.op c.nodes_inside-nodes.ensures.inside (listed_in c.loop-node.found) c.loop-node.node-iterator c.next.new.self c.in-Some.node c.in-Some.ensures.steps c.loop-node.invariant

pub loop-node-preserved : goal.loop-node-preserved
loop-node-preserved g c =
    numbering_goes_on c.args.program.now c.args.op (listed_in c.loop-node.found) (listed_in c.add.new.self) c.loop-node.node-iterator c.next.new.self c.in-Some.node c.in-Some.ensures.steps c.in_ok-add.ensures c.loop-node.invariant

pub returns : goal.returns
returns g c =
    numbering_ends c.args.program.now c.args.op c.nodes_inside-nodes.ensures.inside (record { definer = c.know_values.ensures.definer; typed = c.know_values.ensures.typed; stands = c.know_values.ensures.stands })
    c.nodes_inside-nodes.ensures.once c.nodes_inside-nodes.ensures.order (listed_in c.loop-node.found) c.loop-node.node-iterator c.in-None.ensures.steps.0 c.loop-node.invariant
