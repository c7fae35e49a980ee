use Rattle.std.proofs.Common.{◌∙◌}
use Rattle.ir_program.specs.Preorder.{nodes_inside}
use Rattle.ir_program.specs.declared.handles.IRNode.TheVariants.{Operation as OperationNode}
use Rattle.text_rereading.specs.Numbers.{HasSmallNode}
use Rattle.text_rereading.proofs.SmallNumbers.{before_all, before_next, next_at, at_end}
use Rattle.text_rereading.proofs.names.know_nodes.Goals as goal

pub loop-node-init : goal.loop-node-init
loop-node-init g c =
    before_all (HasSmallNode c.args.program.now)
    (nodes_inside c.args.program.now (OperationNode c.args.root)) c.into_iter-node-iterator.result
    (c.into_iter-node-iterator.ensures.into_iter_gives ∙ c.nodes_inside-node-items.ensures.list)

pub know_node-requires : goal.know_node-requires
know_node-requires g c =
    let at =
    next_at (HasSmallNode c.args.program.now)
    (nodes_inside c.args.program.now (OperationNode c.args.root)) c.loop-node.node-iterator c.next.new.self
    c.in-Some.node c.in-Some.ensures.steps c.loop-node.invariant in
    c.nodes_inside-node-items.ensures.inside.live at.0 c.in-Some.node at.1

pub loop-node-preserved : goal.loop-node-preserved
loop-node-preserved g c =
    before_next (HasSmallNode c.args.program.now)
    (nodes_inside c.args.program.now (OperationNode c.args.root)) c.loop-node.node-iterator c.next.new.self
    c.in-Some.node c.in-Some.ensures.steps
    c.know_node.ensures c.loop-node.invariant

pub returns : goal.returns
returns g c = λ e inside.
    let at = c.nodes_inside-node-items.ensures.inside.all e inside in
    at_end (HasSmallNode c.args.program.now)
    (nodes_inside c.args.program.now (OperationNode c.args.root)) c.loop-node.node-iterator c.in-None.ensures.steps.0
    c.loop-node.invariant at.0 e at.1
