use Rattle.std.proofs.Common.{subst}
use Rattle.ir_program.specs.Preorder.{AreInside, nodes_inside}
use Rattle.ir_program.specs.declared.handles.IRNode.TheVariants.{Operation as OperationNode}
use Rattle.kit_checks.specs.World.{world_of}
use Rattle.kit_verifier.specs.Repeats.{IsRepeatAt}
use Rattle.kit_verifier.proofs.Sets.{Collected, all_done, collected_all, collected_more, is_live, next_of, one_further}
use Rattle.kit_verifier.proofs.repeats.repeats_inside.Goals as goal

pub add_repeats_at-requires : goal.add_repeats_at-requires
add_repeats_at-requires c =
    let all = nodes_inside c.args.ctx.now.program (OperationNode c.args.root) in
    is_live c.args.ctx.now.program (OperationNode c.args.root) (IsRepeatAt (world_of c.args.ctx.now) c.args.ctx.now.program) all
    (subst (λ p. AreInside p (OperationNode c.args.root) (nodes_inside p (OperationNode c.args.root))) c.program-program.ensures c.nodes_inside-node-items.ensures.inside)
    c.in-Some.node (next_of all c.loop-node.yielded c.loop-node.node-iterator c.next.new.self c.in-Some.node c.in-Some.ensures.steps c.loop-node.invariant.listed)

pub loop-node-preserved : goal.loop-node-preserved
loop-node-preserved c = record {
  listed = one_further (nodes_inside c.args.ctx.now.program (OperationNode c.args.root)) c.loop-node.yielded c.loop-node.node-iterator c.next.new.self c.in-Some.node c.in-Some.ensures.steps c.loop-node.invariant.listed;
  collected = collected_more (IsRepeatAt (world_of c.args.ctx.now) c.args.ctx.now.program) c.loop-node.yielded c.in-Some.node c.loop-node.repeats.keys c.add_repeats_at.new.repeats.keys c.in_ok-add_repeats_at.ensures c.loop-node.invariant.collected;
}

pub returns : goal.returns
returns c =
    let all = nodes_inside c.args.ctx.now.program (OperationNode c.args.root) in
    let done = all_done all c.loop-node.yielded c.loop-node.node-iterator c.in-None.ensures.steps.0 c.loop-node.invariant.listed in
    collected_all c.args.ctx.now.program (OperationNode c.args.root) (IsRepeatAt (world_of c.args.ctx.now) c.args.ctx.now.program) all
    (subst (λ p. AreInside p (OperationNode c.args.root) (nodes_inside p (OperationNode c.args.root))) c.program-program.ensures c.nodes_inside-node-items.ensures.inside)
    c.loop-node.repeats.keys (subst (λ l. Collected (IsRepeatAt (world_of c.args.ctx.now) c.args.ctx.now.program) l c.loop-node.repeats.keys) done c.loop-node.invariant.collected)
