use Rattle.std.proofs.Common.{◌∙◌, subst, sym, true≢false}
use Rattle.ir_program.specs.Preorder.{AreInside, nodes_inside}
use Rattle.ir_program.specs.declared.handles.IRNode.TheVariants.{Operation as OperationNode}
use Rattle.ir_trees.proofs.Members.{at_has, has_at}
use Rattle.opt_trees.specs.Occurrences.{Has}
use Rattle.kit_checks.specs.World.{world_of}
use Rattle.kit_verifier.specs.Callees.{IsCallableAt, callables_of}
use Rattle.kit_verifier.specs.Names.{IsCallAt}
use Rattle.kit_verifier.proofs.NameRules.{holds_more}
use Rattle.kit_verifier.proofs.Sets.{Collected, all_done, collected_all, collected_more, is_live, next_of, one_further}
use Rattle.kit_verifier.proofs.names.gather.Goals as goal

pub gather_at-requires : goal.gather_at-requires
gather_at-requires c =
    let all = nodes_inside c.args.ctx.now.program (OperationNode c.args.root) in
    is_live c.args.ctx.now.program (OperationNode c.args.root) (IsCallAt (world_of c.args.ctx.now) c.args.ctx.now.program) all
    (subst (λ p. AreInside p (OperationNode c.args.root) (nodes_inside p (OperationNode c.args.root))) c.program-program.ensures c.nodes_inside-node-items.ensures.inside)
    c.in-Some.node (next_of all c.loop-node.yielded c.loop-node.node-iterator c.next.new.self c.in-Some.node c.in-Some.ensures.steps c.loop-node.invariant.listed)

pub loop-node-preserved : goal.loop-node-preserved
loop-node-preserved c = record {
  listed = one_further (nodes_inside c.args.ctx.now.program (OperationNode c.args.root)) c.loop-node.yielded c.loop-node.node-iterator c.next.new.self c.in-Some.node c.in-Some.ensures.steps c.loop-node.invariant.listed;
  holds = holds_more (world_of c.args.ctx.now) c.args.ctx.now.program c.loop-node.yielded c.in-Some.node c.in_ok-holds.holds c.if-not-holds.false c.in_ok-holds.ensures.holds c.loop-node.invariant.holds;
  callees = collected_more (IsCallableAt (world_of c.args.ctx.now) c.args.ctx.now.program) c.loop-node.yielded c.in-Some.node (callables_of c.loop-node.callees.keys) (callables_of c.gather_at.new.callees.keys) c.in_ok-holds.ensures.callees c.loop-node.invariant.callees;
  calls = collected_more (IsCallAt (world_of c.args.ctx.now) c.args.ctx.now.program) c.loop-node.yielded c.in-Some.node c.loop-node.calls.items c.gather_at.new.calls.items c.in_ok-holds.ensures.calls c.loop-node.invariant.calls;
}

pub returns-then-not-holds : goal.returns-then-not-holds
returns-then-not-holds c =
    let all = nodes_inside c.args.ctx.now.program (OperationNode c.args.root) in
    let are = subst (λ p. AreInside p (OperationNode c.args.root) (nodes_inside p (OperationNode c.args.root))) c.program-program.ensures c.nodes_inside-node-items.ensures.inside in
    let k = has_at all c.in-Some.node (next_of all c.loop-node.yielded c.loop-node.node-iterator c.next.new.self c.in-Some.node c.in-Some.ensures.steps c.loop-node.invariant.listed) in (
      c.in-Some.node,
      are.inside k.0 c.in-Some.node k.1,
      λ h. true≢false (sym (c.in_ok-holds.ensures.holds.1 h) ∙ c.if-not-holds.true),
    )

pub returns : goal.returns
returns c =
    let all = nodes_inside c.args.ctx.now.program (OperationNode c.args.root) in
    let are = subst (λ p. AreInside p (OperationNode c.args.root) (nodes_inside p (OperationNode c.args.root))) c.program-program.ensures c.nodes_inside-node-items.ensures.inside in
    let done = all_done all c.loop-node.yielded c.loop-node.node-iterator c.in-None.ensures.steps.0 c.loop-node.invariant.listed in
    record {
      holds = λ e within. let k = are.all e within in c.loop-node.invariant.holds e (subst (Has e) (sym done) (at_has all k.0 e k.1));
      callees = collected_all c.args.ctx.now.program (OperationNode c.args.root) (IsCallableAt (world_of c.args.ctx.now) c.args.ctx.now.program) all are
          (callables_of c.loop-node.callees.keys) (subst (λ l. Collected (IsCallableAt (world_of c.args.ctx.now) c.args.ctx.now.program) l (callables_of c.loop-node.callees.keys)) done c.loop-node.invariant.callees);
      calls = collected_all c.args.ctx.now.program (OperationNode c.args.root) (IsCallAt (world_of c.args.ctx.now) c.args.ctx.now.program) all are
          c.loop-node.calls.items (subst (λ l. Collected (IsCallAt (world_of c.args.ctx.now) c.args.ctx.now.program) l c.loop-node.calls.items) done c.loop-node.invariant.calls);
    }
