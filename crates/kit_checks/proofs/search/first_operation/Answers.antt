use Rattle.ir_program.specs.Lists.{IsLiveNode}
use Rattle.std.proofs.Common.{◌∙◌, subst, ap, sym}
use Rattle.ir_program.specs.Preorder.{nodes_inside, AreInside}
use Rattle.ir_program.specs.declared.handles.IRNode.TheVariants.{Operation as OperationNode}
use Rattle.kit_checks.specs.World.{world_of}
use Rattle.kit_checks.specs.Searching.{IsBrokenAt}
use Rattle.kit_checks.proofs.Searched.{search_begins, search_goes_on, search_finds, search_ends, next_inside, next_is_there}
use Rattle.kit_checks.proofs.search.first_operation.Goals as goal

pub loop-node-init : goal.loop-node-init
loop-node-init c =
    search_begins (world_of c.args.ctx.now) c.args.ctx.now.program c.args.root c.args.rule c.into_iter-node-iterator.result
    (c.into_iter-node-iterator.ensures.into_iter_gives ∙ c.nodes_inside-node-items.ensures.list ∙ ap (λ p. nodes_inside p (OperationNode c.args.root)) c.program-program.ensures)

pub broken_at-requires-clause-inside : goal.broken_at-requires-clause-inside
broken_at-requires-clause-inside c =
    next_inside (world_of c.args.ctx.now) c.args.ctx.now.program c.args.root c.args.rule
    (subst (λ p. AreInside p (OperationNode c.args.root) (nodes_inside p (OperationNode c.args.root))) c.program-program.ensures c.nodes_inside-node-items.ensures.inside)
    c.loop-node.node-iterator c.next.new.self c.in-Some.node c.in-Some.ensures.steps c.loop-node.invariant

pub broken_at-requires-clause-live : goal.broken_at-requires-clause-live
broken_at-requires-clause-live c =
    next_is_there (world_of c.args.ctx.now) c.args.ctx.now.program c.args.root c.args.rule
    (subst (λ p. AreInside p (OperationNode c.args.root) (nodes_inside p (OperationNode c.args.root))) c.program-program.ensures c.nodes_inside-node-items.ensures.inside)
    c.loop-node.node-iterator c.next.new.self c.in-Some.node c.in-Some.ensures.steps c.loop-node.invariant

pub loop-node-preserved : goal.loop-node-preserved
loop-node-preserved c =
    search_goes_on (world_of c.args.ctx.now) c.args.ctx.now.program c.args.root c.args.rule c.loop-node.node-iterator c.next.new.self c.in-Some.node c.in-Some.ensures.steps
    (subst (IsBrokenAt (world_of c.args.ctx.now) c.args.ctx.now.program c.args.root c.args.rule c.in-Some.node) c.in-None-broken_at.is c.broken_at.ensures) c.loop-node.invariant

pub returns-in-Some-broken_at : goal.returns-in-Some-broken_at
returns-in-Some-broken_at c =
    let e = subst (IsBrokenAt (world_of c.args.ctx.now) c.args.ctx.now.program c.args.root c.args.rule c.in-Some.node) c.in-Some-broken_at.is c.broken_at.ensures in
    search_finds (world_of c.args.ctx.now) c.args.ctx.now.program c.args.root c.args.rule c.loop-node.node-iterator c.next.new.self c.in-Some.node c.in-Some-broken_at.op c.in-Some.ensures.steps e.0 e.1 c.loop-node.invariant

pub returns : goal.returns
returns c = search_ends (world_of c.args.ctx.now) c.args.ctx.now.program c.args.root c.args.rule c.loop-node.node-iterator c.in-None.ensures.steps.0 c.loop-node.invariant

pub nodes_inside-node-items-requires : goal.nodes_inside-node-items-requires
nodes_inside-node-items-requires c = subst (λ p. IsLiveNode p (OperationNode c.args.root)) (sym c.program-program.ensures) c.requires.root

pub broken_at-requires-clause-order : goal.broken_at-requires-clause-order
broken_at-requires-clause-order c = c.requires.order

pub broken_at-requires-clause-tested : goal.broken_at-requires-clause-tested
broken_at-requires-clause-tested c = c.requires.tested
