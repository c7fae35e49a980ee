use Rattle.std.proofs.Common.{◌∙◌, ap, subst, sym, true≢false}
use Rattle.ir_program.specs.Around.{IsWayUp, nodes_around}
use Rattle.ir_program.specs.declared.handles.IRNode.TheVariants.{Operation as OperationNode}
use Rattle.kit_checks.specs.World.{world_of}
use Rattle.kit_verifier.specs.Scopes.{IsModuleAt}
use Rattle.kit_verifier.proofs.Climbed.{climb_begins, climb_ends, climb_finds, climb_goes_on, next_is_live}
use Rattle.kit_verifier.proofs.scopes.nearest_module.Goals as goal

pub loop-node-init : goal.loop-node-init
loop-node-init c =
    climb_begins (world_of c.args.ctx.now) c.args.ctx.now.program c.args.root c.args.op c.into_iter-node-iterator.result
    (subst (IsWayUp c.args.ctx.now.program (OperationNode c.args.op)) (sym (c.into_iter-node-iterator.ensures.into_iter_gives ∙ c.nodes_around-node-items.ensures.list ∙ ap (λ p. nodes_around p (OperationNode c.args.op)) c.program-program.ensures))
    (subst (λ p. IsWayUp p (OperationNode c.args.op) (nodes_around p (OperationNode c.args.op))) c.program-program.ensures c.nodes_around-node-items.ensures.way))
    c.requires.inside

pub module_at-requires : goal.module_at-requires
module_at-requires c =
    next_is_live (world_of c.args.ctx.now) c.args.ctx.now.program c.args.root c.args.op c.loop-node.node-iterator c.next.new.self c.in-Some.node c.requires.root c.in-Some.ensures.steps c.loop-node.invariant

pub returns-in-Some-module_at : goal.returns-in-Some-module_at
returns-in-Some-module_at c =
    climb_finds (world_of c.args.ctx.now) c.args.ctx.now.program c.args.root c.args.op c.loop-node.node-iterator c.next.new.self c.in-Some.node c.in-Some-module_at.module c.in-Some.ensures.steps
    (subst (IsModuleAt (world_of c.args.ctx.now) c.args.ctx.now.program c.in-Some.node) c.in-Some-module_at.is c.module_at.ensures) c.loop-node.invariant

pub returns-then-is_operation : goal.returns-then-is_operation
returns-then-is_operation c =
    climb_ends (world_of c.args.ctx.now) c.args.ctx.now.program c.args.root c.args.op c.loop-node.node-iterator c.next.new.self c.in-Some.node c.in-Some.ensures.steps
    (subst (IsModuleAt (world_of c.args.ctx.now) c.args.ctx.now.program c.in-Some.node) c.in-None-module_at.is c.module_at.ensures) (c.is_operation.ensures.0 c.if-is_operation.true) c.loop-node.invariant

pub loop-node-preserved : goal.loop-node-preserved
loop-node-preserved c =
    climb_goes_on (world_of c.args.ctx.now) c.args.ctx.now.program c.args.root c.args.op c.loop-node.node-iterator c.next.new.self c.in-Some.node c.in-Some.ensures.steps
    (subst (IsModuleAt (world_of c.args.ctx.now) c.args.ctx.now.program c.in-Some.node) c.in-None-module_at.is c.module_at.ensures)
    (λ same. true≢false (sym (c.is_operation.ensures.1 same) ∙ c.if-is_operation.false)) c.loop-node.invariant
