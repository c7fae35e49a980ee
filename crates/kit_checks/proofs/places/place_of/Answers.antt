use Rattle.std.proofs.Common.{◌∙◌, List, ℕ, sym, subst, true≢false}
use Rattle.ir_program.specs.declared.handles.IRNode.TheVariants.{Operation as OperationNode}
use Rattle.kit_checks.specs.Located.{LeadsDown}
use Rattle.kit_checks.proofs.Upward.{IsOnWay, way_begins, never_ends, next_is_live, next_is_held, way_goes_on, way_down, is_place}
use Rattle.ir_program.specs.Around.{IsWayUp}
use Rattle.kit_checks.proofs.places.place_of.Goals as goal

pub loop-node-init : goal.loop-node-init
loop-node-init g c =
    subst (IsOnWay c.args.program.now c.args.root c.args.op c.into_iter-node-iterator.result) (sym c.new-children.ensures.items)
    (way_begins c.args.program.now c.args.root c.args.op c.into_iter-node-iterator.result
    (subst (IsWayUp c.args.program.now (OperationNode c.args.op)) (sym (c.into_iter-node-iterator.ensures.into_iter_gives ∙ c.nodes_around-node-items.ensures.list)) c.nodes_around-node-items.ensures.way) c.requires.inside)

pub returns-then-is_operation : goal.returns-then-is_operation
returns-then-is_operation g c =
    is_place c.args.program.now c.args.root c.args.op c.reverse.new.self.items
    (subst (λ (p : List ℕ). LeadsDown c.args.program.now (OperationNode c.args.root) p (OperationNode c.args.op)) (sym c.reverse.ensures.items)
    (way_down c.args.program.now c.args.root c.args.op c.loop-node.node-iterator c.next.new.self c.in-Some.node c.loop-node.children.items c.in-Some.ensures.steps (c.is_operation.ensures.0 c.if-is_operation.true) c.loop-node.invariant))

pub index_of-requires-clause-live : goal.index_of-requires-clause-live
index_of-requires-clause-live g c =
    next_is_live c.args.program.now c.args.root c.args.op c.loop-node.node-iterator c.next.new.self c.in-Some.node c.loop-node.children.items c.requires.root c.in-Some.ensures.steps c.loop-node.invariant

pub index_of-requires-clause-held : goal.index_of-requires-clause-held
index_of-requires-clause-held g c =
    next_is_held c.args.program.now c.args.root c.args.op c.loop-node.node-iterator c.next.new.self c.in-Some.node c.loop-node.children.items
    (λ e. true≢false (sym (c.is_operation.ensures.1 e) ∙ c.if-is_operation.false)) c.in-Some.ensures.steps c.loop-node.invariant

pub loop-node-preserved : goal.loop-node-preserved
loop-node-preserved g c =
    subst (IsOnWay c.args.program.now c.args.root c.args.op c.next.new.self) (sym c.in_ok-push.ensures.items)
    (way_goes_on c.args.program.now c.args.root c.args.op c.loop-node.node-iterator c.next.new.self c.in-Some.node c.loop-node.children.items c.in_ok-index.index
    (λ e. true≢false (sym (c.is_operation.ensures.1 e) ∙ c.if-is_operation.false)) c.in-Some.ensures.steps c.in_ok-index.ensures c.loop-node.invariant)

pub unreachable-requires : goal.unreachable-requires
unreachable-requires g c =
    never_ends c.args.program.now c.args.root c.args.op c.loop-node.node-iterator c.loop-node.children.items c.in-None.ensures.steps.0 c.loop-node.invariant
