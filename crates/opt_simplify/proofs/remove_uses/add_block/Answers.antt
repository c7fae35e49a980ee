use Rattle.std.proofs.Common.{◌≡◌, ◌∙◌}
use Rattle.ir_program.specs.Preorder.{nodes_inside}
use Rattle.ir_program.specs.declared.handles.IRNode.TheVariants.{BasicBlock as BlockNode}
use Rattle.opt_inside.proofs.ReachLemmas.Lists.{moved}
use Rattle.opt_simplify.proofs.RemovedUses.{begun, node_gained, block_gained, whole}
use Rattle.opt_simplify.proofs.remove_uses.add_block.Goals as goal

pub loop-node-init : goal.loop-node-init
loop-node-init g c = record { listed = c.into_iter-node-iterator.ensures.into_iter_gives ∙ c.nodes_inside-node-items.ensures.list; gains = begun c.args.nodes.now.keys }

pub loop-node-preserved : goal.loop-node-preserved
loop-node-preserved g c = record {
  listed = moved (λ es. es ≡ nodes_inside c.args.program.now (BlockNode c.args.block)) c.loop-node.yielded _ _ c.in-Some.node c.in-Some.ensures.steps c.loop-node.invariant.listed;
  gains = node_gained c.args.program.now c.args.nodes.now.keys c.loop-node.nodes.keys c.add_node.new.nodes.keys c.loop-node.yielded c.in-Some.node c.loop-node.invariant.gains c.in_ok-add_node.ensures;
}

pub returns : goal.returns
returns g c = block_gained c.args.program.now c.args.block c.args.nodes.now.keys c.loop-node.nodes.keys c.loop-node.yielded (nodes_inside c.args.program.now (BlockNode c.args.block)) c.nodes_inside-node-items.ensures.inside
    (whole c.args.program.now c.loop-node.yielded _ (nodes_inside c.args.program.now (BlockNode c.args.block)) c.loop-node.invariant.listed c.in-None.ensures.steps.0) c.loop-node.invariant.gains
