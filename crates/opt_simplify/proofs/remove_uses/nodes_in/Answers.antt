use Rattle.std.proofs.Common.{subst, arith}
use Rattle.std.proofs.lemmas.Option.{slice_get-get_or}
use Rattle.ir_program.specs.Program.{no_handle}
use Rattle.ir_trees.specs.Searched.{Lists}
use Rattle.ir_trees.proofs.Members.{at_has}
use Rattle.opt_simplify.proofs.RemovedAmong.{has_among}
use Rattle.opt_simplify.proofs.RemovedUses.{none_yet, within_none, within_next, within_all}
use Rattle.opt_simplify.proofs.remove_uses.nodes_in.Goals as goal

pub loop-block-init : goal.loop-block-init
loop-block-init g c = within_none c.args.program.now c.new-nodes.result.keys (λ e l. none_yet c.args.program.now e (subst (λ ks. Lists ks e) c.new-nodes.ensures.empty l))

pub add_block-requires : goal.add_block-requires
add_block-requires g c = c.requires _ (has_among c.args.blocks.now _ (at_has c.args.blocks.now c.loop-block.block-index _ (slice_get-get_or c.args.blocks.now c.loop-block.block-index no_handle (omega arith))))

pub loop-block-preserved : goal.loop-block-preserved
loop-block-preserved g c = within_next c.args.program.now c.args.blocks.now c.loop-block.block-index _ (slice_get-get_or c.args.blocks.now c.loop-block.block-index no_handle (omega arith)) c.loop-block.nodes.keys c.add_block.new.nodes.keys c.in_ok-add_block.ensures c.loop-block.invariant

pub returns : goal.returns
returns g c = within_all c.args.program.now c.args.blocks.now c.loop-block.block-index (omega arith) c.loop-block.nodes.keys c.loop-block.invariant
