use Rattle.opt_simplify.specs.Removed.{is_listed}
use Rattle.ir_program.specs.declared.handles.IRNode.TheVariants.{BasicBlock as BlockNode}
use Rattle.opt_simplify.proofs.RemovedBoth.{live_kept, still_apart, none_named, both_erase}
use Rattle.opt_simplify.proofs.remove_blocks.remove_blocks.Goals as goal

pub erase_all-requires-clause-there : goal.erase_all-requires-clause-there
erase_all-requires-clause-there g c = λ b h. live_kept c.args.ctx.now.program c.drop_uses.new.ctx.program (is_listed c.args.blocks.now) c.drop_uses.ensures.dropped (BlockNode b) (c.requires.there b h)

pub erase_all-requires-clause-apart : goal.erase_all-requires-clause-apart
erase_all-requires-clause-apart g c = still_apart c.args.ctx.now.program c.drop_uses.new.ctx.program (is_listed c.args.blocks.now) c.drop_uses.ensures.dropped c.requires.apart

pub erase_all-requires-clause-unnamed : goal.erase_all-requires-clause-unnamed
erase_all-requires-clause-unnamed g c = none_named c.args.ctx.now.program c.drop_uses.new.ctx.program (is_listed c.args.blocks.now) c.drop_uses.ensures.dropped c.requires.named

pub returns-clause-removed : goal.returns-clause-removed
returns-clause-removed g c = both_erase c.args.ctx.now.program c.drop_uses.new.ctx.program (is_listed c.args.blocks.now) c.drop_uses.ensures.dropped c.requires.there c.erase_all.new.ctx.program c.erase_all.ensures.erased
