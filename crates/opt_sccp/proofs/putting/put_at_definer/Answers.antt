-- Nothing is inside an operation without regions.
use Rattle.std.proofs.Common.{ap, ◌∙◌}
use Rattle.ir_program.specs.declared.handles.DefiningEntity.TheVariants.{Op as ByOp}
use Rattle.opt_sccp.proofs.BareOperations.{no_other_inside, no_block_inside}
use Rattle.opt_sccp.proofs.putting.put_at_definer.Goals as goal

pub insert_before-requires-clause-apart : goal.insert_before-requires-clause-apart
insert_before-requires-clause-apart g c = no_other_inside c.args.ctx.now.program c.args.op c.requires.bare c.in-Op.mark (λ e. c.requires.other (c.in-Op.is ∙ ap ByOp e))

pub insert_at_front-requires-clause-apart : goal.insert_at_front-requires-clause-apart
insert_at_front-requires-clause-apart g c = no_block_inside c.args.ctx.now.program c.args.op c.requires.bare c.in-Block.block
