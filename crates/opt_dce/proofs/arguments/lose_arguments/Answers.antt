use Rattle.std.proofs.Common.{◌∙◌, ap, subst}
use Rattle.ir_program.specs.Edits.{EditsBlock}
use Rattle.ir_program.specs.Lent.{with_block_payload}
use Rattle.ir_program.specs.Program.{BlockView}
use Rattle.opt_dialect.specs.Masks.{marked}
use Rattle.opt_trees.specs.Dialect.{drop}
use Rattle.opt_dce.proofs.LostArguments.{lost_both}
use Rattle.opt_dce.proofs.arguments.lose_arguments.Goals as goal

pub returns-then-has_block-clause-lost : goal.returns-then-has_block-clause-lost
returns-then-has_block-clause-lost g c =
    let d = g.D.Meanings.meaning in
    let block = c.args.dead.now.block in
    let again = c.remove_arguments-then-has_block in
    let removed = subst (λ marks. EditsBlock c.args.ctx.now.program c.remove_arguments.new.ctx.program block (λ (v : BlockView g.row.D-Block.Denot). record v { arguments = drop (marked marks) v.arguments })) c.deref.ensures.value c.remove_arguments.ensures.removed in
    lost_both d c.args.ctx.now.program c.remove_arguments.new.ctx.program (with_block_payload c.remove_arguments.new.ctx.program block again.new.block) block (marked c.args.dead.now.marks.items) c.block_payload_mut.result.now again.new.block removed c.block_payload_mut.ensures.value
    (again.ensures ∙ ap (λ marks. d.drop_names c.block_payload_mut.result.now (marked marks)) c.deref-then-has_block.ensures.value) (c.block_payload_mut.ensures.edits again.new.block)
