use Rattle.std.proofs.Common.{◌∙◌, ap, subst}
use Rattle.ir_program.specs.Edits.{EditsOperation}
use Rattle.ir_program.specs.Lent.{with_payload}
use Rattle.ir_program.specs.Program.{OperationView}
use Rattle.opt_dialect.specs.Masks.{marked}
use Rattle.opt_trees.specs.Dialect.{drop}
use Rattle.opt_dce.proofs.Lost.{lost_both}
use Rattle.opt_dce.proofs.operands.lose_operands.Goals as goal

pub returns-clause-lost : goal.returns-clause-lost
returns-clause-lost g c =
    let d = g.D.Meanings.meaning in
    let op = c.args.lost.now.op in
    let removed = subst (λ marks. EditsOperation c.args.ctx.now.program c.remove_operands.new.ctx.program op (λ (v : OperationView g.row.D-Operation.Denot). record v { operands = drop (marked marks) v.operands })) c.deref.ensures.value c.remove_operands.ensures.removed in
    lost_both d c.args.ctx.now.program c.remove_operands.new.ctx.program (with_payload c.remove_operands.new.ctx.program op c.remove_operands-2.new.op) op (marked c.args.lost.now.marks.items) c.payload_mut.result.now c.remove_operands-2.new.op removed c.payload_mut.ensures.value
    (c.remove_operands-2.ensures ∙ ap (λ marks. d.drop_operands c.payload_mut.result.now (marked marks)) c.deref-2.ensures.value) (c.payload_mut.ensures.edits c.remove_operands-2.new.op)
