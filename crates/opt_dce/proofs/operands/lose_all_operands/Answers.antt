use Rattle.std.proofs.Common.{◌≡◌, Some, slice_get, length, refl, ◌∙◌, arith}
use Rattle.std.proofs.lemmas.Option.{slice_get_read}
use Rattle.opt_dce.proofs.Lost.{there_still, count_still, lost_next}
use Rattle.opt_dce.proofs.operands.lose_all_operands.Goals as goal

pub lose_operands-requires-clause-there : goal.lose_operands-requires-clause-there
lose_operands-requires-clause-there g c =
    let here : slice_get c.args.lost.now c.loop-l.l-index ≡ Some c.l-item.result = slice_get_read c.args.lost.now (length c.args.lost.now) c.loop-l.l-index c.l-item.result refl (omega arith) c.l-item.is in
    there_still g.D.Meanings.meaning c.args.ctx.now.program c.loop-l.ctx.program c.args.lost.now c.requires.once c.loop-l.l-index c.l-item.result here c.loop-l.invariant.lost (c.requires.there c.l-item.result (c.loop-l.l-index, here))

pub lose_operands-requires-clause-count : goal.lose_operands-requires-clause-count
lose_operands-requires-clause-count g c =
    let here : slice_get c.args.lost.now c.loop-l.l-index ≡ Some c.l-item.result = slice_get_read c.args.lost.now (length c.args.lost.now) c.loop-l.l-index c.l-item.result refl (omega arith) c.l-item.is in
    count_still g.D.Meanings.meaning c.args.ctx.now.program c.loop-l.ctx.program c.args.lost.now c.requires.once c.loop-l.l-index c.l-item.result here c.loop-l.invariant.lost (c.requires.count c.l-item.result (c.loop-l.l-index, here))

pub loop-l-preserved : goal.loop-l-preserved
loop-l-preserved g c =
    let here : slice_get c.args.lost.now c.loop-l.l-index ≡ Some c.l-item.result = slice_get_read c.args.lost.now (length c.args.lost.now) c.loop-l.l-index c.l-item.result refl (omega arith) c.l-item.is in
    record {
      lost = lost_next g.D.Meanings.meaning c.args.ctx.now.program c.loop-l.ctx.program c.args.lost.now c.requires.once c.loop-l.l-index c.l-item.result here c.loop-l.invariant.lost
          c.lose_operands.new.ctx.program c.lose_operands.ensures.lost;
      types = c.lose_operands.ensures.types ∙ c.loop-l.invariant.types;
      numbers = c.lose_operands.ensures.numbers ∙ c.loop-l.invariant.numbers;
    }
