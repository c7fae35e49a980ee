use Rattle.std.proofs.Common.{◌≡◌, Some, slice_get, length, refl, ◌∙◌, arith}
use Rattle.std.proofs.lemmas.Option.{slice_get_read}
use Rattle.opt_dce.proofs.LostArguments.{count_still, unused_still, lost_next}
use Rattle.opt_dce.proofs.arguments.lose_all_arguments.Goals as goal

pub lose_arguments-requires-clause-count : goal.lose_arguments-requires-clause-count
lose_arguments-requires-clause-count g c =
    let here : slice_get c.args.dead.now c.loop-a.a-index ≡ Some c.a-item.result = slice_get_read c.args.dead.now (length c.args.dead.now) c.loop-a.a-index c.a-item.result refl (omega arith) c.a-item.is in
    count_still g.D.Meanings.meaning c.args.ctx.now.program c.loop-a.ctx.program c.args.dead.now c.requires.once c.loop-a.a-index c.a-item.result here c.loop-a.invariant.lost (c.requires.count c.a-item.result (c.loop-a.a-index, here))

pub lose_arguments-requires-clause-unused : goal.lose_arguments-requires-clause-unused
lose_arguments-requires-clause-unused g c =
    let here : slice_get c.args.dead.now c.loop-a.a-index ≡ Some c.a-item.result = slice_get_read c.args.dead.now (length c.args.dead.now) c.loop-a.a-index c.a-item.result refl (omega arith) c.a-item.is in
    unused_still g.D.Meanings.meaning c.args.ctx.now.program c.loop-a.ctx.program c.args.dead.now c.requires.once c.loop-a.a-index c.a-item.result here c.loop-a.invariant.lost (c.requires.unused c.a-item.result (c.loop-a.a-index, here))

pub loop-a-preserved : goal.loop-a-preserved
loop-a-preserved g c =
    let here : slice_get c.args.dead.now c.loop-a.a-index ≡ Some c.a-item.result = slice_get_read c.args.dead.now (length c.args.dead.now) c.loop-a.a-index c.a-item.result refl (omega arith) c.a-item.is in
    record {
      lost = lost_next g.D.Meanings.meaning c.args.ctx.now.program c.loop-a.ctx.program c.args.dead.now c.requires.once c.loop-a.a-index c.a-item.result here c.loop-a.invariant.lost
          c.lose_arguments.new.ctx.program c.lose_arguments.ensures.lost;
      types = c.lose_arguments.ensures.types ∙ c.loop-a.invariant.types;
      numbers = c.lose_arguments.ensures.numbers ∙ c.loop-a.invariant.numbers;
    }
