use Rattle.std.proofs.Common.{◌∙◌, sym, ◌<◌, length, get_or, arith}
use Rattle.kit_flat.proofs.Binds.{bind_more, bind_end}
use Rattle.kit_flat.specs.View.{numbers_of}
use Rattle.kit_flat.proofs.frames.bind.Goals as goal

pub loop-i-preserved : goal.loop-i-preserved
loop-i-preserved c =
    let h : c.loop-i.i < length c.args.names.now = omega arith in
    let k : c.loop-i.i < length c.args.numbers.now = omega arith in
    let b : get_or c.args.names.now c.loop-i.i 0 < length c.loop-i.values = omega (arith, c.requires c.loop-i.i 0 h) in
    bind_more c.loop-i.values c.args.names.now c.args.numbers.now c.loop-i.i h k b ∙ c.loop-i.invariant

pub returns : goal.returns
returns c = sym (bind_end (numbers_of c.loop-i.values) c.args.names.now c.args.numbers.now c.loop-i.i (omega arith))
    ∙ c.loop-i.invariant
