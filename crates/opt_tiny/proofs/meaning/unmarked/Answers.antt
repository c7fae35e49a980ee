use Rattle.std.proofs.Common.{arith, ◌+◌}
use Rattle.opt_dialect.specs.Masks.{marked}
use Rattle.opt_tiny.proofs.Ranges.{kept_end, kept_most}
use Rattle.opt_tiny.proofs.meaning.unmarked.Goals as goal

pub overflow_add-left : goal.overflow_add-left
overflow_add-left c = let e = kept_end (marked c.args.marks.now) c.loop-i.i in let m = kept_most (marked c.args.marks.now) 1 (c.loop-i.i + 1) in grind (arith, e, m)

pub loop-i-preserved : goal.loop-i-preserved
loop-i-preserved c = let e = kept_end (marked c.args.marks.now) c.loop-i.i in grind (arith, e)
