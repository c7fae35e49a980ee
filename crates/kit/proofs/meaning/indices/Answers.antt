use Rattle.std.proofs.Common.{arith}
use Rattle.kit.proofs.Counted.{range_end}
use Rattle.kit.proofs.meaning.indices.Goals as goal

pub loop-i-preserved : goal.loop-i-preserved
loop-i-preserved c = let e = range_end c.args.start c.loop-i.i in grind (arith, e)
