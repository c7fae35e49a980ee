use Rattle.std.proofs.Common.{◌≤◌, arith}
use Rattle.kit.specs.Dropped.{put_past}
use Rattle.kit.proofs.dropping.put_size.Goals as goal

pub returns-else-index-len : goal.returns-else-index-len
returns-else-index-len c =
    let h : c.args.sizes.now.len ≤ c.args.index = omega arith in
    put_past c.args.sizes.now c.args.index c.args.size h
