use Rattle.std.proofs.Common.{◌≤◌, take, ap, ◌∙◌, arith}
use Rattle.kit.proofs.Moved.{take_twice}
use Rattle.kit.proofs.dropping.shorten.Goals as goal

pub loop-names-preserved : goal.loop-names-preserved
loop-names-preserved c =
    let fewer : c.lose_last.new.names.len ≤ c.loop-names.names.len = omega arith in
    record {
      items = c.lose_last.ensures.items ∙ (ap (take c.lose_last.new.names.len) c.loop-names.invariant.items
          ∙ take_twice c.lose_last.new.names.len c.loop-names.names.len c.args.names.now.items fewer);
      within = omega arith;
      ptr = c.lose_last.ensures.ptr ∙ c.loop-names.invariant.ptr;
      cap = c.lose_last.ensures.capacity ∙ c.loop-names.invariant.cap;
    }
