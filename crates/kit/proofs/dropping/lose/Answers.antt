use Rattle.std.proofs.Common.{◌∙◌}
use Rattle.opt_dialect.specs.Masks.{marked}
use Rattle.kit.specs.Dropped.{less_names, same_vec}
use Rattle.kit.proofs.dropping.lose.Goals as goal

pub returns : goal.returns
returns c =
    same_vec c.shorten.new.names (less_names (marked c.args.marks.now) c.args.names.now)
    (c.shorten.ensures.ptr ∙ c.gather-count.ensures.ptr) (c.shorten.ensures.capacity
    ∙ c.gather-count.ensures.capacity)
    (c.shorten.ensures.items ∙ c.gather-count.ensures.front)
