use Rattle.opt_dialect.specs.Masks.{marked}
use Rattle.kit.proofs.Lessened.{less_is}
use Rattle.kit.proofs.dropping.lessen.Goals as goal

pub returns : goal.returns
returns c =
    less_is (marked c.args.marks.now) c.args.sizes.now c.put_size.new.sizes c.put_size-2.new.sizes
    c.size_at-first.result c.size_at-second.result c.unmarked.result c.unmarked-2.result
    c.size_at-first.ensures c.size_at-second.ensures c.unmarked.ensures c.unmarked-2.ensures
    c.put_size.ensures c.put_size-2.ensures
