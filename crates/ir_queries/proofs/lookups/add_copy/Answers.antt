use Rattle.std.proofs.Common.{refl}
use Rattle.ir_names.proofs.Copied.{with_attribute-new}
use Rattle.ir_queries.proofs.lookups.add_copy.Goals as goal

pub returns : goal.returns
returns g c = record {
  copy = (c.args.name.now, c.in_ok-attr.attr);
  added = rw (c.in_ok-set.ensures.entries, c.in_ok-new.ensures) (with_attribute-new c.args.copies.now c.args.name.now c.in_ok-attr.attr c.requires.new);
  same = (refl, c.in_ok-attr.ensures);
}
