use Rattle.std.proofs.Common.{◌≡◌, ◌≤◌, take}
use Rattle.std.specs.Prelude.{drop as list_drop}
use Rattle.opt_dialect.specs.Masks.{marked}
use Rattle.opt_trees.specs.Dialect.{drop}
use Rattle.kit.proofs.dropping.gather.Given as goal

abbrev pub invariant-loop-i : goal.invariant-loop-i
invariant-loop-i l = record {
  front : take l.count l.names.items ≡ drop (marked l.marks) (take l.i l.fn.names.items);
  back : list_drop l.i l.names.items ≡ list_drop l.i l.fn.names.items;
  order : l.count ≤ l.i;
  len : l.names.len ≡ l.fn.names.len;
  ptr : l.names.ptr ≡ l.fn.names.ptr;
  cap : l.names.cap ≡ l.fn.names.cap;
}
