use Rattle.std.proofs.Common.{◌≡◌, ◌≤◌, take}
use Rattle.kit.proofs.dropping.shorten.Given as goal

abbrev pub invariant-loop-names : goal.invariant-loop-names
invariant-loop-names l = record {
  items : l.names.items ≡ take l.names.len l.fn.names.items;
  within : l.count ≤ l.names.len;
  ptr : l.names.ptr ≡ l.fn.names.ptr;
  cap : l.names.cap ≡ l.fn.names.cap;
}

abbrev pub decreases-loop-names : goal.decreases-loop-names
decreases-loop-names l = l.names.len
