use Rattle.std.proofs.Common.{◌≡◌, ℕ, ◌<◌, Some, length, slice_get, unwrap_or}
use Rattle.opt_inside.proofs.facts.facts.first_items.Given as goal

abbrev pub invariant-loop-i : goal.invariant-loop-i
invariant-loop-i g l = record {
  len : length l.first.items ≡ l.i;
  items : (k : ℕ) → k < l.i → slice_get l.first.items k ≡ Some (unwrap_or (slice_get l.items k) l.other);
}
