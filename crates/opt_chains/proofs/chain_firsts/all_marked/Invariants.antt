use Rattle.std.proofs.Common.{◌≡◌, ℕ, ◌<◌, true, length, Some, slice_get}
use Rattle.opt_chains.proofs.chain_firsts.all_marked.Given as goal

-- so many are there
abbrev pub invariant-loop-i : goal.invariant-loop-i
invariant-loop-i l = record { len : length l.marks.items ≡ l._i; marked : (k : ℕ) → k < l._i → slice_get l.marks.items k ≡ Some true }
