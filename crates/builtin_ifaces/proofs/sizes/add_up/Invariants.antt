use Rattle.std.proofs.Common.{◌≡◌, ◌+◌, sum, take}
use Rattle.builtin_ifaces.proofs.sizes.add_up.Given as goal

abbrev pub invariant-loop-size : goal.invariant-loop-size
invariant-loop-size l = sum (take l.size-index l.sizes) + l.left ≡ l.total
