use Rattle.std.proofs.Common.{◌≡◌, ◌++◌, drop}
use Rattle.ir_tokens.proofs.numbers.widened.Given as goal

abbrev pub invariant-loop-number : goal.invariant-loop-number
invariant-loop-number l = l.long.items ++ drop l.number-index l.short.items ≡ l.short.items
