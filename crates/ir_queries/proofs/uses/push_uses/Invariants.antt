use Rattle.std.proofs.Common.{◌≡◌, ◌++◌}
use Rattle.ir_queries.proofs.uses.push_uses.Given as goal

abbrev pub invariant-loop-place : goal.invariant-loop-place
invariant-loop-place g l = l.uses.items ≡ l.initial.uses.items ++ l.yielded
