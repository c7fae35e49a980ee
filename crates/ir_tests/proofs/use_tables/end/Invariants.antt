use Rattle.std.proofs.Common.{◌≡◌}
use Rattle.ir_tests.proofs.use_tables.end.Given as goal

abbrev pub invariant-loop : goal.invariant-loop
invariant-loop g l = l.uses.definitions ≡ l.fn.uses.definitions
