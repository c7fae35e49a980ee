use Rattle.std.proofs.Common.{◌≡◌, ◌++◌}
use Rattle.ir_program.specs.Lists.{operations_in}
use Rattle.ir_symbols.specs.Collecting.{AreSymbolsAmong}
use Rattle.ir_symbols.proofs.names.collect.Given as goal

abbrev pub invariant-loop-op : goal.invariant-loop-op
invariant-loop-op g l = AreSymbolsAmong g.O.SymbolPayload.name_in l.program l.yielded l.names × (operations_in l.program l.fn.block ≡ l.yielded ++ l.op-iterator)
