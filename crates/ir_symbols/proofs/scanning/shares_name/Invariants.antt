use Rattle.std.proofs.Common.{◌≡◌, ◌++◌}
use Rattle.ir_program.specs.Lists.{operations_in}
use Rattle.ir_symbols.proofs.NamesFound.{AreFirst}
use Rattle.ir_symbols.proofs.scanning.shares_name.Given as goal

abbrev pub invariant-loop-op : goal.invariant-loop-op
invariant-loop-op g l = AreFirst g.O.SymbolPayload.name_in l.program (operations_in l.program l.fn.block) l.yielded × (operations_in l.program l.fn.block ≡ l.yielded ++ l.op-iterator)
