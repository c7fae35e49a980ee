use Rattle.std.proofs.Common.{◌≡◌}
use Rattle.ir_program.specs.Lists.{operations_in}
use Rattle.ir_symbols.specs.Scans.{first_named}
use Rattle.ir_symbols.proofs.scanning.scan_block.Given as goal

abbrev pub invariant-loop-op : goal.invariant-loop-op
invariant-loop-op g l = first_named g.O.SymbolPayload.name_in l.program l.name (operations_in l.program l.fn.block) ≡ first_named g.O.SymbolPayload.name_in l.program l.name l.op-iterator
