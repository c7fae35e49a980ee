use Rattle.std.proofs.Common.{drop}
use Rattle.ir_grammar.specs.Table.{RanksAreBelow}
use Rattle.ir_grammar.proofs.grammar.Grammar.is_below.Given as goal

abbrev pub invariant-loop-symbol : goal.invariant-loop-symbol
invariant-loop-symbol l = RanksAreBelow l.self l.rank (drop l.symbol-index l.body) → RanksAreBelow l.self l.rank l.body
