use Rattle.std.proofs.Common.{drop}
use Rattle.ir_grammar.specs.Table.{AreKnownSymbols}
use Rattle.ir_grammar.proofs.grammar.Grammar.is_known.Given as goal

abbrev pub invariant-loop-symbol : goal.invariant-loop-symbol
invariant-loop-symbol l = AreKnownSymbols l.self (drop l.symbol-index l.body) → AreKnownSymbols l.self l.body
