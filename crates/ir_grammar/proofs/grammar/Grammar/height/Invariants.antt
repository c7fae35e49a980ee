use Rattle.std.proofs.Common.{◌≡◌, ◌+◌, drop}
use Rattle.ir_grammar.specs.Table.{height}
use Rattle.ir_grammar.proofs.grammar.Grammar.height.Given as goal

abbrev pub invariant-loop-symbol : goal.invariant-loop-symbol
invariant-loop-symbol l = height l.self l.body ≡ l.total + height l.self (drop l.symbol-index l.body)
