use Rattle.std.proofs.Common.{drop}
use Rattle.ir_grammar.specs.Table.{BeginsAtColumn}
use Rattle.ir_grammar.proofs.grammar.Grammar.begins.Given as goal

abbrev pub invariant-loop-symbol : goal.invariant-loop-symbol
invariant-loop-symbol l = BeginsAtColumn l.self (drop l.symbol-index l.body) l.column → BeginsAtColumn l.self l.body l.column
