use Rattle.std.proofs.Common.{◌≡◌, drop}
use Rattle.ir_grammar.specs.Table.{has_solid}
use Rattle.ir_grammar.proofs.grammar.Grammar.has_solid.Given as goal

abbrev pub invariant-loop-symbol : goal.invariant-loop-symbol
invariant-loop-symbol l = has_solid l.self l.body ≡ has_solid l.self (drop l.symbol-index l.body)
