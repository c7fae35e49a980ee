use Rattle.std.proofs.Common.{ℕ, drop}
use Rattle.ir_grammar.specs.Table.{OpensIn}
use Rattle.ir_grammar.proofs.grammar.Grammar.openers_pass.Given as goal

abbrev pub invariant-loop-symbol : goal.invariant-loop-symbol
invariant-loop-symbol l = (c : ℕ) → OpensIn l.self l.part l.body c → OpensIn l.self l.part (drop l.symbol-index l.body) c
