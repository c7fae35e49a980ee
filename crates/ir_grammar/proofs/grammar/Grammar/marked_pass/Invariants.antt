use Rattle.std.proofs.Common.{◌≡◌, ℕ, ◌<◌, true, false, get_or}
use Rattle.ir_grammar.specs.Table.{Passes}
use Rattle.ir_grammar.proofs.grammar.Grammar.marked_pass.Given as goal

abbrev pub invariant-loop-column : goal.invariant-loop-column
invariant-loop-column l = (c : ℕ) → c < l.column → get_or l.follows c false ≡ true → Passes l.self l.target c
