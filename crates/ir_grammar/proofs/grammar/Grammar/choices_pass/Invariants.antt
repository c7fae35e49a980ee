use Rattle.std.proofs.Common.{◌≡◌, ℕ, ◌<◌, Some, None, get_or}
use Rattle.ir_grammar.specs.Table.{Passes}
use Rattle.ir_grammar.proofs.grammar.Grammar.choices_pass.Given as goal

abbrev pub invariant-loop-column : goal.invariant-loop-column
invariant-loop-column l = (c p : ℕ) → c < l.column → get_or l.choices c None ≡ Some p → Passes l.self l.target c
