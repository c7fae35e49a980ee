use Rattle.std.proofs.Common.{◌≡◌, ℕ, suc, ◌<◌, true, false, get_or}
use Rattle.ir_grammar.specs.Table.{Passes}
use Rattle.ir_grammar.proofs.grammar.Grammar.kinds_pass.Given as goal

abbrev pub invariant-loop-kind : goal.invariant-loop-kind
invariant-loop-kind l = (k : ℕ) → k < l.kind → get_or l.kinds k false ≡ true → Passes l.self l.target (suc k)
