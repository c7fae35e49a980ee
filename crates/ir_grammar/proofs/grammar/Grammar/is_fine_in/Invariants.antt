use Rattle.std.proofs.Common.{drop}
use Rattle.ir_grammar.specs.Table.{IsFineIn}
use Rattle.ir_grammar.proofs.grammar.Grammar.is_fine_in.Given as goal

abbrev pub invariant-loop-i : goal.invariant-loop-i
invariant-loop-i l = IsFineIn l.self l.part (drop l.i l.body) → IsFineIn l.self l.part l.body
