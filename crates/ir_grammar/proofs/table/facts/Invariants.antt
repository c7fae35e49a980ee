use Rattle.std.proofs.Common.{◌≡◌, length}
use Rattle.ir_grammar.proofs.table.facts.Given as goal

abbrev pub invariant-loop-part : goal.invariant-loop-part
invariant-loop-part l = length l.facts.items ≡ l.part
