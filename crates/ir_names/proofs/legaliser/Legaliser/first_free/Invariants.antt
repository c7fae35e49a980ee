use Rattle.std.proofs.Common.{◌≤◌}
use Rattle.ir_names.specs.Identifier.{text_of}
use Rattle.ir_names.specs.Legaliser.{AreTaken}
use Rattle.ir_names.proofs.legaliser.Legaliser.first_free.Given as goal

abbrev pub invariant-loop-number : goal.invariant-loop-number
invariant-loop-number l = record {
  from : l.self.counter ≤ l.number;
  taken : AreTaken l.self.given (text_of l.text) l.self.counter l.number;
}
