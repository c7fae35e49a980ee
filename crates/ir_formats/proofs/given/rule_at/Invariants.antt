use Rattle.std.proofs.Common.{◌≡◌, drop}
use Rattle.ir_formats.specs.Given.{rule_at}
use Rattle.ir_formats.proofs.given.rule_at.Given as goal

abbrev pub invariant-loop-choice : goal.invariant-loop-choice
invariant-loop-choice l = rule_at (drop l.choice-index l.choices) l.column ≡ rule_at l.choices l.column
