use Rattle.kit_checks.proofs.Combined.{part_fails, last_decides}
use Rattle.kit_checks.proofs.operands.compares_bits.Goals as goal

pub returns-then-not-has_equal_operands : goal.returns-then-not-has_equal_operands
returns-then-not-has_equal_operands c u s = part_fails c.has_equal_operands.result c.if-not-has_equal_operands.true (c.has_equal_operands.ensures u s) (λ q. q.0)

pub returns : goal.returns
returns c u s = last_decides c.results_pass.result (c.results_pass.ensures u s) (λ p. ((c.has_equal_operands.ensures u s).0 c.if-not-has_equal_operands.false, p)) (λ q. q.1)
