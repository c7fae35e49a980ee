use Rattle.kit_checks.proofs.Combined.{part_fails, last_decides}
use Rattle.kit_checks.proofs.format.fits_module.Goals as goal

pub returns-then-not-has_shape : goal.returns-then-not-has_shape
returns-then-not-has_shape c u s = part_fails c.has_shape.result c.if-not-has_shape.true (c.has_shape.ensures u s) (λ q. (q.0, q.1))

pub returns : goal.returns
returns c u s = let shape = (c.has_shape.ensures u s).0 c.if-not-has_shape.false in last_decides c.has_name.result (c.has_name.ensures u s) (λ p. (shape.0, shape.1, p)) (λ q. q.2)
