use Rattle.kit_checks.proofs.Combined.{part_fails, last_decides}
use Rattle.kit_checks.proofs.format.fits_cond_br.Goals as goal

pub returns-then-not-has_counts : goal.returns-then-not-has_counts
returns-then-not-has_counts c u s = part_fails c.has_counts.result c.if-not-has_counts.true (c.has_counts.ensures u s) (λ q. q.0)

pub returns : goal.returns
returns c u s = last_decides c.has_segments.result (c.has_segments.ensures u s) (λ p. ((c.has_counts.ensures u s).0 c.if-not-has_counts.false, p)) (λ q. q.1)
