use Rattle.outline_values.proofs.Places.{goes_both, goes_next, goes_sign}
use Rattle.outline_values.proofs.integers.read_sizes.Goals as goal

pub returns-in-Some : goal.returns-in-Some
returns-in-Some c = goes_sign c.args.at c.in_ok-start.start c.in-Some.end c.in_ok-start.ensures.passes c.in-Some.ensures.passes.goes

pub loop-next-init : goal.loop-next-init
loop-next-init c = goes_sign c.args.at c.in_ok-start.start c.in_ok-sizes.sizes.end c.in_ok-start.ensures.passes c.in_ok-sizes.ensures

pub loop-next-preserved : goal.loop-next-preserved
loop-next-preserved c = goes_next c.args.at c.loop-next.sizes.end c.in-Some-behind_sign.next c.in_ok-sizes-2.sizes.end c.loop-next.invariant c.in-Some-behind_sign.ensures.passes c.in_ok-sizes-2.ensures

pub returns-in-None : goal.returns-in-None
returns-in-None c = goes_both c.args.at c.loop-next.sizes.end c.in_ok-end.end c.loop-next.invariant c.in_ok-end.ensures.passes.goes
