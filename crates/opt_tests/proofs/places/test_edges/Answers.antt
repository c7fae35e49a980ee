use Rattle.std.proofs.Common.{subst}
use Rattle.opt_inside.specs.reach.Edges.{FitsEdgesFrom}
use Rattle.opt_tiny.specs.Meaning.{tiny}
use Rattle.opt_tests.proofs.places.test_edges.Goals as goal

pub returns-clause-fits : goal.returns-clause-fits
returns-clause-fits c =
    subst (λ p. FitsEdgesFrom tiny p c.args.start) c.program-2.ensures (c.in_ok-fits_edges_from.ensures.0 c.if-not-branch.false)
