use Rattle.std.proofs.Common.{◌<◌, ◌+◌, ◌^◌, get_or, length, sym, subst}
use Rattle.opt_solvers.specs.DeadUses.{kept_by}
use Rattle.opt_solvers.proofs.DeadCounting.{uses_fit}
use Rattle.opt_solvers.proofs.dead_uses.count_uses.Goals as goal

pub count_rows-requires-clause-within : goal.count_rows-requires-clause-within
count_rows-requires-clause-within c = λ k x h. subst (λ xs. x < length xs) (sym c.in_ok-uses.ensures) (c.requires.within k x h)

pub count_rows-requires-clause-fits : goal.count_rows-requires-clause-fits
count_rows-requires-clause-fits c = λ x. subst (λ xs. get_or xs x 0 + kept_by c.args.rows.now x < 2 ^ 64) (sym c.in_ok-uses.ensures) (uses_fit c.args.problem.now (2 ^ 64) c.args.rows.now c.requires.fits c.requires.once x)
