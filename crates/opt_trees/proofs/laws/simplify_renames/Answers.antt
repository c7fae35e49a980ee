use Rattle.opt_trees.proofs.SimplifyRenamed.{simplify_renamed}
use Rattle.opt_trees.proofs.Orderly.{phases_apart}
use Rattle.opt_trees.specs.Simplify.{all_of}
use Rattle.opt_trees.proofs.laws.simplify_renames.Goals as goal

pub returns : goal.returns
returns g c = λ d r t after w w' agree o x.
    simplify_renamed d r t after w w' agree (λ u cut. phases_apart d (all_of t) w t u cut o) x
