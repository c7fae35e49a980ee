use Rattle.opt_trees.proofs.One.{simplify_unique}
use Rattle.opt_trees.proofs.Orderly.{phases_orderly}
use Rattle.opt_trees.specs.Simplify.{all_of}
use Rattle.opt_trees.proofs.laws.one_simplify.Goals as goal

pub returns : goal.returns
returns g c = λ d w t a b o x y. simplify_unique d w t a b (λ u cut. phases_orderly d (all_of t) w t u cut o) x y
