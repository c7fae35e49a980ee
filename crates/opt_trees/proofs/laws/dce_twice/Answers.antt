use Rattle.opt_trees.proofs.One.{dce_twice}
use Rattle.opt_trees.proofs.laws.dce_twice.Goals as goal

pub returns : goal.returns
returns g c = λ d w t after again law well x y. dce_twice d law w t after again well x y
