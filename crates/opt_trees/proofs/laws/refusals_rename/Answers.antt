use Rattle.opt_trees.proofs.RefusalsRenamed.{lacking_renamed, loses_renamed}
use Rattle.opt_trees.proofs.SimplifyRenamed.{back_renamed}
use Rattle.opt_trees.proofs.laws.refusals_rename.Goals as goal

pub returns : goal.returns
returns g c = record {
  lacks = λ d r t k l a b h. lacking_renamed d r t k l a b h;
  loses = λ r t after w w' agree h. loses_renamed r t after w w' agree h;
  comes_back = λ d r p t h. back_renamed d r p t h;
}
