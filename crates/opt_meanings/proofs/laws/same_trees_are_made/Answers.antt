use Rattle.opt_meanings.proofs.SameSccp.{same_sccps}
use Rattle.opt_meanings.proofs.SameDce.{same_dces}
use Rattle.opt_meanings.proofs.SimplifyShared.{same_simplifies}
use Rattle.opt_meanings.proofs.laws.same_trees_are_made.Goals as goal

pub returns : goal.returns
returns g c = record {
  sccp = λ d tests t u same w z pw pz a b x y. same_sccps d tests t u same w z pw pz a b x y;
  dce = λ d tests t u same w z pw pz a b x y. same_dces d tests t u same w z pw pz a b x y;
  simplify = λ d tests t u same w z alike o p a b x y. same_simplifies d tests t u same w z alike o p a b x y;
}
