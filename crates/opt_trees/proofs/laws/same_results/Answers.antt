use Rattle.opt_trees.proofs.Placing.{sccp_same, dce_same, simplify_same}
use Rattle.opt_trees.proofs.laws.same_results.Goals as goal

pub returns : goal.returns
returns g c = record {
  sccp = λ d f k t u e v w z i j a b x y. sccp_same d f k t u e v w z i j a b x y;
  dce = λ d f k t u e v w z i j a b x y. dce_same d f k t u e v w z i j a b x y;
  simplify = λ d f k t u e v w z i j a b p q x y. simplify_same d f k t u e v w z i j a b p q x y;
}
