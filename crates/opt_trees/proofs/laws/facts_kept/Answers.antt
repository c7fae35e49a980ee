use Rattle.opt_trees.proofs.FactsKept.{facts_kept}
use Rattle.opt_trees.proofs.FactsAfter.{facts_after_best}
use Rattle.opt_trees.proofs.laws.facts_kept.Goals as goal

pub returns : goal.returns
returns g c = record {
  extend = λ d w t after law tell p. facts_after_best d w t after law tell p;
  keep = λ d w t after k l law p b best. facts_kept d w t after k l law p b best;
}
