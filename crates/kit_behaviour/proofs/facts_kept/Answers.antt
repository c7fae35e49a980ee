use Rattle.kit_behaviour.specs.ConstantPropagation.{made_of}
use Rattle.kit_behaviour.proofs.Numbering.RuleLemmas.{rules_scoped, made_may_put}
use Rattle.kit_behaviour.proofs.Propagation.FactsAfterwards.{kept_values, kept_blocks}
use Rattle.kit_behaviour.proofs.Propagation.FactsByPlace.{facts_stay}
use Rattle.kit_behaviour.proofs.facts_kept.Goals as goal

pub returns : goal.returns
returns c = record {
  places = λ want f k l rules best best_l. facts_stay want f k l rules best best_l;
  values = λ want f k l rules best best_l v. kept_values (made_of want f k) k f (made_may_put want f k rules) (rules_scoped f rules) best l best_l v;
  blocks = λ want f k l rules best best_l b. kept_blocks (made_of want f k) k f (made_may_put want f k rules) (rules_scoped f rules) best l best_l b;
}
