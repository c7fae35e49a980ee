use Rattle.irkit_driver.proofs.ModuleLemmas.{facts_are_kept, facts_exist, second_settles, tree_facts_stay}
use Rattle.irkit_driver.proofs.laws.facts_kept.Goals as goal

pub returns : goal.returns
returns c = record {
  exist = λ passes t u p q h path. facts_exist passes t u p q h path;
  stay = λ t u p q h path k l best best_after. facts_are_kept t u p q h path k l best best_after;
  trees = tree_facts_stay;
  settled = second_settles;
}
