use Rattle.kit_behaviour.proofs.PassListLemmas.{after_rules, after_fit}
use Rattle.kit_behaviour.proofs.passes_keep_rules.Goals as goal

pub returns : goal.returns
returns c = record {
  rules = λ xs p r rules is. after_rules xs p r rules is;
  bounds = λ xs p r fit is. after_fit xs p r fit is;
}
