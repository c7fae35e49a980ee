use Rattle.kit_behaviour.specs.Places.{same_place}
use Rattle.kit_behaviour.proofs.Numbering.PlaceEquality.{place_law}
use Rattle.kit_behaviour.proofs.Propagation.BestFactsExist.{best_exists}
use Rattle.kit_behaviour.proofs.DeadCode.DeadExists.{dead_exists}
use Rattle.kit_behaviour.proofs.analyses_exist.Goals as goal

pub returns : goal.returns
returns c = record {
  facts = λ f rules. best_exists f rules;
  dead = λ f. dead_exists same_place place_law f;
}
