use Rattle.kit_behaviour.specs.Machine.{left_in}
use Rattle.kit_behaviour.specs.Scopes.{at_start}
use Rattle.kit_behaviour.specs.Places.{same_place}
use Rattle.kit_behaviour.proofs.Numbering.PlaceEquality.{place_law}
use Rattle.kit_behaviour.proofs.Numbering.RuleLemmas.{rules_scoped, with_unit}
use Rattle.kit_behaviour.proofs.Lattice.DecisionBehaviour.{decided_alike}
use Rattle.kit_behaviour.proofs.decisions_alike.Goals as goal

pub returns : goal.returns
returns c = λ p k closed rules. decided_alike same_place place_law p k closed (λ path b. with_unit (p path) (at_start (p path) b) (left_in (p path) b 0) (rules_scoped (p path) (rules path) b))
