use Rattle.kit_behaviour.proofs.Lattice.DeterminedScopes.{rules_determined}
use Rattle.kit_behaviour.proofs.scopes_determined.Goals as goal

pub returns : goal.returns
returns c = λ f k rules best b runs. rules_determined f k rules best b runs
