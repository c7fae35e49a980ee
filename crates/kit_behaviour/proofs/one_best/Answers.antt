use Rattle.kit_behaviour.proofs.Lattice.FactLemmas.{best_unique}
use Rattle.kit_behaviour.proofs.one_best.Goals as goal

pub returns : goal.returns
returns c = λ f k l a b. best_unique f k l a b
