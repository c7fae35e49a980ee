use Rattle.kit_behaviour.proofs.ControlFlow.NamedChains.{merges_fit}
use Rattle.kit_behaviour.proofs.merging_fits.Goals as goal

pub returns : goal.returns
returns g c = λ f h apart ends fits m. merges_fit f h apart ends fits m
