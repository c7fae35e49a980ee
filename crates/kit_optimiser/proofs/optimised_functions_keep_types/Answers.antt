use Rattle.kit_optimiser.proofs.HeadsKept.{list_keeps}
use Rattle.kit_optimiser.proofs.optimised_functions_keep_types.Goals as goal

pub returns : goal.returns
returns g c = λ leads numbered xs t r after path. list_keeps leads numbered xs t r after path
