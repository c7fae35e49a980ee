use Rattle.kit_ruled_passes.proofs.Alone.{simplified}
use Rattle.kit_ruled_passes.proofs.simplified_stand_alone.Goals as goal

pub returns : goal.returns
returns c = simplified
