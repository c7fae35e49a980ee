use Rattle.kit_ruled_passes.proofs.Alone.{removed}
use Rattle.kit_ruled_passes.proofs.removed_stand_alone.Goals as goal

pub returns : goal.returns
returns c = removed
