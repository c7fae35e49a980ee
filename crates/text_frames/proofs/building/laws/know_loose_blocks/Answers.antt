use Rattle.text_frames.proofs.BuildingLemmas.Later.{makes_loose_block}
use Rattle.text_frames.proofs.building.laws.know_loose_blocks.Goals as goal

pub returns-clause-makes : goal.returns-clause-makes
returns-clause-makes g c = makes_loose_block
