use Rattle.std.proofs.Common.{◌∙◌, ap}
use Rattle.text_frames.specs.Makes.{block_in}
use Rattle.text_assembling.proofs.assembling.Assembler.attach.Goals as goal

pub append_operation-requires-clause-block : goal.append_operation-requires-clause-block
append_operation-requires-clause-block g c = c.requires.block c.in-Some.block (ap block_in c.in-Block.is ∙ c.in-Some.is)
