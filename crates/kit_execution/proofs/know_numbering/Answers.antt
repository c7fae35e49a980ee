use Rattle.kit_execution.proofs.Pairing.{text_number, numbers_apart}
use Rattle.kit_execution.proofs.know_numbering.Goals as goal

pub returns : goal.returns
returns c = (text_number, numbers_apart)
