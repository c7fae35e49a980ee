use Rattle.kit_text_programs.proofs.TypeNumbers.TextTypes.{text_types_numbered}
use Rattle.kit_text_programs.proofs.laws.types_are_numbered.Goals as goal

pub returns : goal.returns
returns c = text_types_numbered
