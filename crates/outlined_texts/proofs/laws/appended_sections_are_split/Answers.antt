use Rattle.outlined_texts.proofs.AppendedSections.{appended_split}
use Rattle.outlined_texts.proofs.laws.appended_sections_are_split.Goals as goal

pub returns : goal.returns
returns c = appended_split
