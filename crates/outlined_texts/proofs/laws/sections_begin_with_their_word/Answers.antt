use Rattle.outlined_texts.proofs.SectionWord.{section_word}
use Rattle.outlined_texts.proofs.laws.sections_begin_with_their_word.Goals as goal

pub returns : goal.returns
returns c = section_word
