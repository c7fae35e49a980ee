use Rattle.marked_texts_say.proofs.OutlinedTexts.{outlined_say_the_same}
use Rattle.marked_texts_say.proofs.laws.outlined_texts_say_the_same.Goals as goal

pub returns : goal.returns
returns c = outlined_say_the_same
