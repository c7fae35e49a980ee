use Rattle.kit_text_programs.proofs.ToldTexts.OneText.{say_one_text}
use Rattle.kit_text_programs.proofs.SaidTexts.SameTexts.{one_text}
use Rattle.kit_text_programs.proofs.laws.texts_say_the_same.Goals as goal

pub returns : goal.returns
returns c = record { same = one_text; one = say_one_text }
