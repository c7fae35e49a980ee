use Rattle.marked_texts_say.proofs.SameTrees.{marked_say_the_same}
use Rattle.marked_texts_say.proofs.laws.put_marks_say_the_same.Goals as goal

pub returns : goal.returns
returns c = marked_say_the_same
