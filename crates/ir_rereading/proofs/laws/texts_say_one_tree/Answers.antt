use Rattle.ir_rereading.proofs.OneTree.{one_tree_said}
use Rattle.ir_rereading.proofs.laws.texts_say_one_tree.Goals as goal

pub returns : goal.returns
returns c = one_tree_said
