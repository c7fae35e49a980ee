use Rattle.kit_written_trees.proofs.Texts.{has_text}
use Rattle.kit_written_trees.proofs.writable_trees_have_texts.Goals as goal

pub returns : goal.returns
returns c = λ s root t stands w no_results no_operands no_successors scoped edges distinct told apart.
    has_text s root t stands w no_results no_operands no_successors scoped edges distinct told apart
