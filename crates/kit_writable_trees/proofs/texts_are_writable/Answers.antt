use Rattle.text_rereading.specs.Rereading.{Named}
use Rattle.kit_writable_trees.proofs.ReadTrees.{root_so}
use Rattle.kit_writable_trees.proofs.texts_are_writable.Goals as goal

pub returns : goal.returns
returns c = λ s root numbering text t stands closed tree. root_so s (Named numbering) root text t stands closed tree
