use Rattle.std.proofs.Common.{ap, chars, refl, subst}
use Rattle.ir_forest.specs.Closed.{unlabelled}
use Rattle.ir_rereading.proofs.OneTree.{one_tree_said}
use Rattle.kit.specs.Leads.{leads}
use Rattle.kit_checks.specs.World.{world_of}
use Rattle.kit_language.specs.Language.{kit_language}
use Rattle.irkit_driver.proofs.FaultLemmas.{not_kept, one_first_fault}
use Rattle.irkit_refusals.proofs.VerdictLemmas.{accepted_anywhere, one_verdict}
use Rattle.irkit_refusals.specs.Texts.{HoldsText}
use Rattle.irkit_driver.proofs.laws.inputs_have_one_verdict.Goals as goal

pub returns : goal.returns
returns c = let law = c.texts_have_one_verdict.ensures in record {
  accepted = accepted_anywhere law;
  either = λ bytes rule place broken (text, accepted).
      let same = one_tree_said kit_language leads refl (chars bytes) broken.said.text text broken.said.says_it.1 accepted.says_it.1 in
      let held = broken.said.holds in
      let kept = accepted.rules broken.context broken.root (subst (λ t. HoldsText t broken.context broken.root) same held) in
      not_kept (world_of broken.context) held.tree rule place broken.first.first (kept held.tree held.is_tree rule);
  one = λ bytes rule other place there broken also.
      let same = one_tree_said kit_language leads refl (chars bytes) broken.said.text also.said.text broken.said.says_it.1 also.said.says_it.1 in
      let verdict = one_verdict law broken.said.text also.said.text (ap unlabelled same) broken.context also.context broken.root also.root
      broken.said.holds also.said.holds in
      one_first_fault (world_of also.context) also.said.holds.tree rule other place there (verdict.first_fault rule place broken.first) also.first;
}
