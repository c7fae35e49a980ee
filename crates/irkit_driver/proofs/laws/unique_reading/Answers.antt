use Rattle.std.proofs.Common.{refl, chars}
use Rattle.ir_rereading.proofs.OneTree.{one_tree_said}
use Rattle.ir_rereading.proofs.verdicts.Verdicts.{one_told, no_fault_said}
use Rattle.kit.specs.Leads.{leads}
use Rattle.kit_language.specs.Language.{kit_language}
use Rattle.irkit_driver.proofs.laws.unique_reading.Goals as goal

pub returns : goal.returns
returns c = record {
  one = λ bytes f g h k. one_told kit_language leads refl (chars bytes) f g h.1 k.1;
  either = λ bytes f tree h k. no_fault_said kit_language leads refl (chars bytes) f tree h.1 k.1;
  one_tree = λ bytes text other h k. one_tree_said kit_language leads refl (chars bytes) text other h.1 k.1;
}
