use Rattle.kit_text_programs.proofs.Passes.CutLists.{lists_cut}
use Rattle.kit_text_programs.proofs.Passes.KitMeant.{kit_meant}
use Rattle.kit_text_programs.proofs.Passes.PassesKeep.{passes_keep}
use Rattle.kit_text_programs.proofs.laws.passes_keep_same.Goals as goal

pub returns : goal.returns
returns c = record {
  same = λ leads others codes other_codes numbered xs t u r q same a b.
      passes_keep codes other_codes leads others numbered xs t u r q same a b;
  cut = lists_cut;
  meant = kit_meant;
}
