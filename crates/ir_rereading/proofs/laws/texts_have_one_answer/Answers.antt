use Rattle.ir_rereading.proofs.verdicts.Verdicts.{one_told, no_fault_said}
use Rattle.ir_rereading.proofs.laws.texts_have_one_answer.Goals as goal

pub returns : goal.returns
returns c = record { one = one_told; either = no_fault_said }
