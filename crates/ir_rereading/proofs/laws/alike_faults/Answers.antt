use Rattle.ir_rereading.proofs.verdicts.AlikeFaults.{alike_faults}
use Rattle.ir_rereading.proofs.laws.alike_faults.Goals as goal

pub returns : goal.returns
returns c = alike_faults
