use Rattle.ir_rereading.proofs.verdicts.Verdicts.{one_verdict}
use Rattle.ir_rereading.proofs.laws.one_verdict.Goals as goal

pub returns : goal.returns
returns c = one_verdict
