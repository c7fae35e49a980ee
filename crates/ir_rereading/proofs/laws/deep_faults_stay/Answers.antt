use Rattle.ir_scopes.proofs.Depths.{deep_stays, deep_later, deep_some}
use Rattle.ir_rereading.proofs.laws.deep_faults_stay.Goals as goal

pub returns : goal.returns
returns c = record { stays = deep_stays; later = deep_later; some = deep_some }
