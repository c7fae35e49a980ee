use Rattle.ir_scopes.proofs.ScopeFronts.{stays, later}
use Rattle.ir_rereading.proofs.laws.scope_faults_stay.Goals as goal

pub returns : goal.returns
returns c = record { stays = λ isolated names es more. stays isolated names es more; later = λ isolated names es more. later isolated names es more }
