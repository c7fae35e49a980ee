use Rattle.ir_scopes.proofs.Apart.{are_apart}
use Rattle.ir_rereading.proofs.laws.names_are_apart.Goals as goal

pub returns : goal.returns
returns c = are_apart
