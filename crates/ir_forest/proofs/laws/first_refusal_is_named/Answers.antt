use Rattle.ir_forest.proofs.BuiltRefusals.{refusal_is_named}
use Rattle.ir_forest.proofs.laws.first_refusal_is_named.Goals as goal

pub returns : goal.returns
returns c = refusal_is_named
