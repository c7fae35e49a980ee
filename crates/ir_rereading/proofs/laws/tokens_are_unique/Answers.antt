use Rattle.ir_tokens.proofs.TokenUnique.{one_reading_lem}
use Rattle.ir_rereading.proofs.laws.tokens_are_unique.Goals as goal

pub returns : goal.returns
returns c = λ cs ts us. one_reading_lem cs 0 ts us
