use Rattle.ir_formats.proofs.Ordered.{own_tokens}
use Rattle.ir_rereading.proofs.laws.names_have_tokens.Goals as goal

pub returns : goal.returns
returns c = own_tokens
