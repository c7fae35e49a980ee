use Rattle.ir_formats.proofs.Ordered.{orders_texts}
use Rattle.ir_rereading.proofs.laws.texts_are_ordered.Goals as goal

pub returns : goal.returns
returns c = orders_texts
