use Rattle.ir_formats.proofs.Ordered.{front_in_order}
use Rattle.ir_rereading.proofs.laws.fronts_are_ordered.Goals as goal

pub returns : goal.returns
returns c = front_in_order
