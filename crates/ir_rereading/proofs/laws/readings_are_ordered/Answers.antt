use Rattle.ir_formats.proofs.Ordered.{reading_in_order, text_ends}
use Rattle.ir_rereading.proofs.laws.readings_are_ordered.Goals as goal

pub returns : goal.returns
returns c = record { order = reading_in_order; ends = text_ends }
