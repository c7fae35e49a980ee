use Rattle.std.proofs.Common.{arith}
use Rattle.mark_places.proofs.ItemLemmas.{found_first}
use Rattle.mark_places.proofs.items.first_items.Goals as goal

pub returns : goal.returns
returns c tokens = found_first _ tokens c.loop-item.item _ (omega arith) (c.loop-item.invariant.2 tokens)
