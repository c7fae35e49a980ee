use Rattle.opt_inside.proofs.SlotLemmas.{LeadsUpTo}
use Rattle.opt_inside.proofs.numbered_list.SlotTable.of_items.Given as goal

abbrev pub invariant-loop-index : goal.invariant-loop-index
invariant-loop-index g l = LeadsUpTo g.K.Slotted.slot_of l.items l.least l.places l.numbers.items l.index
