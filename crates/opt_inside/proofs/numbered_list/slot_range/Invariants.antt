use Rattle.opt_inside.proofs.SlotLemmas.{HaveSlotsUpTo}
use Rattle.opt_inside.proofs.numbered_list.slot_range.Given as goal

abbrev pub invariant-loop-item : goal.invariant-loop-item
invariant-loop-item g l = HaveSlotsUpTo g.K.Slotted.slot_of l.items l.item-index l.least l.greatest
