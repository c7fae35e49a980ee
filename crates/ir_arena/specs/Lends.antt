-- What an arena ends as, where a `&mut` to one of its values is returned.
use Rattle.std.specs.Prelude.{List, Some, slice_set}
use Rattle.std.specs.Borrow.{Lends, Fml, RattleType, MutBor}
use Rattle.ir_arena.specs.declared.arena.Key.{Key}
use Rattle.ir_arena.specs.declared.arena.Slot.{Slot}
use Rattle.ir_arena.specs.contracts.arena.Arena.{the_row}
use Rattle.ir_arena.specs.contracts.arena.Slot.{the_row as the_slot_row}
use Rattle.ir_arena.specs.Arena.{slot_at}

-- the slot with another value
abbrev pub with_slot_value : {T : Type 0} → Slot T → T → Slot T
with_slot_value s w = record s { value = Some w }

-- the slots with another value where p leads
abbrev pub with_value : {T : Type 0} → List (Slot T) → Key → T → List (Slot T)
with_value slots p w = slice_set slots p.slot (with_slot_value (slot_at slots p.slot) w)

module _ (T : RattleType) where
  abbrev pub lends_slot : MutBor (Slot T.Denot) → MutBor T.Denot → Fml
  lends_slot s r = Lends (the_slot_row T) T s r (with_slot_value s.now)

  abbrev pub lends_value : MutBor (List (Slot T.Denot)) → Key → MutBor T.Denot → Fml
  lends_value s p r = Lends (the_row T) T s r (with_value s.now p)
