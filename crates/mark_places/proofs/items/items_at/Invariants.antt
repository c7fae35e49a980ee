use Rattle.std.proofs.Common.{◌≡◌, None, get_or, map, take}
use Rattle.mark_places.proofs.items.items_at.Given as goal

abbrev pub invariant-loop-mark : goal.invariant-loop-mark
invariant-loop-mark l = l.items.items ≡ map (λ m. get_or l.table m.tokens_before None) (take l.mark-index l.marks)
