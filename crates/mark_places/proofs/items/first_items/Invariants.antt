use Rattle.std.proofs.Common.{◌≡◌, ◌≤◌, ℕ, None, drop, get_or, length}
use Rattle.std.specs.Prelude.{◌==◌}
use Rattle.std.specs.List.{position_from}
use Rattle.mark_places.proofs.items.first_items.Given as goal

abbrev pub invariant-loop-item : goal.invariant-loop-item
invariant-loop-item l = (length l.table.items ≡ l.len) × (l.item ≤ length l.ends)
    × ((n : ℕ) → get_or l.table.items n None ≡ position_from (λ end. end == n) l.item (drop l.item l.ends))

abbrev pub decreases-loop-item : goal.decreases-loop-item
decreases-loop-item l = l.item
