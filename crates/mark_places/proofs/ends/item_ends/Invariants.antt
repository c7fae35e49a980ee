use Rattle.std.proofs.Common.{◌≡◌, ◌++◌, ◌≤◌, drop}
use Rattle.mark_places.specs.Items.{ends_behind, ends_of}
use Rattle.mark_places.proofs.ends.item_ends.Given as goal

abbrev pub invariant-loop-event : goal.invariant-loop-event
invariant-loop-event l = (l.taken ≤ l.event-index)
    × (l.ends.items ++ ends_behind l.taken (drop l.event-index l.events) ≡ ends_of l.events)
