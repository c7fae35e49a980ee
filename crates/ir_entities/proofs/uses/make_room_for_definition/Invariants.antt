use Rattle.std.proofs.Common.{◌≡◌, ◌≤◌, ◌-◌, ◌+◌, ℕ, length}
use Rattle.ir_entities.specs.Links.{list_at}
use Rattle.ir_entities.proofs.uses.make_room_for_definition.Given as goal

abbrev pub invariant-loop-threads : goal.invariant-loop-threads
invariant-loop-threads g l = record {
  grows : length l.fn.threads.lists ≤ length l.threads.lists;
  lists : (c : ℕ) → list_at l.threads.lists c ≡ list_at l.fn.threads.lists c;
}

abbrev pub decreases-loop-threads : goal.decreases-loop-threads
decreases-loop-threads g l = l.definition + 1 - length l.threads.lists
