use Rattle.std.proofs.Common.{◌≡◌, ◌+◌, ◌≤◌, drop}
use Rattle.ir_grammar.specs.Reading.{tooks}
use Rattle.mark_places.proofs.items.tokens_taken.Given as goal

abbrev pub invariant-loop-event : goal.invariant-loop-event
invariant-loop-event l = (l.taken ≤ l.event-index) × (l.taken + tooks (drop l.event-index l.events) ≡ tooks l.events)
