-- Where operations end.
use Rattle.std.specs.Prelude.{ℕ, ◌+◌, ◌<◌, Bool, true, false, List, [], ◌∷◌, Some, None, if◌then◌else◌}
use Rattle.ir_grammar.specs.declared.grammar.Action.{Action}
use Rattle.ir_grammar.specs.declared.grammar.Action.TheVariants.{EndOperation}
use Rattle.ir_grammar.specs.declared.grammar.Event.{Event}
use Rattle.ir_grammar.specs.declared.grammar.Event.TheVariants.{Took, Did}
use Rattle.mark_places.specs.Items.{with_end}

-- the action ends an operation
abbrev pub ends_operation : Action → Bool
ends_operation EndOperation = true
ends_operation _ = false

-- the numbers of tokens behind which operations end, where so many tokens are taken before these events
abbrev pub operation_ends_behind : ℕ → List Event → List ℕ
operation_ends_behind taken [] = []
operation_ends_behind taken (Took ∷ es) = operation_ends_behind (taken + 1) es
operation_ends_behind taken (Did a ∷ es) = with_end (if ends_operation a then Some taken else None) (operation_ends_behind taken es)

-- the same of all events
abbrev pub operation_ends : List Event → List ℕ
operation_ends es = operation_ends_behind 0 es

-- each number is above the one before it, and the first one above this one
abbrev pub AreRising : ℕ → List ℕ → Type 0
AreRising last [] = Unit {0}
AreRising last (end ∷ ends) = (last < end) × AreRising end ends
