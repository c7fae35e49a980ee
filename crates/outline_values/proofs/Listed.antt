-- Names in brackets.
use Rattle.std.proofs.Common.{◌≡◌, List, [], Option, Result, Ok, Err, IfOk, inr, subst}
use Rattle.ir_names.specs.declared.identifier.Identifier.{Identifier}
use Rattle.text_streams.specs.declared.position.Position.{Position}
use Rattle.outline_values.specs.Names.{AddsName, AreNames, first_name, SaysNames}
use Rattle.outline_values.specs.Places.{TakesSign}

pub first_of : (from : Position) (old new : List (Option Identifier)) (to : Position) → old ≡ [] → AddsName from old new to → AreNames from new to
first_of from old new to e h = first_name (subst (λ (xs : List (Option Identifier)). AddsName from xs new to) e h)

-- how reading ends behind the names
pub ends_listed : (from start end : Position) (names : List (Option Identifier)) {E : Type 0} (result : Result Position E) → TakesSign 91 from start
    → AreNames start names end → IfOk result (TakesSign 93 end) → IfOk result (SaysNames from names)
ends_listed from start end names (Ok to) h k s = record { start = start; open_bracket = h; end = end; inside = inr k; close_bracket = s }
ends_listed from start end names (Err e) h k s = s
