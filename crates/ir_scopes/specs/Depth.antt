-- Parts that stand too deep in one another.
use Rattle.std.specs.Prelude.{◌≡◌, ℕ, List, Option}
use Rattle.ir_grammar.specs.declared.grammar.Event.{Event}
use Rattle.ir_tokens.specs.declared.faults.Fault.{Fault}
use Rattle.ir_tokens.specs.declared.faults.FaultKind.TheVariants.{TooDeep}
use Rattle.ir_grammar.specs.Reading.{OpensAt, IsFirstDeep}

-- it is met at that token, and placed there
abbrev pub fault_deep : ℕ → Fault
fault_deep k = record { kind = TooDeep; met = k; place = k }

-- One more than 64 regions, types and attributes are open at a token.
abbrev pub IsTooDeep : List Event → Fault → Type 0
IsTooDeep es f = (k : ℕ) × OpensAt 64 0 0 es k × (f ≡ fault_deep k)

-- The first part below 64 others begins at this token, or there is none.
abbrev pub IsFirstTooDeep : List Event → Option ℕ → Type 0
IsFirstTooDeep es first = IsFirstDeep 64 es first
