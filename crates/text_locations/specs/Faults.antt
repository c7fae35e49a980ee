-- Faults at places.
use Rattle.std.specs.Prelude.{◌≡◌, false}
use Rattle.text_streams.specs.declared.faults.ParseFault.{ParseFault}
use Rattle.text_streams.specs.declared.faults.TextError.{TextError}
use Rattle.text_streams.specs.declared.faults.TextError.TheVariants.{Memory}
use Rattle.text_streams.specs.declared.position.Position.{Position}
use Rattle.text_streams.specs.Positions.{place}

-- The fault is at this place, for this cause, and nothing was read before it.
pub record IsFaultAt (position : Position) (why : TextError) (fault : ParseFault) : Type 0 where
  pub here : place position ≡ (fault.line, fault.column)
  pub cause : fault.cause ≡ why
  pub unconsumed : fault.consumed ≡ false

-- memory was refused
abbrev pub IsMemory : ParseFault → Type 0
IsMemory fault = fault.cause ≡ Memory
