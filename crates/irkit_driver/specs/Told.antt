-- What is told on the stream for faults.
use Rattle.std.specs.Prelude.{◌≡◌, ℕ, List, Option, Result, Ok, Err, true}
use Rattle.irkit_streams.specs.declared.watched.Watched.{Watched}
use Rattle.irkit_streams.specs.Ends.{TookAll, TookFirst}
use Rattle.irkit_streams.specs.Streams.{has_failed}
use Rattle.irkit_refusals.specs.declared.refusal.ExecutionFault.{ExecutionFault}
use Rattle.irkit_refusals.specs.declared.refusal.ExecutionFault.TheVariants.{Refused, WrongPath, WrongArguments}
use Rattle.irkit_refusals.specs.declared.refusal.Refusal.{Refusal}
use Rattle.irkit_refusals.specs.declared.refusal.Refusal.TheVariants.{Memory}
use Rattle.irkit_words.specs.Lines.{IsFaultLine, memory_line}

module _ {F : Type 0} (contents : F → Option (List ℕ)) (faults new_faults : Watched F) where
  -- A text was told where that could be.
  pub data Told (text : List ℕ) : Type 0 where
    -- the stream took all of it
    whole : TookAll contents faults new_faults text → Told text
    -- the stream took the first bytes of it, and then failed
    cut : (b : ℕ) → TookFirst contents faults new_faults text b → Told text
    -- the stream had failed before, and nothing was written
    silent : has_failed faults ≡ true → new_faults ≡ faults → Told text

  -- The line of a fault was told.
  abbrev pub TellsLine : Type 0
  TellsLine = (line : List ℕ) × IsFaultLine line × Told line

  -- What is told of a call that ended so: nothing where it is done, refused memory's own line, and else a line.
  abbrev pub TellsEnd : {X : Type 0} → Result X Refusal → Type 0
  TellsEnd (Ok _) = new_faults ≡ faults
  TellsEnd (Err Memory) = Told memory_line
  TellsEnd (Err _) = TellsLine

  -- What is told of a run of a function, likewise.
  abbrev pub TellsRun : {X : Type 0} → Result X ExecutionFault → Type 0
  TellsRun (Ok _) = new_faults ≡ faults
  TellsRun (Err (Refused refusal)) = TellsEnd {X = Unit {0}} (Err refusal)
  TellsRun (Err WrongPath) = TellsLine
  TellsRun (Err WrongArguments) = TellsLine
