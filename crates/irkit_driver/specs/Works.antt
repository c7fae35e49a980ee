-- What the program does on its words, and its status.
use Rattle.std.specs.Prelude.{◌≡◌, ℕ, List, Option, Result, Ok, Err, string_bytes}
use Rattle.clap.specs.Words.{Text}
use Rattle.irkit_streams.specs.declared.watched.Watched.{Watched}
use Rattle.irkit_streams.specs.Ends.{TookAll, TookFirst}
use Rattle.irkit_refusals.specs.declared.refusal.ExecutionFault.{ExecutionFault}
use Rattle.irkit_refusals.specs.declared.refusal.Refusal.{Refusal}
use Rattle.irkit_running.specs.Outcomes.{EndsCheck, EndsExecution, EndsRun}
use Rattle.kit_flat.specs.declared.outcome.Outcome.{Outcome}
use Rattle.kit_flat.specs.declared.outcome.Outcome.TheVariants.{Ended, Trapped, Limit}
use Rattle.irkit_words.specs.Lines.{memory_line}
use Rattle.irkit_words.specs.Parses.{ParseAs}
use Rattle.irkit_words.specs.declared.parsing.Parsed.{Parsed}
use Rattle.irkit_words.specs.declared.parsing.Parsed.TheVariants.{Asked, Mistaken, HelpWanted, VersionWanted, NoMemory}
use Rattle.irkit_words.specs.declared.request.Execution.{Execution}
use Rattle.irkit_words.specs.declared.request.Request.{Request}
use Rattle.irkit_words.specs.declared.request.Request.TheVariants.{Check, Optimise, Run}
use Rattle.irkit_driver.specs.Told.{TellsEnd, TellsLine, TellsRun, Told}

-- the status of a call that ended so
abbrev pub status_of : {X : Type 0} → Result X Refusal → ℕ
status_of (Ok _) = 0
status_of (Err _) = 1

-- the status of a run of a function
abbrev pub run_status : Result Outcome ExecutionFault → ℕ
run_status (Ok (Ended values emissions)) = 0
run_status (Ok (Trapped emissions)) = 3
run_status (Ok (Limit emissions)) = 4
run_status (Err fault) = 1

module _ {F : Type 0} (told : F → Option (List ℕ)) (faults new_faults : Watched F) where
  -- A call ended as it may, it was told how, and the program ends with its status.
  pub record Finishes (may_end : Result (Unit {0}) Refusal → Type 0) (status : ℕ) : Type 0 where
    pub outcome : Result (Unit {0}) Refusal
    pub does : may_end outcome
    pub tells : TellsEnd told faults new_faults outcome
    pub ends : status ≡ status_of outcome

  module _ {W : Type 0} (contents : W → Option (List ℕ)) (output new_output : Watched W) (text : List ℕ) where
    -- A text that was asked for is written on the output, or its first bytes are.
    pub data Shows : ℕ → Type 0 where
      -- all of it, and nothing is told
      whole : {status : ℕ} → status ≡ 0 → TookAll contents output new_output text → new_faults ≡ faults → Shows status
      -- the output took the first bytes of it, and then failed, of which a line is told
      cut : {status : ℕ} → (b : ℕ) → status ≡ 1 → TookFirst contents output new_output text b
          → TellsLine told faults new_faults → Shows status

module _ {R W F : Type 0} (remaining : R → Option (List ℕ)) (contents : W → Option (List ℕ)) (told : F → Option (List ℕ))
    (input new_input : Watched R) (output new_output : Watched W) (faults new_faults : Watched F) where
  -- nothing was read, and nothing was written on the output
  abbrev pub IsUntouched : Type 0
  IsUntouched = (new_input ≡ input) × (new_output ≡ output)

  -- A function was run, it was told how that ended, and the program ends with the status of the run.
  pub record Executes (execution : Execution) (status : ℕ) : Type 0 where
    pub outcome : Result Outcome ExecutionFault
    pub does : EndsExecution remaining contents input new_input output new_output (string_bytes execution.path)
        execution.arguments.items execution.limit outcome
    pub tells : TellsRun told faults new_faults outcome
    pub ends : status ≡ run_status outcome

  -- The call for this request was made, and the program ends with its status.
  abbrev pub Serves : Request → ℕ → Type 0
  Serves Check status = Finishes told faults new_faults
      (λ outcome. EndsCheck remaining contents input new_input output new_output outcome) status
  Serves (Optimise passes) status = Finishes told faults new_faults
      (λ outcome. EndsRun remaining contents input new_input output new_output passes.items outcome) status
  Serves (Run execution) status = Executes execution status

  -- What is done where the words come to this, and the status: 2 for a mistake alone, which is told; 1 with nothing
  -- done only where memory was refused, which is told, too.
  abbrev pub Answers : Parsed → ℕ → Type 0
  Answers (Asked request) status = Serves request status
  Answers (Mistaken line) status = (status ≡ 2) × IsUntouched × Told told faults new_faults (string_bytes line)
  Answers (HelpWanted text) status =
      (new_input ≡ input) × Shows told faults new_faults contents output new_output (string_bytes text) status
  Answers (VersionWanted text) status =
      (new_input ≡ input) × Shows told faults new_faults contents output new_output (string_bytes text) status
  Answers NoMemory status = (status ≡ 1) × IsUntouched × Told told faults new_faults memory_line

  -- What the program does on its words: what they come to, and what is done then.
  pub record Drives (words : List Text) (status : ℕ) : Type 0 where
    pub parsed : Parsed
    pub parse : ParseAs words parsed
    pub answer : Answers parsed status
