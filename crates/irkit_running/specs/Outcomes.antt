-- How loading, passes, runs and their writing end, each by cases on the whole answer.
use Rattle.std.specs.Prelude.{◌≡◌, ℕ, ◌+◌, ◌^◌, ◌⊎◌, ◌∷◌, [], false, List, map, Option, Result, Ok, Err, length}
use Rattle.ir_forest.specs.Closed.{definitions_of}
use Rattle.ir_program.specs.declared.handles.IRNode.TheVariants.{Operation as OperationNode}
use Rattle.ir_program.specs.declared.handles.Operation.{Operation}
use Rattle.ir_program.specs.declared.handles.Ptr.{Ptr}
use Rattle.kit.specs.Context.{KitContext}
use Rattle.kit_flat.specs.declared.outcome.Outcome.{Outcome}
use Rattle.kit_interpreter.specs.declared.executing.ExecFault.{ExecFault}
use Rattle.kit_interpreter.specs.declared.executing.ExecFault.TheVariants as exec
use Rattle.kit_ruled_passes.specs.Held.{HoldsModule}
use Rattle.kit_optimiser.specs.Passed.{FillsUp, pass_of}
use Rattle.kit_ops.specs.declared.pass.KitPass.{KitPass}
use Rattle.text_frames.specs.building.Kept.{SameSeen}
use Rattle.text_dialect.specs.Seen.{seen}
use Rattle.text_frames.specs.Raised.{HoldsAllNew}
use Rattle.irkit_streams.specs.declared.watched.Watched.{Watched}
use Rattle.irkit_streams.specs.Streams.{has_failed}
use Rattle.irkit_streams.specs.Ends.{FailsReading, GaveAll, TookAll, TookFirst}
use Rattle.irkit_refusals.specs.declared.refusal.Refusal.{Refusal}
use Rattle.irkit_refusals.specs.declared.refusal.Refusal.TheVariants.{Memory, CounterFull, Read, Write}
use Rattle.irkit_refusals.specs.declared.refusal.ExecutionFault.{ExecutionFault}
use Rattle.irkit_refusals.specs.declared.refusal.ExecutionFault.TheVariants.{Refused, WrongPath, WrongArguments}
use Rattle.irkit_running.specs.Lists.{PassesGive}
use Rattle.irkit_running.specs.Paths.{IsAnswerOfRun}
use Rattle.irkit_refusals.specs.Refusals.{Deserves}
use Rattle.irkit_running.specs.Reports.{lines_of}
use Rattle.irkit_refusals.specs.Texts.{IsAcceptedAs, Overfills, SaysModule}

-- The bytes are accepted as this operation of the new context, which holds a module there; it is in no block, and all
-- that has come is inside it. All that the old context held stands as it stood, and the counter has moved on by the
-- number of the text's definitions.
pub record Loads (bytes : List ℕ) (ctx new_ctx : KitContext) (root : Ptr Operation) : Type 0 where
  pub accepted : IsAcceptedAs bytes new_ctx root
  pub holds : HoldsModule new_ctx root
  pub new : HoldsAllNew (seen ctx) (seen new_ctx) (OperationNode root ∷ [])
  pub counted : new_ctx.program.counter ≡ ctx.program.counter + length (definitions_of accepted.0.text)

module _ {R : Type 0} (remaining : R → Option (List ℕ)) (old new : Watched R) where
  -- Why a load is refused: a read failed or 2^40 reads didn't meet the end, memory was refused, or all bytes that were
  -- given deserve it or overfill the context.
  abbrev pub Refuses : (List ℕ → Type 0) → Refusal → Type 0
  Refuses overfill Read = FailsReading remaining old new (2 ^ 40)
  Refuses overfill Memory = has_failed new ≡ false
  Refuses overfill CounterFull = (bytes : List ℕ) × GaveAll remaining old new bytes × overfill bytes
  Refuses overfill (Write b) = ⊥
  Refuses overfill fault = (bytes : List ℕ) × GaveAll remaining old new bytes × Deserves bytes fault

  -- A load: all that the reader gave is accepted, and the root is what it says; a refusal leaves what the context holds
  -- as it was.
  abbrev pub EndsLoad : KitContext → KitContext → Result (Ptr Operation) Refusal → Type 0
  EndsLoad ctx new_ctx (Ok root) = (bytes : List ℕ) × GaveAll remaining old new bytes × Loads bytes ctx new_ctx root
  EndsLoad ctx new_ctx (Err refusal) = Refuses (Overfills ctx.program.counter) refusal × SameSeen (seen ctx) (seen new_ctx)

module _ {R : Type 0} (remaining : R → Option (List ℕ)) (old new : Watched R) where
  -- All that the reader gave says a module, or it is refused as a load into a new context is.
  abbrev pub Accepts : {X : Type 0} → Result X Refusal → Type 0
  Accepts (Ok _) = (bytes : List ℕ) × GaveAll remaining old new bytes × SaysModule bytes
  Accepts (Err refusal) = Refuses remaining old new (Overfills 0) refusal

-- From bytes to a module of the context: a refusal that the bytes deserve, or of memory or where they overfill the
-- context, leaves what the context holds as it was.
abbrev pub Understands : List ℕ → KitContext → KitContext → Result (Ptr Operation) Refusal → Type 0
Understands bytes ctx new_ctx (Ok root) = Loads bytes ctx new_ctx root
Understands bytes ctx new_ctx (Err Memory) = SameSeen (seen ctx) (seen new_ctx)
Understands bytes ctx new_ctx (Err CounterFull) = Overfills ctx.program.counter bytes × SameSeen (seen ctx) (seen new_ctx)
Understands bytes ctx new_ctx (Err fault) = Deserves bytes fault × SameSeen (seen ctx) (seen new_ctx)

-- What `run` writes for these bytes: they are accepted as an operation of a context, and the text is what the passes
-- give of it.
pub record RunGives (passes : List KitPass) (bytes text : List ℕ) : Type 0 where
  pub before : KitContext
  pub root : Ptr Operation
  pub accepted : IsAcceptedAs bytes before root
  pub gives : PassesGive passes before root text

-- the line `ok`
abbrev pub ok_line : List ℕ
ok_line = 111 ∷ 107 ∷ 10 ∷ []

-- What `check` writes for these bytes: the line `ok`, where they say a module.
abbrev pub CheckGives : List ℕ → List ℕ → Type 0
CheckGives bytes text = SaysModule bytes × (text ≡ ok_line)

-- The bytes are accepted as an operation of a context whose values were numbered from 0 on, as those of a new one are, and
-- some of the passes leave too few numbers for the next.
pub record PassesFillUp (passes : List KitPass) (bytes : List ℕ) : Type 0 where
  pub before : KitContext
  pub root : Ptr Operation
  pub accepted : IsAcceptedAs bytes before root
  pub counted : before.program.counter ≡ length (definitions_of accepted.0.text)
  pub fills : FillsUp (map pass_of passes) before root

module _ {R : Type 0} (remaining : R → Option (List ℕ)) (old new : Watched R) (passes : List KitPass) where
  -- Why `run` is refused before it writes: as a load into a new context is, or after some of the passes too few numbers
  -- of values are left for the next.
  abbrev pub RefusesRun : Refusal → Type 0
  RefusesRun refusal = Refuses remaining old new (λ bytes. Overfills 0 bytes ⊎ PassesFillUp passes bytes) refusal

  -- From all that the reader gave a text was made, as `run` writes it, or it was refused.
  abbrev pub GivesText : {V : Type 0} → (V → List ℕ) → Result V Refusal → Type 0
  GivesText text_of (Ok text) = (bytes : List ℕ) × GaveAll remaining old new bytes × RunGives passes bytes (text_of text)
  GivesText text_of (Err refusal) = RefusesRun refusal

module _ {R W : Type 0} (remaining : R → Option (List ℕ)) (contents : W → Option (List ℕ))
    (input new_input : Watched R) (output new_output : Watched W) where
  -- A call that reads all bytes into a new context and writes the one text that it gives for them: at a failed write
  -- exactly the first bytes of it, at any other refusal nothing.
  abbrev pub EndsCall : {X : Type 0} → (Refusal → Type 0) → (List ℕ → List ℕ → Type 0) → Result X Refusal → Type 0
  EndsCall refuses gives (Ok _) =
      (bytes text : List ℕ) × GaveAll remaining input new_input bytes × gives bytes text
      × TookAll contents output new_output text
  EndsCall refuses gives (Err (Write b)) =
      (bytes text : List ℕ) × GaveAll remaining input new_input bytes × gives bytes text
      × TookFirst contents output new_output text b
  EndsCall refuses gives (Err refusal) = refuses refusal × (new_output ≡ output)

  -- how `run` ends
  abbrev pub EndsRun : {X : Type 0} → List KitPass → Result X Refusal → Type 0
  EndsRun passes outcome = EndsCall (RefusesRun remaining input new_input passes) (RunGives passes) outcome

  -- how `check` ends
  abbrev pub EndsCheck : {X : Type 0} → Result X Refusal → Type 0
  EndsCheck outcome = EndsCall (Refuses remaining input new_input (Overfills 0)) CheckGives outcome

module _ {W : Type 0} (contents : W → Option (List ℕ)) (old new : Watched W) (outcome : Outcome) where
  -- The lines of a run are made and then written: nothing is written where memory is refused.
  abbrev pub EndsReport : {X : Type 0} → Result X Refusal → Type 0
  EndsReport (Ok _) = TookAll contents old new (lines_of outcome)
  EndsReport (Err (Write b)) = TookFirst contents old new (lines_of outcome) b
  EndsReport (Err Memory) = new ≡ old
  EndsReport (Err _) = ⊥

-- The bytes are accepted as an operation of a context, and this is the answer of the run there of the function at the
-- path that the word says.
pub record ExecutionGives (bytes word xs : List ℕ) (limit : ℕ) (answer : Result Outcome ExecFault) : Type 0 where
  pub context : KitContext
  pub root : Ptr Operation
  pub accepted : IsAcceptedAs bytes context root
  pub answers : IsAnswerOfRun context root word xs limit answer

module _ {R : Type 0} (remaining : R → Option (List ℕ)) (old new : Watched R) (word xs : List ℕ) (limit : ℕ) where
  -- All bytes that the reader gave are accepted, and the run of the function that the word says has this answer.
  abbrev pub GaveAnswer : Result Outcome ExecFault → Type 0
  GaveAnswer answer = (bytes : List ℕ) × GaveAll remaining old new bytes × ExecutionGives bytes word xs limit answer

  -- How a module is read and its function run: what the run did, or why the module or the run is refused.
  abbrev pub GivesOutcome : Result Outcome ExecutionFault → Type 0
  GivesOutcome (Ok outcome) = GaveAnswer (Ok outcome)
  GivesOutcome (Err (Refused refusal)) = Refuses remaining old new (Overfills 0) refusal
  GivesOutcome (Err WrongPath) = GaveAnswer (Err exec.WrongPath)
  GivesOutcome (Err WrongArguments) = GaveAnswer (Err exec.WrongArguments)

module _ {R W : Type 0} (remaining : R → Option (List ℕ)) (contents : W → Option (List ℕ))
    (input new_input : Watched R) (output new_output : Watched W) (word xs : List ℕ) (limit : ℕ) where
  -- How `irkit run` ends: the writer took the lines of the run, or where a write failed the first bytes of them. At any
  -- other fault nothing was written.
  abbrev pub EndsExecution : Result Outcome ExecutionFault → Type 0
  EndsExecution (Ok outcome) =
      GaveAnswer remaining input new_input word xs limit (Ok outcome)
      × TookAll contents output new_output (lines_of outcome)
  EndsExecution (Err (Refused (Write b))) =
      (outcome : Outcome) × GaveAnswer remaining input new_input word xs limit (Ok outcome)
      × TookFirst contents output new_output (lines_of outcome) b
  EndsExecution (Err (Refused refusal)) =
      Refuses remaining input new_input (Overfills 0) refusal × (new_output ≡ output)
  EndsExecution (Err WrongPath) =
      GaveAnswer remaining input new_input word xs limit (Err exec.WrongPath) × (new_output ≡ output)
  EndsExecution (Err WrongArguments) =
      GaveAnswer remaining input new_input word xs limit (Err exec.WrongArguments) × (new_output ≡ output)
