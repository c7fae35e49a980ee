-- How a call that runs a function ends, from how its parts end.
use Rattle.std.proofs.Common.{◌≡◌, ◌≢◌, ℕ, zero, suc, ◌<◌, List, [], ◌∷◌, true, false, Option, Some, None, Result, Ok, Err}
use Rattle.std.proofs.Common.{sym, subst, ◌∙◌, arith, length, map, get_or}
use Rattle.std.specs.Prelude.{IfOk, IsErrAnd, MatchOption}
use Rattle.std.specs.Borrow.{Bor}
use Rattle.ir_names.specs.Identifier.{text_of}
use Rattle.ir_names.specs.Text.{is_identifier}
use Rattle.ir_names.specs.declared.identifier.Identifier.{Identifier}
use Rattle.ir_program.specs.declared.handles.Operation.{Operation}
use Rattle.ir_program.specs.declared.handles.Ptr.{Ptr}
use Rattle.kit.specs.Context.{KitContext}
use Rattle.kit_flat.specs.declared.outcome.Outcome.{Outcome}
use Rattle.kit_interpreter.specs.Running.{Runs}
use Rattle.kit_places.specs.Store.{locate}
use Rattle.kit_interpreter.specs.declared.executing.ExecFault.{ExecFault}
use Rattle.kit_interpreter.specs.declared.executing.ExecFault.TheVariants as exec
use Rattle.irkit_streams.specs.Ends.{EndsWriting}
use Rattle.irkit_streams.specs.declared.faults.WriteFault.{WriteFault}
use Rattle.irkit_streams.specs.declared.watched.Watched.{Watched}
use Rattle.irkit_running.proofs.ReadLemmas.{at_error}
use Rattle.irkit_running.specs.Outcomes.{Loads, EndsExecution, EndsLoad, EndsReport, ExecutionGives, GaveAnswer, GivesOutcome, Refuses}
use Rattle.irkit_running.specs.Paths.{IsAnswerOfRun, SaysPath, names_in}
use Rattle.irkit_refusals.specs.Refusals.{of_exec_fault, of_write_fault}
use Rattle.irkit_running.specs.Reports.{lines_of}
use Rattle.irkit_refusals.specs.Texts.{Overfills}
use Rattle.irkit_refusals.specs.declared.refusal.ExecutionFault.{ExecutionFault}
use Rattle.irkit_refusals.specs.declared.refusal.ExecutionFault.TheVariants.{Refused, WrongPath, WrongArguments}
use Rattle.irkit_refusals.specs.declared.refusal.Refusal.{Refusal}
use Rattle.irkit_refusals.specs.declared.refusal.Refusal.TheVariants.{NotUtf8, Syntax, TooDeep, Scope, Rule, Memory, CounterFull, Read, Write}

-- texts of which one is no identifier are not those of identifiers
pub not_names : (texts : List (Bor (List ℕ))) (i : ℕ) (d : Bor (List ℕ)) → i < length texts
    → is_identifier (get_or texts i d).now ≡ false
    → (names : List Identifier) → map text_of names ≢ map (λ (t : Bor (List ℕ)). t.now) texts
not_names [] i d lt other names e = omega arith
not_names (t ∷ ts) i d lt other [] e = cc
not_names (t ∷ ts) zero d lt other (name ∷ names) e =
    let head : text_of name ≡ t.now = cc in
    let valid : is_identifier (text_of name) ≡ true = name.valid in
    let so : is_identifier t.now ≡ true = subst (λ text. is_identifier text ≡ true) head valid in
    cc
not_names (t ∷ ts) (suc i) d lt other (name ∷ names) e =
    let tail : map text_of names ≡ map (λ (t : Bor (List ℕ)). t.now) ts = cc in
    not_names ts i d (omega arith) other names tail

-- the path that a word says, from the identifiers of its parts
pub path_found : {V E : Type 0} (items : V → List Identifier) (word : List ℕ) (texts : List (List ℕ))
    (r : Result (Option V) E) → texts ≡ names_in word
    → IfOk r (λ o. MatchOption o ((names : List Identifier) → map text_of names ≢ texts) (λ v. map text_of (items v) ≡ texts))
    → IfOk r (λ o. MatchOption o ((names : List Identifier) → SaysPath word names → ⊥) (λ v. SaysPath word (items v)))
path_found items word texts (Ok None) same h = λ names says. h names (says ∙ sym same)
path_found items word texts (Ok (Some v)) same h = h ∙ same
path_found items word texts (Err e) same h = tt

module _ (s : KitContext) (root : Ptr Operation) (word xs : List ℕ) (limit : ℕ) where
  -- the answer of the run at a path that the word says
  pub answers_at : (path : List Identifier) (answer : Result Outcome ExecFault) → SaysPath word path
      → Runs s root path xs limit answer
      → IsAnswerOfRun s root word xs limit answer
  answers_at path (Ok outcome) says runs = (path, says, runs)
  answers_at path (Err exec.Memory) says runs = tt
  answers_at path (Err exec.WrongPath) says runs = λ other also.
      subst (λ texts. locate s.program root texts ≡ None) (says ∙ sym also) runs
  answers_at path (Err exec.WrongArguments) says runs = (path, says, runs)

-- the run in a module that was loaded is the run in what the bytes say
pub answered : (bytes : List ℕ) (old ctx : KitContext) (root : Ptr Operation) (word xs : List ℕ) (limit : ℕ)
    (answer : Result Outcome ExecFault)
    → Loads bytes old ctx root → IsAnswerOfRun ctx root word xs limit answer → ExecutionGives bytes word xs limit answer
answered bytes old ctx root word xs limit answer loads answers =
    record { context = ctx; root = root; accepted = loads.accepted; answers = answers }

module _ {R : Type 0} (remaining : R → Option (List ℕ)) (old new : Watched R) (word xs : List ℕ) (limit : ℕ) where
  -- the answer of the run in a module that was loaded
  pub gave : (ctx new_ctx : KitContext) (root : Ptr Operation) (answer : Result Outcome ExecFault)
      → EndsLoad remaining old new ctx new_ctx (Ok root)
      → IsAnswerOfRun new_ctx root word xs limit answer → GaveAnswer remaining old new word xs limit answer
  gave ctx new_ctx root answer ends answers =
      (ends.0, ends.1, answered ends.0 ctx new_ctx root word xs limit answer ends.2 answers)

  not_ran_for : (f : ExecFault) → GaveAnswer remaining old new word xs limit (Err f)
      → GivesOutcome remaining old new word xs limit (Err (of_exec_fault f))
  not_ran_for exec.Memory h = h.1.2
  not_ran_for exec.WrongPath h = h
  not_ran_for exec.WrongArguments h = h

  -- a run that is refused
  pub not_ran : (answer : Result Outcome ExecFault) (f : ExecFault) (r : Result Outcome ExecutionFault) → answer ≡ Err f
      → IsErrAnd r (λ x. x ≡ of_exec_fault f) → GaveAnswer remaining old new word xs limit answer → GivesOutcome remaining old new word xs limit r
  not_ran answer f r was is h =
      at_error (GivesOutcome remaining old new word xs limit) r (of_exec_fault f) is
      (not_ran_for f (subst (GaveAnswer remaining old new word xs limit) was h))

  -- a module that isn't loaded
  pub not_loaded : (e : Refusal) (r : Result Outcome ExecutionFault) → IsErrAnd r (λ x. x ≡ Refused e)
      → Refuses remaining old new (Overfills 0) e → GivesOutcome remaining old new word xs limit r
  not_loaded e r is h = at_error (GivesOutcome remaining old new word xs limit) r (Refused e) is h

-- lines that aren't all written
pub half_lines : {W X : Type 0} (contents : W → Option (List ℕ)) (old new : Watched W) (outcome : Outcome) (text : List ℕ)
    (written : Result (Unit {0}) WriteFault) (f : WriteFault) (r : Result X Refusal) → text ≡ lines_of outcome → written ≡ Err f
    → EndsWriting contents old new text written → IsErrAnd r (λ x. x ≡ of_write_fault f) → EndsReport contents old new outcome r
half_lines contents old new outcome text written f r spelt was h is =
    at_error (EndsReport contents old new outcome) r (of_write_fault f) is
    (subst (λ t. EndsWriting contents old new t {X = Unit {0}} (Err f)) spelt (subst (EndsWriting contents old new text) was h))

module _ {R W : Type 0} (remaining : R → Option (List ℕ)) (contents : W → Option (List ℕ)) (input new_input : Watched R)
    (output new_output : Watched W) (word xs : List ℕ) (limit : ℕ) where
  unreported_for : (f : ExecutionFault) → GivesOutcome remaining input new_input word xs limit (Err f) → new_output ≡ output
      → EndsExecution remaining contents input new_input output new_output word xs limit (Err f)
  unreported_for (Refused (NotUtf8 b)) h same = (h, same)
  unreported_for (Refused (Syntax l k)) h same = (h, same)
  unreported_for (Refused (TooDeep l k)) h same = (h, same)
  unreported_for (Refused (Scope l k c)) h same = (h, same)
  unreported_for (Refused (Rule n p)) h same = (h, same)
  unreported_for (Refused Memory) h same = (h, same)
  unreported_for (Refused CounterFull) h same = (h, same)
  unreported_for (Refused Read) h same = (h, same)
  unreported_for (Refused (Write b)) h same = absurd h
  unreported_for WrongPath h same = (h, same)
  unreported_for WrongArguments h same = (h, same)

  -- nothing is written where there is no run
  pub unreported : (given : Result Outcome ExecutionFault) (f : ExecutionFault) (r : Result Outcome ExecutionFault)
      → given ≡ Err f → IsErrAnd r (λ x. x ≡ f) → GivesOutcome remaining input new_input word xs limit given → new_output ≡ output
      → EndsExecution remaining contents input new_input output new_output word xs limit r
  unreported given f r was is h same =
      at_error (EndsExecution remaining contents input new_input output new_output word xs limit) r f is
      (unreported_for f (subst (GivesOutcome remaining input new_input word xs limit) was h) same)

  half_reported_for : (outcome : Outcome) (e : Refusal) → GaveAnswer remaining input new_input word xs limit (Ok outcome)
      → EndsReport contents output new_output outcome {X = Unit {0}} (Err e)
      → EndsExecution remaining contents input new_input output new_output word xs limit (Err (Refused e))
  half_reported_for outcome (NotUtf8 b) gave h = absurd h
  half_reported_for outcome (Syntax l k) gave h = absurd h
  half_reported_for outcome (TooDeep l k) gave h = absurd h
  half_reported_for outcome (Scope l k c) gave h = absurd h
  half_reported_for outcome (Rule n p) gave h = absurd h
  half_reported_for outcome Memory gave h = (gave.1.2, h)
  half_reported_for outcome CounterFull gave h = absurd h
  half_reported_for outcome Read gave h = absurd h
  half_reported_for outcome (Write b) gave h = (outcome, gave, h)

  -- the lines of a run that aren't all written
  pub half_reported : (outcome : Outcome) (told : Result (Unit {0}) Refusal) (e : Refusal) (r : Result Outcome ExecutionFault)
      → told ≡ Err e → IsErrAnd r (λ x. x ≡ Refused e) → GaveAnswer remaining input new_input word xs limit (Ok outcome)
      → EndsReport contents output new_output outcome told
      → EndsExecution remaining contents input new_input output new_output word xs limit r
  half_reported outcome told e r was is gave h =
      at_error (EndsExecution remaining contents input new_input output new_output word xs limit) r (Refused e) is
      (half_reported_for outcome e gave (subst (EndsReport contents output new_output outcome) was h))
