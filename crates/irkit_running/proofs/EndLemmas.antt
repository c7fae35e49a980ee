-- How a call ends, from how its parts end.
use Rattle.std.proofs.Common.{◌≡◌, ◌⊎◌, ◌+◌, ℕ, List, Option, Result, Err, arith, inl, inr, length, subst}
use Rattle.std.specs.Prelude.{IsErrAnd}
use Rattle.ir_base.specs.declared.growth.GrowError.{GrowError}
use Rattle.ir_base.specs.declared.growth.GrowError.TheVariants as grow
use Rattle.ir_forest.specs.Closed.{definitions_of}
use Rattle.ir_program.specs.declared.handles.Operation.{Operation}
use Rattle.ir_program.specs.declared.handles.Ptr.{Ptr}
use Rattle.kit.specs.Context.{KitContext}
use Rattle.kit_ops.specs.declared.pass.KitPass.{KitPass}
use Rattle.irkit_streams.specs.Ends.{EndsWriting, GaveAll}
use Rattle.irkit_streams.specs.declared.faults.WriteFault.{WriteFault}
use Rattle.irkit_streams.specs.declared.watched.Watched.{Watched}
use Rattle.irkit_running.proofs.ReadLemmas.{at_error}
use Rattle.irkit_running.specs.Lists.{EndsPasses}
use Rattle.irkit_running.specs.Outcomes.{Accepts, EndsCall, EndsLoad, GivesText, Loads, PassesFillUp, Refuses, RefusesRun}
use Rattle.irkit_refusals.specs.Refusals.{of_grow_error, of_write_fault}
use Rattle.irkit_refusals.specs.Texts.{IsAcceptedAs, Overfills}
use Rattle.irkit_refusals.specs.declared.refusal.Refusal.{Refusal}
use Rattle.irkit_refusals.specs.declared.refusal.Refusal.TheVariants.{NotUtf8, Syntax, TooDeep, Scope, Rule, Memory, CounterFull, Read, Write}

module _ {R : Type 0} (remaining : R → Option (List ℕ)) (old new : Watched R) where
  -- what is refused for one reason to be full is refused for a weaker one
  pub refused_so : (P Q : List ℕ → Type 0) → ((bytes : List ℕ) → P bytes → Q bytes) → (e : Refusal)
      → Refuses remaining old new P e → Refuses remaining old new Q e
  refused_so P Q weaker (NotUtf8 b) h = h
  refused_so P Q weaker (Syntax l k) h = h
  refused_so P Q weaker (TooDeep l k) h = h
  refused_so P Q weaker (Scope l k c) h = h
  refused_so P Q weaker (Rule n p) h = h
  refused_so P Q weaker Memory h = h
  refused_so P Q weaker CounterFull (bytes, gave, full) = (bytes, gave, weaker bytes full)
  refused_so P Q weaker Read h = h
  refused_so P Q weaker (Write b) h = h

  -- a load into a new context that is refused
  pub unloaded : (ctx new_ctx : KitContext) (r : Result (Ptr Operation) Refusal) (e : Refusal) → r ≡ Err e
      → EndsLoad remaining old new ctx new_ctx r → ctx.program.counter ≡ 0 → Refuses remaining old new (Overfills 0) e
  unloaded ctx new_ctx r e was ends fresh =
      subst (λ (n : ℕ). Refuses remaining old new (Overfills n) e) fresh
      (subst (EndsLoad remaining old new ctx new_ctx) was ends).0

  -- so it is of `run`
  pub unloaded_run : (passes : List KitPass) (e : Refusal) → Refuses remaining old new (Overfills 0) e
      → RefusesRun remaining old new passes e
  unloaded_run passes e h =
      refused_so (Overfills 0) (λ bytes. Overfills 0 bytes ⊎ PassesFillUp passes bytes) (λ bytes over. inl over) e h

  passes_refused : {V : Type 0} (text_of : V → List ℕ) (passes : List KitPass) (ctx : KitContext) (root : Ptr Operation)
      (bytes : List ℕ) (e : GrowError) → GaveAll remaining old new bytes → (accepted : IsAcceptedAs bytes ctx root)
      → ctx.program.counter ≡ length (definitions_of accepted.0.text)
      → EndsPasses passes ctx root text_of (Err e) → RefusesRun remaining old new passes (of_grow_error e)
  passes_refused text_of passes ctx root bytes grow.Memory gave accepted counted ends = gave.2
  passes_refused text_of passes ctx root bytes grow.CounterFull gave accepted counted ends =
      (bytes, gave, inr (record { before = ctx; root = root; accepted = accepted; counted = counted; fills = ends }))

  -- passes that are refused, on what was loaded into a new context
  pub unpassed : {V : Type 0} (text_of : V → List ℕ) (passes : List KitPass) (new_ctx ctx : KitContext) (root : Ptr Operation)
      (bytes : List ℕ) (r : Result V GrowError) (e : GrowError) → r ≡ Err e → GaveAll remaining old new bytes
      → Loads bytes new_ctx ctx root → new_ctx.program.counter ≡ 0 → EndsPasses passes ctx root text_of r
      → RefusesRun remaining old new passes (of_grow_error e)
  unpassed text_of passes new_ctx ctx root bytes r e was gave loads fresh ends =
      let n = length (definitions_of loads.accepted.0.text) in
      let moved : ctx.program.counter ≡ new_ctx.program.counter + n = loads.counted in
      let counted : ctx.program.counter ≡ n = omega (arith, moved, fresh) in
      passes_refused text_of passes ctx root bytes e gave loads.accepted counted
      (subst (EndsPasses passes ctx root text_of) was ends)

  -- no text is made then
  pub untexted : {V : Type 0} (passes : List KitPass) (text_of : V → List ℕ) (e : Refusal) (r : Result V Refusal)
      → IsErrAnd r (λ x. x ≡ e) → RefusesRun remaining old new passes e → GivesText remaining old new passes text_of r
  untexted passes text_of e r is refused = at_error (GivesText remaining old new passes text_of) r e is refused

  -- nothing is accepted then
  pub unaccepted : {X : Type 0} (e : Refusal) (r : Result X Refusal) → IsErrAnd r (λ x. x ≡ e)
      → Refuses remaining old new (Overfills 0) e → Accepts remaining old new r
  unaccepted e r is refused = at_error (Accepts remaining old new) r e is refused

module _ {R W : Type 0} (remaining : R → Option (List ℕ)) (contents : W → Option (List ℕ)) (input new_input : Watched R)
    (output new_output : Watched W) where
  unwritten_for : (X : Type 0) (refuses : Refusal → Type 0) (gives : List ℕ → List ℕ → Type 0) (e : Refusal)
      → ((b : ℕ) → refuses (Write b) → ⊥) → refuses e → new_output ≡ output
      → EndsCall remaining contents input new_input output new_output {X = X} refuses gives (Err e)
  unwritten_for X refuses gives (NotUtf8 b) never h same = (h, same)
  unwritten_for X refuses gives (Syntax l k) never h same = (h, same)
  unwritten_for X refuses gives (TooDeep l k) never h same = (h, same)
  unwritten_for X refuses gives (Scope l k c) never h same = (h, same)
  unwritten_for X refuses gives (Rule n p) never h same = (h, same)
  unwritten_for X refuses gives Memory never h same = (h, same)
  unwritten_for X refuses gives CounterFull never h same = (h, same)
  unwritten_for X refuses gives Read never h same = (h, same)
  unwritten_for X refuses gives (Write b) never h same = absurd (never b h)

  -- nothing is written where the input is refused
  pub unwritten : {X : Type 0} (refuses : Refusal → Type 0) (gives : List ℕ → List ℕ → Type 0) (e : Refusal) (r : Result X Refusal)
      → IsErrAnd r (λ x. x ≡ e) → ((b : ℕ) → refuses (Write b) → ⊥) → refuses e → new_output ≡ output
      → EndsCall remaining contents input new_input output new_output refuses gives r
  unwritten {X = X} refuses gives e r is never h same =
      at_error (EndsCall remaining contents input new_input output new_output refuses gives) r e is
      (unwritten_for X refuses gives e never h same)

  -- the one text isn't all written
  pub half_written : {X : Type 0} (refuses : Refusal → Type 0) (gives : List ℕ → List ℕ → Type 0) (bytes text : List ℕ)
      (written : Result (Unit {0}) WriteFault) (f : WriteFault) (r : Result X Refusal) → written ≡ Err f
      → EndsWriting contents output new_output text written → IsErrAnd r (λ x. x ≡ of_write_fault f)
      → GaveAll remaining input new_input bytes → gives bytes text
      → EndsCall remaining contents input new_input output new_output refuses gives r
  half_written refuses gives bytes text written f r was h is gave given =
      at_error (EndsCall remaining contents input new_input output new_output refuses gives) r (of_write_fault f) is
      (bytes, text, gave, given, subst (EndsWriting contents output new_output text) was h)
