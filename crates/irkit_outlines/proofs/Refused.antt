-- Why bytes that are all there aren't read.
use Rattle.std.proofs.Common.{◌≡◌, ℕ, List, ◌++◌, Option, Some, Result, Err, Ok, ap, subst, sym, ◌∙◌}
use Rattle.std.specs.Prelude.{IfErr}
use Rattle.std.proofs.lemmas.List.{append-nil}
use Rattle.ir_program.specs.declared.handles.Operation.{Operation}
use Rattle.ir_program.specs.declared.handles.Ptr.{Ptr}
use Rattle.kit.specs.Context.{KitContext}
use Rattle.irkit_refusals.specs.Refusals.{Deserves}
use Rattle.irkit_refusals.specs.Texts.{Overfills}
use Rattle.irkit_refusals.specs.declared.refusal.Refusal.{Refusal}
use Rattle.irkit_refusals.specs.declared.refusal.Refusal.TheVariants.{NotUtf8, Syntax, TooDeep, Scope, Rule, Memory, CounterFull, Read, Write}
use Rattle.irkit_running.specs.Outcomes.{EndsLoad, Refuses}
use Rattle.irkit_streams.specs.Ends.{GaveAll}
use Rattle.irkit_streams.specs.Streams.{inner_of}
use Rattle.irkit_streams.specs.declared.watched.Watched.{Watched}
use Rattle.irkit_outlines.specs.Outlined.{IsRefused}

module _ {R : Type 0} (now : R → List ℕ) (old new : Watched R) where
  abbrev remaining : R → Option (List ℕ)
  remaining r = Some (now r)

  -- a reader that has bytes gives these
  gave : (bytes : List ℕ) → GaveAll remaining old new bytes → now (inner_of old) ≡ bytes
  gave bytes (all, none, ok) = all ∙ ap (λ rest. bytes ++ rest) none ∙ append-nil bytes

  refused : (ctx : KitContext) (r : Refusal) → Refuses remaining old new (Overfills ctx.program.counter) r → IsRefused (now (inner_of old)) ctx r
  refused ctx (NotUtf8 b) (bytes, g, h) = subst (λ bs. Deserves bs (NotUtf8 b)) (sym (gave bytes g)) h
  refused ctx (Syntax l c) (bytes, g, h) = subst (λ bs. Deserves bs (Syntax l c)) (sym (gave bytes g)) h
  refused ctx (TooDeep l c) (bytes, g, h) = subst (λ bs. Deserves bs (TooDeep l c)) (sym (gave bytes g)) h
  refused ctx (Scope l c w) (bytes, g, h) = subst (λ bs. Deserves bs (Scope l c w)) (sym (gave bytes g)) h
  refused ctx (Rule n p) (bytes, g, h) = subst (λ bs. Deserves bs (Rule n p)) (sym (gave bytes g)) h
  refused ctx Memory h = tt
  refused ctx CounterFull (bytes, g, h) = subst (Overfills ctx.program.counter) (sym (gave bytes g)) h
  refused ctx Read h = tt
  refused ctx (Write b) h = h

  -- a load of them that is refused
  pub refused_load : (ctx new_ctx : KitContext) (r : Result (Ptr Operation) Refusal) → EndsLoad remaining old new ctx new_ctx r
      → IfErr r (IsRefused (now (inner_of old)) ctx)
  refused_load ctx new_ctx (Ok root) h = tt
  refused_load ctx new_ctx (Err refusal) h = refused ctx refusal h.0
