-- Why passes give no text of what was read of a bare text.
use Rattle.std.proofs.Common.{◌≡◌, ◌+◌, ℕ, List, Result, Err, Ok, ap, arith, inr, length, map, refl, subst, sym, ◌∙◌}
use Rattle.std.specs.Prelude.{IfErr, IsErrAnd}
use Rattle.ir_base.specs.declared.growth.GrowError.{GrowError}
use Rattle.ir_base.specs.declared.growth.GrowError.TheVariants as grow
use Rattle.ir_forest.specs.Closed.{definitions_of}
use Rattle.ir_program.specs.declared.handles.Operation.{Operation}
use Rattle.ir_program.specs.declared.handles.Ptr.{Ptr}
use Rattle.kit.specs.Context.{KitContext}
use Rattle.kit_ops.specs.declared.pass.KitPass.{KitPass}
use Rattle.kit_optimiser.specs.Passed.{FillsUp, pass_of}
use Rattle.irkit_refusals.specs.Refusals.{of_grow_error}
use Rattle.irkit_refusals.specs.declared.refusal.Refusal.{Refusal}
use Rattle.irkit_running.specs.Outcomes.{Loads}
use Rattle.irkit_outlines.specs.Outlined.{IsRefusedAfter}

-- what holds of the one refusal that there is holds of it
refused_as : {X : Type 0} (P : Refusal → Type 0) (r : Result X Refusal) (e : Refusal) → IsErrAnd r (λ x. x ≡ e) → P e → IfErr r P
refused_as P (Ok x) e is p = tt
refused_as P (Err x) e is p = subst P (sym is) p

module _ (passes : List KitPass) (text : List ℕ) (old new : KitContext) (root : Ptr Operation) (loads : Loads text old new root)
    (fresh : old.program.counter ≡ 0) where
  refused_for : (e : GrowError) → (e ≡ grow.CounterFull → FillsUp (map pass_of passes) new root) → IsRefusedAfter passes text (of_grow_error e)
  refused_for grow.Memory full = tt
  refused_for grow.CounterFull full =
      let n = length (definitions_of loads.accepted.0.text) in
      let moved : new.program.counter ≡ old.program.counter + n = loads.counted in
      let counted : new.program.counter ≡ n = omega (arith, moved, fresh) in
      inr (record { before = new; root = root; accepted = loads.accepted; counted = counted; fills = full refl })

  -- passes that are refused, on what was loaded into a new context
  pub refused_after : {V X : Type 0} (r : Result V GrowError) (e : GrowError) (s : Result X Refusal) → r ≡ Err e
      → (r ≡ Err grow.CounterFull → FillsUp (map pass_of passes) new root) → IsErrAnd s (λ x. x ≡ of_grow_error e)
      → IfErr s (IsRefusedAfter passes text)
  refused_after r e s was full is =
      refused_as (IsRefusedAfter passes text) s (of_grow_error e) is (refused_for e (λ same. full (was ∙ ap Err same)))
