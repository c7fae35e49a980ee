-- A manager that runs a pass keeps to the laws where the pass does.
use Rattle.std.proofs.Common.{◌≡◌, IsSome, refl}
use Rattle.std.specs.Prelude.{Ok, Err, IfOk}
use Rattle.ir_program.specs.Program.{operation_at}
use Rattle.ir_program.specs.declared.handles.Operation.{Operation}
use Rattle.ir_program.specs.declared.handles.Ptr.{Ptr}
use Rattle.opt_dialect.specs.declared.status.IRStatus.TheVariants.{Unchanged}
use Rattle.pass_analyses.specs.Fresh.{AllFresh, ListedFresh}
use Rattle.pass_managers.specs.Behaviour.{AnswerIn, Behaviour, ContextIn, ManagerIn, OutcomeIn, PassTypes}
use Rattle.pass_managers.specs.Laws.{KeepsRest, KindsEqual, ReadingIn, StaysFresh, TellsChanges}
use Rattle.pass_managers.specs.Running.{RunsPass, manager, skipped, full, refused, spoiled, filled, ran}
use Rattle.pass_outside.specs.Outside.{LeavesOutside}
use Rattle.pass_outside.specs.Sound.{IsSound}
use Rattle.pass_outside.proofs.Outside.{left_same}

module _ {P : Type 0} {s : PassTypes} (b : Behaviour P s) (Accepts : ContextIn s → Ptr Operation → Type 0) (keeps : KeepsRest b) where
  -- what is outside of the operation is left
  pub kept_by_run : {p q : P} {x : Ptr Operation} {c d : ContextIn s} {m n : ManagerIn s} {r : OutcomeIn s}
      → IsSound c.program → IsSome (operation_at c.program x) → RunsPass b Accepts p x c m r q d n
      → LeavesOutside c.program d.program x
  kept_by_run sound live (manager _ run) = keeps _ _ _ _ _ _ _ _ sound live run
  kept_by_run sound live (skipped _ _ _) = left_same _ _ sound live
  kept_by_run sound live (full _ _ _) = left_same _ _ sound live
  kept_by_run sound live (refused _ _ _ _ _) = left_same _ _ sound live
  kept_by_run sound live (spoiled _ run _ _) = keeps _ _ _ _ _ _ _ _ sound live run
  kept_by_run sound live (filled _ run _ _) = keeps _ _ _ _ _ _ _ _ sound live run
  kept_by_run sound live (ran _ run _ _ _) = keeps _ _ _ _ _ _ _ _ sound live run

module _ {P : Type 0} {s : PassTypes} (b : Behaviour P s) (Accepts : ContextIn s → Ptr Operation → Type 0) (tells : TellsChanges b) where
  -- it is told whether anything was changed
  pub told_by_run : {p q : P} {x : Ptr Operation} {c d : ContextIn s} {m n : ManagerIn s} {r : AnswerIn s}
      → IsSound c.program → IsSome (operation_at c.program x) → RunsPass b Accepts p x c m (Ok r) q d n
      → r.ir_changed ≡ Unchanged → d ≡ c
  told_by_run sound live (manager _ run) e = tells _ _ _ _ _ _ _ _ sound live run e
  told_by_run sound live (skipped _ _ _) e = refl
  told_by_run sound live (ran _ run _ _ _) e = tells _ _ _ _ _ _ _ _ sound live run e

  pub told_then : {p q : P} {x : Ptr Operation} {c d : ContextIn s} {m n : ManagerIn s}
      → IsSound c.program → IsSome (operation_at c.program x) → (r : OutcomeIn s) → RunsPass b Accepts p x c m r q d n
      → IfOk r (λ o. o.ir_changed ≡ Unchanged → d ≡ c)
  told_then sound live (Ok o) run = λ e. told_by_run sound live run e
  told_then sound live (Err e) run = tt

module _ {P : Type 0} {s : PassTypes} (b : Behaviour P s) (Accepts : ContextIn s → Ptr Operation → Type 0)
    (eq : KindsEqual s) (reading : ReadingIn s) (fresh : StaysFresh b eq reading) where
  -- what is listed is fresh, and all is where nothing was changed
  pub fresh_by_run : {p q : P} {x : Ptr Operation} {c d : ContextIn s} {m n : ManagerIn s} {r : AnswerIn s}
      → IsSound c.program → IsSome (operation_at c.program x) → RunsPass b Accepts p x c m (Ok r) q d n
      → AllFresh eq reading.gives c m.analyses.entries.entries
      → ListedFresh eq reading.gives r.preserved.items d n.analyses.entries.entries
      × (r.ir_changed ≡ Unchanged → AllFresh eq reading.gives d n.analyses.entries.entries)
  fresh_by_run sound live (manager _ run) all = fresh _ _ _ _ _ _ _ _ sound live run all
  fresh_by_run sound live (skipped _ _ _) all = (λ k p a listed is there. all k p a is there, λ e. all)
  fresh_by_run sound live (ran _ run _ _ counted) all = rw counted (fresh _ _ _ _ _ _ _ _ sound live run all)

  pub fresh_then : {p q : P} {x : Ptr Operation} {c d : ContextIn s} {m n : ManagerIn s}
      → IsSound c.program → IsSome (operation_at c.program x) → (r : OutcomeIn s) → RunsPass b Accepts p x c m r q d n
      → IfOk r (λ o. AllFresh eq reading.gives c m.analyses.entries.entries
      → ListedFresh eq reading.gives o.preserved.items d n.analyses.entries.entries)
  fresh_then sound live (Ok o) run = λ all. (fresh_by_run sound live run all).0
  fresh_then sound live (Err e) run = tt
