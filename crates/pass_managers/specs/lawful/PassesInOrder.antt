-- A manager of several passes keeps to the laws where the passes do.
use Rattle.std.proofs.Common.{◌≡◌, true, List, IsSome, refl, sym, ◌∙◌}
use Rattle.std.specs.Prelude.{Ok}
use Rattle.ir_program.specs.Program.{operation_at}
use Rattle.ir_program.specs.declared.handles.Operation.{Operation}
use Rattle.ir_program.specs.declared.handles.Ptr.{Ptr}
use Rattle.opt_dialect.specs.declared.status.IRStatus.{IRStatus}
use Rattle.opt_dialect.specs.declared.status.IRStatus.TheVariants.{Unchanged}
use Rattle.pass_analyses.specs.Fresh.{AllFresh, ListedFresh}
use Rattle.pass_managers.specs.Behaviour.{AnswerIn, Behaviour, ContextIn, ManagerIn, OutcomeIn, PassTypes}
use Rattle.pass_managers.specs.Laws.{KeepsRest, KindsEqual, ReadingIn, StaysFresh, TellsChanges}
use Rattle.pass_managers.specs.Running.{RunsAll, run_none, run_next, RunsPasses, all_run, unlisted, stopped}
use Rattle.pass_managers.specs.lawful.OnePass.{kept_by_run, told_by_run, fresh_by_run}
use Rattle.pass_managers.specs.lawful.Retained.{either_unchanged, retained_fresh}
use Rattle.pass_outside.specs.Outside.{LeavesOutside}
use Rattle.pass_outside.specs.Sound.{IsSound}
use Rattle.pass_outside.proofs.Outside.{left_same, left_twice}

module _ {P : Type 0} {s : PassTypes} (b : Behaviour P s) (Accepts : ContextIn s → Ptr Operation → Type 0) (keeps : KeepsRest b) where
  -- what each leaves outside of the operation, all leave
  pub kept_by_all : {eq : KindsEqual s} {x : Ptr Operation} {c : ContextIn s} {m : ManagerIn s} {d : ContextIn s} {n : ManagerIn s} {ps qs : List P} {u : IRStatus}
      → IsSound c.program → IsSome (operation_at c.program x) → RunsAll b Accepts eq x c m ps qs d n u
      → LeavesOutside c.program d.program x
  kept_by_all sound live run_none = left_same _ _ sound live
  kept_by_all sound live (run_next before run _) =
      let first = kept_by_all sound live before in
      left_twice _ _ _ _ sound first (kept_by_run b Accepts keeps first.sound first.live run)

  pub passes_keep : (eq : KindsEqual s) {x : Ptr Operation} {c d : ContextIn s} {m n : ManagerIn s} {ps qs : List P} {r : OutcomeIn s}
      → IsSound c.program → IsSome (operation_at c.program x) → RunsPasses b Accepts eq x c m ps r qs d n
      → LeavesOutside c.program d.program x
  passes_keep eq sound live (all_run run _ _) = kept_by_all sound live run
  passes_keep eq sound live (unlisted run) = kept_by_all sound live run
  passes_keep eq sound live (stopped _ _ _ _ before run _) =
      let first = kept_by_all sound live before in
      left_twice _ _ _ _ sound first (kept_by_run b Accepts keeps first.sound first.live run)

  module _ (tells : TellsChanges b) where
    told_by_all : {eq : KindsEqual s} {x : Ptr Operation} {c : ContextIn s} {m : ManagerIn s} {d : ContextIn s} {n : ManagerIn s} {ps qs : List P} {u : IRStatus}
        → IsSound c.program → IsSome (operation_at c.program x) → RunsAll b Accepts eq x c m ps qs d n u
        → u ≡ Unchanged → d ≡ c
    told_by_all sound live run_none e = refl
    told_by_all sound live (run_next before run _) e =
        let first = kept_by_all sound live before in
        let both = either_unchanged _ _ e in
        told_by_run b Accepts tells first.sound first.live run both.1 ∙ told_by_all sound live before both.0

    pub passes_tell : (eq : KindsEqual s) {x : Ptr Operation} {c d : ContextIn s} {m n : ManagerIn s} {ps qs : List P} {r : AnswerIn s}
        → IsSound c.program → IsSome (operation_at c.program x) → RunsPasses b Accepts eq x c m ps (Ok r) qs d n
        → r.ir_changed ≡ Unchanged → d ≡ c
    passes_tell eq sound live (all_run run status _) e = told_by_all sound live run (sym status ∙ e)

  module _ (eq : KindsEqual s) (same : (j k : s.kind) → eq j k ≡ true → j ≡ k) (reading : ReadingIn s) (fresh : StaysFresh b eq reading) where
    fresh_by_all : {x : Ptr Operation} {c : ContextIn s} {m : ManagerIn s} {d : ContextIn s} {n : ManagerIn s} {ps qs : List P} {u : IRStatus}
        → IsSound c.program → IsSome (operation_at c.program x) → RunsAll b Accepts eq x c m ps qs d n u
        → AllFresh eq reading.gives c m.analyses.entries.entries → AllFresh eq reading.gives d n.analyses.entries.entries
    fresh_by_all sound live run_none all = all
    fresh_by_all sound live (run_next {r = r} before run retains) all =
        let first = kept_by_all sound live before in
        retained_fresh s eq same reading _ r _ _ retains
        (fresh_by_run b Accepts eq reading fresh first.sound first.live run (fresh_by_all sound live before all))

    pub passes_stay_fresh : {x : Ptr Operation} {c d : ContextIn s} {m n : ManagerIn s} {ps qs : List P} {r : AnswerIn s}
        → IsSound c.program → IsSome (operation_at c.program x) → RunsPasses b Accepts eq x c m ps (Ok r) qs d n
        → AllFresh eq reading.gives c m.analyses.entries.entries
        → ListedFresh eq reading.gives r.preserved.items d n.analyses.entries.entries
        × (r.ir_changed ≡ Unchanged → AllFresh eq reading.gives d n.analyses.entries.entries)
    passes_stay_fresh sound live (all_run run _ _) all =
        let all_then = fresh_by_all sound live run all in
        (λ k p a listed is there. all_then k p a is there, λ e. all_then)
