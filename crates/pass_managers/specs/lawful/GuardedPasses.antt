-- A manager of a pass behind a guard keeps to the laws where the pass does.
use Rattle.std.proofs.Common.{◌≡◌, Bool, IsSome, refl}
use Rattle.std.specs.Prelude.{Ok}
use Rattle.ir_program.specs.Program.{operation_at}
use Rattle.ir_program.specs.declared.handles.Operation.{Operation}
use Rattle.ir_program.specs.declared.handles.Ptr.{Ptr}
use Rattle.opt_dialect.specs.declared.status.IRStatus.TheVariants.{Unchanged}
use Rattle.pass_analyses.specs.Fresh.{AllFresh, ListedFresh}
use Rattle.pass_managers.specs.Behaviour.{AnswerIn, Behaviour, ContextIn, ManagerIn, OutcomeIn, PassTypes}
use Rattle.pass_managers.specs.Laws.{KeepsRest, KindsEqual, ReadingIn, StaysFresh, TellsChanges}
use Rattle.pass_managers.specs.Running.{RunsWhere, let_through, kept_out}
use Rattle.pass_managers.specs.lawful.OnePass.{kept_by_run, told_by_run, fresh_by_run}
use Rattle.pass_outside.specs.Outside.{LeavesOutside}
use Rattle.pass_outside.specs.Sound.{IsSound}
use Rattle.pass_outside.proofs.Outside.{left_same}

module _ {P : Type 0} {s : PassTypes} (b : Behaviour P s) (Accepts : ContextIn s → Ptr Operation → Type 0) where
  pub where_keep : KeepsRest b → {a : Bool} {p q : P} {x : Ptr Operation} {c d : ContextIn s} {m n : ManagerIn s} {r : OutcomeIn s}
      → IsSound c.program → IsSome (operation_at c.program x) → RunsWhere b Accepts a p x c m r q d n
      → LeavesOutside c.program d.program x
  where_keep keeps sound live (let_through _ run) = kept_by_run b Accepts keeps sound live run
  where_keep keeps sound live (kept_out _ _) = left_same _ _ sound live

  pub where_tell : TellsChanges b → {a : Bool} {p q : P} {x : Ptr Operation} {c d : ContextIn s} {m n : ManagerIn s} {r : AnswerIn s}
      → IsSound c.program → IsSome (operation_at c.program x) → RunsWhere b Accepts a p x c m (Ok r) q d n
      → r.ir_changed ≡ Unchanged → d ≡ c
  where_tell tells sound live (let_through _ run) = told_by_run b Accepts tells sound live run
  where_tell tells sound live (kept_out _ _) = λ e. refl

  pub where_stay_fresh : (eq : KindsEqual s) (reading : ReadingIn s) → StaysFresh b eq reading
      → {a : Bool} {p q : P} {x : Ptr Operation} {c d : ContextIn s} {m n : ManagerIn s} {r : AnswerIn s}
      → IsSound c.program → IsSome (operation_at c.program x) → RunsWhere b Accepts a p x c m (Ok r) q d n
      → AllFresh eq reading.gives c m.analyses.entries.entries
      → ListedFresh eq reading.gives r.preserved.items d n.analyses.entries.entries
      × (r.ir_changed ≡ Unchanged → AllFresh eq reading.gives d n.analyses.entries.entries)
  where_stay_fresh eq reading fresh sound live (let_through _ run) all = fresh_by_run b Accepts eq reading fresh sound live run all
  where_stay_fresh eq reading fresh sound live (kept_out _ _) all = (λ k p a listed is there. all k p a is there, λ e. all)
