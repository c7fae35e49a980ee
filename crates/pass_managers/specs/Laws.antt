-- What each pass keeps to.
use Rattle.std.specs.Prelude.{◌≡◌, Bool, IsSome, Ok}
use Rattle.ir_program.specs.Program.{operation_at}
use Rattle.ir_program.specs.declared.handles.Operation.{Operation}
use Rattle.ir_program.specs.declared.handles.Ptr.{Ptr}
use Rattle.opt_dialect.specs.declared.status.IRStatus.TheVariants.{Unchanged}
use Rattle.pass_analyses.specs.Fresh.{AllFresh, ListedFresh}
use Rattle.pass_analyses.specs.Reading.{Reading}
use Rattle.pass_managers.specs.Behaviour.{AnswerIn, Behaviour, ContextIn, ManagerIn, OutcomeIn, PassTypes}
use Rattle.pass_outside.specs.Outside.{LeavesOutside}
use Rattle.pass_outside.specs.Sound.{IsSound}

-- equality of kinds, and what is said of analyses
abbrev pub KindsEqual : PassTypes → Type 0
KindsEqual s = s.kind → s.kind → Bool

abbrev pub ReadingIn : PassTypes → Type 1
ReadingIn s = Reading (ContextIn s) s.kind s.analysis

module _ {P : Type 0} {s : PassTypes} (b : Behaviour P s) where
  -- whatever it answers, the operation is live afterwards, and what isn't inside it is as it was, but for operands that
  -- named a value inside it
  abbrev pub KeepsRest : Type 0
  KeepsRest = (p q : P) (x : Ptr Operation) (c d : ContextIn s) (m n : ManagerIn s) (r : OutcomeIn s)
      → IsSound c.program → IsSome (operation_at c.program x) → b.runs p x c m r q d n
      → LeavesOutside c.program d.program x

  -- it answers that nothing was changed only where nothing was
  abbrev pub TellsChanges : Type 0
  TellsChanges = (p q : P) (x : Ptr Operation) (c d : ContextIn s) (m n : ManagerIn s) (r : AnswerIn s)
      → IsSound c.program → IsSome (operation_at c.program x) → b.runs p x c m (Ok r) q d n
      → r.ir_changed ≡ Unchanged → d ≡ c

  -- where all that was cached of live operations was fresh, what it lists is, and where nothing was changed all is
  abbrev pub StaysFresh : KindsEqual s → ReadingIn s → Type 0
  StaysFresh eq reading = (p q : P) (x : Ptr Operation) (c d : ContextIn s) (m n : ManagerIn s) (r : AnswerIn s)
      → IsSound c.program → IsSome (operation_at c.program x) → b.runs p x c m (Ok r) q d n
      → AllFresh eq reading.gives c m.analyses.entries.entries
      → ListedFresh eq reading.gives r.preserved.items d n.analyses.entries.entries
      × (r.ir_changed ≡ Unchanged → AllFresh eq reading.gives d n.analyses.entries.entries)
