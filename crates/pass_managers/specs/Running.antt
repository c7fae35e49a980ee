-- What a manager does with a pass, and with several.
use Rattle.std.specs.Prelude.{◌≡◌, ◌-◌, ◌^◌, Bool, true, false, List, [], ◌∷◌, ◌++◌, Ok, Err}
use Rattle.ir_program.specs.declared.handles.Operation.{Operation}
use Rattle.ir_program.specs.declared.handles.Ptr.{Ptr}
use Rattle.opt_dialect.specs.Statuses.{either}
use Rattle.opt_dialect.specs.declared.status.IRStatus.{IRStatus}
use Rattle.opt_dialect.specs.declared.status.IRStatus.TheVariants.{Unchanged, Changed}
use Rattle.opt_dialect.specs.declared.status.OptError.{OptError}
use Rattle.opt_dialect.specs.declared.status.OptError.TheVariants.{Memory, CounterFull, Verify}
use Rattle.pass_analyses.specs.Cached.{of_kinds, kinds_of}
use Rattle.pass_analyses.specs.Settings.{count_of, counted, is_skipped, is_verified_before, is_verified_after}
use Rattle.pass_analyses.specs.declared.settings.PMData.{PMData}
use Rattle.pass_managers.specs.Behaviour.{AnswerIn, Behaviour, ContextIn, ManagerIn, OutcomeIn, PassTypes}
use Rattle.pass_managers.specs.Laws.{KindsEqual}

-- the count of passes is at its greatest
abbrev pub IsFull : PMData → Type 0
IsFull d = count_of d ≡ 2 ^ 64 - 1

module _ (s : PassTypes) where
  -- nothing was changed, and no kind is listed
  pub record IsNothing (r : AnswerIn s) : Type 0 where
    pub unchanged : r.ir_changed ≡ Unchanged
    pub lists_none : r.preserved.items ≡ []

  -- what is kept of a cache after a pass: all where it changed nothing, else the kinds that it lists
  pub record Retains (eq : KindsEqual s) (r : AnswerIn s) (old new : ManagerIn s) : Type 0 where
    pub unchanged : r.ir_changed ≡ Unchanged → new ≡ old
    pub changed : r.ir_changed ≡ Changed
        → new.analyses.entries.entries ≡ of_kinds eq r.preserved.items old.analyses.entries.entries
    pub settings : new.pm_data ≡ old.pm_data

-- why an operation isn't found to be accepted: verifiers refuse it, or there is no memory to tell
pub data Refuses (Accepted : Type 0) : OptError → Type 0 where
  not_accepted : (Accepted → ⊥) → Refuses Accepted Verify
  not_told : Refuses Accepted Memory

module _ {P : Type 0} {s : PassTypes} (b : Behaviour P s) (Accepts : ContextIn s → Ptr Operation → Type 0) where
  module _ (p : P) (x : Ptr Operation) (c : ContextIn s) (m : ManagerIn s) where
    -- it is run: it is no manager and isn't skipped, the count isn't at its greatest, and what is to be accepted before
    -- is
    pub record IsRun : Type 0 where
      pub no_manager : b.manages p ≡ false
      pub wanted : is_skipped m.pm_data (b.name_of p) ≡ false
      pub room : IsFull m.pm_data → ⊥
      pub before : is_verified_before m.pm_data (b.name_of p) ≡ true → Accepts c x

    -- what is to be accepted after it is
    abbrev pub PassesAfter : ContextIn s → Type 0
    PassesAfter d = is_verified_after m.pm_data (b.name_of p) ≡ true → Accepts d x

    -- How a manager runs a pass: the answer, and the pass, the context and the analyses afterwards.
    pub data RunsPass : OutcomeIn s → P → ContextIn s → ManagerIn s → Type 0 where
      -- a manager is run as it is
      manager : {r : OutcomeIn s} {q : P} {d : ContextIn s} {n : ManagerIn s}
          → b.manages p ≡ true → b.runs p x c m r q d n → RunsPass r q d n
      -- one that is to be skipped does nothing
      skipped : {r : AnswerIn s} → b.manages p ≡ false → is_skipped m.pm_data (b.name_of p) ≡ true → IsNothing s r
          → RunsPass (Ok r) p c m
      -- nothing is run where the count is at its greatest
      full : b.manages p ≡ false → is_skipped m.pm_data (b.name_of p) ≡ false → IsFull m.pm_data
          → RunsPass (Err CounterFull) p c m
      -- nothing is run on what isn't found to be accepted, where it is to be
      refused : {e : OptError} → b.manages p ≡ false → is_skipped m.pm_data (b.name_of p) ≡ false
          → (IsFull m.pm_data → ⊥)
          → is_verified_before m.pm_data (b.name_of p) ≡ true → Refuses (Accepts c x) e → RunsPass (Err e) p c m
      -- what it leaves isn't found to be accepted, where it is to be: that is answered, and it isn't counted
      spoiled : {r : OutcomeIn s} {q : P} {d : ContextIn s} {n : ManagerIn s}
          {e : OptError} → IsRun → b.runs p x c m r q d n → is_verified_after m.pm_data (b.name_of p) ≡ true
          → Refuses (Accepts d x) e → RunsPass (Err e) q d n
      -- the count has come to its greatest: that is answered, and it isn't counted
      filled : {r : OutcomeIn s} {q : P} {d : ContextIn s} {n : ManagerIn s}
          → IsRun → b.runs p x c m r q d n → PassesAfter d → IsFull n.pm_data → RunsPass (Err CounterFull) q d n
      -- it is run, and counted, whatever it answers
      ran : {r : OutcomeIn s} {q : P} {d : ContextIn s} {n l : ManagerIn s}
          → IsRun → b.runs p x c m r q d n → PassesAfter d → (IsFull n.pm_data → ⊥)
          → (l ≡ record n { pm_data = counted n.pm_data }) → RunsPass r q d l

  module _ (eq : KindsEqual s) where
    -- Passes run at an operation one after another, each with what is kept after the one before: what they are then,
    -- the context, the analyses, and whether one changed anything.
    pub data RunsAll (x : Ptr Operation) (c : ContextIn s) (m : ManagerIn s)
        : List P → List P → ContextIn s → ManagerIn s → IRStatus → Type 0 where
      run_none : RunsAll x c m [] [] c m Unchanged
      run_next : {ps qs : List P} {p q : P} {d f : ContextIn s} {n l k : ManagerIn s} {u : IRStatus}
          {r : AnswerIn s} → RunsAll x c m ps qs d n u → RunsPass p x d n (Ok r) q f l → Retains s eq r l k
          → RunsAll x c m (ps ++ p ∷ []) (qs ++ q ∷ []) f k (either u r.ir_changed)

    -- A pass runs at operations one after another, in the same way.
    pub data RunsAtEach (c : ContextIn s) (m : ManagerIn s) (p : P)
        : List (Ptr Operation) → P → ContextIn s → ManagerIn s → IRStatus → Type 0 where
      at_none : RunsAtEach c m p [] p c m Unchanged
      at_next : {xs : List (Ptr Operation)} {q t : P} {d f : ContextIn s} {n l k : ManagerIn s} {u : IRStatus}
          {r : AnswerIn s} (x : Ptr Operation) → RunsAtEach c m p xs q d n u → RunsPass q x d n (Ok r) t f l
          → Retains s eq r l k → RunsAtEach c m p (xs ++ x ∷ []) t f k (either u r.ir_changed)

    -- What running passes at an operation may do: all run, and the kinds that are still cached are listed, unless there
    -- is no memory for that; or one answers an error, and those after it stay as they were.
    pub data RunsPasses (x : Ptr Operation) (c : ContextIn s) (m : ManagerIn s) (ps : List P)
        : OutcomeIn s → List P → ContextIn s → ManagerIn s → Type 0 where
      all_run : {qs : List P} {d : ContextIn s} {n : ManagerIn s} {u : IRStatus} {r : AnswerIn s}
          → RunsAll x c m ps qs d n u → r.ir_changed ≡ u → r.preserved.items ≡ kinds_of n.analyses.entries.entries
          → RunsPasses x c m ps (Ok r) qs d n
      unlisted : {qs : List P} {d : ContextIn s} {n : ManagerIn s} {u : IRStatus}
          → RunsAll x c m ps qs d n u → RunsPasses x c m ps (Err Memory) qs d n
      stopped : {qs now : List P} {q : P} {d f : ContextIn s} {n l : ManagerIn s} {u : IRStatus} {e : OptError}
          (done : List P) (p : P) (rest : List P) → ps ≡ done ++ p ∷ rest → RunsAll x c m done qs d n u
          → RunsPass p x d n (Err e) q f l → now ≡ qs ++ q ∷ rest → RunsPasses x c m ps (Err e) now f l

    -- The same of a pass at operations, in their order.
    pub data RunsNested (xs : List (Ptr Operation)) (c : ContextIn s) (m : ManagerIn s) (p : P)
        : OutcomeIn s → P → ContextIn s → ManagerIn s → Type 0 where
      all_ran : {q : P} {d : ContextIn s} {n : ManagerIn s} {u : IRStatus} {r : AnswerIn s}
          → RunsAtEach c m p xs q d n u → r.ir_changed ≡ u → r.preserved.items ≡ kinds_of n.analyses.entries.entries
          → RunsNested xs c m p (Ok r) q d n
      unlisted_then : {q : P} {d : ContextIn s} {n : ManagerIn s} {u : IRStatus}
          → RunsAtEach c m p xs q d n u → RunsNested xs c m p (Err Memory) q d n
      stopped_at : {q t : P} {d f : ContextIn s} {n l : ManagerIn s} {u : IRStatus} {e : OptError}
          (done : List (Ptr Operation)) (x : Ptr Operation) (rest : List (Ptr Operation)) → xs ≡ done ++ x ∷ rest
          → RunsAtEach c m p done q d n u → RunsPass q x d n (Err e) t f l → RunsNested xs c m p (Err e) t f l

    -- The same of a pass at an operation's nested operations: these are listed first, unless there is no memory for
    -- that.
    pub data RunsOnNested (xs : List (Ptr Operation)) (c : ContextIn s) (m : ManagerIn s) (p : P)
        : OutcomeIn s → P → ContextIn s → ManagerIn s → Type 0 where
      on_all : {r : OutcomeIn s} {q : P} {d : ContextIn s} {n : ManagerIn s}
          → RunsNested xs c m p r q d n → RunsOnNested xs c m p r q d n
      on_none : RunsOnNested xs c m p (Err Memory) p c m

  -- What running a pass where a guard allows it may do.
  pub data RunsWhere (allowed : Bool) (p : P) (x : Ptr Operation) (c : ContextIn s) (m : ManagerIn s)
      : OutcomeIn s → P → ContextIn s → ManagerIn s → Type 0 where
    let_through : {r : OutcomeIn s} {q : P} {d : ContextIn s} {n : ManagerIn s}
        → allowed ≡ true → RunsPass p x c m r q d n → RunsWhere allowed p x c m r q d n
    kept_out : {r : AnswerIn s} → allowed ≡ false → IsNothing s r → RunsWhere allowed p x c m (Ok r) p c m
