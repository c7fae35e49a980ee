-- A manager of a pass at nested operations keeps to the laws where the pass does.
use Rattle.std.proofs.Common.{◌≡◌, true, List, [], ◌∷◌, ◌++◌, Contains, IsSome, refl, sym, subst, ◌∙◌, append_assoc}
use Rattle.std.specs.Prelude.{Ok}
use Rattle.std.proofs.lemmas.List.Elements.{Contains-push, Contains-append_left}
use Rattle.ir_program.specs.Program.{operation_at}
use Rattle.ir_program.specs.declared.handles.Operation.{Operation}
use Rattle.ir_program.specs.declared.handles.Ptr.{Ptr}
use Rattle.opt_dialect.specs.declared.status.IRStatus.{IRStatus}
use Rattle.opt_dialect.specs.declared.status.IRStatus.TheVariants.{Unchanged}
use Rattle.pass_analyses.specs.Fresh.{AllFresh, ListedFresh}
use Rattle.pass_managers.specs.Behaviour.{AnswerIn, Behaviour, ContextIn, ManagerIn, OutcomeIn, PassTypes}
use Rattle.pass_managers.specs.Laws.{KeepsRest, KindsEqual, ReadingIn, StaysFresh, TellsChanges}
use Rattle.pass_managers.specs.Running.{RunsAtEach, at_none, at_next, RunsNested, all_ran, unlisted_then, stopped_at, RunsOnNested, on_all, on_none}
use Rattle.pass_managers.specs.lawful.OnePass.{kept_by_run, told_by_run, fresh_by_run}
use Rattle.pass_managers.specs.lawful.Retained.{either_unchanged, retained_fresh}
use Rattle.pass_outside.specs.Nested.{nested_in}
use Rattle.pass_outside.specs.Outside.{LeavesOutside}
use Rattle.pass_outside.specs.Sound.{IsSound}
use Rattle.pass_outside.proofs.Children.{child_of, left_in_child, children_stay}
use Rattle.pass_outside.proofs.Outside.{left_same, left_twice}

-- the list goes on from these with this one
abbrev Among : List (Ptr Operation) → List (Ptr Operation) → Type 0
Among xs all = (y : Ptr Operation) → Contains xs y → Contains all y

module _ {P : Type 0} {s : PassTypes} (b : Behaviour P s) (Accepts : ContextIn s → Ptr Operation → Type 0) (keeps : KeepsRest b) where
  -- what is outside of the operation is left, and its nested operations are the same
  kept_by_each : {eq : KindsEqual s} {c : ContextIn s} {m : ManagerIn s} {p : P} {xs : List (Ptr Operation)} {q : P} {d : ContextIn s} {n : ManagerIn s}
      {u : IRStatus} (x : Ptr Operation) → IsSound c.program → IsSome (operation_at c.program x) → Among xs (nested_in c.program x)
      → RunsAtEach b Accepts eq c m p xs q d n u
      → LeavesOutside c.program d.program x × (nested_in d.program x ≡ nested_in c.program x)
  kept_by_each x sound live among at_none = (left_same _ _ sound live, refl)
  kept_by_each {c = c} x sound live among (at_next {xs = xs} {d = d} {f = f} y before run _) =
      let first = kept_by_each x sound live (λ z listed. among z (Contains-append_left xs (y ∷ []) z listed)) before in
      let here : Contains (nested_in d.program x) y =
      subst (λ l. Contains l y) (sym first.1) (among y (Contains-push xs y)) in
      let child = child_of d.program x first.0.sound y here in
      let second = kept_by_run b Accepts keeps first.0.sound child.in_block.operation run in (
        left_twice c.program d.program f.program x sound first.0 (left_in_child d.program f.program x y first.0.sound child second),
        children_stay d.program f.program x y first.0.sound child second ∙ first.1,
      )

  nested_kept : (eq : KindsEqual s) (x : Ptr Operation) {xs : List (Ptr Operation)} {c d : ContextIn s} {m n : ManagerIn s} {p q : P} {r : OutcomeIn s}
      → IsSound c.program → IsSome (operation_at c.program x) → xs ≡ nested_in c.program x → RunsNested b Accepts eq xs c m p r q d n
      → LeavesOutside c.program d.program x
  nested_kept eq x sound live are (all_ran run _ _) = (kept_by_each x sound live (λ y h. subst (λ l. Contains l y) are h) run).0
  nested_kept eq x sound live are (unlisted_then run) = (kept_by_each x sound live (λ y h. subst (λ l. Contains l y) are h) run).0
  nested_kept eq x {c = c} {d = f} sound live are (stopped_at {d = d} done y rest split before run) =
      let all = sym split ∙ are in
      let first = kept_by_each x sound live (λ z h. subst (λ l. Contains l z) all (Contains-append_left done (y ∷ rest) z h)) before in
      let here : Contains (nested_in d.program x) y =
      subst (λ l. Contains l y) (append_assoc done (y ∷ []) rest ∙ all ∙ sym first.1)
      (Contains-append_left (done ++ y ∷ []) rest y (Contains-push done y)) in
      let child = child_of d.program x first.0.sound y here in
      let second = kept_by_run b Accepts keeps first.0.sound child.in_block.operation run in
      left_twice c.program d.program f.program x sound first.0 (left_in_child d.program f.program x y first.0.sound child second)

  pub nested_keep : (eq : KindsEqual s) (x : Ptr Operation) {c d : ContextIn s} {m n : ManagerIn s} {p q : P} {r : OutcomeIn s}
      → IsSound c.program → IsSome (operation_at c.program x) → RunsOnNested b Accepts eq (nested_in c.program x) c m p r q d n
      → LeavesOutside c.program d.program x
  nested_keep eq x sound live (on_all run) = nested_kept eq x sound live refl run
  nested_keep eq x sound live on_none = left_same _ x sound live

  module _ (tells : TellsChanges b) where
    told_by_each : {eq : KindsEqual s} {c : ContextIn s} {m : ManagerIn s} {p : P} {xs : List (Ptr Operation)} {q : P} {d : ContextIn s} {n : ManagerIn s}
        {u : IRStatus} (x : Ptr Operation) → IsSound c.program → IsSome (operation_at c.program x) → Among xs (nested_in c.program x)
        → RunsAtEach b Accepts eq c m p xs q d n u → u ≡ Unchanged → d ≡ c
    told_by_each x sound live among at_none e = refl
    told_by_each {c = c} x sound live among (at_next {xs = xs} {d = d} y before run _) e =
        let fewer = λ (z : Ptr Operation) (listed : Contains xs z). among z (Contains-append_left xs (y ∷ []) z listed) in
        let first = kept_by_each x sound live fewer before in
        let here : Contains (nested_in d.program x) y = subst (λ l. Contains l y) (sym first.1) (among y (Contains-push xs y)) in
        let child = child_of d.program x first.0.sound y here in
        let both = either_unchanged _ _ e in
        told_by_run b Accepts tells first.0.sound child.in_block.operation run both.1 ∙ told_by_each x sound live fewer before both.0

    pub nested_tell : (eq : KindsEqual s) (x : Ptr Operation) {c d : ContextIn s} {m n : ManagerIn s} {p q : P} {r : AnswerIn s}
        → IsSound c.program → IsSome (operation_at c.program x) → RunsOnNested b Accepts eq (nested_in c.program x) c m p (Ok r) q d n
        → r.ir_changed ≡ Unchanged → d ≡ c
    nested_tell eq x sound live (on_all (all_ran run status _)) e = told_by_each x sound live (λ y h. h) run (sym status ∙ e)

  module _ (eq : KindsEqual s) (same : (j k : s.kind) → eq j k ≡ true → j ≡ k) (reading : ReadingIn s) (fresh : StaysFresh b eq reading) where
    fresh_by_each : {c : ContextIn s} {m : ManagerIn s} {p : P} {xs : List (Ptr Operation)} {q : P} {d : ContextIn s} {n : ManagerIn s}
        {u : IRStatus} (x : Ptr Operation) → IsSound c.program → IsSome (operation_at c.program x) → Among xs (nested_in c.program x)
        → RunsAtEach b Accepts eq c m p xs q d n u
        → AllFresh eq reading.gives c m.analyses.entries.entries → AllFresh eq reading.gives d n.analyses.entries.entries
    fresh_by_each x sound live among at_none all = all
    fresh_by_each {c = c} x sound live among (at_next {xs = xs} {d = d} {r = r} y before run retains) all =
        let fewer = λ (z : Ptr Operation) (listed : Contains xs z). among z (Contains-append_left xs (y ∷ []) z listed) in
        let first = kept_by_each x sound live fewer before in
        let here : Contains (nested_in d.program x) y = subst (λ l. Contains l y) (sym first.1) (among y (Contains-push xs y)) in
        let child = child_of d.program x first.0.sound y here in
        retained_fresh s eq same reading _ r _ _ retains
        (fresh_by_run b Accepts eq reading fresh first.0.sound child.in_block.operation run (fresh_by_each x sound live fewer before all))

    pub nested_stay_fresh : (x : Ptr Operation) {c d : ContextIn s} {m n : ManagerIn s} {p q : P} {r : AnswerIn s}
        → IsSound c.program → IsSome (operation_at c.program x) → RunsOnNested b Accepts eq (nested_in c.program x) c m p (Ok r) q d n
        → AllFresh eq reading.gives c m.analyses.entries.entries
        → ListedFresh eq reading.gives r.preserved.items d n.analyses.entries.entries
        × (r.ir_changed ≡ Unchanged → AllFresh eq reading.gives d n.analyses.entries.entries)
    nested_stay_fresh x sound live (on_all (all_ran run _ _)) all =
        let all_then = fresh_by_each x sound live (λ y h. h) run all in
        (λ k p a listed is there. all_then k p a is there, λ e. all_then)
