-- A pass that tests its operation first keeps to the laws of passes.
use Rattle.std.proofs.Common.{◌≡◌, Bool, true, false, [], IsSome, sym, subst}
use Rattle.std.specs.Prelude.{Result, Ok}
use Rattle.ir_context.specs.Views.{ContextView}
use Rattle.ir_program.specs.Program.{operation_at}
use Rattle.ir_program.specs.declared.handles.Operation.{Operation}
use Rattle.ir_program.specs.declared.handles.Ptr.{Ptr}
use Rattle.ir_trees.specs.Stands.{in_program}
use Rattle.opt_dialect.specs.declared.status.IRStatus.{IRStatus}
use Rattle.opt_dialect.specs.declared.status.IRStatus.TheVariants.{Unchanged}
use Rattle.opt_dialect.specs.declared.status.OptError.{OptError}
use Rattle.opt_trees.specs.Dialect.{Dialect}
use Rattle.pass_analyses.specs.Cached.{is_listed}
use Rattle.pass_analyses.specs.Fresh.{AllFresh, ListedFresh}
use Rattle.pass_analyses.specs.Reading.{Reading}
use Rattle.pass_analyses.specs.declared.manager.AnalysisManager.{AnalysisManager}
use Rattle.pass_analyses.specs.declared.manager.PassResult.{PassResult}
use Rattle.pass_outside.specs.Outside.{LeavesOutside}
use Rattle.pass_outside.specs.Sound.{IsSound}
use Rattle.pass_outside.proofs.Outside.{left_same}
use Rattle.opt_passes.specs.Outcomes.{TakesOutDead, taken_out, PutsConstantsIn, put_in, SimplifiesFlow, simplified}
use Rattle.opt_passes.specs.Tested.{RunsTested, refused, foreign, made}

-- what an optimisation makes where it answers that nothing was changed is what was there
abbrev pub IsTold : {O B T : Type 0}
    → (ContextView O B T → Ptr Operation → Result IRStatus OptError → ContextView O B T → Type 0) → Type 0
IsTold {O} {B} {T} Makes = (c d : ContextView O B T) (x : Ptr Operation) (status : IRStatus) → Makes c x (Ok status) d
    → status ≡ Unchanged → d ≡ c

module _ {O B T A : Type 0} (d : Dialect (in_program O B) A) where
  pub dead_told : IsTold {T = T} (TakesOutDead d)
  dead_told c now x status (taken_out _ _ told) = told.unchanged

  pub constants_told : IsTold {T = T} (PutsConstantsIn d)
  constants_told c now x status (put_in _ told) = told.unchanged

  pub flow_told : IsTold {T = T} (SimplifiesFlow d)
  flow_told c now x status (simplified _ _ _ _ told) = told.unchanged

module _ {O B T E D K F A : Type 0} {Accepts : ContextView O B T → Ptr Operation → Type 0} {ends : O → Bool}
    {Makes : ContextView O B T → Ptr Operation → Result IRStatus OptError → ContextView O B T → Type 0} where
  pub tested_keep : {x : Ptr Operation} {c d : ContextView O B T} {m n : AnalysisManager E D K T F O B A}
      {r : Result (PassResult E D K T F O B A) OptError} → IsSound c.program → IsSome (operation_at c.program x)
      → RunsTested Accepts ends Makes x c m r d n → LeavesOutside c.program d.program x
  tested_keep sound live (refused _) = left_same _ _ sound live
  tested_keep sound live (foreign _ _) = left_same _ _ sound live
  tested_keep sound live (made _ _ _ rest _) = rest

  module _ (told : IsTold Makes) where
    pub tested_tell : {x : Ptr Operation} {c d : ContextView O B T} {m n : AnalysisManager E D K T F O B A}
        {r : PassResult E D K T F O B A} → RunsTested Accepts ends Makes x c m (Ok r) d n
        → r.ir_changed ≡ Unchanged → d ≡ c
    tested_tell (made _ _ makes _ _) = told _ _ _ _ makes

    pub tested_stay_fresh : (eq : K → K → Bool) (reading : Reading (ContextView O B T) K E) {x : Ptr Operation}
        {c d : ContextView O B T} {m n : AnalysisManager E D K T F O B A} {r : PassResult E D K T F O B A}
        → RunsTested Accepts ends Makes x c m (Ok r) d n
        → AllFresh eq reading.gives c m.analyses.entries.entries
        → ListedFresh eq reading.gives r.preserved.items d n.analyses.entries.entries
        × (r.ir_changed ≡ Unchanged → AllFresh eq reading.gives d n.analyses.entries.entries)
    tested_stay_fresh eq reading {m = m} (made _ _ makes _ none) all = (
      λ k p a listed is there.
          let none_listed : is_listed eq [] k ≡ true = subst (λ ks. is_listed eq ks k ≡ true) none listed in
          let no : false ≡ true = none_listed in
          cc,
      λ same. subst (λ (z : ContextView O B T). AllFresh eq reading.gives z m.analyses.entries.entries)
          (sym (told _ _ _ _ makes same)) all,
    )
