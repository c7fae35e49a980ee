-- A pass that changes nothing.
use Rattle.std.proofs.Common.{◌≡◌, Bool, [], IsSome, sym, subst}
use Rattle.std.specs.Prelude.{Result, Ok, IfOk}
use Rattle.ir_context.specs.Views.{ContextView}
use Rattle.ir_program.specs.Program.{operation_at}
use Rattle.ir_program.specs.declared.handles.Operation.{Operation}
use Rattle.ir_program.specs.declared.handles.Ptr.{Ptr}
use Rattle.opt_dialect.specs.declared.status.IRStatus.TheVariants.{Unchanged}
use Rattle.opt_dialect.specs.declared.status.OptError.{OptError}
use Rattle.pass_analyses.specs.Fresh.{AllFresh, ListedFresh}
use Rattle.pass_analyses.specs.Reading.{Reading}
use Rattle.pass_analyses.specs.declared.manager.AnalysisManager.{AnalysisManager}
use Rattle.pass_analyses.specs.declared.manager.PassResult.{PassResult}
use Rattle.pass_outside.specs.Outside.{LeavesOutside}
use Rattle.pass_outside.specs.Sound.{IsSound}
use Rattle.pass_outside.proofs.Outside.{left_same}

module _ {O B T E D K F A : Type 0} where
  -- the context and the cache are as they were, and no kind is listed
  pub record Tallies (c : ContextView O B T) (m : AnalysisManager E D K T F O B A)
      (r : Result (PassResult E D K T F O B A) OptError)
      (d : ContextView O B T) (n : AnalysisManager E D K T F O B A) : Type 0 where
    pub context : d ≡ c
    pub cache : n.analyses.entries.entries ≡ m.analyses.entries.entries
    pub lists : IfOk r (λ o. o.preserved.items ≡ [])

  pub tally_keeps : {x : Ptr Operation} {c d : ContextView O B T} {m n : AnalysisManager E D K T F O B A}
      {r : Result (PassResult E D K T F O B A) OptError} → IsSound c.program → IsSome (operation_at c.program x)
      → Tallies c m r d n → LeavesOutside c.program d.program x
  tally_keeps {x} {c} {d} sound live run =
      subst (λ (z : ContextView O B T). LeavesOutside c.program z.program x) (sym run.context)
      (left_same c.program x sound live)

  pub tally_tells : {c d : ContextView O B T} {m n : AnalysisManager E D K T F O B A} {r : PassResult E D K T F O B A}
      → Tallies c m (Ok r) d n → r.ir_changed ≡ Unchanged → d ≡ c
  tally_tells run e = run.context

  pub tally_stays_fresh : (eq : K → K → Bool) (reading : Reading (ContextView O B T) K E) {c d : ContextView O B T}
      {m n : AnalysisManager E D K T F O B A} {r : PassResult E D K T F O B A} → Tallies c m (Ok r) d n
      → AllFresh eq reading.gives c m.analyses.entries.entries
      → ListedFresh eq reading.gives r.preserved.items d n.analyses.entries.entries
      × (r.ir_changed ≡ Unchanged → AllFresh eq reading.gives d n.analyses.entries.entries)
  tally_stays_fresh eq reading {c} {d} {m} {n} run all =
      let now : AllFresh eq reading.gives d n.analyses.entries.entries =
      rw (run.context, run.cache) all in
      (λ k p a listed is there. now k p a is there, λ e. now)
