-- What a pass does that tests its operation before it runs an optimisation.
use Rattle.std.specs.Prelude.{◌≡◌, Bool, [], Result, Ok, Err, IfOk}
use Rattle.ir_context.specs.Views.{ContextView}
use Rattle.ir_program.specs.declared.handles.Operation.{Operation}
use Rattle.ir_program.specs.declared.handles.Ptr.{Ptr}
use Rattle.opt_dialect.specs.declared.status.IRStatus.{IRStatus}
use Rattle.opt_dialect.specs.declared.status.OptError.{OptError}
use Rattle.opt_dialect.specs.declared.status.OptError.TheVariants.{ForeignEdge}
use Rattle.opt_inside.specs.Edges.{HasLocalEdgesBelow}
use Rattle.pass_analyses.specs.declared.manager.AnalysisManager.{AnalysisManager}
use Rattle.pass_analyses.specs.declared.manager.PassResult.{PassResult}
use Rattle.pass_managers.specs.Running.{Refuses}
use Rattle.pass_outside.specs.Outside.{LeavesOutside}

-- why an operation fails the test: verifiers refuse it, or there is no memory to tell; or it is accepted, and its edges
-- aren't local
pub data FailsTest (Accepted Local : Type 0) : OptError → Type 0 where
  not_verified : {e : OptError} → Refuses Accepted e → FailsTest Accepted Local e
  not_local : Accepted → (Local → ⊥) → FailsTest Accepted Local ForeignEdge

module _ {O B T E D K F A : Type 0} where
  -- whether a pass changed anything, or its error
  abbrev pub status_of : Result (PassResult E D K T F O B A) OptError → Result IRStatus OptError
  status_of (Ok r) = Ok r.ir_changed
  status_of (Err e) = Err e

  module _ (Accepts : ContextView O B T → Ptr Operation → Type 0) (is_terminator : O → Bool)
      (Makes : ContextView O B T → Ptr Operation → Result IRStatus OptError → ContextView O B T → Type 0)
      (x : Ptr Operation) (c : ContextView O B T) (m : AnalysisManager E D K T F O B A) where
    -- One run: the answer, and the context and the analyses afterwards.
    pub data RunsTested : Result (PassResult E D K T F O B A) OptError → ContextView O B T
        → AnalysisManager E D K T F O B A → Type 0 where
      -- the verifiers refuse the operation, or there is no memory to tell: nothing is changed
      refused : {e : OptError} → Refuses (Accepts c x) e → RunsTested (Err e) c m
      -- it is accepted, and an edge below it leads out of its region, or one from elsewhere leads in: nothing is changed
      foreign : Accepts c x → (HasLocalEdgesBelow is_terminator c.program x → ⊥) → RunsTested (Err ForeignEdge) c m
      -- it passes the test: what the optimisation makes of it is there. What isn't inside it is left, the analyses are as
      -- they were, and no kind is listed as preserved
      made : {r : Result (PassResult E D K T F O B A) OptError} {d : ContextView O B T}
          → Accepts c x → HasLocalEdgesBelow is_terminator c.program x
          → Makes c x (status_of r) d → LeavesOutside c.program d.program x
          → IfOk r (λ answer. answer.preserved.items ≡ []) → RunsTested r d m
