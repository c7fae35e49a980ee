-- What the optimisations make, and what they leave outside, from what they promise.
use Rattle.std.proofs.Common.{◌≡◌, ⊎_elim, Bool, Result, Ok, Err, IsSome, sym, ap, subst}
use Rattle.std.specs.Prelude.{◌↔◌, IfErr, IfOk, OnErr, OnOk}
use Rattle.ir_context.specs.Views.{ContextView}
use Rattle.ir_opts.specs.Simplified.{HasNothingToDo, Simplifies, StopsAt}
use Rattle.ir_opts.specs.SimplifiedTree.{SimplifiesTree}
use Rattle.ir_program.specs.Program.{operation_at}
use Rattle.ir_program.specs.declared.handles.Operation.{Operation}
use Rattle.ir_program.specs.declared.handles.Ptr.{Ptr}
use Rattle.ir_trees.specs.Stands.{in_program, ProgramTree, StandsFor}
use Rattle.opt_dce.specs.Thins.{IsOutcome}
use Rattle.opt_dialect.specs.declared.status.IRStatus.{IRStatus}
use Rattle.opt_dialect.specs.declared.status.IRStatus.TheVariants.{Unchanged}
use Rattle.opt_dialect.specs.declared.status.OptError.{OptError}
use Rattle.opt_dialect.specs.declared.status.OptError.TheVariants.{Memory, UndeterminedOperand}
use Rattle.opt_handles.specs.Handles.{KeepsHandles}
use Rattle.opt_inside.specs.Edges.{HasLocalEdgesBelow}
use Rattle.opt_inside.specs.Occurring.{OfItsTree}
use Rattle.opt_sccp.specs.Made.{IsShortage}
use Rattle.opt_sccp.specs.Sccp.{IsPartlyPropagated, IsPropagated, IsSccpRefusal, LacksIn}
use Rattle.opt_trees.specs.Dialect.{Dialect}
use Rattle.pass_analyses.specs.declared.manager.AnalysisManager.{AnalysisManager}
use Rattle.pass_outside.specs.Outside.{LeavesOutside}
use Rattle.pass_outside.specs.Sound.{IsSound}
use Rattle.pass_outside.proofs.Outside.{left_same}
use Rattle.opt_passes.specs.Outcomes.{TakesOutDead, taken_out, none_taken}
use Rattle.opt_passes.specs.Outcomes.{PutsConstantsIn, put_in, some_put, none_put}
use Rattle.opt_passes.specs.Outcomes.{SimplifiesFlow, simplified, stopped}
use Rattle.opt_passes.specs.Tested.{FailsTest, not_verified, not_local, RunsTested, refused, foreign}
use Rattle.opt_passes.proofs.DeadLeft.{dead_left}
use Rattle.opt_passes.proofs.ConstantsLeft.{propagated_left, part_left}
use Rattle.opt_passes.proofs.FlowLeft.{flow_left, stopped_left}

-- an operation that fails the test is refused
pub failed : {O B T E D K F A : Type 0} {Accepts : ContextView O B T → Ptr Operation → Type 0} {ends : O → Bool}
    {Makes : ContextView O B T → Ptr Operation → Result IRStatus OptError → ContextView O B T → Type 0}
    {x : Ptr Operation} {c : ContextView O B T} {m : AnalysisManager E D K T F O B A} {e : OptError}
    → FailsTest (Accepts c x) (HasLocalEdgesBelow ends c.program x) e → RunsTested Accepts ends Makes x c m (Err e) c m
failed (not_verified why) = refused why
failed (not_local accepted leads) = foreign accepted leads

module _ {O B T A : Type 0} (d : Dialect (in_program O B) A) (old new : ContextView O B T) (op : Ptr Operation) where
  abbrev Answer : Type 0
  Answer = Result IRStatus OptError

  -- ---- dead code elimination

  pub dead_outcome : (r : Answer)
      → IfOk r (λ status. OfItsTree old.program op (λ t. IsOutcome d old.program new.program op t status))
      → (r ≡ Ok Unchanged → new ≡ old) → IfErr r (λ e. e ≡ Memory) → IfErr r (λ e. new ≡ old)
      → KeepsHandles old.program new.program op → new.types ≡ old.types → TakesOutDead d old op r new
  dead_outcome (Ok status) made unchanged memory same handles types =
      taken_out made handles (record { unchanged = λ e. unchanged (ap Ok e); types = types })
  dead_outcome (Err e) made unchanged memory same handles types =
      subst (λ z. TakesOutDead d old op (Err z) new) (sym memory)
      (subst (λ z. TakesOutDead d old op (Err Memory) z) (sym same) none_taken)

  -- ---- constant propagation

  pub constants_outcome : (r : Answer) → IfOk r (IsPropagated d old.program new.program op)
      → (r ≡ Ok Unchanged → new ≡ old) → OnErr r (IsPartlyPropagated d old.program new.program op)
      → (r ≡ Err UndeterminedOperand → OfItsTree old.program op (LacksIn d)) → IfErr r IsSccpRefusal
      → (r ≡ Err UndeterminedOperand → new ≡ old) → new.types ≡ old.types → PutsConstantsIn d old op r new
  constants_outcome (Ok status) all unchanged part lacking why same types =
      put_in all (record { unchanged = λ e. unchanged (ap Ok e); types = types })
  constants_outcome (Err e) all unchanged part lacking why same types = ⊎_elim
      (λ (short : IsShortage e). some_put short part types)
      (λ (lacks : e ≡ UndeterminedOperand).
      let is : Err e ≡ Err UndeterminedOperand = ap (λ z. Err z) lacks in
      subst (λ z. PutsConstantsIn d old op (Err z) new) (sym lacks)
      (subst (λ z. PutsConstantsIn d old op (Err UndeterminedOperand) z) (sym (same is)) (none_put (lacking is))))
      why

  -- ---- simplification of control flow

  pub flow_outcome : (r : Answer) → OnOk r (Simplifies d old.program new.program op)
      → OnOk r (OfItsTree old.program op (SimplifiesTree d old.program new.program op))
      → IfOk r (λ status. (status ≡ Unchanged) ↔ HasNothingToDo d old.program op)
      → (r ≡ Ok Unchanged → new ≡ old) → IfErr r (StopsAt d old.program new.program op)
      → KeepsHandles old.program new.program op → new.types ≡ old.types → SimplifiesFlow d old op r new
  flow_outcome (Ok status) steps tree exact unchanged stops handles types =
      simplified steps tree exact handles (record { unchanged = λ e. unchanged (ap Ok e); types = types })
  flow_outcome (Err e) steps tree exact unchanged stops handles types = stopped stops handles types

module _ {O B T A : Type 0} (d : Dialect (in_program O B) A) {old : ContextView O B T} {op : Ptr Operation}
    (was : IsSound old.program) (tree : (t : ProgramTree O B) × StandsFor old.program op t)
    (live : IsSome (operation_at old.program op)) where
  pub rest_of_dead : {r : Result IRStatus OptError} {new : ContextView O B T} → IsSound new.program
      → TakesOutDead d old op r new → LeavesOutside old.program new.program op
  rest_of_dead is (taken_out made handles told) = dead_left d _ _ op was is tree.0 tree.1 (made tree.0 tree.1).made
  rest_of_dead is none_taken = left_same _ op was live

  pub rest_of_constants : {r : Result IRStatus OptError} {new : ContextView O B T} → IsSound new.program
      → PutsConstantsIn d old op r new → LeavesOutside old.program new.program op
  rest_of_constants is (put_in all told) = propagated_left d _ _ op was is tree.0 tree.1 _ (all tree.0 tree.1)
  rest_of_constants is (some_put short part types) = part_left d _ _ op was is tree.0 tree.1 (part tree.0 tree.1)
  rest_of_constants is (none_put lacking) = left_same _ op was live

  pub rest_of_flow : {r : Result IRStatus OptError} {new : ContextView O B T} → IsSound new.program
      → SimplifiesFlow d old op r new → LeavesOutside old.program new.program op
  rest_of_flow is (simplified steps of_tree exact handles told) = flow_left d _ _ op was is tree.0 tree.1 (of_tree tree.0 tree.1)
  rest_of_flow is (stopped stops handles types) = stopped_left d _ op _ was is tree.0 tree.1 _ stops
