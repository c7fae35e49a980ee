-- What the optimisations make of an operation of a context, whatever they answer.
use Rattle.std.specs.Prelude.{◌≡◌, ◌↔◌, Result, Ok, Err}
use Rattle.ir_context.specs.Views.{ContextView}
use Rattle.ir_opts.specs.Simplified.{HasNothingToDo, Simplifies, StopsAt}
use Rattle.ir_opts.specs.SimplifiedTree.{SimplifiesTree}
use Rattle.ir_program.specs.declared.handles.Operation.{Operation}
use Rattle.ir_program.specs.declared.handles.Ptr.{Ptr}
use Rattle.ir_trees.specs.Stands.{in_program}
use Rattle.opt_dce.specs.Thins.{IsOutcome}
use Rattle.opt_dialect.specs.declared.status.IRStatus.{IRStatus}
use Rattle.opt_dialect.specs.declared.status.IRStatus.TheVariants.{Unchanged}
use Rattle.opt_dialect.specs.declared.status.OptError.{OptError}
use Rattle.opt_dialect.specs.declared.status.OptError.TheVariants.{Memory, UndeterminedOperand}
use Rattle.opt_handles.specs.Handles.{KeepsHandles}
use Rattle.opt_inside.specs.Occurring.{OfItsTree}
use Rattle.opt_sccp.specs.Made.{IsShortage}
use Rattle.opt_sccp.specs.Sccp.{IsPartlyPropagated, IsPropagated, LacksIn}
use Rattle.opt_trees.specs.Dialect.{Dialect}

module _ {O B T A : Type 0} (d : Dialect (in_program O B) A) (old : ContextView O B T) (op : Ptr Operation) where
  -- where nothing was changed, the context is as it was; and types are as they were in any case
  pub record IsToldBy (status : IRStatus) (new : ContextView O B T) : Type 0 where
    pub unchanged : status ≡ Unchanged → new ≡ old
    pub types : new.types ≡ old.types

  -- dead code elimination
  pub data TakesOutDead : Result IRStatus OptError → ContextView O B T → Type 0 where
    -- what is dead is erased, and other handles are kept
    taken_out : {status : IRStatus} {new : ContextView O B T}
        → OfItsTree old.program op (λ t. IsOutcome d old.program new.program op t status)
        → KeepsHandles old.program new.program op → IsToldBy status new → TakesOutDead (Ok status) new
    -- there is no memory, and nothing is changed
    none_taken : TakesOutDead (Err Memory) old

  -- constant propagation
  pub data PutsConstantsIn : Result IRStatus OptError → ContextView O B T → Type 0 where
    -- the constants are put in
    put_in : {status : IRStatus} {new : ContextView O B T} → IsPropagated d old.program new.program op status
        → IsToldBy status new → PutsConstantsIn (Ok status) new
    -- memory or numbers of values have run out, and some of the constants are put in
    some_put : {error : OptError} {new : ContextView O B T} → IsShortage error
        → IsPartlyPropagated d old.program new.program op → new.types ≡ old.types → PutsConstantsIn (Err error) new
    -- nothing is found out of an operand, and nothing is changed
    none_put : OfItsTree old.program op (LacksIn d) → PutsConstantsIn (Err UndeterminedOperand) old

  -- simplification of control flow
  pub data SimplifiesFlow : Result IRStatus OptError → ContextView O B T → Type 0 where
    -- branches are decided, then unreached blocks are cut, then chains are joined
    simplified : {status : IRStatus} {new : ContextView O B T} → Simplifies d old.program new.program op
        → OfItsTree old.program op (SimplifiesTree d old.program new.program op)
        → (status ≡ Unchanged) ↔ HasNothingToDo d old.program op
        → KeepsHandles old.program new.program op → IsToldBy status new → SimplifiesFlow (Ok status) new
    -- a phase stops; handles are kept all the same
    stopped : {error : OptError} {new : ContextView O B T} → StopsAt d old.program new.program op error
        → KeepsHandles old.program new.program op → new.types ≡ old.types → SimplifiesFlow (Err error) new
