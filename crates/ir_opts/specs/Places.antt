-- Phases of simplifying control flow that begin at a place.
use Rattle.std.specs.Prelude.{◌≡◌, ◌⊎◌, ◌↔◌, Ok, Result, IfErr, IfOk, OnErr, OnOk}
use Rattle.ir_program.specs.Lists.{StandsInOperation, StandsInRegion}
use Rattle.ir_program.specs.Program.{Program}
use Rattle.ir_program.specs.declared.handles.Ptr.{Ptr}
use Rattle.ir_program.specs.declared.handles.Operation.{Operation}
use Rattle.ir_program.specs.declared.handles.Region.{Region}
use Rattle.ir_trees.specs.Stands.{by_handle, in_program, ProgramTree, StandsFor}
use Rattle.opt_trees.specs.Dialect.{Dialect}
use Rattle.opt_trees.specs.Simplify.{StartingRegions}
use Rattle.opt_dialect.specs.declared.status.IRStatus.{IRStatus}
use Rattle.opt_dialect.specs.declared.status.IRStatus.TheVariants.{Unchanged}
use Rattle.opt_dialect.specs.declared.status.OptError.{OptError}
use Rattle.opt_dialect.specs.declared.status.OptError.TheVariants.{LiveUse, Memory}
use Rattle.opt_handles.specs.Handles.{KeepsHandles}
use Rattle.opt_inside.specs.reach.Starts.{IsStartIn}
use Rattle.opt_inside.specs.declared.reach.starts.Start.{Start}
use Rattle.opt_inside.specs.declared.reach.starts.Start.TheVariants.{Operation as AtOperation, Block as AtBlock, Region as AtRegion}
use Rattle.opt_chains.specs.Phases.{MergesBlocks}
use Rattle.ir_opts.specs.joining.Answers.{HasCircle, HasNoCircle, HasNoneJoinable}
use Rattle.opt_simplify.specs.Phases.{RemovesBlocks}
use Rattle.opt_simplify.specs.Refusals.{HasNoneUnreached, LosesNone, LosesUses}

-- the operation that holds the place: itself, or the one in whose region the block is, or whose region it is
abbrev pub IsRootOf : {O B : Type 0} → Program O B → Start → Ptr Operation → Type 0
IsRootOf c (AtOperation op) q = q ≡ op
IsRootOf c (AtBlock b) q = (r : Ptr Region) × StandsInRegion c b r × StandsInOperation c r q
IsRootOf c (AtRegion r) q = StandsInOperation c r q

module _ {O B A : Type 0} (d : Dialect (in_program O B) A) (old new : Program O B) (start : Start) (op : Ptr Operation) where
  -- what holds of the places where looking begins, and of the tree of the operation that holds them
  abbrev pub OfPlaces : (StartingRegions by_handle → ProgramTree O B → Type 0) → Type 0
  OfPlaces P = (p : StartingRegions by_handle) → IsStartIn old start p → (t : ProgramTree O B) → StandsFor old op t → P p t

  -- the blocks that nothing reaches are gone, unless what stays takes a value of what goes
  pub record AnswersRemoval (result : Result IRStatus OptError) : Type 0 where
    pub removed : OnOk result (OfPlaces (λ p t. RemovesBlocks d p old new op t))
    pub accepted : OnOk result (LosesNone d old op start)
    pub unchanged : IfOk result (λ status. (status ≡ Unchanged) ↔ HasNoneUnreached d old op start)
    pub same : result ≡ Ok Unchanged → new ≡ old
    pub refused : IfErr result (λ e. (e ≡ Memory) ⊎ ((e ≡ LiveUse) × LosesUses d old op start))
    pub kept : OnErr result (new ≡ old)
    pub handles : KeepsHandles old new op

  -- the chains of blocks are joined, unless following what is forwarded to an argument comes back to it
  pub record AnswersMerging (result : Result IRStatus OptError) : Type 0 where
    pub merged : OnOk result (OfPlaces (λ p t. MergesBlocks d p old new op t))
    pub accepted : OnOk result (HasNoCircle d old op start)
    pub unchanged : IfOk result (λ status. (status ≡ Unchanged) ↔ HasNoneJoinable d old op start)
    pub same : result ≡ Ok Unchanged → new ≡ old
    pub refused : IfErr result (λ e. (e ≡ Memory) ⊎ ((e ≡ LiveUse) × HasCircle d old op start))
    pub kept : OnErr result (new ≡ old)
    pub handles : KeepsHandles old new op
