-- How a walk ends that may change what it goes over.
use Rattle.std.specs.Prelude.{◌≡◌, ℕ, ◌<◌, ◌≤◌, List, ◌∷◌, ◌++◌, length, Some, None, Result, Ok, Err}
use Rattle.std.specs.declared.ops.ControlFlow.{ControlFlow}
use Rattle.std.specs.declared.ops.ControlFlow.TheVariants.{Continue, Break}
use Rattle.ir_program.specs.Program.{Program}
use Rattle.ir_program.specs.declared.handles.IRNode.{IRNode}
use Rattle.ir_walks.specs.declared.config.Order.{Order}
use Rattle.ir_walks.specs.declared.config.Order.TheVariants.{PreOrder, PostOrder}
use Rattle.ir_walks.specs.declared.config.WalkConfig.{WalkConfig}
use Rattle.ir_walks.specs.declared.results.WalkContinue.{WalkContinue}
use Rattle.ir_walks.specs.declared.results.WalkContinue.TheVariants.{Advance}
use Rattle.ir_walks.specs.declared.turns.Cursor.{Cursor}
use Rattle.ir_walks.specs.Places.{IsWalkOf}
use Rattle.ir_walks.specs.Turns.{called_at}
use Rattle.ir_walks.specs.Walks.{Call}
use Rattle.ir_mutable_walks.specs.declared.limit.WalkLimit.{WalkLimit}
use Rattle.ir_mutable_walks.specs.Changes.{moment, program_at, MutCallback, Answers, Ends, Visits}
use Rattle.ir_mutable_walks.specs.Ways.{Way, EachKeptShape}

-- every level has this order
pub record HasOrder (config : WalkConfig) (order : Order) : Type 0 where
  pub operation : config.operation.order ≡ order
  pub region : config.region.order ≡ order
  pub block : config.block.order ≡ order

-- what is told of a walk by the last or by the first tree: where each node is called before what stands in it, by the last; where each is
-- called after that, by the first; and where the calls kept all shapes, by the first
pub record Tells {O B : Type 0} (config : WalkConfig) (Told : Program O B → Type 0) (first last : Program O B) (Kept : Type 0) : Type 0 where
  pub pre_order : HasOrder config PreOrder → Told last
  pub post_order : HasOrder config PostOrder → Told first
  pub kept : Kept → Told first

-- a walk of x begins with these calls, and then calls this node
abbrev pub Begins : {O B : Type 0} → WalkConfig → IRNode → List Call → IRNode → Program O B → Type 0
Begins config x calls node c = (a : WalkContinue) × (rest : List Call) × IsWalkOf c config x (calls ++ (node, a) ∷ rest)

module _ {O B V : Type 0} (tree : V → Program O B) (Made : V → Call → V → Type 0) (config : WalkConfig) (x : IRNode) (limit : ℕ) (v : V) where
  -- the walk came to its end, by no more calls than the limit: `way` says how, and the calls are those of a walk of x, of the last tree or of the first
  pub record IsDone (w : V) : Type 0 where
    pub calls : List Call
    pub way : Way tree Made config x v calls None w
    pub within : length calls ≤ limit
    pub walk : Tells config (λ c. IsWalkOf c config x calls) (tree v) (tree w) (EachKeptShape tree Made config x v calls None w way)

  -- as many calls as the limit were made, and the walk comes to a further one, which is not made
  pub record MeetsLimit (w : V) : Type 0 where
    pub calls : List Call
    pub at : Cursor
    pub way : Way tree Made config x v calls (Some at) w
    pub node : IRNode
    pub next : called_at config at ≡ Some node
    pub count : length calls ≡ limit
    pub walk : Tells config (Begins config x calls node) (tree v) (tree w) (EachKeptShape tree Made config x v calls (Some at) w way)

  -- the walk came to a call that ended it, and that the limit has room for
  pub record BreaksOff (Broke : V → IRNode → V → Type 0) (w : V) : Type 0 where
    pub calls : List Call
    pub at : Cursor
    pub between : V
    pub way : Way tree Made config x v calls (Some at) between
    pub node : IRNode
    pub next : called_at config at ≡ Some node
    pub broke : Broke between node w
    pub within : length calls < limit
    pub walk : Tells config (Begins config x calls node) (tree v) (tree w) (EachKeptShape tree Made config x v calls (Some at) between way)

module _ {O B F C S : Type 0} (program_of : C → Program O B) (config : WalkConfig) (x : IRNode) (limit : ℕ) where
  -- how a walk of x ends whose callback answers how to go on
  abbrev pub EndsMutWalk : {K : Type 0} → MutCallback F C S (ControlFlow K WalkContinue) → F → C → S → Result (ControlFlow K WalkContinue) WalkLimit → C → S → Type 0
  EndsMutWalk g f c s (Ok (Continue a)) c' s' = (a ≡ Advance) × (f' : F) × IsDone (program_at program_of) (Answers g) config x limit (moment f c s) (moment f' c' s')
  EndsMutWalk g f c s (Ok (Break k)) c' s' = (f' : F) × BreaksOff (program_at program_of) (Answers g) config x limit (moment f c s) (Ends g k) (moment f' c' s')
  EndsMutWalk g f c s (Err e) c' s' = (f' : F) × MeetsLimit (program_at program_of) (Answers g) config x limit (moment f c s) (moment f' c' s')

  -- how a walk of x ends that goes on up to its end or to the limit
  abbrev pub EndsMutVisit : MutCallback F C S (Unit {0}) → F → C → S → Result (Unit {0}) WalkLimit → C → S → Type 0
  EndsMutVisit g f c s (Ok _) c' s' = (f' : F) × IsDone (program_at program_of) (Visits g) config x limit (moment f c s) (moment f' c' s')
  EndsMutVisit g f c s (Err e) c' s' = (f' : F) × MeetsLimit (program_at program_of) (Visits g) config x limit (moment f c s) (moment f' c' s')
