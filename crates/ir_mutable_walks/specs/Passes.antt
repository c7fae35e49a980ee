-- From one call of a walk to the next. No public clause speaks of it.
use Rattle.std.specs.Prelude.{◌≡◌, Option, Some, None, IfSome}
use Rattle.std.specs.declared.ops.ControlFlow.{ControlFlow}
use Rattle.std.specs.declared.ops.ControlFlow.TheVariants.{Continue, Break}
use Rattle.ir_program.specs.Lists.{IsLiveNode, StandsInside}
use Rattle.ir_program.specs.Program.{Program}
use Rattle.ir_program.specs.declared.handles.IRNode.{IRNode}
use Rattle.ir_walks.specs.declared.config.WalkConfig.{WalkConfig}
use Rattle.ir_walks.specs.declared.results.WalkContinue.{WalkContinue}
use Rattle.ir_walks.specs.declared.results.WalkContinue.TheVariants.{Advance}
use Rattle.ir_walks.specs.declared.turns.Cursor.{Cursor}
use Rattle.ir_walks.specs.declared.turns.Cursor.TheVariants.{Arriving}
use Rattle.ir_walks.specs.Turns.{called_at, node_of, IsTurn, IsKnown}
use Rattle.ir_mutable_walks.specs.Changes.{Moment, MutCallback, ChangesOn, ReshapesBelow}

module _ {O B : Type 0} (c : Program O B) (config : WalkConfig) (x : IRNode) where
  -- a walk of x goes on from one place to another, and calls nothing at the first nor between both
  pub data Passes (from : Option Cursor) : Option Cursor → Type 0 where
    here : Passes from from
    further : (at : Cursor) (next : Option Cursor) → Passes from (Some at) → called_at config at ≡ None → IsTurn c config x at Advance next → Passes from next

  -- a walk of x is at a node in x, which is called there
  pub record IsAtCall (at : Cursor) : Type 0 where
    pub inside : StandsInside c x (node_of at)
    pub calls : called_at config at ≡ Some (node_of at)

  -- from one place the walk comes to its next call, or to its end
  pub record ComesTo (from to : Option Cursor) : Type 0 where
    pub passes : Passes from to
    pub stops : IfSome to IsAtCall

  -- the walk comes to its first call, or to its end
  pub record Starts (to : Option Cursor) : Type 0 where
    pub known : IsKnown c x
    pub comes : ComesTo (Some (Arriving x)) to

  -- after a call that answered so, the walk comes to its next call, or to its end
  pub record GoesOn (at : Cursor) (answer : WalkContinue) (to : Option Cursor) : Type 0 where
    pub from : Option Cursor
    pub turn : IsTurn c config x at answer from
    pub comes : ComesTo from to

-- what a call at n, in a walk of x, leaves of the program
pub record Leaves {O B : Type 0} (x : IRNode) (old new : Program O B) (n : IRNode) : Type 0 where
  pub before : IsKnown old x
  pub after : IsKnown new x
  pub live : IsLiveNode new x
  pub below : ReshapesBelow old new n

-- one call, and the way to the next one or to the end; or a call that breaks
abbrev pub EndsCall : {O B F C S K : Type 0} → (C → Program O B) → WalkConfig → IRNode → Cursor → MutCallback F C S (ControlFlow K WalkContinue) → Moment F C S → ControlFlow K (Option Cursor) → Moment F C S → Type 0
EndsCall program_of config x at g v (Continue to) w = (a : WalkContinue) × ChangesOn g v (node_of at) (Continue a) w × GoesOn (program_of w.context) config x at a to
EndsCall program_of config x at g v (Break k) w = ChangesOn g v (node_of at) (Break k) w
