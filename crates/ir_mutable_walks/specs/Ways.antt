-- The way of a walk over a program that its calls may change.
use Rattle.std.specs.Prelude.{◌≡◌, List, [], ◌∷◌, ◌++◌, Option, Some, None, ⊤}
use Rattle.ir_program.specs.Program.{Program}
use Rattle.ir_program.specs.declared.handles.IRNode.{IRNode}
use Rattle.ir_walks.specs.declared.config.WalkConfig.{WalkConfig}
use Rattle.ir_walks.specs.declared.results.WalkContinue.{WalkContinue}
use Rattle.ir_walks.specs.declared.results.WalkContinue.TheVariants.{Advance}
use Rattle.ir_walks.specs.declared.turns.Cursor.{Cursor}
use Rattle.ir_walks.specs.declared.turns.Cursor.TheVariants.{Arriving}
use Rattle.ir_walks.specs.Turns.{called_at, IsTurn}
use Rattle.ir_walks.specs.Walks.{Call}
use Rattle.ir_mutable_walks.specs.Changes.{KeepsShape}

module _ {O B V : Type 0} (tree : V → Program O B) (Made : V → Call → V → Type 0) (config : WalkConfig) (x : IRNode) (v : V) where
  -- what a walk of x called so far, where it goes on, and what the last call left: the calls are made one after the other, each on what the
  -- one before left; and after each the walk goes on by turns in the tree as that call left it
  pub data Way : List Call → Option Cursor → V → Type 0 where
    start : Way [] (Some (Arriving x)) v
    silent : (calls : List Call) (at : Cursor) (w : V) (next : Option Cursor) → Way calls (Some at) w → called_at config at ≡ None → IsTurn (tree w) config x at Advance next → Way calls next w
    called : (calls : List Call) (at : Cursor) (w : V) (n : IRNode) (a : WalkContinue) (u : V) (next : Option Cursor) → Way calls (Some at) w → called_at config at ≡ Some n → Made w (n, a) u → IsTurn (tree u) config x at a next → Way (calls ++ (n, a) ∷ []) next u

  -- each of these calls left what stands in each node as it was
  abbrev pub EachKeptShape : (calls : List Call) (at : Option Cursor) (w : V) → Way calls at w → Type 0
  EachKeptShape _ _ _ start = ⊤
  EachKeptShape _ _ _ (silent calls at w next way s turn) = EachKeptShape calls (Some at) w way
  EachKeptShape _ _ _ (called calls at w n a u next way s made turn) = EachKeptShape calls (Some at) w way × KeepsShape (tree w) (tree u)
