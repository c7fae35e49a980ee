-- The way of a walk, with what each call left of the program.
use Rattle.std.proofs.Common.{List, Option, Some}
use Rattle.ir_program.specs.Program.{Program}
use Rattle.ir_program.specs.declared.handles.IRNode.{IRNode}
use Rattle.ir_walks.specs.declared.config.WalkConfig.{WalkConfig}
use Rattle.ir_walks.specs.declared.turns.Cursor.{Cursor}
use Rattle.ir_walks.specs.Turns.{IsKnown}
use Rattle.ir_walks.specs.Walks.{Call}
use Rattle.ir_mutable_walks.specs.Passes.{Passes, here, further, Leaves}
use Rattle.ir_mutable_walks.specs.Ways.{Way, start, silent, called}

-- such a call was made, at a node in x, and left the program so
abbrev pub Keeping : {O B V : Type 0} → (V → Program O B) → (V → Call → V → Type 0) → IRNode → V → Call → V → Type 0
Keeping tree Made x v call w = Made v call w × Leaves x (tree v) (tree w) call.0

module _ {O B V : Type 0} (tree : V → Program O B) (Made : V → Call → V → Type 0) (config : WalkConfig) (x : IRNode) (v : V) where
  -- the way, without what is known of the program
  abbrev pub bare : (calls : List Call) (at : Option Cursor) (w : V) → Way tree (Keeping tree Made x) config x v calls at w → Way tree Made config x v calls at w
  bare _ _ _ start = start
  bare _ _ _ (silent calls at w next way s turn) = silent calls at w next (bare calls (Some at) w way) s turn
  bare _ _ _ (called calls at w n a u next way s made turn) = called calls at w n a u next (bare calls (Some at) w way) s made.0 turn

  pub way_on : (calls : List Call) (from : Option Cursor) (w : V) → Way tree Made config x v calls from w → (to : Option Cursor) → Passes (tree w) config x from to → Way tree Made config x v calls to w
  way_on calls from w way _ here = way
  way_on calls from w way _ (further at next p s turn) = silent calls at w next (way_on calls from w way (Some at) p) s turn

  pub known_along : IsKnown (tree v) x → (calls : List Call) (at : Option Cursor) (w : V) → Way tree (Keeping tree Made x) config x v calls at w → IsKnown (tree w) x
  known_along known _ _ _ start = known
  known_along known _ _ _ (silent calls at w next way s turn) = known_along known calls (Some at) w way
  known_along known _ _ _ (called calls at w n a u next way s made turn) = made.1.after
