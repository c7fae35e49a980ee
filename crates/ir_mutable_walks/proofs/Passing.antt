-- Turns that call nothing, on the way to the next call.
use Rattle.std.proofs.Common.{◌≡◌, ◌<◌, Option, Some, None, sym, subst}
use Rattle.std.specs.Prelude.{IfSome}
use Rattle.ir_program.specs.Lists.{StandsInside}
use Rattle.ir_program.specs.Program.{Program}
use Rattle.ir_program.specs.declared.handles.IRNode.{IRNode}
use Rattle.ir_walks.specs.declared.config.WalkConfig.{WalkConfig}
use Rattle.ir_walks.specs.declared.results.WalkContinue.TheVariants.{Advance}
use Rattle.ir_walks.specs.declared.turns.Cursor.{Cursor}
use Rattle.ir_walks.specs.Turns.{called_at, node_of, IsTurn, IsKnown}
use Rattle.ir_walks.proofs.Measure.{turns_left}
use Rattle.ir_mutable_walks.specs.Passes.{Passes, here, further, ComesTo}
use Rattle.ir_mutable_walks.proofs.OneTurn.{turn_lowers, turn_inside}

module _ {O B : Type 0} (c : Program O B) (config : WalkConfig) (x : IRNode) where
  -- the walk passed from one place to another that is in x
  pub record Passing (from at : Option Cursor) : Type 0 where
    pub passes : Passes c config x from at
    pub inside : IfSome at (λ (to : Cursor). StandsInside c x (node_of to))

  pub passing : (from : Option Cursor) → IfSome from (λ (to : Cursor). StandsInside c x (node_of to)) → Passing from from
  passing from i = record { passes = here; inside = i }

  module _ (from o : Option Cursor) (at : Cursor) (is : o ≡ Some at) (p : Passing from o) where
    at_here : Passing from (Some at)
    at_here = subst (Passing from) is p

    pub inside_here : StandsInside c x (node_of at)
    inside_here = at_here.inside

    pub stops_here : called_at config at ≡ Some (node_of at) → ComesTo c config x from (Some at)
    stops_here h = record { passes = at_here.passes; stops = record { inside = at_here.inside; calls = h } }

    module _ (known : IsKnown c x) (next : Option Cursor) (turn : IsTurn c config x at Advance next) where
      pub passes_on : called_at config at ≡ None → Passing from next
      passes_on h = record { passes = further at next at_here.passes h turn; inside = turn_inside c config x known at at_here.inside Advance next turn }

      pub left_lowers : turns_left c config x next < turns_left c config x o
      left_lowers = subst (λ z. turns_left c config x next < turns_left c config x z) (sym is) (turn_lowers c config x known at at_here.inside Advance next turn)

  pub stops_at_end : (from o : Option Cursor) → o ≡ None → Passing from o → ComesTo c config x from None
  stops_at_end from o is p = let q : Passing from None = subst (Passing from) is p in record { passes = q.passes; stops = tt }
