-- The calls of a walk together.
use Rattle.std.proofs.Common.{◌≡◌, ◌≢◌, ℕ, ◌+◌, ◌-◌, List, [], ◌∷◌, ◌++◌, length, Option, Some, None, subst, arith, length-append}
use Rattle.std.specs.Prelude.{IfSome}
use Rattle.ir_program.specs.Lists.{IsLiveNode}
use Rattle.ir_program.specs.Program.{Program}
use Rattle.ir_program.specs.declared.handles.IRNode.{IRNode}
use Rattle.ir_walks.specs.declared.config.WalkConfig.{WalkConfig}
use Rattle.ir_walks.specs.declared.results.WalkContinue.{WalkContinue}
use Rattle.ir_walks.specs.declared.turns.Cursor.{Cursor}
use Rattle.ir_walks.specs.Turns.{node_of, IsKnown}
use Rattle.ir_walks.specs.Walks.{Call}
use Rattle.ir_mutable_walks.specs.Ends.{IsDone, MeetsLimit, BreaksOff}
use Rattle.ir_mutable_walks.specs.Passes.{IsAtCall, Starts, GoesOn, Leaves}
use Rattle.ir_mutable_walks.specs.Ways.{Way, start, called}
use Rattle.ir_mutable_walks.proofs.Along.{Keeping, bare, way_on, known_along}
use Rattle.ir_mutable_walks.proofs.Kept.{as_first}
use Rattle.ir_mutable_walks.proofs.Moved.{last_so_far, so_far_moved}
use Rattle.ir_mutable_walks.proofs.PostOrders.{untouched}
use Rattle.ir_mutable_walks.proofs.SoFar.{whole_walk, begun_walk}

module _ {O B V : Type 0} (tree : V → Program O B) (Made : V → Call → V → Type 0) (config : WalkConfig) (x : IRNode) (limit : ℕ) (v : V) where
  -- what was called so far, where the next call is, and how many may still be made
  pub record Calling (left : ℕ) (at : Option Cursor) (w : V) : Type 0 where
    pub known : IsKnown (tree v) x
    pub calls : List Call
    pub way : Way tree (Keeping tree Made x) config x v calls at w
    pub count : length calls + left ≡ limit
    pub live : IsLiveNode (tree w) x
    pub stops : IfSome at (IsAtCall (tree w) config x)

  pub calling : IsLiveNode (tree v) x → (to : Option Cursor) → Starts (tree v) config x to → Calling limit to v
  calling live to s = record {
    known = s.known;
    calls = [];
    way = way_on tree (Keeping tree Made x) config x v [] _ v start to s.comes.passes;
    count = omega arith;
    live = live;
    stops = s.comes.stops;
  }

  module _ (left : ℕ) (o : Option Cursor) (at : Cursor) (is : o ≡ Some at) (w : V) (calling : Calling left o w) where
    at_call : Calling left (Some at) w
    at_call = subst (λ z. Calling left z w) is calling

    pub is_live : IsLiveNode (tree w) x
    is_live = calling.live

    pub stops_at : IsAtCall (tree w) config x at
    stops_at = at_call.stops

    pub goes : (left ≡ 0 → ⊥) → (a : WalkContinue) (u : V) → Made w (node_of at, a) u → Leaves x (tree w) (tree u) (node_of at) → (to : Option Cursor) → GoesOn (tree u) config x at a to → Calling (left - 1) to u
    goes some a u made leaves to g =
        let many : length (at_call.calls ++ (node_of at, a) ∷ []) ≡ length at_call.calls + 1 = length-append at_call.calls ((node_of at, a) ∷ []) in
        let before : length at_call.calls + left ≡ limit = at_call.count in
        let more : left ≢ 0 = some in
        record {
          known = at_call.known;
          calls = at_call.calls ++ (node_of at, a) ∷ [];
          way = way_on tree (Keeping tree Made x) config x v (at_call.calls ++ (node_of at, a) ∷ []) g.from u (called at_call.calls at w (node_of at) a u g.from at_call.way at_call.stops.calls (made, leaves) g.turn) to g.comes.passes;
          count = omega (arith, many, before, more);
          live = leaves.live;
          stops = g.comes.stops;
        }

    pub meets_limit : left ≡ 0 → MeetsLimit tree Made config x limit v w
    meets_limit none_left =
        let count : length at_call.calls + left ≡ limit = at_call.count in
        let known_w : IsKnown (tree w) x = known_along tree Made config x v at_call.known at_call.calls (Some at) w at_call.way in
        record {
          calls = at_call.calls;
          at = at;
          way = bare tree Made config x v at_call.calls (Some at) w at_call.way;
          node = node_of at;
          next = at_call.stops.calls;
          count = omega (arith, count, none_left);
          walk = record {
            pre_order = λ pre. begun_walk (tree w) config x known_w at_call.calls at (node_of at) at_call.stops.calls (last_so_far tree Made config x v at_call.known pre at_call.calls (Some at) w at_call.way);
            post_order = λ post. begun_walk (tree v) config x at_call.known at_call.calls at (node_of at) at_call.stops.calls (untouched tree Made config x v at_call.known post at_call.calls (Some at) w at_call.way).so_far;
            kept = λ kept. begun_walk (tree v) config x at_call.known at_call.calls at (node_of at) at_call.stops.calls (as_first tree Made config x v at_call.known at_call.calls (Some at) w at_call.way kept).so_far;
          };
        }

    pub breaks_off : (left ≡ 0 → ⊥) → (Broke : V → IRNode → V → Type 0) (u : V) → Broke w (node_of at) u → Leaves x (tree w) (tree u) (node_of at) → BreaksOff tree Made config x limit v Broke u
    breaks_off some Broke u broke leaves =
        let count : length at_call.calls + left ≡ limit = at_call.count in
        let more : left ≢ 0 = some in
        record {
          calls = at_call.calls;
          at = at;
          between = w;
          way = bare tree Made config x v at_call.calls (Some at) w at_call.way;
          node = node_of at;
          next = at_call.stops.calls;
          broke = broke;
          within = omega (arith, count, more);
          walk = record {
            pre_order = λ pre. begun_walk (tree u) config x leaves.after at_call.calls at (node_of at) at_call.stops.calls (so_far_moved (tree w) (tree u) config x leaves.before (node_of at) leaves.below pre at at_call.calls at_call.stops.calls (last_so_far tree Made config x v at_call.known pre at_call.calls (Some at) w at_call.way));
            post_order = λ post. begun_walk (tree v) config x at_call.known at_call.calls at (node_of at) at_call.stops.calls (untouched tree Made config x v at_call.known post at_call.calls (Some at) w at_call.way).so_far;
            kept = λ kept. begun_walk (tree v) config x at_call.known at_call.calls at (node_of at) at_call.stops.calls (as_first tree Made config x v at_call.known at_call.calls (Some at) w at_call.way kept).so_far;
          };
        }

  pub done : (left : ℕ) (o : Option Cursor) → o ≡ None → (w : V) → Calling left o w → IsDone tree Made config x limit v w
  done left o is w calling =
      let end : Calling left None w = subst (λ z. Calling left z w) is calling in
      let count : length end.calls + left ≡ limit = end.count in
      let known_w : IsKnown (tree w) x = known_along tree Made config x v end.known end.calls None w end.way in
      record {
        calls = end.calls;
        way = bare tree Made config x v end.calls None w end.way;
        within = omega (arith, count);
        walk = record {
          pre_order = λ pre. whole_walk (tree w) config x known_w end.calls (last_so_far tree Made config x v end.known pre end.calls None w end.way);
          post_order = λ post. whole_walk (tree v) config x end.known end.calls (untouched tree Made config x v end.known post end.calls None w end.way).so_far;
          kept = λ kept. whole_walk (tree v) config x end.known end.calls (as_first tree Made config x v end.known end.calls None w end.way kept).so_far;
        };
      }
