-- Calls of a callback that may change the context, and what such a call may do to what stands where.
use Rattle.std.specs.Prelude.{◌≡◌}
use Rattle.std.specs.Borrow.{MutBor}
use Rattle.std.specs.Fn.{Called, Mut}
use Rattle.std.specs.declared.ops.ControlFlow.{ControlFlow}
use Rattle.std.specs.declared.ops.ControlFlow.TheVariants.{Continue, Break}
use Rattle.ir_program.specs.Lists.{IsLiveNode, StandsInside}
use Rattle.ir_program.specs.Preorder.{nodes_in}
use Rattle.ir_program.specs.Program.{Program}
use Rattle.ir_program.specs.declared.handles.IRNode.{IRNode}
use Rattle.ir_walks.specs.declared.results.WalkContinue.{WalkContinue}
use Rattle.ir_walks.specs.declared.results.WalkContinue.TheVariants.{Advance}
use Rattle.ir_walks.specs.Walks.{Call}

-- what a walk is about between two calls: the callback, the context and the state
pub record Moment (F C S : Type 0) : Type 0 where
  pub callback : F
  pub context : C
  pub state : S

abbrev pub moment : {F C S : Type 0} → F → C → S → Moment F C S
moment f c s = record { callback = f; context = c; state = s }

-- the program at a moment
abbrev pub program_at : {O B F C S : Type 0} → (C → Program O B) → Moment F C S → Program O B
program_at program_of v = program_of v.context

-- a callback that is given a context, a state and a node, and answers
abbrev pub MutCallback : Type 0 → Type 0 → Type 0 → Type 0 → Type 1
MutCallback F C S R = Mut F (MutBor C × (MutBor S × (IRNode × Unit {0}))) (R × (MutBor C × (MutBor S × Unit {0})))

module _ {F C S R : Type 0} (g : MutCallback F C S R) where
  -- a call at the context, the state and the node may answer r, and leave what is in the second moment
  pub record ChangesOn (v : Moment F C S) (node : IRNode) (r : R) (w : Moment F C S) : Type 0 where
    pub context : MutBor C
    pub context_is : context.now ≡ v.context
    pub shown : MutBor S
    pub shows : shown.now ≡ v.state
    pub left_context : MutBor C
    pub left : MutBor S
    pub called : Called g v.callback (context, (shown, (node, tt))) (r, (left_context, (left, tt))) w.callback
    pub leaves_context : left_context.now ≡ w.context
    pub leaves : left.now ≡ w.state

-- a call that says how to go on
abbrev pub Answers : {F C S K : Type 0} → MutCallback F C S (ControlFlow K WalkContinue) → Moment F C S → Call → Moment F C S → Type 0
Answers g v call w = ChangesOn g v call.0 (Continue call.1) w

-- a call that ends the walk with k
abbrev pub Ends : {F C S K : Type 0} → MutCallback F C S (ControlFlow K WalkContinue) → K → Moment F C S → IRNode → Moment F C S → Type 0
Ends g k v node w = ChangesOn g v node (Break k) w

-- a call that says nothing, so the walk goes on into its node
abbrev pub Visits : {F C S : Type 0} → MutCallback F C S (Unit {0}) → Moment F C S → Call → Moment F C S → Type 0
Visits g v call w = (call.1 ≡ Advance) × ChangesOn g v call.0 tt w

module _ {O B : Type 0} where
  -- only what is below n was reshaped: n is still there, and so is each node that neither is n nor stands in it, with the same in it.
  -- Attributes, operands, types and the like may change everywhere
  pub record ReshapesBelow (old new : Program O B) (n : IRNode) : Type 0 where
    pub there : IsLiveNode new n
    pub live : (e : IRNode) → IsLiveNode old e → (StandsInside old n e → ⊥) → IsLiveNode new e
    pub same : (e : IRNode) → IsLiveNode old e → (StandsInside old n e → ⊥) → nodes_in new e ≡ nodes_in old e

  -- each node has in it what it had
  abbrev pub KeepsShape : Program O B → Program O B → Type 0
  KeepsShape old new = (e : IRNode) → IsLiveNode old e → nodes_in new e ≡ nodes_in old e

  -- each call of a callback, at a node that is there, reshapes only what is below that node
  abbrev pub AlwaysReshapesBelow : {F C S R : Type 0} → (C → Program O B) → MutCallback F C S R → Type 0
  AlwaysReshapesBelow {F} {C} {S} {R} program_of g = (v : Moment F C S) (node : IRNode) (r : R) (w : Moment F C S) → IsLiveNode (program_of v.context) node → ChangesOn g v node r w → ReshapesBelow (program_of v.context) (program_of w.context) node
