-- Calls of a callback, one after the other, and how a walk ends.
use Rattle.std.specs.Prelude.{◌≡◌, List, [], ◌∷◌, ◌++◌, Option, Some, None}
use Rattle.std.specs.Borrow.{Bor, MutBor}
use Rattle.std.specs.Fn.{Called, Mut}
use Rattle.std.specs.declared.ops.ControlFlow.{ControlFlow}
use Rattle.std.specs.declared.ops.ControlFlow.TheVariants.{Continue, Break}
use Rattle.ir_program.specs.Program.{Program}
use Rattle.ir_program.specs.declared.handles.IRNode.{IRNode}
use Rattle.ir_walks.specs.declared.config.WalkConfig.{WalkConfig}
use Rattle.ir_walks.specs.declared.results.WalkContinue.{WalkContinue}
use Rattle.ir_walks.specs.declared.results.WalkContinue.TheVariants.{Advance}
use Rattle.ir_walks.specs.Places.{IsWalkOf}
use Rattle.ir_walks.specs.Walks.{Call}

-- steps, one after the other, each from what the one before left
pub data Steps {V X : Type 0} (R : V → X → V → Type 0) (v : V) : List X → V → Type 0 where
  none : Steps R v [] v
  one_more : (xs : List X) (w : V) (x : X) (u : V) → Steps R v xs w → R w x u → Steps R v (xs ++ x ∷ []) u

-- a callback that is shown a context, a state and a node, and answers
abbrev pub Callback : Type 0 → Type 0 → Type 0 → Type 0 → Type 1
Callback F C S R = Mut F (Bor C × (MutBor S × (IRNode × Unit {0}))) (R × (MutBor S × Unit {0}))

-- a call of f at the context, the state s and a node may answer r, and leave f' and s'
pub record CalledOn {F C S R : Type 0} (g : Callback F C S R) (ctx : C) (f : F) (s : S) (node : IRNode) (r : R) (f' : F) (s' : S) : Type 0 where
  pub context : Bor C
  pub context_is : context.now ≡ ctx
  pub shown : MutBor S
  pub shows : shown.now ≡ s
  pub left : MutBor S
  pub called : Called g f (context, (shown, (node, tt))) (r, (left, tt)) f'
  pub leaves : left.now ≡ s'

-- the callback was called at the node, if there is one; else nothing happened, and this is the answer
abbrev pub IsAsked : {F C S R : Type 0} → Callback F C S R → C → Option IRNode → R → F → S → R → F → S → Type 0
IsAsked g ctx None silent f s r f' s' = (r ≡ silent) × (f' ≡ f) × (s' ≡ s)
IsAsked g ctx (Some node) silent f s r f' s' = CalledOn g ctx f s node r f' s'

-- a call that says how to go on: the callback and the state before and after it
abbrev pub Answers : {F C S K : Type 0} → Callback F C S (ControlFlow K WalkContinue) → C → F × S → Call → F × S → Type 0
Answers g ctx v call w = CalledOn g ctx v.0 v.1 call.0 (Continue call.1) w.0 w.1

-- a call that says nothing, so the walk goes on into its node
abbrev pub Visits : {F C S : Type 0} → Callback F C S (Unit {0}) → C → F × S → Call → F × S → Type 0
Visits g ctx v call w = (call.1 ≡ Advance) × CalledOn g ctx v.0 v.1 call.0 tt w.0 w.1

module _ {O B F C S K : Type 0} (p : Program O B) (config : WalkConfig) (x : IRNode) (g : Callback F C S (ControlFlow K WalkContinue)) (ctx : C) where
  -- the callback was called so, up to and with the first call that broke; and these are the first calls of a walk of x, whatever answer
  -- stands in the place of the last
  pub record BreaksOff (f : F) (s : S) (k : K) (s' : S) : Type 0 where
    pub calls : List Call
    pub between : F × S
    pub went_on : Steps (Answers g ctx) (f, s) calls between
    pub last : IRNode
    pub after : F
    pub broke : CalledOn g ctx between.0 between.1 last (Break k) after s'
    pub answer : WalkContinue
    pub rest : List Call
    pub begins : IsWalkOf p config x (calls ++ (last, answer) ∷ rest)

  -- how a walk of x ends: all its calls were made, each on what the one before left; or a call broke
  abbrev pub EndsWalk : F → S → ControlFlow K WalkContinue → S → Type 0
  EndsWalk f s (Continue a) s' = (a ≡ Advance) × (calls : List Call) × (after : F) × Steps (Answers g ctx) (f, s) calls (after, s') × IsWalkOf p config x calls
  EndsWalk f s (Break k) s' = BreaksOff f s k s'

module _ {O B F C S : Type 0} (p : Program O B) (config : WalkConfig) (x : IRNode) (g : Callback F C S (Unit {0})) (ctx : C) where
  -- all calls of a walk of x were made, each on what the one before left
  abbrev pub IsVisited : F → S → S → Type 0
  IsVisited f s s' = (calls : List Call) × (after : F) × Steps (Visits g ctx) (f, s) calls (after, s') × IsWalkOf p config x calls
