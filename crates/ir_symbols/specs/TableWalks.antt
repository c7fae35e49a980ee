-- Walks over the operations of a symbol table: the root and what stands in it, but for what stands in a table further in.
use Rattle.std.specs.Prelude.{◌≡◌, ◌≢◌, ◌⊎◌, ◌↔◌, ℕ, Bool, List, [], ◌∷◌, ◌++◌, Some, map, slice_get, Contains, AllPairs}
use Rattle.std.specs.Borrow.{Bor, MutBor}
use Rattle.std.specs.Fn.{Called, Mut}
use Rattle.std.specs.declared.ops.ControlFlow.{ControlFlow}
use Rattle.std.specs.declared.ops.ControlFlow.TheVariants.{Continue, Break}
use Rattle.ir_program.specs.Lists.{StandsInside}
use Rattle.ir_program.specs.Program.{Program}
use Rattle.ir_program.specs.declared.handles.IRNode.TheVariants.{Operation as OperationNode, Region as RegionNode, BasicBlock as BlockNode}
use Rattle.ir_program.specs.declared.handles.Operation.{Operation}
use Rattle.ir_program.specs.declared.handles.Ptr.{Ptr}
use Rattle.ir_walks.specs.declared.config.Direction.TheVariants.{Forward}
use Rattle.ir_walks.specs.declared.config.Order.TheVariants.{PreOrder}
use Rattle.ir_walks.specs.declared.config.WalkConfig.{WalkConfig}
use Rattle.ir_walks.specs.declared.results.WalkContinue.{WalkContinue}
use Rattle.ir_walks.specs.declared.results.WalkContinue.TheVariants.{Advance, Skip}
use Rattle.ir_walks.specs.declared.turns.Cursor.{Cursor}
use Rattle.ir_walks.specs.declared.turns.Cursor.TheVariants.{Arriving, Leaving}
use Rattle.ir_walks.specs.Calls.{Steps}
use Rattle.ir_walks.specs.Levels.{preset}
use Rattle.ir_walks.specs.Places.{Holds, IsBefore}
use Rattle.ir_symbols.specs.Symbols.{IsTable}

-- a callback that is shown a context, a state and an operation, and answers
abbrev pub OnOperation : Type 0 → Type 0 → Type 0 → Type 0 → Type 1
OnOperation F C S R = Mut F (Bor C × (MutBor S × (Ptr Operation × Unit {0}))) (R × (MutBor S × Unit {0}))

-- a call of f at the context, the state s and an operation may answer r, and leave f' and s'
pub record CalledAt {F C S R : Type 0} (g : OnOperation F C S R) (ctx : C) (f : F) (s : S) (op : Ptr Operation) (r : R) (f' : F) (s' : S) : Type 0 where
  pub context : Bor C
  pub context_is : context.now ≡ ctx
  pub shown : MutBor S
  pub shows : shown.now ≡ s
  pub left : MutBor S
  pub called : Called g f (context, (shown, (op, tt))) (r, (left, tt)) f'
  pub leaves : left.now ≡ s'

-- an operation that was called, and what its call answered
abbrev pub OperationCall : Type 0
OperationCall = Ptr Operation × WalkContinue

-- the operations that were called, in the order of the calls
abbrev pub called_operations : List OperationCall → List (Ptr Operation)
called_operations calls = map (λ (call : OperationCall). call.0) calls

-- the operation was called
abbrev pub IsCalledIn : List OperationCall → Ptr Operation → Type 0
IsCalledIn calls op = (a : WalkContinue) × Contains calls (op, a)

-- a call that says how to go on: the callback and the state before and after it
abbrev pub GoesOn : {F C S K : Type 0} → OnOperation F C S (ControlFlow K WalkContinue) → C → F × S → OperationCall → F × S → Type 0
GoesOn g ctx v call w = CalledAt g ctx v.0 v.1 call.0 (Continue call.1) w.0 w.1

-- the order of the walk
abbrev pub forward : WalkConfig
forward = preset PreOrder Forward

module _ {O B : Type 0} (holds_table : O → Bool) (p : Program O B) (root : Ptr Operation) where
  -- the operation holds a table, and isn't the root
  abbrev pub IsNestedTable : Ptr Operation → Type 0
  IsNestedTable op = (op ≢ root) × IsTable holds_table p op

  -- an operation that was called holds this one, and is a nested table, or its call answered Skip
  pub record IsHidden (calls : List OperationCall) (op : Ptr Operation) : Type 0 where
    pub holder : Ptr Operation
    pub answer : WalkContinue
    pub called : Contains calls (holder, answer)
    pub hides : (answer ≡ Skip) ⊎ IsNestedTable holder
    pub holds : Holds p forward (OperationNode holder) (OperationNode op)

  -- a is called before b: it holds b, or stands before it in the lowest node that holds both
  abbrev pub ComesBefore : Ptr Operation → Ptr Operation → Type 0
  ComesBefore a b = IsBefore p forward (OperationNode a) (OperationNode b)

  -- it is the root, or stands in it, and none of these calls hides it
  abbrev pub IsShown : List OperationCall → Ptr Operation → Type 0
  IsShown calls op = StandsInside p (OperationNode root) (OperationNode op) × (IsHidden calls op → ⊥)

  -- the calls of a whole walk: their order; that exactly those operations are called which are the root or stand in it and which no call
  -- hides; and which of both it is of each operation in the root
  pub record IsTableWalk (calls : List OperationCall) : Type 0 where
    pub order : AllPairs ComesBefore (called_operations calls)
    pub exactly : (op : Ptr Operation) → IsCalledIn calls op ↔ IsShown calls op
    pub either : (op : Ptr Operation) → StandsInside p (OperationNode root) (OperationNode op) → IsCalledIn calls op ⊎ IsHidden calls op

  -- the calls of a walk up to the one of `last`: their order; each is of an operation that no call hides; and each operation in the root
  -- was called, or is hidden, or comes after the last
  pub record BeginsTableWalk (calls : List OperationCall) (last : Ptr Operation) : Type 0 where
    pub order : AllPairs ComesBefore (called_operations calls ++ last ∷ [])
    pub shown : (op : Ptr Operation) → IsCalledIn calls op → IsShown calls op
    pub last_shown : IsShown calls last
    pub all : (op : Ptr Operation) → StandsInside p (OperationNode root) (OperationNode op) → IsCalledIn calls op ⊎ ((op ≡ last) ⊎ (IsHidden calls op ⊎ ComesBefore last op))

  module _ {F C S K : Type 0} (g : OnOperation F C S (ControlFlow K WalkContinue)) (ctx : C) where
    -- the callback was called so, up to and with the first call that broke
    pub record BreaksTableOff (f : F) (s : S) (k : K) (s' : S) : Type 0 where
      pub calls : List OperationCall
      pub between : F × S
      pub went_on : Steps (GoesOn g ctx) (f, s) calls between
      pub last : Ptr Operation
      pub after : F
      pub broke : CalledAt g ctx between.0 between.1 last (Break k) after s'
      pub begins : BeginsTableWalk calls last

    -- how a walk ends: all its calls were made, each on what the one before left; or a call broke
    abbrev pub EndsTableWalk : F → S → ControlFlow K WalkContinue → S → Type 0
    EndsTableWalk f s (Continue a) s' = (a ≡ Advance) × (calls : List OperationCall) × (after : F) × Steps (GoesOn g ctx) (f, s) calls (after, s') × IsTableWalk calls
    EndsTableWalk f s (Break k) s' = BreaksTableOff f s k s'

    -- how the walk of all nodes goes on after a call of an operation that answered so: past what stands in a nested table
    abbrev pub Tells : Ptr Operation → WalkContinue → WalkContinue → Type 0
    Tells op a b = (IsNestedTable op × (b ≡ Skip)) ⊎ ((IsNestedTable op → ⊥) × (b ≡ a))

    -- the same after any answer
    abbrev pub TellsOf : Ptr Operation → ControlFlow K WalkContinue → ControlFlow K WalkContinue → Type 0
    TellsOf op (Break k) r = r ≡ Break k
    TellsOf op (Continue a) r = (b : WalkContinue) × (r ≡ Continue b) × Tells op a b

    -- the operation was called, and the walk of all nodes goes on so
    abbrev pub IsAskedOf : Ptr Operation → F → S → ControlFlow K WalkContinue → F → S → Type 0
    IsAskedOf op f s r f' s' = (answer : ControlFlow K WalkContinue) × CalledAt g ctx f s op answer f' s' × TellsOf op answer r

    -- nothing was called, and the walk goes on into the node
    abbrev pub IsSilent : F → S → ControlFlow K WalkContinue → F → S → Type 0
    IsSilent f s r f' s' = (r ≡ Continue Advance) × (f' ≡ f) × (s' ≡ s)

    -- an operation was called where the walk arrives at one; elsewhere nothing was
    abbrev pub IsAskedAt : Cursor → F → S → ControlFlow K WalkContinue → F → S → Type 0
    IsAskedAt (Arriving (OperationNode op)) f s r f' s' = IsAskedOf op f s r f' s'
    IsAskedAt (Arriving (RegionNode x)) f s r f' s' = IsSilent f s r f' s'
    IsAskedAt (Arriving (BlockNode x)) f s r f' s' = IsSilent f s r f' s'
    IsAskedAt (Leaving e) f s r f' s' = IsSilent f s r f' s'
