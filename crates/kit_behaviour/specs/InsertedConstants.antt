-- Constants put in for known values, and uses that name them.
use Rattle.std.specs.Prelude.{◌≡◌, ℕ, Bool, true, false, List, [], ◌∷◌, map, Option, Some, None}
use Rattle.kit_behaviour.specs.Places.{Place}
use Rattle.kit_behaviour.specs.RemovedValues.{FewGo}
use Rattle.kit_behaviour.specs.Scopes.{OpScoped, BlocksWith}
use Rattle.kit_behaviour.specs.Facts.{AreClosedFacts, Known, FunctionFacts}
use Rattle.kit_behaviour.specs.Renaming.{same_block, rename_op}
use Rattle.kit_behaviour.specs.Machine.{Op, Const, Calc, Emit, Call, Branch, Return, Block, Fun, FunctionsByPath, left_in}
use Rattle.kit_behaviour.specs.Replacement.{replace}

-- a name while constants are put in: of a value that was there, or of the constant put in for it
pub data OldOrNewName (V : Type 0) : Type 0 where
  Old : (v : V) → OldOrNewName V
  New : (v : V) → OldOrNewName V

-- the test of equality
abbrev pub same_name : {V : Type 0} → (V → V → Bool) → OldOrNewName V → OldOrNewName V → Bool
same_name same (Old a) (Old b) = same a b
same_name same (New a) (New b) = same a b
same_name same (Old a) (New b) = false
same_name same (New a) (Old b) = false

-- a constant that was put in
abbrev pub is_new : {V : Type 0} → OldOrNewName V → Bool
is_new (Old v) = false
is_new (New v) = true

-- which values a constant is put in for, and its number
abbrev pub Made : Type 0 → Type 0
Made V = V → Option ℕ

-- a constant for v before these operations, if there is one
abbrev pub put_if : {V : Type 0} → Option ℕ → V → List (Op (OldOrNewName V)) → List (Op (OldOrNewName V))
put_if None v rest = rest
put_if (Some n) v rest = Const (New v) n ∷ rest

-- the constants for a block's arguments before its operations, the last argument's first
abbrev pub put_args : {V : Type 0} → Made V → List V → List (Op (OldOrNewName V)) → List (Op (OldOrNewName V))
put_args m [] rest = rest
put_args m (v ∷ vs) rest = put_args m vs (put_if (m v) v rest)

-- an operation under its old names
abbrev pub old : {V : Type 0} → Op V → Op (OldOrNewName V)
old op = rename_op Old same_block op

-- the constant for the result of an operation that folds, before these operations
abbrev pub put_before : {V : Type 0} → Made V → Op V → List (Op (OldOrNewName V)) → List (Op (OldOrNewName V))
put_before m (Calc a w r x y) rest = put_if (m r) r rest
put_before m (Const r n) rest = rest
put_before m (Emit x) rest = rest
put_before m (Call rs c xs) rest = rest
put_before m (Branch s xs e es) rest = rest
put_before m (Return xs) rest = rest

-- the operations, each after its constant
abbrev pub put_ops : {V : Type 0} → Made V → List (Op V) → List (Op (OldOrNewName V))
put_ops m [] = []
put_ops m (op ∷ ops) = put_before m op (old op ∷ put_ops m ops)

-- a block with constants: first those of its arguments, then its operations, each after its own
abbrev pub put_block : {V : Type 0} → Made V → Block V → Block (OldOrNewName V)
put_block m b = record { arguments = map Old b.arguments; ops = put_args m b.arguments (put_ops m b.ops) }

-- a function with constants put in; no use names them yet
abbrev pub put_in : {V : Type 0} → Made V → Option (Fun V) → Option (Fun (OldOrNewName V))
put_in m None = None
put_in m (Some f) = Some (map (put_block m) f)

-- the constant for v if there is one, else v
abbrev pub constant_of : {V : Type 0} → Option ℕ → V → OldOrNewName V
constant_of None v = Old v
constant_of (Some n) v = New v

-- what a use of a value names afterwards: its constant if there is one
abbrev pub use_of : {V : Type 0} → Made V → OldOrNewName V → OldOrNewName V
use_of m (Old v) = constant_of (m v) v
use_of m (New v) = New v

-- the constants put in, in each function, and uses that name them
abbrev pub with_constants : {V : Type 0} → (List ℕ → Made V) → FunctionsByPath V → FunctionsByPath (OldOrNewName V)
with_constants m p path = replace (use_of (m path)) (put_in (m path) (p path))

-- none of these gets a constant
abbrev pub AllUnmade : {V : Type 0} → Made V → List V → Type 0
AllUnmade m [] = Unit {0}
AllUnmade m (v ∷ vs) = (m v ≡ None) × AllUnmade m vs

-- no constant and no result of a call gets a constant
abbrev pub OpsUnmade : {V : Type 0} → Made V → List (Op V) → Type 0
OpsUnmade m [] = Unit {0}
OpsUnmade m (Const r n ∷ ops) = (m r ≡ None) × OpsUnmade m ops
OpsUnmade m (Call rs c xs ∷ ops) = AllUnmade m rs × OpsUnmade m ops
OpsUnmade m (Calc a w r x y ∷ ops) = OpsUnmade m ops
OpsUnmade m (Emit x ∷ ops) = OpsUnmade m ops
OpsUnmade m (Branch s xs e es ∷ ops) = OpsUnmade m ops
OpsUnmade m (Return xs ∷ ops) = OpsUnmade m ops

-- constants are put in for known values alone, and for no constant and no result of a call
pub record MayPut {V : Type 0} (m : Made V) (k : FunctionFacts V) (f : Option (Fun V)) : Type 0 where
  pub known : (v : V) (n : ℕ) → m v ≡ Some n → k.of v ≡ Known n
  pub others : (b : ℕ) → OpsUnmade m (left_in f b 0)

-- facts that are closed, operands that are in scope, and constants put in for known values: of each function
pub record InsertsKnown (p : FunctionsByPath Place) (k : List ℕ → FunctionFacts Place) (m : List ℕ → Made Place) : Type 0 where
  pub closed : (path : List ℕ) → AreClosedFacts (p path) (k path)
  pub scoped : (path : List ℕ) → BlocksWith (p path) (OpScoped (p path))
  pub put : (path : List ℕ) → MayPut (m path) (k path) (p path)

-- fewer than c constants are put into a block
abbrev pub FewPut : ℕ → (List ℕ → Made Place) → FunctionsByPath Place → Type 0
FewPut c m p = FewGo c (λ path. is_new) (λ path. put_in (m path) (p path))
