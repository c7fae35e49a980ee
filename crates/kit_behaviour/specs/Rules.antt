-- Rules of a function whose values are named by their places.
use Rattle.std.specs.Prelude.{◌≡◌, ℕ, zero, suc, ◌<◌, ◌≤◌, ◌+◌, Bool, true, false, List, [], ◌∷◌, ◌++◌, length, Option}
use Rattle.std.specs.Prelude.{Some, None}
use Rattle.kit_behaviour.specs.Machine.{AllEdges, Edge, Op, Const, Calc, Emit, Call, Branch, Return, Block, Fun}
use Rattle.kit_behaviour.specs.Machine.{FunctionsByPath, left_in, arguments_in, size}
use Rattle.kit_behaviour.specs.Facts.{all_forwarded}
use Rattle.kit_behaviour.specs.Scopes.{AllIn, defs, SameLength, BlocksWith}
use Rattle.kit_behaviour.specs.Places.{Place, Arg, Res}

-- the operands of an operation, forwarded ones too
abbrev pub operands : {V : Type 0} → Op V → List V
operands (Const r n) = []
operands (Calc a w r x y) = x ∷ y ∷ []
operands (Emit x) = x ∷ []
operands (Call rs c xs) = xs
operands (Branch s xs e es) = xs ++ all_forwarded (e ∷ es)
operands (Return xs) = xs

-- the operands of these operations
abbrev pub all_operands : {V : Type 0} → List (Op V) → List V
all_operands [] = []
all_operands (op ∷ ops) = operands op ++ all_operands ops

-- the operands of the operations of these blocks
abbrev pub blocks_operands : {V : Type 0} → List (Block V) → List V
blocks_operands [] = []
blocks_operands (k ∷ ks) = all_operands k.ops ++ blocks_operands ks

-- the values that have a use in the function
abbrev pub uses_in : {V : Type 0} → Option (Fun V) → List V
uses_in None = []
uses_in (Some f) = blocks_operands f

-- a branch or a return
abbrev pub is_terminator : {V : Type 0} → Op V → Bool
is_terminator (Branch s xs e es) = true
is_terminator (Return xs) = true
is_terminator (Const r n) = false
is_terminator (Calc a w r x y) = false
is_terminator (Emit x) = false
is_terminator (Call rs c xs) = false

-- the last operation, and no other, is a terminator; there is one
abbrev pub EndsWell : {V : Type 0} → List (Op V) → Type 0
EndsWell [] = ⊥
EndsWell (op ∷ []) = is_terminator op ≡ true
EndsWell (op ∷ next ∷ ops) = (is_terminator op ≡ false) × EndsWell (next ∷ ops)

-- an edge leads to a block of the function, and forwards as many values as that block has arguments
pub record EdgeFits {V : Type 0} (f : Option (Fun V)) (e : Edge V) : Type 0 where
  pub count : SameLength (arguments_in f e.target) e.forwards
  pub leads : e.target < size f

-- each edge of an operation fits
abbrev pub EdgesOfOpFit : {V : Type 0} → Option (Fun V) → Op V → Type 0
EdgesOfOpFit f (Branch s xs e es) = AllEdges (EdgeFits f) (e ∷ es)
EdgesOfOpFit f _ = Unit {0}

-- each edge of these operations fits
abbrev pub AllEdgesFit : {V : Type 0} → Option (Fun V) → List (Op V) → Type 0
AllEdgesFit f [] = Unit {0}
AllEdgesFit f (op ∷ ops) = EdgesOfOpFit f op × AllEdgesFit f ops

-- n places from the ith on
abbrev pub from : (ℕ → Place) → ℕ → ℕ → List Place
from c i zero = []
from c i (suc n) = c i ∷ from c (suc i) n

-- the places of the results of an operation
abbrev pub results_at : ℕ → ℕ → ℕ → ℕ → List Place
results_at b o i n = from (Res b o) i n

-- each result of these operations, which are those of block b from the oth on, is named by its place
abbrev pub OpsPlaced : ℕ → ℕ → List (Op Place) → Type 0
OpsPlaced b o [] = Unit {0}
OpsPlaced b o (op ∷ ops) = (defs op ≡ results_at b o 0 (length (defs op))) × OpsPlaced b (suc o) ops

-- the rules of a function, its values named by their places: each block ends in a terminator and has no other; each
-- operand is in scope; edges fit; results and arguments are named by their places. Types are not part of a flat
-- function
pub record Rules (f : Option (Fun Place)) : Type 0 where
  pub terminated : (b : ℕ) → b < size f → EndsWell (left_in f b 0)
  pub sees : BlocksWith f (λ a op. AllIn (operands op) a)
  pub fits : (b : ℕ) → AllEdgesFit f (left_in f b 0)
  pub names : (b : ℕ) → OpsPlaced b 0 (left_in f b 0)
  pub args : (b : ℕ) → arguments_in f b ≡ from (Arg b) 0 (length (arguments_in f b))

-- each block of these functions has fewer than c operations
abbrev pub BlocksBelow : ℕ → FunctionsByPath Place → Type 0
BlocksBelow c p = (path : List ℕ) (b : ℕ) → length (left_in (p path) b 0) < c

-- how many operations these blocks have
abbrev pub operations_of : {V : Type 0} → List (Block V) → ℕ
operations_of [] = 0
operations_of (k ∷ ks) = length k.ops + operations_of ks

-- how many operations a function has
abbrev pub operation_count : {V : Type 0} → Option (Fun V) → ℕ
operation_count None = 0
operation_count (Some f) = operations_of f

-- no function has more than c operations
abbrev pub OperationsWithin : ℕ → FunctionsByPath Place → Type 0
OperationsWithin c p = (path : List ℕ) → operation_count (p path) ≤ c
