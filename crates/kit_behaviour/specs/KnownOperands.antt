-- Operands that are the results of constants.
use Rattle.std.specs.Prelude.{◌≡◌, ℕ, true, List, [], ◌∷◌, Option}
use Rattle.kit_behaviour.specs.Machine.{Op, Const, Calc, Emit, Call, Branch, Return, Fun, left_in}
use Rattle.kit_behaviour.specs.Scopes.{In}
use Rattle.kit_behaviour.specs.Facts.{FunctionFacts, Known, AreMostPreciseFacts}
use Rattle.kit_behaviour.specs.Rules.{operands}
use Rattle.kit_behaviour.specs.Places.{Place}

-- the results of constants
abbrev pub const_defs : {V : Type 0} → List (Op V) → List V
const_defs [] = []
const_defs (Const r n ∷ ops) = r ∷ const_defs ops
const_defs (Calc a w r x y ∷ ops) = const_defs ops
const_defs (Emit x ∷ ops) = const_defs ops
const_defs (Call rs c xs ∷ ops) = const_defs ops
const_defs (Branch s xs e es ∷ ops) = const_defs ops
const_defs (Return xs ∷ ops) = const_defs ops

-- y is the result of a constant of the function
abbrev pub NamesConstant : {V : Type 0} → Option (Fun V) → V → Type 0
NamesConstant g y = (b : ℕ) × In y (const_defs (left_in g b 0))

-- in each block that the facts know to run, each operand that they know to be a number is the result of a constant
abbrev pub KnownAreConstants : Option (Fun Place) → FunctionFacts Place → Type 0
KnownAreConstants f k =
    (b : ℕ) → k.runs b ≡ true → (op : Op Place) → In op (left_in f b 0) → (x : Place) → In x (operands op) → (n : ℕ)
    → k.of x ≡ Known n → NamesConstant f x

-- what constant propagation leaves: the function has most precise facts, and by these each known operand is a constant
abbrev pub KnownArePropagated : Option (Fun Place) → Type 0
KnownArePropagated f = (k : FunctionFacts Place) × AreMostPreciseFacts f k × KnownAreConstants f k
