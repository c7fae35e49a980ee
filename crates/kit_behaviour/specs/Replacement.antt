-- Other values in the places of operands.
use Rattle.std.specs.Prelude.{◌≡◌, ◌⊎◌, ℕ, List, map, Option, Some, None}
use Rattle.kit_behaviour.specs.Machine.{Edge, Op, Const, Calc, Emit, Call, Branch, Return, Block, Fun, FunctionsByPath}
use Rattle.kit_behaviour.specs.Facts.{Known, FunctionFacts}

-- the values that an edge forwards, each replaced by the one that s gives
abbrev pub replace_edge : {V : Type 0} → (V → V) → Edge V → Edge V
replace_edge s e = record { target = e.target; forwards = map s e.forwards }

-- the operands of an operation replaced; what it defines stays
abbrev pub replace_op : {V : Type 0} → (V → V) → Op V → Op V
replace_op s (Const r n) = Const r n
replace_op s (Calc a w r x y) = Calc a w r (s x) (s y)
replace_op s (Emit x) = Emit (s x)
replace_op s (Call rs c xs) = Call rs c (map s xs)
replace_op s (Branch t xs e es) = Branch t (map s xs) (replace_edge s e) (map (replace_edge s) es)
replace_op s (Return xs) = Return (map s xs)

-- the operands of a block replaced
abbrev pub replace_block : {V : Type 0} → (V → V) → Block V → Block V
replace_block s b = record { arguments = b.arguments; ops = map (replace_op s) b.ops }

-- the operands of a function replaced
abbrev pub replace : {V : Type 0} → (V → V) → Option (Fun V) → Option (Fun V)
replace s None = None
replace s (Some f) = Some (map (replace_block s) f)

-- the operands of each function replaced, by a map for each
abbrev pub replaced : {V : Type 0} → (List ℕ → V → V) → FunctionsByPath V → FunctionsByPath V
replaced s p path = replace (s path) (p path)

-- each value is its own replacement, or its replacement is known to be the same number
abbrev pub SameKnown : {V : Type 0} → FunctionFacts V → (V → V) → Type 0
SameKnown {V} k s = (v : V) → (s v ≡ v) ⊎ ((n : ℕ) × (k.of v ≡ Known n) × (k.of (s v) ≡ Known n))
