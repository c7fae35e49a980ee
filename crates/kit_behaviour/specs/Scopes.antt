-- Which values an operation may name: those that its own block defines before it, the arguments of its block, and the
-- values of the entry block.
use Rattle.std.specs.Prelude.{◌≡◌, ◌⊎◌, ℕ, zero, suc, List, [], ◌∷◌, ◌++◌, Option, Bool, true, false, if◌then◌else◌}
use Rattle.kit_behaviour.specs.Machine.{AllEdges, Edge, Op, Const, Calc, Emit, Call, Branch, Return, Fun, left_in}
use Rattle.kit_behaviour.specs.Machine.{arguments_in}

-- x is one of these
abbrev pub In : {V : Type 0} → V → List V → Type 0
In x [] = ⊥
In x (y ∷ ys) = (x ≡ y) ⊎ In x ys

-- each of the first is one of the second
abbrev pub AllIn : {V : Type 0} → List V → List V → Type 0
AllIn [] ys = Unit {0}
AllIn (x ∷ xs) ys = In x ys × AllIn xs ys

-- v is one of these, as a test
abbrev pub is_in : {V : Type 0} → (V → V → Bool) → V → List V → Bool
is_in same v [] = false
is_in same v (x ∷ xs) = if same v x then true else is_in same v xs

-- the values that an operation defines, its results in order
abbrev pub defs : {V : Type 0} → Op V → List V
defs (Const r n) = r ∷ []
defs (Calc a w r x y) = r ∷ []
defs (Call rs c xs) = rs
defs _ = []

-- the values that these operations define
abbrev pub all_defs : {V : Type 0} → List (Op V) → List V
all_defs [] = []
all_defs (op ∷ ops) = defs op ++ all_defs ops

-- the arguments of the entry block and the values that its operations define: in scope in every other block
abbrev pub entry_values : {V : Type 0} → Option (Fun V) → List V
entry_values f = arguments_in f 0 ++ all_defs (left_in f 0 0)

-- the values in scope at a block's start: its arguments and, but in the entry block itself, the values of the entry
-- block
abbrev pub at_start : {V : Type 0} → Option (Fun V) → ℕ → List V
at_start f zero = arguments_in f 0
at_start f (suc b) = arguments_in f (suc b) ++ entry_values f

-- as many of the one as of the other
abbrev pub SameLength : {V : Type 0} → List V → List V → Type 0
SameLength [] [] = Unit {0}
SameLength [] (g ∷ gs) = ⊥
SameLength (t ∷ ts) [] = ⊥
SameLength (t ∷ ts) (g ∷ gs) = SameLength ts gs

-- an edge whose forwarded values are in scope (a are the values in scope), as many as the target has arguments, at a
-- place from which the values of the entry block are in scope
abbrev pub EdgeScoped : {V : Type 0} → Option (Fun V) → List V → Edge V → Type 0
EdgeScoped f a e = AllIn e.forwards a × AllIn (entry_values f) a × SameLength (arguments_in f e.target) e.forwards

-- an operation whose operands are in scope, its edges too
abbrev pub OpScoped : {V : Type 0} → Option (Fun V) → List V → Op V → Type 0
OpScoped f a (Const r n) = Unit {0}
OpScoped f a (Calc o w r x y) = In x a × In y a
OpScoped f a (Emit x) = In x a
OpScoped f a (Call rs c xs) = AllIn xs a
OpScoped f a (Branch s xs e es) = AllIn xs a × AllEdges (EdgeScoped f a) (e ∷ es)
OpScoped f a (Return xs) = AllIn xs a

-- each operation has the property T under the values in scope before it: a at the first, then those that it defines
-- too
abbrev pub OpsWith : {V : Type 0} → (List V → Op V → Type 0) → List V → List (Op V) → Type 0
OpsWith T a [] = Unit {0}
OpsWith T a (op ∷ ops) = T a op × OpsWith T (defs op ++ a) ops

-- the operations of each block have the property, from the values in scope at its start on
abbrev pub BlocksWith : {V : Type 0} → Option (Fun V) → (List V → Op V → Type 0) → Type 0
BlocksWith f T = (b : ℕ) → OpsWith T (at_start f b) (left_in f b 0)
