-- A function without some of its values: the operations that make them, and the arguments with what is forwarded to
-- them.
use Rattle.std.specs.Prelude.{◌≡◌, ℕ, suc, ◌<◌, Bool, false, List, [], ◌∷◌, map, Option, Some, None}
use Rattle.std.specs.Prelude.{if◌then◌else◌}
use Rattle.kit_ops.specs.Arithmetic.{named_arithmetic}
use Rattle.kit_behaviour.specs.Machine.{Arith, Calculated, Compared, AllEdges, Edge, Op, Const, Calc, Emit, Call, Branch, Return, Block}
use Rattle.kit_behaviour.specs.Machine.{Fun, FunctionsByPath, left_in, arguments_in}

-- arithmetic that may trap: it is never removed
abbrev pub may_trap : Arith → Bool
may_trap (Calculated a) = (named_arithmetic a).has_effects
may_trap (Compared c) = false

-- the operation is removed with the set d: it has no side effects and its result is in the set
abbrev pub goes : {V : Type 0} → (V → Bool) → Op V → Bool
goes d (Const r n) = d r
goes d (Calc f w r x y) = if may_trap f then false else d r
goes d _ = false

-- those that are not in the set
abbrev pub live : {V : Type 0} → (V → Bool) → List V → List V
live d [] = []
live d (v ∷ vs) = if d v then live d vs else v ∷ live d vs

-- of the values gs forwarded to the arguments ts, those whose arguments stay; a surplus stays
abbrev pub pick : {V : Type 0} → (V → Bool) → List V → List V → List V
pick d [] gs = gs
pick d (t ∷ ts) [] = []
pick d (t ∷ ts) (g ∷ gs) = if d t then pick d ts gs else g ∷ pick d ts gs

-- an edge without what it forwards to arguments of the set
abbrev pub thin_edge : {V : Type 0} → Option (Fun V) → (V → Bool) → Edge V → Edge V
thin_edge f d e = record { target = e.target; forwards = pick d (arguments_in f e.target) e.forwards }

-- an operation that stays, its edges without what they forward to arguments of the set
abbrev pub thin_op : {V : Type 0} → Option (Fun V) → (V → Bool) → Op V → Op V
thin_op f d (Branch s xs e es) = Branch s xs (thin_edge f d e) (map (thin_edge f d) es)
thin_op f d (Const r n) = Const r n
thin_op f d (Calc a w r x y) = Calc a w r x y
thin_op f d (Emit x) = Emit x
thin_op f d (Call rs c xs) = Call rs c xs
thin_op f d (Return xs) = Return xs

-- the operations that stay
abbrev pub thin_ops : {V : Type 0} → Option (Fun V) → (V → Bool) → List (Op V) → List (Op V)
thin_ops f d [] = []
thin_ops f d (op ∷ ops) = if goes d op then thin_ops f d ops else thin_op f d op ∷ thin_ops f d ops

-- a block without the arguments and operations of the set
abbrev pub thin_block : {V : Type 0} → Option (Fun V) → (V → Bool) → Block V → Block V
thin_block f d b = record { arguments = live d b.arguments; ops = thin_ops f d b.ops }

-- a function without the values of the set
abbrev pub thin : {V : Type 0} → (V → Bool) → Option (Fun V) → Option (Fun V)
thin d None = None
thin d (Some f) = Some (map (thin_block (Some f) d) f)

-- each function without its set
abbrev pub thinned : {V : Type 0} → (List ℕ → V → Bool) → FunctionsByPath V → FunctionsByPath V
thinned d p path = thin (d path) (p path)

-- none of these is in the set
abbrev pub AllLive : {V : Type 0} → (V → Bool) → List V → Type 0
AllLive d [] = Unit {0}
AllLive d (x ∷ xs) = (d x ≡ false) × AllLive d xs

-- what is forwarded to an argument that stays is not in the set
abbrev pub GivesLive : {V : Type 0} → (V → Bool) → List V → List V → Type 0
GivesLive d [] gs = Unit {0}
GivesLive d (t ∷ ts) [] = Unit {0}
GivesLive d (t ∷ ts) (g ∷ gs) = (d t ≡ false → d g ≡ false) × GivesLive d ts gs

-- an edge forwards no value of the set to an argument that stays
abbrev pub EdgeLive : {V : Type 0} → Option (Fun V) → (V → Bool) → Edge V → Type 0
EdgeLive f d e = GivesLive d (arguments_in f e.target) e.forwards

-- an operation uses no value of the set, but for what it forwards to arguments of the set
abbrev pub OpLive : {V : Type 0} → Option (Fun V) → (V → Bool) → Op V → Type 0
OpLive f d (Const r n) = Unit {0}
OpLive f d (Calc a w r x y) = (d x ≡ false) × (d y ≡ false)
OpLive f d (Emit x) = d x ≡ false
OpLive f d (Call rs c xs) = AllLive d xs
OpLive f d (Branch s xs e es) = AllLive d xs × AllEdges (EdgeLive f d) (e ∷ es)
OpLive f d (Return xs) = AllLive d xs

-- an operation that stays uses only values that stay
abbrev pub OpsLive : {V : Type 0} → Option (Fun V) → (V → Bool) → List (Op V) → Type 0
OpsLive f d [] = Unit {0}
OpsLive f d (op ∷ ops) = (goes d op ≡ false → OpLive f d op) × OpsLive f d ops

-- the set may go: no operation that stays uses it, and the entry keeps its arguments
pub record SetMayGo {V : Type 0} (d : V → Bool) (f : Option (Fun V)) : Type 0 where
  pub entry : AllLive d (arguments_in f 0)
  pub uses : (b : ℕ) → OpsLive f d (left_in f b 0)

-- how many operations go
abbrev pub going : {V : Type 0} → (V → Bool) → List (Op V) → ℕ
going d [] = 0
going d (op ∷ ops) = if goes d op then suc (going d ops) else going d ops

-- fewer than c operations of each block go
abbrev pub FewGo : {V : Type 0} → ℕ → (List ℕ → V → Bool) → FunctionsByPath V → Type 0
FewGo c d p = (path : List ℕ) (b : ℕ) → going (d path) (left_in (p path) b 0) < c
