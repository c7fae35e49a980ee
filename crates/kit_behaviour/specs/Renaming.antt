-- A function under other names of values and other numbers of blocks.
use Rattle.std.specs.Prelude.{◌≡◌, ℕ, List, [], ◌∷◌, map, Option, Some, None}
use Rattle.kit_behaviour.specs.Machine.{Edge, AllEdges, Op, Const, Calc, Emit, Call, Branch, Return, Block, Fun}
use Rattle.kit_behaviour.specs.Machine.{left_in, arguments_in}

-- an edge under other names r of values and other numbers b of blocks
abbrev pub rename_edge : {V W : Type 0} → (V → W) → (ℕ → ℕ) → Edge V → Edge W
rename_edge r b e = record { target = b e.target; forwards = map r e.forwards }

-- an operation under other names of values and other numbers of blocks
abbrev pub rename_op : {V W : Type 0} → (V → W) → (ℕ → ℕ) → Op V → Op W
rename_op r b (Const v n) = Const (r v) n
rename_op r b (Calc a w v x y) = Calc a w (r v) (r x) (r y)
rename_op r b (Emit x) = Emit (r x)
rename_op r b (Call vs c xs) = Call (map r vs) c (map r xs)
rename_op r b (Branch s xs e es) = Branch s (map r xs) (rename_edge r b e) (map (rename_edge r b) es)
rename_op r b (Return xs) = Return (map r xs)

-- each of these has the property N
abbrev pub AllNamed : {V : Type 0} → (V → Type 0) → List V → Type 0
AllNamed N [] = Unit {0}
AllNamed N (x ∷ xs) = N x × AllNamed N xs

-- the target has the property S, and what is forwarded has the property N
abbrev pub EdgeNamed : {V : Type 0} → (V → Type 0) → (ℕ → Type 0) → Edge V → Type 0
EdgeNamed N S e = S e.target × AllNamed N e.forwards

-- each value that the operation defines or uses has the property N, and each block that it leads to has S
abbrev pub OpNamed : {V : Type 0} → (V → Type 0) → (ℕ → Type 0) → Op V → Type 0
OpNamed N S (Const v n) = N v
OpNamed N S (Calc a w v x y) = N v × N x × N y
OpNamed N S (Emit x) = N x
OpNamed N S (Call vs c xs) = AllNamed N vs × AllNamed N xs
OpNamed N S (Branch s xs e es) = AllNamed N xs × AllEdges (EdgeNamed N S) (e ∷ es)
OpNamed N S (Return xs) = AllNamed N xs

-- so has each of these operations
abbrev pub OpsNamed : {V : Type 0} → (V → Type 0) → (ℕ → Type 0) → List (Op V) → Type 0
OpsNamed N S [] = Unit {0}
OpsNamed N S (op ∷ ops) = OpNamed N S op × OpsNamed N S ops

-- g is f under the names r and the numbers b, as far as the blocks of S go, whose names are in N; no edge leads out
-- of S
pub record Renames {V W : Type 0} (r : V → W) (b : ℕ → ℕ) (N : V → Type 0) (S : ℕ → Type 0)
    (f : Option (Fun V)) (g : Option (Fun W)) : Type 0 where
  pub entry_stays : b 0 ≡ 0
  pub entry_in : S 0
  pub left : (k : ℕ) → S k → left_in g (b k) 0 ≡ map (rename_op r b) (left_in f k 0)
  pub arguments : (k : ℕ) → S k → arguments_in g (b k) ≡ map r (arguments_in f k)
  pub ops_named : (k : ℕ) → S k → OpsNamed N S (left_in f k 0)
  pub takes_named : (k : ℕ) → S k → AllNamed N (arguments_in f k)

-- blocks keep their numbers
abbrev pub same_block : ℕ → ℕ
same_block b = b

-- a block under other names
abbrev pub rename_block : {V W : Type 0} → (V → W) → Block V → Block W
rename_block r b = record { arguments = map r b.arguments; ops = map (rename_op r same_block) b.ops }

-- a function under other names
abbrev pub rename_fun : {V W : Type 0} → (V → W) → Option (Fun V) → Option (Fun W)
rename_fun r None = None
rename_fun r (Some f) = Some (map (rename_block r) f)
