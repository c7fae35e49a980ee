-- Branches that known numbers decide.
use Rattle.std.specs.Prelude.{ℕ, List, [], ◌∷◌, map, Option, Some, None}
use Rattle.kit_behaviour.specs.Machine.{Select, Plain, edge_at, chosen, Edge, Op, Const, Calc, Emit, Call, Branch}
use Rattle.kit_behaviour.specs.Machine.{Return, Block, Fun, FunctionsByPath}
use Rattle.kit_behaviour.specs.Facts.{Knows, Lacks, Numbers, Open, knows, FunctionFacts}

-- a branch; with one edge it is one without a choice
abbrev pub single : {V : Type 0} → Select → List V → Edge V → List (Edge V) → Op V
single s xs e [] = Branch Plain [] e []
single s xs e (x ∷ es) = Branch s xs e (x ∷ es)

-- a branch by what is known of the operands that decide it: of numbers, one with the chosen edge alone
abbrev pub branch_by : {V : Type 0} → Knows → Select → List V → Edge V → List (Edge V) → Op V
branch_by (Numbers ns) s xs e es = Branch Plain [] (edge_at e es (chosen s ns)) []
branch_by Lacks s xs e es = single s xs e es
branch_by Open s xs e es = single s xs e es

-- an operation, decided by facts if it is a branch
abbrev pub decide_op : {V : Type 0} → FunctionFacts V → Op V → Op V
decide_op k (Branch s xs e es) = branch_by (knows (map k.of xs)) s xs e es
decide_op k (Const r n) = Const r n
decide_op k (Calc a w r x y) = Calc a w r x y
decide_op k (Emit x) = Emit x
decide_op k (Call rs c xs) = Call rs c xs
decide_op k (Return xs) = Return xs

-- a block with its branches decided
abbrev pub decide_block : {V : Type 0} → FunctionFacts V → Block V → Block V
decide_block k b = record { arguments = b.arguments; ops = map (decide_op k) b.ops }

-- a function with its branches decided
abbrev pub decide : {V : Type 0} → FunctionFacts V → Option (Fun V) → Option (Fun V)
decide k None = None
decide k (Some f) = Some (map (decide_block k) f)

-- each function with its branches decided, by facts for each
abbrev pub decided : {V : Type 0} → (List ℕ → FunctionFacts V) → FunctionsByPath V → FunctionsByPath V
decided k p path = decide (k path) (p path)
