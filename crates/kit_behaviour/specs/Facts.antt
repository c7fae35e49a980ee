-- What is known of the values of a function before it runs. The lattice of constant propagation, from the top:
-- undetermined (top), a constant, unknown (bottom; "overdefined" in some compilers).
use Rattle.std.specs.Prelude.{◌≡◌, ℕ, Bool, true, List, [], ◌∷◌, ◌++◌, map, Option, Some, None}
use Rattle.kit_behaviour.specs.Machine.{Arith, Select, edge_at, chosen, AllEdges, Edge, Op, Const, Calc, Emit, Call}
use Rattle.kit_behaviour.specs.Machine.{Branch, Return, Fun, left_in, arguments_in, calc}

-- nothing is known yet; this number, whenever it is computed; any number
pub data Fact : Type 0 where
  Undetermined : Fact
  Known : (n : ℕ) → Fact
  Unknown : Fact

-- the first is at or below the second in the lattice
abbrev pub FactAtOrBelow : Fact → Fact → Type 0
FactAtOrBelow Unknown y = Unit {0}
FactAtOrBelow Undetermined Undetermined = Unit {0}
FactAtOrBelow (Known n) Undetermined = Unit {0}
FactAtOrBelow (Known n) (Known m) = n ≡ m
FactAtOrBelow Undetermined (Known m) = ⊥
FactAtOrBelow Undetermined Unknown = ⊥
FactAtOrBelow (Known n) Unknown = ⊥

-- an operation that traps isn't folded
abbrev pub fold_known : Option ℕ → Fact
fold_known None = Unknown
fold_known (Some n) = Known n

-- what arithmetic folds to: nothing is asked while an operand is undetermined; all operands have to be known, also
-- where one alone would decide (0 times an unknown is unknown)
abbrev pub folds_to : Arith → ℕ → Fact → Fact → Fact
folds_to a w Undetermined y = Undetermined
folds_to a w (Known n) Undetermined = Undetermined
folds_to a w Unknown Undetermined = Undetermined
folds_to a w (Known n) (Known m) = fold_known (calc a w n m)
folds_to a w (Known n) Unknown = Unknown
folds_to a w Unknown (Known m) = Unknown
folds_to a w Unknown Unknown = Unknown

-- which blocks are known to run, and what is known of each value. Of values that don't occur nothing is known
pub record FunctionFacts (V : Type 0) : Type 0 where
  pub runs : ℕ → Bool
  pub of : V → Fact

abbrev pub AllUnknown : {V : Type 0} → FunctionFacts V → List V → Type 0
AllUnknown k [] = Unit {0}
AllUnknown k (v ∷ vs) = (k.of v ≡ Unknown) × AllUnknown k vs

-- each of the first is at or below its partner among the second
abbrev pub AllFactsAtOrBelow : {V : Type 0} → FunctionFacts V → List V → List V → Type 0
AllFactsAtOrBelow k [] gs = Unit {0}
AllFactsAtOrBelow k (t ∷ ts) [] = Unit {0}
AllFactsAtOrBelow k (t ∷ ts) (g ∷ gs) = FactAtOrBelow (k.of t) (k.of g) × AllFactsAtOrBelow k ts gs

-- an edge that may be taken: its target runs, and the target's arguments are at or below what is forwarded to them
abbrev pub EdgeClosedIn : {V : Type 0} → Option (Fun V) → FunctionFacts V → Edge V → Type 0
EdgeClosedIn f k e = (k.runs e.target ≡ true) × AllFactsAtOrBelow k (arguments_in f e.target) e.forwards

-- what is known of some values together: one is undetermined; all are numbers; or none is undetermined and one is
-- unknown
pub data Knows : Type 0 where
  Lacks : Knows
  Numbers : (ns : List ℕ) → Knows
  Open : Knows

abbrev pub knows_more : Fact → Knows → Knows
knows_more Undetermined q = Lacks
knows_more (Known n) Lacks = Lacks
knows_more (Known n) (Numbers ns) = Numbers (n ∷ ns)
knows_more (Known n) Open = Open
knows_more Unknown Lacks = Lacks
knows_more Unknown (Numbers ns) = Open
knows_more Unknown Open = Open

abbrev pub knows : List Fact → Knows
knows [] = Numbers []
knows (t ∷ ts) = knows_more t (knows ts)

-- what is forwarded along these edges, one after another
abbrev pub all_forwarded : {V : Type 0} → List (Edge V) → List V
all_forwarded [] = []
all_forwarded (e ∷ es) = e.forwards ++ all_forwarded es

-- where the first lacks, nothing is known; else what the second says
abbrev pub unless_lacking : Knows → Knows → Knows
unless_lacking Lacks q = Lacks
unless_lacking (Numbers ns) q = q
unless_lacking Open q = q

-- what is known of the operands xs that decide a branch; nothing while any operand of it is undetermined, those that
-- it forwards along its edges es too
abbrev pub branch_knows : {V : Type 0} → FunctionFacts V → List V → List (Edge V) → Knows
branch_knows k xs es = unless_lacking (knows (map k.of (all_forwarded es))) (knows (map k.of xs))

-- what a branch asks: nothing while an operand is undetermined; of known operands, that each edge to the block of the
-- chosen edge may be taken (two edges to one block both count); else that each edge may be taken
abbrev pub BranchClosedIn :
    {V : Type 0} → Option (Fun V) → FunctionFacts V → Select → Knows → Edge V → List (Edge V) → Type 0
BranchClosedIn f k s Lacks e es = Unit {0}
BranchClosedIn f k s (Numbers ns) e es =
    AllEdges (λ x. x.target ≡ (edge_at e es (chosen s ns)).target → EdgeClosedIn f k x) (e ∷ es)
BranchClosedIn f k s Open e es = AllEdges (EdgeClosedIn f k) (e ∷ es)

-- what an operation of a block that runs asks: its results are at or below what it folds to (of a call: unknown)
abbrev pub OpClosed : {V : Type 0} → Option (Fun V) → FunctionFacts V → Op V → Type 0
OpClosed f k (Const r n) = FactAtOrBelow (k.of r) (Known n)
OpClosed f k (Calc a w r x y) = FactAtOrBelow (k.of r) (folds_to a w (k.of x) (k.of y))
OpClosed f k (Emit x) = Unit {0}
OpClosed f k (Call rs c xs) = AllUnknown k rs
OpClosed f k (Branch s xs e es) = BranchClosedIn f k s (branch_knows k xs (e ∷ es)) e es
OpClosed f k (Return xs) = Unit {0}

abbrev pub OpsClosed : {V : Type 0} → Option (Fun V) → FunctionFacts V → List (Op V) → Type 0
OpsClosed f k [] = Unit {0}
OpsClosed f k (op ∷ ops) = OpClosed f k op × OpsClosed f k ops

-- facts that no operation of a block that runs contradicts; the entry runs, on unknown arguments
pub record AreClosedFacts {V : Type 0} (f : Option (Fun V)) (k : FunctionFacts V) : Type 0 where
  pub entry_runs : k.runs 0 ≡ true
  pub entry_unknown : AllUnknown k (arguments_in f 0)
  pub ops : (b : ℕ) → k.runs b ≡ true → OpsClosed f k (left_in f b 0)

-- the first are at least as precise as the second: fewer blocks run, and each value is at or above
pub record FactsMorePrecise {V : Type 0} (k l : FunctionFacts V) : Type 0 where
  pub fewer : (b : ℕ) → k.runs b ≡ true → l.runs b ≡ true
  pub above : (v : V) → FactAtOrBelow (l.of v) (k.of v)

-- closed, and at least as precise as all closed facts
pub record AreMostPreciseFacts {V : Type 0} (f : Option (Fun V)) (k : FunctionFacts V) : Type 0 where
  pub closed : AreClosedFacts f k
  pub best : (l : FunctionFacts V) → AreClosedFacts f l → FactsMorePrecise k l
