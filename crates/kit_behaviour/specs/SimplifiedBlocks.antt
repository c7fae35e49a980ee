-- The pass on control flow: branches that constants decide, blocks that are not reached, and chains of blocks.
use Rattle.std.specs.Prelude.{◌≡◌, ◌⊎◌, ◌↔◌, ◌≤◌, ◌<◌, ℕ, zero, suc, Bool, true, false, not, List, [], ◌∷◌, ◌++◌, map}
use Rattle.std.specs.Prelude.{Option, Some, None, if◌then◌else◌, slice_get, nat_eq}
use Rattle.kit_behaviour.specs.Machine.{Edge, Op, Const, Calc, Emit, Call, Branch, Return, Block, Fun, FunctionsByPath, left_in}
use Rattle.kit_behaviour.specs.Machine.{arguments_in, size}
use Rattle.kit_behaviour.specs.Facts.{Fact, Known, Unknown, FunctionFacts}
use Rattle.kit_behaviour.specs.Replacement.{replace}
use Rattle.kit_behaviour.specs.RemovedValues.{thin}
use Rattle.kit_behaviour.specs.Scopes.{In}
use Rattle.kit_behaviour.specs.JoinedBlocks.{joined}
use Rattle.kit_behaviour.specs.DecidedBranches.{decide}
use Rattle.kit_behaviour.specs.Numbering.{place_fun}
use Rattle.kit_behaviour.specs.Places.{Place, Arg, Res, same_place}

-- 1. branches

-- what is known of the results of an operation with no operand known: the number of a constant, else nothing
abbrev pub const_fact : Option (Op Place) → Fact
const_fact None = Unknown
const_fact (Some (Const r n)) = Known n
const_fact (Some (Calc a w r x y)) = Unknown
const_fact (Some (Emit x)) = Unknown
const_fact (Some (Call rs c xs)) = Unknown
const_fact (Some (Branch s xs e es)) = Unknown
const_fact (Some (Return xs)) = Unknown

-- what is known of a value in this way
abbrev pub const_value : Option (Fun Place) → Place → Fact
const_value f (Arg b i) = Unknown
const_value f (Res b o i) = const_fact (slice_get (left_in f b 0) o)

-- these facts; each block may run
abbrev pub constants : Option (Fun Place) → FunctionFacts Place
constants f = record { runs = λ b. true; of = const_value f }

-- 2. blocks that no path from the entry reaches

-- the edges of an operation
abbrev pub edges_of : {V : Type 0} → Op V → List (Edge V)
edges_of (Branch s xs e es) = e ∷ es
edges_of (Const r n) = []
edges_of (Calc a w r x y) = []
edges_of (Emit x) = []
edges_of (Call rs c xs) = []
edges_of (Return xs) = []

-- the edges of these operations
abbrev pub all_edges : {V : Type 0} → List (Op V) → List (Edge V)
all_edges [] = []
all_edges (op ∷ ops) = edges_of op ++ all_edges ops

-- one of these edges leads to block t
abbrev pub LeadsTo : {V : Type 0} → ℕ → List (Edge V) → Type 0
LeadsTo t [] = ⊥
LeadsTo t (e ∷ es) = (e.target ≡ t) ⊎ LeadsTo t es

-- there is a path of edges from the entry block to this block
pub data Reached {V : Type 0} (f : Option (Fun V)) : ℕ → Type 0 where
  first : (b : ℕ) → b ≡ 0 → Reached f b
  further : (b t : ℕ) → Reached f b → LeadsTo t (all_edges (left_in f b 0)) → Reached f t

-- the set r is that of the blocks that are reached
pub record IsReachedSet {V : Type 0} (f : Option (Fun V)) (r : ℕ → Bool) : Type 0 where
  pub sound : (b : ℕ) → r b ≡ true → Reached f b
  pub full : (b : ℕ) → Reached f b → r b ≡ true

-- how many blocks of the set r there are among the n from the ith on: so between r 0 b is the new number of block b
abbrev pub between : (ℕ → Bool) → ℕ → ℕ → ℕ
between r i zero = 0
between r i (suc n) = if r i then suc (between r (suc i) n) else between r (suc i) n

-- an edge under other numbers k of blocks
abbrev pub retarget_edge : {V : Type 0} → (ℕ → ℕ) → Edge V → Edge V
retarget_edge k e = record { target = k e.target; forwards = e.forwards }

-- an operation under other numbers of blocks
abbrev pub retarget : {V : Type 0} → (ℕ → ℕ) → Op V → Op V
retarget k (Branch s xs e es) = Branch s xs (retarget_edge k e) (map (retarget_edge k) es)
retarget k (Const r n) = Const r n
retarget k (Calc a w r x y) = Calc a w r x y
retarget k (Emit x) = Emit x
retarget k (Call rs c xs) = Call rs c xs
retarget k (Return xs) = Return xs

-- a block under other numbers of blocks
abbrev pub retarget_block : {V : Type 0} → (ℕ → ℕ) → Block V → Block V
retarget_block k b = record { arguments = b.arguments; ops = map (retarget k) b.ops }

-- of these blocks, which are those from the ith on, the ones of the set r, under other numbers
abbrev pub keep_blocks : {V : Type 0} → (ℕ → Bool) → (ℕ → ℕ) → ℕ → List (Block V) → List (Block V)
keep_blocks r k i [] = []
keep_blocks r k i (b ∷ bs) = if r i then retarget_block k b ∷ keep_blocks r k (suc i) bs else keep_blocks r k (suc i) bs

-- the blocks of the set alone, numbered again
abbrev pub keep : {V : Type 0} → (ℕ → Bool) → Option (Fun V) → Option (Fun V)
keep r None = None
keep r (Some f) = Some (keep_blocks r (between r 0) 0 f)

-- 3. chains

-- the edge of an operation that is a branch with one edge
abbrev pub lone : {V : Type 0} → Op V → Option (Edge V)
lone (Branch s xs e []) = Some e
lone (Branch s xs e (x ∷ es)) = None
lone (Const r n) = None
lone (Calc a w r x y) = None
lone (Emit x) = None
lone (Call rs c xs) = None
lone (Return xs) = None

-- the edge of the last operation, if that is a branch with one edge
abbrev pub last_edge : {V : Type 0} → List (Op V) → Option (Edge V)
last_edge [] = None
last_edge (op ∷ []) = lone op
last_edge (op ∷ next ∷ ops) = last_edge (next ∷ ops)

-- how many of these edges lead to block t
abbrev pub count_to : {V : Type 0} → ℕ → List (Edge V) → ℕ
count_to t [] = 0
count_to t (e ∷ es) = if nat_eq e.target t then suc (count_to t es) else count_to t es

-- the edges of these blocks
abbrev pub blocks_edges : {V : Type 0} → List (Block V) → List (Edge V)
blocks_edges [] = []
blocks_edges (k ∷ ks) = all_edges k.ops ++ blocks_edges ks

-- the edges of a function
abbrev pub edges_in : {V : Type 0} → Option (Fun V) → List (Edge V)
edges_in None = []
edges_in (Some f) = blocks_edges f

-- b ends in a branch with one edge, to t, another block that is not the entry, and no other edge of the function
-- leads to t
pub record BlocksAreJoinable {V : Type 0} (f : Option (Fun V)) (b t : ℕ) : Type 0 where
  pub edge : Edge V
  pub last : last_edge (left_in f b 0) ≡ Some edge
  pub target : edge.target ≡ t
  pub not_entry : t ≡ 0 → ⊥
  pub other : b ≡ t → ⊥
  pub single : count_to t (edges_in f) ≡ 1

-- the set j is that of the later blocks of chains: those that are joined behind another
pub record IsJoinedSet {V : Type 0} (f : Option (Fun V)) (j : ℕ → Bool) : Type 0 where
  pub there : (t : ℕ) → j t ≡ true → (b : ℕ) × BlocksAreJoinable f b t
  pub back : (b t : ℕ) → BlocksAreJoinable f b t → j t ≡ true

-- the block is the nth further one of its chain
pub data Depth {V : Type 0} (f : Option (Fun V)) (j : ℕ → Bool) : ℕ → ℕ → Type 0 where
  top : (b n : ℕ) → j b ≡ false → n ≡ 0 → Depth f j b n
  below : (b t m n : ℕ) → BlocksAreJoinable f b t → n ≡ suc m → Depth f j b m → Depth f j t n

-- what the first of these edges to block t forwards
abbrev pub forwarded_to : {V : Type 0} → ℕ → List (Edge V) → List V
forwarded_to t [] = []
forwarded_to t (e ∷ es) = if nat_eq e.target t then e.forwards else forwarded_to t es

module _ {V : Type 0} (j : ℕ → Bool) (f : Option (Fun V)) where
  -- v is an argument of a chain's later block (j is the set of these), and u is what the one edge to that block
  -- forwards to it
  pub record IsGivenInChain (v u : V) : Type 0 where
    pub block : ℕ
    pub later : j block ≡ true
    pub place : ℕ
    pub takes : slice_get (arguments_in f block) place ≡ Some v
    pub gives : slice_get (forwarded_to block (edges_in f)) place ≡ Some u

  -- v stands for u: followed until nothing is given
  pub data StandsForInChain : V → V → Type 0 where
    itself : (v u : V) → ((w : V) → IsGivenInChain v w → ⊥) → u ≡ v → StandsForInChain v u
    passed_on : (v w u : V) → IsGivenInChain v w → StandsForInChain w u → StandsForInChain v u

  -- v is an argument of a chain's later block
  abbrev pub IsLaterArgument : V → Type 0
  IsLaterArgument v = (b : ℕ) × (j b ≡ true) × In v (arguments_in f b)

-- a block with those of its chain joined behind it
abbrev pub join_block : {V : Type 0} → (ℕ → Bool) → Option (Fun V) → ℕ → Block V → Block V
join_block j f k b = record { arguments = b.arguments; ops = joined j f k b.ops }

-- each block with those of its chain joined behind it
abbrev pub join_fun : {V : Type 0} → (ℕ → Bool) → ℕ → Option (Fun V) → Option (Fun V)
join_fun j k None = None
join_fun j k (Some f) = Some (map (join_block j (Some f) k) f)

-- the arguments of chains' later blocks replaced by what they stand for, and removed; then each chain joined at its
-- first block, and the later blocks dropped; k is at least the number of further blocks of each chain
abbrev pub merged : {V : Type 0} → (ℕ → Bool) → (V → Bool) → (V → V) → ℕ → Option (Fun V) → Option (Fun V)
merged j gone s k f = keep (λ b. not (j b)) (join_fun j k (thin gone (replace s f)))

-- g is what joining makes of f, whatever the names of values are: they stay. Any count that is enough for every chain
-- gives the same g; where following an argument comes back to it there is no g
pub record Merges {V : Type 0} (f g : Option (Fun V)) : Type 0 where
  pub later : ℕ → Bool
  pub is_later : IsJoinedSet f later
  pub gone : V → Bool
  pub is_gone : (v : V) → (gone v ≡ true) ↔ IsLaterArgument later f v
  pub names : V → V
  pub follows : (v : V) → StandsForInChain later f v (names v)
  pub most : ℕ
  pub long : (b n : ℕ) → Depth f later b n → n ≤ most
  pub is : g ≡ merged later gone names most f

-- g is what joining makes of f, its values named by their places again
pub record IsMerged (f g : Option (Fun Place)) : Type 0 where
  pub left : Option (Fun Place)
  pub merges : Merges f left
  pub is : g ≡ place_fun same_place left

-- the branches that constants decide, decided
abbrev pub branched : Option (Fun Place) → Option (Fun Place)
branched f = decide (constants f) f

-- g is what the pass makes of f: branches decided, then blocks that are not reached dropped, then chains joined;
-- values are named by their places after each of the last two
pub record SimplifiesFunction (f g : Option (Fun Place)) : Type 0 where
  pub reach : ℕ → Bool
  pub reached : IsReachedSet (branched f) reach
  pub merges : IsMerged (place_fun same_place (keep reach (branched f))) g

-- q is what the pass makes of p, function by function
pub record IsSimplifyOfFunctions (p q : FunctionsByPath Place) : Type 0 where
  pub each : (path : List ℕ) → SimplifiesFunction (p path) (q path)

-- what the pass leaves: each block is reached, and none may be joined behind another
pub record IsSimplifiedFunction {V : Type 0} (f : Option (Fun V)) : Type 0 where
  pub reached : (b : ℕ) → b < size f → Reached f b
  pub joined : (b t : ℕ) → BlocksAreJoinable f b t → ⊥
