-- Branches that are decided, blocks that are not reached, and chains of blocks.
-- Source: Muchnick, Advanced compiler design and implementation, 1997, 18.1 (unreachable-code elimination) and
-- 18.2 (straightening); here in every SSA region that is visited, with block arguments in place of phi functions.
use Rattle.std.specs.Prelude.{◌≡◌, ◌⊎◌, ℕ, Bool, true, false, not, ◌&&◌, List, [], ◌∷◌, map, Option, Some, None, if◌then◌else◌}
use Rattle.std.specs.Prelude.{slice_get}
use Rattle.ir_trees.specs.Names.{Names, Contents}
use Rattle.ir_trees.specs.Renames.{Maps, names_of}
use Rattle.ir_trees.specs.Trees.{Head, Label, Sort, Operations, Blocks, Regions, Tree, end, operation, block, region, Root}
use Rattle.opt_trees.specs.Occurrences.{Has, cons_if, Occurrence, BlockOccurrence, Spot, occurrences_of, block_occurrences_of, defined_in, Use, OperationsApart, BlocksApart, EdgesLocal}
use Rattle.opt_trees.specs.Dialect.{Dialect}
use Rattle.opt_trees.specs.Facts.{forwarded}
use Rattle.opt_trees.specs.Dce.{TreeSurroundings}

-- 1. branches

abbrev pub is_empty : {X : Type 0} → List X → Bool
is_empty [] = true
is_empty (x ∷ xs) = false

abbrev pub is_end : {N : Names} {S : Contents} {s : Sort} → Tree N S s → Bool
is_end end = true
is_end (operation h rs rest) = false
is_end (block l ops rest) = false
is_end (region bs rest) = false

module _ {N : Names} {S : Contents} {A : Type 0} (d : Dialect S A) where
  -- a branch without results or regions
  abbrev pub is_bare : Head N S → Tree N S Regions → Bool
  is_bare h rs = d.is_branch h.content && (is_empty h.results && is_end rs)

  -- the unconditional branch along an edge
  abbrev pub along_edge : Head N S → Option ℕ → Option S.of_operation → Head N S
  along_edge h None c = h
  along_edge h (Some i) None = h
  along_edge h (Some i) (Some c) = record {
    name = h.name;
    content = c;
    results = h.results;
    operands = forwarded d h i;
    successors = cons_if (slice_get h.successors i) [];
  }

  -- a bare branch that isn't unconditional, where its known operands pick an edge, as the unconditional branch along it
  abbrev pub decide_head : (N.value → Option A) → Head N S → Tree N S Regions → Head N S
  decide_head alone h rs =
      if is_bare h rs && not (d.is_plain h.content)
      then along_edge h (d.edge h.content (map alone h.operands)) d.plain
      else h

module _ {N : Names} {S : Contents} {A : Type 0} (d : Dialect S A) (alone : N.value → Option A) where
  abbrev pub decide : {s : Sort} → Tree N S s → Tree N S s
  decide end = end
  decide (operation h rs rest) = operation (decide_head d alone h rs) (decide rs) (decide rest)
  decide (block l ops rest) = block l (decide ops) (decide rest)
  decide (region bs rest) = region (decide bs) (decide rest)

abbrev pub decided : {N : Names} {S : Contents} {A : Type 0} → Dialect S A → TreeSurroundings N A → Root N S → Root N S
decided d w t = record { head = t.head; regions = decide d w.alone t.regions }

-- 2. blocks that no path from the entry of their region reaches

module _ {N : Names} {S : Contents} (t : Root N S) where
  pub data IsReached : N.block → Type 0 where
    entry : (x : BlockOccurrence N S) → Has x (block_occurrences_of t) → x.spot.first ≡ true → IsReached x.label.name
    further : (o : Occurrence N S) (b : N.block) →
        Has o (occurrences_of t) → IsReached o.site.label.name → Has b o.head.successors → IsReached b

  -- what is in a visited region is visited where this holds of its block:
  -- in an SSA region it is reached, else it is the entry
  abbrev pub IsEntered : Spot N S → N.block → Bool → Type 0
  IsEntered c b true = IsReached b
  IsEntered c b false = c.first ≡ true

-- where looking begins: at all regions of these operations, or at one region of one operation
pub data StartingRegions (N : Names) : Type 0 where
  OfOperations : (os : List N.operation) → StartingRegions N
  OfRegion : (o : N.operation) (i : ℕ) → StartingRegions N

-- looking begins at the region at this index of the operation
abbrev pub BeginsAt : {N : Names} → StartingRegions N → N.operation → ℕ → Type 0
BeginsAt (OfOperations os) a i = Has a os
BeginsAt (OfRegion o k) a i = (a ≡ o) × (i ≡ k)

-- all regions of the root
abbrev pub all_of : {N : Names} {S : Contents} → Root N S → StartingRegions N
all_of t = OfOperations (t.head.name ∷ [])

abbrev pub rename_place : {N M : Names} → Maps N M → StartingRegions N → StartingRegions M
rename_place r (OfOperations os) = OfOperations (map r.operation os)
rename_place r (OfRegion o i) = OfRegion (r.operation o) i

module _ {N : Names} {S : Contents} {A : Type 0} (d : Dialect S A) (p : StartingRegions N) (t : Root N S) where
  -- the region at this index of the operation of this name is visited
  pub data IsVisited : N.operation → ℕ → Type 0 where
    of_place : (a : N.operation) (i : ℕ) → BeginsAt p a i → IsVisited a i
    of_inner : (o : Occurrence N S) (i : ℕ) → Has o (occurrences_of t) →
        IsVisited o.site.spot.owner.name o.site.spot.region →
        IsEntered t o.site.spot o.site.label.name (d.is_ssa o.site.spot.owner.content o.site.spot.region) →
        IsVisited o.head.name i

  pub record IsVisitedSsa (c : Spot N S) : Type 0 where
    pub visited : IsVisited c.owner.name c.region
    pub ssa : d.is_ssa c.owner.content c.region ≡ true

  -- a block of a visited SSA region that isn't reached
  pub record IsUnreached (b : N.block) : Type 0 where
    pub it : BlockOccurrence N S
    pub stands : Has it (block_occurrences_of t)
    pub name : it.label.name ≡ b
    pub visited : IsVisitedSsa it.spot
    pub unreached : IsReached t b → ⊥

-- the tree without these blocks
abbrev pub keep : {N : Names} {S : Contents} {s : Sort} → (N.block → Bool) → Tree N S s → Tree N S s
keep g end = end
keep g (operation h rs rest) = operation h (keep g rs) (keep g rest)
keep g (block l ops rest) = if g l.name then keep g rest else block l (keep g ops) (keep g rest)
keep g (region bs rest) = region (keep g bs) (keep g rest)

module _ {N : Names} {S : Contents} {A : Type 0} (d : Dialect S A) (p : StartingRegions N) where
  pub record IsCut (t after : Root N S) : Type 0 where
    pub reach : N.block → Bool
    pub reached : (b : N.block) → reach b ≡ true → IsReached t b
    pub all_reached : (b : N.block) → IsReached t b → reach b ≡ true
    pub gone : N.block → Bool
    pub there : (b : N.block) → gone b ≡ true → IsUnreached d p t b
    pub all : (b : N.block) → IsUnreached d p t b → gone b ≡ true
    pub is : after ≡ record { head = t.head; regions = keep gone t.regions }

-- 3. chains

module _ {N : Names} {S : Contents} {A : Type 0} (d : Dialect S A) (p : StartingRegions N) (r : Root N S) where
  -- in a visited SSA region b, which is reached, ends in a bare branch whose one successor is t,
  -- another block, not the entry, that nothing else leads to
  pub record Joinable (b t : N.block) : Type 0 where
    pub last : Occurrence N S
    pub stands : Has last (occurrences_of r)
    pub in_block : last.site.label.name ≡ b
    pub visited : IsVisitedSsa d p r last.site.spot
    pub reached : IsReached r b
    pub bare : is_bare d last.head last.regions ≡ true
    pub leads : last.head.successors ≡ t ∷ []
    pub target : BlockOccurrence N S
    pub target_stands : Has target (block_occurrences_of r)
    pub target_name : target.label.name ≡ t
    pub not_entry : target.spot.first ≡ false
    pub other : b ≡ t → ⊥
    pub single : (o : Occurrence N S) → Has o (occurrences_of r) → Has t o.head.successors → o ≡ last

  -- the value is an argument of a chain's later block, and this was forwarded to it
  pub record IsGiven (v u : N.value) : Type 0 where
    pub from : N.block
    pub to : N.block
    pub joins : Joinable from to
    pub place : ℕ
    pub takes : slice_get (names_of joins.target.label.arguments) place ≡ Some v
    pub gives : slice_get (forwarded d joins.last.head 0) place ≡ Some u

  -- followed until it is no such argument
  pub data Follows : N.value → N.value → Type 0 where
    stops : (v : N.value) → ((u : N.value) → IsGiven v u → ⊥) → Follows v v
    goes_on : (v u x : N.value) → IsGiven v u → Follows u x → Follows v x

abbrev pub use_head : {N : Names} {S : Contents} → (N.value → N.value) → Head N S → Head N S
use_head f h = record {
  name = h.name;
  content = h.content;
  results = h.results;
  operands = map f h.operands;
  successors = h.successors;
}

-- other values in place of those that operations below use
abbrev pub use_instead : {N : Names} {S : Contents} {s : Sort} → (N.value → N.value) → Tree N S s → Tree N S s
use_instead f end = end
use_instead f (operation h rs rest) = operation (use_head f h) (use_instead f rs) (use_instead f rest)
use_instead f (block l ops rest) = block l (use_instead f ops) (use_instead f rest)
use_instead f (region bs rest) = region (use_instead f bs) (use_instead f rest)

module _ {N : Names} {S : Contents} where
  abbrev pub but_last : Tree N S Operations → Tree N S Operations
  but_last end = end
  but_last (operation h rs end) = end
  but_last (operation h rs (operation g qs rest)) = operation h rs (but_last (operation g qs rest))

  abbrev pub append : Tree N S Operations → Tree N S Operations → Tree N S Operations
  append end ys = ys
  append (operation h rs rest) ys = operation h rs (append rest ys)

module _ {N : Names} {S : Contents} {A : Type 0} (d : Dialect S A) (p : StartingRegions N) (r : Root N S) where
  -- each chain joined at its first: all under a tree, or, from the block b on, the operations of its chain
  pub data Joins : Option N.block → (s : Sort) → Tree N S s → Tree N S s → Type 0 where
    ends : (s : Sort) → Joins None s end end
    operations : (h : Head N S) (rs qs : Tree N S Regions) (rest more : Tree N S Operations) →
        Joins None Regions rs qs → Joins None Operations rest more →
        Joins None Operations (operation h rs rest) (operation h qs more)
    regions : (bs cs : Tree N S Blocks) (rest more : Tree N S Regions) →
        Joins None Blocks bs cs → Joins None Regions rest more → Joins None Regions (region bs rest) (region cs more)
    taken : (l : Label N S) (ops : Tree N S Operations) (rest more : Tree N S Blocks) (b : N.block) →
        Joinable d p r b l.name → Joins None Blocks rest more → Joins None Blocks (block l ops rest) more
    first : (l : Label N S) (ops all : Tree N S Operations) (rest more : Tree N S Blocks) →
        ((b : N.block) → Joinable d p r b l.name → ⊥) → Joins (Some l.name) Operations ops all →
        Joins None Blocks rest more → Joins None Blocks (block l ops rest) (block l all more)
    chain_ends : (b : N.block) (ops own : Tree N S Operations) →
        ((t : N.block) → Joinable d p r b t → ⊥) → Joins None Operations ops own → Joins (Some b) Operations ops own
    chain_goes_on : (b : N.block) (x : BlockOccurrence N S) (ops own others all : Tree N S Operations) →
        Joinable d p r b x.label.name → Has x (block_occurrences_of r) → Joins None Operations (but_last ops) own →
        Joins (Some x.label.name) Operations x.operations others → all ≡ append own others →
        Joins (Some b) Operations ops all

module _ {N : Names} {S : Contents} {A : Type 0} (d : Dialect S A) (p : StartingRegions N) where
  -- the root may itself use an argument of a block below it
  pub record IsJoined (t after : Root N S) : Type 0 where
    pub names : N.value → N.value
    pub follows : (v : N.value) → Follows d p t v (names v)
    pub regions : Tree N S Regions
    pub joins : Joins d p t None Regions t.regions regions
    pub is : after ≡ record { head = use_head names t.head; regions = use_instead names regions }

-- an operand below the root that names a value
pub record IsUsedBelow {N : Names} {S : Contents} (t : Root N S) (v : N.value) : Type 0 where
  pub user : Occurrence N S
  pub place : ℕ
  pub operand : Use t v user place

-- the first refusal: what is left, the root and what is outside it among it, names a value of what went
pub record LosesUse {N : Names} {S : Contents} {A : Type 0} (w : TreeSurroundings N A) (t after : Root N S) : Type 0 where
  pub value : N.value
  pub was : Has value (defined_in t.regions)
  pub went : Has value (defined_in after.regions) → ⊥
  pub named : IsUsedBelow after value ⊎ (Has value t.head.operands ⊎ (w.is_pinned value ≡ true))

module _ {N : Names} {S : Contents} {A : Type 0} (d : Dialect S A) (p : StartingRegions N) (r : Root N S) where
  -- following what was forwarded leads from the one value to the other
  pub data Chases : N.value → N.value → Type 0 where
    goes : (v u : N.value) → IsGiven d p r v u → Chases v u
    goes_by : (v u x : N.value) → IsGiven d p r v u → Chases u x → Chases v x

  -- the second refusal: it comes back
  pub record ComesBack : Type 0 where
    pub argument : N.value
    pub loop : Chases argument argument

module _ {N : Names} {S : Contents} {A : Type 0} (d : Dialect S A) (w : TreeSurroundings N A) where
  -- the pass
  pub record IsSimplify (t after : Root N S) : Type 0 where
    pub cut : Root N S
    pub is_cut : IsCut d (all_of t) (decided d w t) cut
    pub is_joined : IsJoined d (all_of t) cut after

-- the list's last operation has this head and these regions
abbrev pub EndsIn : {N : Names} {S : Contents} → Tree N S Operations → Head N S → Tree N S Regions → Type 0
EndsIn end h rs = ⊥
EndsIn (operation g qs end) h rs = (g ≡ h) × (qs ≡ rs)
EndsIn (operation g qs (operation k ps rest)) h rs = EndsIn (operation k ps rest) h rs

module _ {N : Names} {S : Contents} (t : Root N S) where
  -- a value is an argument of one block at most, at one index
  abbrev pub ArgumentsApart : Type 0
  ArgumentsApart = (x y : BlockOccurrence N S) (v : N.value) (i j : ℕ) →
      Has x (block_occurrences_of t) → Has y (block_occurrences_of t) →
      slice_get (names_of x.label.arguments) i ≡ Some v → slice_get (names_of y.label.arguments) j ≡ Some v →
      (x ≡ y) × (i ≡ j)

  -- one operation of a block at most names successors
  abbrev pub EndsApart : Type 0
  EndsApart = (o p : Occurrence N S) (b c : N.block) →
      Has o (occurrences_of t) → Has p (occurrences_of t) → o.site.label.name ≡ p.site.label.name →
      Has b o.head.successors → Has c p.head.successors → o ≡ p

  -- what is asked of a tree: operations, blocks and arguments have distinct names, and blocks end once
  pub record IsOrderly : Type 0 where
    pub operations : OperationsApart t
    pub blocks : BlocksApart t
    pub arguments : ArgumentsApart
    pub ends : EndsApart

  -- what is asked of a tree before it is cut: blocks have distinct names, and edges stay in their region
  pub record IsLocal : Type 0 where
    pub blocks : BlocksApart t
    pub edges : EdgesLocal t

  -- an operation that names successors is the last of its block
  abbrev pub BranchesLast : Type 0
  BranchesLast = (o : Occurrence N S) (x : BlockOccurrence N S) (b : N.block) →
      Has o (occurrences_of t) → Has x (block_occurrences_of t) → o.site.label.name ≡ x.label.name →
      Has b o.head.successors → EndsIn x.operations o.head o.regions

-- what simplify leaves: each block of a visited SSA region is reached, and no two blocks can be joined
pub record IsSimplified {N : Names} {S : Contents} {A : Type 0} (d : Dialect S A) (t : Root N S) : Type 0 where
  pub reached : (x : BlockOccurrence N S) →
      Has x (block_occurrences_of t) → IsVisitedSsa d (all_of t) t x.spot → IsReached t x.label.name
  pub joined : (b c : N.block) → Joinable d (all_of t) t b c → ⊥
