-- Where the operations and blocks of a tree stand: flat lists of all that is below a root, each with what is around it.
use Rattle.std.specs.Prelude.{◌≡◌, ◌⊎◌, ℕ, suc, Bool, true, false, List, [], ◌∷◌, ◌++◌, map, Option, Some, None, slice_get}
use Rattle.ir_trees.specs.Names.{Names, Contents}
use Rattle.ir_trees.specs.Trees.{Defined, Head, Label, Sort, Operations, Blocks, Regions, Tree, end, operation, block, region, Root}
use Rattle.ir_trees.specs.Renames.{Maps, rename_head, rename_label, rename, names_of}

-- x is one of the list
abbrev pub Has : {X : Type 0} → X → List X → Type 0
Has x [] = ⊥
Has x (y ∷ ys) = (x ≡ y) ⊎ Has x ys

-- in front of a list, where there is one
abbrev pub cons_if : {X : Type 0} → Option X → List X → List X
cons_if None xs = xs
cons_if (Some x) xs = x ∷ xs

-- the types of definitions
abbrev pub types_of : {V T : Type 0} → List (Defined V T) → List T
types_of {V} {T} ds = map (λ (d : Defined V T). d.holds) ds

-- what stands at some indices of a list, in the order of the indices
abbrev pub picks : {X : Type 0} → List X → List ℕ → List X
picks xs [] = []
picks xs (i ∷ is) = cons_if (slice_get xs i) (picks xs is)

-- where a block stands: the operation that holds its region, the operations and the blocks below the root that it
-- is in, nearest first, the region's index, and whether the block is the entry of its region
pub record Spot (N : Names) (S : Contents) : Type 0 where
  pub owner : Head N S
  pub around : List N.operation
  pub within : List N.block
  pub region : ℕ
  pub first : Bool

-- where an operation stands: in which block, and where that one stands
pub record OperationSite (N : Names) (S : Contents) : Type 0 where
  pub spot : Spot N S
  pub label : Label N S

-- an operation below the root, with its regions
pub record Occurrence (N : Names) (S : Contents) : Type 0 where
  pub site : OperationSite N S
  pub head : Head N S
  pub regions : Tree N S Regions

-- a block below the root, with its operations
pub record BlockOccurrence (N : Names) (S : Contents) : Type 0 where
  pub spot : Spot N S
  pub label : Label N S
  pub operations : Tree N S Operations

-- where a list of operations stands, a list of blocks, a list of regions
abbrev pub Inside : Names → Contents → Sort → Type 0
Inside N S Operations = OperationSite N S
Inside N S Blocks = Spot N S
Inside N S Regions = Spot N S

module _ {N : Names} {S : Contents} where
  -- the first block of the first region of an operation
  abbrev pub inner : Head N S → OperationSite N S → Spot N S
  inner h c = record {
    owner = h;
    around = h.name ∷ c.spot.around;
    within = c.label.name ∷ c.spot.within;
    region = 0;
    first = true;
  }

  abbrev pub next_block : Spot N S → Spot N S
  next_block c = record { owner = c.owner; around = c.around; within = c.within; region = c.region; first = false }

  abbrev pub next_region : Spot N S → Spot N S
  next_region c = record {
    owner = c.owner;
    around = c.around;
    within = c.within;
    region = suc c.region;
    first = c.first;
  }

  -- every operation, at any depth, in preorder
  abbrev pub occurrences_in : {s : Sort} → Tree N S s → Inside N S s → List (Occurrence N S)
  occurrences_in end c = []
  occurrences_in (operation h rs rest) c =
      record { site = c; head = h; regions = rs } ∷ (occurrences_in rs (inner h c) ++ occurrences_in rest c)
  occurrences_in (block l ops rest) c =
      occurrences_in ops (record { spot = c; label = l }) ++ occurrences_in rest (next_block c)
  occurrences_in (region bs rest) c = occurrences_in bs c ++ occurrences_in rest (next_region c)

  -- every block, at any depth, in preorder
  abbrev pub block_occurrences_in : {s : Sort} → Tree N S s → Inside N S s → List (BlockOccurrence N S)
  block_occurrences_in end c = []
  block_occurrences_in (operation h rs rest) c = block_occurrences_in rs (inner h c) ++ block_occurrences_in rest c
  block_occurrences_in (block l ops rest) c =
      record { spot = c; label = l; operations = ops }
      ∷ (block_occurrences_in ops (record { spot = c; label = l }) ++ block_occurrences_in rest (next_block c))
  block_occurrences_in (region bs rest) c = block_occurrences_in bs c ++ block_occurrences_in rest (next_region c)

-- every value that is defined, at any depth
abbrev pub defined_in : {N : Names} {S : Contents} {s : Sort} → Tree N S s → List N.value
defined_in end = []
defined_in (operation h rs rest) = names_of h.results ++ (defined_in rs ++ defined_in rest)
defined_in (block l ops rest) = names_of l.arguments ++ (defined_in ops ++ defined_in rest)
defined_in (region bs rest) = defined_in bs ++ defined_in rest

module _ {N : Names} {S : Contents} where
  -- the first block of the first region of the root
  abbrev pub at_root : Root N S → Spot N S
  at_root t = record { owner = t.head; around = []; within = []; region = 0; first = true }

  -- every operation below a root, and every block
  abbrev pub occurrences_of : Root N S → List (Occurrence N S)
  occurrences_of t = occurrences_in t.regions (at_root t)

  abbrev pub block_occurrences_of : Root N S → List (BlockOccurrence N S)
  block_occurrences_of t = block_occurrences_in t.regions (at_root t)

-- an operand that names a value: a use, by search
pub record Use {N : Names} {S : Contents} (t : Root N S) (v : N.value) (o : Occurrence N S) (i : ℕ) : Type 0 where
  pub stands : Has o (occurrences_of t)
  pub operand : slice_get o.head.operands i ≡ Some v

-- the same under other names

module _ {N M : Names} {S : Contents} (r : Maps N M) where
  abbrev pub rename_spot : Spot N S → Spot M S
  rename_spot c = record {
    owner = rename_head r c.owner;
    around = map r.operation c.around;
    within = map r.block c.within;
    region = c.region;
    first = c.first;
  }

  abbrev pub rename_site : OperationSite N S → OperationSite M S
  rename_site c = record { spot = rename_spot c.spot; label = rename_label r c.label }

  abbrev pub rename_occurrence : Occurrence N S → Occurrence M S
  rename_occurrence o = record { site = rename_site o.site; head = rename_head r o.head; regions = rename r o.regions }

  abbrev pub rename_block_occurrence : BlockOccurrence N S → BlockOccurrence M S
  rename_block_occurrence b =
      record { spot = rename_spot b.spot; label = rename_label r b.label; operations = rename r b.operations }

abbrev pub rename_inside : {N M : Names} (S : Contents) → Maps N M → (s : Sort) → Inside N S s → Inside M S s
rename_inside S r Operations c = rename_site r c
rename_inside S r Blocks c = rename_spot r c
rename_inside S r Regions c = rename_spot r c

-- names that stay apart, where it can be told which names are new ones, and of which old one
pub record Injection (X Y : Type 0) : Type 0 where
  pub to : X → Y
  pub back : Y → Option X
  pub there : (x : X) → back (to x) ≡ Some x
  pub from : (y : Y) (x : X) → back y ≡ Some x → to x ≡ y

pub record Renaming (N M : Names) : Type 0 where
  pub operation : Injection N.operation M.operation
  pub block : Injection N.block M.block
  pub value : Injection N.value M.value

abbrev pub maps : {N M : Names} → Renaming N M → Maps N M
maps r = record { operation = r.operation.to; block = r.block.to; value = r.value.to }

-- the two stand in one region
pub record SameRegion {N : Names} {S : Contents} (c e : Spot N S) : Type 0 where
  pub around : e.around ≡ c.around
  pub region : e.region ≡ c.region
  pub within : e.within ≡ c.within

module _ {N : Names} {S : Contents} (t : Root N S) where
  -- names of operations are distinct
  abbrev pub OperationsApart : Type 0
  OperationsApart = (o p : Occurrence N S) →
      Has o (occurrences_of t) → Has p (occurrences_of t) → o.head.name ≡ p.head.name → o ≡ p

  -- names of blocks are distinct
  abbrev pub BlocksApart : Type 0
  BlocksApart = (x y : BlockOccurrence N S) →
      Has x (block_occurrences_of t) → Has y (block_occurrences_of t) → x.label.name ≡ y.label.name → x ≡ y

  -- edges lead to blocks of the region that they start in
  abbrev pub EdgesLocal : Type 0
  EdgesLocal = (o : Occurrence N S) (x : BlockOccurrence N S) →
      Has o (occurrences_of t) → Has x (block_occurrences_of t) → Has x.label.name o.head.successors →
      SameRegion o.site.spot x.spot
