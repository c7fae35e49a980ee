-- What is found in a tree by search: its operations and blocks, the definitions of values, and where values and blocks are used.
use Rattle.std.specs.Prelude.{◌≡◌, ℕ, List, [], ◌∷◌, ◌++◌, map, Some, slice_get}
use Rattle.ir_trees.specs.Names.{Names, Contents}
use Rattle.ir_trees.specs.Trees.{Head, Label, Sort, Tree, end, operation, block, region, Root}

-- x is one of the list
abbrev pub Lists : {X : Type 0} → List X → X → Type 0
Lists xs x = (k : ℕ) × (slice_get xs k ≡ Some x)

-- none comes twice
abbrev pub AreDistinct : {X : Type 0} → List X → Type 0
AreDistinct {X} xs = (j k : ℕ) (x : X) → slice_get xs j ≡ Some x → slice_get xs k ≡ Some x → j ≡ k

module _ {N : Names} {S : Contents} where
  -- the operations at every depth, each before what is in it
  abbrev pub heads_in : {s : Sort} → Tree N S s → List (Head N S)
  heads_in end = []
  heads_in (operation h rs rest) = h ∷ (heads_in rs ++ heads_in rest)
  heads_in (block l ops rest) = heads_in ops ++ heads_in rest
  heads_in (region bs rest) = heads_in bs ++ heads_in rest

  -- the blocks at every depth, each before what is in it
  abbrev pub labels_in : {s : Sort} → Tree N S s → List (Label N S)
  labels_in end = []
  labels_in (operation h rs rest) = labels_in rs ++ labels_in rest
  labels_in (block l ops rest) = l ∷ (labels_in ops ++ labels_in rest)
  labels_in (region bs rest) = labels_in bs ++ labels_in rest

  -- the operations of a root, itself first, and its blocks
  abbrev pub heads_of : Root N S → List (Head N S)
  heads_of t = t.head ∷ heads_in t.regions

  abbrev pub labels_of : Root N S → List (Label N S)
  labels_of t = labels_in t.regions

  -- the names of its operations and of its blocks
  abbrev pub operation_names : Root N S → List N.operation
  operation_names t = map (λ (h : Head N S). h.name) (heads_of t)

  abbrev pub block_names : Root N S → List N.block
  block_names t = map (λ (l : Label N S). l.name) (labels_of t)

  -- an operation of the tree takes a value at an index of its operands
  pub record UsesValue (t : Root N S) (x : N.value) (user : N.operation) (index : ℕ) : Type 0 where
    pub head : Head N S
    pub stands : Lists (heads_of t) head
    pub named : head.name ≡ user
    pub operand : slice_get head.operands index ≡ Some x

  -- an operation of the tree has a block at an index of its successors
  pub record UsesBlock (t : Root N S) (x : N.block) (user : N.operation) (index : ℕ) : Type 0 where
    pub head : Head N S
    pub stands : Lists (heads_of t) head
    pub named : head.name ≡ user
    pub successor : slice_get head.successors index ≡ Some x
