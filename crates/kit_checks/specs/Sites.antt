-- Where an operation of a tree is: the operation at a place, with what is around it; and the order of places.
use Rattle.std.specs.Prelude.{◌≡◌, ◌<◌, ◌⊎◌, ℕ, List, [], ◌∷◌, Option, Some, None, slice_get, option_and_then}
use Rattle.ir_trees.specs.Stands.{by_handle, in_program, ProgramTree, ProgramLabel}
use Rattle.ir_trees.specs.Trees.{Sort, Operations, Blocks, Regions, Tree, end, operation, block, region}

-- lists of operations, of blocks or of regions, with all that is in them
abbrev pub Listed : Type 0 → Type 0 → Sort → Type 0
Listed O B s = Tree by_handle (in_program O B) s

-- a block with its operations
pub record Body (O B : Type 0) : Type 0 where
  pub label : ProgramLabel O B
  pub operations : Listed O B Operations

module _ {O B : Type 0} where
  -- the operations of a block, the blocks of a region, the regions of an operation, first to last
  abbrev pub operation_list : Listed O B Operations → List (ProgramTree O B)
  operation_list end = []
  operation_list (operation h rs rest) = record { head = h; regions = rs } ∷ operation_list rest

  abbrev pub block_list : Listed O B Blocks → List (Body O B)
  block_list end = []
  block_list (block l ops rest) = record { label = l; operations = ops } ∷ block_list rest

  abbrev pub region_list : Listed O B Regions → List (Listed O B Blocks)
  region_list end = []
  region_list (region bs rest) = bs ∷ region_list rest

-- what is around an operation below the root
pub record Around (O B : Type 0) : Type 0 where
  -- the operation that owns the region that it is in
  pub owner : ProgramTree O B
  -- the operations that this one is in, the nearest first and the root last
  pub outer : List (ProgramTree O B)
  -- the blocks of the region, and the number of its block among them: the entry is number 0
  pub blocks : Listed O B Blocks
  pub number : ℕ
  -- its block, and its index among the operations there
  pub body : Body O B
  pub index : ℕ

-- an operation with all that is in it, and what is around it; nothing is around the root
pub record Site (O B : Type 0) : Type 0 where
  pub op : ProgramTree O B
  pub around : Option (Around O B)

module _ {O B : Type 0} where
  -- from the site of an operation, the site that is reached from it by numbers of a region, a block and an operation, and so on
  abbrev pub site_from : Site O B → List (ProgramTree O B) → List ℕ → Option (Site O B)
  site_from s outer [] = Some s
  site_from s outer (r ∷ []) = None
  site_from s outer (r ∷ b ∷ []) = None
  site_from s outer (r ∷ b ∷ k ∷ p) =
      option_and_then (λ blocks.
      option_and_then (λ (body : Body O B).
      option_and_then (λ (op : ProgramTree O B).
      site_from (record {
        op = op;
        around = Some (record { owner = s.op; outer = outer; blocks = blocks; number = b; body = body; index = k });
      }) (s.op ∷ outer) p)
      (slice_get (operation_list body.operations) k))
      (slice_get (block_list blocks) b))
      (slice_get (region_list s.op.regions) r)

  -- the operation at a place, if one is there: a place is the list of the numbers, each from 0, of a region, of a block in
  -- it, of an operation in that, of a region of that, and so on; the root is at the empty place
  abbrev pub site_at : ProgramTree O B → List ℕ → Option (Site O B)
  site_at t p = site_from (record { op = t; around = None }) [] p

-- the first place comes before the second in walk order: parents before children, then in order. So it goes on to the
-- second, or where they part it has the smaller number
abbrev pub IsBefore : List ℕ → List ℕ → Type 0
IsBefore [] [] = ⊥
IsBefore [] (k ∷ q) = Unit {0}
IsBefore (j ∷ p) [] = ⊥
IsBefore (j ∷ p) (k ∷ q) = (j < k) ⊎ ((j ≡ k) × IsBefore p q)
