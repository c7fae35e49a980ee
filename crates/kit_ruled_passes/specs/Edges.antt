-- Where edges lead, read off the tree itself.
use Rattle.std.specs.Prelude.{List, [], ◌∷◌}
use Rattle.ir_trees.specs.Names.{Names, Contents}
use Rattle.ir_trees.specs.Trees.{Sort, Blocks, Tree, end, operation, block, region, Root}
use Rattle.opt_trees.specs.Occurrences.{Has}

-- no block
abbrev pub IsNoBlock : (N : Names) → N.block → Type 0
IsNoBlock N b = ⊥

module _ {N : Names} {S : Contents} where
  -- the names of the blocks of a region, without those of blocks inside them
  abbrev pub own_blocks : Tree N S Blocks → List N.block
  own_blocks end = []
  own_blocks (block l os rest) = l.name ∷ own_blocks rest

  -- each successor that an operation names is a block of the nearest region around the operation; where only operations
  -- of a block, or only blocks of a region, are looked at, the blocks of that region are those of which the predicate
  -- holds
  abbrev pub EdgesScoped : {s : Sort} → Tree N S s → (N.block → Type 0) → Type 0
  EdgesScoped end P = Unit {0}
  EdgesScoped (operation h rs rest) P =
      ((b : N.block) → Has b h.successors → P b) × EdgesScoped rs (IsNoBlock N) × EdgesScoped rest P
  EdgesScoped (block l os rest) P = EdgesScoped os P × EdgesScoped rest P
  EdgesScoped (region bs rest) P = EdgesScoped bs (λ b. Has b (own_blocks bs)) × EdgesScoped rest P

  -- so it is of each operation inside the root
  abbrev pub HasScopedEdges : Root N S → Type 0
  HasScopedEdges t = EdgesScoped t.regions (IsNoBlock N)
