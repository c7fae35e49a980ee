-- What is where in a tree: places as paths of indices.
use Rattle.std.specs.Prelude.{◌≡◌, ℕ, zero, suc, List, [], ◌∷◌, Option, Some, None}
use Rattle.ir_trees.specs.Names.{Names, Contents}
use Rattle.ir_trees.specs.Trees.{Head, Label, Sort, Operations, Blocks, Tree, end, operation, block, region, Root}
use Rattle.ir_trees.specs.Renames.{Maps, rename_label, rename, rename_root}

-- an operation with its regions, a block with its operations, or a region with its blocks
pub data TreePart (N : Names) (S : Contents) : Type 0 where
  AnOperation : (it : Root N S) → TreePart N S
  ABlock : (label : Label N S) (operations : Tree N S Operations) → TreePart N S
  ARegion : (blocks : Tree N S Blocks) → TreePart N S

-- a path down from the root: the index of a region of it, of a block in that region, of an operation in that block, of a region of that operation, and so on
abbrev pub PathFromRoot : Type 0
PathFromRoot = List ℕ

module _ {N : Names} {S : Contents} where
  -- what is reached from a list: by the first index one of the list, by the others what is in it
  abbrev pub reached : {s : Sort} → Tree N S s → ℕ → List ℕ → Option (TreePart N S)
  reached end k p = None
  reached (operation h rs rest) zero [] = Some (AnOperation (record { head = h; regions = rs }))
  reached (operation h rs rest) zero (k ∷ p) = reached rs k p
  reached (operation h rs rest) (suc n) p = reached rest n p
  reached (block l ops rest) zero [] = Some (ABlock l ops)
  reached (block l ops rest) zero (k ∷ p) = reached ops k p
  reached (block l ops rest) (suc n) p = reached rest n p
  reached (region bs rest) zero [] = Some (ARegion bs)
  reached (region bs rest) zero (k ∷ p) = reached bs k p
  reached (region bs rest) (suc n) p = reached rest n p

  -- what is at a place of the tree, if there is such a place; the root itself is at the empty one
  abbrev pub at_place : Root N S → PathFromRoot → Option (TreePart N S)
  at_place t [] = Some (AnOperation t)
  at_place t (k ∷ p) = reached t.regions k p

  -- the operation at a place is this one, whatever is in it; the block
  abbrev pub IsOperationAt : Root N S → PathFromRoot → Head N S → Type 0
  IsOperationAt t p h = (u : Root N S) × (at_place t p ≡ Some (AnOperation u)) × (u.head ≡ h)

  abbrev pub IsBlockAt : Root N S → PathFromRoot → Label N S → Type 0
  IsBlockAt t p l = (operations : Tree N S Operations) × (at_place t p ≡ Some (ABlock l operations))

-- the item under other names
abbrev pub rename_item : {N M : Names} {S : Contents} → Maps N M → TreePart N S → TreePart M S
rename_item m (AnOperation t) = AnOperation (rename_root m t)
rename_item m (ABlock l ops) = ABlock (rename_label m l) (rename m ops)
rename_item m (ARegion bs) = ARegion (rename m bs)
