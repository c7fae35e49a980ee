-- Which trees have nothing below operands, edges, regions and leaves.
use Rattle.std.specs.Prelude.{◌≡◌, ℕ, List, [], ◌∷◌}
use Rattle.ir_names.specs.Tree.{node, no_tree, a_tree}
use Rattle.ir_print.specs.Pieces.{value_of_kind, list, item, chosen, operands, successor, region, leaf, ValueTree, Pieces, Values, EntityHead, operation, a_region, block, Entity, entity, Entities, no_entity, an_entity}

abbrev mutual
  -- nothing stands below what has no pieces of its own
  pub IsBare : ValueTree → Type 0
  IsBare (node (value_of_kind sort n) ts) = AreBare ts
  IsBare (node list ts) = AreBare ts
  IsBare (node item ts) = AreBare ts
  IsBare (node (chosen n) ts) = AreBare ts
  IsBare (node (operands n) ts) = ts ≡ no_tree
  IsBare (node (successor n) ts) = ts ≡ no_tree
  IsBare (node region ts) = ts ≡ no_tree
  IsBare (node (leaf x) ts) = ts ≡ no_tree

  -- the same of each piece
  pub AreBare : Pieces → Type 0
  AreBare no_tree = Unit {0}
  AreBare (a_tree t ts) = IsBare t × AreBare ts

-- so it is of the types of arguments
abbrev pub AreBareArguments : {N : Type 0} → List (N × ValueTree) → Type 0
AreBareArguments [] = Unit {0}
AreBareArguments (x ∷ xs) = IsBare x.1 × AreBareArguments xs

-- so it is of what a head says
abbrev pub IsBareHead : {N : Type 0} → EntityHead N → Type 0
IsBareHead (operation kind results used successors pieces) = AreBare pieces
IsBareHead a_region = Unit {0}
IsBareHead (block named label arguments) = AreBareArguments arguments

abbrev mutual
  -- so it is of all heads in an entity
  pub IsBareTree : {N : Type 0} → Entity N → Type 0
  IsBareTree (entity h ts) = IsBareHead h × AreBareTrees ts

  -- so it is of each entity
  pub AreBareTrees : {N : Type 0} → Entities N → Type 0
  AreBareTrees no_entity = Unit {0}
  AreBareTrees (an_entity t ts) = IsBareTree t × AreBareTrees ts

-- An attribute that is read is bare, where its pieces are.
abbrev pub KeepsBare : Values → Type 0
KeepsBare v = (n : ℕ) (ts : Pieces) → AreBare ts → AreBare (v.canonical n ts)
