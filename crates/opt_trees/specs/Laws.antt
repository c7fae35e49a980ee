-- The statements of the laws.
use Rattle.std.specs.Prelude.{◌≡◌}
use Rattle.ir_trees.specs.Names.{Names, Contents}
use Rattle.ir_trees.specs.Trees.{Root}
use Rattle.ir_trees.specs.Renames.{rename_root}
use Rattle.opt_trees.specs.Occurrences.{Renaming, maps, OperationsApart, Has, BlockOccurrence, block_occurrences_of}
use Rattle.opt_trees.specs.Dialect.{Dialect, Lawful}
use Rattle.opt_trees.specs.Facts.{Facts, IsMostPrecise, IsLacking}
use Rattle.opt_trees.specs.Sccp.{fresh, Name, fresh_maps, Gets, IsSccp, KeepsFacts, RenamesPins, facts_after, CanTell, NamesConstants}
use Rattle.opt_trees.specs.Dce.{TreeSurroundings, Item, IsDead, IsDce, IsWell, Agree}
use Rattle.opt_trees.specs.Simplify.{StartingRegions, rename_place, IsReached, IsVisitedSsa, IsLocal, BranchesLast, IsSimplified, LosesUse, ComesBack, IsJoined, IsCut, IsSimplify, IsOrderly, decided}

module _ (N : Names) (S : Contents) (A : Type 0) where
  -- there is one list of most precise facts at most
  abbrev pub OneBest : Type 0
  OneBest = (d : Dialect S A) (t : Root N S) (k l : Facts N A) → IsMostPrecise d t k → IsMostPrecise d t l → k ≡ l

  -- constants are put in in one way
  abbrev pub OneSccp : Type 0
  OneSccp = (d : Dialect S A) (w : TreeSurroundings N A) (t : Root N S) (a b : Root (fresh N) S) →
      IsSccp d w t a → IsSccp d w t b → a ≡ b

  -- the most precise facts afterwards are those before
  abbrev pub FactsKept : Type 0
  FactsKept = (d : Dialect S A) (w : TreeSurroundings N A) (t : Root N S) (after : Root (fresh N) S) (k : Facts N A)
      (l : Facts (fresh N) A) →
      Lawful d → IsSccp d w t after → IsMostPrecise d t k → IsMostPrecise d after l → KeepsFacts d w t k l

  -- there are most precise facts afterwards, the old ones extended;
  -- of two attributes it must be told whether they are the same
  abbrev pub FactsExtend : Type 0
  FactsExtend = (d : Dialect S A) (w : TreeSurroundings N A) (t : Root N S) (after : Root (fresh N) S) →
      Lawful d → CanTell A → (p : IsSccp d w t after) → IsMostPrecise d after (facts_after p.facts p.made)

  -- afterwards what is known to be a constant names one; of two values it must be told whether they are the same
  abbrev pub SccpGoal : Type 0
  SccpGoal = (d : Dialect S A) (w : TreeSurroundings N A) (t : Root N S) (after : Root (fresh N) S) →
      Lawful d → CanTell N.value → IsSccp d w t after → NamesConstants d after

  -- a second time no value gets a constant
  abbrev pub SccpTwice : Type 0
  SccpTwice = (d : Dialect S A) (w : TreeSurroundings N A) (z : TreeSurroundings (fresh N) A) (t : Root N S)
      (after : Root (fresh N) S) (l : Facts (fresh N) A) → Lawful d → (p : IsSccp d w t after) →
      RenamesPins {N = N} p.made w z → IsMostPrecise d after l → (v : Name N.value N.value) (a : A) →
      Gets d z after l v a → ⊥

  -- the dead goes in one way
  abbrev pub OneDce : Type 0
  OneDce = (d : Dialect S A) (w : TreeSurroundings N A) (t a b : Root N S) → IsDce d w t a → IsDce d w t b → a ≡ b

  -- nothing is dead afterwards
  abbrev pub DceGoal : Type 0
  DceGoal = (d : Dialect S A) (w : TreeSurroundings N A) (t after : Root N S) →
      Lawful d → IsWell d t → IsDce d w t after → (x : Item N) → IsDead d w after x → ⊥

  -- a second time changes nothing
  abbrev pub DceTwice : Type 0
  DceTwice = (d : Dialect S A) (w : TreeSurroundings N A) (t after again : Root N S) →
      Lawful d → IsWell d t → IsDce d w t after → IsDce d w after again → again ≡ after

  -- what the first two phases make of an orderly tree is orderly, and of a local one local
  abbrev pub CutOrderly : Type 0
  CutOrderly = (d : Dialect S A) (p : StartingRegions N) (w : TreeSurroundings N A) (t cut : Root N S) →
      IsCut d p (decided d w t) cut → IsOrderly t → IsOrderly cut

  abbrev pub CutLocal : Type 0
  CutLocal = (d : Dialect S A) (p : StartingRegions N) (w : TreeSurroundings N A) (t cut : Root N S) →
      IsCut d p (decided d w t) cut → IsLocal t → IsLocal cut

  abbrev pub CutLast : Type 0
  CutLast = (d : Dialect S A) (p : StartingRegions N) (w : TreeSurroundings N A) (t cut : Root N S) →
      IsCut d p (decided d w t) cut → BranchesLast t → BranchesLast cut

  -- branches are decided, blocks cut and chains joined in one way
  abbrev pub OneSimplify : Type 0
  OneSimplify = (d : Dialect S A) (w : TreeSurroundings N A) (t a b : Root N S) →
      IsOrderly t → IsSimplify d w t a → IsSimplify d w t b → a ≡ b

  -- each block of a visited SSA region that is left is reached
  abbrev pub CutGoal : Type 0
  CutGoal = (d : Dialect S A) (p : StartingRegions N) (t after : Root N S) →
      IsLocal t → IsCut d p t after → (x : BlockOccurrence N S) →
      Has x (block_occurrences_of after) → IsVisitedSsa d p after x.spot → IsReached after x.label.name

  -- each block of a visited SSA region that simplify leaves is reached, and no two can be joined
  abbrev pub SimplifyGoal : Type 0
  SimplifyGoal = (d : Dialect S A) (w : TreeSurroundings N A) (t after : Root N S) →
      IsOrderly t → IsLocal t → BranchesLast t → IsSimplify d w t after → IsSimplified d after

  -- where following what was forwarded comes back nothing is joined
  abbrev pub BackRefuses : Type 0
  BackRefuses = (d : Dialect S A) (p : StartingRegions N) (t after : Root N S) →
      IsOrderly t → ComesBack d p t → IsJoined d p t after → ⊥

-- under other names the same is made of a tree

module _ (N M : Names) (S : Contents) (A : Type 0) where
  abbrev pub SccpRenames : Type 0
  SccpRenames = (d : Dialect S A) (r : Renaming N M) (t : Root N S) (a : Root (fresh N) S) (w : TreeSurroundings N A)
      (w' : TreeSurroundings M A) → Agree r w w' → IsSccp d w t a →
      IsSccp d w' (rename_root (maps r) t) (rename_root (fresh_maps {N = N} {M = M} (maps r)) a)

  -- the goal of sccp, too: the names that a result gets in the end don't matter
  abbrev pub ConstantsRename : Type 0
  ConstantsRename = (d : Dialect S A) (r : Renaming N M) (t : Root N S) (k : Facts N A) →
      IsMostPrecise d t k → NamesConstants d t → NamesConstants d (rename_root (maps r) t)

  abbrev pub DceRenames : Type 0
  DceRenames = (d : Dialect S A) (r : Renaming N M) (t after : Root N S) (w : TreeSurroundings N A) (w' : TreeSurroundings M A) →
      Agree r w w' → IsDce d w t after → IsDce d w' (rename_root (maps r) t) (rename_root (maps r) after)

  abbrev pub SimplifyRenames : Type 0
  SimplifyRenames = (d : Dialect S A) (r : Renaming N M) (t after : Root N S) (w : TreeSurroundings N A) (w' : TreeSurroundings M A) →
      Agree r w w' → OperationsApart t → IsSimplify d w t after →
      IsSimplify d w' (rename_root (maps r) t) (rename_root (maps r) after)

  -- and the same is refused

  abbrev pub LackingRenames : Type 0
  LackingRenames = (d : Dialect S A) (r : Renaming N M) (t : Root N S) (k : Facts N A) (l : Facts M A) →
      IsMostPrecise d t k → IsMostPrecise d (rename_root (maps r) t) l →
      IsLacking d t k → IsLacking d (rename_root (maps r) t) l

  abbrev pub BackRenames : Type 0
  BackRenames = (d : Dialect S A) (r : Renaming N M) (p : StartingRegions N) (t : Root N S) →
      ComesBack d p t → ComesBack d (rename_place (maps r) p) (rename_root (maps r) t)

  abbrev pub LosesRenames : Type 0
  LosesRenames = (r : Renaming N M) (t after : Root N S) (w : TreeSurroundings N A) (w' : TreeSurroundings M A) → Agree r w w' →
      LosesUse w t after → LosesUse w' (rename_root (maps r) t) (rename_root (maps r) after)

-- trees that are the same under two renamings into common names are made into trees that are the same under them

module _ {N M P : Names} {S : Contents} (f : Renaming N P) (g : Renaming M P) where
  abbrev pub AreSame : Root N S → Root M S → Type 0
  AreSame t u = rename_root (maps f) t ≡ rename_root (maps g) u

module _ (N M P : Names) (S : Contents) (A : Type 0) where
  abbrev pub SameSccp : Type 0
  SameSccp = (d : Dialect S A) (f : Renaming N P) (g : Renaming M P) (t : Root N S) (u : Root M S) → AreSame f g t u →
      (v : TreeSurroundings N A) (w : TreeSurroundings M A) (z : TreeSurroundings P A) → Agree f v z → Agree g w z →
      (a : Root (fresh N) S) (b : Root (fresh M) S) → IsSccp d v t a → IsSccp d w u b →
      rename_root (fresh_maps {N = N} {M = P} (maps f)) a ≡ rename_root (fresh_maps {N = M} {M = P} (maps g)) b

  abbrev pub SameDce : Type 0
  SameDce = (d : Dialect S A) (f : Renaming N P) (g : Renaming M P) (t : Root N S) (u : Root M S) → AreSame f g t u →
      (v : TreeSurroundings N A) (w : TreeSurroundings M A) (z : TreeSurroundings P A) → Agree f v z → Agree g w z →
      (a : Root N S) (b : Root M S) → IsDce d v t a → IsDce d w u b → AreSame f g a b

  abbrev pub SameSimplify : Type 0
  SameSimplify = (d : Dialect S A) (f : Renaming N P) (g : Renaming M P) (t : Root N S) (u : Root M S) →
      AreSame f g t u →
      (v : TreeSurroundings N A) (w : TreeSurroundings M A) (z : TreeSurroundings P A) → Agree f v z → Agree g w z →
      (a : Root N S) (b : Root M S) → IsOrderly t → IsOrderly u → IsSimplify d v t a → IsSimplify d w u b →
      AreSame f g a b
