-- Passes on the tree of a module, and lists of them.
use Rattle.std.specs.Prelude.{◌≡◌, ℕ, List, [], ◌∷◌, Option}
use Rattle.ir_base.specs.declared.types.TypeHandle.{TypeHandle}
use Rattle.ir_trees.specs.Names.{Names}
use Rattle.ir_trees.specs.Renames.{Maps, IsOneToOne, rename_root}
use Rattle.ir_trees.specs.Trees.{Root}
use Rattle.opt_trees.specs.Dce.{TreeSurroundings, IsDce}
use Rattle.opt_trees.specs.Sccp.{fresh, IsSccp}
use Rattle.opt_trees.specs.Simplify.{IsSimplify}
use Rattle.kit_ops.specs.declared.attributes.IntegerAttr.{IntegerAttr}
use Rattle.kit_ops.specs.declared.types.KitType.{KitType}
use Rattle.kit.specs.Meaning.{kit}
use Rattle.kit_views.specs.FlatBranches.{KnowsConstants}
use Rattle.kit_views.specs.Laws.{NothingPinned}
use Rattle.kit_views.specs.Reading.{kit_contents}
use Rattle.kit_behaviour.specs.PassLists.{Pass, SccpPass, LeanSccpPass, DcePass, SimplifyPass}
use Rattle.kit_ruled_views.specs.Sound.{IsSound}

-- constants are put in for known values that have a use, under names for the constants that are kept apart from each other
-- and from all others, and nothing in the tree is named from outside
pub record IsSccpNamed {N : Names} (t after : Root N kit_contents) : Type 0 where
  pub around : TreeSurroundings N IntegerAttr
  pub unpinned : NothingPinned around t
  pub put : Root (fresh N) kit_contents
  pub is : IsSccp kit around t put
  pub names : Maps (fresh N) N
  pub apart : IsOneToOne names put
  pub same : after ≡ rename_root names put

-- what is dead is removed, and nothing in the tree is named from outside
pub record IsDceAlone {N : Names} (t after : Root N kit_contents) : Type 0 where
  pub around : TreeSurroundings N IntegerAttr
  pub unpinned : NothingPinned around t
  pub is : IsDce kit around t after

-- other names of operations alone
abbrev pub maps_of : {N : Names} → (N.operation → N.operation) → Maps N N
maps_of names = record { operation = names; block = λ b. b; value = λ v. v }

-- control flow is simplified, where of values exactly constants are known alone; operations may have other names, kept
-- apart
pub record IsSimplifiedAlone {N : Names} (t after : Root N kit_contents) : Type 0 where
  pub around : TreeSurroundings N IntegerAttr
  pub known : KnowsConstants around t
  pub simplified : Root N kit_contents
  pub is : IsSimplify kit around t simplified
  pub names : N.operation → N.operation
  pub apart : (o p : N.operation) → names o ≡ names p → o ≡ p
  pub same : after ≡ rename_root (maps_of names) simplified

-- the pass on trees that is this pass on programs; there is none here of constants for values without a use
abbrev pub IsTreePass : {N : Names} → Pass → Root N kit_contents → Root N kit_contents → Type 0
IsTreePass SccpPass t after = ⊥
IsTreePass LeanSccpPass t after = IsSccpNamed t after
IsTreePass DcePass t after = IsDceAlone t after
IsTreePass SimplifyPass t after = IsSimplifiedAlone t after

module _ {N : Names} (leads : TypeHandle → Option KitType) (numbered : List ℕ → ℕ) where
  -- the tree is sound, whatever types its values have
  abbrev pub IsSoundTree : Root N kit_contents → Type 0
  IsSoundTree t = (type_at : N.value → TypeHandle) × IsSound {N = N} leads numbered type_at t

  -- r is what the passes make of t one after another; each tree before a pass is sound
  abbrev pub IsTreeAfter : List Pass → Root N kit_contents → Root N kit_contents → Type 0
  IsTreeAfter [] t r = t ≡ r
  IsTreeAfter (x ∷ xs) t r =
      IsSoundTree t × ((u : Root N kit_contents) × IsTreePass x t u × IsTreeAfter xs u r)
