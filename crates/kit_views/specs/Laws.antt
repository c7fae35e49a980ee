-- The statements of the laws.
use Rattle.std.specs.Prelude.{◌≡◌, ◌⊎◌, ◌↔◌, ◌<◌, ℕ, Bool, true, List, length, Option, Some, map}
use Rattle.ir_base.specs.declared.types.TypeHandle.{TypeHandle}
use Rattle.ir_trees.specs.Names.{Names, Contents}
use Rattle.ir_trees.specs.Renames.{names_of}
use Rattle.ir_trees.specs.Trees.{Root}
use Rattle.opt_trees.specs.Dialect.{Dialect}
use Rattle.opt_trees.specs.Facts as trees
use Rattle.opt_trees.specs.Sccp.{fresh, IsSccp}
use Rattle.opt_trees.specs.Simplify.{decided, all_of, IsCut, IsJoined, IsSimplify}
use Rattle.opt_trees.specs.Occurrences.{Has, Occurrence, occurrences_of, defined_in}
use Rattle.opt_trees.specs.Dce.{TreeSurroundings, Whole, Slot, IsDead, IsDce}
use Rattle.kit_ops.specs.declared.attributes.IntegerAttr.{IntegerAttr}
use Rattle.kit_ops.specs.declared.types.KitType.{KitType}
use Rattle.kit.specs.Meaning.{kit}
use Rattle.kit_behaviour.specs.DecidedBranches.{decide_block}
use Rattle.kit_behaviour.specs.Facts as facts
use Rattle.kit_behaviour.specs.Machine.{Fun, left_in}
use Rattle.kit_behaviour.specs.RemovedValues.{thin}
use Rattle.kit_behaviour.specs.SimplifiedNames.{AreConstants, SimplifiesNamed}
use Rattle.kit_behaviour.specs.Rules.{EndsWell}
use Rattle.kit_behaviour.specs.SimplifiedBlocks.{Reached, IsReachedSet, keep, Merges}
use Rattle.kit_behaviour.specs.DeadValues as flat
use Rattle.kit_views.specs.Reading.{Reading, kit_contents, kit_reading}
use Rattle.kit_views.specs.FlatView.{IsSameness, FlattensTo, names_in}
use Rattle.kit_views.specs.FlatFacts.{AreFlatly}
use Rattle.kit_views.specs.FlatConstants.{IsPropagatedView}
use Rattle.kit_views.specs.FlatBranches.{KnowsConstants}
use Rattle.kit_views.specs.Typed.{IsTyped}

-- no value that is defined below the root is named from outside it
abbrev pub NothingPinned : {N : Names} {S : Contents} {A : Type 0} → TreeSurroundings N A → Root N S → Type 0
NothingPinned {N} w t = (v : N.value) → Has v (defined_in t.regions) → w.is_pinned v ≡ true → ⊥

module _ {N : Names} {S : Contents} {A : Type 0} (d : Dialect S A) (w : TreeSurroundings N A) (t : Root N S) where
  -- a result of a dead operation
  pub record IsOfDead (v : N.value) : Type 0 where
    pub definer : Occurrence N S
    pub stands : Has definer (occurrences_of t)
    pub result : Has v (names_of definer.head.results)
    pub dead : IsDead d w t (Whole definer.head.name)

  -- what is left of the tree has as its flat view what is left of the flat view f, without f's dead values
  pub record IsThinned (same : N.value → N.value → Bool) (r : Reading S) (f : Fun N.value) (after : Root N S)
      : Type 0 where
    -- dead arguments, and results of dead operations
    pub dead : N.value → Bool
    pub are : (v : N.value) → (dead v ≡ true) ↔ (IsDead d w t (Slot v) ⊎ IsOfDead v)
    -- these are the dead values of the flat view
    pub is_dead : flat.IsDeadSet same (Some f) dead
    pub rest : Fun N.value
    pub is : thin dead (Some f) ≡ Some rest
    pub is_view : FlattensTo r after rest

-- removal of dead values on the tree of a function is removal of dead values on its flat view
abbrev pub FlatDce : Names → Type 0
FlatDce N = (same : N.value → N.value → Bool) (leads : TypeHandle → Option KitType) (numbered : List ℕ → ℕ)
    (w : TreeSurroundings N IntegerAttr) (t after : Root N kit_contents) (f : Fun N.value) →
    IsSameness same → FlattensTo (kit_reading leads numbered) t f → NothingPinned w t → IsDce kit w t after →
    IsThinned kit w t same (kit_reading leads numbered) f after

-- the most precise facts of the tree of a typed function say what the most precise facts of its flat view say
abbrev pub FlatFacts : Names → Type 0
FlatFacts N = (same : N.value → N.value → Bool) (same_block : N.block → N.block → Bool)
    (leads : TypeHandle → Option KitType) (numbered : List ℕ → ℕ) (type_at : N.value → TypeHandle)
    (t : Root N kit_contents) (f : Fun N.value) (k : trees.Facts N IntegerAttr) →
    IsSameness same → IsSameness same_block → (is_flat : FlattensTo (kit_reading leads numbered) t f) →
    IsTyped leads {N = N} type_at t → trees.IsMostPrecise kit t k →
    (l : facts.FunctionFacts N.value) × facts.AreMostPreciseFacts (Some f) l
    × AreFlatly leads type_at t (names_in is_flat.view.blocks) k l

-- constants put into the tree of a typed function, in which nothing is named from outside, are constants put into its flat
-- view
abbrev pub FlatSccp : Names → Type 0
FlatSccp N = (same : N.value → N.value → Bool) (same_block : N.block → N.block → Bool)
    (leads : TypeHandle → Option KitType) (numbered : List ℕ → ℕ) (type_at : N.value → TypeHandle)
    (w : TreeSurroundings N IntegerAttr) (t : Root N kit_contents) (after : Root (fresh N) kit_contents) (f : Fun N.value) →
    IsSameness same → IsSameness same_block → FlattensTo (kit_reading leads numbered) t f →
    IsTyped leads {N = N} type_at t → NothingPinned w t → IsSccp kit w t after → IsPropagatedView {N = N} leads numbered f after

-- branches that constants decide, decided in the tree of a typed function, are decided in its flat view
abbrev pub FlatDecided : Names → Type 0
FlatDecided N = (same : N.value → N.value → Bool) (leads : TypeHandle → Option KitType) (numbered : List ℕ → ℕ)
    (type_at : N.value → TypeHandle) (w : TreeSurroundings N IntegerAttr) (t : Root N kit_contents) (f : Fun N.value) →
    IsSameness same → FlattensTo (kit_reading leads numbered) t f → IsTyped leads {N = N} type_at t → KnowsConstants w t →
    (k : facts.FunctionFacts N.value) × AreConstants (Some f) k
    × FlattensTo (kit_reading leads numbered) (decided kit w t) (map (decide_block k) f)

-- the tree without the blocks that are not reached has as its flat view the blocks of f that are reached, numbered
-- again
pub record IsCutFlat {N : Names} {S : Contents} (r : Reading S) (f : Fun N.value) (after : Root N S) : Type 0 where
  pub reach : ℕ → Bool
  pub is_reach : IsReachedSet (Some f) reach
  pub rest : Fun N.value
  pub is : keep reach (Some f) ≡ Some rest
  pub is_view : FlattensTo r after rest

-- blocks that are not reached, removed from the tree of a function, are removed from its flat view
abbrev pub FlatReached : Names → Type 0
FlatReached N = (leads : TypeHandle → Option KitType) (numbered : List ℕ → ℕ) (t after : Root N kit_contents)
    (f : Fun N.value) → FlattensTo (kit_reading leads numbered) t f → IsCut kit (all_of t) t after →
    IsCutFlat (kit_reading leads numbered) f after

-- each block ends in a branch or a return, and has no other
abbrev pub EndWell : {V : Type 0} → Fun V → Type 0
EndWell f = (b : ℕ) → b < length f → EndsWell (left_in (Some f) b 0)

-- the tree with chains of blocks joined has as its flat view what joining makes of f
pub record IsMergedFlat {N : Names} {S : Contents} (r : Reading S) (f : Fun N.value) (after : Root N S) : Type 0 where
  pub rest : Fun N.value
  pub merges : Merges (Some f) (Some rest)
  pub is_view : FlattensTo r after rest

-- chains of blocks joined in the tree of a function each of whose blocks is reached are joined in its flat view
abbrev pub FlatMerged : Names → Type 0
FlatMerged N = (same : N.value → N.value → Bool) (leads : TypeHandle → Option KitType) (numbered : List ℕ → ℕ)
    (t after : Root N kit_contents) (f : Fun N.value) → IsSameness same → FlattensTo (kit_reading leads numbered) t f →
    EndWell f → ((b : ℕ) → b < length f → Reached (Some f) b) → IsJoined kit (all_of t) t after →
    IsMergedFlat (kit_reading leads numbered) f after

-- what the pass on control flow makes of the tree has as its flat view what it makes of f: branches that constants
-- decide are decided, then blocks that are not reached go, then chains of blocks are joined
pub record IsSimplifiedFlat {N : Names} {S : Contents} (r : Reading S) (f : Fun N.value) (after : Root N S)
    : Type 0 where
  pub rest : Fun N.value
  pub simplifies : SimplifiesNamed (Some f) (Some rest)
  pub is_view : FlattensTo r after rest

-- the pass on control flow on the tree of a typed function is the pass on its flat view
abbrev pub FlatSimplify : Names → Type 0
FlatSimplify N = (same : N.value → N.value → Bool) (leads : TypeHandle → Option KitType) (numbered : List ℕ → ℕ)
    (type_at : N.value → TypeHandle) (w : TreeSurroundings N IntegerAttr) (t after : Root N kit_contents) (f : Fun N.value) →
    IsSameness same → FlattensTo (kit_reading leads numbered) t f → IsTyped leads {N = N} type_at t →
    KnowsConstants w t → EndWell f → IsSimplify kit w t after → IsSimplifiedFlat (kit_reading leads numbered) f after
