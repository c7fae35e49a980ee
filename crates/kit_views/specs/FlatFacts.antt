-- Facts of a tree of a function, and facts of its flat view.
use Rattle.std.specs.Prelude.{◌≡◌, ◌<◌, ◌^◌, ℕ, List, Option, Some, slice_get}
use Rattle.ir_base.specs.declared.types.TypeHandle.{TypeHandle}
use Rattle.ir_trees.specs.Names.{Names}
use Rattle.ir_trees.specs.Trees.{Root}
use Rattle.opt_rows.specs.declared.known.Known.{Known}
use Rattle.opt_rows.specs.declared.known.Known.TheVariants as known
use Rattle.opt_trees.specs.Facts as trees
use Rattle.opt_trees.specs.Occurrences.{Has, defined_in}
use Rattle.kit_ops.specs.declared.attributes.IntegerAttr.{IntegerAttr}
use Rattle.kit_ops.specs.declared.types.KitType.{KitType}
use Rattle.kit_behaviour.specs.Facts as flat
use Rattle.kit_behaviour.specs.Facts.{Fact, Undetermined, Unknown}
use Rattle.kit_views.specs.Reading.{kit_contents}
use Rattle.kit_views.specs.Typed.{number_as, width_at}

module _ (leads : TypeHandle → Option KitType) where
  -- of a value of this type the same is known: the number, as an attribute of the type; any value; or nothing yet
  abbrev pub IsKnownAs : TypeHandle → Known IntegerAttr → Fact → Type 0
  IsKnownAs ty k Undetermined = k ≡ known.Undetermined
  IsKnownAs ty k (flat.Known n) = (k ≡ known.One (number_as leads ty n)) × (n < 2 ^ width_at leads ty)
  IsKnownAs ty k Unknown = k ≡ known.Any

  -- flat facts say of each block, by its index, and of each value what the facts of the tree say
  pub record AreFlatly {N : Names} (type_at : N.value → TypeHandle) (t : Root N kit_contents) (names : List N.block)
      (k : trees.Facts N IntegerAttr) (l : flat.FunctionFacts N.value) : Type 0 where
    pub runs : (n : ℕ) (b : N.block) → slice_get names n ≡ Some b → l.runs n ≡ k.runs b
    pub of : (v : N.value) → Has v (defined_in t.regions) → IsKnownAs (type_at v) (k.of v) (l.of v)
    -- of values that don't occur nothing is known
    pub outside : (v : N.value) → (Has v (defined_in t.regions) → ⊥) → l.of v ≡ Undetermined
