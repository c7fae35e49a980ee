-- Branches of a function that its constants decide, in its tree.
use Rattle.std.specs.Prelude.{◌≡◌, ◌↔◌, Some}
use Rattle.ir_names.specs.Dictionary.{attribute_at}
use Rattle.ir_trees.specs.Names.{Names}
use Rattle.ir_trees.specs.Renames.{names_of}
use Rattle.ir_trees.specs.Trees.{Root}
use Rattle.opt_trees.specs.Dce.{TreeSurroundings}
use Rattle.opt_trees.specs.Occurrences.{Has, Occurrence, occurrences_of, defined_in}
use Rattle.kit_ops.specs.declared.attributes.IntegerAttr.{IntegerAttr}
use Rattle.kit_ops.specs.declared.attributes.KitAttr.TheVariants as attrs
use Rattle.kit_ops.specs.declared.kinds.KitOp.TheVariants as ops
use Rattle.kit_ops.specs.Keys.{constant_value}
use Rattle.kit_views.specs.Reading.{kit_contents}

module _ {N : Names} (w : TreeSurroundings N IntegerAttr) (t : Root N kit_contents) where
  -- the value is the result of a constant of this attribute
  pub record IsConstantOf (v : N.value) (a : IntegerAttr) : Type 0 where
    pub definer : Occurrence N kit_contents
    pub stands : Has definer (occurrences_of t)
    pub constant : definer.head.content.kind ≡ ops.Constant
    pub result : Has v (names_of definer.head.results)
    pub value : attribute_at definer.head.content.notes.attributes constant_value ≡ Some (attrs.Integer a)

  -- of the values of the tree exactly the results of constants are known alone; of others anything may be known
  abbrev pub KnowsConstants : Type 0
  KnowsConstants =
      (v : N.value) (a : IntegerAttr) → Has v (defined_in t.regions) → (w.alone v ≡ Some a) ↔ IsConstantOf v a
