-- Functions of a module of the dialect by their paths, in its tree.
use Rattle.std.specs.Prelude.{ℕ, nat_eq, Bool, false, ◌&&◌, List, [], ◌∷◌, Option, Some, None, option_and_then}
use Rattle.std.specs.Prelude.{if◌then◌else◌}
use Rattle.ir_names.specs.Dictionary.{attribute_at}
use Rattle.ir_names.specs.Identifier.{text_of}
use Rattle.ir_trees.specs.Names.{Names}
use Rattle.ir_trees.specs.Trees.{Operations, Blocks, Regions, Tree, end, operation, block, region, Root}
use Rattle.kit_ops.specs.declared.attributes.KitAttr.{KitAttr}
use Rattle.kit_ops.specs.declared.attributes.KitAttr.TheVariants as attrs
use Rattle.kit_ops.specs.Keys.{symbol_name}
use Rattle.kit.specs.Meaning.{KitOperation, is_function, is_module}
use Rattle.kit_views.specs.Reading.{kit_contents}

module _ (numbered : List ℕ → ℕ) where
  -- the attribute is a name with this number
  abbrev pub is_name : ℕ → Option KitAttr → Bool
  is_name n (Some (attrs.Identifier name)) = nat_eq n (numbered (text_of name))
  is_name n _ = false

  -- a function, or a module, whose name has this number
  abbrev pub is_function_named : ℕ → KitOperation → Bool
  is_function_named n c = is_function c.kind && is_name n (attribute_at c.notes.attributes symbol_name)

  abbrev pub is_module_named : ℕ → KitOperation → Bool
  is_module_named n c = is_module c.kind && is_name n (attribute_at c.notes.attributes symbol_name)

module _ {N : Names} where
  -- the first of these operations that passes a test, with what is in it
  abbrev pub first_with : (KitOperation → Bool) → Tree N kit_contents Operations → Option (Root N kit_contents)
  first_with test end = None
  first_with test (operation h rs rest) =
      if test h.content then Some (record { head = h; regions = rs }) else first_with test rest

  -- the operations of the first block of the first region
  abbrev pub operations_first : Tree N kit_contents Blocks → Tree N kit_contents Operations
  operations_first end = end
  operations_first (block l ops rest) = ops

  abbrev pub members_in : Tree N kit_contents Regions → Tree N kit_contents Operations
  members_in end = end
  members_in (region bs rest) = operations_first bs

  -- where a path leads from a module: through the modules of these names, the outermost one first, to the function of
  -- the last name
  abbrev pub locate : (List ℕ → ℕ) → List ℕ → Root N kit_contents → Option (Root N kit_contents)
  locate numbered [] t = None
  locate numbered (x ∷ []) t = first_with (is_function_named numbered x) (members_in t.regions)
  locate numbered (x ∷ y ∷ path) t =
      option_and_then (locate numbered (y ∷ path)) (first_with (is_module_named numbered x) (members_in t.regions))
