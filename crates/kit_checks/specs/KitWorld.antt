-- Trees of operations of `kit` in a world: what the rules read of them, and the types of their values.
use Rattle.std.specs.Prelude.{◌≡◌, Option, Some}
use Rattle.ir_base.specs.declared.types.TypeHandle.{TypeHandle}
use Rattle.ir_program.specs.declared.handles.Value.{Value}
use Rattle.ir_trees.specs.Stands.{by_handle, in_program}
use Rattle.ir_trees.specs.Trees.{Defined}
use Rattle.opt_trees.specs.Occurrences.{Has, Occurrence, BlockOccurrence, occurrences_of, block_occurrences_of}
use Rattle.kit.specs.Context.{KitTree}
use Rattle.kit.specs.Meaning.{KitOperation, KitBlock}
use Rattle.kit_checks.specs.World.{World}
use Rattle.kit_ops.specs.declared.types.KitType.{KitType}

-- the world in which handles lead to these types, and values have these types; kinds and attributes are as operations and
-- blocks carry them
abbrev pub kit_world : (TypeHandle → Option KitType) → (Value → Option TypeHandle) → World KitOperation KitBlock
kit_world leads typed = record {
  kind = λ o. o.kind;
  attributes = λ o. o.notes.attributes;
  block_attributes = λ b. b.attributes;
  type_key = leads;
  value_type = typed;
}

-- each value that is defined below the root of the tree has the type that is said of it there
pub record HasDeclaredTypes (typed : Value → Option TypeHandle) (t : KitTree) : Type 0 where
  pub results : (o : Occurrence by_handle (in_program KitOperation KitBlock)) → Has o (occurrences_of t) →
      (d : Defined Value TypeHandle) → Has d o.head.results → typed d.name ≡ Some d.holds
  pub arguments : (b : BlockOccurrence by_handle (in_program KitOperation KitBlock)) →
      Has b (block_occurrences_of t) → (d : Defined Value TypeHandle) → Has d b.label.arguments →
      typed d.name ≡ Some d.holds
