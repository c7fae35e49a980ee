-- What the types of a function of the dialect say of its values, as far as constant propagation needs it.
use Rattle.std.specs.Prelude.{◌≡◌, ◌<◌, ◌≤◌, ◌^◌, ℕ, Option, Some, slice_get}
use Rattle.ir_base.specs.declared.types.TypeHandle.{TypeHandle}
use Rattle.ir_names.specs.declared.kinds.Signedness.TheVariants.{Signless}
use Rattle.ir_names.specs.Dictionary.{attribute_at}
use Rattle.ir_trees.specs.Names.{Names}
use Rattle.ir_trees.specs.Renames.{names_of}
use Rattle.ir_trees.specs.Trees.{Defined, Head, Root}
use Rattle.opt_trees.specs.Dce.{ForwardsTo}
use Rattle.opt_trees.specs.Occurrences.{Has, Occurrence, BlockOccurrence, occurrences_of, block_occurrences_of}
use Rattle.opt_trees.specs.Occurrences.{defined_in}
use Rattle.kit_ops.specs.declared.attributes.IntegerAttr.{IntegerAttr}
use Rattle.kit_ops.specs.declared.attributes.KitAttr.TheVariants as attrs
use Rattle.kit_ops.specs.declared.kinds.KitOp.{KitOp}
use Rattle.kit_ops.specs.declared.kinds.KitOp.TheVariants as ops
use Rattle.kit_ops.specs.declared.types.IntegerType.{IntegerType}
use Rattle.kit_ops.specs.declared.types.KitType.{KitType}
use Rattle.kit_ops.specs.declared.types.KitType.TheVariants as types
use Rattle.kit_ops.specs.Keys.{constant_value}
use Rattle.kit.specs.Meaning.{kit}
use Rattle.kit_views.specs.Reading.{kit_contents, integer_of}

module _ (leads : TypeHandle → Option KitType) where
  -- the number as an attribute of this type
  abbrev pub number_as : TypeHandle → ℕ → IntegerAttr
  number_as ty n = record { ty = ty; integer = integer_of (leads ty); bits = n }

  -- the width of this type
  abbrev pub width_at : TypeHandle → ℕ
  width_at ty = (integer_of (leads ty)).width

  -- an integer type of 1 to 64 bits
  abbrev pub IsMachineInteger : TypeHandle → Type 0
  IsMachineInteger ty = (i : IntegerType) × (leads ty ≡ Some (types.Integer i)) × (1 ≤ i.width) × (i.width ≤ 64)

  -- the signless integer type of one bit
  abbrev pub LeadsToBit : TypeHandle → Type 0
  LeadsToBit ty = leads ty ≡ Some (types.Integer (record { signedness = Signless; width = 1 }))

  module _ {N : Names} (type_at : N.value → TypeHandle) where
    -- a constant's value is a number of its result's type; arithmetic has one type throughout; a comparison's operands
    -- have one type, and its result is a bit; so is a condition
    abbrev pub TypesFit : KitOp → Head N kit_contents → Type 0
    TypesFit ops.Constant h = (v : N.value) → Has v (names_of h.results) → (n : ℕ)
        × (attribute_at h.content.notes.attributes constant_value ≡ Some (attrs.Integer (number_as (type_at v) n)))
        × (n < 2 ^ width_at (type_at v))
    TypesFit (ops.Arithmetic k) h =
        (x v : N.value) → Has x h.operands → Has v (names_of h.results) → type_at x ≡ type_at v
    TypesFit (ops.Comparison k) h = ((x y : N.value) → Has x h.operands → Has y h.operands → type_at x ≡ type_at y)
        × ((v : N.value) → Has v (names_of h.results) → LeadsToBit (type_at v))
    TypesFit ops.CondBr h = (x : N.value) → slice_get h.operands 0 ≡ Some x → LeadsToBit (type_at x)
    TypesFit _ h = Unit {0}

    -- each value has its type where it is defined; all are integers; each operand is defined in the function, and has
    -- the type of the argument that it is forwarded to
    pub record IsTyped (t : Root N kit_contents) : Type 0 where
      pub results : (o : Occurrence N kit_contents) → Has o (occurrences_of t) → (v : Defined N.value TypeHandle) →
          Has v o.head.results → type_at v.name ≡ v.holds
      pub arguments : (x : BlockOccurrence N kit_contents) → Has x (block_occurrences_of t) →
          (v : Defined N.value TypeHandle) → Has v x.label.arguments → type_at v.name ≡ v.holds
      pub integers : (v : N.value) → Has v (defined_in t.regions) → IsMachineInteger (type_at v)
      pub operands : (o : Occurrence N kit_contents) (x : N.value) → Has o (occurrences_of t) → Has x o.head.operands →
          Has x (defined_in t.regions)
      pub operations : (o : Occurrence N kit_contents) → Has o (occurrences_of t) →
          TypesFit o.head.content.kind o.head
      pub forwards : (o : Occurrence N kit_contents) (i : ℕ) (x v : N.value) → Has o (occurrences_of t) →
          slice_get o.head.operands i ≡ Some x → ForwardsTo kit t o i v → type_at x ≡ type_at v
