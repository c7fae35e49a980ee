-- What is read at the operations and values of a tree, to see a function of the dialect as a list of basic blocks.
use Rattle.std.specs.Prelude.{ℕ, List, Option, Some}
use Rattle.ir_base.specs.declared.types.TypeHandle.{TypeHandle}
use Rattle.ir_names.specs.declared.kinds.Signedness.TheVariants.{Signless}
use Rattle.ir_names.specs.Dictionary.{attribute_at}
use Rattle.ir_names.specs.Identifier.{text_of}
use Rattle.ir_trees.specs.Names.{Contents}
use Rattle.ir_trees.specs.Renames.{holding}
use Rattle.kit_ops.specs.declared.attributes.KitAttr.{KitAttr}
use Rattle.kit_ops.specs.declared.attributes.KitAttr.TheVariants as attrs
use Rattle.kit_ops.specs.declared.kinds.KitOp.{KitOp}
use Rattle.kit_ops.specs.declared.types.IntegerType.{IntegerType}
use Rattle.kit_ops.specs.declared.types.KitType.{KitType}
use Rattle.kit_ops.specs.declared.types.KitType.TheVariants as types
use Rattle.kit_ops.specs.Keys.{constant_value, callee}
use Rattle.kit.specs.Meaning.{KitOperation, KitBlock, first_size}

pub record Reading (S : Contents) : Type 0 where
  pub kind : S.of_operation → KitOp
  -- of a constant, its number
  pub number : S.of_operation → ℕ
  -- of a conditional branch, how many operands behind the condition are forwarded along its first edge
  pub first : S.of_operation → ℕ
  -- of a call, the number of the function that it names
  pub callee : S.of_operation → ℕ
  -- the width of a value of this type
  pub width : S.of_value → ℕ

-- what operations and blocks of the dialect carry
abbrev pub kit_contents : Contents
kit_contents = holding KitOperation KitBlock TypeHandle

-- the number that an attribute holds; 0 where it is no integer
abbrev pub number_in : Option KitAttr → ℕ
number_in (Some (attrs.Integer a)) = a.bits
number_in _ = 0

-- the number of the function that an attribute names, by the numbers of texts; 0 where it is no name
abbrev pub named_in : (List ℕ → ℕ) → Option KitAttr → ℕ
named_in numbered (Some (attrs.Identifier name)) = numbered (text_of name)
named_in numbered _ = 0

-- the integer type that this is; one of width 0 where it is none
abbrev pub integer_of : Option KitType → IntegerType
integer_of (Some (types.Integer t)) = t
integer_of _ = record { signedness = Signless; width = 0 }

-- trees of the dialect are read so: by what handles of types lead to, and by a numbering of the texts that are names
-- of functions
abbrev pub kit_reading : (TypeHandle → Option KitType) → (List ℕ → ℕ) → Reading kit_contents
kit_reading leads numbered = record {
  kind = λ c. c.kind;
  number = λ c. number_in (attribute_at c.notes.attributes constant_value);
  first = λ c. first_size c.notes.attributes;
  callee = λ c. named_in numbered (attribute_at c.notes.attributes callee);
  width = λ ty. (integer_of (leads ty)).width;
}
