-- What means an integer is an integer.
use Rattle.std.proofs.Common.{◌≡◌, ℕ, Option, Some, None, option_and_then, refl}
use Rattle.ir_base.specs.declared.types.TypeHandle.{TypeHandle}
use Rattle.opt_trees.proofs.Lists.{none_some}
use Rattle.kit_ops.specs.declared.attributes.IntegerAttr.{IntegerAttr}
use Rattle.kit_ops.specs.declared.attributes.KitAttr.{KitAttr}
use Rattle.kit_ops.specs.declared.attributes.KitAttr.TheVariants as attrs
use Rattle.kit_text_programs.specs.Meanings.{Attribute, Number, Integer, number_meant, attribute_meant}

-- an attribute that means the number
pub record MeansNumber (number : TypeHandle → ℕ) (o : Option KitAttr) (n : Number) : Type 0 where
  pub it : IntegerAttr
  pub some : o ≡ Some (attrs.Integer it)
  pub is : number_meant number it ≡ n

module _ (number : TypeHandle → ℕ) (n : Number) where
  integers_same : (a b : Number) → ◌≡◌ {A = Option Attribute} (Some (Integer a)) (Some (Integer b)) → a ≡ b
  integers_same a b e = cc e

  of_attribute : (a : KitAttr) → attribute_meant number a ≡ Some (Integer n) → MeansNumber number (Some a) n
  of_attribute (attrs.Integer a) e = record { it = a; some = refl; is = integers_same (number_meant number a) n e }
  of_attribute (attrs.Identifier name) e = absurd (cc e)
  of_attribute (attrs.«Type» ty) e = absurd (cc e)
  of_attribute (attrs.SegmentSizes sizes) e = absurd (cc e)
  of_attribute (attrs.GivenNames names) e = absurd (cc e)
  of_attribute (attrs.Note text) e = absurd (cc e)
  of_attribute (attrs.Origin text) e = absurd (cc e)

  -- what means an integer is an integer of this meaning
  pub means_number : (o : Option KitAttr) → option_and_then (attribute_meant number) o ≡ Some (Integer n) →
      MeansNumber number o n
  means_number None e = absurd (none_some (Integer n) e)
  means_number (Some a) e = of_attribute a e
