-- Constants that are put in can be written, where a type may be.
use Rattle.std.proofs.Common.{◌≡◌, ℕ, suc, ◌^◌, ◌<◌, ◌≤◌, Bool, true, List, [], ◌∷◌, Option, Some, None, slice_get, option_and_then, option_map, refl, ap, arith}
use Rattle.std.specs.Prelude.{nat_lt, ◌&&◌}
use Rattle.std.proofs.lemmas.Bool.{le-leb, lt-ltb}
use Rattle.ir_names.specs.Tree.{node, no_tree, a_tree, Trees}
use Rattle.ir_print.specs.Pieces.{value_of_kind, leaf, number, width}
use Rattle.ir_print.specs.Shown.{Said, alone, said_attribute, said_leaf}
use Rattle.ir_trees.specs.Names.{Names}
use Rattle.kit.specs.Meaning.{kit, operation_of}
use Rattle.kit_checks.specs.Words as words
use Rattle.kit_ops.specs.Keys.{constant_value}
use Rattle.kit_ops.specs.declared.attributes.IntegerAttr.{IntegerAttr}
use Rattle.kit_ops.specs.declared.attributes.KitAttr.{KitAttr}
use Rattle.kit_ops.specs.declared.attributes.KitAttr.TheVariants as attrs
use Rattle.kit_ops.specs.declared.kinds.KitOp.TheVariants as ops
use Rattle.kit_ops.specs.declared.types.IntegerType.{IntegerType}
use Rattle.kit_ops.specs.declared.types.KitType.{KitType}
use Rattle.kit_ops.specs.declared.types.KitType.TheVariants as keys
use Rattle.kit.specs.Numbers.{printed_number}
use Rattle.kit.specs.Readable.{constant_said_so}
use Rattle.kit.specs.Says.{one, only, integer_said, has_values, said_of_attribute, said_of_type}
use Rattle.kit_writable_trees.specs.Writable.{IsWritableHead}
use Rattle.opt_trees.specs.Sccp.{constant_head}
use Rattle.ir_print.specs.declared.format.ValueSort.TheVariants as sorts
use Rattle.opt_trees.proofs.Lists.{some_same, none_some}

-- the attribute is an integer of its type, of 1 to 64 bits
pub record IsNumber (types : List KitType) (a : IntegerAttr) : Type 0 where
  pub key : slice_get types a.ty.number ≡ Some (keys.Integer a.integer)
  pub least : 1 ≤ a.integer.width
  pub most : a.integer.width ≤ 64
  pub in_range : a.bits < 2 ^ a.integer.width

-- a type of which an integer type is known is this one
pub key_of : (o : Option KitType) (i : IntegerType) → option_and_then words.integer_of o ≡ Some i →
    o ≡ Some (keys.Integer i)
key_of None i e = absurd (none_some i e)
key_of (Some (keys.Integer j)) i e = ap (λ z. Some (keys.Integer z)) (some_same j i e)
key_of (Some (keys.Function f)) i e = absurd (none_some i e)
key_of (Some keys.Unit) i e = absurd (none_some i e)

module _ (types : List KitType) (a : IntegerAttr) (is : IsNumber types a) where
  has_bits : (has_values a.integer.width && nat_lt a.bits (2 ^ a.integer.width)) ≡ true
  has_bits = λ i. (le-leb 1 a.integer.width is.least i && le-leb a.integer.width 64 is.most i)
      && lt-ltb a.bits (2 ^ a.integer.width) is.in_range i

  number_says : said_of_attribute (attrs.Integer a)
      ≡ Some (0, integer_said a.integer.signedness a.integer.width (printed_number a))
  number_says = ap
      (λ (b : Bool). only {X = ℕ × Trees (Said KitAttr)} b
      (Some (0, integer_said a.integer.signedness a.integer.width (printed_number a))))
      has_bits

  is_small : a.integer.width < 2 ^ 32
  is_small = let most : a.integer.width ≤ 64 = is.most in omega (arith, most)

  type_says : said_of_type (keys.Integer a.integer)
      ≡ Some (0, one (alone (said_leaf (width a.integer.signedness a.integer.width))))
  type_says = ap
      (λ (b : Bool). only {X = ℕ × Trees (Said KitAttr)} b
      (Some (0, one (alone (said_leaf (width a.integer.signedness a.integer.width))))))
      (lt-ltb a.integer.width (2 ^ 32) is_small)

  pub constant_writable : {N : Names} (d : ℕ) (v : N.value) →
      IsWritableHead types (suc d) 0
      (constant_head {N = N} kit v a (operation_of ops.Constant ((constant_value, attrs.Integer a) ∷ [])))
  constant_writable d v =
      let n = printed_number a in
      let s = a.integer.signedness in
      let w = a.integer.width in
      record {
        kind = 2;
        said = one (alone (said_attribute (attrs.Integer a)));
        pieces = a_tree (node (value_of_kind sorts.Attribute 0) (a_tree (node (leaf (number n.is_negative n.magnitude)) no_tree)
            (a_tree (node (leaf (width s w)) no_tree) no_tree))) no_tree;
        shapes = node (value_of_kind sorts.«Type» 0) (a_tree (node (leaf (width s w)) no_tree) no_tree) ∷ [];
        says_it = ap (option_map {U = ℕ × Trees (Said KitAttr)} (λ us. (2, us))) (constant_said_so a);
        shown = ((attrs.Integer a, integer_said s w n, refl, number_says, (refl, (refl, tt))), tt);
        typed = ((a.ty, keys.Integer a.integer, one (alone (said_leaf (width s w))), refl, is.key, type_says, (refl, tt)), tt);
        read = refl;
        holds = refl;
        flat = ((tt, (tt, tt)), tt);
        bare = ((refl, (refl, tt)), tt);
        counted = refl;
      }
