-- What is said of a type or an attribute is said of each that equals it.
use Rattle.std.proofs.Common.{◌≡◌, true, Some, refl, ap}
use Rattle.std.proofs.lemmas.Bool.{false≢true, and_parts}
use Rattle.ir_base.specs.contracts.types.TypeHandlePartialEq.TheImpl as of_handles
use Rattle.ir_names.specs.declared.interfaces.AttrInterface.{AttrInterface}
use Rattle.ir_names.specs.declared.interfaces.TypeInterface.{TypeInterface}
use Rattle.kit_ops.specs.declared.types.KitType.{KitType}
use Rattle.kit_ops.specs.declared.types.KitType.TheVariants as types
use Rattle.kit_ops.specs.declared.attributes.KitAttr.{KitAttr}
use Rattle.kit_ops.specs.declared.attributes.KitAttr.TheVariants as attrs
use Rattle.kit_ops.specs.declared.attributes.IntegerAttr.{IntegerAttr}
use Rattle.kit_ops.specs.contracts.attributes.IntegerAttrPartialEq.TheImpl as of_integers
use Rattle.kit_ops.specs.contracts.types.KitTypePartialEq.TheImpl as of_types
use Rattle.kit_ops.specs.contracts.attributes.KitAttrPartialEq.TheImpl as of_attributes
use Rattle.kit_ops.specs.Kinds.{type_kind, attr_kind, type_implements, attr_implements, attr_type, held_names}
use Rattle.kit.specs.Same.{same_handle}
use Rattle.kit.specs.Names.{names_same}

pub same_type_kind : (x y : KitType) → of_types.eq-value.it x y ≡ true → type_kind x ≡ type_kind y
same_type_kind (types.Integer s) (types.Integer t) e = refl
same_type_kind (types.Function s) (types.Function t) e = refl
same_type_kind types.Unit types.Unit e = refl
same_type_kind x y e = absurd (false≢true e)

pub same_type_interfaces : (x y : KitType) → of_types.eq-value.it x y ≡ true → (i : TypeInterface)
    → type_implements (type_kind x) i ≡ type_implements (type_kind y) i
same_type_interfaces x y e i = ap (λ k. type_implements k i) (same_type_kind x y e)

pub same_attr_kind : (x y : KitAttr) → of_attributes.eq-value.it x y ≡ true → attr_kind x ≡ attr_kind y
same_attr_kind (attrs.Integer a) (attrs.Integer b) e = refl
same_attr_kind (attrs.Identifier a) (attrs.Identifier b) e = refl
same_attr_kind (attrs.«Type» a) (attrs.«Type» b) e = refl
same_attr_kind (attrs.SegmentSizes a) (attrs.SegmentSizes b) e = refl
same_attr_kind (attrs.GivenNames a) (attrs.GivenNames b) e = refl
same_attr_kind (attrs.Note a) (attrs.Note b) e = refl
same_attr_kind (attrs.Origin a) (attrs.Origin b) e = refl
same_attr_kind x y e = absurd (false≢true e)

pub same_attr_interfaces : (x y : KitAttr) → of_attributes.eq-value.it x y ≡ true → (i : AttrInterface)
    → attr_implements (attr_kind x) i ≡ attr_implements (attr_kind y) i
same_attr_interfaces x y e i = ap (λ k. attr_implements k i) (same_attr_kind x y e)

same_types : (a b : IntegerAttr) → of_integers.eq-value.it a b ≡ true → of_handles.eq-value.it a.ty b.ty ≡ true
same_types a b e = (and_parts (of_handles.eq-value.it a.ty b.ty) _ e).0

pub same_attr_type : (x y : KitAttr) → of_attributes.eq-value.it x y ≡ true → attr_type x ≡ attr_type y
same_attr_type (attrs.Integer a) (attrs.Integer b) e = ap Some (same_handle a.ty b.ty (same_types a b e))
same_attr_type (attrs.Identifier a) (attrs.Identifier b) e = refl
same_attr_type (attrs.«Type» a) (attrs.«Type» b) e = refl
same_attr_type (attrs.SegmentSizes a) (attrs.SegmentSizes b) e = refl
same_attr_type (attrs.GivenNames a) (attrs.GivenNames b) e = refl
same_attr_type (attrs.Note a) (attrs.Note b) e = refl
same_attr_type (attrs.Origin a) (attrs.Origin b) e = refl
same_attr_type x y e = absurd (false≢true e)

pub same_attr_names : (x y : KitAttr) → of_attributes.eq-value.it x y ≡ true → held_names x ≡ held_names y
same_attr_names (attrs.Integer a) (attrs.Integer b) e = refl
same_attr_names (attrs.Identifier a) (attrs.Identifier b) e = refl
same_attr_names (attrs.«Type» a) (attrs.«Type» b) e = refl
same_attr_names (attrs.SegmentSizes a) (attrs.SegmentSizes b) e = refl
same_attr_names (attrs.GivenNames a) (attrs.GivenNames b) e = ap Some (names_same a b e)
same_attr_names (attrs.Note a) (attrs.Note b) e = refl
same_attr_names (attrs.Origin a) (attrs.Origin b) e = refl
same_attr_names x y e = absurd (false≢true e)
