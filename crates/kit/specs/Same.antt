-- What compares equal is the same.
use Rattle.std.proofs.Common.{◌≡◌, true, refl, ap}
use Rattle.std.specs.Prelude.{◌&&◌, nat_eq}
use Rattle.std.proofs.lemmas.Bool.{and_parts, false≢true, eqb-true}
use Rattle.ir_base.specs.declared.types.TypeHandle.{TypeHandle}
use Rattle.ir_base.specs.contracts.types.TypeHandlePartialEq.TheImpl as of_handles
use Rattle.ir_names.specs.declared.kinds.Signedness.{Signedness}
use Rattle.ir_names.specs.declared.kinds.Signedness.TheVariants.{Signless, Signed, Unsigned}
use Rattle.ir_names.specs.contracts.kinds.SignednessPartialEq.TheImpl as of_signs
use Rattle.kit_ops.specs.declared.attributes.IntegerAttr.{IntegerAttr}
use Rattle.kit_ops.specs.declared.types.IntegerType.{IntegerType}
use Rattle.kit_ops.specs.contracts.attributes.IntegerAttrPartialEq.TheImpl as of_integers
use Rattle.kit_ops.specs.contracts.types.IntegerTypePartialEq.TheImpl as of_integer_types
use Rattle.kit_ops.specs.declared.kinds.KitOp.{KitOp}
use Rattle.kit_ops.specs.declared.kinds.KitOp.TheVariants as ops
use Rattle.kit_ops.specs.declared.types.KitTypeKind.{KitTypeKind}
use Rattle.kit_ops.specs.declared.types.KitTypeKind.TheVariants as types
use Rattle.kit_ops.specs.declared.attributes.KitAttrKind.{KitAttrKind}
use Rattle.kit_ops.specs.declared.attributes.KitAttrKind.TheVariants as attrs
use Rattle.kit_ops.specs.contracts.kinds.KitOpPartialEq.TheImpl as of_kinds
use Rattle.kit_ops.proofs.Operators.{same_arithmetic, same_comparison}
use Rattle.kit_ops.specs.contracts.types.KitTypeKindPartialEq.TheImpl as of_types
use Rattle.kit_ops.specs.contracts.attributes.KitAttrKindPartialEq.TheImpl as of_attributes

pub same_kind : (x y : KitOp) → of_kinds.eq-value.it x y ≡ true → x ≡ y
same_kind (ops.Arithmetic a) (ops.Arithmetic b) e = ap ops.Arithmetic (same_arithmetic a b e)
same_kind (ops.Comparison a) (ops.Comparison b) e = ap ops.Comparison (same_comparison a b e)
same_kind ops.Module ops.Module e = refl
same_kind ops.Func ops.Func e = refl
same_kind ops.Constant ops.Constant e = refl
same_kind ops.ForwardRef ops.ForwardRef e = refl
same_kind ops.Br ops.Br e = refl
same_kind ops.CondBr ops.CondBr e = refl
same_kind ops.Call ops.Call e = refl
same_kind ops.Emit ops.Emit e = refl
same_kind ops.Return ops.Return e = refl
same_kind x y e = absurd (false≢true e)

pub same_type_kind : (x y : KitTypeKind) → of_types.eq-value.it x y ≡ true → x ≡ y
same_type_kind types.Integer types.Integer e = refl
same_type_kind types.Function types.Function e = refl
same_type_kind types.Unit types.Unit e = refl
same_type_kind x y e = absurd (false≢true e)

pub same_attribute_kind : (x y : KitAttrKind) → of_attributes.eq-value.it x y ≡ true → x ≡ y
same_attribute_kind attrs.Integer attrs.Integer e = refl
same_attribute_kind attrs.Identifier attrs.Identifier e = refl
same_attribute_kind attrs.«Type» attrs.«Type» e = refl
same_attribute_kind attrs.SegmentSizes attrs.SegmentSizes e = refl
same_attribute_kind attrs.GivenNames attrs.GivenNames e = refl
same_attribute_kind attrs.Note attrs.Note e = refl
same_attribute_kind attrs.Origin attrs.Origin e = refl
same_attribute_kind x y e = absurd (false≢true e)

pub same_handle : (x y : TypeHandle) → of_handles.eq-value.it x y ≡ true → x ≡ y
same_handle x y e = ap (λ n. record { number = n }) (eqb-true x.number y.number e)

same_sign : (x y : Signedness) → of_signs.eq-value.it x y ≡ true → x ≡ y
same_sign Signless Signless e = refl
same_sign Signed Signed e = refl
same_sign Unsigned Unsigned e = refl
same_sign x y e = absurd (false≢true e)

same_type : (x y : IntegerType) → of_integer_types.eq-value.it x y ≡ true → x ≡ y
same_type x y e =
    let both = and_parts (of_signs.eq-value.it x.signedness y.signedness) (nat_eq x.width y.width) e in
    let s = same_sign x.signedness y.signedness both.0 in
    let w = eqb-true x.width y.width both.1 in
    λ i. record { signedness = s i; width = w i }

pub same_integer : (x y : IntegerAttr) → of_integers.eq-value.it x y ≡ true → x ≡ y
same_integer x y e =
    let first = and_parts (of_handles.eq-value.it x.ty y.ty)
    (of_integer_types.eq-value.it x.integer y.integer && nat_eq x.bits y.bits) e in
    let second = and_parts (of_integer_types.eq-value.it x.integer y.integer) (nat_eq x.bits y.bits) first.1 in
    let t = same_handle x.ty y.ty first.0 in
    let n = same_type x.integer y.integer second.0 in
    let b = eqb-true x.bits y.bits second.1 in
    λ i. record { ty = t i; integer = n i; bits = b i }
