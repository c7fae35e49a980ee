-- Kinds have one id exactly where they are equal.
use Rattle.std.proofs.Common.{◌≡◌, ℕ, true, List, [], ◌∷◌, Option, Some, refl, sym, ap, ◌∙◌, subst}
use Rattle.std.specs.Prelude.{◌↔◌}
use Rattle.kit_ops.specs.declared.kinds.KitOp.{KitOp}
use Rattle.kit_ops.specs.declared.types.KitTypeKind.{KitTypeKind}
use Rattle.kit_ops.specs.declared.types.KitTypeKind.TheVariants as types
use Rattle.kit_ops.specs.declared.attributes.KitAttrKind.{KitAttrKind}
use Rattle.kit_ops.specs.declared.attributes.KitAttrKind.TheVariants as attrs
use Rattle.kit_ops.specs.contracts.kinds.KitOpPartialEq.TheImpl as of_kinds
use Rattle.kit_ops.specs.contracts.kinds.KitOpEq.TheImpl.Laws as kind_laws
use Rattle.kit_ops.specs.contracts.types.KitTypeKindPartialEq.TheImpl as of_types
use Rattle.kit_ops.specs.contracts.types.KitTypeKindEq.TheImpl.Laws as type_laws
use Rattle.kit_ops.specs.contracts.attributes.KitAttrKindPartialEq.TheImpl as of_attributes
use Rattle.kit_ops.specs.contracts.attributes.KitAttrKindEq.TheImpl.Laws as attribute_laws
use Rattle.kit_ops.specs.Table.{row_of}
use Rattle.kit_ops.specs.Named.{first_named, kind_named}
use Rattle.kit_ops.proofs.Operators.{found}
use Rattle.kit_ops.specs.Kinds.{op_names, type_name, type_names, attr_names}
use Rattle.kit.specs.Same.{same_kind, same_type_kind, same_attribute_kind}

-- the kind of types with a name
abbrev found_type_by : List ℕ → Option KitTypeKind
found_type_by = first_named type_name (types.Integer ∷ types.Function ∷ types.Unit ∷ [])

found_type : (k : KitTypeKind) → found_type_by (type_name k) ≡ Some k
found_type types.Integer = refl
found_type types.Function = refl
found_type types.Unit = refl

-- the kind of attributes with a name
abbrev found_attribute_by : List ℕ → Option KitAttrKind
found_attribute_by = first_named (λ k. (attr_names k).1) (
    attrs.Integer ∷ attrs.Identifier ∷ attrs.«Type» ∷ attrs.SegmentSizes ∷ attrs.GivenNames ∷ attrs.Note ∷ attrs.Origin
    ∷ [])

found_attribute : (k : KitAttrKind) → found_attribute_by (attr_names k).1 ≡ Some k
found_attribute attrs.Integer = refl
found_attribute attrs.Identifier = refl
found_attribute attrs.«Type» = refl
found_attribute attrs.SegmentSizes = refl
found_attribute attrs.GivenNames = refl
found_attribute attrs.Note = refl
found_attribute attrs.Origin = refl

-- what is found by its name is no other that has this name
one_name : {K : Type 0} (name : K → List ℕ) (find : List ℕ → Option K) → ((k : K) → find (name k) ≡ Some k) → (x y : K)
    → name x ≡ name y → x ≡ y
one_name name find found x y e = let f : Some x ≡ Some y = sym (found x) ∙ (ap find e ∙ found y) in cc

pub op_ids : (x y : KitOp) → ((op_names x ≡ op_names y) ↔ (of_kinds.eq-value.it x y ≡ true))
op_ids x y = (
  λ e. subst (λ z. of_kinds.eq-value.it x z ≡ true)
      (one_name (λ k. (row_of k).name) kind_named found x y (ap (λ names. names.1) e)) (kind_laws.laws-law.refl x),
  λ e. ap op_names (same_kind x y e),
)

pub type_ids : (x y : KitTypeKind) → ((type_names x ≡ type_names y) ↔ (of_types.eq-value.it x y ≡ true))
type_ids x y = (
  λ e. subst (λ z. of_types.eq-value.it x z ≡ true)
      (one_name type_name found_type_by found_type x y (ap (λ names. names.1) e)) (type_laws.laws-law.refl x),
  λ e. ap type_names (same_type_kind x y e),
)

pub attr_ids : (x y : KitAttrKind) → ((attr_names x ≡ attr_names y) ↔ (of_attributes.eq-value.it x y ≡ true))
attr_ids x y = (
  λ e. subst (λ z. of_attributes.eq-value.it x z ≡ true)
      (one_name (λ k. (attr_names k).1) found_attribute_by found_attribute x y (ap (λ names. names.1) e))
      (attribute_laws.laws-law.refl x),
  λ e. ap attr_names (same_attribute_kind x y e),
)
