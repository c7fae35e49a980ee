-- What attributes and types hold, and where operations keep what interfaces ask for.
use Rattle.std.proofs.Common.{◌≡◌, ℕ, true, List, [], ◌∷◌, Option, Some, None, refl, ap}
use Rattle.std.specs.Prelude.{◌↔◌, IsSome, nat_eq}
use Rattle.std.specs.Cmp.Lexicographic.{pointwise}
use Rattle.std.proofs.lemmas.Bool.{false≢true, and_parts, eqb-true}
use Rattle.std.proofs.lemmas.Slice.Eq.{bytes_eq-Decides}
use Rattle.ir_base.specs.declared.types.TypeHandle.{TypeHandle}
use Rattle.ir_names.specs.Identifier.{text_of}
use Rattle.ir_names.specs.declared.interfaces.TypeInterface.TheVariants.{FunctionType}
use Rattle.builtin_tables.specs.declared.dialect.SuccessorLayout.{SuccessorLayout}
use Rattle.builtin_tables.specs.declared.dialect.SuccessorLayout.TheVariants.{Trailing, Segments}
use Rattle.kit_ops.specs.Kinds.{type_kind, type_implements}
use Rattle.kit_ops.specs.declared.attributes.KitAttr.{KitAttr}
use Rattle.kit_ops.specs.declared.attributes.KitAttr.TheVariants as attrs
use Rattle.kit_ops.specs.declared.kinds.KitOp.{KitOp}
use Rattle.kit_ops.specs.declared.kinds.KitOp.TheVariants as ops
use Rattle.kit_ops.specs.declared.types.KitType.{KitType}
use Rattle.kit_ops.specs.declared.types.KitType.TheVariants as types
use Rattle.kit_ops.specs.contracts.attributes.KitAttrPartialEq.TheImpl as of_attributes
use Rattle.kit.specs.Same.{same_handle}

-- the text of the identifier that an attribute holds
abbrev pub held_identifier : KitAttr → Option (List ℕ)
held_identifier (attrs.Identifier name) = Some (text_of name)
held_identifier a = None

-- the type that an attribute holds
abbrev pub held_type : KitAttr → Option TypeHandle
held_type (attrs.«Type» ty) = Some ty
held_type a = None

-- the sizes of segments that an attribute holds
abbrev pub held_sizes : KitAttr → Option (List ℕ)
held_sizes (attrs.SegmentSizes sizes) = Some sizes.items
held_sizes a = None

-- the types of what a function takes and of what it gives back
abbrev pub signature : KitType → Option (List TypeHandle × List TypeHandle)
signature (types.Function f) = Some (f.inputs.items, f.results.items)
signature t = None

-- the operands of a conditional branch are its condition and what goes along each of its two edges
abbrev pub segment_count : KitOp → ℕ
segment_count ops.CondBr = 3
segment_count kind = 0

-- a conditional branch forwards a segment along each edge, behind its condition; a branch all that it has
abbrev pub layout : KitOp → SuccessorLayout
layout ops.CondBr = Segments 1
layout kind = Trailing 0

-- what compares equal holds the same
pub same_identifier : (x y : KitAttr) → of_attributes.eq-value.it x y ≡ true → held_identifier x ≡ held_identifier y
same_identifier (attrs.Integer a) (attrs.Integer b) e = refl
same_identifier (attrs.Identifier a) (attrs.Identifier b) e =
    ap Some ((bytes_eq-Decides (text_of a) (text_of b)).0 e)
same_identifier (attrs.«Type» a) (attrs.«Type» b) e = refl
same_identifier (attrs.SegmentSizes a) (attrs.SegmentSizes b) e = refl
same_identifier (attrs.GivenNames a) (attrs.GivenNames b) e = refl
same_identifier (attrs.Note a) (attrs.Note b) e = refl
same_identifier (attrs.Origin a) (attrs.Origin b) e = refl
same_identifier x y e = absurd (false≢true e)

pub same_type : (x y : KitAttr) → of_attributes.eq-value.it x y ≡ true → held_type x ≡ held_type y
same_type (attrs.Integer a) (attrs.Integer b) e = refl
same_type (attrs.Identifier a) (attrs.Identifier b) e = refl
same_type (attrs.«Type» a) (attrs.«Type» b) e = ap Some (same_handle a b e)
same_type (attrs.SegmentSizes a) (attrs.SegmentSizes b) e = refl
same_type (attrs.GivenNames a) (attrs.GivenNames b) e = refl
same_type (attrs.Note a) (attrs.Note b) e = refl
same_type (attrs.Origin a) (attrs.Origin b) e = refl
same_type x y e = absurd (false≢true e)

same_numbers : (xs ys : List ℕ) → pointwise nat_eq xs ys ≡ true → xs ≡ ys
same_numbers [] [] e = refl
same_numbers [] (y ∷ ys) e = absurd (false≢true e)
same_numbers (x ∷ xs) [] e = absurd (false≢true e)
same_numbers (x ∷ xs) (y ∷ ys) e =
    let both = and_parts (nat_eq x y) (pointwise nat_eq xs ys) e in
    let first = eqb-true x y both.0 in
    let rest = same_numbers xs ys both.1 in
    λ i. first i ∷ rest i

pub same_sizes : (x y : KitAttr) → of_attributes.eq-value.it x y ≡ true → held_sizes x ≡ held_sizes y
same_sizes (attrs.Integer a) (attrs.Integer b) e = refl
same_sizes (attrs.Identifier a) (attrs.Identifier b) e = refl
same_sizes (attrs.«Type» a) (attrs.«Type» b) e = refl
same_sizes (attrs.SegmentSizes a) (attrs.SegmentSizes b) e = ap Some (same_numbers a.items b.items e)
same_sizes (attrs.GivenNames a) (attrs.GivenNames b) e = refl
same_sizes (attrs.Note a) (attrs.Note b) e = refl
same_sizes (attrs.Origin a) (attrs.Origin b) e = refl
same_sizes x y e = absurd (false≢true e)

-- exactly types of functions have a signature
pub function_types : (key : KitType) → IsSome (signature key) ↔ (type_implements (type_kind key) FunctionType ≡ true)
function_types (types.Integer t) = (λ e. e, λ e. e)
function_types (types.Function t) = (λ _. refl, λ _. refl)
function_types types.Unit = (λ e. e, λ e. e)
