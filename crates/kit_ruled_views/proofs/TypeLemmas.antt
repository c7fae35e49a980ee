-- What the rules say of types, in the words of views.
use Rattle.std.proofs.Common.{◌≡◌, inl, inr, ⊎_elim, ℕ, zero, suc, List, [], ◌∷◌, Option, Some, option_and_then}
use Rattle.std.proofs.Common.{unwrap_or, slice_get, refl, sym, ap}
use Rattle.ir_base.specs.declared.types.TypeHandle.{TypeHandle}
use Rattle.ir_program.specs.declared.handles.Value.{Value}
use Rattle.ir_trees.specs.Renames.{names_of}
use Rattle.ir_trees.specs.Trees.{Defined}
use Rattle.opt_trees.specs.Occurrences.{Has}
use Rattle.kit_ops.specs.declared.attributes.IntegerAttr.{IntegerAttr}
use Rattle.kit_ops.specs.declared.attributes.KitAttr.{KitAttr}
use Rattle.kit_ops.specs.declared.attributes.KitAttr.TheVariants as attrs
use Rattle.kit_ops.specs.declared.types.IntegerType.{IntegerType}
use Rattle.kit_ops.specs.declared.types.KitType.{KitType}
use Rattle.kit_ops.specs.declared.types.KitType.TheVariants as types
use Rattle.kit_checks.specs.Words as words
use Rattle.kit_checks.specs.Words.{integer_in}
use Rattle.kit_views.specs.Reading.{integer_of}
use Rattle.kit_views.specs.Typed.{number_as}
use Rattle.kit_ruled_views.specs.Ruled.{type_or_first}

-- an integer type
pub is_integer : (o : Option KitType) (t : IntegerType) → option_and_then words.integer_of o ≡ Some t
    → o ≡ Some (types.Integer t)
is_integer (Some (types.Integer x)) t h = let same : x ≡ t = cc in ap (λ y. Some (types.Integer y)) same
is_integer _ t h = cc

-- the integer that an attribute holds
pub is_number : (o : Option KitAttr) (v : IntegerAttr) → option_and_then integer_in o ≡ Some v
    → o ≡ Some (attrs.Integer v)
is_number (Some (attrs.Integer x)) v h = let same : x ≡ v = cc in ap (λ y. Some (attrs.Integer y)) same
is_number _ v h = cc

-- an integer of an integer type is a number as an attribute of this type
pub as_number : (leads : TypeHandle → Option KitType) (v : IntegerAttr)
    → option_and_then words.integer_of (leads v.ty) ≡ Some v.integer → v ≡ number_as leads v.ty v.bits
as_number leads v h =
    let e : v.integer ≡ integer_of (leads v.ty) = sym (ap integer_of (is_integer (leads v.ty) v.integer h)) in
    λ i. record { ty = v.ty; integer = e i; bits = v.bits }

-- a value that has a type
pub has_type : (typed : Value → Option TypeHandle) (v : Value) (h : TypeHandle) → typed v ≡ Some h
    → type_or_first typed v ≡ h
has_type typed v h is = ap (λ o. unwrap_or o (record { number = 0 })) is

-- the definition of a value, and its index
pub defined_as : {V T : Type 0} (ds : List (Defined V T)) (v : V) → Has v (names_of ds)
    → (d : Defined V T) × (k : ℕ) × (slice_get ds k ≡ Some d) × Has d ds × (d.name ≡ v)
defined_as [] v has = absurd has
defined_as (d ∷ ds) v has = ⊎_elim
    (λ e. (d, zero, refl, inl refl, sym e))
    (λ rest. let m = defined_as ds v rest in (m.0, suc m.1, m.2, inr m.3, m.4))
    has
