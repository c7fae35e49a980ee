-- What the most precise facts know of a value is an integer of the value's type, where a tree keeps the rules.
use Rattle.std.proofs.Common.{◌≡◌, ℕ, ◌^◌, ◌<◌, Bool, true, false, Option, Some, None, option_and_then, refl, sym, ap, ◌∙◌, subst, arith}
use Rattle.std.specs.Prelude.{nat_eq, if◌then◌else◌}
use Rattle.std.proofs.lemmas.Bool.{eqb-true}
use Rattle.ir_base.specs.declared.types.TypeHandle.{TypeHandle}
use Rattle.ir_names.specs.declared.kinds.Signedness.TheVariants.{Signless}
use Rattle.kit.specs.Meaning.{are_numbers, with_bits, calculated, compared, bit_of, if_of_type}
use Rattle.kit_checks.specs.Words.{Every, integer_type}
use Rattle.kit_checks.specs.Words as words
use Rattle.kit_ops.specs.Arithmetic.{calc, compare}
use Rattle.kit_ops.specs.declared.attributes.IntegerAttr.{IntegerAttr}
use Rattle.kit_ops.specs.declared.arithmetic.Arithmetic.{Arithmetic}
use Rattle.kit_ops.proofs.Operators.{calc_below}
use Rattle.kit_ops.specs.declared.arithmetic.Comparison.{Comparison}
use Rattle.kit_ops.specs.declared.types.IntegerType.{IntegerType}
use Rattle.kit_ops.specs.declared.types.KitType.{KitType}
use Rattle.kit_ops.specs.declared.types.KitType.TheVariants as types
use Rattle.kit_views.specs.Reading.{integer_of}
use Rattle.opt_trees.proofs.Lists.{some_same, none_some}

-- ---- integers of a type

module _ (leads : TypeHandle → Option KitType) where
  -- it is an integer of this type
  pub record Right (ty : TypeHandle) (a : IntegerAttr) : Type 0 where
    pub type : a.ty ≡ ty
    pub integer : a.integer ≡ integer_of (leads ty)
    pub in_range : a.bits < 2 ^ a.integer.width

  -- a test tells which are
  pub record Tests (test : Option TypeHandle → IntegerAttr → Bool) : Type 0 where
    pub none : (a : IntegerAttr) → test None a ≡ true → ⊥
    pub right : (ty : TypeHandle) (a : IntegerAttr) → test (Some ty) a ≡ true → Right ty a
    pub passes : (ty : TypeHandle) (a : IntegerAttr) → Right ty a → test (Some ty) a ≡ true

  pub of_integer : (o : Option KitType) (i : IntegerType) → option_and_then words.integer_of o ≡ Some i → integer_of o ≡ i
  of_integer (Some (types.Integer j)) i e = some_same j i e
  of_integer (Some (types.Function f)) i e = absurd (none_some i e)
  of_integer (Some types.Unit) i e = absurd (none_some i e)
  of_integer None i e = absurd (none_some i e)

  -- ---- what is folded

  pub record OfType (ty : TypeHandle) (o : Option IntegerAttr) (b : IntegerAttr) : Type 0 where
    pub is : o ≡ Some b
    pub type : b.ty ≡ ty

  pub of_type : (ty : TypeHandle) (o : Option IntegerAttr) (b : IntegerAttr) → if_of_type ty o ≡ Some b → OfType ty o b
  of_type ty None b e = absurd (none_some b e)
  of_type ty (Some a) b e = step (nat_eq a.ty.number ty.number) refl e
    where
      step : (c : Bool) → nat_eq a.ty.number ty.number ≡ c → (if c then Some a else None) ≡ Some b → OfType ty (Some a) b
      step true q z =
          let same : a ≡ b = some_same a b z in
          let number : a.ty.number ≡ ty.number = eqb-true a.ty.number ty.number q in
          record { is = z; type = sym (ap (λ (x : IntegerAttr). x.ty) same) ∙ (λ i. record { number = number i }) }
      step false q z = absurd (none_some b z)

  pub calculated_right : (k : Arithmetic) (p q b : IntegerAttr) (tx ty : TypeHandle) → Right tx p → b.ty ≡ ty → calculated k p q ≡ Some b → Right ty b
  calculated_right k p q b tx ty right type e = outer (are_numbers p q) e
    where
      inner_step : (o : Option ℕ) → calc k p.integer.width p.bits q.bits ≡ o → with_bits p o ≡ Some b → Right ty b
      inner_step None c z = absurd (none_some b z)
      inner_step (Some n) c z =
          let same : record p { bits = n } ≡ b = some_same (record p { bits = n }) b z in
          let same_type : ty ≡ tx = sym type ∙ (sym (ap (λ (x : IntegerAttr). x.ty) same) ∙ right.type) in
          record {
            type = type;
            integer = sym (ap (λ (x : IntegerAttr). x.integer) same) ∙ (right.integer ∙ ap (λ z. integer_of (leads z)) (sym same_type));
            in_range = subst (λ (x : IntegerAttr). x.bits < 2 ^ x.integer.width) same (calc_below k p.integer.width p.bits q.bits n right.in_range c);
          }

      outer : (c : Bool) → (if c then with_bits p (calc k p.integer.width p.bits q.bits) else None) ≡ Some b → Right ty b
      outer true z = inner_step (calc k p.integer.width p.bits q.bits) refl z
      outer false z = absurd (none_some b z)

  pub compared_right : (k : Comparison) (p q b : IntegerAttr) (ty : TypeHandle) → option_and_then words.integer_of (leads ty) ≡ Some (record { signedness = Signless; width = 1 }) →
      compared k ty p q ≡ Some b → Right ty b
  compared_right k p q b ty bit e = outer (are_numbers p q) e
    where
      small : (c : Bool) → (if c then 1 else 0) < 2 ^ 1
      small true = omega arith
      small false = omega arith

      outer : (c : Bool) → (if c then Some (bit_of ty (compare k p.bits q.bits)) else None) ≡ Some b → Right ty b
      outer true z =
          subst (Right ty) (some_same (bit_of ty (compare k p.bits q.bits)) b z)
          (record { type = refl; integer = sym (of_integer (leads ty) (record { signedness = Signless; width = 1 }) bit); in_range = small (compare k p.bits q.bits) })
      outer false z = absurd (none_some b z)
