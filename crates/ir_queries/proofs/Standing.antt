-- Which values and uses stand.
use Rattle.std.proofs.Common.{◌≡◌, ◌≢◌, ℕ, List, true, Option, Some, None, MatchOption, is_some, option_map, slice_get, refl, sym, ap, ◌∙◌, subst}
use Rattle.ir_base.specs.declared.types.TypeHandle.{TypeHandle}
use Rattle.ir_program.specs.Program.{Program, TypedValue, type_at, value_in, type_in}
use Rattle.ir_program.specs.Definers.{values_at, StandsAtDefiner}
use Rattle.ir_program.specs.declared.handles.Value.{Value}
use Rattle.ir_program.specs.declared.handles.DefiningEntity.{DefiningEntity}

-- what has a value at an index has its type there
pub typed_too : (ts : List TypedValue) (i : ℕ) (v : Value) → value_in ts i ≡ Some v → is_some (type_in ts i) ≡ true
typed_too ts i v h = by (slice_get ts i) h
  where
    by : (o : Option TypedValue) → option_map (λ (t : TypedValue). t.value) o ≡ Some v → is_some (option_map (λ (t : TypedValue). t.ty) o) ≡ true
    by None e = cc
    by (Some t) e = refl

module _ {O B : Type 0} (c : Program O B) (v : Value)
    (typed : (e : DefiningEntity) (k : ℕ) (w : Value) → value_in (values_at c e) k ≡ Some w → type_at c w ≡ type_in (values_at c e) k)
    (stands : (w : Value) (ty : TypeHandle) → type_at c w ≡ Some ty → StandsAtDefiner c w ty) where
  -- an index is found exactly where the value stands at its definer
  pub found_live : (e : DefiningEntity) → e ≡ v.definer → (r : Option ℕ) → MatchOption r ((k : ℕ) → value_in (values_at c e) k ≢ Some v) (λ i. value_in (values_at c e) i ≡ Some v) → is_some r ≡ is_some (type_at c v)
  found_live e is (Some i) h = sym (ap is_some (typed e i v h) ∙ typed_too (values_at c e) i v h)
  found_live e is None h = by (type_at c v) refl
    where
      by : (o : Option TypeHandle) → type_at c v ≡ o → is_some {T = ℕ} None ≡ is_some (type_at c v)
      by None n = ap is_some (sym n)
      by (Some ty) n =
          let s = stands v ty n in
          absurd (h s.index (subst (λ d. value_in (values_at c d) s.index ≡ Some v) (sym is) (ap (option_map (λ (t : TypedValue). t.value)) s.stands)))
