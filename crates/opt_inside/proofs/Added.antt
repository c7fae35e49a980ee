-- Lists that get values, and the values of definers.
use Rattle.std.proofs.Common.{◌≡◌, ℕ, ◌+◌, List, [], ◌∷◌, ◌++◌, take, Option, Some, None, option_map, slice_get, refl, sym, ap, ◌∙◌, append_assoc}
use Rattle.std.proofs.lemmas.Option.{slice_get-map}
use Rattle.ir_base.specs.declared.types.TypeHandle.{TypeHandle}
use Rattle.ir_program.specs.Definers.{StandsAtDefiner, values_at}
use Rattle.ir_program.specs.Program.{Program, TypedValue, type_at, value_in, type_in}
use Rattle.ir_program.specs.declared.handles.DefiningEntity.{DefiningEntity}
use Rattle.ir_program.specs.declared.handles.Value.{Value}
use Rattle.ir_program.proofs.made.AddSteps.{take-next}
use Rattle.ir_trees.specs.Searched.{AreDistinct}
use Rattle.ir_trees.proofs.Members.{Once, has_at, once_of}
use Rattle.opt_trees.specs.Occurrences.{Has}
use Rattle.opt_inside.specs.Numbered.{values_in}

module _ {X : Type 0} where
  pub next_added : (others all after xs : List X) (k : ℕ) (x : X) → all ≡ others ++ take k xs → slice_get xs k ≡ Some x → after ≡ all ++ x ∷ [] → after ≡ others ++ take (k + 1) xs
  next_added others all after xs k x is at e = e ∙ ap (λ l. l ++ x ∷ []) is ∙ append_assoc others (take k xs) (x ∷ []) ∙ ap (λ l. others ++ l) (take-next xs k x at)

-- what holds of the values of every program
pub record HasValues {O B : Type 0} (c : Program O B) : Type 0 where
  pub definer : (e : DefiningEntity) (k : ℕ) (v : Value) → value_in (values_at c e) k ≡ Some v → v.definer ≡ e
  pub typed : (e : DefiningEntity) (k : ℕ) (v : Value) → value_in (values_at c e) k ≡ Some v → type_at c v ≡ type_in (values_at c e) k
  pub stands : (v : Value) (ty : TypeHandle) → type_at c v ≡ Some ty → StandsAtDefiner c v ty

pub value_at : (ts : List TypedValue) (k : ℕ) (v : Value) → value_in ts k ≡ Some v → slice_get (values_in ts) k ≡ Some v
value_at ts k v h = slice_get-map (λ (t : TypedValue). t.value) ts k ∙ h

pub at_value : (ts : List TypedValue) (k : ℕ) (v : Value) → slice_get (values_in ts) k ≡ Some v → value_in ts k ≡ Some v
at_value ts k v h = sym (slice_get-map (λ (t : TypedValue). t.value) ts k) ∙ h

type_there : (ts : List TypedValue) (k : ℕ) (v : Value) → value_in ts k ≡ Some v → (ty : TypeHandle) × (type_in ts k ≡ Some ty)
type_there ts k v h = of (slice_get ts k) h
  where
    of : (o : Option TypedValue) → option_map (λ (t : TypedValue). t.value) o ≡ Some v → (ty : TypeHandle) × (option_map (λ (t : TypedValue). t.ty) o ≡ Some ty)
    of (Some t) e = (t.ty, refl)
    of None e = absurd (cc)

module _ {O B : Type 0} (c : Program O B) (values : HasValues c) where
  -- the values of one definer are distinct
  pub values_distinct : (e : DefiningEntity) → AreDistinct (values_in (values_at c e))
  values_distinct e j k v at_j at_k =
      let a = at_value (values_at c e) j v at_j in
      let b = at_value (values_at c e) k v at_k in
      let ty = type_there (values_at c e) j v a in
      let s = values.stands v ty.0 (values.typed e j v a ∙ ty.1) in
      let d = values.definer e j v a in
      s.once j (ap (λ x. value_in (values_at c x) j) d ∙ a) ∙ sym (s.once k (ap (λ x. value_in (values_at c x) k) d ∙ b))

  -- a value of a definer tells of which
  pub definer_of : (e : DefiningEntity) (v : Value) → Has v (values_in (values_at c e)) → v.definer ≡ e
  definer_of e v has = let k = has_at (values_in (values_at c e)) v has in values.definer e k.0 v (at_value (values_at c e) k.0 v k.1)

  pub values_apart : (e : DefiningEntity) → Once (values_in (values_at c e))
  values_apart e = once_of (values_in (values_at c e)) (values_distinct e)
