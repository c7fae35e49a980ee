-- The types of values stay known.
use Rattle.std.proofs.Common.{true≢false, ⊎_elim, subst, Result, Ok, Err, IfOk, OnErr, IfSome, IfNone, ◌≢◌, ◌≡◌, [], Option, None, Some, IsTrue, MatchOption, ◌↔◌, ℕ, is_some, option_map, unwrap_or, slice_get, sym, ap, ◌∙◌, refl}
use Rattle.ir_base.specs.declared.types.TypeHandle.{TypeHandle}
use Rattle.ir_program.specs.Program.{Program, OperationView, BlockView, operation_at, block_at, type_at}
use Rattle.ir_program.specs.Edits.{KeepsValues}
use Rattle.ir_program.specs.Definers.{StandsAtDefiner, DefinesValue, ForgetsValue, values_at}
use Rattle.ir_program.specs.declared.handles.DefiningEntity.{DefiningEntity}
use Rattle.ir_program.specs.declared.handles.DefiningEntity.TheVariants.{Op, Block}
use Rattle.ir_program.specs.declared.handles.Ptr.{Ptr}
use Rattle.ir_program.specs.declared.handles.Operation.{Operation}
use Rattle.ir_program.specs.declared.handles.BasicBlock.{BasicBlock}
use Rattle.ir_program.specs.declared.handles.Value.{Value}
use Rattle.ir_program.proofs.defined.Arrivals.{same_value}
use Rattle.ir_context.specs.Known.{IsKnownIn}

-- where each value keeps its type
pub kept_types : {O B : Type 0} (count : ℕ) (old new : Program O B)
    → ((v : Value) (ty : TypeHandle) → type_at old v ≡ Some ty → IsKnownIn count ty)
    → ((v : Value) → type_at new v ≡ type_at old v)
    → (v : Value) (ty : TypeHandle) → type_at new v ≡ Some ty → IsKnownIn count ty
kept_types count old new known same v ty e = known v ty (sym (same v) ∙ e)

pub kept_known : {O B : Type 0} (count : ℕ) (old new : Program O B)
    → ((v : Value) (ty : TypeHandle) → type_at old v ≡ Some ty → IsKnownIn count ty)
    → KeepsValues old new
    → (v : Value) (ty : TypeHandle) → type_at new v ≡ Some ty → IsKnownIn count ty
kept_known count old new known keeps = kept_types count old new known keeps.types

module _ {O B : Type 0} (c : Program O B) (operations : (p : Ptr Operation) → operation_at c p ≡ None) (blocks : (p : Ptr BasicBlock) → block_at c p ≡ None) where
  no_values : (e : DefiningEntity) → values_at c e ≡ []
  no_values (Op p) = ap (λ o. unwrap_or (option_map (λ (r : OperationView O). r.results) o) []) (operations p)
  no_values (Block p) = ap (λ b. unwrap_or (option_map (λ (r : BlockView B). r.arguments) b) []) (blocks p)

  no_value : (v : Value) (ty : TypeHandle) → StandsAtDefiner c v ty → ⊥
  no_value v ty h = let e : slice_get (values_at c v.definer) h.index ≡ None = ap (λ ts. slice_get ts h.index) (no_values v.definer) in
      let s : slice_get (values_at c v.definer) h.index ≡ Some (record { value = v; ty = ty }) = h.stands in
      cc

-- where nothing could define a value
pub none_known : {O B : Type 0} (count : ℕ) (c : Program O B)
    → ((p : Ptr Operation) → operation_at c p ≡ None) → ((p : Ptr BasicBlock) → block_at c p ≡ None)
    → ((v : Value) (ty : TypeHandle) → type_at c v ≡ Some ty → StandsAtDefiner c v ty)
    → (v : Value) (ty : TypeHandle) → type_at c v ≡ Some ty → IsKnownIn count ty
none_known count c operations blocks stands v ty e = absurd (no_value c operations blocks v ty (stands v ty e))

-- an entity is in a list exactly where its container is found
pub linked_where : {X : Type 0} (P : X → Type 0) (r : Option X) → MatchOption r ((x : X) → P x → ⊥) P → (IsTrue (is_some r) ↔ ((x : X) × P x))
linked_where P None h = (λ t. absurd (true≢false (sym t)), λ l. absurd (h l.0 l.1))
linked_where P (Some x) h = (λ t. (x, h), λ l. refl)

module _ {O B : Type 0} (count : ℕ) (old new : Program O B) (known : (v : Value) (ty : TypeHandle) → type_at old v ≡ Some ty → IsKnownIn count ty) where
  -- where a value of a known type has come
  defined_known : (v : Value) (ty : TypeHandle) → IsKnownIn count ty → DefinesValue old new v ty → (x : Value) (t : TypeHandle) → type_at new x ≡ Some t → IsKnownIn count t
  defined_known v ty here defines x t e = ⊎_elim
      (λ (same : x ≡ v). let is : type_at new v ≡ Some t = subst (λ y. type_at new y ≡ Some t) same e in
      let has : type_at new v ≡ Some ty = defines.defined in
      let one : ty ≡ t = cc in
      subst (IsKnownIn count) one here)
      (λ (other : x ≢ v). known x t (sym (defines.others x other) ∙ e))
      (same_value x v)

  -- where a value is gone
  pub forgotten_known : (v : Value) → ForgetsValue old new v → (x : Value) (t : TypeHandle) → type_at new x ≡ Some t → IsKnownIn count t
  forgotten_known v forgets x t e = ⊎_elim
      (λ (same : x ≡ v). let is : type_at new v ≡ Some t = subst (λ y. type_at new y ≡ Some t) same e in
      let gone : type_at new v ≡ None = forgets.gone in
      cc)
      (λ (other : x ≢ v). known x t (sym (forgets.others x other) ∙ e))
      (same_value x v)

  -- where a value of a known type has come, or nothing changed
  pub grown_known : {E : Type 0} (ty : TypeHandle) → IsKnownIn count ty → (r : Result Value E) → IfOk r (λ v. DefinesValue old new v ty) → OnErr r ((v : Value) → type_at new v ≡ type_at old v)
      → (x : Value) (t : TypeHandle) → type_at new x ≡ Some t → IsKnownIn count t
  grown_known ty here (Ok v) defines same = defined_known v ty here defines
  grown_known ty here (Err e) defines same = kept_types count old new known same

  -- where the last value, if there was one, is gone
  pub popped_known : (r : Option Value) → IfSome r (λ v. ForgetsValue old new v) → IfNone r (new ≡ old) → (x : Value) (t : TypeHandle) → type_at new x ≡ Some t → IsKnownIn count t
  popped_known (Some v) forgets same = forgotten_known v forgets
  popped_known None forgets same = kept_types count old new known (λ v. ap (λ c. type_at c v) same)
