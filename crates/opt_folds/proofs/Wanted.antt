-- What the one result of an operation folds to.
use Rattle.std.proofs.Common.{◌≡◌, ℕ, Bool, true, false, List, [], ◌∷◌, map, length, Option, Some, None, IsSome, is_some, option_map, slice_get, refl, sym, ap, ◌∙◌, subst, arith}
use Rattle.std.proofs.lemmas.Option.{same_Some}
use Rattle.std.specs.Prelude.{MatchOption}
use Rattle.ir_base.specs.declared.types.TypeHandle.{TypeHandle}
use Rattle.ir_context.specs.Known.{HasKnownTypes, IsKnownIn}
use Rattle.ir_program.specs.Definers.{values_at}
use Rattle.ir_program.specs.Lent.{payload_at}
use Rattle.ir_program.specs.Program.{Program, TypedValue, OperationView, operation_at, results_at, type_at, type_in, value_in}
use Rattle.ir_program.specs.Uses.{IsUsed}
use Rattle.ir_program.specs.declared.handles.DefiningEntity.{DefiningEntity}
use Rattle.ir_program.specs.declared.handles.DefiningEntity.TheVariants.{Op as ByOp}
use Rattle.ir_program.specs.declared.handles.Operation.{Operation}
use Rattle.ir_program.specs.declared.handles.Ptr.{Ptr}
use Rattle.ir_program.specs.declared.handles.Value.{Value}
use Rattle.ir_trees.specs.Stands.{in_program}
use Rattle.opt_trees.specs.Dialect.{Dialect, Lawful}
use Rattle.opt_folds.specs.Results.{IsWanted}
use Rattle.opt_folds.proofs.Constants.{one_result}

not_some : {X : Type 0} (o : Option X) → is_some o ≡ false → IsSome o → ⊥
not_some None e h = cc
not_some (Some x) e h = cc

one_item : {X : Type 0} (xs : List X) (x : X) → length xs ≡ 1 → slice_get xs 0 ≡ Some x → xs ≡ x ∷ []
one_item [] x e h = absurd (omega arith)
one_item (y ∷ []) x e h = let s : Some y ≡ Some x = h in let same : y ≡ x = cc in ap (λ z. z ∷ []) same
one_item (y ∷ (z ∷ zs)) x e h = absurd (omega arith)

pub payload_there : {O B : Type 0} (c : Program O B) (op : Ptr Operation) → IsSome (operation_at c op) → (payload : O) × (payload_at c op ≡ Some payload)
payload_there {O} {B} c op live = by_view (operation_at c op) refl live where
  by_view : (o : Option (OperationView O)) → operation_at c op ≡ o → IsSome o → (payload : O) × (payload_at c op ≡ Some payload)
  by_view None e h = cc
  by_view (Some v) e h = (v.payload, ap (option_map (λ (x : OperationView O). x.payload)) e)

abbrev pub types_of : List TypedValue → List TypeHandle
types_of ts = map (λ (t : TypedValue). t.ty) ts

module _ {O B A : Type 0} (d : Dialect (in_program O B) A) (c : Program O B) (known : List (Option A)) (op : Ptr Operation) where
  abbrev pub NoneWanted : Type 0
  NoneWanted = (a : A) → IsWanted d c known op a → ⊥

  -- a result without a use
  pub unused : (value : Value) → value_in (results_at c op) 0 ≡ Some value → (IsUsed c value → ⊥) → NoneWanted
  unused value at none a w =
      let same : w.value ≡ value = same_Some w.value value (sym (ap (λ ts. value_in ts 0) w.result) ∙ at) in
      none (subst (IsUsed c) same w.used)

  module _ (fs : List (Option A)) (is : (payload : O) → payload_at c op ≡ Some payload → fs ≡ d.fold payload (types_of (results_at c op)) known) where
    folds_to : (a : A) → IsWanted d c known op a → fs ≡ Some a ∷ []
    folds_to a w = is w.payload w.there ∙ ap (λ ts. d.fold w.payload (types_of ts) known) w.result ∙ w.folds

    pub not_folded : slice_get fs 0 ≡ Some None → NoneWanted
    not_folded none a w = let e : Some (Some a) ≡ Some None = sym (ap (λ l. slice_get l 0) (folds_to a w)) ∙ none in cc

    pub not_made : (b : A) → slice_get fs 0 ≡ Some (Some b) → is_some (d.constant b) ≡ false → NoneWanted
    not_made b at none a w =
        let e : Some (Some a) ≡ Some (Some b) = sym (ap (λ l. slice_get l 0) (folds_to a w)) ∙ at in
        let same : a ≡ b = cc in
        not_some (d.constant b) none (subst (λ z. IsSome (d.constant z)) same w.made_by)

    -- one answer for the one result
    pub fold_count : Lawful d → IsSome (operation_at c op) → length (results_at c op) ≡ 1 → length fs ≡ 1
    fold_count law live one =
        let p = payload_there c op live in
        let r = one_result (results_at c op) one in
        ap length (is p.0 p.1) ∙ law.fold_count p.0 (types_of (results_at c op)) known ∙ ap (λ ts. length (types_of ts)) r.1

    pub is_wanted : Lawful d → IsSome (operation_at c op) → length (results_at c op) ≡ 1
        → (value : Value) → value_in (results_at c op) 0 ≡ Some value → IsUsed c value
        → (b : A) → slice_get fs 0 ≡ Some (Some b) → IsSome (d.constant b) → IsWanted d c known op b
    is_wanted law live one value at used b folds made_by =
        let p = payload_there c op live in
        let r = one_result (results_at c op) one in
        let same : r.0.value ≡ value = same_Some r.0.value value (sym (ap (λ ts. value_in ts 0) r.1) ∙ at) in
        record {
          payload = p.0;
          there = p.1;
          value = r.0.value;
          ty = r.0.ty;
          result = r.1;
          used = subst (IsUsed c) (sym same) used;
          folds = sym (ap (λ ts. d.fold p.0 (types_of ts) known) r.1) ∙ sym (is p.0 p.1) ∙ one_item fs (Some b) (fold_count law live one) folds;
          made_by = made_by;
        }

  -- the type of the constant is that of the result, and the context's
  pub known_type : Lawful d → (a : A) → IsWanted d c known op a → (n : ℕ) → HasKnownTypes n c
      → ((e : DefiningEntity) (k : ℕ) (v : Value) → value_in (values_at c e) k ≡ Some v → type_at c v ≡ type_in (values_at c e) k)
      → IsKnownIn n (d.constant_type a)
  known_type law a w n types typed =
      let one : slice_get (w.ty ∷ []) 0 ≡ Some (d.constant_type a) = law.fold_types w.payload (w.ty ∷ []) known 0 a (ap (λ l. slice_get l 0) w.folds) in
      let same : w.ty ≡ d.constant_type a = same_Some w.ty (d.constant_type a) one in
      let at : value_in (values_at c (ByOp op)) 0 ≡ Some w.value = ap (λ ts. value_in ts 0) w.result in
      let is : type_at c w.value ≡ Some w.ty = typed (ByOp op) 0 w.value at ∙ ap (λ ts. type_in ts 0) w.result in
      subst (IsKnownIn n) same (types w.value w.ty is)

  -- what was found, by the answer
  pub found : (o : Option A) → MatchOption o NoneWanted (IsWanted d c known op) → (a : A) → o ≡ Some a → IsWanted d c known op a
  found o m a e = subst (λ x. MatchOption x NoneWanted (IsWanted d c known op)) e m

  pub none_found : (o : Option A) → MatchOption o NoneWanted (IsWanted d c known op) → o ≡ None → NoneWanted
  none_found o m e = subst (λ x. MatchOption x NoneWanted (IsWanted d c known op)) e m
