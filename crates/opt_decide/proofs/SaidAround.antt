-- What is known of values by their definers alone is what a program says of it.
use Rattle.std.proofs.Common.{◌≡◌, ℕ, suc, List, [], ◌∷◌, map, Option, Some, None, IsSome, option_map, unwrap_or, slice_get, refl, sym, ap, ◌∙◌, arith}
use Rattle.std.proofs.lemmas.Option.{slice_get-map}
use Rattle.ir_base.specs.declared.types.TypeHandle.{TypeHandle}
use Rattle.ir_program.specs.Definers.{StandsAtDefiner, values_at}
use Rattle.ir_program.specs.Program.{Program, TypedValue, OperationView, BlockView, operation_at, block_at, value_in, type_in, type_at, IsLiveValue}
use Rattle.ir_program.specs.Rows.{operands_at}
use Rattle.ir_program.specs.declared.handles.DefiningEntity.{DefiningEntity}
use Rattle.ir_program.specs.declared.handles.DefiningEntity.TheVariants.{Op as ByOp, Block as ByBlock}
use Rattle.ir_program.specs.declared.handles.Ptr.{Ptr}
use Rattle.ir_program.specs.declared.handles.Operation.{Operation}
use Rattle.ir_program.specs.declared.handles.BasicBlock.{BasicBlock}
use Rattle.ir_program.specs.declared.handles.Value.{Value}
use Rattle.ir_trees.specs.Stands.{by_handle, in_program}
use Rattle.opt_trees.specs.Dce.{TreeSurroundings}
use Rattle.opt_trees.specs.Dialect.{Dialect}
use Rattle.opt_inside.specs.Around.{CanTellTaken, SaysAround, folded_alone}
use Rattle.opt_decide.specs.Planned.{folded_if, known_by, known_alone}
use Rattle.opt_decide.proofs.Folded.{something, there_with}
use Rattle.opt_decide.proofs.Found.{NotAmong, found_first}

-- what holds of the values of every program
pub record HasValues {O B : Type 0} (c : Program O B) : Type 0 where
  pub definer : (e : DefiningEntity) (k : ℕ) (v : Value) → value_in (values_at c e) k ≡ Some v → v.definer ≡ e
  pub typed : (e : DefiningEntity) (k : ℕ) (v : Value) → value_in (values_at c e) k ≡ Some v → type_at c v ≡ type_in (values_at c e) k
  pub stands : (v : Value) (ty : TypeHandle) → type_at c v ≡ Some ty → StandsAtDefiner c v ty
  pub live : (p : Ptr Operation) (k : ℕ) (v : Value) → slice_get (operands_at c p) k ≡ Some v → IsLiveValue c v

has_type : (ts : List TypedValue) (k : ℕ) (v : Value) → value_in ts k ≡ Some v → (ty : TypeHandle) × (type_in ts k ≡ Some ty)
has_type ts k v h = by_item (slice_get ts k) refl h where
  by_item : (o : Option TypedValue) → slice_get ts k ≡ o → option_map (λ (t : TypedValue). t.value) o ≡ Some v → (ty : TypeHandle) × (type_in ts k ≡ Some ty)
  by_item None at e = cc
  by_item (Some t) at e = (t.ty, ap (option_map (λ (x : TypedValue). x.ty)) at)

block_with : {B : Type 0} (o : Option (BlockView B)) (i : ℕ) (x : TypedValue) → slice_get (unwrap_or (option_map (λ (u : BlockView B). u.arguments) o) []) i ≡ Some x → IsSome o
block_with None i x h = cc
block_with (Some u) i x h = refl

module _ {O B A : Type 0} (d : Dialect (in_program O B) A) (c : Program O B) (values : HasValues c) where
  -- a value is at one index of its definer
  one_index : (e : DefiningEntity) (j k : ℕ) (v : Value) → value_in (values_at c e) j ≡ Some v → value_in (values_at c e) k ≡ Some v → j ≡ k
  one_index e j k v at other =
      let ty = has_type (values_at c e) j v at in
      let s = values.stands v ty.0 (values.typed e j v at ∙ ty.1) in
      let same : v.definer ≡ e = values.definer e j v at in
      s.once j (ap (λ z. value_in (values_at c z) j) same ∙ at) ∙ sym (s.once k (ap (λ z. value_in (values_at c z) k) same ∙ other))

  known_result : (p : Ptr Operation) (o : OperationView O) (i : ℕ) (v : Value) → operation_at c p ≡ Some o → value_in o.results i ≡ Some v → known_alone d c v ≡ folded_alone d o i
  known_result p o i v there at =
      let results : values_at c (ByOp p) ≡ o.results = ap (λ x. unwrap_or (option_map (λ (u : OperationView O). u.results) x) []) there in
      let from : (k : ℕ) → value_in o.results k ≡ Some v → value_in (values_at c (ByOp p)) k ≡ Some v = (λ k h. ap (λ ts. value_in ts k) results ∙ h) in
      let none : NotAmong o.results v i = (λ k less h. let e = one_index (ByOp p) k i v (from k h) (from i at) in omega (arith, less, e)) in
      ap (λ e. known_by d c e v) (values.definer (ByOp p) i v (from i at))
      ∙ ap (λ x. folded_if d x v) there
      ∙ found_first o.results (folded_alone d o) v i at none

  known_argument : (b : Ptr BasicBlock) (x : BlockView B) (i : ℕ) (v : Value) → block_at c b ≡ Some x → value_in x.arguments i ≡ Some v → known_alone d c v ≡ None
  known_argument b x i v there at =
      let arguments : values_at c (ByBlock b) ≡ x.arguments = ap (λ o. unwrap_or (option_map (λ (u : BlockView B). u.arguments) o) []) there in
      ap (λ e. known_by d c e v) (values.definer (ByBlock b) i v (ap (λ ts. value_in ts i) arguments ∙ at))

  module _ (op : Ptr Operation) where
    abbrev pub around_root : CanTellTaken c op → TreeSurroundings by_handle A
    around_root told = record { alone = known_alone d c; is_pinned = told.0 }

    pub says_known : (told : CanTellTaken c op) → SaysAround d c op (around_root told)
    says_known told = record {
      pinned = told.1;
      result = λ p o i v there at. known_result p o i v there (sym (slice_get-map (λ (t : TypedValue). t.value) o.results i) ∙ at);
      argument = λ b x v there l. known_argument b x l.0 v there (sym (slice_get-map (λ (t : TypedValue). t.value) x.arguments l.0) ∙ l.1);
    }

    -- whatever says so knows the same of what is there
    module _ (w : TreeSurroundings by_handle A) (says : SaysAround d c op w) where
      alike_by : (v : Value) (ty : TypeHandle) (i : ℕ) (e : DefiningEntity) → slice_get (values_at c e) i ≡ Some (record { value = v; ty = ty }) → w.alone v ≡ known_alone d c v
      alike_by v ty i (ByOp p) at =
          let o = something (operation_at c p) (there_with (operation_at c p) i (record { value = v; ty = ty }) at) in
          let results : values_at c (ByOp p) ≡ o.0.results = ap (λ x. unwrap_or (option_map (λ (u : OperationView O). u.results) x) []) o.1 in
          let here : value_in o.0.results i ≡ Some v = ap (option_map (λ (t : TypedValue). t.value)) (ap (λ ts. slice_get ts i) (sym results) ∙ at) in
          says.result p o.0 i v o.1 (slice_get-map (λ (t : TypedValue). t.value) o.0.results i ∙ here) ∙ sym (known_result p o.0 i v o.1 here)
      alike_by v ty i (ByBlock b) at =
          let x = something (block_at c b) (block_with (block_at c b) i (record { value = v; ty = ty }) at) in
          let arguments : values_at c (ByBlock b) ≡ x.0.arguments = ap (λ o. unwrap_or (option_map (λ (u : BlockView B). u.arguments) o) []) x.1 in
          let here : value_in x.0.arguments i ≡ Some v = ap (option_map (λ (t : TypedValue). t.value)) (ap (λ ts. slice_get ts i) (sym arguments) ∙ at) in
          says.argument b x.0 v x.1 (i, slice_get-map (λ (t : TypedValue). t.value) x.0.arguments i ∙ here) ∙ sym (known_argument b x.0 i v x.1 here)

      alike : (v : Value) → IsLiveValue c v → w.alone v ≡ known_alone d c v
      alike v live =
          let ty = something (type_at c v) live in
          let s = values.stands v ty.0 ty.1 in
          alike_by v ty.0 s.index v.definer s.stands

      -- of all operands of an operation
      pub alike_operands : (p : Ptr Operation) (o : OperationView O) → operation_at c p ≡ Some o → map w.alone o.operands ≡ map (known_alone d c) o.operands
      alike_operands p o there = all o.operands (λ k v h. alike v (values.live p k v (ap (λ x. slice_get (unwrap_or (option_map (λ (u : OperationView O). u.operands) x) []) k) there ∙ h)))
        where
          all : (vs : List Value) → ((k : ℕ) (v : Value) → slice_get vs k ≡ Some v → w.alone v ≡ known_alone d c v) → map w.alone vs ≡ map (known_alone d c) vs
          all [] same = refl
          all (v ∷ vs) same = let e = same 0 v refl in let r = all vs (λ k u h. same (suc k) u h) in λ i. e i ∷ r i
