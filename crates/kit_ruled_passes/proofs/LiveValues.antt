-- The values of the tree of an operation are defined by what is there.
use Rattle.std.proofs.Common.{◌≡◌, ◌∙◌, ◌⊎◌, inl, inr, ⊎_elim, ℕ, suc, List, [], ◌∷◌, ◌++◌, map, Option, Some, None, option_map, unwrap_or, refl, ap, sym, subst, slice_get}
use Rattle.std.specs.Prelude.{IsSome}
use Rattle.std.proofs.lemmas.Bool.{false≢true}
use Rattle.std.proofs.lemmas.Option.{none-some}
use Rattle.ir_base.specs.declared.types.TypeHandle.{TypeHandle}
use Rattle.ir_program.specs.Definers.{values_at, StandsAtDefiner}
use Rattle.ir_program.specs.Program.{OperationView, BlockView, TypedValue, operation_at, block_at, value_in, type_at, IsLiveValue}
use Rattle.ir_program.specs.Uses.{IsUsed}
use Rattle.ir_program.specs.declared.handles.DefiningEntity.{DefiningEntity}
use Rattle.ir_program.specs.declared.handles.DefiningEntity.TheVariants.{Op as ByOp, Block as ByBlock}
use Rattle.ir_program.specs.declared.handles.BasicBlock.{BasicBlock}
use Rattle.ir_program.specs.declared.handles.Operation.{Operation}
use Rattle.ir_program.specs.declared.handles.Ptr.{Ptr}
use Rattle.ir_program.specs.declared.handles.Value.{Value}
use Rattle.ir_trees.specs.Renames.{names_of, values_at as head_values, values_in, values_of}
use Rattle.ir_trees.specs.Searched.{heads_in, heads_of}
use Rattle.ir_trees.specs.Stands.{by_handle, in_program, head_of, defined_by, Handles, ProgramHead, AreTree, no_operations, no_blocks, no_regions, first_operation, first_block, first_region, StandsFor}
use Rattle.ir_trees.specs.Trees.{Sort, Tree}
use Rattle.kit.specs.Context.{KitProgram, KitTree}
use Rattle.opt_trees.specs.Occurrences.{Has}
use Rattle.kit.specs.Meaning.{KitOperation, KitBlock}

-- what the core knows of values
pub record KnowsValues (c : KitProgram) : Type 0 where
  pub definer : (e : DefiningEntity) (k : ℕ) (v : Value) → value_in (values_at c e) k ≡ Some v → v.definer ≡ e
  pub stands : (v : Value) (ty : TypeHandle) → type_at c v ≡ Some ty → StandsAtDefiner c v ty
  pub used : (v : Value) → IsUsed c v → IsLiveValue c v

-- no operation that isn't there defines the value
abbrev pub IsOfNoneGone : KitProgram → Value → Type 0
IsOfNoneGone c v = (p : Ptr Operation) → v.definer ≡ ByOp p → operation_at c p ≡ None → ⊥

pub has_parts : {X : Type 0} (x : X) (xs ys : List X) → Has x (xs ++ ys) → Has x xs ⊎ Has x ys
has_parts x [] ys h = inr h
has_parts x (z ∷ xs) ys (inl e) = inl (inl e)
has_parts x (z ∷ xs) ys (inr h) = ⊎_elim (λ a. inl (inr a)) (λ b. inr b) (has_parts x xs ys h)

pub has_left : {X : Type 0} (x : X) (xs ys : List X) → Has x xs → Has x (xs ++ ys)
has_left x [] ys h = absurd h
has_left x (z ∷ xs) ys (inl e) = inl e
has_left x (z ∷ xs) ys (inr h) = inr (has_left x xs ys h)

pub has_right : {X : Type 0} (x : X) (xs ys : List X) → Has x ys → Has x (xs ++ ys)
has_right x [] ys h = h
has_right x (z ∷ xs) ys h = inr (has_right x xs ys h)

-- a value of a list has a place in it
place_of : (v : Value) (vs : List TypedValue) → Has v (names_of (map defined_by vs)) → (k : ℕ) × (value_in vs k ≡ Some v)
place_of v [] h = absurd h
place_of v (w ∷ ws) (inl e) = (0, ap Some (sym e))
place_of v (w ∷ ws) (inr h) = let later = place_of v ws h in (suc later.0, later.1)

index_of : (v : Value) (vs : List Value) → Has v vs → (k : ℕ) × (slice_get vs k ≡ Some v)
index_of v [] h = absurd h
index_of v (w ∷ ws) (inl e) = (0, ap Some (sym e))
index_of v (w ∷ ws) (inr h) = let later = index_of v ws h in (suc later.0, later.1)

is_some : {X : Type 0} (o : Option X) → IsSome o → (x : X) × (o ≡ Some x)
is_some (Some x) h = (x, refl)
is_some None h = absurd (false≢true h)

module _ (c : KitProgram) (knows : KnowsValues c) where
  -- a value that stands somewhere
  live_value : (v : Value) → IsLiveValue c v → IsOfNoneGone c v
  live_value v live p e gone =
      let ty = is_some (type_at c v) live in
      let at = knows.stands v ty.0 ty.1 in
      let none : values_at c (ByOp p) ≡ [] = ap (λ o. unwrap_or (option_map (λ (x : OperationView KitOperation). x.results) o) []) gone in
      let here : slice_get (values_at c (ByOp p)) at.index ≡ Some (record { value = v; ty = ty.0 }) =
      subst (λ d. slice_get (values_at c d) at.index ≡ Some (record { value = v; ty = ty.0 })) e at.stands in
      none-some (record { value = v; ty = ty.0 }) (sym (ap (λ vs. slice_get vs at.index) none) ∙ here)

  result_live : (p : Ptr Operation) (o : OperationView KitOperation) (v : Value) → operation_at c p ≡ Some o
      → Has v (names_of (map defined_by o.results)) → IsOfNoneGone c v
  result_live p o v there has q e gone =
      let at = place_of v o.results has in
      let here : value_in (values_at c (ByOp p)) at.0 ≡ Some v =
      ap (λ x. value_in (unwrap_or (option_map (λ (y : OperationView KitOperation). y.results) x) []) at.0) there ∙ at.1 in
      let same : ByOp p ≡ ByOp q = sym (knows.definer (ByOp p) at.0 v here) ∙ e in
      let one : p ≡ q = cc in
      none-some o (sym gone ∙ sym (ap (λ x. operation_at c x) one) ∙ there)

  argument_live : (b : Ptr BasicBlock) (o : BlockView KitBlock) (v : Value) → block_at c b ≡ Some o
      → Has v (names_of (map defined_by o.arguments)) → IsOfNoneGone c v
  argument_live b o v there has q e gone =
      let at = place_of v o.arguments has in
      let here : value_in (values_at c (ByBlock b)) at.0 ≡ Some v =
      ap (λ x. value_in (unwrap_or (option_map (λ (y : BlockView KitBlock). y.arguments) x) []) at.0) there ∙ at.1 in
      let same : ByBlock b ≡ ByOp q = sym (knows.definer (ByBlock b) at.0 v here) ∙ e in
      cc

  operand_live : (p : Ptr Operation) (o : OperationView KitOperation) (v : Value) → operation_at c p ≡ Some o
      → Has v o.operands → IsOfNoneGone c v
  operand_live p o v there has =
      let at = index_of v o.operands has in
      live_value v (knows.used v (p, o, there, at.0, at.1))

  head_live : (p : Ptr Operation) (o : OperationView KitOperation) (v : Value) → operation_at c p ≡ Some o
      → Has v (head_values (head_of {B = KitBlock} p o)) → IsOfNoneGone c v
  head_live p o v there has = ⊎_elim (λ r. result_live p o v there r) (λ u. operand_live p o v there u)
      (has_parts v (names_of (map defined_by o.results)) o.operands has)

  part_live : (s : Sort) (hs : Handles s) (x : Tree by_handle (in_program KitOperation KitBlock) s) → AreTree c s hs x
      → (v : Value) → Has v (values_in x) → IsOfNoneGone c v
  part_live s hs x no_operations v has = absurd has
  part_live s hs x no_blocks v has = absurd has
  part_live s hs x no_regions v has = absurd has
  part_live s hs x (first_operation p ps o rs rest there inner after) v has = ⊎_elim
      (λ h. head_live p o v there h)
      (λ h. ⊎_elim (λ i. part_live _ _ rs inner v i) (λ i. part_live _ _ rest after v i)
      (has_parts v (values_in rs) (values_in rest) h))
      (has_parts v (head_values (head_of {B = KitBlock} p o)) (values_in rs ++ values_in rest) has)
  part_live s hs x (first_block b bs o os rest there inner after) v has = ⊎_elim
      (λ h. argument_live b o v there h)
      (λ h. ⊎_elim (λ i. part_live _ _ os inner v i) (λ i. part_live _ _ rest after v i)
      (has_parts v (values_in os) (values_in rest) h))
      (has_parts v (names_of (map defined_by o.arguments)) (values_in os ++ values_in rest) has)
  part_live s hs x (first_region r rs o bs rest there inner after) v has =
      ⊎_elim (λ i. part_live _ _ bs inner v i) (λ i. part_live _ _ rest after v i)
      (has_parts v (values_in bs) (values_in rest) has)

  -- so it is of all values of the tree of an operation
  pub all_live : (root : Ptr Operation) (t : KitTree) → StandsFor c root t → (v : Value) → Has v (values_of t)
      → IsOfNoneGone c v
  all_live root t stands v has = ⊎_elim
      (λ h. head_live root stands.view v stands.there (subst (λ k. Has v (head_values k)) stands.head h))
      (λ h. part_live _ stands.view.regions t.regions stands.regions v h)
      (has_parts v (head_values t.head) (values_in t.regions) has)

-- the operation is there
abbrev pub IsHere : KitProgram → Ptr Operation → Type 0
IsHere c p = operation_at c p ≡ None → ⊥

module _ (c : KitProgram) where
  here_by : (p : Ptr Operation) (o : OperationView KitOperation) → operation_at c p ≡ Some o → IsHere c p
  here_by p o there gone = none-some o (sym gone ∙ there)

  heads_here : (s : Sort) (hs : Handles s) (x : Tree by_handle (in_program KitOperation KitBlock) s) → AreTree c s hs x
      → (h : ProgramHead KitOperation KitBlock) → Has h (heads_in x) → IsHere c h.name
  heads_here s hs x no_operations h has = absurd has
  heads_here s hs x no_blocks h has = absurd has
  heads_here s hs x no_regions h has = absurd has
  heads_here s hs x (first_operation p ps o rs rest there inner after) h has = ⊎_elim
      (λ e. subst (λ k. IsHere c k.name) (sym e) (here_by p o there))
      (λ i. ⊎_elim (λ j. heads_here _ _ rs inner h j) (λ j. heads_here _ _ rest after h j)
      (has_parts h (heads_in rs) (heads_in rest) i)) has
  heads_here s hs x (first_block b bs o os rest there inner after) h has =
      ⊎_elim (λ j. heads_here _ _ os inner h j) (λ j. heads_here _ _ rest after h j)
      (has_parts h (heads_in os) (heads_in rest) has)
  heads_here s hs x (first_region r rs o bs rest there inner after) h has =
      ⊎_elim (λ j. heads_here _ _ bs inner h j) (λ j. heads_here _ _ rest after h j)
      (has_parts h (heads_in bs) (heads_in rest) has)

  -- so it is of all operations of the tree of an operation
  pub all_here : (root : Ptr Operation) (t : KitTree) → StandsFor c root t → (h : ProgramHead KitOperation KitBlock)
      → Has h (heads_of t) → IsHere c h.name
  all_here root t stands h has = ⊎_elim
      (λ e. subst (λ (k : ProgramHead KitOperation KitBlock). IsHere c k.name) (sym (e ∙ stands.head))
      (here_by root stands.view stands.there))
      (λ i. heads_here _ stands.view.regions t.regions stands.regions h i) has
