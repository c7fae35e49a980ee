-- What the rows of an operation hold, and what a contract sees of them.
use Rattle.std.proofs.Common.{◌≡◌, ℕ, zero, suc, ◌<◌, ◌++◌, get_or, length, List, [], ◌∷◌, map, remove, Option, Some, None, IsSome, option_map, unwrap_or, slice_get, refl, sym, ap, ◌∙◌, subst, arith}
use Rattle.std.proofs.lemmas.List.{length-map}
use Rattle.std.proofs.lemmas.Option.{slice_get-map, slice_get-get_or, same_Some}
use Rattle.ir_arena.specs.Arena.{get}
use Rattle.ir_entities.specs.Uses.{Uses, PlaceOfUse, key_of, place_of, named_of, IsDefined, NamesDefinition}
use Rattle.ir_entities.specs.Rows.{IsRowOf}
use Rattle.ir_entities.proofs.RowEdits.{placed-row}
use Rattle.ir_program.specs.Program.{Program, OperationView, operation_at, operation_of, block_at, block_of, definition_at, named_or, value_named, block_named, IsLiveValue}
use Rattle.ir_program.specs.Rows.{operands_at, successors_at}
use Rattle.ir_program.specs.Edits.{EditsOperation}
use Rattle.ir_program.specs.Sound.{IsProgram, operand_row, successor_row}
use Rattle.ir_program.specs.declared.handles.Ptr.{Ptr}
use Rattle.ir_program.specs.declared.handles.Operation.{Operation}
use Rattle.ir_program.specs.declared.handles.BasicBlock.{BasicBlock}
use Rattle.ir_program.specs.declared.handles.Value.{Value}
use Rattle.ir_program.specs.declared.records.Definition.{Definition}
use Rattle.ir_program.specs.declared.records.OperationRecord.{OperationRecord}
use Rattle.ir_program.specs.declared.records.BlockRecord.{BlockRecord}
use Rattle.ir_program.proofs.made.Lent.{held-was}
use Rattle.ir_program.proofs.rows.RowNames.{named-is}

-- what stands in a row is in use
pub row-place : (place : ℕ → Option PlaceOfUse) (row : List ℕ) (i k x : ℕ) → IsRowOf place row i → slice_get row k ≡ Some x → IsSome (place x)
row-place place row i k x rowed e = let its = rowed.held k x e in rw its.1 refl

-- what is seen at an index of a row is the key of what the place there names
pub row-named : {K : Type 0} (none : K) (u : Uses K) (row : List ℕ) (k x d : ℕ) (v : K) → slice_get row k ≡ Some x → NamesDefinition u x d → key_of u d ≡ Some v → slice_get (map (named_or none u) row) k ≡ Some v
row-named none u row k x d v e names key = slice_get-map (named_or none u) row k ∙ (ap (option_map (named_or none u)) e ∙ ap Some (named-is none u u refl x d v names key))

-- what is seen at an index of a row is a key in use
pub row-keyed : {K : Type 0} (none : K) (u : Uses K) (row : List ℕ) (i k : ℕ) (v : K) → IsRowOf (place_of u) row i → ((x d : ℕ) → NamesDefinition u x d → IsDefined u d)
    → slice_get (map (named_or none u) row) k ≡ Some v → (d : ℕ) × (key_of u d ≡ Some v)
row-keyed {K} none u row i k v rowed named seen = by (slice_get row k) refl (sym (slice_get-map (named_or none u) row k) ∙ seen)
  where
    at : (x d : ℕ) (o : Option K) → named_of (place_of u x) ≡ Some d → key_of u d ≡ o → IsSome o → named_or none u x ≡ v → (d : ℕ) × (key_of u d ≡ Some v)
    at x d None names key defined is = cc
    at x d (Some w) names key defined is = (d, key ∙ ap Some (sym (named-is none u u refl x d w names key) ∙ is))

    by : (o : Option ℕ) → slice_get row k ≡ o → option_map (named_or none u) o ≡ Some v → (d : ℕ) × (key_of u d ≡ Some v)
    by None e h = cc
    by (Some x) e h =
        let its = rowed.held k x e in
        let names : named_of (place_of u x) ≡ Some its.0 = ap named_of its.1 in
        at x its.0 (key_of u its.0) names refl (named x its.0 names) (same_Some _ _ h)

module _ {O B : Type 0} (c : Program O B) (p : Ptr Operation) (o : OperationRecord O) (here : get c.forest.ops p.key ≡ Some o) where
  pub operands-are : operands_at c p ≡ map (value_named c.values) o.operands.items
  operands-are = ap (λ x. unwrap_or (option_map (λ (w : OperationView O). w.operands) (option_map (operation_of c p) x)) []) here

  pub successors-are : successors_at c p ≡ map (block_named c.targets) o.successors.items
  successors-are = ap (λ x. unwrap_or (option_map (λ (w : OperationView O). w.successors) (option_map (operation_of c p) x)) []) here

  pub operand-row : IsProgram c → IsRowOf (place_of c.values) o.operands.items p.key.slot
  operand-row inv = subst (λ xs. IsRowOf (place_of c.values) xs p.key.slot)
      (ap (λ x. unwrap_or (option_map (λ (r : OperationRecord O). r.operands.items) x) []) (held-was c.forest.ops p.key o o here))
      (placed-row (place_of c.values) (operand_row c) p.key.slot inv.operands)

  pub successor-row : IsProgram c → IsRowOf (place_of c.targets) o.successors.items p.key.slot
  successor-row inv = subst (λ xs. IsRowOf (place_of c.targets) xs p.key.slot)
      (ap (λ x. unwrap_or (option_map (λ (r : OperationRecord O). r.successors.items) x) []) (held-was c.forest.ops p.key o o here))
      (placed-row (place_of c.targets) (successor_row c) p.key.slot inv.successors)

  -- the place at an index that is seen
  pub operand-stood : (k x : ℕ) → k < length (operands_at c p) → x ≡ get_or o.operands.items k 0 → slice_get o.operands.items k ≡ Some x
  operand-stood k x l h =
      let many : length (operands_at c p) ≡ length o.operands.items = ap length operands-are ∙ length-map o.operands.items (value_named c.values) in
      slice_get-get_or o.operands.items k 0 (subst (λ n. k < n) many l) ∙ ap Some (sym h)

  -- the operand that is seen there
  pub operand-named : (k x d : ℕ) (v : Value) → slice_get o.operands.items k ≡ Some x → NamesDefinition c.values x d → key_of c.values d ≡ Some v → slice_get (operands_at c p) k ≡ Some v
  operand-named k x d v e names key = ap (λ xs. slice_get xs k) operands-are ∙ row-named _ c.values o.operands.items k x d v e names key

  pub successor-named : (k x d : ℕ) (b : Ptr BasicBlock) → slice_get o.successors.items k ≡ Some x → NamesDefinition c.targets x d → key_of c.targets d ≡ Some b → slice_get (successors_at c p) k ≡ Some b
  successor-named k x d b e names key = ap (λ xs. slice_get xs k) successors-are ∙ row-named _ c.targets o.successors.items k x d b e names key

  pub successor-stood : (k x : ℕ) → k < length (successors_at c p) → x ≡ get_or o.successors.items k 0 → slice_get o.successors.items k ≡ Some x
  successor-stood k x l h =
      let many : length (successors_at c p) ≡ length o.successors.items = ap length successors-are ∙ length-map o.successors.items (block_named c.targets) in
      slice_get-get_or o.successors.items k 0 (subst (λ n. k < n) many l) ∙ ap Some (sym h)

-- a value whose thread is in use stands at its definer
pub known-value : {O B : Type 0} (c : Program O B) (d : ℕ) (v : Value) → IsProgram c → key_of c.values d ≡ Some v → IsLiveValue c v
known-value c d v inv key = by (definition_at c v) ((inv.values v d).1 key)
  where
    by : (x : Option Definition) → option_map (λ (y : Definition). y.thread) x ≡ Some d → IsSome (option_map (λ (y : Definition). y.ty) x)
    by None h = cc
    by (Some y) h = refl

pub block-thread : {O B : Type 0} (c : Program O B) (b : Ptr BasicBlock) (r : BlockRecord B) → IsProgram c → get c.forest.blocks b.key ≡ Some r → key_of c.targets r.thread ≡ Some b
block-thread {O} {B} c b r inv here = (inv.blocks b r.thread).0 (ap (option_map (λ (y : BlockRecord B). y.thread)) here)

pub known-block : {O B : Type 0} (c : Program O B) (d : ℕ) (b : Ptr BasicBlock) → IsProgram c → key_of c.targets d ≡ Some b → IsSome (block_at c b)
known-block {O} {B} c d b inv key = by (get c.forest.blocks b.key) ((inv.blocks b d).1 key)
  where
    by : (x : Option (BlockRecord B)) → option_map (λ (y : BlockRecord B). y.thread) x ≡ Some d → IsSome (option_map (block_of c b) x)
    by None h = cc
    by (Some y) h = refl

-- each operand stands at its definer
pub operand-live : {O B : Type 0} (c : Program O B) → IsProgram c → ((x d : ℕ) → NamesDefinition c.values x d → IsDefined c.values d)
    → (p : Ptr Operation) (k : ℕ) (v : Value) → slice_get (operands_at c p) k ≡ Some v → IsLiveValue c v
operand-live {O} {B} c inv named p k v seen = by (get c.forest.ops p.key) refl
  where
    by : (x : Option (OperationRecord O)) → get c.forest.ops p.key ≡ x → IsLiveValue c v
    by None here =
        let nothing : slice_get (operands_at c p) k ≡ None = ap (λ x. slice_get (unwrap_or (option_map (λ (w : OperationView O). w.operands) (option_map (operation_of c p) x)) []) k) here in
        let clash : None ≡ Some v = sym nothing ∙ seen in cc
    by (Some o) here =
        let key = row-keyed _ c.values o.operands.items p.key.slot k v (operand-row c p o here inv) named (sym (ap (λ xs. slice_get xs k) (operands-are c p o here)) ∙ seen) in
        known-value c key.0 v inv key.1

-- each successor is there
pub successor-live : {O B : Type 0} (c : Program O B) → IsProgram c → ((x d : ℕ) → NamesDefinition c.targets x d → IsDefined c.targets d)
    → (p : Ptr Operation) (k : ℕ) (b : Ptr BasicBlock) → slice_get (successors_at c p) k ≡ Some b → IsSome (block_at c b)
successor-live {O} {B} c inv named p k b seen = by (get c.forest.ops p.key) refl
  where
    by : (x : Option (OperationRecord O)) → get c.forest.ops p.key ≡ x → IsSome (block_at c b)
    by None here =
        let nothing : slice_get (successors_at c p) k ≡ None = ap (λ x. slice_get (unwrap_or (option_map (λ (w : OperationView O). w.successors) (option_map (operation_of c p) x)) []) k) here in
        let clash : None ≡ Some b = sym nothing ∙ seen in cc
    by (Some o) here =
        let key = row-keyed _ c.targets o.successors.items p.key.slot k b (successor-row c p o here inv) named (sym (ap (λ xs. slice_get xs k) (successors-are c p o here)) ∙ seen) in
        known-block c key.0 b inv key.1

-- what is seen of the rows once they were edited
pub edited-operands : {O B : Type 0} (c d : Program O B) (p : Ptr Operation) (f : List Value → List Value) → IsSome (operation_at c p) → EditsOperation c d p (λ w. record w { operands = f w.operands }) → operands_at d p ≡ f (operands_at c p)
edited-operands {O} {B} c d p f live edits = ap (λ x. unwrap_or (option_map (λ (w : OperationView O). w.operands) x) []) edits.edited ∙ by (operation_at c p) live
  where
    by : (x : Option (OperationView O)) → IsSome x
        → unwrap_or (option_map (λ (w : OperationView O). w.operands) (option_map (λ (w : OperationView O). record w { operands = f w.operands }) x)) [] ≡ f (unwrap_or (option_map (λ (w : OperationView O). w.operands) x) [])
    by None h = cc
    by (Some w) h = refl

pub edited-successors : {O B : Type 0} (c d : Program O B) (p : Ptr Operation) (f : List (Ptr BasicBlock) → List (Ptr BasicBlock)) → IsSome (operation_at c p) → EditsOperation c d p (λ w. record w { successors = f w.successors }) → successors_at d p ≡ f (successors_at c p)
edited-successors {O} {B} c d p f live edits = ap (λ x. unwrap_or (option_map (λ (w : OperationView O). w.successors) x) []) edits.edited ∙ by (operation_at c p) live
  where
    by : (x : Option (OperationView O)) → IsSome x
        → unwrap_or (option_map (λ (w : OperationView O). w.successors) (option_map (λ (w : OperationView O). record w { successors = f w.successors }) x)) [] ≡ f (unwrap_or (option_map (λ (w : OperationView O). w.successors) x) [])
    by None h = cc
    by (Some w) h = refl

-- the last item stands behind the others
pub remove-last : {X : Type 0} (xs : List X) (k : ℕ) (v : X) → slice_get xs k ≡ Some v → suc k ≡ length xs → xs ≡ remove xs k ++ v ∷ []
remove-last [] k v e h = cc
remove-last (x ∷ []) zero v e h = ap (λ y. y ∷ []) (same_Some x v e)
remove-last (x ∷ y ∷ ys) zero v e h = absurd (omega arith)
remove-last (x ∷ xs) (suc k) v e h = ap (λ ys. x ∷ ys) (remove-last xs k v e (omega arith))
