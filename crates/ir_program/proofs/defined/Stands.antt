-- What stands among the results of an operation or the arguments of a block: its type, its thread, and who takes it.
use Rattle.std.proofs.Common.{◌≡◌, ℕ, cond, List, [], map, Option, Some, None, option_map, unwrap_or, refl, sym, ap, ◌∙◌, subst, slice_get, remove, get_or, length, ◌<◌}
use Rattle.std.proofs.lemmas.Bool.{eq-eqb}
use Rattle.std.proofs.lemmas.List.{length-map}
use Rattle.std.proofs.lemmas.Option.{slice_get-map, slice_get-get_or}
use Rattle.ir_arena.specs.declared.arena.Slot.{Slot}
use Rattle.ir_arena.specs.Arena.{get, held, slot_at}
use Rattle.ir_entities.specs.Forest.{pointer_to}
use Rattle.ir_entities.specs.Links.{AreDistinctNumbers}
use Rattle.ir_entities.specs.Uses.{PlaceOfUse, key_of, place_of, named_of, NamesDefinition}
use Rattle.ir_program.specs.Handles.{handle}
use Rattle.ir_program.specs.Program.{Program, TypedValue, OperationView, BlockView, typed_value, key_if, no_handle, operation_of, block_of, results_at, arguments_at, result_count, argument_count, definitions_of, definition_at, type_at, numbered, value_named, value_in, type_in}
use Rattle.ir_program.specs.Sound.{IsProgram, IsThreaded, operand_row, thread_of_value}
use Rattle.ir_program.specs.Uses.{IsUsed}
use Rattle.ir_program.specs.declared.handles.Ptr.{Ptr}
use Rattle.ir_program.specs.declared.handles.Operation.{Operation}
use Rattle.ir_program.specs.declared.handles.BasicBlock.{BasicBlock}
use Rattle.ir_program.specs.declared.handles.Value.{Value}
use Rattle.ir_program.specs.declared.handles.DefiningEntity.{DefiningEntity}
use Rattle.ir_program.specs.declared.handles.DefiningEntity.TheVariants.{Op as ByOp, Block as ByBlock}
use Rattle.ir_program.specs.declared.records.Definition.{Definition}
use Rattle.ir_program.specs.declared.records.OperationRecord.{OperationRecord}
use Rattle.ir_program.specs.declared.records.BlockRecord.{BlockRecord}
use Rattle.ir_program.proofs.defined.Numbers.{numbers_of, numbered-none, remove-here, stands-found}

-- the value of a definition
abbrev pub value_for : DefiningEntity → Definition → Value
value_for e d = record { definer = e; number = d.number }

-- a definition is seen as its value, with its type
pub value-seen : (e : DefiningEntity) (ds : List Definition) (k : ℕ) (d : Definition) → slice_get ds k ≡ Some d → value_in (map (typed_value e) ds) k ≡ Some (value_for e d)
value-seen e ds k d stands = ap (option_map (λ (t : TypedValue). t.value)) (slice_get-map (typed_value e) ds k ∙ ap (option_map (typed_value e)) stands)

pub type-seen : (e : DefiningEntity) (ds : List Definition) (k : ℕ) (d : Definition) → slice_get ds k ≡ Some d → type_in (map (typed_value e) ds) k ≡ Some d.ty
type-seen e ds k d stands = ap (option_map (λ (t : TypedValue). t.ty)) (slice_get-map (typed_value e) ds k ∙ ap (option_map (typed_value e)) stands)

-- the key of what is in a slot leads to it
pub get-held : {T : Type 0} (slots : List (Slot T)) (i : ℕ) → get slots (pointer_to slots i) ≡ held slots i
get-held slots i = ap (λ b. cond b (slot_at slots i).value None) (eq-eqb (slot_at slots i).version (slot_at slots i).version refl)

-- what is seen is a definition's
pub seen-stands : (e : DefiningEntity) (ds : List Definition) (k : ℕ) (v : Value) → value_in (map (typed_value e) ds) k ≡ Some v → (d : Definition) × (slice_get ds k ≡ Some d) × (v ≡ value_for e d)
seen-stands e ds k v h = by (slice_get ds k) refl
  where
    by : (o : Option Definition) → slice_get ds k ≡ o → (d : Definition) × (slice_get ds k ≡ Some d) × (v ≡ value_for e d)
    by None none = let s : slice_get (map (typed_value e) ds) k ≡ None = slice_get-map (typed_value e) ds k ∙ ap (option_map (typed_value e)) none in let t : value_in (map (typed_value e) ds) k ≡ None = ap (option_map (λ (t : TypedValue). t.value)) s in cc
    by (Some d) some = let s : Some v ≡ Some (value_for e d) = sym h ∙ value-seen e ds k d some in (d, some, cc)

module _ {O B : Type 0} (c : Program O B) where
  -- results and arguments are seen as definitions are
  pub results-seen_as : (p : Ptr Operation) → results_at c p ≡ map (typed_value (ByOp p)) (definitions_of c (ByOp p))
  results-seen_as p = elim (get c.forest.ops p.key) as (λ x. unwrap_or (option_map (λ (o : OperationView O). o.results) (option_map (operation_of c p) x)) [] ≡ map (typed_value (ByOp p)) (unwrap_or (option_map (λ (o : OperationRecord O). o.results.items) x) [])) [ None ↦ refl | Some o ↦ refl ]

  pub arguments-seen_as : (p : Ptr BasicBlock) → arguments_at c p ≡ map (typed_value (ByBlock p)) (definitions_of c (ByBlock p))
  arguments-seen_as p = elim (get c.forest.blocks p.key) as (λ x. unwrap_or (option_map (λ (b : BlockView B). b.arguments) (option_map (block_of c p) x)) [] ≡ map (typed_value (ByBlock p)) (unwrap_or (option_map (λ (b : BlockRecord B). b.arguments.items) x) [])) [ None ↦ refl | Some b ↦ refl ]

  -- the definitions of an entity are those of its record
  pub results-of : (p : Ptr Operation) (o : OperationRecord O) → get c.forest.ops p.key ≡ Some o → definitions_of c (ByOp p) ≡ o.results.items
  results-of p o here = ap (λ x. unwrap_or (option_map (λ (r : OperationRecord O). r.results.items) x) []) here

  pub arguments-of : (p : Ptr BasicBlock) (b : BlockRecord B) → get c.forest.blocks p.key ≡ Some b → definitions_of c (ByBlock p) ≡ b.arguments.items
  arguments-of p b here = ap (λ x. unwrap_or (option_map (λ (r : BlockRecord B). r.arguments.items) x) []) here

  module _ (e : DefiningEntity) (ds : List Definition) (are : definitions_of c e ≡ ds) (k : ℕ) (d : Definition) (stands : slice_get ds k ≡ Some d) (distinct : AreDistinctNumbers (numbers_of ds)) where
    pub definition-stands : definition_at c (value_for e d) ≡ Some d
    definition-stands = ap (numbered d.number) are ∙ stands-found ds k d distinct stands

    pub type-stands : type_at c (value_for e d) ≡ Some d.ty
    type-stands = ap (option_map (λ (x : Definition). x.ty)) definition-stands

    pub thread-stands : IsThreaded (thread_of_value c) c.values → key_of c.values d.thread ≡ Some (value_for e d)
    thread-stands threads = (threads (value_for e d) d.thread).0 (ap (option_map (λ (x : Definition). x.thread)) definition-stands)

  -- a value that stands at an index has the type that is seen there
  pub type-of-seen : IsProgram c → (e : DefiningEntity) (ts : List TypedValue) → ts ≡ map (typed_value e) (definitions_of c e) → (k : ℕ) (v : Value) → value_in ts k ≡ Some v → type_at c v ≡ type_in ts k
  type-of-seen inv e ts are k v h =
      let s : (d : Definition) × (slice_get (definitions_of c e) k ≡ Some d) × (v ≡ value_for e d) = seen-stands e (definitions_of c e) k v (sym (ap (λ l. value_in l k) are) ∙ h) in
      ap (type_at c) s.2 ∙ type-stands e (definitions_of c e) refl k s.0 s.1 (inv.numbers e).distinct ∙ sym (ap (λ l. type_in l k) are ∙ type-seen e (definitions_of c e) k s.0 s.1)

  pub type-of-result : IsProgram c → (p : Ptr Operation) (k : ℕ) (v : Value) → value_in (results_at c p) k ≡ Some v → type_at c v ≡ type_in (results_at c p) k
  type-of-result inv p k v h = type-of-seen inv (ByOp p) (results_at c p) (results-seen_as p) k v h

  pub type-of-argument : IsProgram c → (p : Ptr BasicBlock) (k : ℕ) (v : Value) → value_in (arguments_at c p) k ≡ Some v → type_at c v ≡ type_in (arguments_at c p) k
  type-of-argument inv p k v h = type-of-seen inv (ByBlock p) (arguments_at c p) (arguments-seen_as p) k v h

  -- what left stands no more
  pub type-gone : (e : DefiningEntity) (ds : List Definition) (k : ℕ) (d : Definition) → definitions_of c e ≡ remove ds k → slice_get ds k ≡ Some d → AreDistinctNumbers (numbers_of ds) → type_at c (value_for e d) ≡ None
  type-gone e ds k d are stood distinct = ap (option_map (λ (x : Definition). x.ty)) (ap (numbered d.number) are ∙ numbered-none d.number (remove ds k) (remove-here ds k d stood distinct))

  -- a value whose thread has a place is an operand
  pub named-used : IsProgram c → (v : Value) (t p : ℕ) → key_of c.values t ≡ Some v → NamesDefinition c.values p t → IsUsed c v
  named-used inv v t p key names = by_place (place_of c.values p) refl
    where
      named : value_named c.values p ≡ v
      named = ap (λ o. unwrap_or o (record { definer = ByOp no_handle; number = 0 })) (ap (key_if c.values) names ∙ key)

      by_operation : (x : PlaceOfUse) (r : Option (OperationRecord O)) → held c.forest.ops x.user ≡ r → slice_get (operand_row c x.user) x.index ≡ Some p → IsUsed c v
      by_operation x None none stands = let e : slice_get (operand_row c x.user) x.index ≡ None = ap (λ o. slice_get (unwrap_or (option_map (λ (y : OperationRecord O). y.operands.items) o) []) x.index) none in cc
      by_operation x (Some r) some stands =
          let q : Ptr Operation = handle (pointer_to c.forest.ops x.user) in
          let at : slice_get r.operands.items x.index ≡ Some p = sym (ap (λ o. slice_get (unwrap_or (option_map (λ (y : OperationRecord O). y.operands.items) o) []) x.index) some) ∙ stands in
          (q, operation_of c q r, ap (option_map (operation_of c q)) (get-held c.forest.ops x.user ∙ some), x.index, slice_get-map (value_named c.values) r.operands.items x.index ∙ ap (option_map (value_named c.values)) at ∙ ap Some named)

      by_place : (o : Option PlaceOfUse) → place_of c.values p ≡ o → IsUsed c v
      by_place None none = let e : named_of (place_of c.values p) ≡ None = ap named_of none in cc
      by_place (Some x) some = by_operation x (held c.forest.ops x.user) refl (inv.operands.all p x some)

-- what was read among the results of an operation is seen there
module _ {O B : Type 0} (c d : Program O B) (view : c ≡ d) where
  pub result-read : (p : Ptr Operation) (o : OperationRecord O) → Some o ≡ get c.forest.ops p.key → (k : ℕ) → k < result_count d p → (x blank : Definition) → x ≡ get_or o.results.items k blank → slice_get (definitions_of c (ByOp p)) k ≡ Some x
  result-read p o here k within x blank read =
      let are : definitions_of c (ByOp p) ≡ o.results.items = results-of c p o (sym here) in
      let count : result_count d p ≡ length o.results.items = ap (λ y. result_count y p) (sym view) ∙ ap length (results-seen_as c p) ∙ length-map _ _ ∙ ap length are in
      ap (λ l. slice_get l k) are ∙ (slice_get-get_or o.results.items k blank (subst (λ n. k < n) count within) ∙ ap Some (sym read))

  pub result-shown : (p : Ptr Operation) (k : ℕ) (x : Definition) → slice_get (definitions_of c (ByOp p)) k ≡ Some x → (v : Value) → v ≡ value_for (ByOp p) x → value_in (results_at d p) k ≡ Some v
  result-shown p k x stands v is = subst (λ y. value_in (results_at y p) k ≡ Some v) view
      (ap (λ l. value_in l k) (results-seen_as c p) ∙ value-seen (ByOp p) (definitions_of c (ByOp p)) k x stands ∙ ap Some (sym is))

  pub result-live : IsProgram c → (p : Ptr Operation) (k : ℕ) (x : Definition) → slice_get (definitions_of c (ByOp p)) k ≡ Some x → (v : Value) → v ≡ value_for (ByOp p) x → type_at d v ≡ type_in (results_at d p) k
  result-live inv p k x stands v is = subst (λ y. type_at y v ≡ type_in (results_at y p) k) view
      (type-of-result c inv p k v (ap (λ y. value_in (results_at y p) k) view ∙ result-shown p k x stands v is))

-- what was read among the arguments of a block is seen there
module _ {O B : Type 0} (c d : Program O B) (view : c ≡ d) where
  pub argument-read : (p : Ptr BasicBlock) (b : BlockRecord B) → Some b ≡ get c.forest.blocks p.key → (k : ℕ) → k < argument_count d p → (x blank : Definition) → x ≡ get_or b.arguments.items k blank → slice_get (definitions_of c (ByBlock p)) k ≡ Some x
  argument-read p b here k within x blank read =
      let are : definitions_of c (ByBlock p) ≡ b.arguments.items = arguments-of c p b (sym here) in
      let count : argument_count d p ≡ length b.arguments.items = ap (λ y. argument_count y p) (sym view) ∙ ap length (arguments-seen_as c p) ∙ length-map _ _ ∙ ap length are in
      ap (λ l. slice_get l k) are ∙ (slice_get-get_or b.arguments.items k blank (subst (λ n. k < n) count within) ∙ ap Some (sym read))

  pub argument-shown : (p : Ptr BasicBlock) (k : ℕ) (x : Definition) → slice_get (definitions_of c (ByBlock p)) k ≡ Some x → (v : Value) → v ≡ value_for (ByBlock p) x → value_in (arguments_at d p) k ≡ Some v
  argument-shown p k x stands v is = subst (λ y. value_in (arguments_at y p) k ≡ Some v) view
      (ap (λ l. value_in l k) (arguments-seen_as c p) ∙ value-seen (ByBlock p) (definitions_of c (ByBlock p)) k x stands ∙ ap Some (sym is))

  pub argument-live : IsProgram c → (p : Ptr BasicBlock) (k : ℕ) (x : Definition) → slice_get (definitions_of c (ByBlock p)) k ≡ Some x → (v : Value) → v ≡ value_for (ByBlock p) x → type_at d v ≡ type_in (arguments_at d p) k
  argument-live inv p k x stands v is = subst (λ y. type_at y v ≡ type_in (arguments_at y p) k) view
      (type-of-argument c inv p k v (ap (λ y. value_in (arguments_at y p) k) view ∙ argument-shown p k x stands v is))
