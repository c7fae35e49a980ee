-- What is known of values once one has come or gone.
use Rattle.std.proofs.Common.{◌≡◌, ◌≢◌, ⊎_elim, ℕ, ◌≤◌, [], map, length, Option, Some, None, IsSome, option_map, unwrap_or, refl, sym, ap, ◌∙◌, subst, slice_get, insert, remove}
use Rattle.std.proofs.lemmas.Option.{slice_get-map}
use Rattle.ir_base.specs.declared.types.TypeHandle.{TypeHandle}
use Rattle.ir_arena.specs.Arena.{get}
use Rattle.ir_entities.specs.Placed.{place_at}
use Rattle.ir_entities.specs.Uses.{Uses, key_of, place_of, named_of, NamesDefinition, IsDefined}
use Rattle.ir_program.specs.Program.{Program, OperationView, BlockView, key_if, no_handle, operation_of, operation_at, definitions_of, definition_at, type_at, value_named, IsLiveValue}
use Rattle.ir_program.specs.Sound.{IsProgram, operand_row}
use Rattle.ir_program.specs.Edits.{EditsOperation, EditsBlock}
use Rattle.ir_program.specs.Uses.{IsUsed}
use Rattle.ir_program.specs.Definers.{DefinesValue, ForgetsValue}
use Rattle.ir_program.specs.Making.{InsertsDefinition}
use Rattle.ir_program.specs.declared.handles.Ptr.{Ptr}
use Rattle.ir_program.specs.declared.handles.Operation.{Operation}
use Rattle.ir_program.specs.declared.handles.BasicBlock.{BasicBlock}
use Rattle.ir_program.specs.declared.handles.Value.{Value}
use Rattle.ir_program.specs.declared.handles.DefiningEntity.{DefiningEntity}
use Rattle.ir_program.specs.declared.handles.DefiningEntity.TheVariants.{Op as ByOp, Block as ByBlock}
use Rattle.ir_program.specs.declared.records.Definition.{Definition}
use Rattle.ir_program.specs.declared.records.OperationRecord.{OperationRecord}
use Rattle.ir_program.specs.declared.records.BlockRecord.{BlockRecord}
use Rattle.ir_program.proofs.made.Lent.{held-was}
use Rattle.ir_program.proofs.made.Frames.{same_or_not, with_operation, with_block, definitions-here, definitions-elsewhere, arguments-here, arguments-elsewhere}
use Rattle.ir_program.proofs.defined.Arrivals.{joined-others, joined-here, left-others}
use Rattle.ir_program.proofs.defined.Joins.{result-joined-seen}
use Rattle.ir_program.proofs.defined.BlockJoins.{argument-joined-seen}
use Rattle.ir_program.proofs.defined.Numbers.{counter-free, numbered-none}
use Rattle.ir_program.proofs.defined.Stands.{value_for, results-of, arguments-of, type-gone}

-- no value has the number of the counter
pub counter-fresh : {O B : Type 0} (c : Program O B) → IsProgram c → (e : DefiningEntity) → definition_at c (record { definer = e; number = c.counter }) ≡ None
counter-fresh c inv e = numbered-none c.counter (definitions_of c e) (counter-free c.counter (definitions_of c e) (inv.numbers e))

-- what an operation takes is a value that stands at its definer
module _ {O B : Type 0} (c : Program O B) (inv : IsProgram c) (known : (q d : ℕ) → NamesDefinition c.values q d → IsDefined c.values d) where
  named-live : (q d : ℕ) → NamesDefinition c.values q d → IsLiveValue c (value_named c.values q)
  named-live q d names = by (key_of c.values d) refl
    where
      by : (o : Option Value) → key_of c.values d ≡ o → IsLiveValue c (value_named c.values q)
      by None none = let e : IsSome (key_of c.values d) = known q d names in cc
      by (Some x) some =
          let is : value_named c.values q ≡ x = ap (λ o. unwrap_or o (record { definer = ByOp no_handle; number = 0 })) (ap (key_if c.values) names ∙ some) in
          let thread : option_map (λ (y : Definition). y.thread) (definition_at c x) ≡ Some d = (inv.values x d).1 some in
          subst (IsLiveValue c) (sym is) (defined (definition_at c x) thread)
        where
          defined : (o : Option Definition) → option_map (λ (y : Definition). y.thread) o ≡ Some d → IsSome (option_map (λ (y : Definition). y.ty) o)
          defined None h = cc
          defined (Some y) h = refl

  taken-live : (p : Ptr Operation) (r : OperationRecord O) → get c.forest.ops p.key ≡ Some r → (k : ℕ) (v : Value) → slice_get (map (value_named c.values) r.operands.items) k ≡ Some v → IsLiveValue c v
  taken-live p r here k v h = by (slice_get r.operands.items k) refl
    where
      seen : option_map (value_named c.values) (slice_get r.operands.items k) ≡ Some v
      seen = sym (slice_get-map (value_named c.values) r.operands.items k) ∙ h

      row : operand_row c p.key.slot ≡ r.operands.items
      row = ap (λ o. unwrap_or (option_map (λ (y : OperationRecord O). y.operands.items) o) []) (held-was c.forest.ops p.key r r here)

      by : (o : Option ℕ) → slice_get r.operands.items k ≡ o → IsLiveValue c v
      by None none = let e : None ≡ Some v = sym (ap (option_map (value_named c.values)) none) ∙ seen in cc
      by (Some q) some =
          let e : Some (value_named c.values q) ≡ Some v = sym (ap (option_map (value_named c.values)) some) ∙ seen in
          let is : value_named c.values q ≡ v = cc in
          let stands : (d : ℕ) × (place_of c.values q ≡ Some (place_at d p.key.slot k)) = inv.operands.held p.key.slot k q (ap (λ l. slice_get l k) row ∙ some) in
          subst (IsLiveValue c) is (named-live q stands.0 (ap named_of stands.1))

  pub used-live : (v : Value) → IsUsed c v → IsLiveValue c v
  used-live v (p, o, is, k, h) = by (get c.forest.ops p.key) refl
    where
      by : (x : Option (OperationRecord O)) → get c.forest.ops p.key ≡ x → IsLiveValue c v
      by None none = let e : None ≡ Some o = sym (ap (option_map (operation_of c p)) none) ∙ is in cc
      by (Some r) some =
          let e : Some (operation_of c p r) ≡ Some o = sym (ap (option_map (operation_of c p)) some) ∙ is in
          let same : operation_of c p r ≡ o = cc in
          taken-live p r some k v (ap (λ (x : OperationView O). slice_get x.operands k) same ∙ h)

-- an edit that leaves operands as they are leaves the uses as they are
module _ {O B : Type 0} (c d : Program O B) (v : Value) where
  pub operation_edit-used : (p : Ptr Operation) (f : OperationView O → OperationView O) → EditsOperation c d p f → ((o : OperationView O) → (f o).operands ≡ o.operands) → IsUsed d v → IsUsed c v
  operation_edit-used p f edits same (q, o, is, k, h) = ⊎_elim
      (λ (e : q ≡ p). by (operation_at c p) refl (sym edits.edited ∙ ap (operation_at d) (sym e) ∙ is))
      (λ ne. (q, o, sym (edits.others q ne) ∙ is, k, h))
      (same_or_not q p)
    where
      by : (x : Option (OperationView O)) → operation_at c p ≡ x → option_map f (operation_at c p) ≡ Some o → IsUsed c v
      by None none made = let e : None ≡ Some o = sym (ap (option_map f) none) ∙ made in cc
      by (Some y) some made =
          let e : Some (f y) ≡ Some o = sym (ap (option_map f) some) ∙ made in
          let is_made : f y ≡ o = cc in
          (p, y, some, k, ap (λ l. slice_get l k) (sym (same y) ∙ ap (λ (x : OperationView O). x.operands) is_made) ∙ h)

  pub block_edit-used : (p : Ptr BasicBlock) (f : BlockView B → BlockView B) → EditsBlock c d p f → IsUsed d v → IsUsed c v
  block_edit-used p f edits (q, o, is, k, h) = (q, o, sym (edits.operations q) ∙ is, k, h)

-- a value that came is there now
module _ {O B : Type 0} (c d : Program O B) (e : DefiningEntity) (rest : (f : DefiningEntity) → f ≢ e → definitions_of d f ≡ definitions_of c f) (inv : IsProgram c)
    (k : ℕ) (v : Value) (ty : TypeHandle) (thread : ℕ) (is : v ≡ record { definer = e; number = c.counter }) (within : k ≤ length (definitions_of c e))
    (inserted : definitions_of d e ≡ insert (definitions_of c e) k (record { number = v.number; ty = ty; thread = thread })) where
  abbrev made : Definition
  made = record { number = v.number; ty = ty; thread = thread }

  number : v.number ≡ c.counter
  number = ap (λ (x : Value). x.number) is

  pub value-defined : (IsUsed d v → IsUsed c v) → ((q t : ℕ) → NamesDefinition c.values q t → IsDefined c.values t) → DefinesValue c d v ty
  value-defined used known =
      let none : type_at c v ≡ None = ap (type_at c) is ∙ ap (option_map (λ (x : Definition). x.ty)) (counter-fresh c inv e) in
      record {
        fresh = none;
        defined = ap (type_at d) is ∙ ap (option_map (λ (x : Definition). x.ty)) (joined-here (definitions_of c) (definitions_of d) e rest c.counter k made within inserted number (inv.numbers e));
        unused = λ u. let live : IsSome (type_at c v) = used-live c inv known v (used u) in cc;
        others = λ x ne. ap (option_map (λ (y : Definition). y.ty)) (joined-others (definitions_of c) (definitions_of d) e rest k made within inserted x (λ same. ne (same ∙ ap (λ n. record { definer = e; number = n }) number ∙ sym is)));
      }

-- a value that left is gone
pub value-forgotten : {O B : Type 0} (c d : Program O B) (e : DefiningEntity) → ((f : DefiningEntity) → f ≢ e → definitions_of d f ≡ definitions_of c f) → IsProgram c
    → (k : ℕ) (x : Definition) → slice_get (definitions_of c e) k ≡ Some x → definitions_of d e ≡ remove (definitions_of c e) k → (v : Value) → v ≡ value_for e x → ForgetsValue c d v
value-forgotten c d e rest inv k x stood removed v is = record {
  gone = rw is (type-gone d e (definitions_of c e) k x removed stood (inv.numbers e).distinct);
  others = λ y ne. ap (option_map (λ (z : Definition). z.ty)) (left-others (definitions_of c) (definitions_of d) e rest k x stood removed y (λ same. ne (same ∙ sym is)));
}

-- at a result
module _ {O B : Type 0} (c : Program O B) (p : Ptr Operation) (o w : OperationRecord O) (here : get c.forest.ops p.key ≡ Some o) (u : Uses Value) (n : ℕ) (inv : IsProgram c) (k : ℕ) (v : Value) where
  pub result-defined_now : w.payload ≡ o.payload → w.operands.items ≡ o.operands.items → w.successors.items ≡ o.successors.items
      → (ty : TypeHandle) → v ≡ record { definer = ByOp p; number = c.counter } → k ≤ length o.results.items → InsertsDefinition c.values u o.results.items w.results.items k v ty
      → ((q t : ℕ) → NamesDefinition c.values q t → IsDefined c.values t)
      → DefinesValue c (with_operation c p o w here u c.targets n) v ty
  result-defined_now payload operands successors ty is within joined known = value-defined c (with_operation c p o w here u c.targets n) (ByOp p) (λ f ne. definitions-elsewhere c p o w here u c.targets n f ne) inv
      k v ty joined.thread is (subst (λ ds. k ≤ length ds) (sym (results-of c p o here)) within)
      (definitions-here c p o w here u c.targets n ∙ joined.inserted ∙ ap (λ ds. insert ds k (record { number = v.number; ty = ty; thread = joined.thread })) (sym (results-of c p o here)))
      (operation_edit-used c (with_operation c p o w here u c.targets n) v p _
      (result-joined-seen c p o w here operands successors u k v ty is within joined n payload known) (λ x. refl))
      known

  pub result-forgotten : (x : Definition) → slice_get o.results.items k ≡ Some x → w.results.items ≡ remove o.results.items k → v ≡ value_for (ByOp p) x → ForgetsValue c (with_operation c p o w here u c.targets n) v
  result-forgotten x stood removed is = value-forgotten c (with_operation c p o w here u c.targets n) (ByOp p) (λ f ne. definitions-elsewhere c p o w here u c.targets n f ne) inv
      k x (ap (λ ds. slice_get ds k) (results-of c p o here) ∙ stood)
      (definitions-here c p o w here u c.targets n ∙ removed ∙ ap (λ ds. remove ds k) (sym (results-of c p o here)))
      v is

-- at an argument
module _ {O B : Type 0} (c : Program O B) (p : Ptr BasicBlock) (b w : BlockRecord B) (here : get c.forest.blocks p.key ≡ Some b) (u : Uses Value) (n : ℕ) (inv : IsProgram c) (k : ℕ) (v : Value) where
  pub argument-defined_now : w.payload ≡ b.payload → w.thread ≡ b.thread
      → (ty : TypeHandle) → v ≡ record { definer = ByBlock p; number = c.counter } → k ≤ length b.arguments.items → InsertsDefinition c.values u b.arguments.items w.arguments.items k v ty
      → ((q t : ℕ) → NamesDefinition c.values q t → IsDefined c.values t)
      → DefinesValue c (with_block c p b w here u c.targets n) v ty
  argument-defined_now payload thread ty is within joined known = value-defined c (with_block c p b w here u c.targets n) (ByBlock p) (λ f ne. arguments-elsewhere c p b w here u c.targets n f ne) inv
      k v ty joined.thread is (subst (λ ds. k ≤ length ds) (sym (arguments-of c p b here)) within)
      (arguments-here c p b w here u c.targets n ∙ joined.inserted ∙ ap (λ ds. insert ds k (record { number = v.number; ty = ty; thread = joined.thread })) (sym (arguments-of c p b here)))
      (block_edit-used c (with_block c p b w here u c.targets n) v p _
      (argument-joined-seen c p b w here thread u k v ty is within joined n payload known))
      known

  pub argument-forgotten : (x : Definition) → slice_get b.arguments.items k ≡ Some x → w.arguments.items ≡ remove b.arguments.items k → v ≡ value_for (ByBlock p) x → ForgetsValue c (with_block c p b w here u c.targets n) v
  argument-forgotten x stood removed is = value-forgotten c (with_block c p b w here u c.targets n) (ByBlock p) (λ f ne. arguments-elsewhere c p b w here u c.targets n f ne) inv
      k x (ap (λ ds. slice_get ds k) (arguments-of c p b here) ∙ stood)
      (arguments-here c p b w here u c.targets n ∙ removed ∙ ap (λ ds. remove ds k) (sym (arguments-of c p b here)))
      v is
