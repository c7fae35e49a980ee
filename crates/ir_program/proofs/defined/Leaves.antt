-- A value that no operation takes leaves the results of an operation or the arguments of a block.
use Rattle.std.proofs.Common.{◌≡◌, ℕ, List, map, Some, None, refl, sym, ap, ◌∙◌, subst, arith, slice_get, remove}
use Rattle.ir_arena.specs.Arena.{get}
use Rattle.ir_entities.specs.Links.{AreDistinctNumbers}
use Rattle.ir_entities.specs.Uses.{Uses, key_of, NamesDefinition, IsDefined}
use Rattle.ir_program.specs.Program.{Program, typed_value, definitions_of, type_at, value_in, results_at, arguments_at}
use Rattle.ir_program.specs.Sound.{IsProgram, AreNumbered}
use Rattle.ir_program.specs.Edits.{EditsOperation}
use Rattle.ir_program.specs.Making.{RemovesDefinition}
use Rattle.ir_program.specs.Uses.{IsUsed}
use Rattle.ir_program.specs.declared.handles.Ptr.{Ptr}
use Rattle.ir_program.specs.declared.handles.Operation.{Operation}
use Rattle.ir_program.specs.declared.handles.BasicBlock.{BasicBlock}
use Rattle.ir_program.specs.declared.handles.Value.{Value}
use Rattle.ir_program.specs.declared.handles.DefiningEntity.{DefiningEntity}
use Rattle.ir_program.specs.declared.handles.DefiningEntity.TheVariants.{Op as ByOp, Block as ByBlock}
use Rattle.ir_program.specs.declared.records.Definition.{Definition}
use Rattle.ir_program.specs.declared.records.OperationRecord.{OperationRecord}
use Rattle.ir_program.proofs.made.Frames.{with_operation, definitions-here, definitions-elsewhere}
use Rattle.ir_program.proofs.defined.Joins.{threaded-left, map-remove, results-sound, results-seen}
use Rattle.ir_program.proofs.defined.Numbers.{numbers_of, numbered-removed}
use Rattle.ir_program.proofs.defined.Stands.{value_for, value-seen, results-of, result-shown, results-seen_as, arguments-seen_as, thread-stands, named-used, type-gone}
use Rattle.ir_program.proofs.defined.OwnNumbers.{own-left}

-- no operation takes the value at index k
abbrev pub IsFreeAt : {O B : Type 0} → Program O B → DefiningEntity → ℕ → Type 0
IsFreeAt c e k = (v : Value) → value_in (map (typed_value e) (definitions_of c e)) k ≡ Some v → IsUsed c v → ⊥

module _ {O B : Type 0} (c d : Program O B) (view : c ≡ d) where
  pub free-result : (p : Ptr Operation) (k : ℕ) → ((v : Value) → value_in (results_at d p) k ≡ Some v → IsUsed d v → ⊥) → IsFreeAt c (ByOp p) k
  free-result p k free v h used = free v (ap (λ y. value_in (results_at y p) k) (sym view) ∙ ap (λ l. value_in l k) (results-seen_as c p) ∙ h) (subst (λ y. IsUsed y v) view used)

  pub free-argument : (p : Ptr BasicBlock) (k : ℕ) → ((v : Value) → value_in (arguments_at d p) k ≡ Some v → IsUsed d v → ⊥) → IsFreeAt c (ByBlock p) k
  free-argument p k free v h used = free v (ap (λ y. value_in (arguments_at y p) k) (sym view) ∙ ap (λ l. value_in l k) (arguments-seen_as c p) ∙ h) (subst (λ y. IsUsed y v) view used)

-- its thread is in use, and no place names it
module _ {O B : Type 0} (c : Program O B) (inv : IsProgram c) (e : DefiningEntity) (ds : List Definition) (are : definitions_of c e ≡ ds) (k : ℕ) where
  distinct_numbers : AreDistinctNumbers (numbers_of ds)
  distinct_numbers = subst (λ l. AreDistinctNumbers (numbers_of l)) are (inv.numbers e).distinct

  pub thread-defined : (x : Definition) → slice_get ds k ≡ Some x → IsDefined c.values x.thread
  thread-defined x stands = rw (thread-stands c e ds are k x stands distinct_numbers inv.values) refl

  pub thread-unnamed : IsFreeAt c e k → (x : Definition) (q : ℕ) → slice_get ds k ≡ Some x → NamesDefinition c.values q x.thread → ⊥
  thread-unnamed free x q stands names = free (value_for e x)
      (ap (λ l. value_in (map (typed_value e) l) k) are ∙ value-seen e ds k x stands)
      (named-used c inv (value_for e x) x.thread q (thread-stands c e ds are k x stands distinct_numbers inv.values) names)

  -- once it has left, all places name what they named
  pub names-left : IsFreeAt c e k → (u : Uses Value) (now : List Definition) → RemovesDefinition c.values u ds now k → (q t : ℕ) → NamesDefinition c.values q t → key_of u t ≡ key_of c.values t
  names-left free u now left q t names = left.gone.others t (λ (is : t ≡ left.definition.thread). thread-unnamed free left.definition q left.stood (subst (NamesDefinition c.values q) is names))

-- of a result
module _ {O B : Type 0} (c d : Program O B) (view : c ≡ d) (p : Ptr Operation) (o : OperationRecord O) (here : get c.forest.ops p.key ≡ Some o) (k : ℕ) where
  pub result-defined : IsProgram c → (x : Definition) → slice_get o.results.items k ≡ Some x → IsDefined c.values x.thread
  result-defined inv = thread-defined c inv (ByOp p) o.results.items (results-of c p o here) k

  pub result-unnamed : IsProgram c → ((v : Value) → value_in (results_at d p) k ≡ Some v → IsUsed d v → ⊥) → (x : Definition) (q : ℕ) → slice_get o.results.items k ≡ Some x → NamesDefinition c.values q x.thread → ⊥
  result-unnamed inv free = thread-unnamed c inv (ByOp p) o.results.items (results-of c p o here) k (free-result c d view p k free)

  pub result-left_value : (x : Definition) → slice_get o.results.items k ≡ Some x → (v : Value) → v ≡ value_for (ByOp p) x → value_in (results_at d p) k ≡ Some v
  result-left_value x stood = result-shown c d view p k x (ap (λ l. slice_get l k) (results-of c p o here) ∙ stood)

-- a result leaves
module _ {O B : Type 0} (c : Program O B) (p : Ptr Operation) (o w : OperationRecord O) (here : get c.forest.ops p.key ≡ Some o) (operands : w.operands.items ≡ o.operands.items) (successors : w.successors.items ≡ o.successors.items)
    (u : Uses Value) (k : ℕ) (left : RemovesDefinition c.values u o.results.items w.results.items k) (inv : IsProgram c) where
  was-results : definitions_of c (ByOp p) ≡ o.results.items
  was-results = results-of c p o here

  pub result-left-sound : IsProgram (with_operation c p o w here u c.targets c.counter)
  result-left-sound =
      let was : AreNumbered c.counter o.results.items = subst (AreNumbered c.counter) was-results (inv.numbers (ByOp p)) in
      results-sound c p o w here operands successors u c.counter inv left.places (omega arith)
      (threaded-left (definitions_of c) (definitions_of (with_operation c p o w here u c.targets c.counter)) (ByOp p) (λ f ne. definitions-elsewhere c p o w here u c.targets c.counter f ne) c.values u k (inv.numbers (ByOp p)).distinct
      (rw (was-results, definitions-here c p o w here u c.targets c.counter) left)
      inv.values)
      (rw left.removed (numbered-removed c.counter o.results.items k was))
      (own-left (definitions_of c) (definitions_of (with_operation c p o w here u c.targets c.counter)) inv.own (ByOp p) c.counter inv.numbers (λ f ne. definitions-elsewhere c p o w here u c.targets c.counter f ne) k (definitions-here c p o w here u c.targets c.counter ∙ left.removed ∙ ap (λ l. remove l k) (sym was-results)))

  pub result-left-seen : w.payload ≡ o.payload → IsFreeAt c (ByOp p) k → EditsOperation c (with_operation c p o w here u c.targets c.counter) p (λ x. record x { results = remove x.results k })
  result-left-seen payload free = results-seen c p o w here operands successors u c.counter _ left.places
      (names-left c inv (ByOp p) o.results.items was-results k free u w.results.items left)
      payload (λ v. refl)
      (ap (map (typed_value (ByOp p))) left.removed ∙ map-remove (typed_value (ByOp p)) o.results.items k)

  pub result-gone : (x : Definition) → slice_get o.results.items k ≡ Some x → (v : Value) → v ≡ value_for (ByOp p) x → type_at (with_operation c p o w here u c.targets c.counter) v ≡ None
  result-gone x stood v is = rw is (type-gone (with_operation c p o w here u c.targets c.counter) (ByOp p) o.results.items k x (definitions-here c p o w here u c.targets c.counter ∙ left.removed) stood
      (subst (λ l. AreDistinctNumbers (numbers_of l)) was-results (inv.numbers (ByOp p)).distinct))
