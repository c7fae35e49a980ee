-- A value joins the results of an operation or the arguments of a block, or leaves them.
use Rattle.std.proofs.Common.{◌≡◌, ◌≢◌, ◌↔◌, ℕ, zero, suc, ◌≤◌, ◌+◌, ⊎_elim, List, [], ◌∷◌, length, map, Option, Some, None, IsSome, option_map, unwrap_or, refl, sym, ap, ◌∙◌, subst, arith, insert, remove}
use Rattle.std.proofs.lemmas.Bool.{cases_eq}
use Rattle.std.proofs.lemmas.List.{length-map}
use Rattle.ir_base.specs.declared.types.TypeHandle.{TypeHandle}
use Rattle.ir_arena.specs.Arena.{get}
use Rattle.ir_entities.specs.Links.{AreDistinctNumbers}
use Rattle.ir_entities.specs.Uses.{Uses, key_of, place_of, NamesDefinition, IsDefined}
use Rattle.ir_entities.proofs.Placed.{placed-same}
use Rattle.ir_program.specs.Program.{result_count, Program, OperationView, typed_value, operation_of, definitions_of, numbered, value_named}
use Rattle.ir_program.specs.Sound.{IsProgram, IsThreaded, AreNumbered, DefinitionsHaveOwnNumbers, operand_row, successor_row}
use Rattle.ir_program.specs.Edits.{EditsOperation, IsUnchanged}
use Rattle.ir_program.specs.Making.{InsertsDefinition, RemovesDefinition}
use Rattle.ir_program.specs.declared.handles.Ptr.{Ptr}
use Rattle.ir_program.specs.declared.handles.Operation.{Operation}
use Rattle.ir_program.specs.declared.handles.Value.{Value}
use Rattle.ir_program.specs.declared.handles.DefiningEntity.{DefiningEntity}
use Rattle.ir_program.specs.declared.handles.DefiningEntity.TheVariants.{Op as ByOp}
use Rattle.ir_program.specs.declared.records.Definition.{Definition}
use Rattle.ir_program.specs.declared.records.OperationRecord.{OperationRecord}
use Rattle.ir_program.proofs.made.Lent.{held-was, held-lent, held-lent_other}
use Rattle.ir_program.proofs.made.Frames.{edited-to-same, with_operation, operation-edited, definitions-here, definitions-elsewhere, names-kept, map-same}
use Rattle.ir_program.proofs.defined.Numbers.{numbered-joined, numbered-later, numbers_of}
use Rattle.ir_program.proofs.defined.Arrivals.{same_definer, same_value, joined-here, joined-fresh, joined-others, left-was, left-nowhere, left-others}
use Rattle.ir_program.proofs.defined.OwnNumbers.{own-same, own-joined}

-- the definitions of each entity, as a function, and the value that a definer and a number make
abbrev pub found : (DefiningEntity → List Definition) → Value → Option ℕ
found ds v = option_map (λ (d : Definition). d.thread) (numbered v.number (ds v.definer))

module _ (old new : DefiningEntity → List Definition) (e : DefiningEntity) (rest : (f : DefiningEntity) → f ≢ e → new f ≡ old f) where
  -- threads and keys fit still once a value with a new number has joined
  pub threaded-joined : (u w : Uses Value) (k n : ℕ) (ty : TypeHandle) → k ≤ length (old e) → AreNumbered n (old e)
      → InsertsDefinition u w (old e) (new e) k (record { definer = e; number = n }) ty
      → IsThreaded (found old) u → IsThreaded (found new) w
  threaded-joined u w k n ty le numbers joins threads v t = (to, from)
    where
      d : Definition
      d = record { number = n; ty = ty; thread = joins.thread }

      nv : Value
      nv = record { definer = e; number = n }

      here : found new nv ≡ Some joins.thread
      here = ap (option_map (λ (x : Definition). x.thread)) (joined-here old new e rest n k d le joins.inserted refl numbers)

      free : found old nv ≡ None
      free = ap (option_map (λ (x : Definition). x.thread)) (joined-fresh old new e rest n numbers)

      others : (x : Value) → x ≢ nv → found new x ≡ found old x
      others x ne = ap (option_map (λ (z : Definition). z.thread)) (joined-others old new e rest k d le joins.inserted x ne)

      to : found new v ≡ Some t → key_of w t ≡ Some v
      to h = ⊎_elim
          (λ (q : v ≡ nv). let s : Some joins.thread ≡ Some t = sym here ∙ ap (found new) (sym q) ∙ h in let r : joins.thread ≡ t = cc in ap (key_of w) (sym r) ∙ joins.defined.changed ∙ ap Some (sym q))
          (λ nq. let was : key_of u t ≡ Some v = (threads v t).0 (sym (others v nq) ∙ h) in
          let ne : t ≢ joins.thread = λ r. let s : None ≡ Some v = sym joins.fresh ∙ ap (key_of u) (sym r) ∙ was in cc in
          joins.defined.others t ne ∙ was)
          (same_value v nv)

      from : key_of w t ≡ Some v → found new v ≡ Some t
      from h = ⊎_elim
          (λ (r : t ≡ joins.thread). let s : Some nv ≡ Some v = sym joins.defined.changed ∙ ap (key_of w) (sym r) ∙ h in let q : nv ≡ v = cc in ap (found new) (sym q) ∙ here ∙ ap Some (sym r))
          (λ ne. let was : key_of u t ≡ Some v = sym (joins.defined.others t ne) ∙ h in
          let old-is : found old v ≡ Some t = (threads v t).1 was in
          others v (λ q. let s : None ≡ Some t = sym free ∙ ap (found old) (sym q) ∙ old-is in cc) ∙ old-is)
          (cases_eq t joins.thread)

  -- threads and keys fit still once a value has left
  pub threaded-left : (u w : Uses Value) (k : ℕ) → AreDistinctNumbers (numbers_of (old e))
      → RemovesDefinition u w (old e) (new e) k
      → IsThreaded (found old) u → IsThreaded (found new) w
  threaded-left u w k distinct leaves threads v t = (to, from)
    where
      d : Definition
      d = leaves.definition

      gone : Value
      gone = record { definer = e; number = d.number }

      was-here : found old gone ≡ Some d.thread
      was-here = ap (option_map (λ (x : Definition). x.thread)) (left-was old new e rest k d leaves.stood distinct)

      key-was : key_of u d.thread ≡ Some gone
      key-was = (threads gone d.thread).0 was-here

      nowhere : found new gone ≡ None
      nowhere = ap (option_map (λ (x : Definition). x.thread)) (left-nowhere old new e rest k d leaves.stood leaves.removed distinct)

      others : (x : Value) → x ≢ gone → found new x ≡ found old x
      others x ne = ap (option_map (λ (z : Definition). z.thread)) (left-others old new e rest k d leaves.stood leaves.removed x ne)

      to : found new v ≡ Some t → key_of w t ≡ Some v
      to h =
          let ne : v ≢ gone = λ q. let s : None ≡ Some t = sym nowhere ∙ ap (found new) (sym q) ∙ h in cc in
          let was : key_of u t ≡ Some v = (threads v t).0 (sym (others v ne) ∙ h) in
          let nt : t ≢ d.thread = λ r. let s : Some v ≡ Some gone = sym was ∙ ap (key_of u) r ∙ key-was in let q : v ≡ gone = cc in ne q in
          leaves.gone.others t nt ∙ was

      from : key_of w t ≡ Some v → found new v ≡ Some t
      from h =
          let nt : t ≢ d.thread = λ r. let s : None ≡ Some v = sym leaves.gone.changed ∙ ap (key_of w) (sym r) ∙ h in cc in
          let was : key_of u t ≡ Some v = sym (leaves.gone.others t nt) ∙ h in
          let old-is : found old v ≡ Some t = (threads v t).1 was in
          let ne : v ≢ gone = λ q. let s : Some t ≡ Some d.thread = sym old-is ∙ ap (found old) q ∙ was-here in let r : t ≡ d.thread = cc in nt r in
          others v ne ∙ old-is

-- a list with an item put in, item by item
pub map-insert : {X Y : Type 0} (f : X → Y) (xs : List X) (k : ℕ) (x : X) → k ≤ length xs → map f (insert xs k x) ≡ insert (map f xs) k (f x)
map-insert f [] zero x h = refl
map-insert f [] (suc k) x h = absurd (omega arith)
map-insert f (y ∷ xs) zero x h = refl
map-insert f (y ∷ xs) (suc k) x h = ap (λ l. f y ∷ l) (map-insert f xs k x (omega arith))

pub map-remove : {X Y : Type 0} (f : X → Y) (xs : List X) (k : ℕ) → map f (remove xs k) ≡ remove (map f xs) k
map-remove f [] zero = refl
map-remove f [] (suc k) = refl
map-remove f (y ∷ xs) zero = refl
map-remove f (y ∷ xs) (suc k) = ap (λ l. f y ∷ l) (map-remove f xs k)

-- an operation whose results change and whose rows don't
module _ {O B : Type 0} (c : Program O B) (p : Ptr Operation) (o w : OperationRecord O) (here : get c.forest.ops p.key ≡ Some o) (operands : w.operands.items ≡ o.operands.items) (successors : w.successors.items ≡ o.successors.items) where
  operand_rows : (u : Uses Value) (n i : ℕ) → operand_row (with_operation c p o w here u c.targets n) i ≡ operand_row c i
  operand_rows u n i = ⊎_elim
      (λ (e : i ≡ p.key.slot). subst (λ j. operand_row (with_operation c p o w here u c.targets n) j ≡ operand_row c j) (sym e)
      (ap (λ x. unwrap_or (option_map (λ (r : OperationRecord O). r.operands.items) x) []) (held-lent c.forest.ops p.key o w here) ∙ operands ∙ sym (ap (λ x. unwrap_or (option_map (λ (r : OperationRecord O). r.operands.items) x) []) (held-was c.forest.ops p.key o w here))))
      (λ ne. ap (λ x. unwrap_or (option_map (λ (r : OperationRecord O). r.operands.items) x) []) (held-lent_other c.forest.ops p.key o w here i ne))
      (cases_eq i p.key.slot)

  successor_rows : (u : Uses Value) (n i : ℕ) → successor_row (with_operation c p o w here u c.targets n) i ≡ successor_row c i
  successor_rows u n i = ⊎_elim
      (λ (e : i ≡ p.key.slot). subst (λ j. successor_row (with_operation c p o w here u c.targets n) j ≡ successor_row c j) (sym e)
      (ap (λ x. unwrap_or (option_map (λ (r : OperationRecord O). r.successors.items) x) []) (held-lent c.forest.ops p.key o w here) ∙ successors ∙ sym (ap (λ x. unwrap_or (option_map (λ (r : OperationRecord O). r.successors.items) x) []) (held-was c.forest.ops p.key o w here))))
      (λ ne. ap (λ x. unwrap_or (option_map (λ (r : OperationRecord O). r.successors.items) x) []) (held-lent_other c.forest.ops p.key o w here i ne))
      (cases_eq i p.key.slot)

  -- all is sound where threads and numbers are
  pub results-sound : (u : Uses Value) (n : ℕ) → IsProgram c → u.places ≡ c.values.places → c.counter ≤ n
      → IsThreaded (found (definitions_of (with_operation c p o w here u c.targets n))) u
      → AreNumbered n w.results.items → DefinitionsHaveOwnNumbers (definitions_of (with_operation c p o w here u c.targets n))
      → IsProgram (with_operation c p o w here u c.targets n)
  results-sound u n inv places later threads numbers own = record {
    operands = placed-same (place_of c.values) (operand_row c) inv.operands (place_of u) (operand_row (with_operation c p o w here u c.targets n)) (λ q. ap (λ ps. place_of (record u { places = ps }) q) places) (operand_rows u n);
    successors = placed-same (place_of c.targets) (successor_row c) inv.successors (place_of c.targets) (successor_row (with_operation c p o w here u c.targets n)) (λ q. refl) (successor_rows u n);
    values = threads;
    blocks = inv.blocks;
    numbers = λ e. ⊎_elim
        (λ (q : e ≡ ByOp p). subst (AreNumbered n) (sym (ap (definitions_of (with_operation c p o w here u c.targets n)) q ∙ definitions-here c p o w here u c.targets n)) numbers)
        (λ ne. subst (AreNumbered n) (sym (definitions-elsewhere c p o w here u c.targets n e ne)) (numbered-later c.counter n (definitions_of c e) later (inv.numbers e)))
        (same_definer e (ByOp p));
    own = own;
    homes = inv.homes;
  }

  -- what is seen of the operation and of all else
  pub results-seen : (u : Uses Value) (n : ℕ) (f : OperationView O → OperationView O) → u.places ≡ c.values.places → ((q d : ℕ) → NamesDefinition c.values q d → key_of u d ≡ key_of c.values d)
      → w.payload ≡ o.payload
      → ((v : OperationView O) → f v ≡ record v { results = (f v).results })
      → map (typed_value (ByOp p)) w.results.items ≡ (f (operation_of c p o)).results
      → EditsOperation c (with_operation c p o w here u c.targets n) p f
  results-seen u n f places keys payload only results =
      let named : (x : ℕ) → value_named u x ≡ value_named c.values x = names-kept _ c.values u places keys in
      let row : (xs : List ℕ) → map (value_named u) xs ≡ map (value_named c.values) xs = λ xs. map-same _ _ xs (λ k x e. named x) in
      operation-edited c p o w here u c.targets n f
      (rw (payload, operands, successors, results, row) (sym (only (operation_of c p o))))
      (λ q r ne e. ap (λ l. record (operation_of c q r) { operands = l }) (row r.operands.items))

  -- the record as it was makes the program as it was
  same-definitions : (u : Uses Value) (n : ℕ) → w.results.items ≡ o.results.items → (e : DefiningEntity) → definitions_of (with_operation c p o w here u c.targets n) e ≡ definitions_of c e
  same-definitions u n same e = ⊎_elim
      (λ (q : e ≡ ByOp p). subst (λ x. definitions_of (with_operation c p o w here u c.targets n) x ≡ definitions_of c x) (sym q)
      (definitions-here c p o w here u c.targets n ∙ same ∙ sym (ap (λ x. unwrap_or (option_map (λ (r : OperationRecord O). r.results.items) x) []) here)))
      (λ ne. definitions-elsewhere c p o w here u c.targets n e ne)
      (same_definer e (ByOp p))

  pub same-record-sound : (u : Uses Value) → u ≡ c.values → IsProgram c → w.results.items ≡ o.results.items → IsProgram (with_operation c p o w here u c.targets c.counter)
  same-record-sound u is inv same = subst (λ x. IsProgram (with_operation c p o w here x c.targets c.counter)) (sym is) (results-sound c.values c.counter inv refl (omega arith)
      (λ v t. subst (λ ds. (option_map (λ (d : Definition). d.thread) (numbered v.number ds) ≡ Some t) ↔ (key_of c.values t ≡ Some v)) (sym (same-definitions c.values c.counter same v.definer)) (inv.values v t))
      (subst (AreNumbered c.counter) (ap (λ x. unwrap_or (option_map (λ (r : OperationRecord O). r.results.items) x) []) here ∙ sym same) (inv.numbers (ByOp p)))
      (own-same (definitions_of c) (definitions_of (with_operation c p o w here c.values c.targets c.counter)) inv.own (same-definitions c.values c.counter same)))

  pub same-record : (u : Uses Value) → u ≡ c.values → w.payload ≡ o.payload → w.results.items ≡ o.results.items → IsUnchanged c (with_operation c p o w here u c.targets c.counter)
  same-record u is payload same =
      let edits : EditsOperation c (with_operation c p o w here c.values c.targets c.counter) p (λ v. v) =
      results-seen c.values c.counter (λ v. v) refl (λ q d h. refl) payload (λ v. refl) (ap (map (typed_value (ByOp p))) same) in
      subst (λ x. IsUnchanged c (with_operation c p o w here x c.targets c.counter)) (sym is) (edited-to-same c _ p edits refl)

  -- a result joins the others
  module _ (u : Uses Value) (k : ℕ) (v : Value) (ty : TypeHandle) (is_new : v ≡ record { definer = ByOp p; number = c.counter }) (within : k ≤ length o.results.items) (joined : InsertsDefinition c.values u o.results.items w.results.items k v ty) where
    joins : InsertsDefinition c.values u o.results.items w.results.items k (record { definer = ByOp p; number = c.counter }) ty
    joins = subst (λ x. InsertsDefinition c.values u o.results.items w.results.items k x ty) is_new joined

    was-results : definitions_of c (ByOp p) ≡ o.results.items
    was-results = ap (λ x. unwrap_or (option_map (λ (r : OperationRecord O). r.results.items) x) []) here

    pub result-joined-sound : (n : ℕ) → n ≡ c.counter + 1 → IsProgram c → IsProgram (with_operation c p o w here u c.targets n)
    result-joined-sound n is inv =
        let was : AreNumbered c.counter o.results.items = subst (AreNumbered c.counter) was-results (inv.numbers (ByOp p)) in
        results-sound u n inv joins.places (omega (arith, is))
        (threaded-joined (definitions_of c) (definitions_of (with_operation c p o w here u c.targets n)) (ByOp p) (λ f ne. definitions-elsewhere c p o w here u c.targets n f ne) c.values u k c.counter ty
        (subst (λ ds. k ≤ length ds) (sym was-results) within) (inv.numbers (ByOp p))
        (rw (was-results, definitions-here c p o w here u c.targets n) joins)
        inv.values)
        (rw (joins.inserted, is) (numbered-joined c.counter o.results.items k _ within refl was))
        (own-joined (definitions_of c) (definitions_of (with_operation c p o w here u c.targets n)) inv.own (ByOp p) c.counter inv.numbers (λ f ne. definitions-elsewhere c p o w here u c.targets n f ne) k (record { number = c.counter; ty = ty; thread = joins.thread }) (definitions-here c p o w here u c.targets n ∙ joins.inserted ∙ ap (λ l. insert l k (record { number = c.counter; ty = ty; thread = joins.thread })) (sym was-results)) refl)

    pub result-joined-seen : (n : ℕ) → w.payload ≡ o.payload → ((q d : ℕ) → NamesDefinition c.values q d → IsDefined c.values d)
        → EditsOperation c (with_operation c p o w here u c.targets n) p (λ x. record x { results = insert x.results k (record { value = v; ty = ty }) })
    result-joined-seen n payload known =
        subst (λ y. EditsOperation c (with_operation c p o w here u c.targets n) p (λ x. record x { results = insert x.results k (record { value = y; ty = ty }) })) (sym is_new) (results-seen u n _ joins.places
        (λ q d names. joins.defined.others d (λ e. let h : IsSome (key_of c.values d) = known q d names in let f : key_of c.values d ≡ None = ap (key_of c.values) e ∙ joins.fresh in cc))
        payload (λ v. refl)
        (ap (map (typed_value (ByOp p))) joins.inserted ∙ map-insert (typed_value (ByOp p)) o.results.items k _ within))

-- so many results are seen as the record has
pub results-within : {O B : Type 0} (c d : Program O B) → c ≡ d → (p : Ptr Operation) (o : OperationRecord O) → get c.forest.ops p.key ≡ Some o → (k : ℕ) → k ≤ result_count d p → k ≤ length o.results.items
results-within c d is p o here k le =
    let e : result_count c p ≡ length (map (typed_value (ByOp p)) o.results.items) = ap (λ x. length (unwrap_or (option_map (λ (v : OperationView _). v.results) (option_map (operation_of c p) x)) [])) here in
    let m : length (map (typed_value (ByOp p)) o.results.items) ≡ length o.results.items = length-map _ _ in
    subst (λ n. k ≤ n) (e ∙ m) (rw is le)
