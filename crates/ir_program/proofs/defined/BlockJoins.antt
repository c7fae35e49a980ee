-- A value joins the arguments of a block, or leaves them.
use Rattle.std.proofs.Common.{◌≡◌, ◌↔◌, ℕ, ◌≤◌, ◌+◌, ⊎_elim, List, [], map, length, Some, None, IsSome, option_map, unwrap_or, refl, sym, ap, ◌∙◌, subst, arith, slice_get, insert, remove}
use Rattle.std.proofs.lemmas.List.{length-map}
use Rattle.ir_base.specs.declared.types.TypeHandle.{TypeHandle}
use Rattle.ir_arena.specs.Arena.{get}
use Rattle.ir_entities.specs.Links.{AreDistinctNumbers}
use Rattle.ir_entities.specs.Uses.{Uses, key_of, place_of, NamesDefinition, IsDefined}
use Rattle.ir_entities.proofs.Placed.{placed-same}
use Rattle.ir_program.specs.Program.{Program, BlockView, typed_value, operation_of, block_of, definitions_of, numbered, value_named, type_at, value_in, arguments_at, argument_count}
use Rattle.ir_program.specs.Sound.{IsProgram, IsThreaded, AreNumbered, DefinitionsHaveOwnNumbers, operand_row, thread_of_block}
use Rattle.ir_program.specs.Edits.{EditsBlock, IsUnchanged}
use Rattle.ir_program.specs.Making.{InsertsDefinition, RemovesDefinition}
use Rattle.ir_program.specs.Uses.{IsUsed}
use Rattle.ir_program.specs.declared.handles.Ptr.{Ptr}
use Rattle.ir_program.specs.declared.handles.BasicBlock.{BasicBlock}
use Rattle.ir_program.specs.declared.handles.Value.{Value}
use Rattle.ir_program.specs.declared.handles.DefiningEntity.{DefiningEntity}
use Rattle.ir_program.specs.declared.handles.DefiningEntity.TheVariants.{Block as ByBlock}
use Rattle.ir_program.specs.declared.records.Definition.{Definition}
use Rattle.ir_program.specs.declared.records.BlockRecord.{BlockRecord}
use Rattle.ir_program.proofs.made.Lent.{get-lent, get-lent_other}
use Rattle.ir_program.proofs.made.Frames.{block-to-same, with_block, block-edited, arguments-here, arguments-elsewhere, names-kept, map-same, same_or_not, other_key}
use Rattle.ir_program.proofs.defined.Arrivals.{same_definer}
use Rattle.ir_program.proofs.defined.Joins.{found, threaded-joined, threaded-left, map-insert, map-remove}
use Rattle.ir_program.proofs.defined.Numbers.{numbers_of, numbered-joined, numbered-later, numbered-removed}
use Rattle.ir_program.proofs.defined.Stands.{value_for, arguments-of, argument-shown, type-gone}
use Rattle.ir_program.proofs.defined.Leaves.{IsFreeAt, free-argument, thread-defined, thread-unnamed, names-left}
use Rattle.ir_program.proofs.defined.OwnNumbers.{own-same, own-joined, own-left}

-- a block whose arguments change and whose thread doesn't
module _ {O B : Type 0} (c : Program O B) (p : Ptr BasicBlock) (b w : BlockRecord B) (here : get c.forest.blocks p.key ≡ Some b) (thread : w.thread ≡ b.thread) where
  block_threads : (u : Uses Value) (n : ℕ) (q : Ptr BasicBlock) → thread_of_block (with_block c p b w here u c.targets n) q ≡ thread_of_block c q
  block_threads u n q = ⊎_elim
      (λ (e : q ≡ p). subst (λ x. thread_of_block (with_block c p b w here u c.targets n) x ≡ thread_of_block c x) (sym e)
      (ap (option_map (λ (x : BlockRecord B). x.thread)) (get-lent c.forest.blocks p.key b w here) ∙ ap Some thread ∙ sym (ap (option_map (λ (x : BlockRecord B). x.thread)) here)))
      (λ ne. ap (option_map (λ (x : BlockRecord B). x.thread)) (get-lent_other c.forest.blocks p.key b w here q.key (other_key q p ne)))
      (same_or_not q p)

  -- all is sound where threads and numbers are
  pub arguments-sound : (u : Uses Value) (n : ℕ) → IsProgram c → u.places ≡ c.values.places → c.counter ≤ n
      → IsThreaded (found (definitions_of (with_block c p b w here u c.targets n))) u
      → AreNumbered n w.arguments.items → DefinitionsHaveOwnNumbers (definitions_of (with_block c p b w here u c.targets n))
      → IsProgram (with_block c p b w here u c.targets n)
  arguments-sound u n inv places later threads numbers own = record {
    operands = placed-same (place_of c.values) (operand_row c) inv.operands (place_of u) (operand_row c) (λ q. ap (λ ps. place_of (record u { places = ps }) q) places) (λ i. refl);
    successors = inv.successors;
    values = threads;
    blocks = λ q t. subst (λ x. (x ≡ Some t) ↔ (key_of c.targets t ≡ Some q)) (sym (block_threads u n q)) (inv.blocks q t);
    numbers = λ e. ⊎_elim
        (λ (q : e ≡ ByBlock p). subst (AreNumbered n) (sym (ap (definitions_of (with_block c p b w here u c.targets n)) q ∙ arguments-here c p b w here u c.targets n)) numbers)
        (λ ne. subst (AreNumbered n) (sym (arguments-elsewhere c p b w here u c.targets n e ne)) (numbered-later c.counter n (definitions_of c e) later (inv.numbers e)))
        (same_definer e (ByBlock p));
    own = own;
    homes = inv.homes;
  }

  -- what is seen of the block and of all else
  pub arguments-seen : (u : Uses Value) (n : ℕ) (f : BlockView B → BlockView B) → u.places ≡ c.values.places → ((q d : ℕ) → NamesDefinition c.values q d → key_of u d ≡ key_of c.values d)
      → w.payload ≡ b.payload
      → ((v : BlockView B) → f v ≡ record v { arguments = (f v).arguments })
      → map (typed_value (ByBlock p)) w.arguments.items ≡ (f (block_of c p b)).arguments
      → EditsBlock c (with_block c p b w here u c.targets n) p f
  arguments-seen u n f places keys payload only arguments =
      let named : (x : ℕ) → value_named u x ≡ value_named c.values x = names-kept _ c.values u places keys in
      let row : (xs : List ℕ) → map (value_named u) xs ≡ map (value_named c.values) xs = λ xs. map-same _ _ xs (λ k x e. named x) in
      block-edited c p b w here u c.targets n f
      (rw (payload, arguments) (sym (only (block_of c p b))))
      (λ q r e. ap (λ l. record (operation_of c q r) { operands = l }) (row r.operands.items))

  -- the record as it was makes the program as it was
  same-definitions : (u : Uses Value) (n : ℕ) → w.arguments.items ≡ b.arguments.items → (e : DefiningEntity) → definitions_of (with_block c p b w here u c.targets n) e ≡ definitions_of c e
  same-definitions u n same e = ⊎_elim
      (λ (q : e ≡ ByBlock p). subst (λ x. definitions_of (with_block c p b w here u c.targets n) x ≡ definitions_of c x) (sym q)
      (arguments-here c p b w here u c.targets n ∙ same ∙ sym (arguments-of c p b here)))
      (λ ne. arguments-elsewhere c p b w here u c.targets n e ne)
      (same_definer e (ByBlock p))

  pub same-block-sound : (u : Uses Value) → u ≡ c.values → IsProgram c → w.arguments.items ≡ b.arguments.items → IsProgram (with_block c p b w here u c.targets c.counter)
  same-block-sound u is inv same = subst (λ x. IsProgram (with_block c p b w here x c.targets c.counter)) (sym is) (arguments-sound c.values c.counter inv refl (omega arith)
      (λ v t. subst (λ ds. (option_map (λ (d : Definition). d.thread) (numbered v.number ds) ≡ Some t) ↔ (key_of c.values t ≡ Some v)) (sym (same-definitions c.values c.counter same v.definer)) (inv.values v t))
      (subst (AreNumbered c.counter) (arguments-of c p b here ∙ sym same) (inv.numbers (ByBlock p)))
      (own-same (definitions_of c) (definitions_of (with_block c p b w here c.values c.targets c.counter)) inv.own (same-definitions c.values c.counter same)))

  pub same-block : (u : Uses Value) → u ≡ c.values → w.payload ≡ b.payload → w.arguments.items ≡ b.arguments.items → IsUnchanged c (with_block c p b w here u c.targets c.counter)
  same-block u is payload same =
      let edits : EditsBlock c (with_block c p b w here c.values c.targets c.counter) p (λ v. v) =
      arguments-seen c.values c.counter (λ v. v) refl (λ q d h. refl) payload (λ v. refl) (ap (map (typed_value (ByBlock p))) same) in
      subst (λ x. IsUnchanged c (with_block c p b w here x c.targets c.counter)) (sym is) (block-to-same c _ p edits refl)

  -- an argument joins the others
  module _ (u : Uses Value) (k : ℕ) (v : Value) (ty : TypeHandle) (is_new : v ≡ record { definer = ByBlock p; number = c.counter }) (within : k ≤ length b.arguments.items) (joined : InsertsDefinition c.values u b.arguments.items w.arguments.items k v ty) where
    joins : InsertsDefinition c.values u b.arguments.items w.arguments.items k (record { definer = ByBlock p; number = c.counter }) ty
    joins = subst (λ x. InsertsDefinition c.values u b.arguments.items w.arguments.items k x ty) is_new joined

    pub argument-joined-sound : (n : ℕ) → n ≡ c.counter + 1 → IsProgram c → IsProgram (with_block c p b w here u c.targets n)
    argument-joined-sound n is inv =
        let was : AreNumbered c.counter b.arguments.items = subst (AreNumbered c.counter) (arguments-of c p b here) (inv.numbers (ByBlock p)) in
        arguments-sound u n inv joins.places (omega (arith, is))
        (threaded-joined (definitions_of c) (definitions_of (with_block c p b w here u c.targets n)) (ByBlock p) (λ f ne. arguments-elsewhere c p b w here u c.targets n f ne) c.values u k c.counter ty
        (subst (λ ds. k ≤ length ds) (sym (arguments-of c p b here)) within) (inv.numbers (ByBlock p))
        (rw (arguments-of c p b here, arguments-here c p b w here u c.targets n) joins)
        inv.values)
        (rw (joins.inserted, is) (numbered-joined c.counter b.arguments.items k _ within refl was))
        (own-joined (definitions_of c) (definitions_of (with_block c p b w here u c.targets n)) inv.own (ByBlock p) c.counter inv.numbers (λ f ne. arguments-elsewhere c p b w here u c.targets n f ne) k (record { number = c.counter; ty = ty; thread = joins.thread }) (arguments-here c p b w here u c.targets n ∙ joins.inserted ∙ ap (λ l. insert l k (record { number = c.counter; ty = ty; thread = joins.thread })) (sym (arguments-of c p b here))) refl)

    pub argument-joined-seen : (n : ℕ) → w.payload ≡ b.payload → ((q d : ℕ) → NamesDefinition c.values q d → IsDefined c.values d)
        → EditsBlock c (with_block c p b w here u c.targets n) p (λ x. record x { arguments = insert x.arguments k (record { value = v; ty = ty }) })
    argument-joined-seen n payload known =
        subst (λ y. EditsBlock c (with_block c p b w here u c.targets n) p (λ x. record x { arguments = insert x.arguments k (record { value = y; ty = ty }) })) (sym is_new) (arguments-seen u n _ joins.places
        (λ q d names. joins.defined.others d (λ e. let h : IsSome (key_of c.values d) = known q d names in let f : key_of c.values d ≡ None = ap (key_of c.values) e ∙ joins.fresh in cc))
        payload (λ v. refl)
        (ap (map (typed_value (ByBlock p))) joins.inserted ∙ map-insert (typed_value (ByBlock p)) b.arguments.items k _ within))

  -- an argument leaves the others
  module _ (u : Uses Value) (k : ℕ) (left : RemovesDefinition c.values u b.arguments.items w.arguments.items k) (inv : IsProgram c) where
    pub argument-left-sound : IsProgram (with_block c p b w here u c.targets c.counter)
    argument-left-sound =
        let was : AreNumbered c.counter b.arguments.items = subst (AreNumbered c.counter) (arguments-of c p b here) (inv.numbers (ByBlock p)) in
        arguments-sound u c.counter inv left.places (omega arith)
        (threaded-left (definitions_of c) (definitions_of (with_block c p b w here u c.targets c.counter)) (ByBlock p) (λ f ne. arguments-elsewhere c p b w here u c.targets c.counter f ne) c.values u k (inv.numbers (ByBlock p)).distinct
        (rw (arguments-of c p b here, arguments-here c p b w here u c.targets c.counter) left)
        inv.values)
        (rw left.removed (numbered-removed c.counter b.arguments.items k was))
        (own-left (definitions_of c) (definitions_of (with_block c p b w here u c.targets c.counter)) inv.own (ByBlock p) c.counter inv.numbers (λ f ne. arguments-elsewhere c p b w here u c.targets c.counter f ne) k (arguments-here c p b w here u c.targets c.counter ∙ left.removed ∙ ap (λ l. remove l k) (sym (arguments-of c p b here))))

    pub argument-left-seen : w.payload ≡ b.payload → IsFreeAt c (ByBlock p) k → EditsBlock c (with_block c p b w here u c.targets c.counter) p (λ x. record x { arguments = remove x.arguments k })
    argument-left-seen payload free = arguments-seen u c.counter _ left.places
        (names-left c inv (ByBlock p) b.arguments.items (arguments-of c p b here) k free u w.arguments.items left)
        payload (λ v. refl)
        (ap (map (typed_value (ByBlock p))) left.removed ∙ map-remove (typed_value (ByBlock p)) b.arguments.items k)

    pub argument-gone : (x : Definition) → slice_get b.arguments.items k ≡ Some x → (v : Value) → v ≡ value_for (ByBlock p) x → type_at (with_block c p b w here u c.targets c.counter) v ≡ None
    argument-gone x stood v is = rw is (type-gone (with_block c p b w here u c.targets c.counter) (ByBlock p) b.arguments.items k x (arguments-here c p b w here u c.targets c.counter ∙ left.removed) stood
        (subst (λ l. AreDistinctNumbers (numbers_of l)) (arguments-of c p b here) (inv.numbers (ByBlock p)).distinct))

-- so many arguments are seen as the record has
pub arguments-within : {O B : Type 0} (c d : Program O B) → c ≡ d → (p : Ptr BasicBlock) (b : BlockRecord B) → get c.forest.blocks p.key ≡ Some b → (k : ℕ) → k ≤ argument_count d p → k ≤ length b.arguments.items
arguments-within c d is p b here k le =
    let e : argument_count c p ≡ length (map (typed_value (ByBlock p)) b.arguments.items) = ap (λ x. length (unwrap_or (option_map (λ (v : BlockView _). v.arguments) (option_map (block_of c p) x)) [])) here in
    let m : length (map (typed_value (ByBlock p)) b.arguments.items) ≡ length b.arguments.items = length-map _ _ in
    subst (λ n. k ≤ n) (e ∙ m) (rw is le)

-- of an argument that leaves
module _ {O B : Type 0} (c d : Program O B) (view : c ≡ d) (p : Ptr BasicBlock) (b : BlockRecord B) (here : get c.forest.blocks p.key ≡ Some b) (k : ℕ) where
  pub argument-defined : IsProgram c → (x : Definition) → slice_get b.arguments.items k ≡ Some x → IsDefined c.values x.thread
  argument-defined inv = thread-defined c inv (ByBlock p) b.arguments.items (arguments-of c p b here) k

  pub argument-unnamed : IsProgram c → ((v : Value) → value_in (arguments_at d p) k ≡ Some v → IsUsed d v → ⊥) → (x : Definition) (q : ℕ) → slice_get b.arguments.items k ≡ Some x → NamesDefinition c.values q x.thread → ⊥
  argument-unnamed inv free = thread-unnamed c inv (ByBlock p) b.arguments.items (arguments-of c p b here) k (free-argument c d view p k free)

  pub argument-left_value : (x : Definition) → slice_get b.arguments.items k ≡ Some x → (v : Value) → v ≡ value_for (ByBlock p) x → value_in (arguments_at d p) k ≡ Some v
  argument-left_value x stood = argument-shown c d view p k x (ap (λ l. slice_get l k) (arguments-of c p b here) ∙ stood)
