-- Those that use what stands inside an entity stand in it: by slots, and by handles.
use Rattle.std.proofs.Common.{◌≡◌, ◌↔◌, ℕ, Bool, true, IsTrue, List, [], map, Option, Some, None, IsSome, option_map, unwrap_or, slice_get, refl, sym, ap, ◌∙◌, subst}
use Rattle.std.proofs.lemmas.Option.{slice_get-map, same_Some}
use Rattle.ir_entities.specs.declared.forest.Place.{Place}
use Rattle.ir_arena.specs.Arena.{get, held}
use Rattle.ir_entities.specs.Forest.{shape_of, pointer_to}
use Rattle.ir_entities.specs.Links.{has}
use Rattle.ir_entities.specs.Placed.{place_at}
use Rattle.ir_entities.specs.Rows.{IsRowOf}
use Rattle.ir_entities.specs.Shape.{IsInside}
use Rattle.ir_entities.specs.Uses.{Uses, key_of, place_of, named_of, NamesDefinition, IsDefined}
use Rattle.ir_program.specs.Erases.{MakeProgram, value_place, block_place}
use Rattle.ir_program.specs.Erased.{IsApart, definer_node}
use Rattle.ir_program.specs.Forgets.{value_threads_in, block_threads_in}
use Rattle.ir_program.specs.Handles.{handle}
use Rattle.ir_program.specs.Listed.{AreListed}
use Rattle.ir_program.specs.Lists.{StandsInside, IsLiveNode, place_of_node}
use Rattle.ir_program.specs.Program.{Program, OperationView, operation_of, definition_at, named_or}
use Rattle.ir_program.specs.Rows.{operands_at, successors_at}
use Rattle.ir_program.specs.Sound.{IsProgram, operand_row, successor_row}
use Rattle.ir_program.specs.UsersInside.{IsApartAt}
use Rattle.ir_program.specs.declared.handles.Ptr.{Ptr}
use Rattle.ir_program.specs.declared.handles.Operation.{Operation}
use Rattle.ir_program.specs.declared.handles.BasicBlock.{BasicBlock}
use Rattle.ir_program.specs.declared.handles.Value.{Value}
use Rattle.ir_program.specs.declared.handles.IRNode.{IRNode}
use Rattle.ir_program.specs.declared.handles.IRNode.TheVariants.{Operation as OperationNode, BasicBlock as BlockNode}
use Rattle.ir_program.specs.declared.records.Definition.{Definition}
use Rattle.ir_program.specs.declared.records.OperationRecord.{OperationRecord}
use Rattle.ir_program.proofs.erased.Apart.{node_place, live_definer, some_thread}
use Rattle.ir_program.proofs.erased.ForgetThreads.{values-at, blocks-at}
use Rattle.ir_program.proofs.lists.Inside.{inside_by_slots, inside_by_handles}
use Rattle.ir_program.proofs.made.Lent.{some_is}
use Rattle.ir_program.proofs.rows.RowNames.{named-is}
use Rattle.ir_program.proofs.rows.RowReads.{operands-are, successors-are, operand-row, successor-row, operand-named, successor-named, known-block}
use Rattle.ir_program.proofs.defined.Stands.{get-held}
use Rattle.ir_program.proofs.lists.There.{operation_there}

-- what is seen at an index of a row is the key of what a place of that user and index names
pub row-placed : {K : Type 0} (none : K) (u : Uses K) (row : List ℕ) (i k : ℕ) (v : K) → IsRowOf (place_of u) row i → ((x d : ℕ) → NamesDefinition u x d → IsDefined u d)
    → slice_get (map (named_or none u) row) k ≡ Some v → (t : ℕ) × (q : ℕ) × (place_of u q ≡ Some (place_at t i k)) × (key_of u t ≡ Some v)
row-placed {K} none u row i k v rowed known seen = by (slice_get row k) refl (sym (slice_get-map (named_or none u) row k) ∙ seen)
  where
    at : (q d : ℕ) (o : Option K) → place_of u q ≡ Some (place_at d i k) → key_of u d ≡ o → IsSome o → named_or none u q ≡ v → (t : ℕ) × (q : ℕ) × (place_of u q ≡ Some (place_at t i k)) × (key_of u t ≡ Some v)
    at q d None place key defined is = cc
    at q d (Some w) place key defined is = (d, q, place, key ∙ ap Some (sym (named-is none u u refl q d w (ap named_of place) key) ∙ is))

    by : (o : Option ℕ) → slice_get row k ≡ o → option_map (named_or none u) o ≡ Some v → (t : ℕ) × (q : ℕ) × (place_of u q ≡ Some (place_at t i k)) × (key_of u t ≡ Some v)
    by None e h = cc
    by (Some q) e h =
        let its = rowed.held k q e in
        at q its.0 (key_of u its.0) its.1 refl (known q its.0 (ap named_of its.1)) (same_Some _ _ h)

module _ {O B : Type 0} (c : Program O B) (inv : IsProgram c) where
  sound : MakeProgram c.forest c.values c.targets
  sound = (c.counter, inv)

  -- the operation in a slot takes what its places name
  pub place-taken : (q t i k : ℕ) (v : Value) → place_of c.values q ≡ Some (place_at t i k) → key_of c.values t ≡ Some v → slice_get (operands_at c (handle (pointer_to c.forest.ops i))) k ≡ Some v
  place-taken q t i k v place key = by (held c.forest.ops i) refl
    where
      stands : slice_get (operand_row c i) k ≡ Some q
      stands = inv.operands.all q (place_at t i k) place

      by : (r : Option (OperationRecord O)) → held c.forest.ops i ≡ r → slice_get (operands_at c (handle (pointer_to c.forest.ops i))) k ≡ Some v
      by None none = let e : None ≡ Some q = sym (ap (λ o. slice_get (unwrap_or (option_map (λ (y : OperationRecord O). y.operands.items) o) []) k) none) ∙ stands in cc
      by (Some r) some =
          operand-named c (handle (pointer_to c.forest.ops i)) r (get-held c.forest.ops i ∙ some) k q t v
          (sym (ap (λ o. slice_get (unwrap_or (option_map (λ (y : OperationRecord O). y.operands.items) o) []) k) some) ∙ stands)
          (ap named_of place)
          key

  -- and may go on to what its places name
  pub place-gone_to : (q t i k : ℕ) (b : Ptr BasicBlock) → place_of c.targets q ≡ Some (place_at t i k) → key_of c.targets t ≡ Some b → slice_get (successors_at c (handle (pointer_to c.forest.ops i))) k ≡ Some b
  place-gone_to q t i k b place key = by (held c.forest.ops i) refl
    where
      stands : slice_get (successor_row c i) k ≡ Some q
      stands = inv.successors.all q (place_at t i k) place

      by : (r : Option (OperationRecord O)) → held c.forest.ops i ≡ r → slice_get (successors_at c (handle (pointer_to c.forest.ops i))) k ≡ Some b
      by None none = let e : None ≡ Some q = sym (ap (λ o. slice_get (unwrap_or (option_map (λ (y : OperationRecord O). y.successors.items) o) []) k) none) ∙ stands in cc
      by (Some r) some =
          successor-named c (handle (pointer_to c.forest.ops i)) r (get-held c.forest.ops i ∙ some) k q t b
          (sym (ap (λ o. slice_get (unwrap_or (option_map (λ (y : OperationRecord O). y.successors.items) o) []) k) some) ∙ stands)
          (ap named_of place)
          key

  module _ (listed : AreListed c) (x : IRNode) (live : IsLiveNode c x) where
    -- the users of what stands at each place inside x are inside it
    abbrev pub AllApart : Type 0
    AllApart = (at : Place) → IsInside (shape_of c.forest) (place_of_node x) at → IsApartAt c.forest c.values c.targets (place_of_node x) at

    pub apart-at : IsApart c x → AllApart
    apart-at apart at inside = record {
      values = λ t h q i k place.
          let v = (values-at c.forest c.values c.targets sound at).stands t h in
          let there : IsSome (definition_at c v.0) = some_thread (λ (d : Definition). d.thread) (definition_at c v.0) t ((inv.values v.0 t).1 v.1) in
          let stands : StandsInside c x (definer_node v.0.definer) = inside_by_handles c listed x live (definer_node v.0.definer) (live_definer c v.0 there)
          (subst (IsInside (shape_of c.forest) (place_of_node x)) (sym (node_place v.0.definer)) (subst (IsInside (shape_of c.forest) (place_of_node x)) (sym v.2) inside)) in
          inside_by_slots c x (OperationNode (handle (pointer_to c.forest.ops i))) (apart.values (handle (pointer_to c.forest.ops i)) k v.0 (place-taken q t i k v.0 place v.1) stands);
      blocks = λ t h q i k place.
          let b = (blocks-at c.forest c.values c.targets sound at).stands t h in
          let stands : StandsInside c x (BlockNode b.0) = inside_by_handles c listed x live (BlockNode b.0) (known-block c t b.0 inv b.1) (subst (IsInside (shape_of c.forest) (place_of_node x)) (sym b.2) inside) in
          inside_by_slots c x (OperationNode (handle (pointer_to c.forest.ops i))) (apart.blocks (handle (pointer_to c.forest.ops i)) k b.0 (place-gone_to q t i k b.0 place b.1) stands);
    }

    module _ (all : AllApart) where
      values-apart : ((q d : ℕ) → NamesDefinition c.values q d → IsDefined c.values d) → (p : Ptr Operation) (k : ℕ) (v : Value) → slice_get (operands_at c p) k ≡ Some v → StandsInside c x (definer_node v.definer) → StandsInside c x (OperationNode p)
      values-apart known p k v takes w = by (get c.forest.ops p.key) refl
        where
          inside : IsInside (shape_of c.forest) (place_of_node x) (value_place v)
          inside = subst (IsInside (shape_of c.forest) (place_of_node x)) (node_place v.definer) (inside_by_slots c x (definer_node v.definer) w)

          by : (r : Option (OperationRecord O)) → get c.forest.ops p.key ≡ r → StandsInside c x (OperationNode p)
          by None here = let e : None ≡ Some v = sym (ap (λ o. slice_get (unwrap_or (option_map (λ (w : OperationView O). w.operands) (option_map (operation_of c p) o)) []) k) here) ∙ takes in cc
          by (Some o) here =
              let placed = row-placed _ c.values o.operands.items p.key.slot k v (operand-row c p o here inv) known (sym (ap (λ xs. slice_get xs k) (operands-are c p o here)) ∙ takes) in
              let thread : has placed.0 (value_threads_in c.forest (value_place v)) ≡ true = (values-at c.forest c.values c.targets sound (value_place v)).all placed.0 v placed.3 refl in
              inside_by_handles c listed x live (OperationNode p) (operation_there c p (some_is (get c.forest.ops p.key) o here)) ((all (value_place v) inside).values placed.0 thread placed.1 p.key.slot k placed.2)

      blocks-apart : ((q d : ℕ) → NamesDefinition c.targets q d → IsDefined c.targets d) → (p : Ptr Operation) (k : ℕ) (b : Ptr BasicBlock) → slice_get (successors_at c p) k ≡ Some b → StandsInside c x (BlockNode b) → StandsInside c x (OperationNode p)
      blocks-apart known p k b goes w = by (get c.forest.ops p.key) refl
        where
          by : (r : Option (OperationRecord O)) → get c.forest.ops p.key ≡ r → StandsInside c x (OperationNode p)
          by None here = let e : None ≡ Some b = sym (ap (λ o. slice_get (unwrap_or (option_map (λ (w : OperationView O). w.successors) (option_map (operation_of c p) o)) []) k) here) ∙ goes in cc
          by (Some o) here =
              let placed = row-placed _ c.targets o.successors.items p.key.slot k b (successor-row c p o here inv) known (sym (ap (λ xs. slice_get xs k) (successors-are c p o here)) ∙ goes) in
              let thread : has placed.0 (block_threads_in c.forest (block_place b)) ≡ true = (blocks-at c.forest c.values c.targets sound (block_place b)).all placed.0 b placed.3 refl in
              inside_by_handles c listed x live (OperationNode p) (operation_there c p (some_is (get c.forest.ops p.key) o here)) ((all (block_place b) (inside_by_slots c x (BlockNode b) w)).blocks placed.0 thread placed.1 p.key.slot k placed.2)

    pub apart-seen : ((q d : ℕ) → NamesDefinition c.values q d → IsDefined c.values d) → ((q d : ℕ) → NamesDefinition c.targets q d → IsDefined c.targets d) → AllApart → IsApart c x
    apart-seen known_values known_blocks all = record { values = values-apart all known_values; blocks = blocks-apart all known_blocks }

-- the same of the program as its calls see it
pub apart-told : {O B : Type 0} (i c : Program O B) → i ≡ c → IsProgram i → AreListed c → (x : IRNode) → IsLiveNode c x
    → ((q d : ℕ) → NamesDefinition i.values q d → IsDefined i.values d) → ((q d : ℕ) → NamesDefinition i.targets q d → IsDefined i.targets d)
    → (b : Bool) → IsTrue b ↔ ((at : Place) → IsInside (shape_of i.forest) (place_of_node x) at → IsApartAt i.forest i.values i.targets (place_of_node x) at)
    → IsTrue b ↔ IsApart c x
apart-told i c seen inv listed x live known_values known_blocks b told =
    subst (λ (z : Program _ _). AreListed z → IsLiveNode z x → IsTrue b ↔ IsApart z x) seen
    (λ l there. (λ t. apart-seen i inv l x there known_values known_blocks (told.0 t), λ a. told.1 (apart-at i inv l x there a)))
    listed
    live
