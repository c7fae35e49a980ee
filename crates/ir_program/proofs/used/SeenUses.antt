-- The uses of values and of blocks in a program, from the places that name them.
use Rattle.std.proofs.Common.{◌≡◌, ℕ, List, [], map, length, Option, Some, None, IsSome, option_map, unwrap_or, slice_get, refl, sym, ap, ◌∙◌, subst}
use Rattle.std.proofs.lemmas.Option.{same_Some}
use Rattle.ir_entities.specs.declared.uses.Spot.{Spot}
use Rattle.ir_arena.specs.Arena.{get, held}
use Rattle.ir_entities.specs.Uses.{Uses, PlaceOfUse, key_of, place_of, spot_of, IsDefined, NamesDefinition, AreNamingPlaces as ArePlacesOf}
use Rattle.ir_program.specs.Program.{Program, OperationView, no_handle, operation_of, value_named, block_named}
use Rattle.ir_program.specs.Rows.{operands_at, successors_at}
use Rattle.ir_program.specs.Sound.{IsProgram, IsThreaded, thread_of_value, thread_of_block}
use Rattle.ir_program.specs.Spots.{user_at, operand_use, successor_use}
use Rattle.ir_program.specs.Uses.{AreUsesIn, AreUsesOf, IsUseCount, IsUsed, AreBlockUses, IsPredecessorCount, HasPredecessor}
use Rattle.ir_program.specs.declared.handles.Ptr.{Ptr}
use Rattle.ir_program.specs.declared.handles.Operation.{Operation}
use Rattle.ir_program.specs.declared.handles.BasicBlock.{BasicBlock}
use Rattle.ir_program.specs.declared.handles.Use.{Use}
use Rattle.ir_program.specs.declared.handles.Value.{Value}
use Rattle.ir_program.specs.declared.handles.DefiningEntity.TheVariants.{Op as ByOp}
use Rattle.ir_program.specs.declared.records.BlockRecord.{BlockRecord}
use Rattle.ir_program.specs.declared.records.OperationRecord.{OperationRecord}
use Rattle.ir_program.proofs.defined.Stands.{named-used}
use Rattle.ir_program.proofs.used.NamedUses.{seen_rows, user-held, uses-seen, count-seen, use-place, thread-use}

-- rows that are the same have the same uses
pub uses-same : {K : Type 0} (rows new : Ptr Operation → List K) → ((p : Ptr Operation) → new p ≡ rows p) → (x : K) (us : List (Use K)) → AreUsesIn rows x us → AreUsesIn new x us
uses-same rows new same x us uses = record {
  once = uses.once;
  sound = λ i u e. (ap (λ xs. slice_get xs u.index) (same u.user_op) ∙ (uses.sound i u e).0, (uses.sound i u e).1);
  all = λ u given is. uses.all u (ap (λ xs. slice_get xs u.index) (sym (same u.user_op)) ∙ given) is;
}

-- a key has one thread
pub one-thread : {K : Type 0} (thread : K → Option ℕ) (u : Uses K) → IsThreaded thread u → (x : K) (t : ℕ) → key_of u t ≡ Some x → (d : ℕ) → key_of u d ≡ Some x → d ≡ t
one-thread thread u threads x t key d e = same_Some d t (sym ((threads x d).1 e) ∙ (threads x t).1 key)

-- what a place that is not in use names
abbrev pub no_value : Value
no_value = record { definer = ByOp no_handle; number = 0 }

abbrev pub operand_cell : {O : Type 0} → OperationRecord O → List ℕ
operand_cell o = o.operands.items

abbrev pub successor_cell : {O : Type 0} → OperationRecord O → List ℕ
successor_cell o = o.successors.items

module _ {O B : Type 0} (c : Program O B) where
  -- operands and successors are what the places of operations name
  pub operands-rows : (p : Ptr Operation) → operands_at c p ≡ seen_rows no_value c.values c.forest.ops operand_cell p
  operands-rows p = elim (get c.forest.ops p.key) as (λ x. unwrap_or (option_map (λ (o : OperationView O). o.operands) (option_map (operation_of c p) x)) [] ≡ map (value_named c.values) (unwrap_or (option_map (λ (o : OperationRecord O). o.operands.items) x) [])) [ None ↦ refl | Some o ↦ refl ]

  pub successors-rows : (p : Ptr Operation) → successors_at c p ≡ seen_rows no_handle c.targets c.forest.ops successor_cell p
  successors-rows p = elim (get c.forest.ops p.key) as (λ x. unwrap_or (option_map (λ (o : OperationView O). o.successors) (option_map (operation_of c p) x)) [] ≡ map (block_named c.targets) (unwrap_or (option_map (λ (o : OperationRecord O). o.successors.items) x) [])) [ None ↦ refl | Some o ↦ refl ]

-- the thread of a block names it
pub edge-key : {O B : Type 0} (c : Program O B) (b : Ptr BasicBlock) (r : BlockRecord B) → IsProgram c → get c.forest.blocks b.key ≡ Some r → key_of c.targets r.thread ≡ Some b
edge-key c b r inv here = (inv.blocks b r.thread).0 (ap (option_map (λ (x : BlockRecord _). x.thread)) here)

spotted : (o : Option PlaceOfUse) (s : Spot) → spot_of o ≡ Some s → IsSome o × (user_at o ≡ s.user)
spotted None s e = cc
spotted (Some x) s e = (refl, ap (λ (y : Spot). y.user) (same_Some (record { user = x.user; index = x.index }) s e))

-- of a program as it stands and as it is seen
module _ {O B : Type 0} (c d : Program O B) (view : c ≡ d) (inv : IsProgram c) where
  -- the operation that a place stands at is there
  pub operand-held : (q : ℕ) (s : Spot) → spot_of (place_of c.values q) ≡ Some s → IsSome (held d.forest.ops s.user)
  operand-held q s e =
      let at = spotted (place_of c.values q) s e in
      subst (λ y. IsSome (held y.forest.ops s.user)) view (subst (λ i. IsSome (held c.forest.ops i)) at.1 (user-held no_value c.values c.forest.ops operand_cell inv.operands q at.0))

  pub successor-held : (q : ℕ) (s : Spot) → spot_of (place_of c.targets q) ≡ Some s → IsSome (held d.forest.ops s.user)
  successor-held q s e =
      let at = spotted (place_of c.targets q) s e in
      subst (λ y. IsSome (held y.forest.ops s.user)) view (subst (λ i. IsSome (held c.forest.ops i)) at.1 (user-held no_handle c.targets c.forest.ops successor_cell inv.successors q at.0))

  module _ (t : ℕ) (v : Value) (key : key_of d.values t ≡ Some v) (known : (q e : ℕ) → NamesDefinition c.values q e → IsDefined c.values e) where
    value-key : key_of c.values t ≡ Some v
    value-key = subst (λ y. key_of y.values t ≡ Some v) (sym view) key

    value-thread : (e : ℕ) → key_of c.values e ≡ Some v → e ≡ t
    value-thread = one-thread (thread_of_value c) c.values inv.values v t value-key

    pub value-uses : (ps : List ℕ) → ArePlacesOf c.values t ps → AreUsesOf d v (map (operand_use d) ps)
    value-uses ps uses = subst (λ y. AreUsesOf y v (map (operand_use y) ps)) view
        (uses-same _ (operands_at c) (operands-rows c) v _ (uses-seen no_value c.values c.forest.ops operand_cell inv.operands t v value-key value-thread known ps uses))

    pub value-count : (n : ℕ) → (ps : List ℕ) × ArePlacesOf c.values t ps × (length ps ≡ n) → IsUseCount d v n
    value-count n uses =
        let counted = count-seen no_value c.values c.forest.ops operand_cell inv.operands t v value-key value-thread known n uses in
        subst (λ y. IsUseCount y v n) view (counted.0, uses-same _ (operands_at c) (operands-rows c) v counted.0 counted.1, counted.2)

    -- some operation takes the value exactly where a place names its thread
    pub value-used : (((q : ℕ) × NamesDefinition c.values q t) → IsUsed d v) × (IsUsed d v → (q : ℕ) × NamesDefinition c.values q t)
    value-used = (λ h. subst (λ y. IsUsed y v) view (named-used c inv v t h.0 value-key h.1), λ h. from (subst (λ y. IsUsed y v) (sym view) h))
      where
        from : IsUsed c v → (q : ℕ) × NamesDefinition c.values q t
        from (p, o, e, k, f) =
            let row : slice_get (operands_at c p) k ≡ Some v = ap (λ x. slice_get (unwrap_or (option_map (λ (w : OperationView O). w.operands) x) []) k) e ∙ f in
            let at = use-place no_value c.values c.forest.ops operand_cell inv.operands t v value-key value-thread known (record { user_op = p; index = k; def = v }) (ap (λ xs. slice_get xs k) (sym (operands-rows c p)) ∙ row) refl in
            (at.0, at.1)

  module _ (t : ℕ) (b : Ptr BasicBlock) (key : key_of d.targets t ≡ Some b) (known : (q e : ℕ) → NamesDefinition c.targets q e → IsDefined c.targets e) where
    block-key : key_of c.targets t ≡ Some b
    block-key = subst (λ y. key_of y.targets t ≡ Some b) (sym view) key

    block-thread : (e : ℕ) → key_of c.targets e ≡ Some b → e ≡ t
    block-thread = one-thread (thread_of_block c) c.targets inv.blocks b t block-key

    pub block-uses : (ps : List ℕ) → ArePlacesOf c.targets t ps → AreBlockUses d b (map (successor_use d) ps)
    block-uses ps uses = subst (λ y. AreBlockUses y b (map (successor_use y) ps)) view
        (uses-same _ (successors_at c) (successors-rows c) b _ (uses-seen no_handle c.targets c.forest.ops successor_cell inv.successors t b block-key block-thread known ps uses))

    pub block-count : (n : ℕ) → (ps : List ℕ) × ArePlacesOf c.targets t ps × (length ps ≡ n) → IsPredecessorCount d b n
    block-count n uses =
        let counted = count-seen no_handle c.targets c.forest.ops successor_cell inv.successors t b block-key block-thread known n uses in
        subst (λ y. IsPredecessorCount y b n) view (counted.0, uses-same _ (successors_at c) (successors-rows c) b counted.0 counted.1, counted.2)

    pub block-used : (((q : ℕ) × NamesDefinition c.targets q t) → HasPredecessor d b) × (HasPredecessor d b → (q : ℕ) × NamesDefinition c.targets q t)
    block-used = (λ h. subst (λ y. HasPredecessor y b) view (to h), λ h. from (subst (λ y. HasPredecessor y b) (sym view) h))
      where
        to : (q : ℕ) × NamesDefinition c.targets q t → HasPredecessor c b
        to (q, names) =
            let x = thread-use no_handle c.targets c.forest.ops successor_cell inv.successors t b block-key block-thread known q names in
            (successor_use c q, ap (λ xs. slice_get xs (successor_use c q).index) (successors-rows c (successor_use c q).user_op) ∙ x.0, x.1)

        from : HasPredecessor c b → (q : ℕ) × NamesDefinition c.targets q t
        from (y, given, is) =
            let at = use-place no_handle c.targets c.forest.ops successor_cell inv.successors t b block-key block-thread known y (ap (λ xs. slice_get xs y.index) (sym (successors-rows c y.user_op)) ∙ given) is in
            (at.0, at.1)
