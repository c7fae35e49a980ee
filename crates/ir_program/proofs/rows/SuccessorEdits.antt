-- An operation whose row of successors is edited.
use Rattle.std.proofs.Common.{◌≡◌, ℕ, ◌++◌, List, [], ◌∷◌, map, ⊎_elim, Some, option_map, unwrap_or, slice_get, insert, remove, set, refl, sym, ap, ◌∙◌, subst}
use Rattle.std.proofs.lemmas.Bool.{cases_eq}
use Rattle.smallvec.specs.SmallVec.{SmallVec}
use Rattle.ir_arena.specs.Arena.{get}
use Rattle.ir_entities.specs.Uses.{Uses, key_of, place_of, named_of, SetsPlace, naming}
use Rattle.ir_entities.specs.Placed.{IsPlaced, KeepsOtherRows}
use Rattle.ir_entities.specs.Rows.{IsRowOf, PushesIn, InsertsIn, RemovesIn}
use Rattle.ir_entities.proofs.Placed.{placed-same, placed-pushed, placed-inserted, placed-removed, placed-renamed}
use Rattle.ir_entities.proofs.RowEdits.{placed-row, pushes-place, inserts-place, removes-place}
use Rattle.ir_program.specs.Program.{Program, OperationView, operation_of, definitions_of, numbered, type_at, block_named}
use Rattle.ir_program.specs.Sound.{IsProgram, AreNumbered, successor_row, operand_row, thread_of_value, thread_of_block}
use Rattle.ir_program.specs.Edits.{EditsOperation, IsUnchanged}
use Rattle.ir_program.specs.declared.handles.Ptr.{Ptr}
use Rattle.ir_program.specs.declared.handles.Operation.{Operation}
use Rattle.ir_program.specs.declared.handles.BasicBlock.{BasicBlock}
use Rattle.ir_program.specs.declared.handles.Value.{Value}
use Rattle.ir_program.specs.declared.handles.DefiningEntity.{DefiningEntity}
use Rattle.ir_program.specs.declared.records.Definition.{Definition}
use Rattle.ir_program.specs.declared.records.OperationRecord.{OperationRecord}
use Rattle.ir_program.proofs.made.Lent.{held-was, held-lent, held-lent_other}
use Rattle.ir_program.proofs.made.Frames.{with_operation, operation-edited, edited-to-same, option_map-same}
use Rattle.ir_program.proofs.rows.RowNames.{KeepsNames, others-named, pushed-keeps, inserted-keeps, removed-keeps, renamed-keeps, pushed-named, inserted-named, removed-named, renamed-named, named-alike}
use Rattle.ir_program.proofs.rows.RowFrames.{same_results, other_slot, threaded-same}
use Rattle.ir_program.proofs.rows.RowReads.{successor-row}
use Rattle.ir_program.proofs.defined.OwnNumbers.{own-same}

module _ {O B : Type 0} (c : Program O B) (p : Ptr Operation) (o : OperationRecord O) (here : get c.forest.ops p.key ≡ Some o) (rows : SmallVec ℕ) where
  -- the operation with these places of successors
  abbrev pub with_successors : OperationRecord O
  with_successors = record o { successors = rows }

  module _ (u : Uses (Ptr BasicBlock)) where
    abbrev pub edited : Program O B
    edited = with_operation c p o with_successors here c.values u c.counter

    pub row-here : successor_row c p.key.slot ≡ o.successors.items
    row-here = ap (λ x. unwrap_or (option_map (λ (r : OperationRecord O). r.successors.items) x) []) (held-was c.forest.ops p.key o with_successors here)

    pub row-now : successor_row edited p.key.slot ≡ rows.items
    row-now = ap (λ x. unwrap_or (option_map (λ (r : OperationRecord O). r.successors.items) x) []) (held-lent c.forest.ops p.key o with_successors here)

    pub rows-other : KeepsOtherRows (successor_row c) (successor_row edited) p.key.slot
    rows-other j n = ap (λ x. unwrap_or (option_map (λ (r : OperationRecord O). r.successors.items) x) []) (held-lent_other c.forest.ops p.key o with_successors here j n)

    operands-same : (i : ℕ) → operand_row edited i ≡ operand_row c i
    operands-same i = ⊎_elim
        (λ (e : i ≡ p.key.slot). subst (λ j. operand_row edited j ≡ operand_row c j) (sym e)
        (ap (λ x. unwrap_or (option_map (λ (r : OperationRecord O). r.operands.items) x) []) (held-lent c.forest.ops p.key o with_successors here)
        ∙ sym (ap (λ x. unwrap_or (option_map (λ (r : OperationRecord O). r.operands.items) x) []) (held-was c.forest.ops p.key o with_successors here))))
        (λ ne. ap (λ x. unwrap_or (option_map (λ (r : OperationRecord O). r.operands.items) x) []) (held-lent_other c.forest.ops p.key o with_successors here i ne))
        (cases_eq i p.key.slot)

    definitions-same : (e : DefiningEntity) → definitions_of edited e ≡ definitions_of c e
    definitions-same = same_results c p o with_successors here c.values u c.counter refl

    -- each value keeps its type
    pub types-same : (v : Value) → type_at edited v ≡ type_at c v
    types-same v = ap (λ ds. option_map (λ (d : Definition). d.ty) (numbered v.number ds)) (definitions-same v.definer)

    -- all is sound where the places fit the rows
    pub successors-sound : IsProgram c → u.definitions ≡ c.targets.definitions → IsPlaced (place_of u) (successor_row edited) → IsProgram edited
    successors-sound inv keys placed = record {
      successors = placed;
      operands = placed-same (place_of c.values) (operand_row c) inv.operands (place_of c.values) (operand_row edited) (λ q. refl) operands-same;
      values = threaded-same (thread_of_value c) (thread_of_value edited) c.values c.values refl (λ v. ap (λ ds. option_map (λ (d : Definition). d.thread) (numbered v.number ds)) (definitions-same v.definer)) inv.values;
      blocks = threaded-same (thread_of_block c) (thread_of_block edited) c.targets u keys (λ b. refl) inv.blocks;
      numbers = λ e. subst (AreNumbered c.counter) (sym (definitions-same e)) (inv.numbers e);
      own = own-same (definitions_of c) (definitions_of edited) inv.own definitions-same;
      homes = inv.homes;
    }

    -- what is seen of the operation, and that all else is seen as it was
    pub successors-seen : IsProgram c → u.definitions ≡ c.targets.definitions → KeepsNames (place_of c.targets) (place_of u) p.key.slot
        → (f : List (Ptr BasicBlock) → List (Ptr BasicBlock)) → map (block_named u) rows.items ≡ f (map (block_named c.targets) o.successors.items)
        → EditsOperation c edited p (λ v. record v { successors = f v.successors })
    successors-seen inv keys keeps f seen =
        operation-edited c p o with_successors here c.values u c.counter (λ v. record v { successors = f v.successors })
        (ap (λ xs. record (operation_of c p o) { successors = xs }) seen)
        (λ q r ne e. ap (λ xs. record (operation_of c q r) { successors = xs })
        (let n = other_slot c.forest.ops p q o r here e ne in
        others-named _ c.targets u keys p.key.slot q.key.slot r.successors.items keeps n
        (subst (λ xs. IsRowOf (place_of c.targets) xs q.key.slot) (ap (λ x. unwrap_or (option_map (λ (r : OperationRecord O). r.successors.items) x) []) (held-was c.forest.ops q.key r r e)) (placed-row (place_of c.targets) (successor_row c) q.key.slot inv.successors))))

    pub successors-unchanged : IsProgram c → u ≡ c.targets → rows.items ≡ o.successors.items → IsUnchanged c edited
    successors-unchanged inv same rows-same =
        let keeps : KeepsNames (place_of c.targets) (place_of u) p.key.slot = λ q x e n. ap (λ (w : Uses (Ptr BasicBlock)). named_of (place_of w q)) same ∙ ap named_of e in
        let seen : map (block_named u) rows.items ≡ map (block_named c.targets) o.successors.items = ap (λ (w : Uses (Ptr BasicBlock)). map (block_named w) rows.items) same ∙ ap (map (block_named c.targets)) rows-same in
        edited-to-same c edited p (successors-seen inv (ap (λ (w : Uses (Ptr BasicBlock)). w.definitions) same) keeps (λ xs. xs) seen) refl

    -- where the places and the row are as they were
    pub kept-sound : IsProgram c → u ≡ c.targets → rows.items ≡ o.successors.items → IsProgram edited
    kept-sound inv same rows-same =
        successors-sound inv (ap (λ (w : Uses (Ptr BasicBlock)). w.definitions) same)
        (placed-same (place_of c.targets) (successor_row c) inv.successors (place_of u) (successor_row edited) (λ q. ap (λ (w : Uses (Ptr BasicBlock)). place_of w q) same)
        (λ i. ⊎_elim
        (λ (e : i ≡ p.key.slot). subst (λ j. successor_row edited j ≡ successor_row c j) (sym e) (row-now ∙ rows-same ∙ sym row-here))
        (λ ne. rows-other i ne)
        (cases_eq i p.key.slot)))

    -- the row of the operation, as that of its slot
    rowed : IsProgram c → IsRowOf (place_of c.targets) o.successors.items p.key.slot
    rowed inv = subst (λ xs. IsRowOf (place_of c.targets) xs p.key.slot) row-here (placed-row (place_of c.targets) (successor_row c) p.key.slot inv.successors)

    -- a successor that comes last
    module _ (inv : IsProgram c) (keys : u.definitions ≡ c.targets.definitions) (q d : ℕ) (v : Ptr BasicBlock) (key : key_of c.targets d ≡ Some v) (pushes : PushesIn (place_of c.targets) (place_of u) o.successors.items rows.items p.key.slot q d) where
      pub pushed-sound : IsProgram edited
      pushed-sound = successors-sound inv keys
          (placed-pushed (place_of c.targets) (place_of u) (successor_row c) (successor_row edited) inv.successors p.key.slot q d
          (pushes-place (place_of c.targets) (place_of u) (successor_row c) (successor_row edited) p.key.slot rows-other q d
          (rw (row-here, row-now) pushes)))

      pub pushed-seen : EditsOperation c edited p (λ w. record w { successors = w.successors ++ v ∷ [] })
      pushed-seen = successors-seen inv keys (pushed-keeps (place_of c.targets) (place_of u) o.successors.items rows.items p.key.slot q d pushes) (λ xs. xs ++ v ∷ [])
          (pushed-named _ c.targets u keys o.successors.items rows.items p.key.slot (rowed inv) q d v pushes key)

    -- a successor that comes in at index k
    module _ (inv : IsProgram c) (keys : u.definitions ≡ c.targets.definitions) (k q d : ℕ) (v : Ptr BasicBlock) (key : key_of c.targets d ≡ Some v) (inserts : InsertsIn (place_of c.targets) (place_of u) o.successors.items rows.items p.key.slot k q d) where
      pub inserted-sound : IsProgram edited
      inserted-sound = successors-sound inv keys
          (placed-inserted (place_of c.targets) (place_of u) (successor_row c) (successor_row edited) inv.successors p.key.slot k q d
          (inserts-place (place_of c.targets) (place_of u) (successor_row c) (successor_row edited) p.key.slot rows-other k q d
          (rw (row-here, row-now) inserts)))

      pub inserted-seen : EditsOperation c edited p (λ w. record w { successors = insert w.successors k v })
      inserted-seen = successors-seen inv keys (inserted-keeps (place_of c.targets) (place_of u) o.successors.items rows.items p.key.slot k q d inserts) (λ xs. insert xs k v)
          (inserted-named _ c.targets u keys o.successors.items rows.items p.key.slot (rowed inv) k q d v inserts key)

    -- the successor at index k goes out
    module _ (inv : IsProgram c) (keys : u.definitions ≡ c.targets.definitions) (k q : ℕ) (removes : RemovesIn (place_of c.targets) (place_of u) o.successors.items rows.items p.key.slot k q) where
      pub removed-sound : IsProgram edited
      removed-sound = successors-sound inv keys
          (placed-removed (place_of c.targets) (place_of u) (successor_row c) (successor_row edited) inv.successors p.key.slot k q
          (removes-place (place_of c.targets) (place_of u) (successor_row c) (successor_row edited) p.key.slot rows-other k q
          (rw (row-here, row-now) removes)))

      pub removed-seen : EditsOperation c edited p (λ w. record w { successors = remove w.successors k })
      removed-seen = successors-seen inv keys (removed-keeps (place_of c.targets) (place_of u) o.successors.items rows.items p.key.slot k q (rowed inv) removes) (λ xs. remove xs k)
          (removed-named _ c.targets u keys o.successors.items rows.items p.key.slot (rowed inv) k q removes)

-- the successor at index k is another block, and the rows of places stay
module _ {O B : Type 0} (c : Program O B) (p : Ptr Operation) (o : OperationRecord O) (here : get c.forest.ops p.key ≡ Some o) (u : Uses (Ptr BasicBlock)) (keys : u.definitions ≡ c.targets.definitions) (inv : IsProgram c)
    (k q d : ℕ) (v : Ptr BasicBlock) (key : key_of c.targets d ≡ Some v) (stood : slice_get o.successors.items k ≡ Some q) (sets : SetsPlace c.targets u q (naming d (place_of c.targets q))) where
  -- the program with these uses of blocks
  abbrev pub renamed : Program O B
  renamed = record c { targets = u }

  pub renamed-sound : IsProgram renamed
  renamed-sound = record {
    operands = inv.operands;
    values = inv.values;
    numbers = inv.numbers;
    own = inv.own;
    homes = inv.homes;
    successors = placed-renamed (place_of c.targets) (successor_row c) inv.successors (place_of u) (named-alike c.targets u q d sets);
    blocks = threaded-same (thread_of_block c) (thread_of_block renamed) c.targets u keys (λ x. refl) inv.blocks;
  }

  own_row : (r : Ptr Operation) (w : OperationRecord O) → get c.forest.ops r.key ≡ Some w → IsRowOf (place_of c.targets) w.successors.items r.key.slot
  own_row r w e = successor-row c r w e inv

  pub renamed-seen : EditsOperation c renamed p (λ w. record w { successors = set w.successors k v })
  renamed-seen =
      let rowed = own_row p o here in
      let keeps : KeepsNames (place_of c.targets) (place_of u) p.key.slot = renamed-keeps c.targets u o.successors.items p.key.slot rowed k q d stood sets in
      record {
        edited =
            ap (option_map (operation_of renamed p)) here
            ∙ ap (λ xs. Some (record (operation_of c p o) { successors = xs })) (renamed-named _ c.targets u keys o.successors.items o.successors.items p.key.slot rowed k q d v stood sets key)
            ∙ sym (ap (λ x. option_map (λ (w : OperationView O). record w { successors = set w.successors k v }) (option_map (operation_of c p) x)) here);
        others = λ r ne. option_map-same _ _ (get c.forest.ops r.key)
            (λ w e. ap (λ xs. record (operation_of c r w) { successors = xs })
            (others-named _ c.targets u keys p.key.slot r.key.slot w.successors.items keeps (other_slot c.forest.ops p r o w here e ne) (own_row r w e)));
        blocks = λ r. refl;
        regions = λ r. refl;
        erased = record { operations = λ r s. s; blocks = λ r s. s; regions = λ r s. s };
      }
