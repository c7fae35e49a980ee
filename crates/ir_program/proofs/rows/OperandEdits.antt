-- An operation whose row of operands is edited.
use Rattle.std.proofs.Common.{◌≡◌, ℕ, ◌++◌, List, [], ◌∷◌, map, ⊎_elim, Some, option_map, unwrap_or, slice_get, insert, remove, set, refl, sym, ap, ◌∙◌, subst}
use Rattle.std.proofs.lemmas.Bool.{cases_eq}
use Rattle.smallvec.specs.SmallVec.{SmallVec}
use Rattle.ir_arena.specs.Arena.{get}
use Rattle.ir_entities.specs.Uses.{Uses, key_of, place_of, named_of, SetsPlace, naming}
use Rattle.ir_entities.specs.Placed.{IsPlaced, KeepsOtherRows}
use Rattle.ir_entities.specs.Rows.{IsRowOf, PushesIn, InsertsIn, RemovesIn}
use Rattle.ir_entities.proofs.Placed.{placed-same, placed-pushed, placed-inserted, placed-removed, placed-renamed}
use Rattle.ir_entities.proofs.RowEdits.{placed-row, pushes-place, inserts-place, removes-place}
use Rattle.ir_program.specs.Program.{Program, OperationView, operation_of, definitions_of, numbered, type_at, value_named}
use Rattle.ir_program.specs.Sound.{IsProgram, AreNumbered, operand_row, successor_row, thread_of_value}
use Rattle.ir_program.specs.Edits.{EditsOperation, IsUnchanged}
use Rattle.ir_program.specs.declared.handles.Ptr.{Ptr}
use Rattle.ir_program.specs.declared.handles.Operation.{Operation}
use Rattle.ir_program.specs.declared.handles.Value.{Value}
use Rattle.ir_program.specs.declared.handles.DefiningEntity.{DefiningEntity}
use Rattle.ir_program.specs.declared.records.Definition.{Definition}
use Rattle.ir_program.specs.declared.records.OperationRecord.{OperationRecord}
use Rattle.ir_program.proofs.made.Lent.{held-was, held-lent, held-lent_other}
use Rattle.ir_program.proofs.made.Frames.{with_operation, operation-edited, edited-to-same, option_map-same}
use Rattle.ir_program.proofs.rows.RowNames.{KeepsNames, others-named, pushed-keeps, inserted-keeps, removed-keeps, renamed-keeps, pushed-named, inserted-named, removed-named, renamed-named, named-alike}
use Rattle.ir_program.proofs.rows.RowFrames.{same_results, other_slot, threaded-same}
use Rattle.ir_program.proofs.rows.RowReads.{operand-row}
use Rattle.ir_program.proofs.defined.OwnNumbers.{own-same}

module _ {O B : Type 0} (c : Program O B) (p : Ptr Operation) (o : OperationRecord O) (here : get c.forest.ops p.key ≡ Some o) (rows : SmallVec ℕ) where
  -- the operation with these places of operands
  abbrev pub with_operands : OperationRecord O
  with_operands = record o { operands = rows }

  module _ (u : Uses Value) where
    abbrev pub edited : Program O B
    edited = with_operation c p o with_operands here u c.targets c.counter

    pub row-here : operand_row c p.key.slot ≡ o.operands.items
    row-here = ap (λ x. unwrap_or (option_map (λ (r : OperationRecord O). r.operands.items) x) []) (held-was c.forest.ops p.key o with_operands here)

    pub row-now : operand_row edited p.key.slot ≡ rows.items
    row-now = ap (λ x. unwrap_or (option_map (λ (r : OperationRecord O). r.operands.items) x) []) (held-lent c.forest.ops p.key o with_operands here)

    pub rows-other : KeepsOtherRows (operand_row c) (operand_row edited) p.key.slot
    rows-other j n = ap (λ x. unwrap_or (option_map (λ (r : OperationRecord O). r.operands.items) x) []) (held-lent_other c.forest.ops p.key o with_operands here j n)

    successors-same : (i : ℕ) → successor_row edited i ≡ successor_row c i
    successors-same i = ⊎_elim
        (λ (e : i ≡ p.key.slot). subst (λ j. successor_row edited j ≡ successor_row c j) (sym e)
        (ap (λ x. unwrap_or (option_map (λ (r : OperationRecord O). r.successors.items) x) []) (held-lent c.forest.ops p.key o with_operands here)
        ∙ sym (ap (λ x. unwrap_or (option_map (λ (r : OperationRecord O). r.successors.items) x) []) (held-was c.forest.ops p.key o with_operands here))))
        (λ ne. ap (λ x. unwrap_or (option_map (λ (r : OperationRecord O). r.successors.items) x) []) (held-lent_other c.forest.ops p.key o with_operands here i ne))
        (cases_eq i p.key.slot)

    definitions-same : (e : DefiningEntity) → definitions_of edited e ≡ definitions_of c e
    definitions-same = same_results c p o with_operands here u c.targets c.counter refl

    -- each value keeps its type
    pub types-same : (v : Value) → type_at edited v ≡ type_at c v
    types-same v = ap (λ ds. option_map (λ (d : Definition). d.ty) (numbered v.number ds)) (definitions-same v.definer)

    -- all is sound where the places fit the rows
    pub operands-sound : IsProgram c → u.definitions ≡ c.values.definitions → IsPlaced (place_of u) (operand_row edited) → IsProgram edited
    operands-sound inv keys placed = record {
      operands = placed;
      successors = placed-same (place_of c.targets) (successor_row c) inv.successors (place_of c.targets) (successor_row edited) (λ q. refl) successors-same;
      values = threaded-same (thread_of_value c) (thread_of_value edited) c.values u keys (λ v. ap (λ ds. option_map (λ (d : Definition). d.thread) (numbered v.number ds)) (definitions-same v.definer)) inv.values;
      blocks = inv.blocks;
      numbers = λ e. subst (AreNumbered c.counter) (sym (definitions-same e)) (inv.numbers e);
      own = own-same (definitions_of c) (definitions_of edited) inv.own definitions-same;
      homes = inv.homes;
    }

    -- what is seen of the operation, and that all else is seen as it was
    pub operands-seen : IsProgram c → u.definitions ≡ c.values.definitions → KeepsNames (place_of c.values) (place_of u) p.key.slot
        → (f : List Value → List Value) → map (value_named u) rows.items ≡ f (map (value_named c.values) o.operands.items)
        → EditsOperation c edited p (λ v. record v { operands = f v.operands })
    operands-seen inv keys keeps f seen =
        operation-edited c p o with_operands here u c.targets c.counter (λ v. record v { operands = f v.operands })
        (ap (λ xs. record (operation_of c p o) { operands = xs }) seen)
        (λ q r ne e. ap (λ xs. record (operation_of c q r) { operands = xs })
        (let n = other_slot c.forest.ops p q o r here e ne in
        others-named _ c.values u keys p.key.slot q.key.slot r.operands.items keeps n
        (subst (λ xs. IsRowOf (place_of c.values) xs q.key.slot) (ap (λ x. unwrap_or (option_map (λ (r : OperationRecord O). r.operands.items) x) []) (held-was c.forest.ops q.key r r e)) (placed-row (place_of c.values) (operand_row c) q.key.slot inv.operands))))

    pub operands-unchanged : IsProgram c → u ≡ c.values → rows.items ≡ o.operands.items → IsUnchanged c edited
    operands-unchanged inv same rows-same =
        let keeps : KeepsNames (place_of c.values) (place_of u) p.key.slot = λ q x e n. ap (λ (w : Uses Value). named_of (place_of w q)) same ∙ ap named_of e in
        let seen : map (value_named u) rows.items ≡ map (value_named c.values) o.operands.items = ap (λ (w : Uses Value). map (value_named w) rows.items) same ∙ ap (map (value_named c.values)) rows-same in
        edited-to-same c edited p (operands-seen inv (ap (λ (w : Uses Value). w.definitions) same) keeps (λ xs. xs) seen) refl

    -- where the places and the row are as they were
    pub kept-sound : IsProgram c → u ≡ c.values → rows.items ≡ o.operands.items → IsProgram edited
    kept-sound inv same rows-same =
        operands-sound inv (ap (λ (w : Uses Value). w.definitions) same)
        (placed-same (place_of c.values) (operand_row c) inv.operands (place_of u) (operand_row edited) (λ q. ap (λ (w : Uses Value). place_of w q) same)
        (λ i. ⊎_elim
        (λ (e : i ≡ p.key.slot). subst (λ j. operand_row edited j ≡ operand_row c j) (sym e) (row-now ∙ rows-same ∙ sym row-here))
        (λ ne. rows-other i ne)
        (cases_eq i p.key.slot)))

    -- the row of the operation, as that of its slot
    rowed : IsProgram c → IsRowOf (place_of c.values) o.operands.items p.key.slot
    rowed inv = subst (λ xs. IsRowOf (place_of c.values) xs p.key.slot) row-here (placed-row (place_of c.values) (operand_row c) p.key.slot inv.operands)

    -- an operand that comes last
    module _ (inv : IsProgram c) (keys : u.definitions ≡ c.values.definitions) (q d : ℕ) (v : Value) (key : key_of c.values d ≡ Some v) (pushes : PushesIn (place_of c.values) (place_of u) o.operands.items rows.items p.key.slot q d) where
      pub pushed-sound : IsProgram edited
      pushed-sound = operands-sound inv keys
          (placed-pushed (place_of c.values) (place_of u) (operand_row c) (operand_row edited) inv.operands p.key.slot q d
          (pushes-place (place_of c.values) (place_of u) (operand_row c) (operand_row edited) p.key.slot rows-other q d
          (rw (row-here, row-now) pushes)))

      pub pushed-seen : EditsOperation c edited p (λ w. record w { operands = w.operands ++ v ∷ [] })
      pushed-seen = operands-seen inv keys (pushed-keeps (place_of c.values) (place_of u) o.operands.items rows.items p.key.slot q d pushes) (λ xs. xs ++ v ∷ [])
          (pushed-named _ c.values u keys o.operands.items rows.items p.key.slot (rowed inv) q d v pushes key)

    -- an operand that comes in at index k
    module _ (inv : IsProgram c) (keys : u.definitions ≡ c.values.definitions) (k q d : ℕ) (v : Value) (key : key_of c.values d ≡ Some v) (inserts : InsertsIn (place_of c.values) (place_of u) o.operands.items rows.items p.key.slot k q d) where
      pub inserted-sound : IsProgram edited
      inserted-sound = operands-sound inv keys
          (placed-inserted (place_of c.values) (place_of u) (operand_row c) (operand_row edited) inv.operands p.key.slot k q d
          (inserts-place (place_of c.values) (place_of u) (operand_row c) (operand_row edited) p.key.slot rows-other k q d
          (rw (row-here, row-now) inserts)))

      pub inserted-seen : EditsOperation c edited p (λ w. record w { operands = insert w.operands k v })
      inserted-seen = operands-seen inv keys (inserted-keeps (place_of c.values) (place_of u) o.operands.items rows.items p.key.slot k q d inserts) (λ xs. insert xs k v)
          (inserted-named _ c.values u keys o.operands.items rows.items p.key.slot (rowed inv) k q d v inserts key)

    -- the operand at index k goes out
    module _ (inv : IsProgram c) (keys : u.definitions ≡ c.values.definitions) (k q : ℕ) (removes : RemovesIn (place_of c.values) (place_of u) o.operands.items rows.items p.key.slot k q) where
      pub removed-sound : IsProgram edited
      removed-sound = operands-sound inv keys
          (placed-removed (place_of c.values) (place_of u) (operand_row c) (operand_row edited) inv.operands p.key.slot k q
          (removes-place (place_of c.values) (place_of u) (operand_row c) (operand_row edited) p.key.slot rows-other k q
          (rw (row-here, row-now) removes)))

      pub removed-seen : EditsOperation c edited p (λ w. record w { operands = remove w.operands k })
      removed-seen = operands-seen inv keys (removed-keeps (place_of c.values) (place_of u) o.operands.items rows.items p.key.slot k q (rowed inv) removes) (λ xs. remove xs k)
          (removed-named _ c.values u keys o.operands.items rows.items p.key.slot (rowed inv) k q removes)

-- the operand at index k is another value, and the rows of places stay
module _ {O B : Type 0} (c : Program O B) (p : Ptr Operation) (o : OperationRecord O) (here : get c.forest.ops p.key ≡ Some o) (u : Uses Value) (keys : u.definitions ≡ c.values.definitions) (inv : IsProgram c)
    (k q d : ℕ) (v : Value) (key : key_of c.values d ≡ Some v) (stood : slice_get o.operands.items k ≡ Some q) (sets : SetsPlace c.values u q (naming d (place_of c.values q))) where
  -- the program with these uses of values
  abbrev pub renamed : Program O B
  renamed = record c { values = u }

  pub renamed-sound : IsProgram renamed
  renamed-sound = record {
    successors = inv.successors;
    blocks = inv.blocks;
    numbers = inv.numbers;
    own = inv.own;
    homes = inv.homes;
    operands = placed-renamed (place_of c.values) (operand_row c) inv.operands (place_of u) (named-alike c.values u q d sets);
    values = threaded-same (thread_of_value c) (thread_of_value renamed) c.values u keys (λ x. refl) inv.values;
  }

  own_row : (r : Ptr Operation) (w : OperationRecord O) → get c.forest.ops r.key ≡ Some w → IsRowOf (place_of c.values) w.operands.items r.key.slot
  own_row r w e = operand-row c r w e inv

  pub renamed-seen : EditsOperation c renamed p (λ w. record w { operands = set w.operands k v })
  renamed-seen =
      let rowed = own_row p o here in
      let keeps : KeepsNames (place_of c.values) (place_of u) p.key.slot = renamed-keeps c.values u o.operands.items p.key.slot rowed k q d stood sets in
      record {
        edited =
            ap (option_map (operation_of renamed p)) here
            ∙ ap (λ xs. Some (record (operation_of c p o) { operands = xs })) (renamed-named _ c.values u keys o.operands.items o.operands.items p.key.slot rowed k q d v stood sets key)
            ∙ sym (ap (λ x. option_map (λ (w : OperationView O). record w { operands = set w.operands k v }) (option_map (operation_of c p) x)) here);
        others = λ r ne. option_map-same _ _ (get c.forest.ops r.key)
            (λ w e. ap (λ xs. record (operation_of c r w) { operands = xs })
            (others-named _ c.values u keys p.key.slot r.key.slot w.operands.items keeps (other_slot c.forest.ops p r o w here e ne) (own_row r w e)));
        blocks = λ r. refl;
        regions = λ r. refl;
        erased = record { operations = λ r s. s; blocks = λ r s. s; regions = λ r s. s };
      }
