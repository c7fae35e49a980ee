-- A program in which places name other values, or other blocks, and stand where they stood.
use Rattle.std.proofs.Common.{◌≡◌, ◌≢◌, ℕ, Bool, true, false, cond, eqb, ◌&&◌, List, map, Option, Some, None, length, ◌<◌, option_map, slice_get, set, get_or, ◌⊎◌, inl, inr, ⊎_elim, refl, sym, ap, ◌∙◌, subst}
use Rattle.std.proofs.lemmas.Bool.{cases_eq, eq-eqb, ne_eqb}
use Rattle.std.proofs.lemmas.Option.{slice_get_within}
use Rattle.ir_arena.specs.declared.arena.Key.{Key}
use Rattle.ir_arena.specs.Arena.{get, same}
use Rattle.ir_entities.specs.Links.{has}
use Rattle.ir_entities.specs.Placed.{StandsAlike}
use Rattle.ir_entities.specs.Uses.{Uses, key_of, place_of, IsPlace, SetsPlace, naming, renamed, IsDefined, NamesDefinition}
use Rattle.ir_entities.proofs.Placed.{placed-renamed}
use Rattle.ir_program.specs.Program.{Program, OperationView, no_handle, operation_of, value_named, block_named}
use Rattle.ir_program.specs.Sound.{IsProgram, operand_row, successor_row, thread_of_value, thread_of_block}
use Rattle.ir_program.specs.Edits.{EditsOperation, EditsOperations}
use Rattle.ir_program.specs.Replacing.{same_definer, same_value, same_block, replacing, retargeting, with_chosen, Chooses}
use Rattle.ir_program.specs.Rows.{operands_at, successors_at}
use Rattle.ir_program.specs.Spots.{operand_use, successor_use}
use Rattle.ir_program.specs.declared.handles.Ptr.{Ptr}
use Rattle.ir_program.specs.declared.handles.Operation.{Operation}
use Rattle.ir_program.specs.declared.handles.BasicBlock.{BasicBlock}
use Rattle.ir_program.specs.declared.handles.Use.{Use}
use Rattle.ir_program.specs.declared.handles.Value.{Value}
use Rattle.ir_program.specs.declared.handles.DefiningEntity.{DefiningEntity}
use Rattle.ir_program.specs.declared.handles.DefiningEntity.TheVariants.{Op as ByOp, Block as ByBlock}
use Rattle.ir_program.specs.declared.records.OperationRecord.{OperationRecord}
use Rattle.ir_program.proofs.defined.Arrivals.{same_definer as definer_or_not}
use Rattle.ir_program.proofs.made.Frames.{same_handle, same_or_not, option_map-same}
use Rattle.ir_program.proofs.made.Lent.{same_key}
use Rattle.ir_program.proofs.rows.RowFrames.{other_slot, threaded-same}
use Rattle.ir_program.proofs.rows.RowNames.{KeepsNames, named-alike, renamed-keeps, renamed-named, others-named}
use Rattle.ir_program.proofs.rows.RowReads.{operand-row, successor-row, row-place, successor-stood}
use Rattle.ir_program.proofs.used.Renames.{IsTestOf, map-through, renamed-alike, chosen-alike, replaced-named}
use Rattle.ir_program.proofs.used.NamedUses.{seen_rows}
use Rattle.ir_program.proofs.used.ChosenUses.{choice, chooses-same, choice-chooses, choice-rows}
use Rattle.ir_program.proofs.used.SeenUses.{no_value, operand_cell, successor_cell, operands-rows, successors-rows, one-thread}

-- the tests of handles and of values
same_yes : (p q : Key) → p ≡ q → same p q ≡ true
same_yes p q e = let s : eqb p.slot q.slot ≡ true = eq-eqb p.slot q.slot (ap (λ (x : Key). x.slot) e) in let v : eqb p.version q.version ≡ true = eq-eqb p.version q.version (ap (λ (x : Key). x.version) e) in rw (s, v) refl

and_false : (b : Bool) → (b && false) ≡ false
and_false true = refl
and_false false = refl

same_no : (p q : Key) → p ≢ q → same p q ≡ false
same_no p q ne = ⊎_elim
    (λ (s : p.slot ≡ q.slot). let v : eqb p.version q.version ≡ false = ne_eqb p.version q.version (λ h. ne (same_key p q s h)) in rw v (and_false (eqb p.slot q.slot)))
    (λ (n : p.slot ≢ q.slot). let s : eqb p.slot q.slot ≡ false = ne_eqb p.slot q.slot n in rw s refl)
    (cases_eq p.slot q.slot)

definer_yes : (e : DefiningEntity) → same_definer e e ≡ true
definer_yes (ByOp p) = same_yes p.key p.key refl
definer_yes (ByBlock p) = same_yes p.key p.key refl

definer_no : (e f : DefiningEntity) → e ≢ f → same_definer e f ≡ false
definer_no (ByOp p) (ByOp q) ne = same_no p.key q.key (λ h. ne (ap ByOp (same_handle p q h)))
definer_no (ByOp p) (ByBlock q) ne = refl
definer_no (ByBlock p) (ByOp q) ne = refl
definer_no (ByBlock p) (ByBlock q) ne = same_no p.key q.key (λ h. ne (ap ByBlock (same_handle p q h)))

pub value-test : IsTestOf same_value
value-test = record { decide = decide; yes = yes; no = no }
  where
    decide : (v w : Value) → (v ≡ w) ⊎ (v ≢ w)
    decide v w = ⊎_elim
        (λ (d : v.definer ≡ w.definer). ⊎_elim (λ (n : v.number ≡ w.number). inl (rw (d, n) refl)) (λ (n : v.number ≢ w.number). inr (λ h. n (ap (λ (x : Value). x.number) h))) (cases_eq v.number w.number))
        (λ (n : v.definer ≢ w.definer). inr (λ h. n (ap (λ (x : Value). x.definer) h)))
        (definer_or_not v.definer w.definer)

    yes : (v w : Value) → v ≡ w → same_value v w ≡ true
    yes v w e = subst (λ x. same_value v x ≡ true) e (let d : same_definer v.definer v.definer ≡ true = definer_yes v.definer in let n : eqb v.number v.number ≡ true = eq-eqb v.number v.number refl in rw (d, n) refl)

    no : (v w : Value) → v ≢ w → same_value v w ≡ false
    no v w ne = ⊎_elim
        (λ (n : v.number ≡ w.number). let d : same_definer v.definer w.definer ≡ false = definer_no v.definer w.definer (λ h. ne (rw (h, n) refl)) in rw d refl)
        (λ (n : v.number ≢ w.number). let f : eqb v.number w.number ≡ false = ne_eqb v.number w.number n in rw f (and_false (same_definer v.definer w.definer)))
        (cases_eq v.number w.number)

pub block-test : IsTestOf same_block
block-test = record { decide = same_or_not; yes = λ p q e. same_yes p.key q.key (ap (λ (x : Ptr BasicBlock). x.key) e); no = λ p q ne. same_no p.key q.key (λ h. ne (same_handle p q h)) }

-- functions that agree where there is something
mapped : {R V : Type 0} (o : Option R) (f g : R → V) (edit : V → V) → ((r : R) → o ≡ Some r → g r ≡ edit (f r)) → option_map g o ≡ option_map edit (option_map f o)
mapped None f g edit h = refl
mapped (Some r) f g edit h = ap Some (h r refl)

module _ {O B : Type 0} (c : Program O B) (inv : IsProgram c) where
  -- other names of values
  module _ (w : Uses Value) (keys : w.definitions ≡ c.values.definitions) where
    pub values-sound : ((q : ℕ) → StandsAlike (place_of c.values q) (place_of w q)) → IsProgram (record c { values = w })
    values-sound alike = record {
      successors = inv.successors;
      blocks = inv.blocks;
      numbers = inv.numbers;
      own = inv.own;
      homes = inv.homes;
      operands = placed-renamed (place_of c.values) (operand_row c) inv.operands (place_of w) alike;
      values = threaded-same (thread_of_value c) (thread_of_value (record c { values = w })) c.values w keys (λ x. refl) inv.values;
    }

    pub values-seen : (f : Ptr Operation → List Value → List Value)
        → ((p : Ptr Operation) (o : OperationRecord O) → get c.forest.ops p.key ≡ Some o → map (value_named w) o.operands.items ≡ f p (map (value_named c.values) o.operands.items))
        → EditsOperations c (record c { values = w }) (λ p o. record o { operands = f p o.operands })
    values-seen f seen = record {
      edited = λ q. mapped (get c.forest.ops q.key) (operation_of c q) (operation_of (record c { values = w }) q) (λ o. record o { operands = f q o.operands }) (λ r e. ap (λ xs. record (operation_of c q r) { operands = xs }) (seen q r e));
      blocks = λ q. refl;
      regions = λ q. refl;
      erased = record { operations = λ q s. s; blocks = λ q s. s; regions = λ q s. s };
    }

  -- other names of blocks
  module _ (w : Uses (Ptr BasicBlock)) (keys : w.definitions ≡ c.targets.definitions) where
    pub targets-sound : ((q : ℕ) → StandsAlike (place_of c.targets q) (place_of w q)) → IsProgram (record c { targets = w })
    targets-sound alike = record {
      operands = inv.operands;
      values = inv.values;
      numbers = inv.numbers;
      own = inv.own;
      homes = inv.homes;
      successors = placed-renamed (place_of c.targets) (successor_row c) inv.successors (place_of w) alike;
      blocks = threaded-same (thread_of_block c) (thread_of_block (record c { targets = w })) c.targets w keys (λ x. refl) inv.blocks;
    }

    pub targets-seen : (f : Ptr Operation → List (Ptr BasicBlock) → List (Ptr BasicBlock))
        → ((p : Ptr Operation) (o : OperationRecord O) → get c.forest.ops p.key ≡ Some o → map (block_named w) o.successors.items ≡ f p (map (block_named c.targets) o.successors.items))
        → EditsOperations c (record c { targets = w }) (λ p o. record o { successors = f p o.successors })
    targets-seen f seen = record {
      edited = λ q. mapped (get c.forest.ops q.key) (operation_of c q) (operation_of (record c { targets = w }) q) (λ o. record o { successors = f q o.successors }) (λ r e. ap (λ xs. record (operation_of c q r) { successors = xs }) (seen q r e));
      blocks = λ q. refl;
      regions = λ q. refl;
      erased = record { operations = λ q s. s; blocks = λ q s. s; regions = λ q s. s };
    }

-- of a program as it stands and as it was seen
module _ {O B : Type 0} (c d : Program O B) (view : c ≡ d) (inv : IsProgram c) where
  -- all uses of a value
  module _ (w : Uses Value) (keys : w.definitions ≡ c.values.definitions) (known : (q e : ℕ) → NamesDefinition c.values q e → IsDefined c.values e)
      (from to : ℕ) (value other : Value) (key : key_of d.values from ≡ Some value) (key_to : key_of d.values to ≡ Some other)
      (renames : (q : ℕ) → place_of w q ≡ renamed from to (place_of c.values q)) where
    pub replaced-sound : IsProgram (record c { values = w })
    replaced-sound = values-sound c inv w keys (λ q. subst (StandsAlike (place_of c.values q)) (sym (renames q)) (renamed-alike from to (place_of c.values q)))

    pub replaced-seen : EditsOperations d (record c { values = w }) (λ _ o. record o { operands = map (replacing value other) o.operands })
    replaced-seen =
        let was : key_of c.values from ≡ Some value = subst (λ y. key_of y.values from ≡ Some value) (sym view) key in
        let was_to : key_of c.values to ≡ Some other = subst (λ y. key_of y.values to ≡ Some other) (sym view) key_to in
        subst (λ y. EditsOperations y (record c { values = w }) (λ _ o. record o { operands = map (replacing value other) o.operands })) view
        (values-seen c inv w keys (λ _ xs. map (replacing value other) xs)
        (λ p o here. map-through (value_named w) (value_named c.values) (replacing value other) o.operands.items
        (λ k q e. replaced-named no_value c.values w keys known same_value value-test from to value other was was_to (one-thread (thread_of_value c) c.values inv.values value from was)
        q (row-place (place_of c.values) o.operands.items p.key.slot k q (operand-row c p o here inv) e) (renames q))))

  -- chosen uses of a value
  module _ (w : Uses Value) (keys : w.definitions ≡ c.values.definitions) (to : ℕ) (chosen : List ℕ)
      (renames : (q : ℕ) → place_of w q ≡ cond (has q chosen) (naming to (place_of c.values q)) (place_of c.values q)) where
    pub chosen-sound : IsProgram (record c { values = w })
    chosen-sound = values-sound c inv w keys (λ q. subst (StandsAlike (place_of c.values q)) (sym (renames q)) (chosen-alike (has q chosen) to (place_of c.values q)))

    module _ (known : (q e : ℕ) → NamesDefinition c.values q e → IsDefined c.values e) (from : ℕ) (value other : Value) (answers : Program O B → Use Value → Bool → Type 0) where
      -- some uses are chosen, and the other value stands there
      abbrev ReplacesChosen : Program O B → Type 0
      ReplacesChosen y = (choice : Use Value → Bool) × Chooses (operands_at y) (answers y) value choice × EditsOperations y (record c { values = w }) (λ p o. record o { operands = with_chosen choice other p 0 o.operands })

      abbrev HasChosen : Program O B → Type 0
      HasChosen y = (key_of y.values from ≡ Some value) → (key_of y.values to ≡ Some other) → ((q : ℕ) → has q chosen ≡ true → NamesDefinition y.values q from) → ((q : ℕ) → NamesDefinition y.values q from → answers y (operand_use y q) (has q chosen)) → ReplacesChosen y

      chosen-here : HasChosen c
      chosen-here key key_to among answered =
          let only = one-thread (thread_of_value c) c.values inv.values value from key in (
            choice no_value c.values c.forest.ops operand_cell inv.operands from value key only known chosen,
            chooses-same (seen_rows no_value c.values c.forest.ops operand_cell) (operands_at c) (operands-rows c) (answers c) value _ (choice-chooses no_value c.values c.forest.ops operand_cell inv.operands from value key only known chosen among (answers c) answered),
            values-seen c inv w keys (λ p xs. with_chosen (choice no_value c.values c.forest.ops operand_cell inv.operands from value key only known chosen) other p 0 xs)
                (λ p o here. choice-rows no_value c.values c.forest.ops operand_cell inv.operands from value key only known chosen w keys to other key_to renames p o here),
          )

      pub chosen-seen : HasChosen d
      chosen-seen = subst HasChosen view chosen-here

  -- all edges to a block
  module _ (w : Uses (Ptr BasicBlock)) (keys : w.definitions ≡ c.targets.definitions) (known : (q e : ℕ) → NamesDefinition c.targets q e → IsDefined c.targets e)
      (from to : ℕ) (block other : Ptr BasicBlock) (key : key_of d.targets from ≡ Some block) (key_to : key_of d.targets to ≡ Some other)
      (renames : (q : ℕ) → place_of w q ≡ renamed from to (place_of c.targets q)) where
    pub retargeted-sound : IsProgram (record c { targets = w })
    retargeted-sound = targets-sound c inv w keys (λ q. subst (StandsAlike (place_of c.targets q)) (sym (renames q)) (renamed-alike from to (place_of c.targets q)))

    pub retargeted-seen : EditsOperations d (record c { targets = w }) (λ _ o. record o { successors = map (retargeting block other) o.successors })
    retargeted-seen =
        let was : key_of c.targets from ≡ Some block = subst (λ y. key_of y.targets from ≡ Some block) (sym view) key in
        let was_to : key_of c.targets to ≡ Some other = subst (λ y. key_of y.targets to ≡ Some other) (sym view) key_to in
        subst (λ y. EditsOperations y (record c { targets = w }) (λ _ o. record o { successors = map (retargeting block other) o.successors })) view
        (targets-seen c inv w keys (λ _ xs. map (retargeting block other) xs)
        (λ p o here. map-through (block_named w) (block_named c.targets) (retargeting block other) o.successors.items
        (λ k q e. replaced-named no_handle c.targets w keys known same_block block-test from to block other was was_to (one-thread (thread_of_block c) c.targets inv.blocks block from was)
        q (row-place (place_of c.targets) o.successors.items p.key.slot k q (successor-row c p o here inv) e) (renames q))))

  -- chosen edges to a block
  module _ (w : Uses (Ptr BasicBlock)) (keys : w.definitions ≡ c.targets.definitions) (to : ℕ) (chosen : List ℕ)
      (renames : (q : ℕ) → place_of w q ≡ cond (has q chosen) (naming to (place_of c.targets q)) (place_of c.targets q)) where
    pub edges-sound : IsProgram (record c { targets = w })
    edges-sound = targets-sound c inv w keys (λ q. subst (StandsAlike (place_of c.targets q)) (sym (renames q)) (chosen-alike (has q chosen) to (place_of c.targets q)))

    module _ (known : (q e : ℕ) → NamesDefinition c.targets q e → IsDefined c.targets e) (from : ℕ) (block other : Ptr BasicBlock) (answers : Program O B → Use (Ptr BasicBlock) → Bool → Type 0) where
      -- some edges are chosen, and lead to the other block
      abbrev RetargetsChosen : Program O B → Type 0
      RetargetsChosen y = (choice : Use (Ptr BasicBlock) → Bool) × Chooses (successors_at y) (answers y) block choice × EditsOperations y (record c { targets = w }) (λ p o. record o { successors = with_chosen choice other p 0 o.successors })

      abbrev HasEdges : Program O B → Type 0
      HasEdges y = (key_of y.targets from ≡ Some block) → (key_of y.targets to ≡ Some other) → ((q : ℕ) → has q chosen ≡ true → NamesDefinition y.targets q from) → ((q : ℕ) → NamesDefinition y.targets q from → answers y (successor_use y q) (has q chosen)) → RetargetsChosen y

      edges-here : HasEdges c
      edges-here key key_to among answered =
          let only = one-thread (thread_of_block c) c.targets inv.blocks block from key in (
            choice no_handle c.targets c.forest.ops successor_cell inv.successors from block key only known chosen,
            chooses-same (seen_rows no_handle c.targets c.forest.ops successor_cell) (successors_at c) (successors-rows c) (answers c) block _ (choice-chooses no_handle c.targets c.forest.ops successor_cell inv.successors from block key only known chosen among (answers c) answered),
            targets-seen c inv w keys (λ p xs. with_chosen (choice no_handle c.targets c.forest.ops successor_cell inv.successors from block key only known chosen) other p 0 xs)
                (λ p o here. choice-rows no_handle c.targets c.forest.ops successor_cell inv.successors from block key only known chosen w keys to other key_to renames p o here),
          )

      pub edges-seen : HasEdges d
      edges-seen = subst HasEdges view edges-here

-- the successor at one index is another block
module _ {O B : Type 0} (c d : Program O B) (view : c ≡ d) (inv : IsProgram c) (p : Ptr Operation) (o : OperationRecord O) (here : get c.forest.ops p.key ≡ Some o)
    (k : ℕ) (was : Ptr BasicBlock) (given : slice_get (successors_at d p) k ≡ Some was) (q : ℕ) (read : q ≡ get_or o.successors.items k 0) where
  edge-stood : slice_get o.successors.items k ≡ Some q
  edge-stood = successor-stood c p o here k q (subst (λ y. k < length (successors_at y p)) (sym view) (slice_get_within (successors_at d p) k was given)) read

  pub edge-place : IsPlace c.targets q
  edge-place = row-place (place_of c.targets) o.successors.items p.key.slot k q (successor-row c p o here inv) edge-stood

  module _ (w : Uses (Ptr BasicBlock)) (keys : w.definitions ≡ c.targets.definitions) (t : ℕ) (b : Ptr BasicBlock) (key : key_of d.targets t ≡ Some b) (sets : SetsPlace c.targets w q (naming t (place_of c.targets q))) where
    pub edge-sound : IsProgram (record c { targets = w })
    edge-sound = targets-sound c inv w keys (named-alike c.targets w q t sets)

    edge-here : EditsOperation c (record c { targets = w }) p (λ x. record x { successors = set x.successors k b })
    edge-here =
        let rowed = successor-row c p o here inv in
        let named : key_of c.targets t ≡ Some b = subst (λ y. key_of y.targets t ≡ Some b) (sym view) key in
        let keeps : KeepsNames (place_of c.targets) (place_of w) p.key.slot = renamed-keeps c.targets w o.successors.items p.key.slot rowed k q t edge-stood sets in
        record {
          edited =
              ap (option_map (operation_of (record c { targets = w }) p)) here
              ∙ ap (λ xs. Some (record (operation_of c p o) { successors = xs })) (renamed-named no_handle c.targets w keys o.successors.items o.successors.items p.key.slot rowed k q t b edge-stood sets named)
              ∙ sym (ap (λ x. option_map (λ (y : OperationView O). record y { successors = set y.successors k b }) (option_map (operation_of c p) x)) here);
          others = λ r ne. option_map-same _ _ (get c.forest.ops r.key)
              (λ y e. ap (λ xs. record (operation_of c r y) { successors = xs })
              (others-named no_handle c.targets w keys p.key.slot r.key.slot y.successors.items keeps (other_slot c.forest.ops p r o y here e ne) (successor-row c r y e inv)));
          blocks = λ r. refl;
          regions = λ r. refl;
          erased = record { operations = λ r s. s; blocks = λ r s. s; regions = λ r s. s };
        }

    pub edge-seen : EditsOperation d (record c { targets = w }) p (λ x. record x { successors = set x.successors k b })
    edge-seen = subst (λ y. EditsOperation y (record c { targets = w }) p (λ x. record x { successors = set x.successors k b })) view edge-here
