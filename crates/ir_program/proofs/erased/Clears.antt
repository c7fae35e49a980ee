-- An operation whose operands or successors are taken away.
use Rattle.std.proofs.Common.{◌≡◌, ℕ, ⊎_elim, Option, List, [], map, Some, is_some, refl, sym, ap, ◌∙◌, subst}
use Rattle.std.proofs.lemmas.Bool.{cases_eq}
use Rattle.std.proofs.lemmas.List.{length-set}
use Rattle.smallvec.specs.SmallVec.{SmallVec}
use Rattle.ir_arena.specs.declared.arena.Key.{Key}
use Rattle.ir_arena.specs.declared.arena.Slot.{Slot}
use Rattle.ir_arena.specs.Arena.{get, held}
use Rattle.ir_arena.specs.Lends.{with_value}
use Rattle.ir_entities.specs.Uses.{Uses, PlaceOfUse, place_of, named_of}
use Rattle.ir_entities.specs.Placed.{IsPlaced, ReleasesPlaces, place_at}
use Rattle.ir_entities.specs.Rows.{IsRowOf}
use Rattle.ir_entities.proofs.Placed.{placed-cleared}
use Rattle.ir_entities.proofs.RowEdits.{clears-row, placed-row}
use Rattle.ir_program.specs.Program.{Program, value_named, block_named}
use Rattle.ir_program.specs.Sound.{IsProgram, operand_row, successor_row}
use Rattle.ir_program.specs.Edits.{EditsOperation}
use Rattle.ir_program.specs.Drops.{KeepsFrame}
use Rattle.ir_program.specs.declared.handles.Ptr.{Ptr}
use Rattle.ir_program.specs.declared.handles.Operation.{Operation}
use Rattle.ir_program.specs.declared.handles.BasicBlock.{BasicBlock}
use Rattle.ir_program.specs.declared.handles.Value.{Value}
use Rattle.ir_program.specs.declared.records.OperationRecord.{OperationRecord}
use Rattle.ir_program.proofs.made.Lent.{held-was, held-lent, held-lent_other, version-lent}
use Rattle.ir_program.proofs.rows.RowNames.{KeepsNames}
use Rattle.ir_program.proofs.rows.RowFrames.{same_results}
use Rattle.ir_program.proofs.rows.OperandEdits as Operands
use Rattle.ir_program.proofs.rows.SuccessorEdits as Successors

-- the places of a row that is released were its user's
pub released-keeps : (place new : ℕ → Option PlaceOfUse) (row : List ℕ) (i : ℕ) → IsRowOf place row i → ReleasesPlaces place new row → KeepsNames place new i
released-keeps place new row i rowed releases q x e ne =
    ap named_of (releases.others q (λ k h. let its = rowed.held k q h in let s : Some x ≡ Some (place_at its.0 i k) = sym e ∙ its.1 in let t : x ≡ place_at its.0 i k = cc in ne (ap (λ (y : PlaceOfUse). y.user) t)) ∙ e)

-- a slot keeps whether it is in use
pub used-lent : {T : Type 0} (slots : List (Slot T)) (k : Key) (v w : T) → get slots k ≡ Some v → (i : ℕ) → is_some (held (with_value slots k w) i) ≡ is_some (held slots i)
used-lent slots k v w here i = ⊎_elim
    (λ (e : i ≡ k.slot). ap (λ j. is_some (held (with_value slots k w) j)) e ∙ ap is_some (held-lent slots k v w here) ∙ sym (ap (λ j. is_some (held slots j)) e ∙ ap is_some (held-was slots k v w here)))
    (λ ne. ap is_some (held-lent_other slots k v w here i ne))
    (cases_eq i k.slot)

module _ {O B : Type 0} (c : Program O B) (p : Ptr Operation) (o : OperationRecord O) (here : get c.forest.ops p.key ≡ Some o) (rows : SmallVec ℕ) (inv : IsProgram c) (emptied : rows.items ≡ []) where
  -- without operands
  module _ (u : Uses Value) (keys : u.definitions ≡ c.values.definitions) (releases : ReleasesPlaces (place_of c.values) (place_of u) o.operands.items) where
    operands-placed : IsPlaced (place_of u) (operand_row (Operands.edited c p o here rows u))
    operands-placed = placed-cleared (place_of c.values) (operand_row c) inv.operands (place_of u) (operand_row (Operands.edited c p o here rows u)) p.key.slot
        (clears-row (place_of c.values) (place_of u) (operand_row c) (operand_row (Operands.edited c p o here rows u)) p.key.slot (Operands.rows-other c p o here rows u)
        (subst (λ r. ReleasesPlaces (place_of c.values) (place_of u) r) (sym (Operands.row-here c p o here rows u)) releases) (Operands.row-now c p o here rows u ∙ emptied))

    pub operands-cleared-sound : IsProgram (Operands.edited c p o here rows u)
    operands-cleared-sound = Operands.operands-sound c p o here rows u inv keys operands-placed

    pub operands-cleared : EditsOperation c (Operands.edited c p o here rows u) p (λ v. record v { operands = [] })
    operands-cleared = Operands.operands-seen c p o here rows u inv keys
        (released-keeps (place_of c.values) (place_of u) o.operands.items p.key.slot (subst (λ xs. IsRowOf (place_of c.values) xs p.key.slot) (Operands.row-here c p o here rows u) (placed-row (place_of c.values) (operand_row c) p.key.slot inv.operands)) releases)
        (λ xs. []) (ap (map (value_named u)) emptied)

    pub operands-frame : KeepsFrame c (Operands.edited c p o here rows u)
    operands-frame = record {
      forest = refl;
      slots = length-set c.forest.ops p.key.slot _;
      used = used-lent c.forest.ops p.key o (record o { operands = rows }) here;
      versions = version-lent c.forest.ops p.key o (record o { operands = rows }) here;
      definitions = same_results c p o (record o { operands = rows }) here u c.targets c.counter refl;
      values = keys;
      targets = refl;
      blocks = operands-cleared.blocks;
      regions = operands-cleared.regions;
      erased = operands-cleared.erased;
      counter = refl;
    }

  -- without successors
  module _ (u : Uses (Ptr BasicBlock)) (keys : u.definitions ≡ c.targets.definitions) (releases : ReleasesPlaces (place_of c.targets) (place_of u) o.successors.items) where
    successors-placed : IsPlaced (place_of u) (successor_row (Successors.edited c p o here rows u))
    successors-placed = placed-cleared (place_of c.targets) (successor_row c) inv.successors (place_of u) (successor_row (Successors.edited c p o here rows u)) p.key.slot
        (clears-row (place_of c.targets) (place_of u) (successor_row c) (successor_row (Successors.edited c p o here rows u)) p.key.slot (Successors.rows-other c p o here rows u)
        (subst (λ r. ReleasesPlaces (place_of c.targets) (place_of u) r) (sym (Successors.row-here c p o here rows u)) releases) (Successors.row-now c p o here rows u ∙ emptied))

    pub successors-cleared-sound : IsProgram (Successors.edited c p o here rows u)
    successors-cleared-sound = Successors.successors-sound c p o here rows u inv keys successors-placed

    pub successors-cleared : EditsOperation c (Successors.edited c p o here rows u) p (λ v. record v { successors = [] })
    successors-cleared = Successors.successors-seen c p o here rows u inv keys
        (released-keeps (place_of c.targets) (place_of u) o.successors.items p.key.slot (subst (λ xs. IsRowOf (place_of c.targets) xs p.key.slot) (Successors.row-here c p o here rows u) (placed-row (place_of c.targets) (successor_row c) p.key.slot inv.successors)) releases)
        (λ xs. []) (ap (map (block_named u)) emptied)

    pub successors-frame : KeepsFrame c (Successors.edited c p o here rows u)
    successors-frame = record {
      forest = refl;
      slots = length-set c.forest.ops p.key.slot _;
      used = used-lent c.forest.ops p.key o (record o { successors = rows }) here;
      versions = version-lent c.forest.ops p.key o (record o { successors = rows }) here;
      definitions = same_results c p o (record o { successors = rows }) here c.values u c.counter refl;
      values = refl;
      targets = keys;
      blocks = successors-cleared.blocks;
      regions = successors-cleared.regions;
      erased = successors-cleared.erased;
      counter = refl;
    }
