-- Programs that differ in nothing that can be seen, or in one entity that is new.
use Rattle.std.proofs.Common.{◌≡◌, ◌≢◌, ◌↔◌, ℕ, ◌⊎◌, inl, inr, ⊎_elim, true, false, cond, eqb, List, [], Some, None, IsSome, option_map, unwrap_or, refl, sym, ap, ◌∙◌, subst}
use Rattle.std.proofs.lemmas.Bool.{both_ways, cases_eq, eq-eqb, ne_eqb}
use Rattle.ir_arena.specs.declared.arena.Key.{Key}
use Rattle.ir_arena.specs.declared.arena.Slot.{Slot}
use Rattle.ir_arena.specs.Arena.{get, held, same, SetsSlot, Updates, IsSpent, KeepsSpent}
use Rattle.ir_entities.specs.Links.{list_at, has}
use Rattle.ir_entities.specs.Forest.{Forest, IsForest}
use Rattle.ir_entities.specs.Uses.{key_of, place_of}
use Rattle.ir_entities.proofs.Placed.{placed-same}
use Rattle.ir_program.specs.Handles.{handle}
use Rattle.ir_program.specs.Program.{Program, handles_of, operation_of, block_of, region_of, definitions_of, numbered}
use Rattle.ir_program.specs.Sound.{IsProgram, AreNumbered, operand_row, successor_row, thread_of_block}
use Rattle.ir_program.specs.Edits.{IsUnchanged}
use Rattle.ir_program.specs.declared.handles.Ptr.{Ptr}
use Rattle.ir_program.specs.declared.handles.Operation.{Operation}
use Rattle.ir_program.specs.declared.handles.BasicBlock.{BasicBlock}
use Rattle.ir_program.specs.declared.handles.DefiningEntity.{DefiningEntity}
use Rattle.ir_program.specs.declared.handles.DefiningEntity.TheVariants.{Op as ByOp, Block as ByBlock}
use Rattle.ir_program.specs.declared.records.Definition.{Definition}
use Rattle.ir_program.specs.declared.records.OperationRecord.{OperationRecord}
use Rattle.ir_program.specs.declared.records.BlockRecord.{BlockRecord}
use Rattle.ir_program.specs.declared.records.RegionRecord.{RegionRecord}
use Rattle.ir_program.proofs.made.Frames.{option_map-same, map-same, same_or_not, other_key}
use Rattle.ir_program.proofs.made.Lent.{same_key}
use Rattle.ir_program.proofs.lists.Slotted.{at_has}
use Rattle.ir_program.proofs.lists.Levels.{has_slot}
use Rattle.ir_program.proofs.lists.InBlocks.{in_blocks}
use Rattle.ir_program.specs.Listed.{AreListed}
use Rattle.ir_program.specs.Lists.{IsUnlinkedOperation, operations_in}
use Rattle.ir_program.specs.Made.{MakesBareOperation}
use Rattle.ir_program.proofs.defined.OwnNumbers.{own-same}

module _ {O B : Type 0} (c : Program O B) (f : Forest (OperationRecord O) (BlockRecord B) RegionRecord) where
  -- the program with another forest
  abbrev pub in_forest : Program O B
  in_forest = record c { forest = f }

  -- what every program keeps looks at rows, definitions, threads and homes alone
  pub forest-sound : ((i : ℕ) → operand_row in_forest i ≡ operand_row c i) → ((i : ℕ) → successor_row in_forest i ≡ successor_row c i)
      → ((e : DefiningEntity) → definitions_of in_forest e ≡ definitions_of c e) → ((p : Ptr BasicBlock) → thread_of_block in_forest p ≡ thread_of_block c p)
      → ((i : ℕ) → IsSome (held f.regions i) → (h : ℕ) × (has i (list_at f.in_ops.lists h) ≡ true))
      → IsProgram c → IsProgram in_forest
  forest-sound operands successors definitions blocks homes inv = record {
    operands = placed-same (place_of c.values) (operand_row c) inv.operands (place_of c.values) (operand_row in_forest) (λ q. refl) operands;
    successors = placed-same (place_of c.targets) (successor_row c) inv.successors (place_of c.targets) (successor_row in_forest) (λ q. refl) successors;
    values = λ v t. subst (λ ds. (option_map (λ (d : Definition). d.thread) (numbered v.number ds) ≡ Some t) ↔ (key_of c.values t ≡ Some v)) (sym (definitions v.definer)) (inv.values v t);
    blocks = λ p t. subst (λ o. (o ≡ Some t) ↔ (key_of c.targets t ≡ Some p)) (sym (blocks p)) (inv.blocks p t);
    numbers = λ e. subst (AreNumbered c.counter) (sym (definitions e)) (inv.numbers e);
    own = own-same (definitions_of c) (definitions_of in_forest) inv.own definitions;
    homes = homes;
  }

  -- only what can't be seen has grown
  module _ (ops : f.ops ≡ c.forest.ops) (blocks : f.blocks ≡ c.forest.blocks) (regions : f.regions ≡ c.forest.regions)
      (in_blocks : (i : ℕ) → list_at f.in_blocks.lists i ≡ list_at c.forest.in_blocks.lists i)
      (in_regions : (i : ℕ) → list_at f.in_regions.lists i ≡ list_at c.forest.in_regions.lists i)
      (in_ops : (i : ℕ) → list_at f.in_ops.lists i ≡ list_at c.forest.in_ops.lists i) where
    pub grown-sound : IsProgram c → IsProgram in_forest
    grown-sound inv = forest-sound
        (λ i. ap (λ s. unwrap_or (option_map (λ (r : OperationRecord O). r.operands.items) (held s i)) []) ops)
        (λ i. ap (λ s. unwrap_or (option_map (λ (r : OperationRecord O). r.successors.items) (held s i)) []) ops)
        definitions
        (λ p. ap (λ s. option_map (λ (b : BlockRecord B). b.thread) (get s p.key)) blocks)
        (λ i h. let home = inv.homes i (subst (λ s. IsSome (held s i)) regions h) in (home.0, ap (has i) (in_ops home.0) ∙ home.1))
        inv
      where
        definitions : (e : DefiningEntity) → definitions_of in_forest e ≡ definitions_of c e
        definitions (ByOp p) = ap (λ s. unwrap_or (option_map (λ (r : OperationRecord O). r.results.items) (get s p.key)) []) ops
        definitions (ByBlock p) = ap (λ s. unwrap_or (option_map (λ (r : BlockRecord B). r.arguments.items) (get s p.key)) []) blocks

    pub grown-unchanged : IsUnchanged c in_forest
    grown-unchanged = record {
      operations = λ p. ap (λ s. option_map (operation_of in_forest p) (get s p.key)) ops ∙ option_map-same _ _ _ (λ r e. rw (regions, in_ops p.key.slot) refl);
      blocks = λ p. ap (λ s. option_map (block_of in_forest p) (get s p.key)) blocks ∙ option_map-same _ _ _ (λ r e. rw (ops, in_blocks p.key.slot) refl);
      regions = λ p. ap (λ s. option_map (λ _. region_of in_forest p) (get s p.key)) regions ∙ option_map-same _ _ _ (λ r e. rw (blocks, in_regions p.key.slot) refl);
      erased = record { operations = λ k s. rw ops s; blocks = λ k s. rw blocks s; regions = λ k s. rw regions s };
      counter = refl;
    }

-- what stood in a slot stands there still, where only a vacant slot has got a value
pub pointers-stay : {T E : Type 0} (old new : List (Slot T)) (x : ℕ) (v : T) → SetsSlot old new x v → (is : List ℕ) → ((i : ℕ) → has i is ≡ true → IsSome (held old i)) → handles_of {E = E} new is ≡ handles_of old is
pointers-stay old new x v sets is used = map-same _ _ is (λ k i e.
    let stands : IsSome (held old i) = used i (at_has is k i e) in
    let ne : i ≢ x = λ q. let none : held old i ≡ None = ap (held old) q ∙ sets.vacant in cc in
    ap (λ (s : Slot _). handle (record { slot = i; version = s.version })) (sets.others i ne))

-- a key is one of two that are the same, or it isn't
pub same_or : {X : Type 0} (p q : Key) (y : X) (x : X) → p ≢ q → cond (same p q) y x ≡ x
same_or p q y x ne = ⊎_elim
    (λ s. ⊎_elim (λ v. absurd (ne (same_key p q s v))) (λ nv. let f : eqb p.version q.version ≡ false = ne_eqb p.version q.version nv in let t : eqb p.slot q.slot ≡ true = eq-eqb p.slot q.slot s in rw (t, f) refl) (cases_eq p.version q.version))
    (λ ns. let f : eqb p.slot q.slot ≡ false = ne_eqb p.slot q.slot ns in rw f refl)
    (cases_eq p.slot q.slot)

pub same_self : {X : Type 0} (p : Key) (y : X) (x : X) → cond (same p p) y x ≡ y
same_self p y x = let t : eqb p.slot p.slot ≡ true = eq-eqb p.slot p.slot refl in let f : eqb p.version p.version ≡ true = eq-eqb p.version p.version refl in rw (t, f) refl

pub key_or_not : (p q : Key) → (p ≡ q) ⊎ (p ≢ q)
key_or_not p q = ⊎_elim
    (λ s. ⊎_elim (λ v. inl (same_key p q s v)) (λ nv. inr (λ h. nv (ap (λ (x : Key). x.version) h))) (cases_eq p.version q.version))
    (λ ns. inr (λ h. ns (ap (λ (x : Key). x.slot) h)))
    (cases_eq p.slot q.slot)

module _ {O B : Type 0} (c : Program O B) (f : Forest (OperationRecord O) (BlockRecord B) RegionRecord) (p : Ptr Operation) (o : OperationRecord O)
    (fresh : get c.forest.ops p.key ≡ None) (updates : Updates c.forest.ops f.ops p.key (Some o)) (sets : SetsSlot c.forest.ops f.ops p.key.slot o)
    (results : o.results.items ≡ []) (operands : o.operands.items ≡ []) (successors : o.successors.items ≡ [])
    (in_blocks : f.in_blocks.lists ≡ c.forest.in_blocks.lists) (in_ops : (i : ℕ) → list_at f.in_ops.lists i ≡ list_at c.forest.in_ops.lists i)
    (in_regions : f.in_regions ≡ c.forest.in_regions) (blocks : f.blocks ≡ c.forest.blocks) (regions : f.regions ≡ c.forest.regions) where
  new_here : get f.ops p.key ≡ Some o
  new_here = updates p.key ∙ same_self p.key (Some o) (get c.forest.ops p.key)

  new_elsewhere : (q : Key) → q ≢ p.key → get f.ops q ≡ get c.forest.ops q
  new_elsewhere q ne = updates q ∙ same_or p.key q (Some o) (get c.forest.ops q) (λ e. ne (sym e))

  -- a new operation has nothing, as the vacant slot had
  bare_rows : (row : OperationRecord O → List ℕ) → row o ≡ [] → (i : ℕ) → unwrap_or (option_map row (held f.ops i)) [] ≡ unwrap_or (option_map row (held c.forest.ops i)) []
  bare_rows row none i = ⊎_elim
      (λ (e : i ≡ p.key.slot).
      let now : held f.ops i ≡ Some o = ap (held f.ops) e ∙ sets.set in
      let was : held c.forest.ops i ≡ None = ap (held c.forest.ops) e ∙ sets.vacant in
      ap (λ x. unwrap_or (option_map row x) []) now ∙ none ∙ sym (ap (λ x. unwrap_or (option_map row x) []) was))
      (λ ne. ap (λ (s : Slot (OperationRecord O)). unwrap_or (option_map row s.value) []) (sets.others i ne))
      (cases_eq i p.key.slot)

  operation-definitions : (e : DefiningEntity) → definitions_of (in_forest c f) e ≡ definitions_of c e
  operation-definitions (ByBlock q) = ap (λ s. unwrap_or (option_map (λ (r : BlockRecord B). r.arguments.items) (get s q.key)) []) blocks
  operation-definitions (ByOp q) = ⊎_elim
      (λ (e : q ≡ p).
      let now : get f.ops q.key ≡ Some o = ap (λ (x : Ptr Operation). get f.ops x.key) e ∙ new_here in
      let was : get c.forest.ops q.key ≡ None = ap (λ (x : Ptr Operation). get c.forest.ops x.key) e ∙ fresh in
      ap (λ x. unwrap_or (option_map (λ (r : OperationRecord O). r.results.items) x) []) now ∙ results ∙ sym (ap (λ x. unwrap_or (option_map (λ (r : OperationRecord O). r.results.items) x) []) was))
      (λ ne. ap (λ x. unwrap_or (option_map (λ (r : OperationRecord O). r.results.items) x) []) (new_elsewhere q.key (other_key q p ne)))
      (same_or_not q p)

  pub operation-made-sound : IsProgram c → IsProgram (in_forest c f)
  operation-made-sound inv = forest-sound c f
      (bare_rows (λ (r : OperationRecord O). r.operands.items) operands)
      (bare_rows (λ (r : OperationRecord O). r.successors.items) successors)
      operation-definitions
      (λ q. ap (λ s. option_map (λ (b : BlockRecord B). b.thread) (get s q.key)) blocks)
      (λ i h. let home = inv.homes i (subst (λ s. IsSome (held s i)) regions h) in (home.0, ap (has i) (in_ops home.0) ∙ home.1))
      inv

  pub operation-made : (unspent : IsSpent c.forest.ops p.key → ⊥) → KeepsSpent c.forest.ops f.ops → list_at f.in_ops.lists p.key.slot ≡ [] → IsForest c.forest → MakesBareOperation c (in_forest c f) p o.payload
  operation-made unspent kept bare forest = record {
    fresh = ap (option_map (operation_of c p)) fresh;
    unspent = unspent;
    made = ap (option_map (operation_of (in_forest c f) p)) new_here ∙ rw (results, operands, successors, bare) refl;
    others = λ q ne. ap (option_map (operation_of (in_forest c f) q)) (new_elsewhere q.key (other_key q p ne)) ∙ option_map-same _ _ _ (λ r e. rw (regions, in_ops q.key.slot) refl);
    blocks = λ q. ap (λ s. option_map (block_of (in_forest c f) q) (get s q.key)) blocks
        ∙ option_map-same _ _ _ (λ r e. ap (λ l. record (block_of c q r) { operations = l }) (ap (handles_of f.ops) (ap (λ ls. list_at ls q.key.slot) in_blocks) ∙ pointers-stay c.forest.ops f.ops p.key.slot o sets _ (λ i h. forest.ops.members q.key.slot i h)));
    regions = λ q. ap (λ s. option_map (λ _. region_of (in_forest c f) q) (get s q.key)) regions ∙ option_map-same _ _ _ (λ r e. rw (blocks, in_regions) refl);
    erased = record { operations = kept; blocks = λ k s. rw blocks s; regions = λ k s. rw regions s };
    counter = refl;
  }

-- an operation whose slot no list has stands in no block
pub unlinked_where : {O B : Type 0} (c : Program O B) (p : Ptr Operation) → AreListed c → ((b : ℕ) → has p.key.slot (list_at c.forest.in_blocks.lists b) ≡ false) → IsUnlinkedOperation c p
unlinked_where c p known none b stands = both_ways _ (none b.key.slot) (has_slot c.forest.ops c.forest.blocks c.forest.in_blocks.lists (operations_in c) (in_blocks c known) b stands.index p stands.here)
