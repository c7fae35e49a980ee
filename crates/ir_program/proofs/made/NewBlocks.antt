-- A block that is new, and one that was made and went again.
use Rattle.std.proofs.Common.{◌≡◌, ◌≢◌, ◌↔◌, ℕ, ⊎_elim, true, false, List, [], Option, Some, None, IsSome, option_map, unwrap_or, refl, sym, ap, ◌∙◌, subst}
use Rattle.std.proofs.lemmas.Bool.{both_ways, cases_eq}
use Rattle.std.proofs.lemmas.List.{length-set}
use Rattle.ir_program.specs.Handles.{handle}
use Rattle.ir_arena.specs.declared.arena.Key.{Key}
use Rattle.ir_arena.specs.declared.arena.Slot.{Slot}
use Rattle.ir_arena.specs.Arena.{get, held, slot_at, SetsSlot, ClearsSlot, Updates, IsSpent, KeepsSpent}
use Rattle.ir_arena.specs.Lends.{with_value}
use Rattle.ir_entities.specs.Links.{list_at, has}
use Rattle.ir_entities.specs.Forest.{Forest, IsForest}
use Rattle.ir_entities.specs.Uses.{Uses, key_of, place_of, NamesDefinition, IsDefined, SetsKey}
use Rattle.ir_entities.proofs.Placed.{placed-same}
use Rattle.ir_program.specs.Program.{Program, handles_of, operation_of, block_of, block_named, region_of, definitions_of, numbered}
use Rattle.ir_program.specs.Sound.{IsProgram, IsThreaded, AreNumbered, operand_row, successor_row, thread_of_block}
use Rattle.ir_program.specs.Edits.{IsUnchanged}
use Rattle.ir_program.specs.Made.{MakesBareBlock}
use Rattle.ir_program.specs.Listed.{AreListed}
use Rattle.ir_program.specs.Lists.{IsUnlinkedBlock, blocks_in}
use Rattle.ir_program.specs.declared.handles.Ptr.{Ptr}
use Rattle.ir_program.specs.declared.handles.BasicBlock.{BasicBlock}
use Rattle.ir_program.specs.declared.handles.DefiningEntity.{DefiningEntity}
use Rattle.ir_program.specs.declared.handles.DefiningEntity.TheVariants.{Op as ByOp, Block as ByBlock}
use Rattle.ir_program.specs.declared.records.Definition.{Definition}
use Rattle.ir_program.specs.declared.records.OperationRecord.{OperationRecord}
use Rattle.ir_program.specs.declared.records.BlockRecord.{BlockRecord}
use Rattle.ir_program.specs.declared.records.RegionRecord.{RegionRecord}
use Rattle.ir_program.proofs.made.Frames.{option_map-same, map-same, names-kept, same_or_not, other_key}
use Rattle.ir_program.proofs.made.Lent.{get-lent, get-lent_other, slot-lent_other, held-lent, spent-lent}
use Rattle.ir_program.proofs.made.Alike.{in_forest, forest-sound, pointers-stay, same_or, same_self, key_or_not}
use Rattle.ir_program.proofs.lists.Slotted.{at_has}
use Rattle.ir_program.proofs.lists.Levels.{has_slot}
use Rattle.ir_program.proofs.lists.InRegions.{in_regions}
use Rattle.ir_program.proofs.defined.OwnNumbers.{own-same}

-- the slot of a new value lends it, and has another value
module _ {T : Type 0} (old mid : List (Slot T)) (k : Key) (v w : T) (updates : Updates old mid k (Some v)) (sets : SetsSlot old mid k.slot v) where
  here : get mid k ≡ Some v
  here = updates k ∙ same_self k (Some v) (get old k)

  pub rewritten-first : get mid k ≡ Some v
  rewritten-first = here

  pub updates-rewritten : (q : Key) → q ≢ k → get (with_value mid k w) q ≡ get old q
  updates-rewritten q ne = get-lent_other mid k v w here q ne ∙ updates q ∙ same_or k q (Some v) (get old q) (λ e. ne (sym e))

  pub rewritten-here : get (with_value mid k w) k ≡ Some w
  rewritten-here = get-lent mid k v w here

  pub slot-rewritten : SetsSlot old (with_value mid k w) k.slot w
  slot-rewritten = record {
    within = rw length-set sets.within;
    vacant = sets.vacant;
    set = held-lent mid k v w here;
    others = λ i ne. slot-lent_other mid k v w here i ne ∙ sets.others i ne;
  }

  pub spent-rewritten : KeepsSpent old mid → KeepsSpent old (with_value mid k w)
  spent-rewritten kept q s = spent-lent mid k v w here q (kept q s)

module _ {O B : Type 0} (c : Program O B) (f : Forest (OperationRecord O) (BlockRecord B) RegionRecord)
    (ops : f.ops ≡ c.forest.ops) (regions : f.regions ≡ c.forest.regions) (regions_same : f.in_regions.lists ≡ c.forest.in_regions.lists)
    (in_blocks : (i : ℕ) → list_at f.in_blocks.lists i ≡ list_at c.forest.in_blocks.lists i) (in_ops : f.in_ops ≡ c.forest.in_ops) where
  -- a block that was made and went again leaves what was there
  module _ (mid : List (Slot (BlockRecord B))) (k : Key) (b : BlockRecord B) (fresh : get c.forest.blocks k ≡ None)
      (updates : Updates c.forest.blocks mid k (Some b)) (sets : SetsSlot c.forest.blocks mid k.slot b)
      (back : Updates mid f.blocks k None) (clears : ClearsSlot mid f.blocks k.slot) where
    blocks-back : (q : Key) → get f.blocks q ≡ get c.forest.blocks q
    blocks-back q = ⊎_elim
        (λ (e : q ≡ k). ap (get f.blocks) e ∙ back k ∙ same_self k None (get mid k) ∙ sym fresh ∙ ap (get c.forest.blocks) (sym e))
        (λ ne. back q ∙ same_or k q None (get mid q) (λ e. ne (sym e)) ∙ updates q ∙ same_or k q (Some b) (get c.forest.blocks q) (λ e. ne (sym e)))
        (key_or_not q k)

    slots-back : (i : ℕ) → i ≢ k.slot → slot_at f.blocks i ≡ slot_at c.forest.blocks i
    slots-back i ne = clears.others i ne ∙ sets.others i ne

    definitions-back : (e : DefiningEntity) → definitions_of (in_forest c f) e ≡ definitions_of c e
    definitions-back (ByOp q) = ap (λ s. unwrap_or (option_map (λ (r : OperationRecord O). r.results.items) (get s q.key)) []) ops
    definitions-back (ByBlock q) = ap (λ x. unwrap_or (option_map (λ (r : BlockRecord B). r.arguments.items) x) []) (blocks-back q.key)

    pub block-back-sound : IsProgram c → IsProgram (in_forest c f)
    block-back-sound inv = forest-sound c f
        (λ i. ap (λ s. unwrap_or (option_map (λ (r : OperationRecord O). r.operands.items) (held s i)) []) ops)
        (λ i. ap (λ s. unwrap_or (option_map (λ (r : OperationRecord O). r.successors.items) (held s i)) []) ops)
        definitions-back
        (λ q. ap (option_map (λ (r : BlockRecord B). r.thread)) (blocks-back q.key))
        (λ i h. let home = inv.homes i (subst (λ s. IsSome (held s i)) regions h) in (home.0, ap (λ l. has i (list_at l.lists home.0)) in_ops ∙ home.1))
        inv

    pub block-back : KeepsSpent c.forest.blocks mid → KeepsSpent mid f.blocks → IsForest c.forest → IsUnchanged c (in_forest c f)
    block-back kept again forest = record {
      operations = λ q. ap (λ s. option_map (operation_of (in_forest c f) q) (get s q.key)) ops ∙ option_map-same _ _ _ (λ r e. rw (regions, in_ops) refl);
      blocks = λ q. ap (option_map (block_of (in_forest c f) q)) (blocks-back q.key) ∙ option_map-same _ _ _ (λ r e. rw (ops, in_blocks q.key.slot) refl);
      regions = λ q. ap (λ s. option_map (λ _. region_of (in_forest c f) q) (get s q.key)) regions
          ∙ option_map-same _ _ _ (λ r e. ap (λ l. record { blocks = l }) (ap (λ ls. handles_of f.blocks (list_at ls q.key.slot)) regions_same ∙ pointers-back (list_at c.forest.in_regions.lists q.key.slot) (λ i h. forest.blocks.members q.key.slot i h)));
      erased = record { operations = λ x s. rw ops s; blocks = λ x s. again x (kept x s); regions = λ x s. rw regions s };
      counter = refl;
    }
      where
        pointers-back : {E : Type 0} (is : List ℕ) → ((i : ℕ) → has i is ≡ true → IsSome (held c.forest.blocks i)) → handles_of {E = E} f.blocks is ≡ handles_of c.forest.blocks is
        pointers-back is used = map-same _ _ is (λ j i e.
            let stands : IsSome (held c.forest.blocks i) = used i (at_has is j i e) in
            let ne : i ≢ k.slot = λ q. let none : held c.forest.blocks i ≡ None = ap (held c.forest.blocks) q ∙ sets.vacant in cc in
            ap (λ (s : Slot (BlockRecord B)). handle (record { slot = i; version = s.version })) (slots-back i ne))

  -- a block joins
  module _ (w : Uses (Ptr BasicBlock)) (p : Ptr BasicBlock) (b : BlockRecord B) (fresh : get c.forest.blocks p.key ≡ None)
      (now : get f.blocks p.key ≡ Some b) (elsewhere : (q : Key) → q ≢ p.key → get f.blocks q ≡ get c.forest.blocks q) (sets : SetsSlot c.forest.blocks f.blocks p.key.slot b)
      (arguments : b.arguments.items ≡ [])
      (free : key_of c.targets b.thread ≡ None) (defined : SetsKey c.targets w b.thread (Some p)) (places : w.places ≡ c.targets.places) where
    definitions-joined : (e : DefiningEntity) → definitions_of (in_forest c f) e ≡ definitions_of c e
    definitions-joined (ByOp q) = ap (λ s. unwrap_or (option_map (λ (r : OperationRecord O). r.results.items) (get s q.key)) []) ops
    definitions-joined (ByBlock q) = ⊎_elim
        (λ (e : q ≡ p).
        let n : get f.blocks q.key ≡ Some b = ap (λ (x : Ptr BasicBlock). get f.blocks x.key) e ∙ now in
        let was : get c.forest.blocks q.key ≡ None = ap (λ (x : Ptr BasicBlock). get c.forest.blocks x.key) e ∙ fresh in
        ap (λ x. unwrap_or (option_map (λ (r : BlockRecord B). r.arguments.items) x) []) n ∙ arguments ∙ sym (ap (λ x. unwrap_or (option_map (λ (r : BlockRecord B). r.arguments.items) x) []) was))
        (λ ne. ap (λ x. unwrap_or (option_map (λ (r : BlockRecord B). r.arguments.items) x) []) (elsewhere q.key (other_key q p ne)))
        (same_or_not q p)

    abbrev pub with_new_block : Program O B
    with_new_block = record c { forest = f; targets = w }

    threads-joined : IsThreaded (thread_of_block c) c.targets → IsThreaded (thread_of_block with_new_block) w
    threads-joined threads q t = (to, from)
      where
        others : q ≢ p → thread_of_block with_new_block q ≡ thread_of_block c q
        others ne = ap (option_map (λ (r : BlockRecord B). r.thread)) (elsewhere q.key (other_key q p ne))

        mine : thread_of_block with_new_block p ≡ Some b.thread
        mine = ap (option_map (λ (r : BlockRecord B). r.thread)) now

        none : thread_of_block c p ≡ None
        none = ap (option_map (λ (r : BlockRecord B). r.thread)) fresh

        to : thread_of_block with_new_block q ≡ Some t → key_of w t ≡ Some q
        to h = ⊎_elim
            (λ (e : q ≡ p). let s : Some b.thread ≡ Some t = sym mine ∙ ap (thread_of_block with_new_block) (sym e) ∙ h in let r : b.thread ≡ t = cc in ap (key_of w) (sym r) ∙ defined.changed ∙ ap Some (sym e))
            (λ ne. let was : key_of c.targets t ≡ Some q = (threads q t).0 (sym (others ne) ∙ h) in
            let nt : t ≢ b.thread = λ r. let s : None ≡ Some q = sym free ∙ ap (key_of c.targets) (sym r) ∙ was in cc in
            defined.others t nt ∙ was)
            (same_or_not q p)

        from : key_of w t ≡ Some q → thread_of_block with_new_block q ≡ Some t
        from h = ⊎_elim
            (λ (r : t ≡ b.thread). let s : Some p ≡ Some q = sym defined.changed ∙ ap (key_of w) (sym r) ∙ h in let e : p ≡ q = cc in ap (thread_of_block with_new_block) (sym e) ∙ mine ∙ ap Some (sym r))
            (λ nt. let was : key_of c.targets t ≡ Some q = sym (defined.others t nt) ∙ h in
            let old : thread_of_block c q ≡ Some t = (threads q t).1 was in
            others (λ e. let s : None ≡ Some t = sym none ∙ ap (thread_of_block c) (sym e) ∙ old in cc) ∙ old)
            (cases_eq t b.thread)

    pub block-made-sound : IsProgram c → IsProgram with_new_block
    block-made-sound inv = record {
      operands = placed-same (place_of c.values) (operand_row c) inv.operands (place_of c.values) (operand_row with_new_block) (λ q. refl) (λ i. ap (λ s. unwrap_or (option_map (λ (r : OperationRecord O). r.operands.items) (held s i)) []) ops);
      successors = placed-same (place_of c.targets) (successor_row c) inv.successors (place_of w) (successor_row with_new_block) (λ q. ap (λ ps. place_of (record w { places = ps }) q) places) (λ i. ap (λ s. unwrap_or (option_map (λ (r : OperationRecord O). r.successors.items) (held s i)) []) ops);
      values = λ v t. subst (λ ds. (option_map (λ (d : Definition). d.thread) (numbered v.number ds) ≡ Some t) ↔ (key_of c.values t ≡ Some v)) (sym (definitions-joined v.definer)) (inv.values v t);
      blocks = threads-joined inv.blocks;
      numbers = λ e. subst (AreNumbered c.counter) (sym (definitions-joined e)) (inv.numbers e);
      own = own-same (definitions_of c) (definitions_of with_new_block) inv.own definitions-joined;
      homes = λ i h. let home = inv.homes i (subst (λ s. IsSome (held s i)) regions h) in (home.0, ap (λ l. has i (list_at l.lists home.0)) in_ops ∙ home.1);
    }

    pub block-made : (unspent : IsSpent c.forest.blocks p.key → ⊥) → KeepsSpent c.forest.blocks f.blocks → list_at f.in_blocks.lists p.key.slot ≡ [] → IsForest c.forest
        → ((q d : ℕ) → NamesDefinition c.targets q d → IsDefined c.targets d) → (payload : B) → b.payload ≡ payload → MakesBareBlock c with_new_block p payload
    block-made unspent kept bare forest known payload carried =
        let named : (x : ℕ) → block_named w x ≡ block_named c.targets x = names-kept _ c.targets w places (λ q d names. defined.others d (λ e. let h : IsSome (key_of c.targets d) = known q d names in let n : key_of c.targets d ≡ None = ap (key_of c.targets) e ∙ free in cc)) in
        record {
          fresh = ap (option_map (block_of c p)) fresh;
          unspent = unspent;
          made = ap (option_map (block_of with_new_block p)) now ∙ rw (arguments, bare, carried) refl;
          others = λ q ne. ap (option_map (block_of with_new_block q)) (elsewhere q.key (other_key q p ne)) ∙ option_map-same _ _ _ (λ r e. rw (ops, in_blocks q.key.slot) refl);
          operations = λ q. ap (λ s. option_map (operation_of with_new_block q) (get s q.key)) ops
              ∙ option_map-same _ _ _ (λ r e. rw (regions, in_ops) (ap (λ l. record (operation_of c q r) { successors = l }) (map-same _ _ r.successors.items (λ k x h. named x))));
          regions = λ q. ap (λ s. option_map (λ _. region_of with_new_block q) (get s q.key)) regions
              ∙ option_map-same _ _ _ (λ r e. ap (λ l. record { blocks = l }) (ap (λ ls. handles_of f.blocks (list_at ls q.key.slot)) regions_same ∙ pointers-stay c.forest.blocks f.blocks p.key.slot b sets _ (λ i h. forest.blocks.members q.key.slot i h)));
          erased = record { operations = λ x s. rw ops s; blocks = kept; regions = λ x s. rw regions s };
          counter = refl;
        }

pub the_same : {X : Type 0} (o : Option X) (x y : X) → o ≡ Some x → o ≡ Some y → x ≡ y
the_same o x y e h = let s : Some x ≡ Some y = sym e ∙ h in cc

-- a block whose slot no list has stands in no region
pub unlinked_block_where : {O B : Type 0} (c : Program O B) (p : Ptr BasicBlock) → AreListed c → ((r : ℕ) → has p.key.slot (list_at c.forest.in_regions.lists r) ≡ false) → IsUnlinkedBlock c p
unlinked_block_where c p known none r stands = both_ways _ (none r.key.slot) (has_slot c.forest.blocks c.forest.regions c.forest.in_regions.lists (blocks_in c) (in_regions c known) r stands.index p stands.here)
