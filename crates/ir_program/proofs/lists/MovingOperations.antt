-- What an edit of the lists of operations in blocks makes of the program.
use Rattle.std.proofs.Common.{◌≡◌, ◌≢◌, ℕ, ◌<◌, ◌≤◌, ◌+◌, true, List, [], ◌∷◌, ◌++◌, map, length, Some, IsSome, slice_get, set, insert, remove, refl, sym, ap, subst, ◌∙◌, arith}
use Rattle.std.proofs.lemmas.List.{map-append, length-set}
use Rattle.std.proofs.lemmas.Bool.{both_ways}
use Rattle.ir_arena.specs.Arena.{get}
use Rattle.ir_entities.specs.Lists.{ListsView}
use Rattle.ir_entities.specs.Links.{has, list_at, put_after, put_before, without, IsLinked, IsUnlinked}
use Rattle.ir_entities.specs.Forest.{Forest, shape_of}
use Rattle.ir_entities.specs.Shape.{IsInside}
use Rattle.ir_entities.specs.declared.forest.Place.TheVariants.{Op, Block}
use Rattle.ir_arena.proofs.Slots.{live_slot}
use Rattle.ir_entities.proofs.Trees.{has_without_at}
use Rattle.ir_program.specs.Program.{Program, BlockView, operation_at, block_at, block_of}
use Rattle.ir_program.specs.Sound.{IsProgram}
use Rattle.ir_program.specs.Listed.{AreListed}
use Rattle.ir_program.specs.Lists.{operations_in, StandsInBlock, IsLinkedOperation, IsUnlinkedOperation, StandsInside}
use Rattle.ir_program.specs.Edits.{EditsBlock, AppendsBlock}
use Rattle.ir_program.specs.declared.handles.Ptr.{Ptr}
use Rattle.ir_program.specs.declared.handles.Operation.{Operation}
use Rattle.ir_program.specs.declared.handles.BasicBlock.{BasicBlock}
use Rattle.ir_program.specs.declared.handles.IRNode.{IRNode}
use Rattle.ir_program.specs.declared.handles.IRNode.TheVariants.{Operation as OperationNode, BasicBlock as BlockNode}
use Rattle.ir_program.specs.declared.records.OperationRecord.{OperationRecord}
use Rattle.ir_program.specs.declared.records.BlockRecord.{BlockRecord}
use Rattle.ir_program.specs.declared.records.RegionRecord.{RegionRecord}
use Rattle.ir_program.proofs.lists.Slotted.{of_slot, handle_is, pointer_live, at_slot, at_has, has_at, list_of_some, one_handle, map_edited, map_same, map-insert, map-remove, SetsList, set_list, put_after_list, put_before_list, without_list}
use Rattle.ir_program.proofs.lists.Levels.{has_slot, slot_at_index, stands_at}
use Rattle.ir_program.proofs.lists.There.{operation_got, operation_there, block_got, block_there}
use Rattle.ir_program.proofs.lists.InBlocks.{IsLevelOfBlocks, in_blocks, block_of_slot, unlinked_operation}
use Rattle.ir_program.proofs.lists.Inside.{inside_by_handles, inside_fewer, slot_in_block}
use Rattle.ir_program.proofs.lists.Rearranged.{still_program}

module _ {O B : Type 0} where
  -- with other lists of operations in blocks
  abbrev pub with_in_blocks : Program O B → ListsView → Program O B
  with_in_blocks c l = record c { forest = record c.forest { in_blocks = l } }

  -- the list of one block changes
  block_edited : (c : Program O B) (l : ListsView) (b : Ptr BasicBlock) (is : List ℕ) (edit : List (Ptr Operation) → List (Ptr Operation))
      → IsSome (block_at c b) → SetsList c.forest.in_blocks.lists l.lists b.key.slot is
      → map (of_slot c.forest.ops) is ≡ edit (map (of_slot c.forest.ops) (list_at c.forest.in_blocks.lists b.key.slot))
      → EditsBlock c (with_in_blocks c l) b (λ v. record v { operations = edit v.operations })
  block_edited c l b is edit live sets e = record {
    edited = map_edited (get c.forest.blocks b.key) (block_of c b) (block_of (with_in_blocks c l) b) (λ (v : BlockView B). record v { operations = edit v.operations })
        (λ r. ap (λ os. record (block_of c b r) { operations = os }) (ap (map (of_slot c.forest.ops)) sets.here ∙ e));
    others = λ q ne. map_same (get c.forest.blocks q.key) (block_of c q) (block_of (with_in_blocks c l) q)
        (λ live_q r. ap (λ is. record (block_of c q r) { operations = map (of_slot c.forest.ops) is }) (sets.others q.key.slot (λ s. ne (one_handle c.forest.blocks q b live_q (block_got c b live) s))));
    operations = λ q. refl;
    regions = λ q. refl;
    erased = record { operations = λ q s. s; blocks = λ q s. s; regions = λ q s. s };
  }

  -- what stands in no list by slots stands in none by handles
  pub stands_nowhere : (c : Program O B) (p : Ptr Operation) → IsUnlinked c.forest.in_blocks.lists p.key.slot → IsUnlinkedOperation c p
  stands_nowhere c p free b s =
      let live : IsSome (get c.forest.blocks b.key) = block_got c b s.block in
      let listed : operations_in c b ≡ map (of_slot c.forest.ops) (list_at c.forest.in_blocks.lists b.key.slot) = list_of_some (λ (v : BlockView B). v.operations) (block_of c b) (get c.forest.blocks b.key) (map (of_slot c.forest.ops) (list_at c.forest.in_blocks.lists b.key.slot)) (λ a. refl) live in
      both_ways (has p.key.slot (list_at c.forest.in_blocks.lists b.key.slot)) (free b.key.slot)
      (at_has (list_at c.forest.in_blocks.lists b.key.slot) s.index p.key.slot (at_slot c.forest.ops (list_at c.forest.in_blocks.lists b.key.slot) s.index p (rw listed at s.here)))

  -- the lists of two blocks change
  blocks_appended : (c : Program O B) (l : ListsView) (b d : Ptr BasicBlock) → IsSome (block_at c b) → IsSome (block_at c d) → b ≢ d
      → l.lists ≡ set (set c.forest.in_blocks.lists b.key.slot (list_at c.forest.in_blocks.lists b.key.slot ++ list_at c.forest.in_blocks.lists d.key.slot)) d.key.slot []
      → b.key.slot < length c.forest.in_blocks.lists → d.key.slot < length c.forest.in_blocks.lists
      → AppendsBlock c (with_in_blocks c l) b d
  blocks_appended c l b d live_b live_d ne e lb ld =
      let both : List ℕ = list_at c.forest.in_blocks.lists b.key.slot ++ list_at c.forest.in_blocks.lists d.key.slot in
      let apart : b.key.slot ≢ d.key.slot = λ s. ne (one_handle c.forest.blocks b d (block_got c b live_b) (block_got c d live_d) s) in
      let first : SetsList c.forest.in_blocks.lists (set c.forest.in_blocks.lists b.key.slot both) b.key.slot both = set_list c.forest.in_blocks.lists b.key.slot both lb in
      let then : SetsList (set c.forest.in_blocks.lists b.key.slot both) (set (set c.forest.in_blocks.lists b.key.slot both) d.key.slot []) d.key.slot [] = set_list (set c.forest.in_blocks.lists b.key.slot both) d.key.slot [] (rw length-set ld) in
      let new_at : (x : ℕ) → list_at l.lists x ≡ list_at (set (set c.forest.in_blocks.lists b.key.slot both) d.key.slot []) x = λ x. ap (λ ls. list_at ls x) e in
      let listed : operations_in c d ≡ map (of_slot c.forest.ops) (list_at c.forest.in_blocks.lists d.key.slot) = list_of_some (λ (v : BlockView B). v.operations) (block_of c d) (get c.forest.blocks d.key) (map (of_slot c.forest.ops) (list_at c.forest.in_blocks.lists d.key.slot)) (λ a. refl) (block_got c d live_d) in
      record {
        donee_edited = map_edited (get c.forest.blocks b.key) (block_of c b) (block_of (with_in_blocks c l) b) (λ (v : BlockView B). record v { operations = v.operations ++ operations_in c d })
            (λ r. ap (λ os. record (block_of c b r) { operations = os })
            (ap (map (of_slot c.forest.ops)) (new_at b.key.slot ∙ then.others b.key.slot apart ∙ first.here)
            ∙ map-append (of_slot c.forest.ops) (list_at c.forest.in_blocks.lists b.key.slot) (list_at c.forest.in_blocks.lists d.key.slot)
            ∙ ap (λ os. map (of_slot c.forest.ops) (list_at c.forest.in_blocks.lists b.key.slot) ++ os) (sym listed)));
        donor_edited = map_edited (get c.forest.blocks d.key) (block_of c d) (block_of (with_in_blocks c l) d) (λ (v : BlockView B). record v { operations = [] })
            (λ r. ap (λ is. record (block_of c d r) { operations = map (of_slot c.forest.ops) is }) (new_at d.key.slot ∙ then.here));
        others = λ q nb nd. map_same (get c.forest.blocks q.key) (block_of c q) (block_of (with_in_blocks c l) q)
            (λ live_q r. ap (λ is. record (block_of c q r) { operations = map (of_slot c.forest.ops) is })
            (new_at q.key.slot
            ∙ then.others q.key.slot (λ s. nd (one_handle c.forest.blocks q d live_q (block_got c d live_d) s))
            ∙ first.others q.key.slot (λ s. nb (one_handle c.forest.blocks q b live_q (block_got c b live_b) s))));
        operations = λ q. refl;
        regions = λ q. refl;
        erased = record { operations = λ q s. s; blocks = λ q s. s; regions = λ q s. s };
      }

  -- once an operation is out, nothing stands inside what it did not
  inside_before : (c : Program O B) → AreListed c → (l : ListsView) (m : ℕ) → l.lists ≡ map (without m) c.forest.in_blocks.lists → (x e : IRNode) → StandsInside (with_in_blocks c l) x e → StandsInside c x e
  inside_before c known l m out = inside_fewer c (with_in_blocks c l)
      (λ p b s.
      let now : has p.key.slot (list_at (map (without m) c.forest.in_blocks.lists) b.key.slot) ≡ true = subst (λ ls. has p.key.slot (list_at ls b.key.slot) ≡ true) out (slot_in_block (with_in_blocks c l) p b s) in
      let stood : StandsInBlock c p (of_slot c.forest.blocks b.key.slot) = block_of_slot c (in_blocks c known) p b.key.slot s.operation (has_without_at c.forest.in_blocks.lists m b.key.slot p.key.slot now) in
      subst (λ (q : Ptr BasicBlock). StandsInBlock c p q) (handle_is c.forest.blocks b (block_got (with_in_blocks c l) b s.block)) stood)
      (λ b r s. record { block = block_there c b (block_got (with_in_blocks c l) b s.block); region = s.region; index = s.index; here = s.here })
      (λ r p s. record { region = s.region; operation = s.operation; index = s.index; here = s.here })

module _ {O B : Type 0} (i c : Program O B) (seen : i ≡ c) (known : AreListed c) where
  level : IsLevelOfBlocks c
  level = in_blocks c known

  pub op_linked : (p : Ptr Operation) → IsLinkedOperation c p → IsLinked i.forest.in_blocks.lists p.key.slot
  op_linked p l = subst (λ (w : Program O B). IsLinked w.forest.in_blocks.lists p.key.slot) (sym seen) (l.0.key.slot, has_slot c.forest.ops c.forest.blocks c.forest.in_blocks.lists (operations_in c) level l.0 l.1.index p l.1.here)

  pub op_unlinked : (p : Ptr Operation) → IsSome (operation_at c p) → IsUnlinkedOperation c p → IsUnlinked i.forest.in_blocks.lists p.key.slot
  op_unlinked p live free = subst (λ (w : Program O B). IsUnlinked w.forest.in_blocks.lists p.key.slot) (sym seen) (unlinked_operation c level p live free)

  pub list_made : (b : Ptr BasicBlock) → IsSome (block_at c b) → b.key.slot < length c.forest.in_blocks.lists
  list_made b live =
      let within : b.key.slot < length c.forest.blocks = (live_slot c.forest.blocks b.key (block_got c b live)).within in
      let made : length c.forest.blocks ≤ length c.forest.in_blocks.lists = known.forest.ops.lists_made in
      omega arith

  pub blocks_differ : (b d : Ptr BasicBlock) → IsSome (block_at c b) → IsSome (block_at c d) → b ≢ d → b.key.slot ≢ d.key.slot
  blocks_differ b d live_b live_d ne s = ne (one_handle c.forest.blocks b d (block_got c b live_b) (block_got c d live_d) s)

  pub donor_apart : (b d : Ptr BasicBlock) → IsSome (block_at c b) → IsSome (block_at c d) → ((p : Ptr Operation) → StandsInBlock c p d → StandsInside c (OperationNode p) (BlockNode b) → ⊥)
      → (x : ℕ) → has x (list_at i.forest.in_blocks.lists d.key.slot) ≡ true → IsInside (shape_of i.forest) (Op x) (Block b.key.slot) → ⊥
  donor_apart b d live_b live_d no_way = subst (λ (w : Program O B). (x : ℕ) → has x (list_at w.forest.in_blocks.lists d.key.slot) ≡ true → IsInside (shape_of w.forest) (Op x) (Block b.key.slot) → ⊥) (sym seen)
      (λ x h inside.
      let live : IsSome (get c.forest.ops (of_slot {E = Operation} c.forest.ops x).key) = pointer_live c.forest.ops x (level.members d.key.slot x h) in
      let at : (k : ℕ) × (slice_get (list_at c.forest.in_blocks.lists d.key.slot) k ≡ Some x) = has_at (list_at c.forest.in_blocks.lists d.key.slot) x h in
      no_way (of_slot c.forest.ops x) (record {
        operation = operation_there c (of_slot c.forest.ops x) live;
        block = live_d;
        index = at.0;
        here = stands_at c.forest.ops c.forest.blocks c.forest.in_blocks.lists (operations_in c) level d at.0 (of_slot c.forest.ops x) (block_got c d live_d) live at.1;
      }) (inside_by_handles c known (OperationNode (of_slot c.forest.ops x)) (operation_there c (of_slot c.forest.ops x) live) (BlockNode b) live_b inside))

  module _ (f : Forest (OperationRecord O) (BlockRecord B) RegionRecord) (rest : f ≡ record i.forest { in_blocks = f.in_blocks }) where
    pub ops_still_program : IsProgram i → IsProgram (record i { forest = f })
    ops_still_program kept = still_program i f.in_blocks i.forest.in_regions i.forest.in_ops f rest kept kept.homes

    new_is : with_in_blocks c f.in_blocks ≡ record i { forest = f }
    new_is = ap (λ (w : Program O B). with_in_blocks w f.in_blocks) (sym seen) ∙ ap (λ (t : Forest (OperationRecord O) (BlockRecord B) RegionRecord). record i { forest = t }) (sym rest)

    abbrev EditsTo : Ptr BasicBlock → (List (Ptr Operation) → List (Ptr Operation)) → Type 0
    EditsTo b edit = EditsBlock c (record i { forest = f }) b (λ v. record v { operations = edit v.operations })

    edits_to : (b : Ptr BasicBlock) (is : List ℕ) (edit : List (Ptr Operation) → List (Ptr Operation)) → IsSome (block_at c b) → SetsList c.forest.in_blocks.lists f.in_blocks.lists b.key.slot is
        → map (of_slot c.forest.ops) is ≡ edit (map (of_slot c.forest.ops) (list_at c.forest.in_blocks.lists b.key.slot)) → EditsTo b edit
    edits_to b is edit live sets e = subst (λ (w : Program O B). EditsBlock c w b (λ v. record v { operations = edit v.operations })) new_is (block_edited c f.in_blocks b is edit live sets e)

    -- the lists by the program as it is seen
    lists_as : (g : List (List ℕ) → List (List ℕ)) → f.in_blocks.lists ≡ g i.forest.in_blocks.lists → f.in_blocks.lists ≡ g c.forest.in_blocks.lists
    lists_as g e = e ∙ ap (λ (w : Program O B). g w.forest.in_blocks.lists) seen

    sets_as : (g : List (List ℕ) → List (List ℕ)) (b : ℕ) (is : List ℕ) → f.in_blocks.lists ≡ g i.forest.in_blocks.lists → SetsList c.forest.in_blocks.lists (g c.forest.in_blocks.lists) b is → SetsList c.forest.in_blocks.lists f.in_blocks.lists b is
    sets_as g b is e s = subst (λ ls. SetsList c.forest.in_blocks.lists ls b is) (sym (lists_as g e)) s

    module _ (p : Ptr Operation) (live_p : IsSome (operation_at c p)) where
      is_p : of_slot c.forest.ops p.key.slot ≡ p
      is_p = handle_is c.forest.ops p (operation_got c p live_p)

      pub put_first : (b : Ptr BasicBlock) → IsSome (block_at c b) → f.in_blocks.lists ≡ set i.forest.in_blocks.lists b.key.slot (p.key.slot ∷ list_at i.forest.in_blocks.lists b.key.slot) → EditsTo b (λ os. p ∷ os)
      put_first b live e = edits_to b (p.key.slot ∷ list_at c.forest.in_blocks.lists b.key.slot) (λ os. p ∷ os) live
          (sets_as (λ ls. set ls b.key.slot (p.key.slot ∷ list_at ls b.key.slot)) b.key.slot (p.key.slot ∷ list_at c.forest.in_blocks.lists b.key.slot) e
          (set_list c.forest.in_blocks.lists b.key.slot (p.key.slot ∷ list_at c.forest.in_blocks.lists b.key.slot) (list_made b live)))
          (ap (λ q. q ∷ map (of_slot c.forest.ops) (list_at c.forest.in_blocks.lists b.key.slot)) is_p)

      pub put_last : (b : Ptr BasicBlock) → IsSome (block_at c b) → f.in_blocks.lists ≡ set i.forest.in_blocks.lists b.key.slot (list_at i.forest.in_blocks.lists b.key.slot ++ p.key.slot ∷ []) → EditsTo b (λ os. os ++ p ∷ [])
      put_last b live e = edits_to b (list_at c.forest.in_blocks.lists b.key.slot ++ p.key.slot ∷ []) (λ os. os ++ p ∷ []) live
          (sets_as (λ ls. set ls b.key.slot (list_at ls b.key.slot ++ p.key.slot ∷ [])) b.key.slot (list_at c.forest.in_blocks.lists b.key.slot ++ p.key.slot ∷ []) e
          (set_list c.forest.in_blocks.lists b.key.slot (list_at c.forest.in_blocks.lists b.key.slot ++ p.key.slot ∷ []) (list_made b live)))
          (map-append (of_slot c.forest.ops) (list_at c.forest.in_blocks.lists b.key.slot) (p.key.slot ∷ []) ∙ ap (λ q. map (of_slot c.forest.ops) (list_at c.forest.in_blocks.lists b.key.slot) ++ q ∷ []) is_p)

      module _ (m : Ptr Operation) (b : Ptr BasicBlock) (k : ℕ) (at : slice_get (operations_in c b) k ≡ Some m) where
        live_b : IsSome (block_at c b)
        live_b = block_there c b (level.some b k m at)

        at_slots : slice_get (list_at c.forest.in_blocks.lists b.key.slot) k ≡ Some m.key.slot
        at_slots = slot_at_index c.forest.ops c.forest.blocks c.forest.in_blocks.lists (operations_in c) level b k m at

        inserted : (n : ℕ) → map (of_slot c.forest.ops) (insert (list_at c.forest.in_blocks.lists b.key.slot) n p.key.slot) ≡ insert (map (of_slot c.forest.ops) (list_at c.forest.in_blocks.lists b.key.slot)) n p
        inserted n = map-insert (of_slot c.forest.ops) (list_at c.forest.in_blocks.lists b.key.slot) n p.key.slot ∙ ap (insert (map (of_slot c.forest.ops) (list_at c.forest.in_blocks.lists b.key.slot)) n) is_p

        pub put_behind : f.in_blocks.lists ≡ map (put_after m.key.slot p.key.slot) i.forest.in_blocks.lists → EditsTo b (λ os. insert os (k + 1) p)
        put_behind e = edits_to b (insert (list_at c.forest.in_blocks.lists b.key.slot) (k + 1) p.key.slot) (λ os. insert os (k + 1) p) live_b
            (sets_as (map (put_after m.key.slot p.key.slot)) b.key.slot (insert (list_at c.forest.in_blocks.lists b.key.slot) (k + 1) p.key.slot) e
            (put_after_list c.forest.in_blocks.lists level.apart b.key.slot k m.key.slot (level.distinct b.key.slot) at_slots p.key.slot))
            (inserted (k + 1))

        pub put_ahead : f.in_blocks.lists ≡ map (put_before m.key.slot p.key.slot) i.forest.in_blocks.lists → EditsTo b (λ os. insert os k p)
        put_ahead e = edits_to b (insert (list_at c.forest.in_blocks.lists b.key.slot) k p.key.slot) (λ os. insert os k p) live_b
            (sets_as (map (put_before m.key.slot p.key.slot)) b.key.slot (insert (list_at c.forest.in_blocks.lists b.key.slot) k p.key.slot) e
            (put_before_list c.forest.in_blocks.lists level.apart b.key.slot k m.key.slot (level.distinct b.key.slot) at_slots p.key.slot))
            (inserted k)

    pub taken_out : (p : Ptr Operation) (b : Ptr BasicBlock) (k : ℕ) → slice_get (operations_in c b) k ≡ Some p → f.in_blocks.lists ≡ map (without p.key.slot) i.forest.in_blocks.lists → EditsTo b (λ os. remove os k)
    taken_out p b k at e = edits_to b (remove (list_at c.forest.in_blocks.lists b.key.slot) k) (λ os. remove os k) (block_there c b (level.some b k p at))
        (sets_as (map (without p.key.slot)) b.key.slot (remove (list_at c.forest.in_blocks.lists b.key.slot) k) e
        (without_list c.forest.in_blocks.lists level.apart b.key.slot k p.key.slot (level.distinct b.key.slot) (slot_at_index c.forest.ops c.forest.blocks c.forest.in_blocks.lists (operations_in c) level b k p at)))
        (map-remove (of_slot c.forest.ops) (list_at c.forest.in_blocks.lists b.key.slot) k)

    pub put_together : (b d : Ptr BasicBlock) → IsSome (block_at c b) → IsSome (block_at c d) → b ≢ d
        → f.in_blocks.lists ≡ set (set i.forest.in_blocks.lists b.key.slot (list_at i.forest.in_blocks.lists b.key.slot ++ list_at i.forest.in_blocks.lists d.key.slot)) d.key.slot []
        → AppendsBlock c (record i { forest = f }) b d
    put_together b d live_b live_d ne e = subst (λ (w : Program O B). AppendsBlock c w b d) new_is
        (blocks_appended c f.in_blocks b d live_b live_d ne (lists_as (λ ls. set (set ls b.key.slot (list_at ls b.key.slot ++ list_at ls d.key.slot)) d.key.slot []) e) (list_made b live_b) (list_made d live_d))

    pub nothing_further_inside : (p : Ptr Operation) → f.in_blocks.lists ≡ map (without p.key.slot) i.forest.in_blocks.lists → (x e : IRNode) → StandsInside (record i { forest = f }) x e → StandsInside c x e
    nothing_further_inside p e = subst (λ (w : Program O B). (x e : IRNode) → StandsInside w x e → StandsInside c x e) new_is (inside_before c known f.in_blocks p.key.slot (lists_as (map (without p.key.slot)) e))
