-- What an edit of the lists of blocks in regions makes of the program.
use Rattle.std.proofs.Common.{◌≡◌, ◌≢◌, ℕ, ◌<◌, ◌≤◌, ◌+◌, true, List, [], ◌∷◌, ◌++◌, map, length, Some, IsSome, slice_get, set, insert, remove, refl, sym, ap, subst, ◌∙◌, arith}
use Rattle.std.proofs.lemmas.List.{map-append, length-set}
use Rattle.std.proofs.lemmas.Bool.{both_ways}
use Rattle.ir_arena.specs.Arena.{get}
use Rattle.ir_entities.specs.Lists.{ListsView}
use Rattle.ir_entities.specs.Links.{has, list_at, put_after, put_before, without, IsLinked, IsUnlinked}
use Rattle.ir_entities.specs.Forest.{Forest, shape_of}
use Rattle.ir_entities.specs.Shape.{IsInside}
use Rattle.ir_entities.specs.declared.forest.Place.TheVariants.{Block, Region as RegionPlace}
use Rattle.ir_arena.proofs.Slots.{live_slot}
use Rattle.ir_entities.proofs.Trees.{has_without_at}
use Rattle.ir_program.specs.Program.{Program, RegionView, block_at, region_at, region_of}
use Rattle.ir_program.specs.Sound.{IsProgram}
use Rattle.ir_program.specs.Listed.{AreListed}
use Rattle.ir_program.specs.Lists.{blocks_in, StandsInRegion, IsLinkedBlock, IsUnlinkedBlock, StandsInside}
use Rattle.ir_program.specs.Edits.{EditsRegion, AppendsRegion}
use Rattle.ir_program.specs.declared.handles.Ptr.{Ptr}
use Rattle.ir_program.specs.declared.handles.BasicBlock.{BasicBlock}
use Rattle.ir_program.specs.declared.handles.Region.{Region}
use Rattle.ir_program.specs.declared.handles.IRNode.{IRNode}
use Rattle.ir_program.specs.declared.handles.IRNode.TheVariants.{BasicBlock as BlockNode, Region as RegionNode}
use Rattle.ir_program.specs.declared.records.OperationRecord.{OperationRecord}
use Rattle.ir_program.specs.declared.records.BlockRecord.{BlockRecord}
use Rattle.ir_program.specs.declared.records.RegionRecord.{RegionRecord}
use Rattle.ir_program.proofs.lists.Slotted.{of_slot, handle_is, pointer_live, at_slot, at_has, has_at, list_of_some, one_handle, map_edited, map_same, map-insert, map-remove, SetsList, set_list, put_after_list, put_before_list, without_list}
use Rattle.ir_program.proofs.lists.Levels.{has_slot, slot_at_index, stands_at}
use Rattle.ir_program.proofs.lists.There.{block_got, block_there, region_got, region_there}
use Rattle.ir_program.proofs.lists.InRegions.{IsLevelOfRegions, in_regions, region_of_slot, unlinked_block}
use Rattle.ir_program.proofs.lists.Inside.{inside_by_handles, inside_fewer, slot_in_region}
use Rattle.ir_program.proofs.lists.Rearranged.{still_program}

module _ {O B : Type 0} where
  -- with other lists of blocks in regions
  abbrev pub with_in_regions : Program O B → ListsView → Program O B
  with_in_regions c l = record c { forest = record c.forest { in_regions = l } }

  -- the list of one region changes
  region_edited : (c : Program O B) (l : ListsView) (b : Ptr Region) (is : List ℕ) (edit : List (Ptr BasicBlock) → List (Ptr BasicBlock))
      → IsSome (region_at c b) → SetsList c.forest.in_regions.lists l.lists b.key.slot is
      → map (of_slot c.forest.blocks) is ≡ edit (map (of_slot c.forest.blocks) (list_at c.forest.in_regions.lists b.key.slot))
      → EditsRegion c (with_in_regions c l) b (λ v. record v { blocks = edit v.blocks })
  region_edited c l b is edit live sets e = record {
    edited = map_edited (get c.forest.regions b.key) (λ u. region_of c b) (λ u. region_of (with_in_regions c l) b) (λ (v : RegionView). record v { blocks = edit v.blocks })
        (λ r. ap (λ os. record (region_of c b) { blocks = os }) (ap (map (of_slot c.forest.blocks)) sets.here ∙ e));
    others = λ q ne. map_same (get c.forest.regions q.key) (λ u. region_of c q) (λ u. region_of (with_in_regions c l) q)
        (λ live_q r. ap (λ is. record (region_of c q) { blocks = map (of_slot c.forest.blocks) is }) (sets.others q.key.slot (λ s. ne (one_handle c.forest.regions q b live_q (region_got c b live) s))));
    operations = λ q. refl;
    blocks = λ q. refl;
    erased = record { operations = λ q s. s; blocks = λ q s. s; regions = λ q s. s };
  }

  -- what stands in no list by slots stands in none by handles
  pub stands_nowhere : (c : Program O B) (p : Ptr BasicBlock) → IsUnlinked c.forest.in_regions.lists p.key.slot → IsUnlinkedBlock c p
  stands_nowhere c p free b s =
      let live : IsSome (get c.forest.regions b.key) = region_got c b s.region in
      let listed : blocks_in c b ≡ map (of_slot c.forest.blocks) (list_at c.forest.in_regions.lists b.key.slot) = list_of_some (λ (v : RegionView). v.blocks) (λ u. region_of c b) (get c.forest.regions b.key) (map (of_slot c.forest.blocks) (list_at c.forest.in_regions.lists b.key.slot)) (λ a. refl) live in
      both_ways (has p.key.slot (list_at c.forest.in_regions.lists b.key.slot)) (free b.key.slot)
      (at_has (list_at c.forest.in_regions.lists b.key.slot) s.index p.key.slot (at_slot c.forest.blocks (list_at c.forest.in_regions.lists b.key.slot) s.index p (rw listed at s.here)))

  -- the lists of two regions change
  regions_appended : (c : Program O B) (l : ListsView) (b d : Ptr Region) → IsSome (region_at c b) → IsSome (region_at c d) → b ≢ d
      → l.lists ≡ set (set c.forest.in_regions.lists b.key.slot (list_at c.forest.in_regions.lists b.key.slot ++ list_at c.forest.in_regions.lists d.key.slot)) d.key.slot []
      → b.key.slot < length c.forest.in_regions.lists → d.key.slot < length c.forest.in_regions.lists
      → AppendsRegion c (with_in_regions c l) b d
  regions_appended c l b d live_b live_d ne e lb ld =
      let both : List ℕ = list_at c.forest.in_regions.lists b.key.slot ++ list_at c.forest.in_regions.lists d.key.slot in
      let apart : b.key.slot ≢ d.key.slot = λ s. ne (one_handle c.forest.regions b d (region_got c b live_b) (region_got c d live_d) s) in
      let first : SetsList c.forest.in_regions.lists (set c.forest.in_regions.lists b.key.slot both) b.key.slot both = set_list c.forest.in_regions.lists b.key.slot both lb in
      let then : SetsList (set c.forest.in_regions.lists b.key.slot both) (set (set c.forest.in_regions.lists b.key.slot both) d.key.slot []) d.key.slot [] = set_list (set c.forest.in_regions.lists b.key.slot both) d.key.slot [] (rw length-set ld) in
      let new_at : (x : ℕ) → list_at l.lists x ≡ list_at (set (set c.forest.in_regions.lists b.key.slot both) d.key.slot []) x = λ x. ap (λ ls. list_at ls x) e in
      let listed : blocks_in c d ≡ map (of_slot c.forest.blocks) (list_at c.forest.in_regions.lists d.key.slot) = list_of_some (λ (v : RegionView). v.blocks) (λ u. region_of c d) (get c.forest.regions d.key) (map (of_slot c.forest.blocks) (list_at c.forest.in_regions.lists d.key.slot)) (λ a. refl) (region_got c d live_d) in
      record {
        donee_edited = map_edited (get c.forest.regions b.key) (λ u. region_of c b) (λ u. region_of (with_in_regions c l) b) (λ (v : RegionView). record v { blocks = v.blocks ++ blocks_in c d })
            (λ r. ap (λ os. record (region_of c b) { blocks = os })
            (ap (map (of_slot c.forest.blocks)) (new_at b.key.slot ∙ then.others b.key.slot apart ∙ first.here)
            ∙ map-append (of_slot c.forest.blocks) (list_at c.forest.in_regions.lists b.key.slot) (list_at c.forest.in_regions.lists d.key.slot)
            ∙ ap (λ os. map (of_slot c.forest.blocks) (list_at c.forest.in_regions.lists b.key.slot) ++ os) (sym listed)));
        donor_edited = map_edited (get c.forest.regions d.key) (λ u. region_of c d) (λ u. region_of (with_in_regions c l) d) (λ (v : RegionView). record v { blocks = [] })
            (λ r. ap (λ is. record (region_of c d) { blocks = map (of_slot c.forest.blocks) is }) (new_at d.key.slot ∙ then.here));
        others = λ q nb nd. map_same (get c.forest.regions q.key) (λ u. region_of c q) (λ u. region_of (with_in_regions c l) q)
            (λ live_q r. ap (λ is. record (region_of c q) { blocks = map (of_slot c.forest.blocks) is })
            (new_at q.key.slot
            ∙ then.others q.key.slot (λ s. nd (one_handle c.forest.regions q d live_q (region_got c d live_d) s))
            ∙ first.others q.key.slot (λ s. nb (one_handle c.forest.regions q b live_q (region_got c b live_b) s))));
        operations = λ q. refl;
        blocks = λ q. refl;
        erased = record { operations = λ q s. s; blocks = λ q s. s; regions = λ q s. s };
      }

  -- once a block is out, nothing stands inside what it did not
  inside_before : (c : Program O B) → AreListed c → (l : ListsView) (m : ℕ) → l.lists ≡ map (without m) c.forest.in_regions.lists → (x e : IRNode) → StandsInside (with_in_regions c l) x e → StandsInside c x e
  inside_before c known l m out = inside_fewer c (with_in_regions c l)
      (λ p b s. record { operation = s.operation; block = s.block; index = s.index; here = s.here })
      (λ b r s.
      let now : has b.key.slot (list_at (map (without m) c.forest.in_regions.lists) r.key.slot) ≡ true = subst (λ ls. has b.key.slot (list_at ls r.key.slot) ≡ true) out (slot_in_region (with_in_regions c l) b r s) in
      let stood : StandsInRegion c b (of_slot c.forest.regions r.key.slot) = region_of_slot c (in_regions c known) b r.key.slot s.block (has_without_at c.forest.in_regions.lists m r.key.slot b.key.slot now) in
      subst (λ (q : Ptr Region). StandsInRegion c b q) (handle_is c.forest.regions r (region_got (with_in_regions c l) r s.region)) stood)
      (λ r p s. record { region = region_there c r (region_got (with_in_regions c l) r s.region); operation = s.operation; index = s.index; here = s.here })

module _ {O B : Type 0} (i c : Program O B) (seen : i ≡ c) (known : AreListed c) where
  level : IsLevelOfRegions c
  level = in_regions c known

  pub block_linked : (p : Ptr BasicBlock) → IsLinkedBlock c p → IsLinked i.forest.in_regions.lists p.key.slot
  block_linked p l = subst (λ (w : Program O B). IsLinked w.forest.in_regions.lists p.key.slot) (sym seen) (l.0.key.slot, has_slot c.forest.blocks c.forest.regions c.forest.in_regions.lists (blocks_in c) level l.0 l.1.index p l.1.here)

  pub block_unlinked : (p : Ptr BasicBlock) → IsSome (block_at c p) → IsUnlinkedBlock c p → IsUnlinked i.forest.in_regions.lists p.key.slot
  block_unlinked p live free = subst (λ (w : Program O B). IsUnlinked w.forest.in_regions.lists p.key.slot) (sym seen) (unlinked_block c level p live free)

  pub list_made : (b : Ptr Region) → IsSome (region_at c b) → b.key.slot < length c.forest.in_regions.lists
  list_made b live =
      let within : b.key.slot < length c.forest.regions = (live_slot c.forest.regions b.key (region_got c b live)).within in
      let made : length c.forest.regions ≤ length c.forest.in_regions.lists = known.forest.blocks.lists_made in
      omega arith

  pub regions_differ : (b d : Ptr Region) → IsSome (region_at c b) → IsSome (region_at c d) → b ≢ d → b.key.slot ≢ d.key.slot
  regions_differ b d live_b live_d ne s = ne (one_handle c.forest.regions b d (region_got c b live_b) (region_got c d live_d) s)

  pub donor_apart : (b d : Ptr Region) → IsSome (region_at c b) → IsSome (region_at c d) → ((p : Ptr BasicBlock) → StandsInRegion c p d → StandsInside c (BlockNode p) (RegionNode b) → ⊥)
      → (x : ℕ) → has x (list_at i.forest.in_regions.lists d.key.slot) ≡ true → IsInside (shape_of i.forest) (Block x) (RegionPlace b.key.slot) → ⊥
  donor_apart b d live_b live_d no_way = subst (λ (w : Program O B). (x : ℕ) → has x (list_at w.forest.in_regions.lists d.key.slot) ≡ true → IsInside (shape_of w.forest) (Block x) (RegionPlace b.key.slot) → ⊥) (sym seen)
      (λ x h inside.
      let live : IsSome (get c.forest.blocks (of_slot {E = BasicBlock} c.forest.blocks x).key) = pointer_live c.forest.blocks x (level.members d.key.slot x h) in
      let at : (k : ℕ) × (slice_get (list_at c.forest.in_regions.lists d.key.slot) k ≡ Some x) = has_at (list_at c.forest.in_regions.lists d.key.slot) x h in
      no_way (of_slot c.forest.blocks x) (record {
        block = block_there c (of_slot c.forest.blocks x) live;
        region = live_d;
        index = at.0;
        here = stands_at c.forest.blocks c.forest.regions c.forest.in_regions.lists (blocks_in c) level d at.0 (of_slot c.forest.blocks x) (region_got c d live_d) live at.1;
      }) (inside_by_handles c known (BlockNode (of_slot c.forest.blocks x)) (block_there c (of_slot c.forest.blocks x) live) (RegionNode b) live_b inside))

  module _ (f : Forest (OperationRecord O) (BlockRecord B) RegionRecord) (rest : f ≡ record i.forest { in_regions = f.in_regions }) where
    pub blocks_still_program : IsProgram i → IsProgram (record i { forest = f })
    blocks_still_program kept = still_program i i.forest.in_blocks f.in_regions i.forest.in_ops f rest kept kept.homes

    new_is : with_in_regions c f.in_regions ≡ record i { forest = f }
    new_is = ap (λ (w : Program O B). with_in_regions w f.in_regions) (sym seen) ∙ ap (λ (t : Forest (OperationRecord O) (BlockRecord B) RegionRecord). record i { forest = t }) (sym rest)

    abbrev EditsTo : Ptr Region → (List (Ptr BasicBlock) → List (Ptr BasicBlock)) → Type 0
    EditsTo b edit = EditsRegion c (record i { forest = f }) b (λ v. record v { blocks = edit v.blocks })

    edits_to : (b : Ptr Region) (is : List ℕ) (edit : List (Ptr BasicBlock) → List (Ptr BasicBlock)) → IsSome (region_at c b) → SetsList c.forest.in_regions.lists f.in_regions.lists b.key.slot is
        → map (of_slot c.forest.blocks) is ≡ edit (map (of_slot c.forest.blocks) (list_at c.forest.in_regions.lists b.key.slot)) → EditsTo b edit
    edits_to b is edit live sets e = subst (λ (w : Program O B). EditsRegion c w b (λ v. record v { blocks = edit v.blocks })) new_is (region_edited c f.in_regions b is edit live sets e)

    -- the lists by the program as it is seen
    lists_as : (g : List (List ℕ) → List (List ℕ)) → f.in_regions.lists ≡ g i.forest.in_regions.lists → f.in_regions.lists ≡ g c.forest.in_regions.lists
    lists_as g e = e ∙ ap (λ (w : Program O B). g w.forest.in_regions.lists) seen

    sets_as : (g : List (List ℕ) → List (List ℕ)) (b : ℕ) (is : List ℕ) → f.in_regions.lists ≡ g i.forest.in_regions.lists → SetsList c.forest.in_regions.lists (g c.forest.in_regions.lists) b is → SetsList c.forest.in_regions.lists f.in_regions.lists b is
    sets_as g b is e s = subst (λ ls. SetsList c.forest.in_regions.lists ls b is) (sym (lists_as g e)) s

    module _ (p : Ptr BasicBlock) (live_p : IsSome (block_at c p)) where
      is_p : of_slot c.forest.blocks p.key.slot ≡ p
      is_p = handle_is c.forest.blocks p (block_got c p live_p)

      pub put_first : (b : Ptr Region) → IsSome (region_at c b) → f.in_regions.lists ≡ set i.forest.in_regions.lists b.key.slot (p.key.slot ∷ list_at i.forest.in_regions.lists b.key.slot) → EditsTo b (λ os. p ∷ os)
      put_first b live e = edits_to b (p.key.slot ∷ list_at c.forest.in_regions.lists b.key.slot) (λ os. p ∷ os) live
          (sets_as (λ ls. set ls b.key.slot (p.key.slot ∷ list_at ls b.key.slot)) b.key.slot (p.key.slot ∷ list_at c.forest.in_regions.lists b.key.slot) e
          (set_list c.forest.in_regions.lists b.key.slot (p.key.slot ∷ list_at c.forest.in_regions.lists b.key.slot) (list_made b live)))
          (ap (λ q. q ∷ map (of_slot c.forest.blocks) (list_at c.forest.in_regions.lists b.key.slot)) is_p)

      pub put_last : (b : Ptr Region) → IsSome (region_at c b) → f.in_regions.lists ≡ set i.forest.in_regions.lists b.key.slot (list_at i.forest.in_regions.lists b.key.slot ++ p.key.slot ∷ []) → EditsTo b (λ os. os ++ p ∷ [])
      put_last b live e = edits_to b (list_at c.forest.in_regions.lists b.key.slot ++ p.key.slot ∷ []) (λ os. os ++ p ∷ []) live
          (sets_as (λ ls. set ls b.key.slot (list_at ls b.key.slot ++ p.key.slot ∷ [])) b.key.slot (list_at c.forest.in_regions.lists b.key.slot ++ p.key.slot ∷ []) e
          (set_list c.forest.in_regions.lists b.key.slot (list_at c.forest.in_regions.lists b.key.slot ++ p.key.slot ∷ []) (list_made b live)))
          (map-append (of_slot c.forest.blocks) (list_at c.forest.in_regions.lists b.key.slot) (p.key.slot ∷ []) ∙ ap (λ q. map (of_slot c.forest.blocks) (list_at c.forest.in_regions.lists b.key.slot) ++ q ∷ []) is_p)

      module _ (m : Ptr BasicBlock) (b : Ptr Region) (k : ℕ) (at : slice_get (blocks_in c b) k ≡ Some m) where
        live_b : IsSome (region_at c b)
        live_b = region_there c b (level.some b k m at)

        at_slots : slice_get (list_at c.forest.in_regions.lists b.key.slot) k ≡ Some m.key.slot
        at_slots = slot_at_index c.forest.blocks c.forest.regions c.forest.in_regions.lists (blocks_in c) level b k m at

        inserted : (n : ℕ) → map (of_slot c.forest.blocks) (insert (list_at c.forest.in_regions.lists b.key.slot) n p.key.slot) ≡ insert (map (of_slot c.forest.blocks) (list_at c.forest.in_regions.lists b.key.slot)) n p
        inserted n = map-insert (of_slot c.forest.blocks) (list_at c.forest.in_regions.lists b.key.slot) n p.key.slot ∙ ap (insert (map (of_slot c.forest.blocks) (list_at c.forest.in_regions.lists b.key.slot)) n) is_p

        pub put_behind : f.in_regions.lists ≡ map (put_after m.key.slot p.key.slot) i.forest.in_regions.lists → EditsTo b (λ os. insert os (k + 1) p)
        put_behind e = edits_to b (insert (list_at c.forest.in_regions.lists b.key.slot) (k + 1) p.key.slot) (λ os. insert os (k + 1) p) live_b
            (sets_as (map (put_after m.key.slot p.key.slot)) b.key.slot (insert (list_at c.forest.in_regions.lists b.key.slot) (k + 1) p.key.slot) e
            (put_after_list c.forest.in_regions.lists level.apart b.key.slot k m.key.slot (level.distinct b.key.slot) at_slots p.key.slot))
            (inserted (k + 1))

        pub put_ahead : f.in_regions.lists ≡ map (put_before m.key.slot p.key.slot) i.forest.in_regions.lists → EditsTo b (λ os. insert os k p)
        put_ahead e = edits_to b (insert (list_at c.forest.in_regions.lists b.key.slot) k p.key.slot) (λ os. insert os k p) live_b
            (sets_as (map (put_before m.key.slot p.key.slot)) b.key.slot (insert (list_at c.forest.in_regions.lists b.key.slot) k p.key.slot) e
            (put_before_list c.forest.in_regions.lists level.apart b.key.slot k m.key.slot (level.distinct b.key.slot) at_slots p.key.slot))
            (inserted k)

    pub taken_out : (p : Ptr BasicBlock) (b : Ptr Region) (k : ℕ) → slice_get (blocks_in c b) k ≡ Some p → f.in_regions.lists ≡ map (without p.key.slot) i.forest.in_regions.lists → EditsTo b (λ os. remove os k)
    taken_out p b k at e = edits_to b (remove (list_at c.forest.in_regions.lists b.key.slot) k) (λ os. remove os k) (region_there c b (level.some b k p at))
        (sets_as (map (without p.key.slot)) b.key.slot (remove (list_at c.forest.in_regions.lists b.key.slot) k) e
        (without_list c.forest.in_regions.lists level.apart b.key.slot k p.key.slot (level.distinct b.key.slot) (slot_at_index c.forest.blocks c.forest.regions c.forest.in_regions.lists (blocks_in c) level b k p at)))
        (map-remove (of_slot c.forest.blocks) (list_at c.forest.in_regions.lists b.key.slot) k)

    pub put_together : (b d : Ptr Region) → IsSome (region_at c b) → IsSome (region_at c d) → b ≢ d
        → f.in_regions.lists ≡ set (set i.forest.in_regions.lists b.key.slot (list_at i.forest.in_regions.lists b.key.slot ++ list_at i.forest.in_regions.lists d.key.slot)) d.key.slot []
        → AppendsRegion c (record i { forest = f }) b d
    put_together b d live_b live_d ne e = subst (λ (w : Program O B). AppendsRegion c w b d) new_is
        (regions_appended c f.in_regions b d live_b live_d ne (lists_as (λ ls. set (set ls b.key.slot (list_at ls b.key.slot ++ list_at ls d.key.slot)) d.key.slot []) e) (list_made b live_b) (list_made d live_d))

    pub nothing_further_inside : (p : Ptr BasicBlock) → f.in_regions.lists ≡ map (without p.key.slot) i.forest.in_regions.lists → (x e : IRNode) → StandsInside (record i { forest = f }) x e → StandsInside c x e
    nothing_further_inside p e = subst (λ (w : Program O B). (x e : IRNode) → StandsInside w x e → StandsInside c x e) new_is (inside_before c known f.in_regions p.key.slot (lists_as (map (without p.key.slot)) e))
