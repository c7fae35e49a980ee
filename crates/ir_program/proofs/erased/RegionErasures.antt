-- What erasing a region takes away and leaves, by handles.
use Rattle.std.proofs.Common.{◌≡◌, ◌≢◌, ℕ, ⊎_elim, ◌⊎◌, inl, inr, true, [], map, Some, None, IsSome, option_map, unwrap_or, slice_get, remove, refl, sym, ap, ◌∙◌, subst}
use Rattle.ir_entities.specs.declared.forest.Place.{Place}
use Rattle.ir_entities.specs.declared.forest.Place.TheVariants.{Op, Block, Region as RegionPlace}
use Rattle.ir_arena.specs.Arena.{get, held}
use Rattle.ir_entities.specs.Lists.{ListsView}
use Rattle.ir_entities.specs.Links.{has, list_at, without}
use Rattle.ir_entities.specs.Shape.{IsIn, IsInside, itself, deeper}
use Rattle.ir_entities.specs.Forest.{Forest, shape_of}
use Rattle.ir_entities.specs.Walk.{StandInOne}
use Rattle.ir_entities.specs.Prune.{ErasesInside, StandsNowhere}
use Rattle.ir_entities.specs.Uses.{Uses, NamesDefinition, IsDefined}
use Rattle.ir_entities.proofs.Trees.{less_by_levels, has_without_at, list_at-map, inside_less, held_is}
use Rattle.ir_program.specs.Program.{Program, OperationView, operation_at, block_at, region_at, definitions_of, numbered}
use Rattle.ir_program.specs.Sound.{IsProgram, AreNumbered, operand_row, successor_row, thread_of_value}
use Rattle.ir_program.specs.Listed.{AreListed}
use Rattle.ir_program.specs.Lists.{StandsInside, StandsInOperation, IsLiveNode, regions_in}
use Rattle.ir_program.specs.Drops.{DropsInside, without_uses}
use Rattle.ir_program.specs.Erases.{ForgetsInside, NoneNames, value_place, block_place, definer_place}
use Rattle.ir_program.specs.Erased.{IsApart, IsGone, ErasesRegion, definer_node}
use Rattle.ir_program.specs.declared.handles.Ptr.{Ptr}
use Rattle.ir_program.specs.declared.handles.Operation.{Operation}
use Rattle.ir_program.specs.declared.handles.Region.{Region}
use Rattle.ir_program.specs.declared.handles.BasicBlock.{BasicBlock}
use Rattle.ir_program.specs.declared.handles.Value.{Value}
use Rattle.ir_program.specs.declared.handles.DefiningEntity.{DefiningEntity}
use Rattle.ir_program.specs.declared.handles.DefiningEntity.TheVariants.{Op as ByOp, Block as ByBlock}
use Rattle.ir_program.specs.declared.handles.IRNode.{IRNode}
use Rattle.ir_program.specs.declared.handles.IRNode.TheVariants.{Operation as OperationNode, Region as RegionNode, BasicBlock as BlockNode}
use Rattle.ir_program.specs.declared.records.Definition.{Definition}
use Rattle.ir_program.specs.declared.records.OperationRecord.{OperationRecord}
use Rattle.ir_program.specs.declared.records.BlockRecord.{BlockRecord}
use Rattle.ir_program.specs.declared.records.RegionRecord.{RegionRecord}
use Rattle.ir_program.proofs.erased.Apart.{node_place, no-operands, no-successors, values-unnamed, blocks-unnamed}
use Rattle.ir_program.proofs.erased.DropWalks.{frame-shape}
use Rattle.ir_program.proofs.erased.Erasures.{place_or_not, no_value}
use Rattle.ir_program.proofs.erased.Gone.{IsSoundBut, gone-sound, operation-left, block-left, region-left, operation-gone, block-gone, region-gone, definitions_left, definitions_gone}
use Rattle.ir_program.proofs.lists.InOperations.{in_ops, stands_in_operation, operation_of_slot}
use Rattle.ir_program.proofs.lists.Inside.{inside_by_slots, inside_by_handles, region_not_around}
use Rattle.ir_program.proofs.lists.Levels.{slot_at_index}
use Rattle.ir_program.proofs.lists.MovingRegions.{with_in_ops, kept_without, operation_is, operation_stays}
use Rattle.ir_program.proofs.lists.Rearranged.{same_definitions}
use Rattle.ir_program.proofs.lists.Slotted.{of_slot, one_handle, map_of_some, map-remove, SetsList, without_list}
use Rattle.ir_program.proofs.lists.There.{operation_got, block_got, region_got, operation_there, block_there}
use Rattle.ir_program.proofs.defined.OwnNumbers.{own-same}

module _ {O B : Type 0} (old mid : Program O B) (r : Ptr Region) (inv : IsProgram mid) (live : IsSome (region_at old r)) (listed : AreListed old) (apart : IsApart old (RegionNode r))
    (decide_old : (e : Place) → IsInside (shape_of old.forest) (RegionPlace r.key.slot) e ⊎ (IsInside (shape_of old.forest) (RegionPlace r.key.slot) e → ⊥))
    (drops : DropsInside old mid (RegionPlace r.key.slot))
    (l : ListsView) (taken : l.lists ≡ map (without r.key.slot) mid.forest.in_ops.lists)
    (f : Forest (OperationRecord O) (BlockRecord B) RegionRecord) (u : Uses Value) (w : Uses (Ptr BasicBlock))
    (erases : ErasesInside (record mid.forest { in_ops = l }) f (RegionPlace r.key.slot))
    (values : ForgetsInside (shape_of mid.forest) (RegionPlace r.key.slot) value_place mid.values u) (targets : ForgetsInside (shape_of mid.forest) (RegionPlace r.key.slot) block_place mid.targets w) where
  abbrev x : Place
  x = RegionPlace r.key.slot

  -- the program with the region taken out of its operation, and the program that is left
  abbrev cut : Program O B
  cut = with_in_ops mid l

  abbrev erased : Program O B
  erased = record { forest = f; values = u; targets = w; counter = mid.counter }

  -- what stands in something does so still, but for the region
  rest : (e d : Place) → IsIn (shape_of mid.forest) e d → (e ≡ x → ⊥) → IsIn (shape_of cut.forest) e d
  rest (Op i) (Op c) h ne = absurd h
  rest (Op i) (Block c) h ne = h
  rest (Op i) (RegionPlace c) h ne = absurd h
  rest (Block i) (Op c) h ne = absurd h
  rest (Block i) (Block c) h ne = absurd h
  rest (Block i) (RegionPlace c) h ne = h
  rest (RegionPlace i) (Op c) h ne = subst (λ ls. has i (list_at ls c) ≡ true) (sym taken)
      (subst (λ xs. has i xs ≡ true) (sym (list_at-map (without r.key.slot) mid.forest.in_ops.lists c refl))
      (kept_without r.key.slot i (list_at mid.forest.in_ops.lists c) (λ s. ne (ap RegionPlace s)) h))
  rest (RegionPlace i) (Block c) h ne = absurd h
  rest (RegionPlace i) (RegionPlace c) h ne = absurd h

  less : (e d : Place) → IsIn (shape_of cut.forest) e d → IsIn (shape_of mid.forest) e d
  less = less_by_levels (shape_of mid.forest) (shape_of cut.forest) (λ j b h. h) (λ j b h. h)
      (λ j b h. has_without_at mid.forest.in_ops.lists r.key.slot b j (subst (λ ls. has j (list_at ls b) ≡ true) taken h))

  -- the same stands inside the region
  still : (e : Place) → IsInside (shape_of mid.forest) x e → IsInside (shape_of cut.forest) x e
  still e itself = itself
  still e (deeper _ d h v) = ⊎_elim
      (λ same. subst (λ z. IsInside (shape_of cut.forest) x z) (sym same) itself)
      (λ ne. deeper e d (rest e d h ne) (still d v))
      (place_or_not e x)

  was : (e : Place) → IsInside (shape_of cut.forest) x e → IsInside (shape_of mid.forest) x e
  was e v = inside_less (shape_of mid.forest) (shape_of cut.forest) less x e v

  to_old : (e : Place) → IsInside (shape_of cut.forest) x e → IsInside (shape_of old.forest) x e
  to_old e v = subst (λ s. IsInside s x e) (frame-shape old mid drops.frame) (was e v)

  from_old : (e : Place) → IsInside (shape_of old.forest) x e → IsInside (shape_of cut.forest) x e
  from_old e v = still e (subst (λ s. IsInside s x e) (sym (frame-shape old mid drops.frame)) v)

  decide : (e : Place) → IsInside (shape_of cut.forest) x e ⊎ (IsInside (shape_of cut.forest) x e → ⊥)
  decide e = ⊎_elim (λ h. inl (from_old e h)) (λ n. inr (λ h. n (to_old e h))) (decide_old e)

  operands_none : (i : ℕ) → IsInside (shape_of cut.forest) x (Op i) → operand_row cut i ≡ []
  operands_none i inside = no-operands old mid (RegionNode r) inv live listed apart decide_old drops i (was (Op i) inside)

  successors_none : (i : ℕ) → IsInside (shape_of cut.forest) x (Op i) → successor_row cut i ≡ []
  successors_none i inside = no-successors old mid (RegionNode r) inv live listed apart decide_old drops i (was (Op i) inside)

  forgets : {K : Type 0} (place : K → Place) (a b : Uses K) → ForgetsInside (shape_of mid.forest) x place a b → ForgetsInside (shape_of cut.forest) x place a b
  forgets place a b g = record { places = g.places; gone = λ t v k i. g.gone t v k (was (place v) i); kept = λ t v k o. g.kept t v k (λ i. o (still (place v) i)); none = g.none }

  same : (e : DefiningEntity) → definitions_of cut e ≡ definitions_of mid e
  same e = same_definitions mid mid.forest.in_blocks mid.forest.in_regions l e

  same_thread : (v : Value) → thread_of_value cut v ≡ thread_of_value mid v
  same_thread v = ap (λ ds. option_map (λ (d : Definition). d.thread) (numbered v.number ds)) (same v.definer)

  but : IsSoundBut cut x
  but = record {
    operands = inv.operands;
    successors = inv.successors;
    values = λ v t. (λ h. (inv.values v t).0 (sym (same_thread v) ∙ h), λ h. same_thread v ∙ (inv.values v t).1 h);
    blocks = inv.blocks;
    numbers = λ e. subst (AreNumbered mid.counter) (sym (same e)) (inv.numbers e);
    own = own-same (definitions_of mid) (definitions_of cut) inv.own same;
    homes = λ i used out. let home = inv.homes i used in (home.0, rest (RegionPlace i) (Op home.0) home.1 (λ s. out (subst (λ z. IsInside (shape_of cut.forest) x z) (sym s) itself)));
  }

  pub region_erased-sound : IsProgram erased
  region_erased-sound = gone-sound cut f u w x but decide erases operands_none successors_none (forgets value_place mid.values u values) (forgets block_place mid.targets w targets)

  module _ (one : StandInOne (shape_of cut.forest)) (nowhere : StandsNowhere cut.forest x)
      (known_values : (q d : ℕ) → NamesDefinition mid.values q d → IsDefined mid.values d) (known_blocks : (q d : ℕ) → NamesDefinition mid.targets q d → IsDefined mid.targets d) where
    names_v : NoneNames (shape_of cut.forest) x value_place mid.values
    names_v t q v key i n = values-unnamed old mid (RegionNode r) inv live listed apart decide_old drops t q v key (was (value_place v) i) n

    names_b : NoneNames (shape_of cut.forest) x block_place mid.targets
    names_b t q b key i n = blocks-unnamed old mid (RegionNode r) inv live listed apart decide_old drops t q b key (was (block_place b) i) n

    op_out : (p : Ptr Operation) → (IsInside (shape_of old.forest) x (Op p.key.slot) → ⊥) → operation_at erased p ≡ operation_at cut p
    op_out p out = operation-left cut f u w x but decide erases operands_none successors_none (forgets value_place mid.values u values) (forgets block_place mid.targets w targets) one nowhere names_v names_b known_values known_blocks p (λ h. out (to_old (Op p.key.slot) h))

    op_in : (p : Ptr Operation) → IsInside (shape_of old.forest) x (Op p.key.slot) → operation_at erased p ≡ None
    op_in p inside = operation-gone cut f u w x but decide erases operands_none successors_none (forgets value_place mid.values u values) (forgets block_place mid.targets w targets) one nowhere names_v names_b known_values known_blocks p (from_old (Op p.key.slot) inside)

    block_in : (b : Ptr BasicBlock) → IsInside (shape_of old.forest) x (Block b.key.slot) → block_at erased b ≡ None
    block_in b inside = block-gone cut f u w x but decide erases operands_none successors_none (forgets value_place mid.values u values) (forgets block_place mid.targets w targets) one nowhere names_v names_b known_values known_blocks b (from_old (Block b.key.slot) inside)

    region_in : (q : Ptr Region) → IsInside (shape_of old.forest) x (RegionPlace q.key.slot) → region_at erased q ≡ None
    region_in q inside = region-gone cut f u w x but decide erases operands_none successors_none (forgets value_place mid.values u values) (forgets block_place mid.targets w targets) one nowhere names_v names_b known_values known_blocks q (from_old (RegionPlace q.key.slot) inside)

    gone : (e : IRNode) → IsLiveNode old e → StandsInside old (RegionNode r) e → IsGone erased e
    gone (OperationNode p) there stands =
        let inside : IsInside (shape_of old.forest) x (Op p.key.slot) = inside_by_slots old (RegionNode r) (OperationNode p) stands in
        let mid_live : IsSome (operation_at mid p) = subst IsSome (sym (drops.inside p inside)) (map_of_some without_uses (operation_at old p) there) in
        (op_in p inside, erases.refused_ops p.key (operation_got mid p mid_live) (from_old (Op p.key.slot) inside))
    gone (BlockNode b) there stands =
        let inside : IsInside (shape_of old.forest) x (Block b.key.slot) = inside_by_slots old (RegionNode r) (BlockNode b) stands in
        (block_in b inside, erases.refused_blocks b.key (block_got mid b (subst IsSome (sym (drops.frame.blocks b)) there)) (from_old (Block b.key.slot) inside))
    gone (RegionNode q) there stands =
        let inside : IsInside (shape_of old.forest) x (RegionPlace q.key.slot) = inside_by_slots old (RegionNode r) (RegionNode q) stands in
        (region_in q inside, erases.refused_regions q.key (region_got mid q (subst IsSome (sym (drops.frame.regions q)) there)) (from_old (RegionPlace q.key.slot) inside))

    same_lists : mid.forest.in_ops ≡ old.forest.in_ops
    same_lists = ap (λ (t : Forest (OperationRecord O) (BlockRecord B) RegionRecord). t.in_ops) drops.frame.forest

    -- the region stood at index k of operation a
    module _ (a : Ptr Operation) (k : ℕ) (at : slice_get (regions_in old a) k ≡ Some r) where
      stands : StandsInOperation old r a
      stands = stands_in_operation old (in_ops old listed) a k r at

      takes_old : SetsList old.forest.in_ops.lists (map (without r.key.slot) old.forest.in_ops.lists) a.key.slot (remove (list_at old.forest.in_ops.lists a.key.slot) k)
      takes_old = without_list old.forest.in_ops.lists listed.regions_apart a.key.slot k r.key.slot (listed.regions_once a.key.slot)
          (slot_at_index old.forest.regions old.forest.ops old.forest.in_ops.lists (regions_in old) (in_ops old listed) a k r at)

      takes : SetsList mid.forest.in_ops.lists l.lists a.key.slot (remove (list_at mid.forest.in_ops.lists a.key.slot) k)
      takes = subst (λ ls. SetsList mid.forest.in_ops.lists ls a.key.slot (remove (list_at mid.forest.in_ops.lists a.key.slot) k)) (sym taken)
          (subst (λ (t : ListsView). SetsList t.lists (map (without r.key.slot) t.lists) a.key.slot (remove (list_at t.lists a.key.slot) k)) (sym same_lists) takes_old)

      holder_out : IsInside (shape_of old.forest) x (Op a.key.slot) → ⊥
      holder_out i = region_not_around old listed r a stands (inside_by_handles old listed (RegionNode r) live (OperationNode a) stands.operation i)

      holder : operation_at erased a ≡ option_map (λ (v : OperationView O). record v { regions = remove v.regions k }) (operation_at old a)
      holder =
          op_out a holder_out
          ∙ operation_is mid l a (remove (list_at mid.forest.in_ops.lists a.key.slot) k) (λ rs. remove rs k) takes.here (map-remove (of_slot mid.forest.regions) (list_at mid.forest.in_ops.lists a.key.slot) k)
          ∙ ap (option_map (λ (v : OperationView O). record v { regions = remove v.regions k })) (drops.outside a holder_out)

      holder_live : IsSome (get mid.forest.ops a.key)
      holder_live = operation_got mid a (subst IsSome (sym (drops.outside a holder_out)) stands.operation)

      others : (q : Ptr Operation) → q ≢ a → (IsInside (shape_of old.forest) x (Op q.key.slot) → ⊥) → operation_at erased q ≡ operation_at old q
      others q ne out =
          op_out q out
          ∙ operation_stays mid l q (λ live_q. takes.others q.key.slot (λ e. ne (one_handle mid.forest.ops q a live_q holder_live e)))
          ∙ drops.outside q out

    -- the operation that the region stood in
    home : (a : Ptr Operation) × StandsInOperation old r a
    home =
        let used : IsSome (held mid.forest.regions r.key.slot) = held_is mid.forest.regions r.key (region_got mid r (subst IsSome (sym (drops.frame.regions r)) live)) in
        let at = inv.homes r.key.slot used in
        (of_slot old.forest.ops at.0, operation_of_slot old (in_ops old listed) r at.0 live (subst (λ (t : ListsView). has r.key.slot (list_at t.lists at.0) ≡ true) same_lists at.1))

    operations : (p : Ptr Operation) → (StandsInside old (RegionNode r) (OperationNode p) → ⊥) → (StandsInOperation old r p → ⊥) → operation_at erased p ≡ operation_at old p
    operations p out free = ⊎_elim
        (λ inside. op_in p inside ∙ sym (no_value (operation_at old p) (λ there. out (inside_by_handles old listed (RegionNode r) live (OperationNode p) there inside))))
        (λ outside. others home.0 home.1.index home.1.here p (λ e. free (subst (StandsInOperation old r) (sym e) home.1)) outside)
        (decide_old (Op p.key.slot))

    blocks : (b : Ptr BasicBlock) → (StandsInside old (RegionNode r) (BlockNode b) → ⊥) → block_at erased b ≡ block_at old b
    blocks b out = ⊎_elim
        (λ inside. block_in b inside ∙ sym (no_value (block_at old b) (λ there. out (inside_by_handles old listed (RegionNode r) live (BlockNode b) there inside))))
        (λ outside.
        block-left cut f u w x but decide erases operands_none successors_none (forgets value_place mid.values u values) (forgets block_place mid.targets w targets) one nowhere names_v names_b known_values known_blocks b (λ h. outside (to_old (Block b.key.slot) h))
        ∙ drops.frame.blocks b)
        (decide_old (Block b.key.slot))

    regions : (q : Ptr Region) → (StandsInside old (RegionNode r) (RegionNode q) → ⊥) → region_at erased q ≡ region_at old q
    regions q out = ⊎_elim
        (λ inside. region_in q inside ∙ sym (no_value (region_at old q) (λ there. out (inside_by_handles old listed (RegionNode r) live (RegionNode q) there inside))))
        (λ outside.
        region-left cut f u w x but decide erases operands_none successors_none (forgets value_place mid.values u values) (forgets block_place mid.targets w targets) one nowhere names_v names_b known_values known_blocks q (λ h. outside (to_old (RegionPlace q.key.slot) h))
        ∙ drops.frame.regions q)
        (decide_old (RegionPlace q.key.slot))

    no_definitions : (e : DefiningEntity) → (IsLiveNode old (definer_node e) → ⊥) → definitions_of old e ≡ []
    no_definitions (ByOp p) dead = ap (λ o. unwrap_or (option_map (λ (y : OperationRecord O). y.results.items) o) []) (no_value (get old.forest.ops p.key) (λ h. dead (operation_there old p h)))
    no_definitions (ByBlock b) dead = ap (λ o. unwrap_or (option_map (λ (y : BlockRecord B). y.arguments.items) o) []) (no_value (get old.forest.blocks b.key) (λ h. dead (block_there old b h)))

    definitions : (e : DefiningEntity) → (StandsInside old (RegionNode r) (definer_node e) → ⊥) → definitions_of erased e ≡ definitions_of old e
    definitions e out = ⊎_elim
        (λ inside.
        definitions_gone cut f u w x but decide erases operands_none successors_none (forgets value_place mid.values u values) (forgets block_place mid.targets w targets) e (from_old (definer_place e) inside)
        ∙ sym (no_definitions e (λ there. out (inside_by_handles old listed (RegionNode r) live (definer_node e) there (subst (IsInside (shape_of old.forest) x) (sym (node_place e)) inside)))))
        (λ outside.
        definitions_left cut f u w x but decide erases operands_none successors_none (forgets value_place mid.values u values) (forgets block_place mid.targets w targets) e (λ h. outside (to_old (definer_place e) h))
        ∙ same e
        ∙ drops.frame.definitions e)
        (decide_old (definer_place e))

    pub region_erased-seen : ErasesRegion old erased r
    region_erased-seen = record {
      gone = gone;
      holder = holder;
      operations = operations;
      blocks = blocks;
      regions = regions;
      types = λ v out. ap (λ ds. option_map (λ (d : Definition). d.ty) (numbered v.number ds)) (definitions v.definer out);
      erased = record {
        operations = λ k s. erases.ops.spent k (drops.frame.erased.operations k s);
        blocks = λ k s. erases.blocks.spent k (drops.frame.erased.blocks k s);
        regions = λ k s. erases.regions.spent k (drops.frame.erased.regions k s);
      };
      counter = drops.frame.counter;
    }
