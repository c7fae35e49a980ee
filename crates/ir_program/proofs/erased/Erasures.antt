-- What erasing takes away and leaves, by handles.
use Rattle.std.proofs.Common.{◌≡◌, ◌↔◌, ℕ, ⊎_elim, ◌⊎◌, inl, inr, List, [], ◌∷◌, Option, Some, None, IsSome, option_map, unwrap_or, refl, sym, ap, ◌∙◌, subst}
use Rattle.std.proofs.lemmas.Bool.{cases_eq}
use Rattle.ir_entities.specs.declared.forest.Place.{Place}
use Rattle.ir_entities.specs.declared.forest.Place.TheVariants.{Op, Block, Region as RegionPlace}
use Rattle.ir_arena.specs.Arena.{get}
use Rattle.ir_entities.specs.Shape.{IsInside}
use Rattle.ir_entities.specs.Forest.{Forest, shape_of}
use Rattle.ir_entities.specs.Walk.{IsOneOf, StandInOne, walk_of}
use Rattle.ir_entities.specs.Prune.{ErasesInside, StandsNowhere}
use Rattle.ir_entities.specs.Uses.{Uses, NamesDefinition, IsDefined}
use Rattle.ir_program.specs.Program.{Program, operation_at, block_at, region_at, definitions_of, numbered}
use Rattle.ir_program.specs.Sound.{IsProgram, operand_row, successor_row}
use Rattle.ir_program.specs.Listed.{AreListed}
use Rattle.ir_program.specs.Lists.{StandsInside, IsLiveNode, place_of_node}
use Rattle.ir_program.specs.Drops.{DropsInside, KeepsFrame, without_uses}
use Rattle.ir_program.specs.Erases.{ForgetsInside, NoneNames, value_place, block_place, definer_place}
use Rattle.ir_program.specs.Erased.{IsApart, IsGone, Erases, definer_node}
use Rattle.ir_program.specs.declared.handles.Ptr.{Ptr}
use Rattle.ir_program.specs.declared.handles.Operation.{Operation}
use Rattle.ir_program.specs.declared.handles.Region.{Region}
use Rattle.ir_program.specs.declared.handles.BasicBlock.{BasicBlock}
use Rattle.ir_program.specs.declared.handles.Value.{Value}
use Rattle.ir_program.specs.declared.handles.DefiningEntity.{DefiningEntity}
use Rattle.ir_program.specs.declared.handles.DefiningEntity.TheVariants.{Op as ByOp, Block as ByBlock}
use Rattle.ir_program.specs.declared.handles.IRNode.{IRNode}
use Rattle.ir_program.specs.declared.handles.IRNode.TheVariants.{Operation as OperationNode, Region as RegionNode, BasicBlock as BlockNode}
use Rattle.ir_program.specs.declared.records.Definition.{Definition}
use Rattle.ir_program.specs.declared.records.OperationRecord.{OperationRecord}
use Rattle.ir_program.specs.declared.records.BlockRecord.{BlockRecord}
use Rattle.ir_program.specs.declared.records.RegionRecord.{RegionRecord}
use Rattle.ir_program.proofs.lists.There.{operation_got, block_got, region_got, operation_there, block_there}
use Rattle.ir_program.proofs.lists.Inside.{inside_by_slots, inside_by_handles}
use Rattle.ir_program.proofs.erased.DropWalks.{frame-shape}
use Rattle.ir_program.proofs.erased.Apart.{node_place, no-operands, no-successors, values-unnamed, blocks-unnamed}
use Rattle.ir_program.proofs.lists.Slotted.{map_of_some}
use Rattle.ir_program.proofs.erased.Gone.{IsSoundBut, sound-but, gone-sound, operation-left, block-left, region-left, operation-gone, block-gone, region-gone, definitions_left, definitions_gone}

-- a place is one of a list, or it isn't
pub place_or_not : (e d : Place) → (e ≡ d) ⊎ ((e ≡ d) → ⊥)
place_or_not (Op i) (Op j) = ⊎_elim (λ s. inl (ap Op s)) (λ n. inr (λ e. n (cc))) (cases_eq i j)
place_or_not (Block i) (Block j) = ⊎_elim (λ s. inl (ap Block s)) (λ n. inr (λ e. n (cc))) (cases_eq i j)
place_or_not (RegionPlace i) (RegionPlace j) = ⊎_elim (λ s. inl (ap RegionPlace s)) (λ n. inr (λ e. n (cc))) (cases_eq i j)
place_or_not (Op i) (Block j) = inr (λ e. cc)
place_or_not (Op i) (RegionPlace j) = inr (λ e. cc)
place_or_not (Block i) (Op j) = inr (λ e. cc)
place_or_not (Block i) (RegionPlace j) = inr (λ e. cc)
place_or_not (RegionPlace i) (Op j) = inr (λ e. cc)
place_or_not (RegionPlace i) (Block j) = inr (λ e. cc)

pub one_or_not : (e : Place) (es : List Place) → IsOneOf e es ⊎ (IsOneOf e es → ⊥)
one_or_not e [] = inr (λ h. h)
one_or_not e (d ∷ es) = ⊎_elim (λ s. inl (inl s)) (λ n. ⊎_elim (λ h. inl (inr h)) (λ m. inr (λ h. ⊎_elim n m h)) (one_or_not e es)) (place_or_not e d)

-- what is not there is none
pub no_value : {T : Type 0} (o : Option T) → (IsSome o → ⊥) → o ≡ None
no_value None h = refl
no_value (Some v) h = absurd (h refl)

module _ {O B : Type 0} (old mid : Program O B) (x : IRNode) (inv : IsProgram mid) (live : IsLiveNode old x) (listed : AreListed old) (apart : IsApart old x)
    (decide_old : (e : Place) → IsInside (shape_of old.forest) (place_of_node x) e ⊎ (IsInside (shape_of old.forest) (place_of_node x) e → ⊥))
    (drops : DropsInside old mid (place_of_node x))
    (f : Forest (OperationRecord O) (BlockRecord B) RegionRecord) (u : Uses Value) (w : Uses (Ptr BasicBlock))
    (erases : ErasesInside mid.forest f (place_of_node x))
    (values : ForgetsInside (shape_of mid.forest) (place_of_node x) value_place mid.values u) (targets : ForgetsInside (shape_of mid.forest) (place_of_node x) block_place mid.targets w) where
  decide : (e : Place) → IsInside (shape_of mid.forest) (place_of_node x) e ⊎ (IsInside (shape_of mid.forest) (place_of_node x) e → ⊥)
  decide e = subst (λ s. IsInside s (place_of_node x) e ⊎ (IsInside s (place_of_node x) e → ⊥)) (sym (frame-shape old mid drops.frame)) (decide_old e)

  but : IsSoundBut mid (place_of_node x)
  but = sound-but mid (place_of_node x) inv

  -- the program that is left
  abbrev pub erased : Program O B
  erased = record { forest = f; values = u; targets = w; counter = mid.counter }

  operands_none : (i : ℕ) → IsInside (shape_of mid.forest) (place_of_node x) (Op i) → operand_row mid i ≡ []
  operands_none = no-operands old mid x inv live listed apart decide_old drops

  successors_none : (i : ℕ) → IsInside (shape_of mid.forest) (place_of_node x) (Op i) → successor_row mid i ≡ []
  successors_none = no-successors old mid x inv live listed apart decide_old drops

  pub erased-sound : IsProgram erased
  erased-sound = gone-sound mid f u w (place_of_node x) but decide erases operands_none successors_none values targets

  was_inside : (e : Place) → IsInside (shape_of old.forest) (place_of_node x) e → IsInside (shape_of mid.forest) (place_of_node x) e
  was_inside e = subst (λ s. IsInside s (place_of_node x) e) (sym (frame-shape old mid drops.frame))

  module _ (one : StandInOne (shape_of mid.forest)) (nowhere : StandsNowhere mid.forest (place_of_node x))
      (known_values : (q d : ℕ) → NamesDefinition mid.values q d → IsDefined mid.values d) (known_blocks : (q d : ℕ) → NamesDefinition mid.targets q d → IsDefined mid.targets d) where
    names_v : NoneNames (shape_of mid.forest) (place_of_node x) value_place mid.values
    names_v = values-unnamed old mid x inv live listed apart decide_old drops

    names_b : NoneNames (shape_of mid.forest) (place_of_node x) block_place mid.targets
    names_b = blocks-unnamed old mid x inv live listed apart decide_old drops

    gone : (e : IRNode) → IsLiveNode old e → StandsInside old x e → IsGone erased e
    gone (OperationNode p) there stands =
        let inside : IsInside (shape_of mid.forest) (place_of_node x) (Op p.key.slot) = was_inside _ (inside_by_slots old x (OperationNode p) stands) in
        let mid_live : IsSome (operation_at mid p) = subst IsSome (sym (drops.inside p (inside_by_slots old x (OperationNode p) stands))) (map_of_some without_uses (operation_at old p) there) in
        (operation-gone mid f u w (place_of_node x) but decide erases operands_none successors_none values targets one nowhere names_v names_b known_values known_blocks p inside, erases.refused_ops p.key (operation_got mid p mid_live) inside)
    gone (BlockNode b) there stands =
        let inside : IsInside (shape_of mid.forest) (place_of_node x) (Block b.key.slot) = was_inside _ (inside_by_slots old x (BlockNode b) stands) in
        (block-gone mid f u w (place_of_node x) but decide erases operands_none successors_none values targets one nowhere names_v names_b known_values known_blocks b inside, erases.refused_blocks b.key (block_got mid b (subst IsSome (sym (drops.frame.blocks b)) there)) inside)
    gone (RegionNode r) there stands =
        let inside : IsInside (shape_of mid.forest) (place_of_node x) (RegionPlace r.key.slot) = was_inside _ (inside_by_slots old x (RegionNode r) stands) in
        (region-gone mid f u w (place_of_node x) but decide erases operands_none successors_none values targets one nowhere names_v names_b known_values known_blocks r inside, erases.refused_regions r.key (region_got mid r (subst IsSome (sym (drops.frame.regions r)) there)) inside)

    operations : (p : Ptr Operation) → (StandsInside old x (OperationNode p) → ⊥) → operation_at erased p ≡ operation_at old p
    operations p out = ⊎_elim
        (λ inside.
        operation-gone mid f u w (place_of_node x) but decide erases operands_none successors_none values targets one nowhere names_v names_b known_values known_blocks p (was_inside _ inside)
        ∙ sym (no_value (operation_at old p) (λ there. out (inside_by_handles old listed x live (OperationNode p) there inside))))
        (λ outside.
        operation-left mid f u w (place_of_node x) but decide erases operands_none successors_none values targets one nowhere names_v names_b known_values known_blocks p (λ h. outside (subst (λ s. IsInside s (place_of_node x) (Op p.key.slot)) (frame-shape old mid drops.frame) h))
        ∙ drops.outside p outside)
        (decide_old (Op p.key.slot))

    blocks : (b : Ptr BasicBlock) → (StandsInside old x (BlockNode b) → ⊥) → block_at erased b ≡ block_at old b
    blocks b out = ⊎_elim
        (λ inside.
        block-gone mid f u w (place_of_node x) but decide erases operands_none successors_none values targets one nowhere names_v names_b known_values known_blocks b (was_inside _ inside)
        ∙ sym (no_value (block_at old b) (λ there. out (inside_by_handles old listed x live (BlockNode b) there inside))))
        (λ outside.
        block-left mid f u w (place_of_node x) but decide erases operands_none successors_none values targets one nowhere names_v names_b known_values known_blocks b (λ h. outside (subst (λ s. IsInside s (place_of_node x) (Block b.key.slot)) (frame-shape old mid drops.frame) h))
        ∙ drops.frame.blocks b)
        (decide_old (Block b.key.slot))

    regions : (r : Ptr Region) → (StandsInside old x (RegionNode r) → ⊥) → region_at erased r ≡ region_at old r
    regions r out = ⊎_elim
        (λ inside.
        region-gone mid f u w (place_of_node x) but decide erases operands_none successors_none values targets one nowhere names_v names_b known_values known_blocks r (was_inside _ inside)
        ∙ sym (no_value (region_at old r) (λ there. out (inside_by_handles old listed x live (RegionNode r) there inside))))
        (λ outside.
        region-left mid f u w (place_of_node x) but decide erases operands_none successors_none values targets one nowhere names_v names_b known_values known_blocks r (λ h. outside (subst (λ s. IsInside s (place_of_node x) (RegionPlace r.key.slot)) (frame-shape old mid drops.frame) h))
        ∙ drops.frame.regions r)
        (decide_old (RegionPlace r.key.slot))

    no_definitions : (e : DefiningEntity) → (IsLiveNode old (definer_node e) → ⊥) → definitions_of old e ≡ []
    no_definitions (ByOp p) dead = ap (λ o. unwrap_or (option_map (λ (r : OperationRecord O). r.results.items) o) []) (no_value (get old.forest.ops p.key) (λ h. dead (operation_there old p h)))
    no_definitions (ByBlock b) dead = ap (λ o. unwrap_or (option_map (λ (r : BlockRecord B). r.arguments.items) o) []) (no_value (get old.forest.blocks b.key) (λ h. dead (block_there old b h)))

    definitions : (e : DefiningEntity) → (StandsInside old x (definer_node e) → ⊥) → definitions_of erased e ≡ definitions_of old e
    definitions e out = ⊎_elim
        (λ inside.
        definitions_gone mid f u w (place_of_node x) but decide erases operands_none successors_none values targets e (was_inside _ inside)
        ∙ sym (no_definitions e (λ there. out (inside_by_handles old listed x live (definer_node e) there (subst (IsInside (shape_of old.forest) (place_of_node x)) (sym (node_place e)) inside)))))
        (λ outside.
        definitions_left mid f u w (place_of_node x) but decide erases operands_none successors_none values targets e (λ h. outside (subst (λ s. IsInside s (place_of_node x) (definer_place e)) (frame-shape old mid drops.frame) h))
        ∙ drops.frame.definitions e)
        (decide_old (definer_place e))

    pub erased-seen : Erases old erased x
    erased-seen = record {
      gone = gone;
      operations = operations;
      blocks = blocks;
      regions = regions;
      types = λ v out. ap (λ ds. option_map (λ (d : Definition). d.ty) (numbered v.number ds)) (definitions v.definer out);
      erased = record {
        operations = λ k s. erases.ops.spent k (drops.frame.erased.operations k s);
        blocks = λ k s. erases.blocks.spent k (drops.frame.erased.blocks k s);
        regions = λ k s. erases.regions.spent k (drops.frame.erased.regions k s);
      };
      counter = drops.frame.counter;
    }

-- what is inside an entity is told by the walk over it
pub decided : {O B : Type 0} (old mid : Program O B) (x : Place) (f : Forest (OperationRecord O) (BlockRecord B) RegionRecord) → f ≡ mid.forest → KeepsFrame old mid → ((e : Place) → IsOneOf e (walk_of f x) ↔ IsInside (shape_of f) x e)
    → (e : Place) → IsInside (shape_of old.forest) x e ⊎ (IsInside (shape_of old.forest) x e → ⊥)
decided old mid x f seen frame all e =
    subst (λ s. IsInside s x e ⊎ (IsInside s x e → ⊥)) (ap shape_of seen ∙ frame-shape old mid frame)
    (⊎_elim (λ h. inl ((all e).0 h)) (λ n. inr (λ i. n ((all e).1 i))) (one_or_not e (walk_of f x)))
