-- A program once an entity has gone with all that stands in it.
use Rattle.std.proofs.Common.{slice_get, ◌≡◌, ℕ, ⊎_elim, ◌⊎◌, cond, eqb, List, [], Option, Some, None, IsSome, option_map, unwrap_or, refl, sym, ap, ◌∙◌, subst}
use Rattle.ir_arena.specs.declared.arena.Key.{Key}
use Rattle.ir_arena.specs.declared.arena.Slot.{Slot}
use Rattle.ir_entities.specs.declared.forest.Place.{Place}
use Rattle.ir_entities.specs.declared.forest.Place.TheVariants.{Op, Block, Region as RegionPlace}
use Rattle.ir_arena.specs.Arena.{get, held, slot_at}
use Rattle.ir_entities.specs.Links.{has, list_at, IsLinked}
use Rattle.ir_entities.specs.Placed.{IsPlaced}
use Rattle.ir_entities.specs.Shape.{IsIn, IsInside, deeper}
use Rattle.ir_entities.specs.Forest.{Forest, shape_of}
use Rattle.ir_entities.specs.Prune.{ErasesInside, StandsNowhere}
use Rattle.ir_entities.specs.Walk.{StandInOne}
use Rattle.ir_entities.specs.Uses.{Uses, key_of, place_of, NamesDefinition, IsDefined}
use Rattle.ir_entities.proofs.Placed.{placed-same}
use Rattle.ir_entities.proofs.Prunes.{outside_in}
use Rattle.ir_program.specs.Handles.{handle}
use Rattle.ir_program.specs.Program.{Program, handles_of, operation_of, operation_at, block_of, block_at, region_of, region_at, definitions_of, numbered, value_named, block_named}
use Rattle.ir_program.specs.Sound.{IsProgram, IsThreaded, AreNumbered, DefinitionsHaveOwnNumbers, operand_row, successor_row, thread_of_value, thread_of_block}
use Rattle.ir_program.specs.Erases.{ForgetsInside, NoneNames, value_place, block_place, definer_place}
use Rattle.ir_program.specs.Edits.{KeepsErased}
use Rattle.ir_program.specs.declared.handles.Ptr.{Ptr}
use Rattle.ir_program.specs.declared.handles.Operation.{Operation}
use Rattle.ir_program.specs.declared.handles.Region.{Region}
use Rattle.ir_program.specs.declared.handles.BasicBlock.{BasicBlock}
use Rattle.ir_program.specs.declared.handles.Value.{Value}
use Rattle.ir_program.specs.declared.handles.DefiningEntity.{DefiningEntity}
use Rattle.ir_program.specs.declared.handles.DefiningEntity.TheVariants.{Op as ByOp, Block as ByBlock}
use Rattle.ir_program.specs.declared.records.Definition.{Definition}
use Rattle.ir_program.specs.declared.records.OperationRecord.{OperationRecord}
use Rattle.ir_program.specs.declared.records.BlockRecord.{BlockRecord}
use Rattle.ir_program.specs.declared.records.RegionRecord.{RegionRecord}
use Rattle.ir_program.proofs.made.Empty.{either}
use Rattle.ir_program.proofs.made.Frames.{option_map-same, map-same, names-kept}
use Rattle.ir_program.proofs.lists.Slotted.{at_has}
use Rattle.ir_program.proofs.defined.OwnNumbers.{own-within}

-- a vacant slot is led to by no key
pub vacant-get : {T : Type 0} (slots : List (Slot T)) (k : Key) → held slots k.slot ≡ None → get slots k ≡ None
vacant-get slots k none = ap (λ v. cond (eqb (slot_at slots k.slot).version k.version) v None) none ∙ either (eqb (slot_at slots k.slot).version k.version) None

unused_held : {T : Type 0} (o : Option T) → (IsSome o → ⊥) → o ≡ None
unused_held None h = refl
unused_held (Some v) h = absurd (h refl)

-- keys that stay, and threads of what stays
gone-threads : {K : Type 0} (thread new : K → Option ℕ) (u w : Uses K) (In : K → Type 0) → ((v : K) → In v ⊎ (In v → ⊥))
    → ((v : K) → In v → new v ≡ None) → ((v : K) → (In v → ⊥) → new v ≡ thread v)
    → ((t : ℕ) (v : K) → key_of u t ≡ Some v → In v → key_of w t ≡ None) → ((t : ℕ) (v : K) → key_of u t ≡ Some v → (In v → ⊥) → key_of w t ≡ Some v) → ((t : ℕ) → key_of u t ≡ None → key_of w t ≡ None)
    → IsThreaded thread u → IsThreaded new w
gone-threads {K} thread new u w In decide lost stays gone kept none threads v t = (to, from (key_of u t) refl)
  where
    to : new v ≡ Some t → key_of w t ≡ Some v
    to h = ⊎_elim
        (λ i. let e : None ≡ Some t = sym (lost v i) ∙ h in cc)
        (λ out. kept t v ((threads v t).0 (sym (stays v out) ∙ h)) out)
        (decide v)

    from : (o : Option K) → key_of u t ≡ o → key_of w t ≡ Some v → new v ≡ Some t
    from None was h = let e : None ≡ Some v = sym (none t was) ∙ h in cc
    from (Some y) was h = ⊎_elim
        (λ i. let e : None ≡ Some v = sym (gone t y was i) ∙ h in cc)
        (λ out. let s : Some y ≡ Some v = sym (kept t y was out) ∙ h in
        let e : y ≡ v = cc in
        let out' : In v → ⊥ = subst (λ z. In z → ⊥) e out in
        stays v out' ∙ (threads v t).1 (was ∙ s))
        (decide y)

-- names that stay
gone-names : {K : Type 0} (u w : Uses K) (In : K → Type 0) → ((v : K) → In v ⊎ (In v → ⊥))
    → w.places ≡ u.places → ((t : ℕ) (v : K) → key_of u t ≡ Some v → (In v → ⊥) → key_of w t ≡ Some v)
    → ((t q : ℕ) (v : K) → key_of u t ≡ Some v → In v → NamesDefinition u q t → ⊥) → ((q d : ℕ) → NamesDefinition u q d → IsDefined u d)
    → (q d : ℕ) → NamesDefinition u q d → key_of w d ≡ key_of u d
gone-names u w In decide places kept unnamed known q d names = by (key_of u d) refl
  where
    by : (o : Option _) → key_of u d ≡ o → key_of w d ≡ key_of u d
    by None e = let s : IsSome (key_of u d) = known q d names in cc
    by (Some v) e = ⊎_elim (λ i. absurd (unnamed d q v e i names)) (λ out. kept d v e out ∙ sym e) (decide v)

-- what every program keeps, but that what is inside x may have lost its place
pub record IsSoundBut {O B : Type 0} (c : Program O B) (x : Place) : Type 0 where
  pub operands : IsPlaced (place_of c.values) (operand_row c)
  pub successors : IsPlaced (place_of c.targets) (successor_row c)
  pub values : IsThreaded (thread_of_value c) c.values
  pub blocks : IsThreaded (thread_of_block c) c.targets
  pub numbers : (e : DefiningEntity) → AreNumbered c.counter (definitions_of c e)
  pub own : DefinitionsHaveOwnNumbers (definitions_of c)
  pub homes : (i : ℕ) → IsSome (held c.forest.regions i) → (IsInside (shape_of c.forest) x (RegionPlace i) → ⊥) → IsLinked c.forest.in_ops.lists i

pub sound-but : {O B : Type 0} (c : Program O B) (x : Place) → IsProgram c → IsSoundBut c x
sound-but c x inv = record { operands = inv.operands; successors = inv.successors; values = inv.values; blocks = inv.blocks; numbers = inv.numbers; own = inv.own; homes = λ i used out. inv.homes i used }

module _ {O B : Type 0} (c : Program O B) (f : Forest (OperationRecord O) (BlockRecord B) RegionRecord) (u : Uses Value) (w : Uses (Ptr BasicBlock)) (x : Place)
    (inv : IsSoundBut c x) (decide : (e : Place) → IsInside (shape_of c.forest) x e ⊎ (IsInside (shape_of c.forest) x e → ⊥))
    (erases : ErasesInside c.forest f x)
    (operands : (i : ℕ) → IsInside (shape_of c.forest) x (Op i) → operand_row c i ≡ [])
    (successors : (i : ℕ) → IsInside (shape_of c.forest) x (Op i) → successor_row c i ≡ [])
    (values : ForgetsInside (shape_of c.forest) x value_place c.values u) (targets : ForgetsInside (shape_of c.forest) x block_place c.targets w) where
  -- the program that is left
  abbrev pub left : Program O B
  left = record { forest = f; values = u; targets = w; counter = c.counter }

  op_gone : (i : ℕ) → IsInside (shape_of c.forest) x (Op i) → held f.ops i ≡ None
  op_gone i inside = unused_held (held f.ops i) (λ h. erases.vacant (Op i) inside h)

  block_gone : (i : ℕ) → IsInside (shape_of c.forest) x (Block i) → held f.blocks i ≡ None
  block_gone i inside = unused_held (held f.blocks i) (λ h. erases.vacant (Block i) inside h)

  rows_left : (row : OperationRecord O → List ℕ) → ((i : ℕ) → IsInside (shape_of c.forest) x (Op i) → unwrap_or (option_map row (held c.forest.ops i)) [] ≡ []) → (i : ℕ) → unwrap_or (option_map row (held f.ops i)) [] ≡ unwrap_or (option_map row (held c.forest.ops i)) []
  rows_left row empty i = ⊎_elim
      (λ inside. ap (λ o. unwrap_or (option_map row o) []) (op_gone i inside) ∙ sym (empty i inside))
      (λ out. ap (λ (s : Slot (OperationRecord O)). unwrap_or (option_map row s.value) []) (erases.slots (Op i) out))
      (decide (Op i))

  get_op_left : (k : Key) → (IsInside (shape_of c.forest) x (Op k.slot) → ⊥) → get f.ops k ≡ get c.forest.ops k
  get_op_left k out = ap (λ (s : Slot (OperationRecord O)). cond (eqb s.version k.version) s.value None) (erases.slots (Op k.slot) out)

  get_block_left : (k : Key) → (IsInside (shape_of c.forest) x (Block k.slot) → ⊥) → get f.blocks k ≡ get c.forest.blocks k
  get_block_left k out = ap (λ (s : Slot (BlockRecord B)). cond (eqb s.version k.version) s.value None) (erases.slots (Block k.slot) out)

  get_region_left : (k : Key) → (IsInside (shape_of c.forest) x (RegionPlace k.slot) → ⊥) → get f.regions k ≡ get c.forest.regions k
  get_region_left k out = ap (λ (s : Slot RegionRecord). cond (eqb s.version k.version) s.value None) (erases.slots (RegionPlace k.slot) out)

  pub definitions_gone : (e : DefiningEntity) → IsInside (shape_of c.forest) x (definer_place e) → definitions_of left e ≡ []
  definitions_gone (ByOp p) inside = ap (λ o. unwrap_or (option_map (λ (r : OperationRecord O). r.results.items) o) []) (vacant-get f.ops p.key (op_gone p.key.slot inside))
  definitions_gone (ByBlock p) inside = ap (λ o. unwrap_or (option_map (λ (r : BlockRecord B). r.arguments.items) o) []) (vacant-get f.blocks p.key (block_gone p.key.slot inside))

  pub definitions_left : (e : DefiningEntity) → (IsInside (shape_of c.forest) x (definer_place e) → ⊥) → definitions_of left e ≡ definitions_of c e
  definitions_left (ByOp p) out = ap (λ o. unwrap_or (option_map (λ (r : OperationRecord O). r.results.items) o) []) (get_op_left p.key out)
  definitions_left (ByBlock p) out = ap (λ o. unwrap_or (option_map (λ (r : BlockRecord B). r.arguments.items) o) []) (get_block_left p.key out)

  no_numbers : (n : ℕ) → AreNumbered n []
  no_numbers n = record { distinct = tt; below = λ i d h. cc }

  pub gone-sound : IsProgram left
  gone-sound = record {
    operands = placed-same (place_of c.values) (operand_row c) inv.operands (place_of u) (operand_row left) (λ q. ap (λ ps. place_of (record u { places = ps }) q) values.places) (rows_left (λ (r : OperationRecord O). r.operands.items) operands);
    successors = placed-same (place_of c.targets) (successor_row c) inv.successors (place_of w) (successor_row left) (λ q. ap (λ ps. place_of (record w { places = ps }) q) targets.places) (rows_left (λ (r : OperationRecord O). r.successors.items) successors);
    values = gone-threads (thread_of_value c) (thread_of_value left) c.values u (λ v. IsInside (shape_of c.forest) x (value_place v)) (λ v. decide (value_place v))
        (λ v inside. ap (λ ds. option_map (λ (d : Definition). d.thread) (numbered v.number ds)) (definitions_gone v.definer inside))
        (λ v out. ap (λ ds. option_map (λ (d : Definition). d.thread) (numbered v.number ds)) (definitions_left v.definer out))
        values.gone values.kept values.none inv.values;
    blocks = gone-threads (thread_of_block c) (thread_of_block left) c.targets w (λ b. IsInside (shape_of c.forest) x (block_place b)) (λ b. decide (block_place b))
        (λ b inside. ap (option_map (λ (r : BlockRecord B). r.thread)) (vacant-get f.blocks b.key (block_gone b.key.slot inside)))
        (λ b out. ap (option_map (λ (r : BlockRecord B). r.thread)) (get_block_left b.key out))
        targets.gone targets.kept targets.none inv.blocks;
    numbers = λ e. ⊎_elim
        (λ inside. subst (AreNumbered c.counter) (sym (definitions_gone e inside)) (no_numbers c.counter))
        (λ out. subst (AreNumbered c.counter) (sym (definitions_left e out)) (inv.numbers e))
        (decide (definer_place e));
    own = own-within (definitions_of c) (definitions_of left) inv.own (λ e i d h. ⊎_elim
        (λ inside. let none : slice_get (definitions_of left e) i ≡ None = ap (λ l. slice_get l i) (definitions_gone e inside) in cc)
        (λ out. (i, ap (λ l. slice_get l i) (sym (definitions_left e out)) ∙ h))
        (decide (definer_place e)));
    homes = λ i used. ⊎_elim
        (λ inside. absurd (erases.vacant (RegionPlace i) inside used))
        (λ out.
        let home = inv.homes i (subst IsSome (ap (λ (s : Slot RegionRecord). s.value) (erases.slots (RegionPlace i) out)) used) out in
        (home.0, ap (has i) (erases.lists (Op home.0) (λ h. out (deeper (RegionPlace i) (Op home.0) home.1 h))) ∙ home.1))
        (decide (RegionPlace i));
  }

  -- what is seen of what stays
  module _ (one : StandInOne (shape_of c.forest)) (nowhere : StandsNowhere c.forest x)
      (unnamed_values : NoneNames (shape_of c.forest) x value_place c.values) (unnamed_blocks : NoneNames (shape_of c.forest) x block_place c.targets)
      (known_values : (q d : ℕ) → NamesDefinition c.values q d → IsDefined c.values d) (known_blocks : (q d : ℕ) → NamesDefinition c.targets q d → IsDefined c.targets d) where
    value_names : (q : ℕ) → value_named u q ≡ value_named c.values q
    value_names = names-kept _ c.values u values.places (gone-names c.values u (λ v. IsInside (shape_of c.forest) x (value_place v)) (λ v. decide (value_place v)) values.places values.kept unnamed_values known_values)

    block_names : (q : ℕ) → block_named w q ≡ block_named c.targets q
    block_names = names-kept _ c.targets w targets.places (gone-names c.targets w (λ b. IsInside (shape_of c.forest) x (block_place b)) (λ b. decide (block_place b)) targets.places targets.kept unnamed_blocks known_blocks)

    -- what stands in what stays stays
    members_out : (e d : Place) → IsIn (shape_of c.forest) e d → (IsInside (shape_of c.forest) x d → ⊥) → IsInside (shape_of c.forest) x e → ⊥
    members_out e d stands out inside = outside_in c.forest one x nowhere e d stands out inside

    pub operation-left : (p : Ptr Operation) → (IsInside (shape_of c.forest) x (Op p.key.slot) → ⊥) → operation_at left p ≡ operation_at c p
    operation-left p out = ap (option_map (operation_of left p)) (get_op_left p.key out) ∙ option_map-same _ _ _ (λ r e.
        let regions : handles_of {E = Region} f.regions (list_at f.in_ops.lists p.key.slot) ≡ handles_of c.forest.regions (list_at c.forest.in_ops.lists p.key.slot) =
        ap (handles_of f.regions) (erases.lists (Op p.key.slot) out) ∙ map-same _ _ _ (λ k i h. ap (λ (s : Slot RegionRecord). handle (record { slot = i; version = s.version })) (erases.slots (RegionPlace i) (members_out (RegionPlace i) (Op p.key.slot) (at_has _ k i h) out))) in
        rw (regions, map-same _ _ r.operands.items (λ k q h. value_names q), map-same _ _ r.successors.items (λ k q h. block_names q)) refl)

    pub block-left : (p : Ptr BasicBlock) → (IsInside (shape_of c.forest) x (Block p.key.slot) → ⊥) → block_at left p ≡ block_at c p
    block-left p out = ap (option_map (block_of left p)) (get_block_left p.key out) ∙ option_map-same _ _ _ (λ r e.
        let ops : handles_of {E = Operation} f.ops (list_at f.in_blocks.lists p.key.slot) ≡ handles_of c.forest.ops (list_at c.forest.in_blocks.lists p.key.slot) =
        ap (handles_of f.ops) (erases.lists (Block p.key.slot) out) ∙ map-same _ _ _ (λ k i h. ap (λ (s : Slot (OperationRecord O)). handle (record { slot = i; version = s.version })) (erases.slots (Op i) (members_out (Op i) (Block p.key.slot) (at_has _ k i h) out))) in
        ap (λ l. record (block_of c p r) { operations = l }) ops)

    pub region-left : (p : Ptr Region) → (IsInside (shape_of c.forest) x (RegionPlace p.key.slot) → ⊥) → region_at left p ≡ region_at c p
    region-left p out = ap (option_map (λ _. region_of left p)) (get_region_left p.key out) ∙ option_map-same _ _ _ (λ r e.
        let blocks : handles_of {E = BasicBlock} f.blocks (list_at f.in_regions.lists p.key.slot) ≡ handles_of c.forest.blocks (list_at c.forest.in_regions.lists p.key.slot) =
        ap (handles_of f.blocks) (erases.lists (RegionPlace p.key.slot) out) ∙ map-same _ _ _ (λ k i h. ap (λ (s : Slot (BlockRecord B)). handle (record { slot = i; version = s.version })) (erases.slots (Block i) (members_out (Block i) (RegionPlace p.key.slot) (at_has _ k i h) out))) in
        ap (λ l. record { blocks = l }) blocks)

    pub operation-gone : (p : Ptr Operation) → IsInside (shape_of c.forest) x (Op p.key.slot) → operation_at left p ≡ None
    operation-gone p inside = ap (option_map (operation_of left p)) (vacant-get f.ops p.key (op_gone p.key.slot inside))

    pub block-gone : (p : Ptr BasicBlock) → IsInside (shape_of c.forest) x (Block p.key.slot) → block_at left p ≡ None
    block-gone p inside = ap (option_map (block_of left p)) (vacant-get f.blocks p.key (block_gone p.key.slot inside))

    pub region-gone : (p : Ptr Region) → IsInside (shape_of c.forest) x (RegionPlace p.key.slot) → region_at left p ≡ None
    region-gone p inside = ap (option_map (λ _. region_of left p)) (vacant-get f.regions p.key (unused_held (held f.regions p.key.slot) (λ h. erases.vacant (RegionPlace p.key.slot) inside h)))

    pub erased-left : KeepsErased c left
    erased-left = record { operations = erases.ops.spent; blocks = erases.blocks.spent; regions = erases.regions.spent }
