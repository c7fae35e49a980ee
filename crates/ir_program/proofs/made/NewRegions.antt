-- A region that is new, the last of its operation.
use Rattle.std.proofs.Common.{◌≡◌, ◌≢◌, ℕ, ◌++◌, ⊎_elim, true, false, eqb, List, [], ◌∷◌, Option, Some, None, IsSome, option_map, unwrap_or, refl, sym, ap, ◌∙◌, subst}
use Rattle.std.proofs.lemmas.Bool.{both_ways, cases_eq, eq-eqb, or_left, or_right, or_cases}
use Rattle.std.proofs.lemmas.List.{map-append}
use Rattle.ir_arena.specs.declared.arena.Key.{Key}
use Rattle.ir_arena.specs.declared.arena.Slot.{Slot}
use Rattle.ir_entities.specs.declared.forest.Place.{Place}
use Rattle.ir_entities.specs.declared.forest.Place.TheVariants.{Op, Block, Region as RegionPlace}
use Rattle.ir_arena.specs.Arena.{get, held, SetsSlot, Updates, IsSpent, KeepsSpent}
use Rattle.ir_entities.specs.Links.{list_at, has}
use Rattle.ir_entities.specs.Shape.{Shape, IsIn, IsInside, itself, deeper}
use Rattle.ir_entities.specs.Forest.{Forest, IsForest, pointer_to}
use Rattle.ir_entities.proofs.Trees.{pointer_is}
use Rattle.ir_program.specs.Handles.{handle}
use Rattle.ir_program.specs.Program.{Program, OperationView, handles_of, operation_of, operation_at, block_of, region_of, definitions_of}
use Rattle.ir_program.specs.Sound.{IsProgram}
use Rattle.ir_program.specs.Made.{MakesRegion}
use Rattle.ir_program.specs.declared.handles.Ptr.{Ptr}
use Rattle.ir_program.specs.declared.handles.Operation.{Operation}
use Rattle.ir_program.specs.declared.handles.Region.{Region}
use Rattle.ir_program.specs.declared.handles.DefiningEntity.{DefiningEntity}
use Rattle.ir_program.specs.declared.handles.DefiningEntity.TheVariants.{Op as ByOp, Block as ByBlock}
use Rattle.ir_program.specs.declared.records.OperationRecord.{OperationRecord}
use Rattle.ir_program.specs.declared.records.BlockRecord.{BlockRecord}
use Rattle.ir_program.specs.declared.records.RegionRecord.{RegionRecord}
use Rattle.ir_program.proofs.made.Frames.{option_map-same, other_key, same_handle}
use Rattle.ir_program.proofs.made.Lent.{some_is}
use Rattle.ir_program.proofs.lists.Slotted.{one_handle}
use Rattle.ir_program.proofs.made.Alike.{in_forest, forest-sound, pointers-stay, same_or, same_self}

-- nothing but itself is inside what holds nothing
pub inside_bare : (s : Shape) (x e : Place) → ((y : Place) → IsIn s y x → ⊥) → IsInside s x e → e ≡ x
inside_bare s x _ none itself = refl
inside_bare s x _ none (deeper e d stands inside) = absurd (none e (subst (IsIn s e) (inside_bare s x d none inside) stands))

in_region : (s : Shape) (r : ℕ) → list_at s.in_regions r ≡ [] → (y : Place) → IsIn s y (RegionPlace r) → ⊥
in_region s r bare (Block i) h = both_ways (has i (list_at s.in_regions r)) (rw bare refl) h
in_region s r bare (Op i) h = h
in_region s r bare (RegionPlace i) h = h

-- no operation is inside a region that holds no block
pub outside_bare : (s : Shape) (r o : ℕ) → list_at s.in_regions r ≡ [] → IsInside s (RegionPlace r) (Op o) → ⊥
outside_bare s r o bare inside = let e : Op o ≡ RegionPlace r = inside_bare s (RegionPlace r) (Op o) (in_region s r bare) inside in cc

has_last : (x : ℕ) (xs : List ℕ) → has x (xs ++ x ∷ []) ≡ true
has_last x [] = or_left (eqb x x) false (eq-eqb x x refl)
has_last x (y ∷ xs) = or_right (eqb x y) (has x (xs ++ x ∷ [])) (has_last x xs)

has_more : (x y : ℕ) (xs : List ℕ) → has x xs ≡ true → has x (xs ++ y ∷ []) ≡ true
has_more x y (z ∷ xs) h = ⊎_elim (λ t. or_left (eqb x z) (has x (xs ++ y ∷ [])) t) (λ t. or_right (eqb x z) (has x (xs ++ y ∷ [])) (has_more x y xs t)) (or_cases (eqb x z) (has x xs) h)
has_more x y [] h = absurd (both_ways false refl h)

module _ {O B : Type 0} (c : Program O B) (f : Forest (OperationRecord O) (BlockRecord B) RegionRecord) (p : Ptr Operation) (r : Ptr Region) (u : RegionRecord)
    (live : IsSome (get c.forest.ops p.key))
    (fresh : get c.forest.regions r.key ≡ None) (updates : Updates c.forest.regions f.regions r.key (Some u)) (sets : SetsSlot c.forest.regions f.regions r.key.slot u)
    (ops : f.ops ≡ c.forest.ops) (blocks : f.blocks ≡ c.forest.blocks) (in_blocks : f.in_blocks ≡ c.forest.in_blocks)
    (in_regions : (i : ℕ) → list_at f.in_regions.lists i ≡ list_at c.forest.in_regions.lists i)
    (in_op : list_at f.in_ops.lists p.key.slot ≡ list_at c.forest.in_ops.lists p.key.slot ++ r.key.slot ∷ [])
    (in_others : (i : ℕ) → i ≢ p.key.slot → list_at f.in_ops.lists i ≡ list_at c.forest.in_ops.lists i) where
  region_here : get f.regions r.key ≡ Some u
  region_here = updates r.key ∙ same_self r.key (Some u) (get c.forest.regions r.key)

  region_elsewhere : (q : Key) → q ≢ r.key → get f.regions q ≡ get c.forest.regions q
  region_elsewhere q ne = updates q ∙ same_or r.key q (Some u) (get c.forest.regions q) (λ e. ne (sym e))

  same_definitions : (e : DefiningEntity) → definitions_of (in_forest c f) e ≡ definitions_of c e
  same_definitions (ByOp q) = ap (λ s. unwrap_or (option_map (λ (o : OperationRecord O). o.results.items) (get s q.key)) []) ops
  same_definitions (ByBlock q) = ap (λ s. unwrap_or (option_map (λ (b : BlockRecord B). b.arguments.items) (get s q.key)) []) blocks

  homes : IsProgram c → (i : ℕ) → IsSome (held f.regions i) → (h : ℕ) × (has i (list_at f.in_ops.lists h) ≡ true)
  homes inv i used = ⊎_elim
      (λ (e : i ≡ r.key.slot). (p.key.slot, subst (λ j. has j (list_at f.in_ops.lists p.key.slot) ≡ true) (sym e) (rw in_op (has_last r.key.slot (list_at c.forest.in_ops.lists p.key.slot)))))
      (λ ne.
      let was : IsSome (held c.forest.regions i) = subst IsSome (ap (λ (s : Slot RegionRecord). s.value) (sets.others i ne)) used in
      let home = inv.homes i was in (
        home.0,
        ⊎_elim
            (λ (e : home.0 ≡ p.key.slot). subst (λ h. has i (list_at f.in_ops.lists h) ≡ true) (sym e) (rw in_op (has_more i r.key.slot (list_at c.forest.in_ops.lists p.key.slot) (subst (λ h. has i (list_at c.forest.in_ops.lists h) ≡ true) e home.1))))
            (λ n. ap (has i) (in_others home.0 n) ∙ home.1)
            (cases_eq home.0 p.key.slot),
      ))
      (cases_eq i r.key.slot)

  pub region-made-sound : IsProgram c → IsProgram (in_forest c f)
  region-made-sound inv = forest-sound c f
      (λ i. ap (λ s. unwrap_or (option_map (λ (o : OperationRecord O). o.operands.items) (held s i)) []) ops)
      (λ i. ap (λ s. unwrap_or (option_map (λ (o : OperationRecord O). o.successors.items) (held s i)) []) ops)
      same_definitions
      (λ q. ap (λ s. option_map (λ (b : BlockRecord B). b.thread) (get s q.key)) blocks)
      (homes inv)
      inv

  stay : IsForest c.forest → (i : ℕ) → handles_of {E = Region} f.regions (list_at c.forest.in_ops.lists i) ≡ handles_of c.forest.regions (list_at c.forest.in_ops.lists i)
  stay forest i = pointers-stay c.forest.regions f.regions r.key.slot u sets (list_at c.forest.in_ops.lists i) (λ j h. forest.regions.members i j h)

  pub region-made : (unspent : IsSpent c.forest.regions r.key → ⊥) → KeepsSpent c.forest.regions f.regions → list_at f.in_regions.lists r.key.slot ≡ [] → IsForest c.forest → MakesRegion c (in_forest c f) p r
  region-made unspent kept bare forest = record {
    fresh = ap (option_map (λ _. region_of c r)) fresh;
    unspent = unspent;
    made = ap (option_map (λ _. region_of (in_forest c f) r)) region_here ∙ rw bare refl;
    others = λ q ne. ap (option_map (λ _. region_of (in_forest c f) q)) (region_elsewhere q.key (other_key q r ne)) ∙ option_map-same _ _ _ (λ x e. rw (blocks, in_regions q.key.slot) refl);
    holder = holds (get c.forest.ops p.key) refl;
    operations = λ q ne. ap (λ s. option_map (operation_of (in_forest c f) q) (get s q.key)) ops
        ∙ option_map-same _ _ _ (λ o e.
        let apart : q.key.slot ≢ p.key.slot = λ s. ne (one_handle c.forest.ops q p (some_is _ o e) live s) in
        ap (λ l. record (operation_of c q o) { regions = l }) (ap (handles_of f.regions) (in_others q.key.slot apart) ∙ stay forest q.key.slot));
    blocks = λ q. ap (λ s. option_map (block_of (in_forest c f) q) (get s q.key)) blocks ∙ option_map-same _ _ _ (λ b e. rw (ops, in_blocks) refl);
    erased = record { operations = λ x s. rw ops s; blocks = λ x s. rw blocks s; regions = kept };
    counter = refl;
  }
    where
      last : handle {E = Region} (pointer_to f.regions r.key.slot) ≡ r
      last = same_handle _ r (pointer_is f.regions r.key (some_is _ u region_here))

      here : handles_of {E = Region} f.regions (list_at f.in_ops.lists p.key.slot) ≡ handles_of c.forest.regions (list_at c.forest.in_ops.lists p.key.slot) ++ r ∷ []
      here = ap (handles_of f.regions) in_op ∙ map-append _ (list_at c.forest.in_ops.lists p.key.slot) (r.key.slot ∷ []) ∙ rw (stay forest p.key.slot, last) refl

      holds : (o : Option (OperationRecord O)) → get c.forest.ops p.key ≡ o → operation_at (in_forest c f) p ≡ option_map (λ (v : OperationView O). record v { regions = v.regions ++ r ∷ [] }) (operation_at c p)
      holds o is = ap (λ s. option_map (operation_of (in_forest c f) p) (get s p.key)) ops
          ∙ by (get c.forest.ops p.key)
        where
          by : (x : Option (OperationRecord O)) → option_map (operation_of (in_forest c f) p) x ≡ option_map (λ (v : OperationView O). record v { regions = v.regions ++ r ∷ [] }) (option_map (operation_of c p) x)
          by None = refl
          by (Some o) = ap (λ l. Some (record (operation_of c p o) { regions = l })) here
