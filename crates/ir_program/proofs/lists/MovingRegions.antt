-- What moving a region from one operation to another makes of the program.
use Rattle.std.proofs.Common.{◌≡◌, ◌≢◌, ℕ, ◌<◌, ◌≤◌, ⊎_elim, Bool, true, false, cond, eqb, List, [], ◌∷◌, ◌++◌, map, length, Some, IsSome, option_map, slice_get, set, remove, refl, sym, ap, subst, ◌∙◌, arith}
use Rattle.std.proofs.lemmas.List.{map-append, length-map}
use Rattle.std.proofs.lemmas.Bool.{eqb-true, or_cases, or_left, or_right, cases_eq}
use Rattle.ir_arena.specs.Arena.{get}
use Rattle.ir_entities.specs.Lists.{ListsView}
use Rattle.ir_entities.specs.Links.{has, list_at, without, IsLinked}
use Rattle.ir_entities.specs.Forest.{Forest, shape_of}
use Rattle.ir_entities.specs.Shape.{Shape, IsIn, IsInside, itself, deeper}
use Rattle.ir_entities.specs.declared.forest.Place.{Place}
use Rattle.ir_entities.specs.declared.forest.Place.TheVariants.{Op, Region as RegionPlace}
use Rattle.ir_arena.proofs.Slots.{live_slot}
use Rattle.ir_entities.proofs.Trees.{less_by_levels, has_without_at, list_at-map}
use Rattle.ir_entities.proofs.Edits.{has_left, has_right}
use Rattle.ir_entities.proofs.Segments.{has_here}
use Rattle.ir_program.specs.Program.{Program, OperationView, operation_at, region_at, operation_of, type_at}
use Rattle.ir_program.specs.Sound.{IsProgram}
use Rattle.ir_program.specs.Listed.{AreListed}
use Rattle.ir_program.specs.Lists.{regions_in, StandsInside}
use Rattle.ir_program.specs.Edits.{EditsOperation, MovesRegion}
use Rattle.ir_program.specs.declared.handles.Ptr.{Ptr}
use Rattle.ir_program.specs.declared.handles.Operation.{Operation}
use Rattle.ir_program.specs.declared.handles.Region.{Region}
use Rattle.ir_program.specs.declared.handles.Value.{Value}
use Rattle.ir_program.specs.declared.handles.IRNode.TheVariants.{Operation as OperationNode, Region as RegionNode}
use Rattle.ir_program.specs.declared.records.OperationRecord.{OperationRecord}
use Rattle.ir_program.specs.declared.records.BlockRecord.{BlockRecord}
use Rattle.ir_program.specs.declared.records.RegionRecord.{RegionRecord}
use Rattle.ir_program.proofs.lists.Slotted.{of_slot, handle_is, one_handle, map_edited, map_same, map-remove, SetsList, set_list, without_list}
use Rattle.ir_program.proofs.lists.There.{operation_got, region_got}
use Rattle.ir_program.proofs.lists.Levels.{slot_at_index}
use Rattle.ir_program.proofs.lists.InOperations.{IsLevelOfOperations, in_ops}
use Rattle.ir_program.proofs.lists.Inside.{inside_by_handles}
use Rattle.ir_program.proofs.lists.Rearranged.{still_program, types_stay}

-- what stands inside still does where more stands
pub inside_more : (s t : Shape) → ((e d : Place) → IsIn s e d → IsIn t e d) → (x e : Place) → IsInside s x e → IsInside t x e
inside_more s t more x e itself = itself
inside_more s t more x e (deeper _ d h w) = deeper e d (more e d h) (inside_more s t more x d w)

-- taking one out leaves the others
pub kept_without : (r j : ℕ) (xs : List ℕ) → j ≢ r → has j xs ≡ true → has j (without r xs) ≡ true
kept_without r j [] ne h = h
kept_without r j (y ∷ ys) ne h = kept_cases (eqb r y) (kept_without r j ys ne) refl where
  kept_cases : (b : Bool) → (has j ys ≡ true → has j (without r ys) ≡ true) → eqb r y ≡ b → has j (cond b ys (y ∷ without r ys)) ≡ true
  kept_cases true rest e = ⊎_elim
      (λ t. absurd (ne (eqb-true j y t ∙ sym (eqb-true r y e))))
      (λ t. t)
      (or_cases (eqb j y) (has j ys) h)
  kept_cases false rest e = ⊎_elim
      (λ t. or_left (eqb j y) (has j (without r ys)) t)
      (λ t. or_right (eqb j y) (has j (without r ys)) (rest t))
      (or_cases (eqb j y) (has j ys) h)

module _ {O B : Type 0} where
  -- with other lists of regions in operations
  abbrev pub with_in_ops : Program O B → ListsView → Program O B
  with_in_ops c l = record c { forest = record c.forest { in_ops = l } }

  abbrev regions_of_slots : Program O B → List ℕ → List (Ptr Region)
  regions_of_slots c is = map (of_slot c.forest.regions) is

  -- the list of one operation changes
  pub operation_is : (c : Program O B) (l : ListsView) (q : Ptr Operation) (is : List ℕ) (edit : List (Ptr Region) → List (Ptr Region)) → list_at l.lists q.key.slot ≡ is → regions_of_slots c is ≡ edit (regions_of_slots c (list_at c.forest.in_ops.lists q.key.slot))
      → operation_at (with_in_ops c l) q ≡ option_map (λ (v : OperationView O). record v { regions = edit v.regions }) (operation_at c q)
  operation_is c l q is edit here e = map_edited (get c.forest.ops q.key) (operation_of c q) (operation_of (with_in_ops c l) q) (λ (v : OperationView O). record v { regions = edit v.regions })
      (λ o. ap (λ rs. record (operation_of c q o) { regions = rs }) (ap (regions_of_slots c) here ∙ e))

  -- that of an operation stays
  pub operation_stays : (c : Program O B) (l : ListsView) (q : Ptr Operation) → (IsSome (get c.forest.ops q.key) → list_at l.lists q.key.slot ≡ list_at c.forest.in_ops.lists q.key.slot) → operation_at (with_in_ops c l) q ≡ operation_at c q
  operation_stays c l q same = map_same (get c.forest.ops q.key) (operation_of c q) (operation_of (with_in_ops c l) q)
      (λ live o. ap (λ is. record (operation_of c q o) { regions = regions_of_slots c is }) (same live))

module _ {O B : Type 0} (i c : Program O B) (seen : i ≡ c) (known : AreListed c) (r : Ptr Region) (p : Ptr Operation) (live_r : IsSome (region_at c r)) (live_p : IsSome (operation_at c p)) (mid : Forest (OperationRecord O) (BlockRecord B) RegionRecord) (out : mid.in_ops.lists ≡ map (without r.key.slot) i.forest.in_ops.lists) (rest_mid : mid ≡ record i.forest { in_ops = mid.in_ops }) where
  level : IsLevelOfOperations c
  level = in_ops c known

  pub op_in_mid : IsSome (get mid.ops p.key)
  op_in_mid = subst (λ (t : Forest (OperationRecord O) (BlockRecord B) RegionRecord). IsSome (get t.ops p.key)) (sym rest_mid) (subst (λ (w : Program O B). IsSome (get w.forest.ops p.key)) (sym seen) (operation_got c p live_p))

  pub region_in_mid : IsSome (get mid.regions r.key)
  region_in_mid = subst (λ (t : Forest (OperationRecord O) (BlockRecord B) RegionRecord). IsSome (get t.regions r.key)) (sym rest_mid) (subst (λ (w : Program O B). IsSome (get w.forest.regions r.key)) (sym seen) (region_got c r live_r))

  less : (e d : Place) → IsIn (shape_of mid) e d → IsIn (shape_of i.forest) e d
  less = less_by_levels (shape_of i.forest) (shape_of mid)
      (λ j b h. subst (λ (t : Forest (OperationRecord O) (BlockRecord B) RegionRecord). has j (list_at t.in_blocks.lists b) ≡ true) rest_mid h)
      (λ j b h. subst (λ (t : Forest (OperationRecord O) (BlockRecord B) RegionRecord). has j (list_at t.in_regions.lists b) ≡ true) rest_mid h)
      (λ j b h. has_without_at i.forest.in_ops.lists r.key.slot b j (subst (λ ls. has j (list_at ls b) ≡ true) out h))

  pub apart_in_mid : (StandsInside c (RegionNode r) (OperationNode p) → ⊥) → IsInside (shape_of mid) (RegionPlace r.key.slot) (Op p.key.slot) → ⊥
  apart_in_mid apart w = apart (inside_by_handles c known (RegionNode r) live_r (OperationNode p) live_p
      (subst (λ (z : Program O B). IsInside (shape_of z.forest) (RegionPlace r.key.slot) (Op p.key.slot)) seen (inside_more (shape_of mid) (shape_of i.forest) less (RegionPlace r.key.slot) (Op p.key.slot) w)))

  module _ (f : Forest (OperationRecord O) (BlockRecord B) RegionRecord) (back : f.in_ops.lists ≡ set mid.in_ops.lists p.key.slot (list_at mid.in_ops.lists p.key.slot ++ r.key.slot ∷ [])) (rest : f ≡ record mid { in_ops = f.in_ops }) where
    rest_all : f ≡ record i.forest { in_ops = f.in_ops }
    rest_all = rest ∙ ap (λ (t : Forest (OperationRecord O) (BlockRecord B) RegionRecord). record t { in_ops = f.in_ops }) rest_mid

    new_is : with_in_ops c f.in_ops ≡ record i { forest = f }
    new_is = ap (λ (w : Program O B). with_in_ops w f.in_ops) (sym seen) ∙ ap (λ (t : Forest (OperationRecord O) (BlockRecord B) RegionRecord). record i { forest = t }) (sym rest_all)

    -- the lists once the region is out, and once it is in
    abbrev taken : List (List ℕ)
    taken = map (without r.key.slot) c.forest.in_ops.lists

    abbrev behind : List ℕ
    behind = list_at taken p.key.slot ++ r.key.slot ∷ []

    lists_are : f.in_ops.lists ≡ set taken p.key.slot behind
    lists_are =
        let first : mid.in_ops.lists ≡ taken = out ∙ ap (λ (w : Program O B). map (without r.key.slot) w.forest.in_ops.lists) seen in
        back ∙ ap (λ ls. set ls p.key.slot (list_at ls p.key.slot ++ r.key.slot ∷ [])) first

    list_made : p.key.slot < length taken
    list_made =
        let within : p.key.slot < length c.forest.ops = (live_slot c.forest.ops p.key (operation_got c p live_p)).within in
        let made : length c.forest.ops ≤ length c.forest.in_ops.lists = known.forest.regions.lists_made in
        let as_long : length taken ≡ length c.forest.in_ops.lists = length-map c.forest.in_ops.lists (without r.key.slot) in
        omega arith

    put : SetsList taken f.in_ops.lists p.key.slot behind
    put = subst (λ ls. SetsList taken ls p.key.slot behind) (sym lists_are) (set_list taken p.key.slot behind list_made)

    is_r : of_slot c.forest.regions r.key.slot ≡ r
    is_r = handle_is c.forest.regions r (region_got c r live_r)

    home_kept : (j : ℕ) → IsLinked c.forest.in_ops.lists j → IsLinked f.in_ops.lists j
    home_kept j l = ⊎_elim
        (λ e. (p.key.slot, subst (λ xs. has j xs ≡ true) (sym put.here) (rw e (has_right r.key.slot (list_at taken p.key.slot) (r.key.slot ∷ []) (has_here r.key.slot [])))))
        (λ ne.
        let still : has j (list_at taken l.0) ≡ true = subst (λ xs. has j xs ≡ true) (sym (list_at-map (without r.key.slot) c.forest.in_ops.lists l.0 refl)) (kept_without r.key.slot j (list_at c.forest.in_ops.lists l.0) ne l.1) in
        ⊎_elim
        (λ e. (p.key.slot, subst (λ xs. has j xs ≡ true) (sym put.here) (has_left j (list_at taken p.key.slot) (r.key.slot ∷ []) (subst (λ (b : ℕ). has j (list_at taken b) ≡ true) e still))))
        (λ nb. (l.0, subst (λ xs. has j xs ≡ true) (sym (put.others l.0 nb)) still))
        (cases_eq l.0 p.key.slot))
        (cases_eq j r.key.slot)

    pub region_moved_program : IsProgram i → IsProgram (record i { forest = f })
    region_moved_program kept = still_program i i.forest.in_blocks i.forest.in_regions f.in_ops f rest_all kept
        (λ j used. home_kept j (subst (λ (w : Program O B). IsLinked w.forest.in_ops.lists j) seen (kept.homes j used)))

    -- the region stood at index k of operation a
    module _ (a : Ptr Operation) (k : ℕ) (at : slice_get (regions_in c a) k ≡ Some r) where
      takes : SetsList c.forest.in_ops.lists taken a.key.slot (remove (list_at c.forest.in_ops.lists a.key.slot) k)
      takes = without_list c.forest.in_ops.lists level.apart a.key.slot k r.key.slot (level.distinct a.key.slot) (slot_at_index c.forest.regions c.forest.ops c.forest.in_ops.lists (regions_in c) level a k r at)

      live_a : IsSome (get c.forest.ops a.key)
      live_a = level.some a k r at

      moved_between : a ≢ p → MovesRegion c (with_in_ops c f.in_ops) r a k p
      moved_between ne =
          let apart : a.key.slot ≢ p.key.slot = λ e. ne (one_handle c.forest.ops a p live_a (operation_got c p live_p) e) in
          record {
            from_edited = operation_is c f.in_ops a (remove (list_at c.forest.in_ops.lists a.key.slot) k) (λ rs. remove rs k) (put.others a.key.slot apart ∙ takes.here) (map-remove (of_slot c.forest.regions) (list_at c.forest.in_ops.lists a.key.slot) k);
            to_edited = operation_is c f.in_ops p (list_at c.forest.in_ops.lists p.key.slot ++ r.key.slot ∷ []) (λ rs. rs ++ r ∷ [])
                (put.here ∙ ap (λ xs. xs ++ r.key.slot ∷ []) (takes.others p.key.slot (λ e. apart (sym e))))
                (map-append (of_slot c.forest.regions) (list_at c.forest.in_ops.lists p.key.slot) (r.key.slot ∷ []) ∙ ap (λ q. regions_of_slots c (list_at c.forest.in_ops.lists p.key.slot) ++ q ∷ []) is_r);
            others = λ q na np. operation_stays c f.in_ops q (λ live_q.
                put.others q.key.slot (λ e. np (one_handle c.forest.ops q p live_q (operation_got c p live_p) e))
                ∙ takes.others q.key.slot (λ e. na (one_handle c.forest.ops q a live_q live_a e)));
            blocks = λ q. refl;
            regions = λ q. refl;
            erased = record { operations = λ q s. s; blocks = λ q s. s; regions = λ q s. s };
          }

      pub region_moved : a ≢ p → MovesRegion c (record i { forest = f }) r a k p
      region_moved ne = subst (λ (w : Program O B). MovesRegion c w r a k p) new_is (moved_between ne)

    rotated : (k : ℕ) → slice_get (regions_in c p) k ≡ Some r → EditsOperation c (with_in_ops c f.in_ops) p (λ v. record v { regions = remove v.regions k ++ r ∷ [] })
    rotated k at =
        let took : SetsList c.forest.in_ops.lists taken p.key.slot (remove (list_at c.forest.in_ops.lists p.key.slot) k) = takes p k at in
        record {
          edited = operation_is c f.in_ops p (remove (list_at c.forest.in_ops.lists p.key.slot) k ++ r.key.slot ∷ []) (λ rs. remove rs k ++ r ∷ [])
              (put.here ∙ ap (λ xs. xs ++ r.key.slot ∷ []) took.here)
              (map-append (of_slot c.forest.regions) (remove (list_at c.forest.in_ops.lists p.key.slot) k) (r.key.slot ∷ [])
              ∙ ap (λ rs. rs ++ of_slot c.forest.regions r.key.slot ∷ []) (map-remove (of_slot c.forest.regions) (list_at c.forest.in_ops.lists p.key.slot) k)
              ∙ ap (λ q. remove (regions_of_slots c (list_at c.forest.in_ops.lists p.key.slot)) k ++ q ∷ []) is_r);
          others = λ q np. operation_stays c f.in_ops q (λ live_q.
              let apart : q.key.slot ≢ p.key.slot = λ e. np (one_handle c.forest.ops q p live_q (operation_got c p live_p) e) in
              put.others q.key.slot apart ∙ took.others q.key.slot apart);
          blocks = λ q. refl;
          regions = λ q. refl;
          erased = record { operations = λ q s. s; blocks = λ q s. s; regions = λ q s. s };
        }

    pub region_rotated : (k : ℕ) → slice_get (regions_in c p) k ≡ Some r → EditsOperation c (record i { forest = f }) p (λ v. record v { regions = remove v.regions k ++ r ∷ [] })
    region_rotated k at = subst (λ (w : Program O B). EditsOperation c w p (λ v. record v { regions = remove v.regions k ++ r ∷ [] })) new_is (rotated k at)

    pub region_types : (v : Value) → type_at (record i { forest = f }) v ≡ type_at c v
    region_types v = types_stay i c seen i.forest.in_blocks i.forest.in_regions f.in_ops f rest_all v
