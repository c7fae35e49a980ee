-- The walk over all inside an entity, by handles.
use Rattle.std.proofs.Common.{◌≡◌, ◌↔◌, ℕ, zero, suc, ⊎_elim, inl, inr, List, [], ◌∷◌, map, Option, Some, None, option_map, slice_get, refl, sym, ap, ◌∙◌, subst}
use Rattle.std.proofs.lemmas.List.{map-append}
use Rattle.std.proofs.lemmas.Option.{slice_get-map}
use Rattle.ir_entities.specs.declared.forest.Place.{Place}
use Rattle.ir_entities.specs.declared.forest.Place.TheVariants.{Op, Block, Region as RegionPlace}
use Rattle.ir_arena.specs.Arena.{get}
use Rattle.ir_entities.specs.Forest.{shape_of, HoldsInUse, pointer_to}
use Rattle.ir_entities.specs.Links.{list_at}
use Rattle.ir_entities.specs.Shape.{IsInside, itself as inside_itself, deeper}
use Rattle.ir_entities.specs.Walk.{walk_of, children, places_from, IsOneOf, AreOnce, IsWalk, nothing as nothing_walked, more as more_walked}
use Rattle.ir_entities.proofs.Orders.{walk_is, child_in}
use Rattle.ir_entities.proofs.Prunes.{member_used}
use Rattle.ir_program.specs.Handles.{handle}
use Rattle.ir_program.specs.Listed.{AreListed}
use Rattle.ir_program.specs.Lists.{operations_in, blocks_in, regions_in, place_of_node, IsLiveNode, StandsInside, itself, in_block, in_region, in_operation}
use Rattle.ir_program.specs.Preorder.{node_at, nodes_inside, nodes_in, IsPreorder, nothing, more, AreInside, StandOnceEach}
use Rattle.ir_program.specs.Program.{Program, OperationView, BlockView, RegionView, operation_of, block_of, region_of}
use Rattle.ir_program.specs.declared.handles.IRNode.{IRNode}
use Rattle.ir_program.specs.declared.handles.IRNode.TheVariants.{Operation as OperationNode, Region as RegionNode, BasicBlock as BlockNode}
use Rattle.ir_program.proofs.lists.Inside.{inside_by_slots, inside_by_handles}
use Rattle.ir_program.proofs.lists.Slotted.{of_slot, handle_is, pointer_live, held_is, list_of_some}
use Rattle.ir_program.proofs.lists.There.{operation_got, block_got, region_got, operation_there, block_there, region_there}

-- what stands at an index is one of the list, and what is one of it stands at some index
at_one : (xs : List Place) (k : ℕ) (e : Place) → slice_get xs k ≡ Some e → IsOneOf e xs
at_one [] k e h = cc
at_one (x ∷ xs) zero e h = let s : Some x ≡ Some e = h in let q : e ≡ x = cc in inl q
at_one (x ∷ xs) (suc k) e h = inr (at_one xs k e h)

one_at : (xs : List Place) (e : Place) → IsOneOf e xs → (k : ℕ) × (slice_get xs k ≡ Some e)
one_at [] e h = absurd h
one_at (x ∷ xs) e h = ⊎_elim (λ s. (zero, ap Some (sym s))) (λ t. let r : (k : ℕ) × (slice_get xs k ≡ Some e) = one_at xs e t in (suc r.0, r.1)) h

-- in a list in which each place comes once, it stands at one index
once_index : (xs : List Place) → AreOnce xs → (j k : ℕ) (e : Place) → slice_get xs j ≡ Some e → slice_get xs k ≡ Some e → j ≡ k
once_index [] once j k e h g = cc
once_index (x ∷ xs) once zero zero e h g = refl
once_index (x ∷ xs) once zero (suc k) e h g = let s : Some x ≡ Some e = h in let q : x ≡ e = cc in absurd (once.0 (subst (λ y. IsOneOf y xs) (sym q) (at_one xs k e g)))
once_index (x ∷ xs) once (suc j) zero e h g = let s : Some x ≡ Some e = g in let q : x ≡ e = cc in absurd (once.0 (subst (λ y. IsOneOf y xs) (sym q) (at_one xs j e h)))
once_index (x ∷ xs) once (suc j) (suc k) e h g = ap suc (once_index xs once.1 j k e h g)

map_twice : {X Y Z : Type 0} (f : Y → Z) (g : X → Y) (h : X → Z) → ((x : X) → f (g x) ≡ h x) → (xs : List X) → map f (map g xs) ≡ map h xs
map_twice f g h same [] = refl
map_twice f g h same (x ∷ xs) = rw (same x, map_twice f g h same xs) refl

module _ {O B : Type 0} (c : Program O B) where
  -- the slot of what is in a slot is that slot
  place_back : (e : Place) → place_of_node (node_at c e) ≡ e
  place_back (Op i) = refl
  place_back (Block i) = refl
  place_back (RegionPlace i) = refl

  pub node_back : (e : IRNode) → IsLiveNode c e → node_at c (place_of_node e) ≡ e
  node_back (OperationNode p) live = ap OperationNode (handle_is c.forest.ops p (operation_got c p live))
  node_back (BlockNode p) live = ap BlockNode (handle_is c.forest.blocks p (block_got c p live))
  node_back (RegionNode p) live = ap RegionNode (handle_is c.forest.regions p (region_got c p live))

  pub node_live : (e : Place) → HoldsInUse c.forest e → IsLiveNode c (node_at c e)
  node_live (Op i) used = operation_there c (handle (pointer_to c.forest.ops i)) (pointer_live c.forest.ops i used)
  node_live (Block i) used = block_there c (handle (pointer_to c.forest.blocks i)) (pointer_live c.forest.blocks i used)
  node_live (RegionPlace i) used = region_there c (handle (pointer_to c.forest.regions i)) (pointer_live c.forest.regions i used)

  pub place_used : (x : IRNode) → IsLiveNode c x → HoldsInUse c.forest (place_of_node x)
  place_used (OperationNode p) live = held_is c.forest.ops p.key (operation_got c p live)
  place_used (BlockNode p) live = held_is c.forest.blocks p.key (block_got c p live)
  place_used (RegionNode p) live = held_is c.forest.regions p.key (region_got c p live)

  inside_live : (x e : IRNode) → IsLiveNode c x → StandsInside c x e → IsLiveNode c e
  inside_live x _ live itself = live
  inside_live x _ live (in_block p b s w) = s.operation
  inside_live x _ live (in_region b r s w) = s.block
  inside_live x _ live (in_operation r p s w) = s.region

  node_of : (xs : List Place) (k : ℕ) (e : IRNode) → slice_get (map (node_at c) xs) k ≡ Some e → (d : Place) × (slice_get xs k ≡ Some d) × (node_at c d ≡ e)
  node_of xs k e h = by (slice_get xs k) refl
    where
      by : (o : Option Place) → slice_get xs k ≡ o → (d : Place) × (slice_get xs k ≡ Some d) × (node_at c d ≡ e)
      by None none = let s : slice_get (map (node_at c) xs) k ≡ None = slice_get-map (node_at c) xs k ∙ ap (option_map (node_at c)) none in cc
      by (Some d) some = let s : Some (node_at c d) ≡ Some e = sym (slice_get-map (node_at c) xs k ∙ ap (option_map (node_at c)) some) ∙ h in (d, some, cc)

  -- what stands in a place, by handles
  children_seen : (e : Place) → HoldsInUse c.forest e → map (node_at c) (children (shape_of c.forest) e) ≡ nodes_in c (node_at c e)
  children_seen (Op i) used =
      let listed : regions_in c (of_slot c.forest.ops i) ≡ map (of_slot c.forest.regions) (list_at c.forest.in_ops.lists i) = list_of_some (λ (v : OperationView O). v.regions) (operation_of c (of_slot c.forest.ops i)) (get c.forest.ops (pointer_to c.forest.ops i)) (map (of_slot c.forest.regions) (list_at c.forest.in_ops.lists i)) (λ a. refl) (pointer_live c.forest.ops i used) in
      map_twice (node_at c) RegionPlace (λ j. RegionNode (of_slot c.forest.regions j)) (λ j. refl) (list_at c.forest.in_ops.lists i)
      ∙ sym (ap (map RegionNode) listed ∙ map_twice RegionNode (of_slot c.forest.regions) (λ j. RegionNode (of_slot c.forest.regions j)) (λ j. refl) (list_at c.forest.in_ops.lists i))
  children_seen (Block i) used =
      let listed : operations_in c (of_slot c.forest.blocks i) ≡ map (of_slot c.forest.ops) (list_at c.forest.in_blocks.lists i) = list_of_some (λ (v : BlockView B). v.operations) (block_of c (of_slot c.forest.blocks i)) (get c.forest.blocks (pointer_to c.forest.blocks i)) (map (of_slot c.forest.ops) (list_at c.forest.in_blocks.lists i)) (λ a. refl) (pointer_live c.forest.blocks i used) in
      map_twice (node_at c) Op (λ j. OperationNode (of_slot c.forest.ops j)) (λ j. refl) (list_at c.forest.in_blocks.lists i)
      ∙ sym (ap (map OperationNode) listed ∙ map_twice OperationNode (of_slot c.forest.ops) (λ j. OperationNode (of_slot c.forest.ops j)) (λ j. refl) (list_at c.forest.in_blocks.lists i))
  children_seen (RegionPlace i) used =
      let listed : blocks_in c (of_slot c.forest.regions i) ≡ map (of_slot c.forest.blocks) (list_at c.forest.in_regions.lists i) = list_of_some (λ (v : RegionView). v.blocks) (λ u. region_of c (of_slot c.forest.regions i)) (get c.forest.regions (pointer_to c.forest.regions i)) (map (of_slot c.forest.blocks) (list_at c.forest.in_regions.lists i)) (λ a. refl) (pointer_live c.forest.regions i used) in
      map_twice (node_at c) Block (λ j. BlockNode (of_slot c.forest.blocks j)) (λ j. refl) (list_at c.forest.in_regions.lists i)
      ∙ sym (ap (map BlockNode) listed ∙ map_twice BlockNode (of_slot c.forest.blocks) (λ j. BlockNode (of_slot c.forest.blocks j)) (λ j. refl) (list_at c.forest.in_regions.lists i))

  module _ (known : AreListed c) where
    inside_used : (x e : Place) → HoldsInUse c.forest x → IsInside (shape_of c.forest) x e → HoldsInUse c.forest e
    inside_used x _ used inside_itself = used
    inside_used x _ used (deeper e d h w) = member_used c.forest known.forest e d h

    preorder : (es ys : List Place) → IsWalk (shape_of c.forest) es ys → ((e : Place) → IsOneOf e es → HoldsInUse c.forest e) → IsPreorder c (map (node_at c) es) (map (node_at c) ys)
    preorder _ _ nothing_walked used = nothing
    preorder _ _ (more_walked e es inner rest wi wr) used =
        let here : HoldsInUse c.forest e = used e (inl refl) in
        let within : IsPreorder c (map (node_at c) (children (shape_of c.forest) e)) (map (node_at c) inner) = preorder (children (shape_of c.forest) e) inner wi (λ d one. member_used c.forest known.forest d e (child_in (shape_of c.forest) d e one)) in
        let later : IsPreorder c (map (node_at c) es) (map (node_at c) rest) = preorder es rest wr (λ d one. used d (inr one)) in
        subst (λ ns. IsPreorder c (node_at c e ∷ map (node_at c) es) (node_at c e ∷ ns)) (sym (map-append (node_at c) inner rest))
        (more (node_at c e) (map (node_at c) es) (map (node_at c) inner) (map (node_at c) rest) (subst (λ ns. IsPreorder c ns (map (node_at c) inner)) (children_seen e here) within) later)

    module _ (x : IRNode) (live : IsLiveNode c x) where
      pub in-order : IsPreorder c (x ∷ []) (nodes_inside c x)
      unfolding nodes_inside
      in-order =
          subst (λ n. IsPreorder c (n ∷ []) (map (node_at c) (walk_of c.forest (place_of_node x)))) (node_back x live)
          (preorder (place_of_node x ∷ []) (walk_of c.forest (place_of_node x)) (walk_is c.forest known.forest (place_of_node x) (place_used x live)) (λ e one. ⊎_elim (λ s. subst (HoldsInUse c.forest) (sym s) (place_used x live)) (λ n. absurd n) one))

      module _ (all : (e : Place) → IsOneOf e (walk_of c.forest (place_of_node x)) ↔ IsInside (shape_of c.forest) (place_of_node x) e) where
        node_inside : (d : Place) → IsOneOf d (walk_of c.forest (place_of_node x)) → StandsInside c x (node_at c d)
        node_inside d one =
            let w : IsInside (shape_of c.forest) (place_of_node x) d = (all d).0 one in
            inside_by_handles c known x live (node_at c d) (node_live d (inside_used (place_of_node x) d (place_used x live) w)) (subst (IsInside (shape_of c.forest) (place_of_node x)) (sym (place_back d)) w)

        stands : (k : ℕ) (e : IRNode) → slice_get (map (node_at c) (walk_of c.forest (place_of_node x))) k ≡ Some e → StandsInside c x e
        stands k e h =
            let r : (d : Place) × (slice_get (walk_of c.forest (place_of_node x)) k ≡ Some d) × (node_at c d ≡ e) = node_of (walk_of c.forest (place_of_node x)) k e h in
            subst (StandsInside c x) r.2 (node_inside r.0 (at_one (walk_of c.forest (place_of_node x)) k r.0 r.1))

        pub are-inside : AreInside c x (nodes_inside c x)
        unfolding nodes_inside
        are-inside = record {
          inside = stands;
          live = λ k e h. inside_live x e live (stands k e h);
          all = λ e s.
              let r : (k : ℕ) × (slice_get (walk_of c.forest (place_of_node x)) k ≡ Some (place_of_node e)) = one_at (walk_of c.forest (place_of_node x)) (place_of_node e) ((all (place_of_node e)).1 (inside_by_slots c x e s)) in
              (r.0, slice_get-map (node_at c) (walk_of c.forest (place_of_node x)) r.0 ∙ ap (option_map (node_at c)) r.1 ∙ ap Some (node_back e (inside_live x e live s)));
        }

  pub once-each : (x : IRNode) → AreOnce (walk_of c.forest (place_of_node x)) → StandOnceEach (nodes_inside c x)
  unfolding nodes_inside
  once-each x once j k e h g =
      let a : (d : Place) × (slice_get (walk_of c.forest (place_of_node x)) j ≡ Some d) × (node_at c d ≡ e) = node_of (walk_of c.forest (place_of_node x)) j e h in
      let b : (d : Place) × (slice_get (walk_of c.forest (place_of_node x)) k ≡ Some d) × (node_at c d ≡ e) = node_of (walk_of c.forest (place_of_node x)) k e g in
      let same : a.0 ≡ b.0 = sym (place_back a.0) ∙ ap place_of_node (a.2 ∙ sym b.2) ∙ place_back b.0 in
      once_index (walk_of c.forest (place_of_node x)) once j k b.0 (a.1 ∙ ap Some same) b.1

  -- the walk begins with all of it
  pub from-first : (x : IRNode) → places_from (Some (place_of_node x)) (walk_of c.forest (place_of_node x)) ≡ walk_of c.forest (place_of_node x) → map (node_at c) (places_from (Some (place_of_node x)) (walk_of c.forest (place_of_node x))) ≡ nodes_inside c x
  unfolding nodes_inside
  from-first x begins = ap (map (node_at c)) begins
