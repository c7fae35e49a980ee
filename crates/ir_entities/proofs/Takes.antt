-- What each single taking-out does.
use Rattle.std.proofs.Common.{◌≡◌, ◌≢◌, ℕ, ◌<◌, ◌⊎◌, inl, inr, ⊎_elim, Bool, true, false, cond, eqb, List, [], ◌∷◌, ◌++◌, map, length, Option, Some, None, IsSome, is_some, refl, sym, ap, subst, ◌∙◌, arith, set, zero, suc}
use Rattle.std.proofs.lemmas.List.{ext_get_or, length-set, get_or-set_same, get_or-set_other}
use Rattle.std.proofs.lemmas.Bool.{eqb-true, or_cases, or_left, or_right, cases_eq, both_ways}
use Rattle.ir_entities.proofs.Segments.{has-append}
use Rattle.ir_entities.proofs.Appends.{first_has}
use Rattle.ir_entities.specs.Lists.{ListsView}
use Rattle.ir_entities.specs.Links.{has, list_at, without, first_or}
use Rattle.ir_arena.specs.declared.arena.Slot.{Slot}
use Rattle.ir_arena.specs.declared.arena.Key.{Key}
use Rattle.ir_arena.specs.Arena.{held, get, slot_at, no_slot, ClearsSlot, IsSpent, KeepsSpent}
use Rattle.ir_entities.specs.declared.forest.Place.{Place}
use Rattle.ir_entities.specs.declared.forest.Place.TheVariants.{Op, Block, Region}
use Rattle.ir_entities.specs.Shape.{Shape, IsIn, IsInside, itself, deeper, IsGrounded, below}
use Rattle.ir_entities.specs.Forest.{Forest, AreMembers, IsForest, HoldsInUse, shape_of, pointer_to}
use Rattle.ir_entities.specs.Prune.{live, live_in, OnlyErases, StandsNowhere, HoldsNothing, IsFirstInner, KeepsSlot, KeepsList, IsDetached, IsPruned, ErasesInside}
use Rattle.ir_entities.proofs.Trees.{list_at-map, has_without_at, none_is_not_some, pointer_is, less_by_levels}
use Rattle.ir_entities.proofs.Climb.{used_below, no_cycle}
use Rattle.ir_entities.proofs.Prunes.{only_none, only_one, refused_all, list_same, list_both, inside_bare}

is_used : {T : Type 0} (o : Option T) → IsSome o → is_some o ≡ true
is_used {T} None u = absurd (none_is_not_some {T = T} None refl u)
is_used (Some v) u = refl

live_less : {T : Type 0} (old new : List (Slot T)) (x : ℕ) → length new ≡ length old → IsSome (held old x) → held new x ≡ None → ((i : ℕ) → i ≢ x → slot_at new i ≡ slot_at old i) → live new < live old
live_less {T} [] new x count used cleared others = absurd (none_is_not_some {T = T} None refl used)
live_less (s ∷ ss) [] x count used cleared others = absurd (omega (arith, count))
live_less (s ∷ ss) (t ∷ ts) zero count used cleared others =
    let rest : ts ≡ ss = ext_get_or no_slot ts ss (omega (arith, count)) (λ i lt. others (suc i) (λ e. omega arith)) in
    let some : is_some s.value ≡ true = is_used s.value used in
    rw (rest, cleared, some) (omega arith)
live_less (s ∷ ss) (t ∷ ts) (suc x) count used cleared others =
    let first : t ≡ s = others 0 (λ e. omega arith) in
    let rest : live ts < live ss = live_less ss ts x (omega (arith, count)) used cleared (λ i ne. others (suc i) (λ e. ne (omega arith))) in
    rw first (omega (arith, rest))

pub live_cleared : {T : Type 0} (old new : List (Slot T)) (x : ℕ) → ClearsSlot old new x → live new < live old
live_cleared old new x c = live_less old new x c.count c.used c.cleared c.others

has_still : (g i : ℕ) (xs : List ℕ) → i ≢ g → has i xs ≡ true → has i (without g xs) ≡ true
has_still g i [] ne h = h
has_still g i (y ∷ ys) ne h = split (eqb g y) refl (has_still g i ys ne) where
  split : (b : Bool) → eqb g y ≡ b → (has i ys ≡ true → has i (without g ys) ≡ true) → has i (cond b ys (y ∷ without g ys)) ≡ true
  split true e rest = ⊎_elim (λ t. absurd (ne (eqb-true i y t ∙ sym (eqb-true g y e)))) (λ t. t) (or_cases (eqb i y) (has i ys) h)
  split false e rest = ⊎_elim (λ t. or_left (eqb i y) (has i (without g ys)) t) (λ t. or_right (eqb i y) (has i (without g ys)) (rest t)) (or_cases (eqb i y) (has i ys) h)

has_still_at : (ls : List (List ℕ)) (g i d : ℕ) → i ≢ g → has i (list_at ls d) ≡ true → has i (list_at (map (without g) ls) d) ≡ true
has_still_at ls g i d ne h = rw (list_at-map (without g) ls d refl) (has_still g i (list_at ls d) ne h)

none_here : (xs : List ℕ) (i : ℕ) → xs ≡ [] → has i xs ≡ true → ⊥
none_here xs i e h = both_ways false refl (rw e at h)

-- a slot that stands nowhere, or that holds nothing, is vacant now
less_members : {T C : Type 0} (slots new : List (Slot T)) (containers : List (Slot C)) (l : ListsView) (g : ℕ) → AreMembers slots containers l → ClearsSlot slots new g → ((c : ℕ) → has g (list_at l.lists c) ≡ false) → AreMembers new containers l
less_members {T} slots new containers l g are clears out = record {
  nodes = rw clears.count are.nodes;
  lists_made = are.lists_made;
  members = λ c i h.
      let ne : i ≢ g = λ e. both_ways (has g (list_at l.lists c)) (out c) (rw e at h) in
      let e : held new i ≡ held slots i = ap (λ (k : Slot T). k.value) (clears.others i ne) in
      rw e (are.members c i h);
  holders = are.holders;
}

less_holders : {T C : Type 0} (slots : List (Slot T)) (containers new : List (Slot C)) (l : ListsView) (g : ℕ) → AreMembers slots containers l → ClearsSlot containers new g → list_at l.lists g ≡ [] → AreMembers slots new l
less_holders {T} {C} slots containers new l g are clears bare = record {
  nodes = are.nodes;
  lists_made = rw clears.count are.lists_made;
  members = are.members;
  holders = λ c i h.
      let ne : c ≢ g = λ e. both_ways false refl (rw (e, bare) at h) in
      let e : held new c ≡ held containers c = ap (λ (k : Slot C). k.value) (clears.others c ne) in
      rw e (are.holders c i h);
}

module _ {O B R : Type 0} (f : Forest O B R) (g : ℕ) (l : ListsView) (is : l.lists ≡ map (without g) f.in_blocks.lists)
    (one : (c : ℕ) → has g (list_at f.in_blocks.lists c) ≡ true → l.lists ≡ set f.in_blocks.lists c (without g (list_at f.in_blocks.lists c))) where
  op_rest : (e d : Place) → IsIn (shape_of f) e d → (e ≡ Op g → ⊥) → IsIn (shape_of (record f { in_blocks = l })) e d
  op_rest (Op i) (Op c) h ne = absurd h
  op_rest (Op i) (Block c) h ne = rw is (has_still_at f.in_blocks.lists g i c (λ e. ne (ap Op e)) h)
  op_rest (Op i) (Region c) h ne = absurd h
  op_rest (Block i) (Op c) h ne = absurd h
  op_rest (Block i) (Block c) h ne = absurd h
  op_rest (Block i) (Region c) h ne = h
  op_rest (Region i) (Op c) h ne = h
  op_rest (Region i) (Block c) h ne = absurd h
  op_rest (Region i) (Region c) h ne = absurd h

  op_lists : (d : Place) → IsIn (shape_of f) (Op g) d → (c : Place) → (c ≡ d → ⊥) → KeepsList f (record f { in_blocks = l }) c
  op_lists (Op d) h c ne = absurd h
  op_lists (Block d) h (Op c) ne = refl
  op_lists (Block d) h (Block c) ne = rw (one d h) (get_or-set_other f.in_blocks.lists d c (without g (list_at f.in_blocks.lists d)) [] (λ e. ne (ap Block e)))
  op_lists (Block d) h (Region c) ne = refl
  op_lists (Region d) h c ne = absurd h

  pub op_cut : IsDetached f (record f { in_blocks = l }) (Op g)
  op_cut = record {
    less = less_by_levels (shape_of f) (shape_of (record f { in_blocks = l })) (λ i c h. has_without_at f.in_blocks.lists g c i (rw is at h)) (λ i c h. h) (λ i c h. h);
    rest = op_rest;
    lists = op_lists;
    ops = refl;
    blocks = refl;
    regions = refl;
  }

module _ {O B R : Type 0} (f : Forest O B R) (g : ℕ) (l : ListsView) (is : l.lists ≡ map (without g) f.in_regions.lists)
    (one : (c : ℕ) → has g (list_at f.in_regions.lists c) ≡ true → l.lists ≡ set f.in_regions.lists c (without g (list_at f.in_regions.lists c))) where
  block_rest : (e d : Place) → IsIn (shape_of f) e d → (e ≡ Block g → ⊥) → IsIn (shape_of (record f { in_regions = l })) e d
  block_rest (Op i) (Op c) h ne = absurd h
  block_rest (Op i) (Block c) h ne = h
  block_rest (Op i) (Region c) h ne = absurd h
  block_rest (Block i) (Op c) h ne = absurd h
  block_rest (Block i) (Block c) h ne = absurd h
  block_rest (Block i) (Region c) h ne = rw is (has_still_at f.in_regions.lists g i c (λ e. ne (ap Block e)) h)
  block_rest (Region i) (Op c) h ne = h
  block_rest (Region i) (Block c) h ne = absurd h
  block_rest (Region i) (Region c) h ne = absurd h

  block_lists : (d : Place) → IsIn (shape_of f) (Block g) d → (c : Place) → (c ≡ d → ⊥) → KeepsList f (record f { in_regions = l }) c
  block_lists (Op d) h c ne = absurd h
  block_lists (Block d) h c ne = absurd h
  block_lists (Region d) h (Op c) ne = refl
  block_lists (Region d) h (Block c) ne = refl
  block_lists (Region d) h (Region c) ne = rw (one d h) (get_or-set_other f.in_regions.lists d c (without g (list_at f.in_regions.lists d)) [] (λ e. ne (ap Region e)))

  pub block_cut : IsDetached f (record f { in_regions = l }) (Block g)
  block_cut = record {
    less = less_by_levels (shape_of f) (shape_of (record f { in_regions = l })) (λ i c h. h) (λ i c h. has_without_at f.in_regions.lists g c i (rw is at h)) (λ i c h. h);
    rest = block_rest;
    lists = block_lists;
    ops = refl;
    blocks = refl;
    regions = refl;
  }

module _ {O B R : Type 0} (f : Forest O B R) (g : ℕ) (l : ListsView) (is : l.lists ≡ map (without g) f.in_ops.lists)
    (one : (c : ℕ) → has g (list_at f.in_ops.lists c) ≡ true → l.lists ≡ set f.in_ops.lists c (without g (list_at f.in_ops.lists c))) where
  region_rest : (e d : Place) → IsIn (shape_of f) e d → (e ≡ Region g → ⊥) → IsIn (shape_of (record f { in_ops = l })) e d
  region_rest (Op i) (Op c) h ne = absurd h
  region_rest (Op i) (Block c) h ne = h
  region_rest (Op i) (Region c) h ne = absurd h
  region_rest (Block i) (Op c) h ne = absurd h
  region_rest (Block i) (Block c) h ne = absurd h
  region_rest (Block i) (Region c) h ne = h
  region_rest (Region i) (Op c) h ne = rw is (has_still_at f.in_ops.lists g i c (λ e. ne (ap Region e)) h)
  region_rest (Region i) (Block c) h ne = absurd h
  region_rest (Region i) (Region c) h ne = absurd h

  region_lists : (d : Place) → IsIn (shape_of f) (Region g) d → (c : Place) → (c ≡ d → ⊥) → KeepsList f (record f { in_ops = l }) c
  region_lists (Op d) h (Op c) ne = rw (one d h) (get_or-set_other f.in_ops.lists d c (without g (list_at f.in_ops.lists d)) [] (λ e. ne (ap Op e)))
  region_lists (Op d) h (Block c) ne = refl
  region_lists (Op d) h (Region c) ne = refl
  region_lists (Block d) h c ne = absurd h
  region_lists (Region d) h c ne = absurd h

  pub region_cut : IsDetached f (record f { in_ops = l }) (Region g)
  region_cut = record {
    less = less_by_levels (shape_of f) (shape_of (record f { in_ops = l })) (λ i c h. h) (λ i c h. h) (λ i c h. has_without_at f.in_ops.lists g c i (rw is at h));
    rest = region_rest;
    lists = region_lists;
    ops = refl;
    blocks = refl;
    regions = refl;
  }

module _ {O B R : Type 0} (f : Forest O B R) (g : ℕ) (slots : List (Slot O)) (clears : ClearsSlot f.ops slots g) (bare : HoldsNothing f (Op g)) where
  pub op_freed_forest : IsForest f → StandsNowhere f (Op g) → IsForest (record f { ops = slots })
  op_freed_forest forest out = record {
    ops = less_members f.ops slots f.blocks f.in_blocks g forest.ops clears out;
    blocks = forest.blocks;
    regions = less_holders f.regions f.ops slots f.in_ops g forest.regions clears bare;
    grounded = forest.grounded;
  }

  op_vacant : (e : Place) → IsInside (shape_of f) (Op g) e → HoldsInUse (record f { ops = slots }) e → ⊥
  op_vacant e w u =
      let here : HoldsInUse (record f { ops = slots }) (Op g) = subst (λ (k : Place). HoldsInUse (record f { ops = slots }) k) (inside_bare f (Op g) bare e w) u in
      none_is_not_some (held slots g) clears.cleared here

  op_slots : (e : Place) → (IsInside (shape_of f) (Op g) e → ⊥) → KeepsSlot f (record f { ops = slots }) e
  op_slots (Op i) out = clears.others i (λ (e : i ≡ g). out (rw e itself))
  op_slots (Block i) out = refl
  op_slots (Region i) out = refl

  pub op_freed : KeepsSpent f.ops slots → IsSpent slots (pointer_to f.ops g) → ErasesInside f (record f { ops = slots }) (Op g)
  op_freed spent now =
      let only : OnlyErases f.ops slots = only_one f.ops slots g clears spent now in record {
        ops = only;
        blocks = only_none f.blocks;
        regions = only_none f.regions;
        vacant = op_vacant;
        refused_ops = refused_all f.ops slots _ only (λ i w u. op_vacant (Op i) w u);
        refused_blocks = refused_all f.blocks f.blocks _ (only_none f.blocks) (λ i w u. op_vacant (Block i) w u);
        refused_regions = refused_all f.regions f.regions _ (only_none f.regions) (λ i w u. op_vacant (Region i) w u);
        slots = op_slots;
        lists = λ e out. list_both f f (record f { ops = slots }) e (list_same f e) (op_list e);
      } where
        op_list : (e : Place) → KeepsList f (record f { ops = slots }) e
        op_list (Op i) = refl
        op_list (Block i) = refl
        op_list (Region i) = refl

module _ {O B R : Type 0} (f : Forest O B R) (g : ℕ) (slots : List (Slot B)) (clears : ClearsSlot f.blocks slots g) (bare : HoldsNothing f (Block g)) where
  pub block_freed_forest : IsForest f → StandsNowhere f (Block g) → IsForest (record f { blocks = slots })
  block_freed_forest forest out = record {
    ops = less_holders f.ops f.blocks slots f.in_blocks g forest.ops clears bare;
    blocks = less_members f.blocks slots f.regions f.in_regions g forest.blocks clears out;
    regions = forest.regions;
    grounded = forest.grounded;
  }

  block_vacant : (e : Place) → IsInside (shape_of f) (Block g) e → HoldsInUse (record f { blocks = slots }) e → ⊥
  block_vacant e w u =
      let here : HoldsInUse (record f { blocks = slots }) (Block g) = subst (λ (k : Place). HoldsInUse (record f { blocks = slots }) k) (inside_bare f (Block g) bare e w) u in
      none_is_not_some (held slots g) clears.cleared here

  block_slots : (e : Place) → (IsInside (shape_of f) (Block g) e → ⊥) → KeepsSlot f (record f { blocks = slots }) e
  block_slots (Op i) out = refl
  block_slots (Block i) out = clears.others i (λ (e : i ≡ g). out (rw e itself))
  block_slots (Region i) out = refl

  pub block_freed : KeepsSpent f.blocks slots → IsSpent slots (pointer_to f.blocks g) → ErasesInside f (record f { blocks = slots }) (Block g)
  block_freed spent now =
      let only : OnlyErases f.blocks slots = only_one f.blocks slots g clears spent now in record {
        ops = only_none f.ops;
        blocks = only;
        regions = only_none f.regions;
        vacant = block_vacant;
        refused_ops = refused_all f.ops f.ops _ (only_none f.ops) (λ i w u. block_vacant (Op i) w u);
        refused_blocks = refused_all f.blocks slots _ only (λ i w u. block_vacant (Block i) w u);
        refused_regions = refused_all f.regions f.regions _ (only_none f.regions) (λ i w u. block_vacant (Region i) w u);
        slots = block_slots;
        lists = λ e out. list_both f f (record f { blocks = slots }) e (list_same f e) (block_list e);
      } where
        block_list : (e : Place) → KeepsList f (record f { blocks = slots }) e
        block_list (Op i) = refl
        block_list (Block i) = refl
        block_list (Region i) = refl

module _ {O B R : Type 0} (f : Forest O B R) (g : ℕ) (slots : List (Slot R)) (clears : ClearsSlot f.regions slots g) (bare : HoldsNothing f (Region g)) where
  pub region_freed_forest : IsForest f → StandsNowhere f (Region g) → IsForest (record f { regions = slots })
  region_freed_forest forest out = record {
    ops = forest.ops;
    blocks = less_holders f.blocks f.regions slots f.in_regions g forest.blocks clears bare;
    regions = less_members f.regions slots f.ops f.in_ops g forest.regions clears out;
    grounded = forest.grounded;
  }

  region_vacant : (e : Place) → IsInside (shape_of f) (Region g) e → HoldsInUse (record f { regions = slots }) e → ⊥
  region_vacant e w u =
      let here : HoldsInUse (record f { regions = slots }) (Region g) = subst (λ (k : Place). HoldsInUse (record f { regions = slots }) k) (inside_bare f (Region g) bare e w) u in
      none_is_not_some (held slots g) clears.cleared here

  region_slots : (e : Place) → (IsInside (shape_of f) (Region g) e → ⊥) → KeepsSlot f (record f { regions = slots }) e
  region_slots (Op i) out = refl
  region_slots (Block i) out = refl
  region_slots (Region i) out = clears.others i (λ (e : i ≡ g). out (rw e itself))

  pub region_freed : KeepsSpent f.regions slots → IsSpent slots (pointer_to f.regions g) → ErasesInside f (record f { regions = slots }) (Region g)
  region_freed spent now =
      let only : OnlyErases f.regions slots = only_one f.regions slots g clears spent now in record {
        ops = only_none f.ops;
        blocks = only_none f.blocks;
        regions = only;
        vacant = region_vacant;
        refused_ops = refused_all f.ops f.ops _ (only_none f.ops) (λ i w u. region_vacant (Op i) w u);
        refused_blocks = refused_all f.blocks f.blocks _ (only_none f.blocks) (λ i w u. region_vacant (Block i) w u);
        refused_regions = refused_all f.regions slots _ only (λ i w u. region_vacant (Region i) w u);
        slots = region_slots;
        lists = λ e out. list_both f f (record f { regions = slots }) e (list_same f e) (region_list e);
      } where
        region_list : (e : Place) → KeepsList f (record f { regions = slots }) e
        region_list (Op i) = refl
        region_list (Block i) = refl
        region_list (Region i) = refl

-- what stood in x or in something inside it goes to x or stays
module _ (s t : Shape) (x : Place) where
  stays : ((e d : Place) → IsIn s e d → IsIn t e d ⊎ IsIn t e x) → (e : Place) → IsInside s x e → IsInside t x e
  stays h _ itself = itself
  stays h _ (deeper e d i w) = ⊎_elim (λ j. deeper e d j (stays h d w)) (λ j. deeper e x j itself) (h e d i)

  comes : ((e d : Place) → IsIn t e d → ((d ≡ x) × IsInside s x e) ⊎ IsIn s e d) → (e : Place) → IsInside t x e → IsInside s x e
  comes h _ itself = itself
  comes h _ (deeper e d i w) = ⊎_elim (λ n. n.1) (λ j. deeper e d j (comes h d w)) (h e d i)

  -- new edges lead to x, which stands nowhere
  grounded_root : ((d : Place) → IsIn t x d → ⊥) → ((e d : Place) → IsIn t e d → (d ≡ x) ⊎ IsIn s e d) → (e : Place) → IsGrounded s e → IsGrounded t e
  grounded_root top h e (below _ k) = below e (λ d i. ⊎_elim
      (λ n. subst (λ (z : Place). IsGrounded t z) (sym n) (below x (λ z j. absurd (top z j))))
      (λ j. grounded_root top h d (k d j))
      (h e d i))

-- the regions of operation o, which is inside operation x, go to x, which stands nowhere
module _ {O B R : Type 0} (f : Forest O B R) (forest : IsForest f) (x o : ℕ) (l : ListsView) (nodes : l.nodes ≡ f.in_ops.nodes)
    (moved : l.lists ≡ set (set f.in_ops.lists x (list_at f.in_ops.lists x ++ list_at f.in_ops.lists o)) o [])
    (root : StandsNowhere f (Op x)) (inside : IsInside (shape_of f) (Op x) (Op o)) (differ : x ≢ o) (used : IsSome (held f.ops x)) (used_o : IsSome (held f.ops o)) where
  x_made : x < length f.in_ops.lists
  x_made = let a : x < length f.ops = used_below f.ops x used in omega (arith, a, forest.regions.lists_made)

  o_made : o < length f.in_ops.lists
  o_made = let a : o < length f.ops = used_below f.ops o used_o in omega (arith, a, forest.regions.lists_made)

  at_x : list_at l.lists x ≡ list_at f.in_ops.lists x ++ list_at f.in_ops.lists o
  at_x = rw moved (get_or-set_other (set f.in_ops.lists x (list_at f.in_ops.lists x ++ list_at f.in_ops.lists o)) o x [] [] differ ∙ get_or-set_same f.in_ops.lists x (list_at f.in_ops.lists x ++ list_at f.in_ops.lists o) [] x_made)

  pub hoisted_bare : list_at l.lists o ≡ []
  hoisted_bare = rw moved (get_or-set_same (set f.in_ops.lists x (list_at f.in_ops.lists x ++ list_at f.in_ops.lists o)) o [] [] (rw length-set o_made))

  at_other : (d : ℕ) → d ≢ x → d ≢ o → list_at l.lists d ≡ list_at f.in_ops.lists d
  at_other d nx no_o = rw moved (get_or-set_other (set f.in_ops.lists x (list_at f.in_ops.lists x ++ list_at f.in_ops.lists o)) o d [] [] no_o ∙ get_or-set_other f.in_ops.lists x d (list_at f.in_ops.lists x ++ list_at f.in_ops.lists o) [] nx)

  in_now : (i c : ℕ) → has i (list_at l.lists c) ≡ true → ((c ≡ x) × (has i (list_at f.in_ops.lists o) ≡ true)) ⊎ (has i (list_at f.in_ops.lists c) ≡ true)
  in_now i c h = ⊎_elim
      (λ (e : c ≡ x). ⊎_elim (λ a. inr (rw e a)) (λ a. inl (e, a)) (or_cases (has i (list_at f.in_ops.lists x)) (has i (list_at f.in_ops.lists o)) (sym (has-append i (list_at f.in_ops.lists x) (list_at f.in_ops.lists o)) ∙ rw (e, at_x) at h)))
      (λ nx. ⊎_elim (λ (e : c ≡ o). absurd (none_here (list_at l.lists c) i (rw e hoisted_bare) h)) (λ nn. inr (rw (at_other c nx nn) at h)) (cases_eq c o))
      (cases_eq c x)

  edges_now : (e d : Place) → IsIn (shape_of (record f { in_ops = l })) e d → ((d ≡ Op x) × IsInside (shape_of f) (Op x) e) ⊎ IsIn (shape_of f) e d
  edges_now (Op i) (Block c) h = inr h
  edges_now (Block i) (Region c) h = inr h
  edges_now (Region i) (Op c) h = ⊎_elim (λ n. inl (ap Op n.0, deeper (Region i) (Op o) n.1 inside)) (λ k. inr k) (in_now i c h)
  edges_now (Op i) (Op c) h = absurd h
  edges_now (Op i) (Region c) h = absurd h
  edges_now (Block i) (Op c) h = absurd h
  edges_now (Block i) (Block c) h = absurd h
  edges_now (Region i) (Block c) h = absurd h
  edges_now (Region i) (Region c) h = absurd h

  edges_still : (e d : Place) → IsIn (shape_of f) e d → IsIn (shape_of (record f { in_ops = l })) e d ⊎ IsIn (shape_of (record f { in_ops = l })) e (Op x)
  edges_still (Op i) (Block c) h = inl h
  edges_still (Block i) (Region c) h = inl h
  edges_still (Region i) (Op c) h = ⊎_elim
      (λ (e : c ≡ o). inr (rw (at_x, has-append) (or_right (has i (list_at f.in_ops.lists x)) (has i (list_at f.in_ops.lists o)) (rw e at h))))
      (λ nn. ⊎_elim
      (λ (e : c ≡ x). inr (rw (at_x, has-append) (or_left (has i (list_at f.in_ops.lists x)) (has i (list_at f.in_ops.lists o)) (rw e at h))))
      (λ nx. inl (rw (at_other c nx nn) h))
      (cases_eq c x))
      (cases_eq c o)
  edges_still (Op i) (Op c) h = absurd h
  edges_still (Op i) (Region c) h = absurd h
  edges_still (Block i) (Op c) h = absurd h
  edges_still (Block i) (Block c) h = absurd h
  edges_still (Region i) (Block c) h = absurd h
  edges_still (Region i) (Region c) h = absurd h

  pub hoisted_forest : IsForest (record f { in_ops = l })
  hoisted_forest = record {
    ops = forest.ops;
    blocks = forest.blocks;
    regions = record {
      nodes = rw nodes forest.regions.nodes;
      lists_made = rw (moved, length-set, length-set) forest.regions.lists_made;
      members = λ c i h. ⊎_elim (λ n. forest.regions.members o i n.1) (λ k. forest.regions.members c i k) (in_now i c h);
      holders = λ c i h. ⊎_elim (λ n. rw n.0 used) (λ k. forest.regions.holders c i k) (in_now i c h);
    };
    grounded = λ e. grounded_root (shape_of f) (shape_of (record f { in_ops = l })) (Op x) top_now (λ e d i. ⊎_elim (λ n. inl n.0) (λ k. inr k) (edges_now e d i)) e (forest.grounded e);
  } where
    top_now : (d : Place) → IsIn (shape_of (record f { in_ops = l })) (Op x) d → ⊥
    top_now (Op c) h = h
    top_now (Region c) h = h
    top_now (Block c) h = both_ways (has x (list_at f.in_blocks.lists c)) (root c) h

  pub hoisted_pruned : IsPruned f (record f { in_ops = l }) (Op x)
  hoisted_pruned = record {
    ops = only_none f.ops;
    blocks = only_none f.blocks;
    regions = only_none f.regions;
    slots = λ e out. slot_now e;
    lists = list_now;
    stay = λ e u w. stays (shape_of f) (shape_of (record f { in_ops = l })) (Op x) edges_still e w;
    come = λ e w. comes (shape_of f) (shape_of (record f { in_ops = l })) (Op x) edges_now e w;
    top = refl;
    root = λ h. h;
  } where
    slot_now : (e : Place) → KeepsSlot f (record f { in_ops = l }) e
    slot_now (Op i) = refl
    slot_now (Block i) = refl
    slot_now (Region i) = refl

    list_now : (e : Place) → (IsInside (shape_of f) (Op x) e → ⊥) → KeepsList f (record f { in_ops = l }) e
    list_now (Op i) out = at_other i (λ e. out (rw e itself)) (λ e. out (rw e inside))
    list_now (Block i) out = refl
    list_now (Region i) out = refl

pub first_none : (xs : List ℕ) → None ≡ first_or None xs → xs ≡ []
first_none [] h = refl
first_none (x ∷ xs) h = cc

-- the first of a list holds a list of its own
pub child_made : {T C D : Type 0} (slots : List (Slot T)) (containers : List (Slot C)) (l : ListsView) (under : List (Slot D)) (low : ListsView) → AreMembers slots containers l → AreMembers under slots low → (x r : ℕ) → Some r ≡ first_or None (list_at l.lists x) → r < length low.lists
child_made slots containers l under low are lower x r f =
    let a : r < length slots = used_below slots r (are.members x r (first_has r (list_at l.lists x) f)) in
    omega (arith, a, lower.lists_made)

pub op_freed_seen : {O B R : Type 0} (f v : Forest O B R) → f ≡ v → (g : ℕ) (slots : List (Slot O)) (q : Key) → q.slot ≡ g → IsSome (get f.ops q) → ClearsSlot f.ops slots q.slot → HoldsNothing v (Op g) → KeepsSpent f.ops slots → IsSpent slots q → ErasesInside v (record f { ops = slots }) (Op g)
op_freed_seen f v seen g slots q qs live clears_q bare_v spent now_q =
    let clears : ClearsSlot f.ops slots g = subst (λ (k : ℕ). ClearsSlot f.ops slots k) qs clears_q in
    let bare : HoldsNothing f (Op g) = subst (λ (w : Forest _ _ _). HoldsNothing w (Op g)) (sym seen) bare_v in
    let is : q ≡ pointer_to f.ops g = sym (pointer_is f.ops q live) ∙ ap (pointer_to f.ops) qs in
    let now : IsSpent slots (pointer_to f.ops g) = subst (λ (k : Key). IsSpent slots k) is now_q in
    subst (λ (w : Forest _ _ _). ErasesInside w (record f { ops = slots }) (Op g)) seen (op_freed f g slots clears bare spent now)

pub block_freed_seen : {O B R : Type 0} (f v : Forest O B R) → f ≡ v → (g : ℕ) (slots : List (Slot B)) (q : Key) → q.slot ≡ g → IsSome (get f.blocks q) → ClearsSlot f.blocks slots q.slot → HoldsNothing v (Block g) → KeepsSpent f.blocks slots → IsSpent slots q → ErasesInside v (record f { blocks = slots }) (Block g)
block_freed_seen f v seen g slots q qs live clears_q bare_v spent now_q =
    let clears : ClearsSlot f.blocks slots g = subst (λ (k : ℕ). ClearsSlot f.blocks slots k) qs clears_q in
    let bare : HoldsNothing f (Block g) = subst (λ (w : Forest _ _ _). HoldsNothing w (Block g)) (sym seen) bare_v in
    let is : q ≡ pointer_to f.blocks g = sym (pointer_is f.blocks q live) ∙ ap (pointer_to f.blocks) qs in
    let now : IsSpent slots (pointer_to f.blocks g) = subst (λ (k : Key). IsSpent slots k) is now_q in
    subst (λ (w : Forest _ _ _). ErasesInside w (record f { blocks = slots }) (Block g)) seen (block_freed f g slots clears bare spent now)

pub region_freed_seen : {O B R : Type 0} (f v : Forest O B R) → f ≡ v → (g : ℕ) (slots : List (Slot R)) (q : Key) → q.slot ≡ g → IsSome (get f.regions q) → ClearsSlot f.regions slots q.slot → HoldsNothing v (Region g) → KeepsSpent f.regions slots → IsSpent slots q → ErasesInside v (record f { regions = slots }) (Region g)
region_freed_seen f v seen g slots q qs live clears_q bare_v spent now_q =
    let clears : ClearsSlot f.regions slots g = subst (λ (k : ℕ). ClearsSlot f.regions slots k) qs clears_q in
    let bare : HoldsNothing f (Region g) = subst (λ (w : Forest _ _ _). HoldsNothing w (Region g)) (sym seen) bare_v in
    let is : q ≡ pointer_to f.regions g = sym (pointer_is f.regions q live) ∙ ap (pointer_to f.regions) qs in
    let now : IsSpent slots (pointer_to f.regions g) = subst (λ (k : Key). IsSpent slots k) is now_q in
    subst (λ (w : Forest _ _ _). ErasesInside w (record f { regions = slots }) (Region g)) seen (region_freed f g slots clears bare spent now)

pub hoisted_seen : {O B R : Type 0} (f v : Forest O B R) → f ≡ v → IsForest f → (x o : ℕ) (l : ListsView) → l.nodes ≡ f.in_ops.nodes → l.lists ≡ set (set f.in_ops.lists x (list_at f.in_ops.lists x ++ list_at f.in_ops.lists o)) o []
    → StandsNowhere v (Op x) → IsInside (shape_of v) (Op x) (Op o) → x ≢ o → IsSome (held v.ops x) → IsSome (held v.ops o)
    → IsForest (record f { in_ops = l }) × IsPruned v (record f { in_ops = l }) (Op x) × (list_at l.lists o ≡ [])
hoisted_seen f v seen forest x o l nodes moved root_v inside_v differ used_v used_ov =
    let root : StandsNowhere f (Op x) = subst (λ (w : Forest _ _ _). StandsNowhere w (Op x)) (sym seen) root_v in
    let inside : IsInside (shape_of f) (Op x) (Op o) = subst (λ (w : Forest _ _ _). IsInside (shape_of w) (Op x) (Op o)) (sym seen) inside_v in
    let used : IsSome (held f.ops x) = subst (λ (w : Forest _ _ _). IsSome (held w.ops x)) (sym seen) used_v in
    let used_o : IsSome (held f.ops o) = subst (λ (w : Forest _ _ _). IsSome (held w.ops o)) (sym seen) used_ov in (
      hoisted_forest f forest x o l nodes moved root inside differ used used_o,
      subst (λ (w : Forest _ _ _). IsPruned w (record f { in_ops = l }) (Op x)) seen (hoisted_pruned f forest x o l nodes moved root inside differ used used_o),
      hoisted_bare f forest x o l nodes moved root inside differ used used_o,
    )

pub first_inside : {O B R : Type 0} (f : Forest O B R) → IsForest f → (x : ℕ) (e : Place) → IsFirstInner f x e → IsInside (shape_of f) (Op x) e × (e ≢ Op x)
first_inside f forest x (Region r) h = (deeper (Region r) (Op x) (first_has r (list_at f.in_ops.lists x) h.0) itself, λ e. cc)
first_inside f forest x (Block b) h =
    let at_r : IsInside (shape_of f) (Op x) (Region h.0) = deeper (Region h.0) (Op x) (first_has h.0 (list_at f.in_ops.lists x) h.1) itself in
    (deeper (Block b) (Region h.0) (first_has b (list_at f.in_regions.lists h.0) h.2) at_r, λ e. cc)
first_inside f forest x (Op o) h =
    let at_r : IsInside (shape_of f) (Op x) (Region h.0) = deeper (Region h.0) (Op x) (first_has h.0 (list_at f.in_ops.lists x) h.2) itself in
    let at_b : IsInside (shape_of f) (Op x) (Block h.1) = deeper (Block h.1) (Region h.0) (first_has h.1 (list_at f.in_regions.lists h.0) h.3) at_r in
    let here : IsIn (shape_of f) (Op o) (Block h.1) = first_has o (list_at f.in_blocks.lists h.1) h.4 in
    (deeper (Op o) (Block h.1) here at_b, λ (e : Op o ≡ Op x). no_cycle (shape_of f) (Op o) (forest.grounded (Op o)) (Block h.1) here (subst (λ (k : Place). IsInside (shape_of f) k (Block h.1)) (sym e) at_b))

pub first_seen : {O B R : Type 0} (f v : Forest O B R) → f ≡ v → IsForest f → (x : ℕ) (e : Place) → IsFirstInner f x e → IsInside (shape_of v) (Op x) e × (e ≢ Op x)
first_seen f v seen forest x e h = subst (λ (w : Forest _ _ _). IsInside (shape_of w) (Op x) e × (e ≢ Op x)) seen (first_inside f forest x e h)

pub op_live : {O B R : Type 0} (old mid new : Forest O B R) (g : ℕ) → live_in mid ≡ live_in old → ClearsSlot mid.ops new.ops g → new ≡ record mid { ops = new.ops } → live_in new < live_in old
op_live old mid new g same clears rest =
    let less : live new.ops < live mid.ops = live_cleared mid.ops new.ops g clears in
    let sum : live_in new ≡ live_in (record mid { ops = new.ops }) = ap live_in rest in
    omega (arith, less, sum, same)

pub block_live : {O B R : Type 0} (old mid new : Forest O B R) (g : ℕ) → live_in mid ≡ live_in old → ClearsSlot mid.blocks new.blocks g → new ≡ record mid { blocks = new.blocks } → live_in new < live_in old
block_live old mid new g same clears rest =
    let less : live new.blocks < live mid.blocks = live_cleared mid.blocks new.blocks g clears in
    let sum : live_in new ≡ live_in (record mid { blocks = new.blocks }) = ap live_in rest in
    omega (arith, less, sum, same)

pub region_live : {O B R : Type 0} (old mid new : Forest O B R) (g : ℕ) → live_in mid ≡ live_in old → ClearsSlot mid.regions new.regions g → new ≡ record mid { regions = new.regions } → live_in new < live_in old
region_live old mid new g same clears rest =
    let less : live new.regions < live mid.regions = live_cleared mid.regions new.regions g clears in
    let sum : live_in new ≡ live_in (record mid { regions = new.regions }) = ap live_in rest in
    omega (arith, less, sum, same)
