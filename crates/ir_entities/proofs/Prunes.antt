-- How takings-out compose.
use Rattle.std.proofs.Common.{◌≡◌, ℕ, inl, inr, ⊎_elim, true, false, List, [], IsSome, refl, sym, ap, subst, ◌∙◌, map}
use Rattle.std.proofs.lemmas.Bool.{cases_eq, both_ways, false_from_ne_true}
use Rattle.ir_entities.specs.Links.{has, list_at}
use Rattle.ir_arena.specs.declared.arena.Slot.{Slot}
use Rattle.ir_arena.specs.declared.arena.Key.{Key}
use Rattle.ir_arena.specs.Arena.{held, get, value_at, slot_at, ClearsSlot, IsSpent, KeepsSpent}
use Rattle.ir_entities.specs.declared.forest.Place.{Place}
use Rattle.ir_entities.specs.declared.forest.Place.TheVariants.{Op, Block, Region}
use Rattle.ir_entities.specs.Shape.{Shape, IsIn, IsInside, itself, deeper}
use Rattle.ir_entities.specs.Forest.{Forest, IsForest, HoldsInUse, shape_of, pointer_to, ops_in, blocks_in, regions_in}
use Rattle.ir_entities.specs.Walk.{StandInOne}
use Rattle.ir_entities.specs.Prune.{live_in, OnlyErases, RefusesAll, StandsNowhere, HoldsNothing, KeepsSlot, KeepsList, IsDetached, IsPruned, ErasesInside}
use Rattle.ir_entities.proofs.Trees.{none_is_not_some, pointer_is, held_is, inside_less, pointers_kept}
use Rattle.ir_entities.proofs.Climb.{inside_trans, no_cycle}

pub only_none : {T : Type 0} (slots : List (Slot T)) → OnlyErases slots slots
only_none slots = record { spent = λ q h. h; gone = λ p h. inl h; used = λ i h. h }

pub only_both : {T : Type 0} (old mid new : List (Slot T)) → OnlyErases old mid → OnlyErases mid new → OnlyErases old new
only_both old mid new p q = record {
  spent = λ k h. q.spent k (p.spent k h);
  gone = λ k h. ⊎_elim (λ l. q.gone k l) (λ s. inr (q.spent k s)) (p.gone k h);
  used = λ i h. p.used i (q.used i h);
}

pub only_one : {T : Type 0} (old new : List (Slot T)) (g : ℕ) → ClearsSlot old new g → KeepsSpent old new → IsSpent new (pointer_to old g) → OnlyErases old new
only_one {T} old new g clears spent now = record {
  spent = spent;
  gone = λ p h. ⊎_elim
      (λ (e : p.slot ≡ g).
      let is : p ≡ pointer_to old g = sym (pointer_is old p h) ∙ ap (pointer_to old) e in
      inr (subst (λ (k : Key). IsSpent new k) (sym is) now))
      (λ ne. inl (let e : get new p ≡ get old p = ap (λ (k : Slot T). value_at k p.version) (clears.others p.slot ne) in rw e h))
      (cases_eq p.slot g);
  used = λ i h. ⊎_elim
      (λ (e : i ≡ g). absurd (none_is_not_some (held new i) (rw e clears.cleared) h))
      (λ ne. let e : held new i ≡ held old i = ap (λ (k : Slot T). k.value) (clears.others i ne) in rw (← e) h)
      (cases_eq i g);
}

-- a key to what is not in use now is refused
pub refused_all : {T : Type 0} (old new : List (Slot T)) (In : ℕ → Type 0) → OnlyErases old new → ((i : ℕ) → In i → IsSome (held new i) → ⊥) → RefusesAll old new In
refused_all old new In only vacant p live inside = ⊎_elim (λ l. absurd (vacant p.slot inside (held_is new p l))) (λ s. s) (only.gone p live)

none_here : (xs : List ℕ) (i : ℕ) → xs ≡ [] → has i xs ≡ true → ⊥
none_here xs i e h = both_ways false refl (rw e at h)

module _ {O B R : Type 0} where
  pub slot_same : (f : Forest O B R) (e : Place) → KeepsSlot f f e
  slot_same f (Op i) = refl
  slot_same f (Block i) = refl
  slot_same f (Region i) = refl

  pub list_same : (f : Forest O B R) (e : Place) → KeepsList f f e
  list_same f (Op i) = refl
  list_same f (Block i) = refl
  list_same f (Region i) = refl

  pub slot_both : (old mid new : Forest O B R) (e : Place) → KeepsSlot old mid e → KeepsSlot mid new e → KeepsSlot old new e
  slot_both old mid new (Op i) a b = b ∙ a
  slot_both old mid new (Block i) a b = b ∙ a
  slot_both old mid new (Region i) a b = b ∙ a

  pub list_both : (old mid new : Forest O B R) (e : Place) → KeepsList old mid e → KeepsList mid new e → KeepsList old new e
  list_both old mid new (Op i) a b = b ∙ a
  list_both old mid new (Block i) a b = b ∙ a
  list_both old mid new (Region i) a b = b ∙ a

  pub used_kept : (old new : Forest O B R) (e : Place) → KeepsSlot old new e → HoldsInUse old e → HoldsInUse new e
  used_kept old new (Op i) k u = subst (λ (s : Slot O). IsSome s.value) (sym k) u
  used_kept old new (Block i) k u = subst (λ (s : Slot B). IsSome s.value) (sym k) u
  used_kept old new (Region i) k u = subst (λ (s : Slot R). IsSome s.value) (sym k) u

  pub used_before : (old new : Forest O B R) (e : Place) → OnlyErases old.ops new.ops → OnlyErases old.blocks new.blocks → OnlyErases old.regions new.regions → HoldsInUse new e → HoldsInUse old e
  used_before old new (Op i) a b c u = a.used i u
  used_before old new (Block i) a b c u = b.used i u
  used_before old new (Region i) a b c u = c.used i u

  pub in_kept : (old new : Forest O B R) (e d : Place) → KeepsList old new d → IsIn (shape_of old) e d → IsIn (shape_of new) e d
  in_kept old new (Op i) (Block c) k h = subst (λ (xs : List ℕ). has i xs ≡ true) (sym k) h
  in_kept old new (Block i) (Region c) k h = subst (λ (xs : List ℕ). has i xs ≡ true) (sym k) h
  in_kept old new (Region i) (Op c) k h = subst (λ (xs : List ℕ). has i xs ≡ true) (sym k) h
  in_kept old new (Op i) (Op c) k h = absurd h
  in_kept old new (Op i) (Region c) k h = absurd h
  in_kept old new (Block i) (Op c) k h = absurd h
  in_kept old new (Block i) (Block c) k h = absurd h
  in_kept old new (Region i) (Block c) k h = absurd h
  in_kept old new (Region i) (Region c) k h = absurd h

  pub list_back : (old new : Forest O B R) (e : Place) → KeepsList old new e → KeepsList new old e
  list_back old new (Op i) k = sym k
  list_back old new (Block i) k = sym k
  list_back old new (Region i) k = sym k

  -- what holds something is in use
  pub holder_used : (f : Forest O B R) → IsForest f → (e d : Place) → IsIn (shape_of f) e d → HoldsInUse f d
  holder_used f forest (Op i) (Block c) h = forest.ops.holders c i h
  holder_used f forest (Block i) (Region c) h = forest.blocks.holders c i h
  holder_used f forest (Region i) (Op c) h = forest.regions.holders c i h
  holder_used f forest (Op i) (Op c) h = absurd h
  holder_used f forest (Op i) (Region c) h = absurd h
  holder_used f forest (Block i) (Op c) h = absurd h
  holder_used f forest (Block i) (Block c) h = absurd h
  holder_used f forest (Region i) (Block c) h = absurd h
  holder_used f forest (Region i) (Region c) h = absurd h

  -- what stands in something is in use
  pub member_used : (f : Forest O B R) → IsForest f → (e d : Place) → IsIn (shape_of f) e d → HoldsInUse f e
  member_used f forest (Op i) (Block c) h = forest.ops.members c i h
  member_used f forest (Block i) (Region c) h = forest.blocks.members c i h
  member_used f forest (Region i) (Op c) h = forest.regions.members c i h
  member_used f forest (Op i) (Op c) h = absurd h
  member_used f forest (Op i) (Region c) h = absurd h
  member_used f forest (Block i) (Op c) h = absurd h
  member_used f forest (Block i) (Block c) h = absurd h
  member_used f forest (Region i) (Block c) h = absurd h
  member_used f forest (Region i) (Region c) h = absurd h

  pub nowhere_less : (old new : Forest O B R) → ((e d : Place) → IsIn (shape_of new) e d → IsIn (shape_of old) e d) → (x : Place) → StandsNowhere old x → StandsNowhere new x
  nowhere_less old new less (Op i) out = λ c. false_from_ne_true (has i (list_at new.in_blocks.lists c)) (λ h. both_ways (has i (list_at old.in_blocks.lists c)) (out c) (less (Op i) (Block c) h))
  nowhere_less old new less (Block i) out = λ c. false_from_ne_true (has i (list_at new.in_regions.lists c)) (λ h. both_ways (has i (list_at old.in_regions.lists c)) (out c) (less (Block i) (Region c) h))
  nowhere_less old new less (Region i) out = λ c. false_from_ne_true (has i (list_at new.in_ops.lists c)) (λ h. both_ways (has i (list_at old.in_ops.lists c)) (out c) (less (Region i) (Op c) h))

  -- what stands nowhere stands in nothing
  pub nowhere_in : (f : Forest O B R) (x d : Place) → StandsNowhere f x → IsIn (shape_of f) x d → ⊥
  nowhere_in f (Op i) (Block c) out h = both_ways (has i (list_at f.in_blocks.lists c)) (out c) h
  nowhere_in f (Block i) (Region c) out h = both_ways (has i (list_at f.in_regions.lists c)) (out c) h
  nowhere_in f (Region i) (Op c) out h = both_ways (has i (list_at f.in_ops.lists c)) (out c) h
  nowhere_in f (Op i) (Op c) out h = h
  nowhere_in f (Op i) (Region c) out h = h
  nowhere_in f (Block i) (Op c) out h = h
  nowhere_in f (Block i) (Block c) out h = h
  nowhere_in f (Region i) (Block c) out h = h
  nowhere_in f (Region i) (Region c) out h = h

  -- nothing stands in what is bare
  pub bare_in : (f : Forest O B R) (e x : Place) → HoldsNothing f x → IsIn (shape_of f) e x → ⊥
  bare_in f (Op i) (Block c) bare h = none_here (list_at f.in_blocks.lists c) i bare h
  bare_in f (Block i) (Region c) bare h = none_here (list_at f.in_regions.lists c) i bare h
  bare_in f (Region i) (Op c) bare h = none_here (list_at f.in_ops.lists c) i bare h
  bare_in f (Op i) (Op c) bare h = h
  bare_in f (Op i) (Region c) bare h = h
  bare_in f (Block i) (Op c) bare h = h
  bare_in f (Block i) (Block c) bare h = h
  bare_in f (Region i) (Block c) bare h = h
  bare_in f (Region i) (Region c) bare h = h

  -- only x is inside what is bare
  pub inside_bare : (f : Forest O B R) (x : Place) → HoldsNothing f x → (e : Place) → IsInside (shape_of f) x e → e ≡ x
  inside_bare f x bare _ itself = refl
  inside_bare f x bare _ (deeper e d i w) = absurd (bare_in f e x bare (subst (λ (k : Place). IsIn (shape_of f) e k) (inside_bare f x bare d w) i))

  pub pruned_none : (f : Forest O B R) (x : Place) → IsPruned f f x
  pruned_none f x = record {
    ops = only_none f.ops;
    blocks = only_none f.blocks;
    regions = only_none f.regions;
    slots = λ e out. slot_same f e;
    lists = λ e out. list_same f e;
    stay = λ e u w. w;
    come = λ e w. w;
    top = slot_same f x;
    root = λ h. h;
  }

  pub pruned_both : (old mid new : Forest O B R) (x : Place) → IsPruned old mid x → IsPruned mid new x → IsPruned old new x
  pruned_both old mid new x p q = record {
    ops = only_both old.ops mid.ops new.ops p.ops q.ops;
    blocks = only_both old.blocks mid.blocks new.blocks p.blocks q.blocks;
    regions = only_both old.regions mid.regions new.regions p.regions q.regions;
    slots = λ e out. slot_both old mid new e (p.slots e out) (q.slots e (λ w. out (p.come e w)));
    lists = λ e out. list_both old mid new e (p.lists e out) (q.lists e (λ w. out (p.come e w)));
    stay = λ e u w. q.stay e u (p.stay e (used_before mid new e q.ops q.blocks q.regions u) w);
    come = λ e w. p.come e (q.come e w);
    top = slot_both old mid new x p.top q.top;
    root = λ h. q.root (p.root h);
  }

  -- what was left of x is gone too
  pub erased_last : (old mid new : Forest O B R) (x : Place) → IsPruned old mid x → ErasesInside mid new x → ErasesInside old new x
  erased_last old mid new x p q =
      let ops : OnlyErases old.ops new.ops = only_both old.ops mid.ops new.ops p.ops q.ops in
      let blocks : OnlyErases old.blocks new.blocks = only_both old.blocks mid.blocks new.blocks p.blocks q.blocks in
      let regions : OnlyErases old.regions new.regions = only_both old.regions mid.regions new.regions p.regions q.regions in record {
        ops = ops;
        blocks = blocks;
        regions = regions;
        vacant = vacant;
        refused_ops = refused_all old.ops new.ops _ ops (λ i w u. vacant (Op i) w u);
        refused_blocks = refused_all old.blocks new.blocks _ blocks (λ i w u. vacant (Block i) w u);
        refused_regions = refused_all old.regions new.regions _ regions (λ i w u. vacant (Region i) w u);
        slots = λ e out. slot_both old mid new e (p.slots e out) (q.slots e (λ w. out (p.come e w)));
        lists = λ e out. list_both old mid new e (p.lists e out) (q.lists e (λ w. out (p.come e w)));
      } where
        vacant : (e : Place) → IsInside (shape_of old) x e → HoldsInUse new e → ⊥
        vacant e w u = q.vacant e (p.stay e (used_before mid new e q.ops q.blocks q.regions u) w) u

-- what is inside x and isn't x is in use
pub member_in : {O B R : Type 0} (f : Forest O B R) → IsForest f → (x e : Place) → IsInside (shape_of f) x e → (x ≡ e → ⊥) → HoldsInUse f e
member_in f forest x _ itself ne = absurd (ne refl)
member_in f forest x _ (deeper e d i w) ne = member_used f forest e d i

-- what holds e, where e is inside x and isn't x
pub record IsHeld (s : Shape) (x e : Place) : Type 0 where
  pub at : Place
  pub here : IsIn s e at
  pub inside : IsInside s x at

pub held_inside : (s : Shape) (x e : Place) → IsInside s x e → (x ≡ e → ⊥) → IsHeld s x e
held_inside s x _ itself ne = absurd (ne refl)
held_inside s x _ (deeper e d i w) ne = record { at = d; here = i; inside = w }

module _ {O B R : Type 0} (old mid new : Forest O B R) (forest : IsForest old) (after : IsForest new) (g x : Place) (cut : IsDetached old mid g) (erased : ErasesInside mid new g)
    (inside : IsInside (shape_of old) x g) (differ : x ≡ g → ⊥) where
  holder : IsHeld (shape_of old) x g
  holder = held_inside (shape_of old) x g inside differ

  was_inside : (e : Place) → IsInside (shape_of mid) g e → IsInside (shape_of old) x e
  was_inside e w = inside_trans (shape_of old) x g e inside (inside_less (shape_of old) (shape_of mid) cut.less g e w)

  slot_mid : (e : Place) → KeepsSlot old mid e
  slot_mid (Op i) = ap (λ (ss : List (Slot O)). slot_at ss i) cut.ops
  slot_mid (Block i) = ap (λ (ss : List (Slot B)). slot_at ss i) cut.blocks
  slot_mid (Region i) = ap (λ (ss : List (Slot R)). slot_at ss i) cut.regions

  slots_now : (e : Place) → (IsInside (shape_of mid) g e → ⊥) → KeepsSlot old new e
  slots_now e out = slot_both old mid new e (slot_mid e) (erased.slots e out)

  -- what stands in something now stood in it
  edges_were : (e d : Place) → IsIn (shape_of new) e d → IsIn (shape_of old) e d
  edges_were e d i =
      let out : IsInside (shape_of mid) g d → ⊥ = λ w. erased.vacant d w (holder_used new after e d i) in
      cut.less e d (in_kept new mid e d (list_back mid new d (erased.lists d out)) i)

  left : (e : Place) → HoldsInUse new e → IsInside (shape_of old) x e → IsInside (shape_of new) x e
  left _ u itself = itself
  left _ u (deeper e d i w) =
      let not_g : e ≡ g → ⊥ = λ same. erased.vacant e (subst (λ (k : Place). IsInside (shape_of mid) g k) (sym same) itself) u in
      let still : IsIn (shape_of mid) e d = cut.rest e d i not_g in
      let out : IsInside (shape_of mid) g d → ⊥ = λ v. erased.vacant e (deeper e d still v) u in
      let used : HoldsInUse new d = used_kept old new d (slots_now d out) (holder_used old forest e d i) in
      deeper e d (in_kept mid new e d (erased.lists d out) still) (left d used w)

  top_out : IsInside (shape_of mid) g x → ⊥
  top_out w = no_cycle (shape_of old) g (forest.grounded g) holder.at holder.here (inside_trans (shape_of old) g x holder.at (inside_less (shape_of old) (shape_of mid) cut.less g x w) holder.inside)

  -- g was cut off, and erased with all inside it: so x, in which it was, is pruned
  pub branch_gone : IsPruned old new x
  branch_gone = record {
    ops = subst (λ (ss : List (Slot O)). OnlyErases ss new.ops) cut.ops erased.ops;
    blocks = subst (λ (ss : List (Slot B)). OnlyErases ss new.blocks) cut.blocks erased.blocks;
    regions = subst (λ (ss : List (Slot R)). OnlyErases ss new.regions) cut.regions erased.regions;
    slots = λ e out. slots_now e (λ w. out (was_inside e w));
    lists = λ e out. list_both old mid new e
        (cut.lists holder.at holder.here e (λ same. out (subst (λ (k : Place). IsInside (shape_of old) x k) (sym same) holder.inside)))
        (erased.lists e (λ w. out (was_inside e w)));
    stay = left;
    come = λ e w. inside_less (shape_of old) (shape_of new) edges_were x e w;
    top = slots_now x top_out;
    root = λ h. nowhere_less old new edges_were x h;
  }

-- cutting off leaves as much in use as there was
pub cut_live : {O B R : Type 0} (old mid : Forest O B R) (g : Place) → IsDetached old mid g → live_in mid ≡ live_in old
cut_live old mid g cut = rw (cut.ops, cut.blocks, cut.regions) refl

-- what stands in a place outside x is outside x, where x stands nowhere
pub outside_in : {O B R : Type 0} (f : Forest O B R) → StandInOne (shape_of f) → (x : Place) → StandsNowhere f x → (e c : Place) → IsIn (shape_of f) e c → (IsInside (shape_of f) x c → ⊥) → IsInside (shape_of f) x e → ⊥
outside_in f one x root _ c i out itself = nowhere_in f x c root i
outside_in f one x root _ c i out (deeper e d j w) = out (subst (λ (k : Place). IsInside (shape_of f) x k) (one e d c j i) w)

-- what a place outside x holds, as keys, is as it was
module _ {O B R : Type 0} (old new : Forest O B R) (one : StandInOne (shape_of old)) (x : Place) (root : StandsNowhere old x) (erased : ErasesInside old new x) where
  pub ops_outside : (b : Key) → (IsInside (shape_of old) x (Block b.slot) → ⊥) → ops_in new b ≡ ops_in old b
  ops_outside b out = ap (map (pointer_to new.ops)) (erased.lists (Block b.slot) out)
      ∙ pointers_kept old.ops new.ops (list_at old.in_blocks.lists b.slot) (λ i h. erased.slots (Op i) (outside_in old one x root (Op i) (Block b.slot) h out))

  pub blocks_outside : (r : Key) → (IsInside (shape_of old) x (Region r.slot) → ⊥) → blocks_in new r ≡ blocks_in old r
  blocks_outside r out = ap (map (pointer_to new.blocks)) (erased.lists (Region r.slot) out)
      ∙ pointers_kept old.blocks new.blocks (list_at old.in_regions.lists r.slot) (λ i h. erased.slots (Block i) (outside_in old one x root (Block i) (Region r.slot) h out))

  pub regions_outside : (p : Key) → (IsInside (shape_of old) x (Op p.slot) → ⊥) → regions_in new p ≡ regions_in old p
  regions_outside p out = ap (map (pointer_to new.regions)) (erased.lists (Op p.slot) out)
      ∙ pointers_kept old.regions new.regions (list_at old.in_ops.lists p.slot) (λ i h. erased.slots (Region i) (outside_in old one x root (Region i) (Op p.slot) h out))
