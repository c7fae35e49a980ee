-- What is made stands nowhere and holds nothing.
use Rattle.std.proofs.Common.{◌≡◌, ℕ, ◌≤◌, true, false, eqb, List, [], ◌∷◌, length, IsSome, Result, Ok, Err, IfOk, refl, sym, ap, subst, ◌∙◌}
use Rattle.std.proofs.lemmas.Bool.{eq-eqb, or_left, both_ways}
use Rattle.ir_entities.specs.Lists.{ListsView}
use Rattle.ir_entities.specs.Links.{has, list_at}
use Rattle.ir_arena.specs.declared.arena.Slot.{Slot}
use Rattle.ir_arena.specs.declared.arena.Key.{Key}
use Rattle.ir_arena.specs.Arena.{held, SetsSlot, ClearsSlot}
use Rattle.ir_entities.specs.Forest.{Forest, AreMembers, IsForest, shape_of}
use Rattle.ir_entities.proofs.Trees.{none_is_not_some, grounded_out, less_by_levels}

no_members : (xs : List ℕ) → ((i : ℕ) → has i xs ≡ true → ⊥) → xs ≡ []
no_members [] none = refl
no_members (x ∷ xs) none = absurd (none x (or_left (eqb x x) (has x xs) (eq-eqb x x refl)))

-- a vacant slot holds nothing
pub made_bare : {T C E : Type 0} (r : Result Key E) (old new : List (Slot C)) (slots : List (Slot T)) (l m : ListsView) (value : C) → AreMembers slots old l → ((c : ℕ) → list_at m.lists c ≡ list_at l.lists c) → IfOk r (λ p. SetsSlot old new p.slot value)
    → IfOk r (λ p. list_at m.lists p.slot ≡ [])
made_bare (Ok p) old new slots l m value are is sets = is p.slot ∙ no_members (list_at l.lists p.slot) (λ i h. none_is_not_some (held old p.slot) sets.vacant (are.holders p.slot i h))
made_bare (Err e) old new slots l m value are is sets = sets

-- more slots, nodes and lists, and nothing new stands anywhere
pub ops_grown : {O B R : Type 0} (f : Forest O B R) (slots : List (Slot O)) (l h : ListsView) → IsForest f → l.lists ≡ f.in_blocks.lists → length slots ≤ l.nodes
    → ((c : ℕ) → list_at h.lists c ≡ list_at f.in_ops.lists c) → length slots ≤ length h.lists → h.nodes ≡ f.in_ops.nodes → ((i : ℕ) → IsSome (held f.ops i) → IsSome (held slots i))
    → IsForest (record f { ops = slots; in_blocks = l; in_ops = h })
ops_grown f slots l h forest is nodes same made same_nodes kept = record {
  ops = record {
    nodes = nodes;
    lists_made = rw is forest.ops.lists_made;
    members = λ c i k. kept i (forest.ops.members c i (rw is at k));
    holders = λ c i k. forest.ops.holders c i (rw is at k);
  };
  regions = record {
    nodes = rw same_nodes forest.regions.nodes;
    lists_made = made;
    members = λ c i k. forest.regions.members c i (rw (same c) at k);
    holders = λ c i k. kept c (forest.regions.holders c i (rw (same c) at k));
  };
  blocks = forest.blocks;
  grounded = grounded_out (shape_of f) (shape_of (record f { ops = slots; in_blocks = l; in_ops = h })) (less_by_levels (shape_of f) (shape_of (record f { ops = slots; in_blocks = l; in_ops = h })) (λ i c k. rw is at k) (λ i c h. h) (λ i c k. rw (same c) at k)) forest.grounded;
}

-- what holds nothing and stands nowhere is gone
pub ops_freed : {O B R : Type 0} (f v : Forest O B R) → f ≡ v → (slots : List (Slot O)) (x : ℕ) → IsForest f → ClearsSlot f.ops slots x → ((c : ℕ) → has x (list_at v.in_blocks.lists c) ≡ false) → list_at v.in_ops.lists x ≡ []
    → IsForest (record f { ops = slots })
ops_freed f v seen slots x forest clears root bare = record {
  ops = record {
    nodes = rw clears.count forest.ops.nodes;
    lists_made = forest.ops.lists_made;
    members = λ c i h. still i (λ (e : i ≡ x). both_ways (has x (list_at f.in_blocks.lists c)) (out c) (rw e at h)) (forest.ops.members c i h);
    holders = forest.ops.holders;
  };
  regions = record {
    nodes = forest.regions.nodes;
    lists_made = rw clears.count forest.regions.lists_made;
    members = forest.regions.members;
    holders = λ c i h. still c (λ (e : c ≡ x). both_ways false refl (rw (e, none) at h)) (forest.regions.holders c i h);
  };
  blocks = forest.blocks;
  grounded = forest.grounded;
} where
  out : (c : ℕ) → has x (list_at f.in_blocks.lists c) ≡ false
  out c = subst (λ (w : Forest _ _ _). has x (list_at w.in_blocks.lists c) ≡ false) (sym seen) (root c)

  none : list_at f.in_ops.lists x ≡ []
  none = subst (λ (w : Forest _ _ _). list_at w.in_ops.lists x ≡ []) (sym seen) bare

  still : (i : ℕ) → (i ≡ x → ⊥) → IsSome (held f.ops i) → IsSome (held slots i)
  still i ne used = let e : held slots i ≡ held f.ops i = ap (λ (k : Slot _). k.value) (clears.others i ne) in rw e used

-- more slots, nodes and lists, and nothing new stands anywhere
pub blocks_grown : {O B R : Type 0} (f : Forest O B R) (slots : List (Slot B)) (l h : ListsView) → IsForest f → l.lists ≡ f.in_regions.lists → length slots ≤ l.nodes
    → ((c : ℕ) → list_at h.lists c ≡ list_at f.in_blocks.lists c) → length slots ≤ length h.lists → h.nodes ≡ f.in_blocks.nodes → ((i : ℕ) → IsSome (held f.blocks i) → IsSome (held slots i))
    → IsForest (record f { blocks = slots; in_regions = l; in_blocks = h })
blocks_grown f slots l h forest is nodes same made same_nodes kept = record {
  blocks = record {
    nodes = nodes;
    lists_made = rw is forest.blocks.lists_made;
    members = λ c i k. kept i (forest.blocks.members c i (rw is at k));
    holders = λ c i k. forest.blocks.holders c i (rw is at k);
  };
  ops = record {
    nodes = rw same_nodes forest.ops.nodes;
    lists_made = made;
    members = λ c i k. forest.ops.members c i (rw (same c) at k);
    holders = λ c i k. kept c (forest.ops.holders c i (rw (same c) at k));
  };
  regions = forest.regions;
  grounded = grounded_out (shape_of f) (shape_of (record f { blocks = slots; in_regions = l; in_blocks = h })) (less_by_levels (shape_of f) (shape_of (record f { blocks = slots; in_regions = l; in_blocks = h })) (λ i c k. rw (same c) at k) (λ i c k. rw is at k) (λ i c h. h)) forest.grounded;
}

-- what holds nothing and stands nowhere is gone
pub blocks_freed : {O B R : Type 0} (f v : Forest O B R) → f ≡ v → (slots : List (Slot B)) (x : ℕ) → IsForest f → ClearsSlot f.blocks slots x → ((c : ℕ) → has x (list_at v.in_regions.lists c) ≡ false) → list_at v.in_blocks.lists x ≡ []
    → IsForest (record f { blocks = slots })
blocks_freed f v seen slots x forest clears root bare = record {
  blocks = record {
    nodes = rw clears.count forest.blocks.nodes;
    lists_made = forest.blocks.lists_made;
    members = λ c i h. still i (λ (e : i ≡ x). both_ways (has x (list_at f.in_regions.lists c)) (out c) (rw e at h)) (forest.blocks.members c i h);
    holders = forest.blocks.holders;
  };
  ops = record {
    nodes = forest.ops.nodes;
    lists_made = rw clears.count forest.ops.lists_made;
    members = forest.ops.members;
    holders = λ c i h. still c (λ (e : c ≡ x). both_ways false refl (rw (e, none) at h)) (forest.ops.holders c i h);
  };
  regions = forest.regions;
  grounded = forest.grounded;
} where
  out : (c : ℕ) → has x (list_at f.in_regions.lists c) ≡ false
  out c = subst (λ (w : Forest _ _ _). has x (list_at w.in_regions.lists c) ≡ false) (sym seen) (root c)

  none : list_at f.in_blocks.lists x ≡ []
  none = subst (λ (w : Forest _ _ _). list_at w.in_blocks.lists x ≡ []) (sym seen) bare

  still : (i : ℕ) → (i ≡ x → ⊥) → IsSome (held f.blocks i) → IsSome (held slots i)
  still i ne used = let e : held slots i ≡ held f.blocks i = ap (λ (k : Slot _). k.value) (clears.others i ne) in rw e used

-- more slots, nodes and lists, and nothing new stands anywhere
pub regions_grown : {O B R : Type 0} (f : Forest O B R) (slots : List (Slot R)) (l h : ListsView) → IsForest f → l.lists ≡ f.in_ops.lists → length slots ≤ l.nodes
    → ((c : ℕ) → list_at h.lists c ≡ list_at f.in_regions.lists c) → length slots ≤ length h.lists → h.nodes ≡ f.in_regions.nodes → ((i : ℕ) → IsSome (held f.regions i) → IsSome (held slots i))
    → IsForest (record f { regions = slots; in_ops = l; in_regions = h })
regions_grown f slots l h forest is nodes same made same_nodes kept = record {
  regions = record {
    nodes = nodes;
    lists_made = rw is forest.regions.lists_made;
    members = λ c i k. kept i (forest.regions.members c i (rw is at k));
    holders = λ c i k. forest.regions.holders c i (rw is at k);
  };
  blocks = record {
    nodes = rw same_nodes forest.blocks.nodes;
    lists_made = made;
    members = λ c i k. forest.blocks.members c i (rw (same c) at k);
    holders = λ c i k. kept c (forest.blocks.holders c i (rw (same c) at k));
  };
  ops = forest.ops;
  grounded = grounded_out (shape_of f) (shape_of (record f { regions = slots; in_ops = l; in_regions = h })) (less_by_levels (shape_of f) (shape_of (record f { regions = slots; in_ops = l; in_regions = h })) (λ i c h. h) (λ i c k. rw (same c) at k) (λ i c k. rw is at k)) forest.grounded;
}

-- what holds nothing and stands nowhere is gone
pub regions_freed : {O B R : Type 0} (f v : Forest O B R) → f ≡ v → (slots : List (Slot R)) (x : ℕ) → IsForest f → ClearsSlot f.regions slots x → ((c : ℕ) → has x (list_at v.in_ops.lists c) ≡ false) → list_at v.in_regions.lists x ≡ []
    → IsForest (record f { regions = slots })
regions_freed f v seen slots x forest clears root bare = record {
  regions = record {
    nodes = rw clears.count forest.regions.nodes;
    lists_made = forest.regions.lists_made;
    members = λ c i h. still i (λ (e : i ≡ x). both_ways (has x (list_at f.in_ops.lists c)) (out c) (rw e at h)) (forest.regions.members c i h);
    holders = forest.regions.holders;
  };
  blocks = record {
    nodes = forest.blocks.nodes;
    lists_made = rw clears.count forest.blocks.lists_made;
    members = forest.blocks.members;
    holders = λ c i h. still c (λ (e : c ≡ x). both_ways false refl (rw (e, none) at h)) (forest.blocks.holders c i h);
  };
  ops = forest.ops;
  grounded = forest.grounded;
} where
  out : (c : ℕ) → has x (list_at f.in_ops.lists c) ≡ false
  out c = subst (λ (w : Forest _ _ _). has x (list_at w.in_ops.lists c) ≡ false) (sym seen) (root c)

  none : list_at f.in_regions.lists x ≡ []
  none = subst (λ (w : Forest _ _ _). list_at w.in_regions.lists x ≡ []) (sym seen) bare

  still : (i : ℕ) → (i ≡ x → ⊥) → IsSome (held f.regions i) → IsSome (held slots i)
  still i ne used = let e : held slots i ≡ held f.regions i = ap (λ (k : Slot _). k.value) (clears.others i ne) in rw e used
