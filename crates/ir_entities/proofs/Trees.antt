-- Edits keep the trees.
use Rattle.ir_entities.proofs.Segments.{has-append}
use Rattle.std.proofs.Common.{◌≡◌, ℕ, ◌++◌, ◌||◌, ◌⊎◌, inl, inr, ⊎_elim, Bool, true, false, cond, eqb, List, [], ◌∷◌, map, length, Option, Some, None, IsSome, Result, Ok, Err, IfOk, OnErr, refl, sym, ap, subst, ◌∙◌, arith, set, zero, suc}
use Rattle.std.proofs.lemmas.List.{length-set, length-map, get_or-set_same, get_or-set_other, get_or_past}
use Rattle.std.proofs.lemmas.Bool.{eqb-true, eq-eqb, or_cases, or_left, or_right, cases_Bool, cases_eq, cases_lt, both_ways}
use Rattle.ir_entities.specs.Lists.{ListsView}
use Rattle.ir_entities.specs.Links.{has, list_at, put_after, without}
use Rattle.ir_arena.specs.declared.arena.Slot.{Slot}
use Rattle.ir_arena.specs.declared.arena.Key.{Key}
use Rattle.ir_arena.specs.Arena.{held, get, same, slot_at, SetsSlot, ClearsSlot}
use Rattle.ir_entities.specs.declared.forest.Place.{Place}
use Rattle.ir_entities.specs.declared.forest.Place.TheVariants.{Op, Block, Region}
use Rattle.ir_entities.specs.Shape.{Shape, IsIn, IsInside, itself, deeper, IsGrounded, below}
use Rattle.ir_entities.specs.Forest.{Forest, AreMembers, IsForest, shape_of, pointer_to}

-- what the new links add leads from x to places that aren't inside x
abbrev pub AddsFrom : Shape → Shape → Place → Type 0
AddsFrom s t x = (e d : Place) → IsIn t e d → ((e ≡ x) × (IsInside s x d → ⊥)) ⊎ IsIn s e d

module _ (s t : Shape) (x : Place) (adds : AddsFrom s t x) where
  outside_kept : (e : Place) → IsGrounded s e → (IsInside s x e → ⊥) → IsGrounded t e
  outside_kept e (below _ h) out = below e (λ d i. ⊎_elim
      (λ n. absurd (out (subst (λ (k : Place). IsInside s x k) (sym n.0) itself)))
      (λ j. outside_kept d (h d j) (λ w. out (deeper e d j w)))
      (adds e d i))

  grounded_from : ((e : Place) → IsGrounded s e) → (e : Place) → IsGrounded s e → IsGrounded t e
  grounded_from all e (below _ h) = below e (λ d i. ⊎_elim
      (λ n. outside_kept d (all d) n.1)
      (λ j. grounded_from all d (h d j))
      (adds e d i))

  pub grounded_in : ((e : Place) → IsGrounded s e) → (e : Place) → IsGrounded t e
  grounded_in all e = grounded_from all e (all e)

grounded_less : (s t : Shape) → ((e d : Place) → IsIn t e d → IsIn s e d) → (e : Place) → IsGrounded s e → IsGrounded t e
grounded_less s t less e (below _ h) = below e (λ d i. grounded_less s t less d (h d (less e d i)))

-- nothing is added
pub grounded_out : (s t : Shape) → ((e d : Place) → IsIn t e d → IsIn s e d) → ((e : Place) → IsGrounded s e) → (e : Place) → IsGrounded t e
grounded_out s t less all e = grounded_less s t less e (all e)

-- what a list has after each edit
pub has_first : (ls : List (List ℕ)) (c x d i : ℕ) → has i (list_at (set ls c (x ∷ list_at ls c)) d) ≡ true → ((i ≡ x) × (d ≡ c)) ⊎ (has i (list_at ls d) ≡ true)
has_first ls c x d i h = ⊎_elim
    (λ e. ⊎_elim
    (λ lt.
    let at : has i (x ∷ list_at ls c) ≡ true = rw (get_or-set_same ls c (x ∷ list_at ls c) [] lt) at (moved c e h) in
    ⊎_elim (λ y. inl (eqb-true i x y, e)) (λ y. inr (rw e y)) (or_cases (eqb i x) (has i (list_at ls c)) at))
    (λ ge.
    let at : has i (list_at (set ls c (x ∷ list_at ls c)) c) ≡ true = moved c e h in
    absurd (both_ways false refl (rw (get_or_past (set ls c (x ∷ list_at ls c)) c [] (rw length-set ge)) at at)))
    (cases_lt c (length ls)))
    (λ ne. inr (rw (get_or-set_other ls c d (x ∷ list_at ls c) [] ne) at h))
    (cases_eq d c)
  where
    moved : (k : ℕ) → d ≡ k → has i (list_at (set ls c (x ∷ list_at ls c)) d) ≡ true → has i (list_at (set ls c (x ∷ list_at ls c)) k) ≡ true
    moved k e h = subst (λ (k : ℕ). has i (list_at (set ls c (x ∷ list_at ls c)) k) ≡ true) e h

pub list_at-map : (f : List ℕ → List ℕ) (ls : List (List ℕ)) (d : ℕ) → f [] ≡ [] → list_at (map f ls) d ≡ f (list_at ls d)
list_at-map f [] d e = sym e
list_at-map f (l ∷ ls) zero e = refl
list_at-map f (l ∷ ls) (suc d) e = list_at-map f ls d e

has_put : (m x i : ℕ) (xs : List ℕ) → has i (put_after m x xs) ≡ true → ((i ≡ x) × (has m xs ≡ true)) ⊎ (has i xs ≡ true)
has_put m x i [] h = inr h
has_put m x i (y ∷ ys) h = put_cases (eqb m y) (has_put m x i ys) refl h where
  put_cases : (b : Bool) → (has i (put_after m x ys) ≡ true → ((i ≡ x) × (has m ys ≡ true)) ⊎ (has i ys ≡ true)) → eqb m y ≡ b → has i (cond b (y ∷ x ∷ ys) (y ∷ put_after m x ys)) ≡ true → ((i ≡ x) × (has m (y ∷ ys) ≡ true)) ⊎ (has i (y ∷ ys) ≡ true)
  put_cases true rest at h = ⊎_elim
      (λ a. inr (or_left (eqb i y) (has i ys) a))
      (λ a. ⊎_elim (λ b. inl (eqb-true i x b, or_left (eqb m y) (has m ys) at)) (λ b. inr (or_right (eqb i y) (has i ys) b)) (or_cases (eqb i x) (has i ys) a))
      (or_cases (eqb i y) (eqb i x || has i ys) h)
  put_cases false rest at h = ⊎_elim
      (λ a. inr (or_left (eqb i y) (has i ys) a))
      (λ a. ⊎_elim (λ b. inl (b.0, or_right (eqb m y) (has m ys) b.1)) (λ b. inr (or_right (eqb i y) (has i ys) b)) (rest a))
      (or_cases (eqb i y) (has i (put_after m x ys)) h)

has_without : (x i : ℕ) (xs : List ℕ) → has i (without x xs) ≡ true → has i xs ≡ true
has_without x i [] h = h
has_without x i (y ∷ ys) h = without_cases (eqb x y) (has_without x i ys) h where
  without_cases : (b : Bool) → (has i (without x ys) ≡ true → has i ys ≡ true) → has i (cond b ys (y ∷ without x ys)) ≡ true → has i (y ∷ ys) ≡ true
  without_cases true rest h = or_right (eqb i y) (has i ys) h
  without_cases false rest h = ⊎_elim
      (λ a. or_left (eqb i y) (has i ys) a)
      (λ a. or_right (eqb i y) (has i ys) (rest a))
      (or_cases (eqb i y) (has i (without x ys)) h)

pub has_put_at : (ls : List (List ℕ)) (m x d i : ℕ) → has i (list_at (map (put_after m x) ls) d) ≡ true → ((i ≡ x) × (has m (list_at ls d) ≡ true)) ⊎ (has i (list_at ls d) ≡ true)
has_put_at ls m x d i h = has_put m x i (list_at ls d) (rw (list_at-map (put_after m x) ls d refl) at h)

pub has_without_at : (ls : List (List ℕ)) (x d i : ℕ) → has i (list_at (map (without x) ls) d) ≡ true → has i (list_at ls d) ≡ true
has_without_at ls x d i h = has_without x i (list_at ls d) (rw (list_at-map (without x) ls d refl) at h)

-- an edit that brings in what is in use
pub members_kept : {T C : Type 0} (slots : List (Slot T)) (containers : List (Slot C)) (old new : ListsView)
    → AreMembers slots containers old → length old.lists ≡ length new.lists → old.nodes ≡ new.nodes
    → ((c i : ℕ) → has i (list_at new.lists c) ≡ true → (IsSome (held slots i) × IsSome (held containers c)) ⊎ (has i (list_at old.lists c) ≡ true))
    → AreMembers slots containers new
members_kept slots containers old new are count nodes brings = record {
  nodes = rw (← nodes) are.nodes;
  lists_made = rw (← count) are.lists_made;
  members = λ c i h. ⊎_elim (λ n. n.0) (λ o. are.members c i o) (brings c i h);
  holders = λ c i h. ⊎_elim (λ n. n.1) (λ o. are.holders c i o) (brings c i h);
}

pub none_is_not_some : {T : Type 0} (o : Option T) → o ≡ None → IsSome o → ⊥
none_is_not_some None e s = cc
none_is_not_some (Some v) e s = cc

version_is : {T : Type 0} (slots : List (Slot T)) (p : Key) → IsSome (get slots p) → (slot_at slots p.slot).version ≡ p.version
version_is slots p live = ⊎_elim
    (λ t. eqb-true _ _ t)
    (λ f. absurd (none_is_not_some (get slots p) (rw f refl) live))
    (cases_Bool (eqb (slot_at slots p.slot).version p.version))

pub held_is : {T : Type 0} (slots : List (Slot T)) (p : Key) → IsSome (get slots p) → IsSome (held slots p.slot)
held_is slots p live = rw (eq-eqb (slot_at slots p.slot).version p.version (version_is slots p live)) at live

-- the same edits over pointers
pub pointer_is : {T : Type 0} (slots : List (Slot T)) (p : Key) → IsSome (get slots p) → pointer_to slots p.slot ≡ p
pointer_is slots p live = ap (λ (v : ℕ). record { slot = p.slot; version = v }) (version_is slots p live)

-- the edges of all levels, level by level
module _ (s t : Shape) where
  pub less_by_levels : ((i c : ℕ) → has i (list_at t.in_blocks c) ≡ true → has i (list_at s.in_blocks c) ≡ true)
      → ((i c : ℕ) → has i (list_at t.in_regions c) ≡ true → has i (list_at s.in_regions c) ≡ true)
      → ((i c : ℕ) → has i (list_at t.in_ops c) ≡ true → has i (list_at s.in_ops c) ≡ true)
      → (e d : Place) → IsIn t e d → IsIn s e d
  less_by_levels a b k (Op i) (Block c) h = a i c h
  less_by_levels a b k (Block i) (Region c) h = b i c h
  less_by_levels a b k (Region i) (Op c) h = k i c h
  less_by_levels a b k (Op i) (Op c) h = absurd h
  less_by_levels a b k (Op i) (Region c) h = absurd h
  less_by_levels a b k (Block i) (Op c) h = absurd h
  less_by_levels a b k (Block i) (Block c) h = absurd h
  less_by_levels a b k (Region i) (Block c) h = absurd h
  less_by_levels a b k (Region i) (Region c) h = absurd h

  pub adds_by_levels : (x : Place)
      → ((i c : ℕ) → has i (list_at t.in_blocks c) ≡ true → ((Op i ≡ x) × (IsInside s x (Block c) → ⊥)) ⊎ (has i (list_at s.in_blocks c) ≡ true))
      → ((i c : ℕ) → has i (list_at t.in_regions c) ≡ true → ((Block i ≡ x) × (IsInside s x (Region c) → ⊥)) ⊎ (has i (list_at s.in_regions c) ≡ true))
      → ((i c : ℕ) → has i (list_at t.in_ops c) ≡ true → ((Region i ≡ x) × (IsInside s x (Op c) → ⊥)) ⊎ (has i (list_at s.in_ops c) ≡ true))
      → AddsFrom s t x
  adds_by_levels x a b k (Op i) (Block c) h = a i c h
  adds_by_levels x a b k (Block i) (Region c) h = b i c h
  adds_by_levels x a b k (Region i) (Op c) h = k i c h
  adds_by_levels x a b k (Op i) (Op c) h = absurd h
  adds_by_levels x a b k (Op i) (Region c) h = absurd h
  adds_by_levels x a b k (Block i) (Op c) h = absurd h
  adds_by_levels x a b k (Block i) (Block c) h = absurd h
  adds_by_levels x a b k (Region i) (Block c) h = absurd h
  adds_by_levels x a b k (Region i) (Region c) h = absurd h

-- what is inside x was inside it where there are fewer edges
pub inside_less : (s t : Shape) → ((e d : Place) → IsIn t e d → IsIn s e d) → (x e : Place) → IsInside t x e → IsInside s x e
inside_less s t less x _ itself = itself
inside_less s t less x _ (deeper e d i w) = deeper e d (less e d i) (inside_less s t less x d w)

has_back : (ls : List (List ℕ)) (c x d i : ℕ) → has i (list_at (set ls c (list_at ls c ++ x ∷ [])) d) ≡ true → ((i ≡ x) × (d ≡ c)) ⊎ (has i (list_at ls d) ≡ true)
has_back ls c x d i h = ⊎_elim
    (λ e. ⊎_elim
    (λ lt.
    let at : has i (list_at ls c ++ x ∷ []) ≡ true = rw (get_or-set_same ls c (list_at ls c ++ x ∷ []) [] lt) at (moved c e h) in
    ⊎_elim (λ y. inr (rw e y)) (λ y. inl (⊎_elim (λ z. eqb-true i x z) (λ z. absurd (both_ways false refl z)) (or_cases (eqb i x) false y), e)) (or_cases (has i (list_at ls c)) (has i (x ∷ [])) (sym (has-append i (list_at ls c) (x ∷ [])) ∙ at)))
    (λ ge.
    let at : has i (list_at (set ls c (list_at ls c ++ x ∷ [])) c) ≡ true = moved c e h in
    absurd (both_ways false refl (rw (get_or_past (set ls c (list_at ls c ++ x ∷ [])) c [] (rw length-set ge)) at at)))
    (cases_lt c (length ls)))
    (λ ne. inr (rw (get_or-set_other ls c d (list_at ls c ++ x ∷ []) [] ne) at h))
    (cases_eq d c)
  where
    moved : (k : ℕ) → d ≡ k → has i (list_at (set ls c (list_at ls c ++ x ∷ [])) d) ≡ true → has i (list_at (set ls c (list_at ls c ++ x ∷ [])) k) ≡ true
    moved k e h = subst (λ (k : ℕ). has i (list_at (set ls c (list_at ls c ++ x ∷ [])) k) ≡ true) e h

module _ {O B R : Type 0} (f v : Forest O B R) (seen : f ≡ v) (forest : IsForest f) (l : ListsView) (nodes : l.nodes ≡ f.in_blocks.nodes) where
  pub more_ops : (x : ℕ) → length f.in_blocks.lists ≡ length l.lists
      → ((i c : ℕ) → has i (list_at l.lists c) ≡ true → ((i ≡ x) × (IsInside (shape_of f) (Op x) (Block c) → ⊥) × IsSome (held f.ops x) × IsSome (held f.blocks c)) ⊎ (has i (list_at f.in_blocks.lists c) ≡ true))
      → IsForest (record f { in_blocks = l })
  more_ops x count adds = record {
    ops = members_kept f.ops f.blocks f.in_blocks l forest.ops count (sym nodes) (λ c i h. ⊎_elim (λ n. inl (rw n.0 n.2, n.3)) (λ o. inr o) (adds i c h));
    blocks = forest.blocks;
    regions = forest.regions;
    grounded = grounded_in (shape_of f) (shape_of (record f { in_blocks = l })) (Op x)
        (adds_by_levels (shape_of f) (shape_of (record f { in_blocks = l })) (Op x) (λ i c h. ⊎_elim (λ n. inl (ap Op n.0, n.1)) (λ o. inr o) (adds i c h)) (λ i c h. inr h) (λ i c h. inr h)) forest.grounded;
  }

  pub first_op : (b : Key) (p : Key) → IsSome (get v.blocks b) → IsSome (get v.ops p) → (IsInside (shape_of v) (Op p.slot) (Block b.slot) → ⊥)
      → l.lists ≡ set f.in_blocks.lists b.slot (p.slot ∷ list_at f.in_blocks.lists b.slot) → IsForest (record f { in_blocks = l })
  first_op b p lb lp apart is = more_ops p.slot (rw (is, length-set) refl) (λ i c h.
      ⊎_elim
      (λ n. inl (n.0, (λ w. apart (rw (← seen) (rw n.1 at w))), (rw seen (held_is v.ops p lp)), (rw (n.1, seen) (held_is v.blocks b lb))))
      (λ o. inr o)
      (has_first f.in_blocks.lists b.slot p.slot c i (rw is at h)))

  pub back_op : (b : Key) (p : Key) → IsSome (get v.blocks b) → IsSome (get v.ops p) → (IsInside (shape_of v) (Op p.slot) (Block b.slot) → ⊥)
      → l.lists ≡ set f.in_blocks.lists b.slot (list_at f.in_blocks.lists b.slot ++ p.slot ∷ []) → IsForest (record f { in_blocks = l })
  back_op b p lb lp apart is = more_ops p.slot (rw (is, length-set) refl) (λ i c h.
      ⊎_elim
      (λ n. inl (n.0, (λ w. apart (rw (← seen) (rw n.1 at w))), (rw seen (held_is v.ops p lp)), (rw (n.1, seen) (held_is v.blocks b lb))))
      (λ o. inr o)
      (has_back f.in_blocks.lists b.slot p.slot c i (rw is at h)))

  pub later_op : (m p : Key) → IsSome (get v.ops p) → (IsInside (shape_of v) (Op p.slot) (Op m.slot) → ⊥)
      → l.lists ≡ map (put_after m.slot p.slot) f.in_blocks.lists → IsForest (record f { in_blocks = l })
  later_op m p lp apart is = more_ops p.slot (rw (is, length-map) refl) (λ i c h.
      ⊎_elim
      (λ n. inl (n.0, (λ w. apart (rw (← seen) (deeper (Op m.slot) (Block c) n.1 w))), (rw seen (held_is v.ops p lp)), forest.ops.holders c m.slot n.1))
      (λ o. inr o)
      (has_put_at f.in_blocks.lists m.slot p.slot c i (rw is at h)))

  pub fewer_ops : (x : ℕ) → l.lists ≡ map (without x) f.in_blocks.lists → IsForest (record f { in_blocks = l })
  fewer_ops x is =
      let less : (i c : ℕ) → has i (list_at l.lists c) ≡ true → has i (list_at f.in_blocks.lists c) ≡ true = λ i c h. has_without_at f.in_blocks.lists x c i (rw is at h) in record {
        ops = members_kept f.ops f.blocks f.in_blocks l forest.ops (rw (is, length-map) refl) (sym nodes) (λ c i h. inr (less i c h));
        blocks = forest.blocks;
        regions = forest.regions;
        grounded = grounded_out (shape_of f) (shape_of (record f { in_blocks = l })) (less_by_levels (shape_of f) (shape_of (record f { in_blocks = l })) less (λ i c h. h) (λ i c h. h)) forest.grounded;
      }

module _ {O B R : Type 0} (f v : Forest O B R) (seen : f ≡ v) (forest : IsForest f) (l : ListsView) (nodes : l.nodes ≡ f.in_regions.nodes) where
  pub more_blocks : (x : ℕ) → length f.in_regions.lists ≡ length l.lists
      → ((i c : ℕ) → has i (list_at l.lists c) ≡ true → ((i ≡ x) × (IsInside (shape_of f) (Block x) (Region c) → ⊥) × IsSome (held f.blocks x) × IsSome (held f.regions c)) ⊎ (has i (list_at f.in_regions.lists c) ≡ true))
      → IsForest (record f { in_regions = l })
  more_blocks x count adds = record {
    blocks = members_kept f.blocks f.regions f.in_regions l forest.blocks count (sym nodes) (λ c i h. ⊎_elim (λ n. inl (rw n.0 n.2, n.3)) (λ o. inr o) (adds i c h));
    ops = forest.ops;
    regions = forest.regions;
    grounded = grounded_in (shape_of f) (shape_of (record f { in_regions = l })) (Block x)
        (adds_by_levels (shape_of f) (shape_of (record f { in_regions = l })) (Block x) (λ i c h. inr h) (λ i c h. ⊎_elim (λ n. inl (ap Block n.0, n.1)) (λ o. inr o) (adds i c h)) (λ i c h. inr h)) forest.grounded;
  }

  pub first_block : (b : Key) (p : Key) → IsSome (get v.regions b) → IsSome (get v.blocks p) → (IsInside (shape_of v) (Block p.slot) (Region b.slot) → ⊥)
      → l.lists ≡ set f.in_regions.lists b.slot (p.slot ∷ list_at f.in_regions.lists b.slot) → IsForest (record f { in_regions = l })
  first_block b p lb lp apart is = more_blocks p.slot (rw (is, length-set) refl) (λ i c h.
      ⊎_elim
      (λ n. inl (n.0, (λ w. apart (rw (← seen) (rw n.1 at w))), (rw seen (held_is v.blocks p lp)), (rw (n.1, seen) (held_is v.regions b lb))))
      (λ o. inr o)
      (has_first f.in_regions.lists b.slot p.slot c i (rw is at h)))

  pub back_block : (b : Key) (p : Key) → IsSome (get v.regions b) → IsSome (get v.blocks p) → (IsInside (shape_of v) (Block p.slot) (Region b.slot) → ⊥)
      → l.lists ≡ set f.in_regions.lists b.slot (list_at f.in_regions.lists b.slot ++ p.slot ∷ []) → IsForest (record f { in_regions = l })
  back_block b p lb lp apart is = more_blocks p.slot (rw (is, length-set) refl) (λ i c h.
      ⊎_elim
      (λ n. inl (n.0, (λ w. apart (rw (← seen) (rw n.1 at w))), (rw seen (held_is v.blocks p lp)), (rw (n.1, seen) (held_is v.regions b lb))))
      (λ o. inr o)
      (has_back f.in_regions.lists b.slot p.slot c i (rw is at h)))

  pub later_block : (m p : Key) → IsSome (get v.blocks p) → (IsInside (shape_of v) (Block p.slot) (Block m.slot) → ⊥)
      → l.lists ≡ map (put_after m.slot p.slot) f.in_regions.lists → IsForest (record f { in_regions = l })
  later_block m p lp apart is = more_blocks p.slot (rw (is, length-map) refl) (λ i c h.
      ⊎_elim
      (λ n. inl (n.0, (λ w. apart (rw (← seen) (deeper (Block m.slot) (Region c) n.1 w))), (rw seen (held_is v.blocks p lp)), forest.blocks.holders c m.slot n.1))
      (λ o. inr o)
      (has_put_at f.in_regions.lists m.slot p.slot c i (rw is at h)))

  pub fewer_blocks : (x : ℕ) → l.lists ≡ map (without x) f.in_regions.lists → IsForest (record f { in_regions = l })
  fewer_blocks x is =
      let less : (i c : ℕ) → has i (list_at l.lists c) ≡ true → has i (list_at f.in_regions.lists c) ≡ true = λ i c h. has_without_at f.in_regions.lists x c i (rw is at h) in record {
        blocks = members_kept f.blocks f.regions f.in_regions l forest.blocks (rw (is, length-map) refl) (sym nodes) (λ c i h. inr (less i c h));
        ops = forest.ops;
        regions = forest.regions;
        grounded = grounded_out (shape_of f) (shape_of (record f { in_regions = l })) (less_by_levels (shape_of f) (shape_of (record f { in_regions = l })) (λ i c h. h) less (λ i c h. h)) forest.grounded;
      }

module _ {O B R : Type 0} (f v : Forest O B R) (seen : f ≡ v) (forest : IsForest f) (l : ListsView) (nodes : l.nodes ≡ f.in_ops.nodes) where
  pub more_regions : (x : ℕ) → length f.in_ops.lists ≡ length l.lists
      → ((i c : ℕ) → has i (list_at l.lists c) ≡ true → ((i ≡ x) × (IsInside (shape_of f) (Region x) (Op c) → ⊥) × IsSome (held f.regions x) × IsSome (held f.ops c)) ⊎ (has i (list_at f.in_ops.lists c) ≡ true))
      → IsForest (record f { in_ops = l })
  more_regions x count adds = record {
    regions = members_kept f.regions f.ops f.in_ops l forest.regions count (sym nodes) (λ c i h. ⊎_elim (λ n. inl (rw n.0 n.2, n.3)) (λ o. inr o) (adds i c h));
    ops = forest.ops;
    blocks = forest.blocks;
    grounded = grounded_in (shape_of f) (shape_of (record f { in_ops = l })) (Region x)
        (adds_by_levels (shape_of f) (shape_of (record f { in_ops = l })) (Region x) (λ i c h. inr h) (λ i c h. inr h) (λ i c h. ⊎_elim (λ n. inl (ap Region n.0, n.1)) (λ o. inr o) (adds i c h))) forest.grounded;
  }

  pub back_region : (b : Key) (p : Key) → IsSome (get v.ops b) → IsSome (get v.regions p) → (IsInside (shape_of v) (Region p.slot) (Op b.slot) → ⊥)
      → l.lists ≡ set f.in_ops.lists b.slot (list_at f.in_ops.lists b.slot ++ p.slot ∷ []) → IsForest (record f { in_ops = l })
  back_region b p lb lp apart is = more_regions p.slot (rw (is, length-set) refl) (λ i c h.
      ⊎_elim
      (λ n. inl (n.0, (λ w. apart (rw (← seen) (rw n.1 at w))), (rw seen (held_is v.regions p lp)), (rw (n.1, seen) (held_is v.ops b lb))))
      (λ o. inr o)
      (has_back f.in_ops.lists b.slot p.slot c i (rw is at h)))

  pub fewer_regions : (x : ℕ) → l.lists ≡ map (without x) f.in_ops.lists → IsForest (record f { in_ops = l })
  fewer_regions x is =
      let less : (i c : ℕ) → has i (list_at l.lists c) ≡ true → has i (list_at f.in_ops.lists c) ≡ true = λ i c h. has_without_at f.in_ops.lists x c i (rw is at h) in record {
        regions = members_kept f.regions f.ops f.in_ops l forest.regions (rw (is, length-map) refl) (sym nodes) (λ c i h. inr (less i c h));
        ops = forest.ops;
        blocks = forest.blocks;
        grounded = grounded_out (shape_of f) (shape_of (record f { in_ops = l })) (less_by_levels (shape_of f) (shape_of (record f { in_ops = l })) (λ i c h. h) (λ i c h. h) less) forest.grounded;
      }

-- nothing stands anywhere
pub forest_new : {O B R : Type 0} (f : Forest O B R) → f.ops ≡ [] → f.blocks ≡ [] → f.regions ≡ [] → f.in_blocks.lists ≡ [] → f.in_regions.lists ≡ [] → f.in_ops.lists ≡ [] → IsForest f
forest_new f a b c d e k = record {
  ops = none f.ops f.blocks f.in_blocks a b d;
  blocks = none f.blocks f.regions f.in_regions b c e;
  regions = none f.regions f.ops f.in_ops c a k;
  grounded = λ p. below p (λ q i. absurd (no_edge p q i));
} where
  none : {T C : Type 0} (slots : List (Slot T)) (containers : List (Slot C)) (l : ListsView) → slots ≡ [] → containers ≡ [] → l.lists ≡ [] → AreMembers slots containers l
  none slots containers l s c e = record {
    nodes = rw s (omega arith);
    lists_made = rw c (omega arith);
    members = λ d i h. absurd (both_ways false refl (rw e at h));
    holders = λ d i h. absurd (both_ways false refl (rw e at h));
  }

  no_edge : (p q : Place) → IsIn (shape_of f) p q → ⊥
  no_edge (Op i) (Block j) h = both_ways false refl (rw d at h)
  no_edge (Block i) (Region j) h = both_ways false refl (rw e at h)
  no_edge (Region i) (Op j) h = both_ways false refl (rw k at h)
  no_edge (Op i) (Op j) h = h
  no_edge (Op i) (Region j) h = h
  no_edge (Block i) (Op j) h = h
  no_edge (Block i) (Block j) h = h
  no_edge (Region i) (Block j) h = h
  no_edge (Region i) (Region j) h = h

pub held_kept : {T E : Type 0} (r : Result (Key) E) (old new : List (Slot T)) (value : T) → IfOk r (λ p. SetsSlot old new p.slot value) → OnErr r (new ≡ old) → (i : ℕ) → IsSome (held old i) → IsSome (held new i)
held_kept {T} (Ok p) old new value sets same i used = ⊎_elim
    (λ e. absurd (none_is_not_some (held old i) (rw e sets.vacant) used))
    (λ ne. let e : held new i ≡ held old i = ap (λ (k : Slot T). k.value) (sets.others i ne) in rw e used)
    (cases_eq i p.slot)
held_kept (Err e) old new value sets same i used = rw same used

pub pointers_kept : {T : Type 0} (old new : List (Slot T)) (xs : List ℕ) → ((i : ℕ) → has i xs ≡ true → slot_at new i ≡ slot_at old i) → map (pointer_to new) xs ≡ map (pointer_to old) xs
pointers_kept old new [] same = refl
pointers_kept old new (x ∷ xs) same =
    let here : slot_at new x ≡ slot_at old x = same x (or_left (eqb x x) (has x xs) (eq-eqb x x refl)) in
    let rest : map (pointer_to new) xs ≡ map (pointer_to old) xs = pointers_kept old new xs (λ i h. same i (or_right (eqb i x) (has i xs) h)) in
    rw (here, rest) refl

-- an operation that holds nothing and stands nowhere is gone
pub forest_less : {O B R : Type 0} (f v : Forest O B R) → f ≡ v → (slots : List (Slot O)) (x : ℕ) → IsForest f → ClearsSlot f.ops slots x → ((c : ℕ) → has x (list_at v.in_blocks.lists c) ≡ false) → list_at v.in_ops.lists x ≡ []
    → IsForest (record f { ops = slots })
forest_less f v seen slots x forest clears root bare = record {
  ops = record {
    nodes = rw clears.count forest.ops.nodes;
    lists_made = forest.ops.lists_made;
    members = λ c i h. still i (λ (e : i ≡ x). both_ways (has x (list_at f.in_blocks.lists c)) (out c) (rw e at h)) (forest.ops.members c i h);
    holders = forest.ops.holders;
  };
  blocks = forest.blocks;
  regions = record {
    nodes = forest.regions.nodes;
    lists_made = rw clears.count forest.regions.lists_made;
    members = forest.regions.members;
    holders = λ c i h. still c (λ (e : c ≡ x). both_ways false refl (rw (e, none) at h)) (forest.regions.holders c i h);
  };
  grounded = forest.grounded;
} where
  out : (c : ℕ) → has x (list_at f.in_blocks.lists c) ≡ false
  out c = subst (λ (w : Forest _ _ _). has x (list_at w.in_blocks.lists c) ≡ false) (sym seen) (root c)

  none : list_at f.in_ops.lists x ≡ []
  none = subst (λ (w : Forest _ _ _). list_at w.in_ops.lists x ≡ []) (sym seen) bare

  still : (i : ℕ) → (i ≡ x → ⊥) → IsSome (held f.ops i) → IsSome (held slots i)
  still i ne used = let e : held slots i ≡ held f.ops i = ap (λ (k : Slot _). k.value) (clears.others i ne) in rw e used

pub pointers_left : {O B R : Type 0} (f v : Forest O B R) → f ≡ v → (slots : List (Slot O)) (x : ℕ) → ClearsSlot f.ops slots x → ((c : ℕ) → has x (list_at v.in_blocks.lists c) ≡ false) → (c : ℕ)
    → map (pointer_to slots) (list_at f.in_blocks.lists c) ≡ map (pointer_to f.ops) (list_at f.in_blocks.lists c)
pointers_left f v seen slots x clears root c = pointers_kept f.ops slots (list_at f.in_blocks.lists c) (λ i h. clears.others i (λ (e : i ≡ x).
    let out : has x (list_at f.in_blocks.lists c) ≡ false = subst (λ (w : Forest _ _ _). has x (list_at w.in_blocks.lists c) ≡ false) (sym seen) (root c) in
    both_ways (has x (list_at f.in_blocks.lists c)) out (rw e at h)))

-- what stood in o stands in x now: all that was inside x still is
pub hoisted : (s t : Shape) (o x : ℕ) → ((e d : Place) → IsIn s e d → IsIn t e d ⊎ ((d ≡ Op o) × IsIn t e (Op x))) → (e : Place) → IsInside s (Op x) e → IsInside t (Op x) e
hoisted s t o x edges _ itself = itself
hoisted s t o x edges _ (deeper e d i w) = ⊎_elim
    (λ j. deeper e d j (hoisted s t o x edges d w))
    (λ n. deeper e (Op x) n.1 itself)
    (edges e d i)
