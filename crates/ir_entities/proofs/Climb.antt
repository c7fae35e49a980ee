-- The way up ends: no operation is met twice.
use Rattle.std.proofs.Common.{◌≡◌, ℕ, ◌<◌, ◌≤◌, ◌+◌, ◌-◌, ◌||◌, ⊎_elim, true, false, eqb, List, [], ◌∷◌, length, Option, Some, None, IsSome, refl, sym, ap, subst, ◌∙◌, arith}
use Rattle.std.specs.List.{IsDistinct, AllByRecursion}
use Rattle.std.proofs.lemmas.List.{get_or_past}
use Rattle.std.proofs.lemmas.Bool.{eqb-true, or_cases, or_parts, cases_lt, both_ways, false_from_ne_true}
use Rattle.std.proofs.lemmas.Map.Steps.{length-le_from_distinct_below}
use Rattle.std.specs.List.{list_any}
use Rattle.ir_entities.specs.Links.{has, AreDistinctNumbers}
use Rattle.ir_arena.specs.declared.arena.Slot.{Slot}
use Rattle.ir_arena.specs.Arena.{held, no_slot}
use Rattle.ir_entities.specs.declared.forest.Place.{Place}
use Rattle.ir_entities.specs.declared.forest.Place.TheVariants.{Op, Block, Region}
use Rattle.ir_entities.specs.Shape.{Shape, IsIn, IsInside, itself, deeper, IsGrounded, below}
use Rattle.ir_entities.specs.Forest.{Forest, IsForest, HoldsInUse, shape_of}

pub inside_trans : (s : Shape) (a b c : Place) → IsInside s a b → IsInside s b c → IsInside s a c
inside_trans s a b _ h itself = h
inside_trans s a b _ h (deeper e d i w) = deeper e d i (inside_trans s a b d h w)

-- nothing stands in what stands in it
pub no_cycle : (s : Shape) (e : Place) → IsGrounded s e → (d : Place) → IsIn s e d → IsInside s e d → ⊥
no_cycle s e (below _ h) _ i itself = no_cycle s e (h e i) e i itself
no_cycle s e (below _ h) _ i (deeper d k j v) = no_cycle s d (h d i) k j (inside_trans s d e k (deeper e d i itself) v)

pub any_is_has : (x : ℕ) (xs : List ℕ) → list_any (eqb x) xs ≡ has x xs
any_is_has x [] = refl
any_is_has x (y ∷ ys) = ap (λ b. eqb x y || b) (any_is_has x ys)

all_differ : (x : ℕ) (xs : List ℕ) → has x xs ≡ false → AllByRecursion (λ y. eqb x y ≡ false) xs
all_differ x [] h = tt
all_differ x (y ∷ ys) h = let p : (eqb x y ≡ false) × (has x ys ≡ false) = or_parts _ _ h in (p.0, all_differ x ys p.1)

are_distinct : (xs : List ℕ) → AreDistinctNumbers xs → IsDistinct eqb xs
unfolding IsDistinct
are_distinct [] d = tt
are_distinct (x ∷ xs) d = (all_differ x xs d.0, are_distinct xs d.1)

pub at_most : (xs : List ℕ) (n : ℕ) → AreDistinctNumbers xs → ((q : ℕ) → has q xs ≡ true → q < n) → length xs ≤ n
at_most xs n d h = length-le_from_distinct_below xs n (are_distinct xs d) (λ q i. h q (sym (any_is_has q xs) ∙ i))

-- how far c has been climbed from, on the way to x: the operations met are distinct, and `at` is inside each
pub record Climbs {O B R : Type 0} (f : Forest O B R) (x c at : Place) (left : ℕ) : Type 0 where
  pub seen : List ℕ
  pub count : length seen + left ≡ length f.ops
  pub distinct : AreDistinctNumbers seen
  pub used : HoldsInUse f at
  pub known : (q : ℕ) → has q seen ≡ true → (q < length f.ops) × IsInside (shape_of f) at (Op q)
  pub up : IsInside (shape_of f) x c → IsInside (shape_of f) x at
  pub down : IsInside (shape_of f) at c

none_is_not_some : {T : Type 0} (o : Option T) → o ≡ None → IsSome o → ⊥
none_is_not_some None e s = cc
none_is_not_some (Some v) e s = cc

pub used_below : {T : Type 0} (slots : List (Slot T)) (i : ℕ) → IsSome (held slots i) → i < length slots
used_below {T} slots i used = ⊎_elim (λ l. l)
    (λ ge. absurd (none_is_not_some (held slots i) (ap (λ (k : Slot T). k.value) (get_or_past slots i no_slot ge)) used))
    (cases_lt i (length slots))

module _ {O B R : Type 0} (f : Forest O B R) (forest : IsForest f) (x c at : Place) (left : ℕ) (h : Climbs f x c at left) (d : Place)
    (i : IsIn (shape_of f) at d) (used : HoldsInUse f d) (one : (e : Place) → IsIn (shape_of f) at e → e ≡ d) (ne : at ≡ x → ⊥) where
  further : IsInside (shape_of f) d at
  further = deeper at d i itself

  still_up : IsInside (shape_of f) x c → IsInside (shape_of f) x d
  still_up w = from at refl (h.up w) where
    from : (e : Place) → e ≡ at → IsInside (shape_of f) x e → IsInside (shape_of f) x d
    from _ is itself = absurd (ne (sym is))
    from _ is (deeper e k j v) = subst (λ (z : Place). IsInside (shape_of f) x z) (one k (subst (λ (z : Place). IsIn (shape_of f) z k) is j)) v

  pub climbed_plain : ((o : ℕ) → d ≡ Op o → ⊥) → Climbs f x c d left
  climbed_plain plain = record {
    seen = h.seen;
    count = h.count;
    distinct = h.distinct;
    used = used;
    known = λ q k. ((h.known q k).0, inside_trans (shape_of f) d at (Op q) further (h.known q k).1);
    up = still_up;
    down = inside_trans (shape_of f) d at c further h.down;
  }

  pub unmet : (o : ℕ) → d ≡ Op o → has o h.seen ≡ false
  unmet o is = false_from_ne_true (has o h.seen) (λ k. no_cycle (shape_of f) at (forest.grounded at) d i (rw is (h.known o k).1))

  pub below_all : (o : ℕ) → d ≡ Op o → o < length f.ops
  below_all o is = used_below f.ops o (subst (λ (z : Place). HoldsInUse f z) is used)

  pub distinct_more : (o : ℕ) → d ≡ Op o → AreDistinctNumbers (o ∷ h.seen)
  distinct_more o is = (unmet o is, h.distinct)

  pub known_more : (o : ℕ) → d ≡ Op o → (q : ℕ) → has q (o ∷ h.seen) ≡ true → (q < length f.ops) × IsInside (shape_of f) d (Op q)
  known_more o is q k = ⊎_elim
      (λ t. let same : q ≡ o = eqb-true q o t in (rw same (below_all o is), rw (same, is) itself))
      (λ t. ((h.known q t).0, inside_trans (shape_of f) d at (Op q) further (h.known q t).1))
      (or_cases (eqb q o) (has q h.seen) k)

  -- room is left for one more
  pub room : (o : ℕ) → d ≡ Op o → 0 < left
  room o is =
      let all : length (o ∷ h.seen) ≤ length f.ops = at_most (o ∷ h.seen) (length f.ops) (distinct_more o is) (λ q k. (known_more o is q k).0) in
      omega (arith, all, h.count)

  pub climbed_op : (o : ℕ) → d ≡ Op o → Climbs f x c d (left - 1)
  climbed_op o is = record {
    seen = o ∷ h.seen;
    count = let r : 0 < left = room o is in omega (arith, h.count, r);
    distinct = distinct_more o is;
    used = used;
    known = known_more o is;
    up = still_up;
    down = inside_trans (shape_of f) d at c further h.down;
  }

pub climb_begins : {O B R : Type 0} (f : Forest O B R) (x c : Place) → HoldsInUse f c → Climbs f x c c (length f.ops)
climb_begins f x c used = record {
  seen = [];
  count = omega arith;
  distinct = tt;
  used = used;
  known = λ q k. absurd (both_ways false refl k);
  up = λ w. w;
  down = itself;
}

-- steps that are left below the next operation
abbrev pub steps : Place → ℕ
steps (Op i) = 2
steps (Block i) = 1
steps (Region i) = 0

pub climb_starts : {O B R : Type 0} (v : Forest O B R) (x c : Place) (n : ℕ) → n ≡ length v.ops → HoldsInUse v c → Climbs v x c c n
climb_starts v x c n is used = rw is (climb_begins v x c used)

-- at the top, without having met x
pub climb_ends : {O B R : Type 0} (v : Forest O B R) (x c at : Place) (left : ℕ) → Climbs v x c at left → (at ≡ x → ⊥) → ((d : Place) → IsIn (shape_of v) at d → ⊥) → IsInside (shape_of v) x c → ⊥
climb_ends v x c at left h ne top w = from at refl (h.up w) where
  from : (e : Place) → e ≡ at → IsInside (shape_of v) x e → ⊥
  from _ is itself = ne (sym is)
  from _ is (deeper e k j u) = top k (subst (λ (z : Place). IsIn (shape_of v) z k) is j)

pub forest_seen : {O B R : Type 0} (f v : Forest O B R) → f ≡ v → IsForest f → IsForest v
forest_seen f v seen forest = subst (λ (w : Forest _ _ _). IsForest w) seen forest
