-- The walk of a tree has each place once, and goes on by the links.
use Rattle.std.proofs.Common.{◌≡◌, ℕ, ◌<◌, ◌≤◌, ◌+◌, ◌↔◌, ◌⊎◌, inl, inr, ⊎_elim, Bool, true, false, cond, eqb, List, [], ◌∷◌, ◌++◌, map, length, Option, Some, None, IsSome, IfSome, refl, sym, ap, subst, ◌∙◌, arith, zero, suc, append_assoc}
use Rattle.std.proofs.lemmas.List.{get_or_past}
use Rattle.std.proofs.lemmas.Bool.{eqb-true, eq-eqb, or_cases, or_right, cases_lt, both_ways, false_from_ne_true}
use Rattle.ir_entities.proofs.Segments.{has_here}
use Rattle.ir_entities.specs.Links.{has, list_at, first_or, next_in, AreDistinctNumbers}
use Rattle.ir_arena.specs.Arena.{held}
use Rattle.std.specs.Prelude.{⊤}
use Rattle.ir_entities.specs.declared.forest.Place.{Place}
use Rattle.ir_entities.specs.declared.forest.Place.TheVariants.{Op, Block, Region}
use Rattle.ir_entities.specs.Shape.{Shape, IsIn, IsInside, itself, deeper, IsGrounded}
use Rattle.ir_entities.specs.Forest.{Forest, IsForest, HoldsInUse, shape_of}
use Rattle.ir_entities.specs.Walk.{same_place, children, walk, levels, walk_of, IsOneOf, AreOnce, ops_among, first_place, place_after, drop_to_place, places_from, StandInOne, IsWalk, nothing, more, IsRest, ended, up}
use Rattle.ir_entities.proofs.Climb.{inside_trans, no_cycle, at_most, used_below}
use Rattle.ir_entities.proofs.Prunes.{holder_used, member_used}

-- the place of a number
abbrev pub lift : (ℕ → Place) → Option ℕ → Option Place
lift C None = None
lift C (Some j) = Some (C j)

module _ (C : ℕ → Place) (alike : (i j : ℕ) → same_place (C i) (C j) ≡ eqb i j) where
  first_map : (xs : List ℕ) → first_place (map C xs) ≡ lift C (first_or None xs)
  first_map [] = refl
  first_map (x ∷ xs) = refl

  after_map : (i : ℕ) (xs : List ℕ) → place_after (C i) (map C xs) ≡ lift C (next_in i xs)
  after_map i [] = refl
  after_map i (y ∷ ys) = rw (alike i y) (split (eqb i y) (after_map i ys)) where
    split : (b : Bool) → place_after (C i) (map C ys) ≡ lift C (next_in i ys) → cond b (first_place (map C ys)) (place_after (C i) (map C ys)) ≡ lift C (cond b (first_or None ys) (next_in i ys))
    split true rest = first_map ys
    split false rest = rest

pub op_sibling : (s : Shape) (at : Place) (i : ℕ) → at ≡ Op i → (o : Option ℕ) → ((c : ℕ) → has i (list_at s.in_blocks c) ≡ true → o ≡ next_in i (list_at s.in_blocks c)) → (d : Place) → IsIn s at d → lift Op o ≡ place_after at (children s d)
op_sibling s at i is o next d h = subst (λ (k : Place). IsIn s k d → lift Op o ≡ place_after k (children s d)) (sym is) (from d) h where
  from : (d : Place) → IsIn s (Op i) d → lift Op o ≡ place_after (Op i) (children s d)
  from (Block c) h = ap (lift Op) (next c h) ∙ sym (after_map Op (λ i j. refl) i (list_at s.in_blocks c))
  from (Op c) h = absurd h
  from (Region c) h = absurd h

pub block_sibling : (s : Shape) (at : Place) (i : ℕ) → at ≡ Block i → (o : Option ℕ) → ((c : ℕ) → has i (list_at s.in_regions c) ≡ true → o ≡ next_in i (list_at s.in_regions c)) → (d : Place) → IsIn s at d → lift Block o ≡ place_after at (children s d)
block_sibling s at i is o next d h = subst (λ (k : Place). IsIn s k d → lift Block o ≡ place_after k (children s d)) (sym is) (from d) h where
  from : (d : Place) → IsIn s (Block i) d → lift Block o ≡ place_after (Block i) (children s d)
  from (Region c) h = ap (lift Block) (next c h) ∙ sym (after_map Block (λ i j. refl) i (list_at s.in_regions c))
  from (Op c) h = absurd h
  from (Block c) h = absurd h

pub region_sibling : (s : Shape) (at : Place) (i : ℕ) → at ≡ Region i → (o : Option ℕ) → ((c : ℕ) → has i (list_at s.in_ops c) ≡ true → o ≡ next_in i (list_at s.in_ops c)) → (d : Place) → IsIn s at d → lift Region o ≡ place_after at (children s d)
region_sibling s at i is o next d h = subst (λ (k : Place). IsIn s k d → lift Region o ≡ place_after k (children s d)) (sym is) (from d) h where
  from : (d : Place) → IsIn s (Region i) d → lift Region o ≡ place_after (Region i) (children s d)
  from (Op c) h = ap (lift Region) (next c h) ∙ sym (after_map Region (λ i j. refl) i (list_at s.in_ops c))
  from (Block c) h = absurd h
  from (Region c) h = absurd h

pub place_true : (e d : Place) → same_place e d ≡ true → e ≡ d
place_true (Op i) (Op j) h = ap Op (eqb-true i j h)
place_true (Block i) (Block j) h = ap Block (eqb-true i j h)
place_true (Region i) (Region j) h = ap Region (eqb-true i j h)
place_true (Op i) (Block j) h = absurd (both_ways false refl h)
place_true (Op i) (Region j) h = absurd (both_ways false refl h)
place_true (Block i) (Op j) h = absurd (both_ways false refl h)
place_true (Block i) (Region j) h = absurd (both_ways false refl h)
place_true (Region i) (Op j) h = absurd (both_ways false refl h)
place_true (Region i) (Block j) h = absurd (both_ways false refl h)

pub place_refl : (e : Place) → same_place e e ≡ true
place_refl (Op i) = eq-eqb i i refl
place_refl (Block i) = eq-eqb i i refl
place_refl (Region i) = eq-eqb i i refl

pub one_append : (y : Place) (xs ys : List Place) → IsOneOf y (xs ++ ys) → IsOneOf y xs ⊎ IsOneOf y ys
one_append y [] ys h = inr h
one_append y (x ∷ xs) ys h = ⊎_elim (λ e. inl (inl e)) (λ t. ⊎_elim (λ a. inl (inr a)) (λ b. inr b) (one_append y xs ys t)) h

pub one_left : (y : Place) (xs ys : List Place) → IsOneOf y xs → IsOneOf y (xs ++ ys)
one_left y [] ys h = absurd h
one_left y (x ∷ xs) ys h = ⊎_elim (λ e. inl e) (λ t. inr (one_left y xs ys t)) h

pub one_right : (y : Place) (xs ys : List Place) → IsOneOf y ys → IsOneOf y (xs ++ ys)
one_right y [] ys h = h
one_right y (x ∷ xs) ys h = inr (one_right y xs ys h)

one_map : (C : ℕ → Place) (xs : List ℕ) (c : Place) → IsOneOf c (map C xs) → (i : ℕ) × (c ≡ C i) × (has i xs ≡ true)
one_map C [] c h = absurd h
one_map C (x ∷ xs) c h = ⊎_elim
    (λ e. (x, e, has_here x xs))
    (λ t. let r : (i : ℕ) × (c ≡ C i) × (has i xs ≡ true) = one_map C xs c t in (r.0, r.1, or_right (eqb r.0 x) (has r.0 xs) r.2))
    h

map_one : (C : ℕ → Place) (xs : List ℕ) (i : ℕ) → has i xs ≡ true → IsOneOf (C i) (map C xs)
map_one C [] i h = absurd (both_ways false refl h)
map_one C (x ∷ xs) i h = ⊎_elim (λ t. inl (ap C (eqb-true i x t))) (λ t. inr (map_one C xs i t)) (or_cases (eqb i x) (has i xs) h)

module _ (s : Shape) where
  -- what stands in a place is one of its children
  pub child_in : (c e : Place) → IsOneOf c (children s e) → IsIn s c e
  child_in c (Op i) h = let r : (j : ℕ) × (c ≡ Region j) × (has j (list_at s.in_ops i) ≡ true) = one_map Region (list_at s.in_ops i) c h in subst (λ (k : Place). IsIn s k (Op i)) (sym r.1) r.2
  child_in c (Block i) h = let r : (j : ℕ) × (c ≡ Op j) × (has j (list_at s.in_blocks i) ≡ true) = one_map Op (list_at s.in_blocks i) c h in subst (λ (k : Place). IsIn s k (Block i)) (sym r.1) r.2
  child_in c (Region i) h = let r : (j : ℕ) × (c ≡ Block j) × (has j (list_at s.in_regions i) ≡ true) = one_map Block (list_at s.in_regions i) c h in subst (λ (k : Place). IsIn s k (Region i)) (sym r.1) r.2

  pub in_child : (c e : Place) → IsIn s c e → IsOneOf c (children s e)
  in_child (Op i) (Block c) h = map_one Op (list_at s.in_blocks c) i h
  in_child (Block i) (Region c) h = map_one Block (list_at s.in_regions c) i h
  in_child (Region i) (Op c) h = map_one Region (list_at s.in_ops c) i h
  in_child (Op i) (Op c) h = absurd h
  in_child (Op i) (Region c) h = absurd h
  in_child (Block i) (Op c) h = absurd h
  in_child (Block i) (Block c) h = absurd h
  in_child (Region i) (Block c) h = absurd h
  in_child (Region i) (Region c) h = absurd h

abbrev pub AllOf : (Place → Type 0) → List Place → Type 0
AllOf P [] = ⊤
AllOf P (x ∷ xs) = P x × AllOf P xs

all_of : (P : Place → Type 0) (es : List Place) → ((c : Place) → IsOneOf c es → P c) → AllOf P es
all_of P [] h = tt
all_of P (x ∷ xs) h = (h x (inl refl), all_of P xs (λ c i. h c (inr i)))

-- fewer than n levels stand in e
abbrev pub Deep : Shape → ℕ → Place → Type 0
Deep s zero e = ⊥
Deep s (suc n) e = (c : Place) → IsIn s c e → Deep s n c

deep_more : (s : Shape) (n : ℕ) (e : Place) → Deep s n e → Deep s (suc n) e
deep_more s zero e h = absurd h
deep_more s (suc n) e h = λ c i. deep_more s n c (h c i)

module _ (s : Shape) where
  walked : (n : ℕ) (es : List Place) → AllOf (Deep s n) es → IsWalk s es (walk n s es)
  walked zero [] h = nothing
  walked zero (e ∷ es) h = absurd h.0
  walked (suc n) [] h = nothing
  walked (suc n) (e ∷ es) h = more e es (walk n s (children s e)) (walk (suc n) s es) (walked n (children s e) (all_of (Deep s n) (children s e) (λ c i. h.0 c (child_in s c e i)))) (walked (suc n) es h.1)

  in_op : (P : Place → Type 0) (o : ℕ) → ((r : ℕ) → has r (list_at s.in_ops o) ≡ true → P (Region r)) → (c : Place) → IsIn s c (Op o) → P c
  in_op P o h (Region r) i = h r i
  in_op P o h (Op r) i = absurd i
  in_op P o h (Block r) i = absurd i

  in_region : (P : Place → Type 0) (r : ℕ) → ((b : ℕ) → has b (list_at s.in_regions r) ≡ true → P (Block b)) → (c : Place) → IsIn s c (Region r) → P c
  in_region P r h (Block b) i = h b i
  in_region P r h (Op b) i = absurd i
  in_region P r h (Region b) i = absurd i

  in_block : (P : Place → Type 0) (b : ℕ) → ((o : ℕ) → has o (list_at s.in_blocks b) ≡ true → P (Op o)) → (c : Place) → IsIn s c (Block b) → P c
  in_block P b h (Op o) i = h o i
  in_block P b h (Block o) i = absurd i
  in_block P b h (Region o) i = absurd i

module _ {O B R : Type 0} (f : Forest O B R) (forest : IsForest f) where
  -- the operations above o, and o: distinct, and each in use
  record IsAbove (o : ℕ) (above : List ℕ) : Type 0 where
    pub distinct : AreDistinctNumbers (o ∷ above)
    pub known : (q : ℕ) → has q (o ∷ above) ≡ true → (q < length f.ops) × IsInside (shape_of f) (Op q) (Op o)

  one_more : (o : ℕ) (above : List ℕ) → IsAbove o above → (r : ℕ) → has r (list_at f.in_ops.lists o) ≡ true → (b : ℕ) → has b (list_at f.in_regions.lists r) ≡ true → (p : ℕ) → has p (list_at f.in_blocks.lists b) ≡ true → IsAbove p (o ∷ above)
  one_more o above h r hr b hb p hp =
      let at_b : IsInside (shape_of f) (Op o) (Block b) = deeper (Block b) (Region r) hb (deeper (Region r) (Op o) hr itself) in
      let at_p : IsInside (shape_of f) (Op o) (Op p) = deeper (Op p) (Block b) hp at_b in record {
        distinct = (false_from_ne_true (has p (o ∷ above)) (λ k. no_cycle (shape_of f) (Op p) (forest.grounded (Op p)) (Block b) hp (inside_trans (shape_of f) (Op p) (Op o) (Block b) (h.known p k).1 at_b)), h.distinct);
        known = λ q k. ⊎_elim
            (λ t. let is : q ≡ p = eqb-true q p t in (rw is (used_below f.ops p (forest.ops.members b p hp)), rw is itself))
            (λ t. ((h.known q t).0, inside_trans (shape_of f) (Op q) (Op o) (Op p) (h.known q t).1 at_p))
            (or_cases (eqb q p) (has q (o ∷ above)) k);
      }

  deep_op : (n o : ℕ) (above : List ℕ) → IsAbove o above → length above + n ≡ length f.ops → Deep (shape_of f) (levels n) (Op o)
  deep_op zero o above h count = let all : length (o ∷ above) ≤ length f.ops = at_most (o ∷ above) (length f.ops) h.distinct (λ q k. (h.known q k).0) in absurd (omega (arith, all, count))
  deep_op (suc n) o above h count =
      in_op (shape_of f) (Deep (shape_of f) (suc (suc (levels n)))) o (λ r hr.
      in_region (shape_of f) (Deep (shape_of f) (suc (levels n))) r (λ b hb.
      in_block (shape_of f) (Deep (shape_of f) (levels n)) b (λ p hp.
      deep_op n p (o ∷ above) (one_more o above h r hr b hb p hp) (omega (arith, count)))))

  top_op : (o : ℕ) → IsSome (held f.ops o) → Deep (shape_of f) (levels (length f.ops)) (Op o)
  top_op o used = deep_op (length f.ops) o [] (record {
    distinct = (refl, tt);
    known = λ q k. ⊎_elim
        (λ t. let is : q ≡ o = eqb-true q o t in (rw is (used_below f.ops o used), rw is itself))
        (λ t. absurd (both_ways false refl t))
        (or_cases (eqb q o) false k);
  }) (omega arith)

  deep_of : (x : Place) → HoldsInUse f x → Deep (shape_of f) (suc (suc (levels (length f.ops)))) x
  deep_of (Op o) used = deep_more (shape_of f) (suc (levels (length f.ops))) (Op o) (deep_more (shape_of f) (levels (length f.ops)) (Op o) (top_op o used))
  deep_of (Block b) used = deep_more (shape_of f) (suc (levels (length f.ops))) (Block b) (in_block (shape_of f) (Deep (shape_of f) (levels (length f.ops))) b (λ p hp. top_op p (forest.ops.members b p hp)))
  deep_of (Region r) used = in_region (shape_of f) (Deep (shape_of f) (suc (levels (length f.ops)))) r (λ b hb. in_block (shape_of f) (Deep (shape_of f) (levels (length f.ops))) b (λ p hp. top_op p (forest.ops.members b p hp)))

  pub walk_is : (x : Place) → HoldsInUse f x → IsWalk (shape_of f) (x ∷ []) (walk_of f x)
  unfolding walk_of
  walk_is x used = walked (shape_of f) (suc (suc (levels (length f.ops)))) (x ∷ []) (deep_of x used, tt)

-- what a walk of a first place and others is made of
record Parts (s : Shape) (e : Place) (es ys : List Place) : Type 0 where
  pub inner : List Place
  pub rest : List Place
  pub parts : ys ≡ e ∷ (inner ++ rest)
  pub inner_walk : IsWalk s (children s e) inner
  pub rest_walk : IsWalk s es rest

record Behind (s : Shape) (es ys : List Place) : Type 0 where
  pub before : List Place
  pub behind : List Place
  pub parts : ys ≡ before ++ behind
  pub walk : IsWalk s es behind

module _ (s : Shape) where
  walk_split : (es ys : List Place) → IsWalk s es ys → (e : Place) (later : List Place) → es ≡ e ∷ later → Parts s e later ys
  walk_split _ _ nothing e later h = cc
  walk_split _ _ (more d ds inner rest wi wr) e later h =
      let is : d ≡ e = cc in
      let are : ds ≡ later = cc in record {
        inner = inner;
        rest = rest;
        parts = ap (λ (k : Place). k ∷ (inner ++ rest)) is;
        inner_walk = subst (λ (k : Place). IsWalk s (children s k) inner) is wi;
        rest_walk = subst (λ (k : List Place). IsWalk s k rest) are wr;
      }

  walk_none : (es ys : List Place) → IsWalk s es ys → es ≡ [] → ys ≡ []
  walk_none _ _ nothing h = refl
  walk_none _ _ (more d ds inner rest wi wr) h = cc

  walk_behind : (before es ys : List Place) → IsWalk s (before ++ es) ys → Behind s es ys
  walk_behind [] es ys w = record { before = []; behind = ys; parts = refl; walk = w }
  walk_behind (b ∷ bs) es ys w =
      let p : Parts s b (bs ++ es) ys = walk_split (b ∷ (bs ++ es)) ys w b (bs ++ es) refl in
      let q : Behind s es p.rest = walk_behind bs es p.rest p.rest_walk in record {
        before = b ∷ (p.inner ++ q.before);
        behind = q.behind;
        parts = p.parts ∙ ap (λ (k : List Place). b ∷ k) (ap (λ (k : List Place). p.inner ++ k) q.parts ∙ sym (append_assoc p.inner q.before q.behind));
        walk = q.walk;
      }

  -- each place of a walk is inside one of those that are walked
  record IsFrom (es : List Place) (y : Place) : Type 0 where
    pub top : Place
    pub one : IsOneOf top es
    pub inside : IsInside s top y

  inside_walk : (es ys : List Place) → IsWalk s es ys → (y : Place) → IsOneOf y ys → IsFrom es y
  inside_walk _ _ nothing y h = absurd h
  inside_walk _ _ (more e es inner rest wi wr) y h = ⊎_elim
      (λ same. record { top = e; one = inl refl; inside = rw same itself })
      (λ t. ⊎_elim
      (λ a.
      let r : IsFrom (children s e) y = inside_walk (children s e) inner wi y a in
      record { top = e; one = inl refl; inside = inside_trans s e r.top y (deeper r.top e (child_in s r.top e r.one) itself) r.inside })
      (λ b. let r : IsFrom es y = inside_walk es rest wr y b in record { top = r.top; one = inr r.one; inside = r.inside })
      (one_append y inner rest t))
      h

-- e, where it comes first in es
record SplitAt (e : Place) (es : List Place) : Type 0 where
  pub before : List Place
  pub later : List Place
  pub parts : es ≡ before ++ e ∷ later
  pub after : place_after e es ≡ first_place later

split_at : (e : Place) (es : List Place) → IsOneOf e es → SplitAt e es
split_at e [] h = absurd h
split_at e (x ∷ xs) h = pick (same_place e x) refl (split_at e xs) where
  pick : (b : Bool) → same_place e x ≡ b → (IsOneOf e xs → SplitAt e xs) → SplitAt e (x ∷ xs)
  pick true t rest = record { before = []; later = xs; parts = ap (λ (k : Place). k ∷ xs) (sym (place_true e x t)); after = rw t refl }
  pick false t rest = ⊎_elim
      (λ is. absurd (both_ways (same_place e x) t (rw (← is) (place_refl e))))
      (λ o. let r : SplitAt e xs = rest o in record { before = x ∷ r.before; later = r.later; parts = ap (λ (k : List Place). x ∷ k) r.parts; after = rw t r.after })
      h

-- where e comes in the walk of x
record Position (s : Shape) (x e : Place) (w : List Place) : Type 0 where
  pub before : List Place
  pub inner : List Place
  pub rest : List Place
  pub parts : w ≡ before ++ e ∷ (inner ++ rest)
  pub walk : IsWalk s (children s e) inner
  pub rest_is : IsRest s x e rest

position : (s : Shape) (x : Place) (w : List Place) → IsWalk s (x ∷ []) w → (e : Place) → IsInside s x e → Position s x e w
position s x w walk _ itself =
    let p : Parts s x [] w = walk_split s (x ∷ []) w walk x [] refl in record {
      before = [];
      inner = p.inner;
      rest = [];
      parts = p.parts ∙ ap (λ (k : List Place). x ∷ (p.inner ++ k)) (walk_none s [] p.rest p.rest_walk refl);
      walk = p.inner_walk;
      rest_is = ended;
    }
position s x w walk _ (deeper e d i v) =
    let p : Position s x d w = position s x w walk d v in
    let c : SplitAt e (children s d) = split_at e (children s d) (in_child s e d i) in
    let q : Behind s (e ∷ c.later) p.inner = walk_behind s c.before (e ∷ c.later) p.inner (subst (λ (k : List Place). IsWalk s k p.inner) c.parts p.walk) in
    let t : Parts s e c.later q.behind = walk_split s (e ∷ c.later) q.behind q.walk e c.later refl in record {
      before = p.before ++ d ∷ q.before;
      inner = t.inner;
      rest = t.rest ++ p.rest;
      parts = p.parts ∙ ap (λ (k : List Place). p.before ++ d ∷ k) (
          ap (λ (k : List Place). k ++ p.rest) (q.parts ∙ ap (λ (k : List Place). q.before ++ k) t.parts)
          ∙ append_assoc q.before (e ∷ (t.inner ++ t.rest)) p.rest
          ∙ ap (λ (k : List Place). q.before ++ e ∷ k) (append_assoc t.inner t.rest p.rest))
          ∙ sym (append_assoc p.before (d ∷ q.before) (e ∷ (t.inner ++ (t.rest ++ p.rest))));
      walk = t.inner_walk;
      rest_is = up e d c.before c.later t.rest p.rest i c.parts c.after t.rest_walk p.rest_is;
    }

module _ (s : Shape) (grounded : (e : Place) → IsGrounded s e) (one : StandInOne s) (once : (e : Place) → AreOnce (children s e)) where
  one_line : (a b y : Place) → IsInside s a y → IsInside s b y → IsInside s a b ⊎ IsInside s b a
  one_line a b _ itself w = inr w
  one_line a b _ (deeper y d i v) w = from y refl w (λ (u : IsInside s b d). one_line a b d v u) where
    from : (k : Place) → k ≡ y → IsInside s b k → (IsInside s b d → IsInside s a b ⊎ IsInside s b a) → IsInside s a b ⊎ IsInside s b a
    from _ is itself rest = inl (rw is (deeper y d i v))
    from _ is (deeper k c j u) rest = rest (subst (λ (z : Place). IsInside s b z) (one y c d (subst (λ (z : Place). IsIn s z c) is j) i) u)

  -- what stands beside a isn't inside it
  beside : (a b e : Place) → IsIn s a e → IsIn s b e → IsInside s a b → a ≡ b
  beside a _ e ia ib itself = refl
  beside a _ e ia ib (deeper b d i w) = absurd (no_cycle s a (grounded a) e ia (subst (λ (z : Place). IsInside s a z) (one b d e i ib) w))

  -- no place is inside two of these
  abbrev pub Separate : List Place → Type 0
  Separate [] = ⊤
  Separate (e ∷ es) = ((f : Place) → IsOneOf f es → (y : Place) → IsInside s e y → IsInside s f y → ⊥) × Separate es

  separate : (e : Place) (es : List Place) → AreOnce es → ((c : Place) → IsOneOf c es → IsIn s c e) → Separate es
  separate e [] o h = tt
  separate e (c ∷ cs) o h = (
    (λ f i y u v. ⊎_elim
        (λ w. o.0 (subst (λ (k : Place). IsOneOf k cs) (sym (beside c f e (h c (inl refl)) (h f (inr i)) w)) i))
        (λ w. o.0 (subst (λ (k : Place). IsOneOf k cs) (beside f c e (h f (inr i)) (h c (inl refl)) w) i))
        (one_line c f y u v)),
    separate e cs o.1 (λ k i. h k (inr i)),
  )

  once_append : (xs ys : List Place) → AreOnce xs → AreOnce ys → ((y : Place) → IsOneOf y xs → IsOneOf y ys → ⊥) → AreOnce (xs ++ ys)
  once_append [] ys a b h = b
  once_append (x ∷ xs) ys a b h = (
    (λ k. ⊎_elim (λ l. a.0 l) (λ r. h x (inl refl) r) (one_append x xs ys k)),
    once_append xs ys a.1 b (λ y i j. h y (inr i) j),
  )

  pub once_walk : (es ys : List Place) → IsWalk s es ys → Separate es → AreOnce ys
  once_walk _ _ nothing sep = tt
  once_walk _ _ (more e es inner rest wi wr) sep = (
    (λ k. ⊎_elim
        (λ a. let r : IsFrom s (children s e) e = inside_walk s (children s e) inner wi e a in no_cycle s r.top (grounded r.top) e (child_in s r.top e r.one) r.inside)
        (λ b. let r : IsFrom s es e = inside_walk s es rest wr e b in sep.0 r.top r.one e itself r.inside)
        (one_append e inner rest k)),
    once_append inner rest (once_walk (children s e) inner wi (separate e (children s e) (once e) (λ c i. child_in s c e i))) (once_walk es rest wr sep.1) (λ y i j.
        let a : IsFrom s (children s e) y = inside_walk s (children s e) inner wi y i in
        let b : IsFrom s es y = inside_walk s es rest wr y j in
        sep.0 b.top b.one y (inside_trans s e a.top y (deeper a.top e (child_in s a.top e a.one) itself) a.inside) b.inside),
  )

tail_from : (before : List Place) (e : Place) (tail : List Place) → AreOnce (before ++ e ∷ tail) → drop_to_place e (before ++ e ∷ tail) ≡ e ∷ tail
tail_from [] e tail o = rw (place_refl e) refl
tail_from (b ∷ bs) e tail o =
    let no : same_place e b ≡ false = false_from_ne_true (same_place e b) (λ t. o.0 (subst (λ (k : Place). IsOneOf k (bs ++ e ∷ tail)) (place_true e b t) (one_right e bs (e ∷ tail) (inl refl)))) in
    rw no (tail_from bs e tail o.1)

-- from a place on, by the place that comes next
next_from : (before : List Place) (e : Place) (tail w : List Place) (next : Option Place) → AreOnce w → w ≡ before ++ e ∷ tail → next ≡ first_place tail → places_from (Some e) w ≡ e ∷ places_from next w
next_from before e [] w next o is n = rw (n, is) (tail_from before e [] (subst AreOnce is o))
next_from before e (t ∷ ts) w next o is n =
    let here : drop_to_place e w ≡ e ∷ t ∷ ts = rw is (tail_from before e (t ∷ ts) (subst AreOnce is o)) in
    let also : w ≡ (before ++ e ∷ []) ++ t ∷ ts = is ∙ sym (append_assoc before (e ∷ []) (t ∷ ts)) in
    let there : drop_to_place t w ≡ t ∷ ts = rw also (tail_from (before ++ e ∷ []) t ts (subst AreOnce also o)) in
    rw n (here ∙ ap (λ (k : List Place). e ∷ k) (sym there))

once_map : (C : ℕ → Place) → ((i j : ℕ) → C i ≡ C j → i ≡ j) → (xs : List ℕ) → AreDistinctNumbers xs → AreOnce (map C xs)
once_map C inj [] d = tt
once_map C inj (x ∷ xs) d = (
  (λ h. let r : (i : ℕ) × (C x ≡ C i) × (has i xs ≡ true) = one_map C xs (C x) h in both_ways (has x xs) d.0 (rw (inj x r.0 r.1) r.2)),
  once_map C inj xs d.1,
)

distinct_any : (ls : List (List ℕ)) → ((c : ℕ) → c < length ls → AreDistinctNumbers (list_at ls c)) → (c : ℕ) → AreDistinctNumbers (list_at ls c)
distinct_any ls h c = ⊎_elim (λ l. h c l) (λ ge. subst AreDistinctNumbers (sym (get_or_past ls c [] ge)) tt) (cases_lt c (length ls))

pub children_once : {O B R : Type 0} (f v : Forest O B R) → f ≡ v → ((c : ℕ) → c < length f.in_blocks.lists → AreDistinctNumbers (list_at f.in_blocks.lists c)) → ((c : ℕ) → c < length f.in_regions.lists → AreDistinctNumbers (list_at f.in_regions.lists c)) → ((c : ℕ) → c < length f.in_ops.lists → AreDistinctNumbers (list_at f.in_ops.lists c))
    → (e : Place) → AreOnce (children (shape_of v) e)
children_once f v seen a b k e = subst (λ (w : Forest _ _ _). AreOnce (children (shape_of w) e)) seen (at e) where
  at : (e : Place) → AreOnce (children (shape_of f) e)
  at (Op i) = once_map Region (λ i j h. cc) (list_at f.in_ops.lists i) (distinct_any f.in_ops.lists k i)
  at (Block i) = once_map Op (λ i j h. cc) (list_at f.in_blocks.lists i) (distinct_any f.in_blocks.lists a i)
  at (Region i) = once_map Block (λ i j h. cc) (list_at f.in_regions.lists i) (distinct_any f.in_regions.lists b i)

-- what comes after e, which isn't x
record Upper (s : Shape) (x e : Place) (after : List Place) : Type 0 where
  pub holder : Place
  pub later : List Place
  pub walked : List Place
  pub rest : List Place
  pub here : IsIn s e holder
  pub next : place_after e (children s holder) ≡ first_place later
  pub walk : IsWalk s later walked
  pub rest_is : IsRest s x holder rest
  pub parts : after ≡ walked ++ rest

module _ (s : Shape) where
  rest_up : (x e : Place) (after : List Place) → IsRest s x e after → (e ≡ x → ⊥) → Upper s x e after
  rest_up x _ _ ended ne = absurd (ne refl)
  rest_up x _ _ (up e d before later walked rest i p a w k) ne = record { holder = d; later = later; walked = walked; rest = rest; here = i; next = a; walk = w; rest_is = k; parts = refl }

  rest_inside : (x e : Place) (after : List Place) → IsRest s x e after → IsInside s x e
  rest_inside x _ _ ended = itself
  rest_inside x _ _ (up e d before later walked rest i p a w k) = deeper e d i (rest_inside x d rest k)

  rest_end : ((e : Place) → IsGrounded s e) → (x e : Place) (after : List Place) → IsRest s x e after → e ≡ x → after ≡ []
  rest_end grounded x _ _ ended is = refl
  rest_end grounded x _ _ (up e d before later walked rest i p a w k) is = absurd (no_cycle s e (grounded e) d i (subst (λ (z : Place). IsInside s z d) (sym is) (rest_inside x d rest k)))

  first_walk : (es ys : List Place) → IsWalk s es ys → (k : Place) → first_place es ≡ Some k → (rest : List Place) → first_place (ys ++ rest) ≡ Some k
  first_walk _ _ nothing k h rest = cc
  first_walk _ _ (more e es inner r wi wr) k h rest = h

  pub none_first : (es : List Place) → first_place es ≡ None → es ≡ []
  none_first [] h = refl
  none_first (e ∷ es) h = cc

  pub sibling_found : (x e : Place) (after : List Place) → IsRest s x e after → (e ≡ x → ⊥) → (k : Place) → ((d : Place) → IsIn s e d → Some k ≡ place_after e (children s d)) → Some k ≡ first_place after
  sibling_found x e after r ne k found =
      let u : Upper s x e after = rest_up x e after r ne in
      let is : first_place u.later ≡ Some k = sym (found u.holder u.here ∙ u.next) in
      sym (rw u.parts (first_walk u.later u.walked u.walk k is u.rest))

  pub sibling_none : StandInOne s → (x e : Place) (after : List Place) → IsRest s x e after → (e ≡ x → ⊥) → ((d : Place) → IsIn s e d → None ≡ place_after e (children s d)) → (d : Place) → IsIn s e d → IsRest s x d after
  sibling_none one x e after r ne found d i =
      let u : Upper s x e after = rest_up x e after r ne in
      let bare : u.later ≡ [] = none_first u.later (sym (found u.holder u.here ∙ u.next)) in
      let less : u.walked ≡ [] = walk_none s u.later u.walked u.walk bare in
      let all : u.rest ≡ after = sym (u.parts ∙ ap (λ (k : List Place). k ++ u.rest) less) in
      subst (λ (z : Place). IsRest s x z after) (one e u.holder d u.here i) (subst (λ (k : List Place). IsRest s x u.holder k) all u.rest_is)

  pub no_holder : (x e : Place) (after : List Place) → IsRest s x e after → (e ≡ x → ⊥) → ((d : Place) → IsIn s e d → ⊥) → ⊥
  no_holder x e after r ne out = let u : Upper s x e after = rest_up x e after r ne in out u.holder u.here

  pub at_top : ((e : Place) → IsGrounded s e) → (x e : Place) (after : List Place) → IsRest s x e after → e ≡ x → None ≡ first_place after
  at_top grounded x e after r is = rw (rest_end grounded x e after r is) refl

module _ {O B R : Type 0} (v : Forest O B R) (forest : IsForest v) (one : StandInOne (shape_of v)) (once : (e : Place) → AreOnce (children (shape_of v) e)) (x at : Place) (used : HoldsInUse v at) (inside : IsInside (shape_of v) x at) where
  above_used : (e : Place) → HoldsInUse v e → IsInside (shape_of v) x e → HoldsInUse v x
  above_used _ u itself = u
  above_used _ u (deeper e d i w) = above_used d (holder_used v forest e d i) w

  below_used : HoldsInUse v x → (e : Place) → IsInside (shape_of v) x e → HoldsInUse v e
  below_used u _ itself = u
  below_used u _ (deeper e d i w) = member_used v forest e d i

  x_used : HoldsInUse v x
  x_used = above_used at used inside

  walk_x : IsWalk (shape_of v) (x ∷ []) (walk_of v x)
  walk_x = walk_is v forest x x_used

  here : Position (shape_of v) x at (walk_of v x)
  here = position (shape_of v) x (walk_of v x) walk_x at inside

  all_once : AreOnce (walk_of v x)
  all_once = once_walk (shape_of v) forest.grounded one once (x ∷ []) (walk_of v x) walk_x ((λ f i y u w. i), tt)

  tail_is : (next : Option Place) → next ≡ first_place (here.inner ++ here.rest) → places_from (Some at) (walk_of v x) ≡ at ∷ places_from next (walk_of v x)
  tail_is next n = next_from here.before at (here.inner ++ here.rest) (walk_of v x) next all_once here.parts n

  inside_tail : (k : Place) → Some k ≡ first_place (here.inner ++ here.rest) → HoldsInUse v k × IsInside (shape_of v) x k
  inside_tail k n =
      let in_walk : IsOneOf k (walk_of v x) = subst (λ (ws : List Place). IsOneOf k ws) (sym here.parts) (one_right k here.before (at ∷ (here.inner ++ here.rest)) (inr (first_one (here.inner ++ here.rest) n))) in
      let r : IsFrom (shape_of v) (x ∷ []) k = inside_walk (shape_of v) (x ∷ []) (walk_of v x) walk_x k in_walk in
      let is : r.top ≡ x = ⊎_elim (λ e. e) (λ z. absurd z) r.one in
      let w : IsInside (shape_of v) x k = subst (λ (z : Place). IsInside (shape_of v) z k) is r.inside in
      (below_used x_used k w, w)
    where
      first_one : (xs : List Place) → Some k ≡ first_place xs → IsOneOf k xs
      first_one [] h = cc
      first_one (y ∷ ys) h = inl (cc)

  first_inner : (k : Place) → Some k ≡ first_place (children (shape_of v) at) → Some k ≡ first_place (here.inner ++ here.rest)
  first_inner k h = sym (first_walk (shape_of v) (children (shape_of v) at) here.inner here.walk k (sym h) here.rest)

  none_inner : None ≡ first_place (children (shape_of v) at) → here.rest ≡ here.inner ++ here.rest
  none_inner h = sym (ap (λ (k : List Place). k ++ here.rest) (walk_none (shape_of v) (children (shape_of v) at) here.inner here.walk (none_first (shape_of v) (children (shape_of v) at) (sym h))))

  pub child_next : (k : Place) → Some k ≡ first_place (children (shape_of v) at) → (places_from (Some at) (walk_of v x) ≡ at ∷ places_from (Some k) (walk_of v x)) × HoldsInUse v k × IsInside (shape_of v) x k
  child_next k h = let t : HoldsInUse v k × IsInside (shape_of v) x k = inside_tail k (first_inner k h) in (tail_is (Some k) (first_inner k h), t.0, t.1)

  after_is : (next : Option Place) → None ≡ first_place (children (shape_of v) at) → ((rest : List Place) → IsRest (shape_of v) x at rest → next ≡ first_place rest) → next ≡ first_place (here.inner ++ here.rest)
  after_is next h after = after here.rest here.rest_is ∙ ap first_place (none_inner h)

  pub after_next : (next : Option Place) → None ≡ first_place (children (shape_of v) at) → ((rest : List Place) → IsRest (shape_of v) x at rest → next ≡ first_place rest) → (places_from (Some at) (walk_of v x) ≡ at ∷ places_from next (walk_of v x)) × IfSome next (λ k. HoldsInUse v k × IsInside (shape_of v) x k)
  after_next None h after = (tail_is None (after_is None h after), tt)
  after_next (Some k) h after = (tail_is (Some k) (after_is (Some k) h after), inside_tail k (after_is (Some k) h after))

pub seen_next_op : {O B R : Type 0} (f v : Forest O B R) → f ≡ v → (i : ℕ) (o : Option ℕ) → ((c : ℕ) → has i (list_at f.in_blocks.lists c) ≡ true → o ≡ next_in i (list_at f.in_blocks.lists c)) → (c : ℕ) → has i (list_at v.in_blocks.lists c) ≡ true → o ≡ next_in i (list_at v.in_blocks.lists c)
seen_next_op f v seen i o next = subst (λ (w : Forest _ _ _). (c : ℕ) → has i (list_at w.in_blocks.lists c) ≡ true → o ≡ next_in i (list_at w.in_blocks.lists c)) seen next

pub seen_next_block : {O B R : Type 0} (f v : Forest O B R) → f ≡ v → (i : ℕ) (o : Option ℕ) → ((c : ℕ) → has i (list_at f.in_regions.lists c) ≡ true → o ≡ next_in i (list_at f.in_regions.lists c)) → (c : ℕ) → has i (list_at v.in_regions.lists c) ≡ true → o ≡ next_in i (list_at v.in_regions.lists c)
seen_next_block f v seen i o next = subst (λ (w : Forest _ _ _). (c : ℕ) → has i (list_at w.in_regions.lists c) ≡ true → o ≡ next_in i (list_at w.in_regions.lists c)) seen next

pub seen_next_region : {O B R : Type 0} (f v : Forest O B R) → f ≡ v → (i : ℕ) (o : Option ℕ) → ((c : ℕ) → has i (list_at f.in_ops.lists c) ≡ true → o ≡ next_in i (list_at f.in_ops.lists c)) → (c : ℕ) → has i (list_at v.in_ops.lists c) ≡ true → o ≡ next_in i (list_at v.in_ops.lists c)
seen_next_region f v seen i o next = subst (λ (w : Forest _ _ _). (c : ℕ) → has i (list_at w.in_ops.lists c) ≡ true → o ≡ next_in i (list_at w.in_ops.lists c)) seen next

has_among : (es : List Place) (i : ℕ) → has i (ops_among es) ≡ true → IsOneOf (Op i) es
has_among [] i h = absurd (both_ways false refl h)
has_among (Op j ∷ es) i h = ⊎_elim (λ t. inl (ap Op (eqb-true i j t))) (λ t. inr (has_among es i t)) (or_cases (eqb i j) (has i (ops_among es)) h)
has_among (Block j ∷ es) i h = inr (has_among es i h)
has_among (Region j ∷ es) i h = inr (has_among es i h)

among_distinct : (es : List Place) → AreOnce es → AreDistinctNumbers (ops_among es)
among_distinct [] o = tt
among_distinct (Op j ∷ es) o = (false_from_ne_true (has j (ops_among es)) (λ h. o.0 (has_among es j h)), among_distinct es o.1)
among_distinct (Block j ∷ es) o = among_distinct es o.1
among_distinct (Region j ∷ es) o = among_distinct es o.1

module _ {O B R : Type 0} (v : Forest O B R) (forest : IsForest v) (one : StandInOne (shape_of v)) (once : (e : Place) → AreOnce (children (shape_of v) e)) (x : Place) (used : HoldsInUse v x) where
  pub walk_once : AreOnce (walk_of v x)
  walk_once = once_walk (shape_of v) forest.grounded one once (x ∷ []) (walk_of v x) (walk_is v forest x used) ((λ f i y u w. i), tt)

  pub walk_all : (e : Place) → IsOneOf e (walk_of v x) ↔ IsInside (shape_of v) x e
  walk_all e = ((λ h. to h), (λ w. from w)) where
    to : IsOneOf e (walk_of v x) → IsInside (shape_of v) x e
    to h =
        let r : IsFrom (shape_of v) (x ∷ []) e = inside_walk (shape_of v) (x ∷ []) (walk_of v x) (walk_is v forest x used) e h in
        subst (λ (z : Place). IsInside (shape_of v) z e) (⊎_elim (λ i. i) (λ z. absurd z) r.one) r.inside

    from : IsInside (shape_of v) x e → IsOneOf e (walk_of v x)
    from w =
        let p : Position (shape_of v) x e (walk_of v x) = position (shape_of v) x (walk_of v x) (walk_is v forest x used) e w in
        subst (λ (ws : List Place). IsOneOf e ws) (sym p.parts) (one_right e p.before (e ∷ (p.inner ++ p.rest)) (inl refl))

  pub walk_begins : places_from (Some x) (walk_of v x) ≡ walk_of v x
  walk_begins =
      let p : Parts (shape_of v) x [] (walk_of v x) = walk_split (shape_of v) (x ∷ []) (walk_of v x) (walk_is v forest x used) x [] refl in
      let o : AreOnce (x ∷ (p.inner ++ p.rest)) = subst AreOnce p.parts walk_once in
      subst (λ (ws : List Place). drop_to_place x ws ≡ ws) (sym p.parts) (tail_from [] x (p.inner ++ p.rest) o)

  pub walk_short : length (ops_among (walk_of v x)) ≤ length v.ops
  walk_short = at_most (ops_among (walk_of v x)) (length v.ops) (among_distinct (walk_of v x) walk_once) (λ q h. used_below v.ops q (below (Op q) ((walk_all (Op q)).0 (has_among (walk_of v x) q h)))) where
    below : (e : Place) → IsInside (shape_of v) x e → HoldsInUse v e
    below _ itself = used
    below _ (deeper e d i w) = member_used v forest e d i
