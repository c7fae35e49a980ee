-- What the edits of each level keep.
use Rattle.std.proofs.Common.{◌≡◌, ◌≢◌, ℕ, ◌<◌, ◌||◌, ◌++◌, ◌⊎◌, inl, inr, ⊎_elim, Bool, true, false, cond, eqb, List, [], ◌∷◌, map, length, IsSome, refl, sym, subst, ◌∙◌, arith, set}
use Rattle.std.proofs.lemmas.List.{length-set, length-map, get_or-set_same, get_or-set_other}
use Rattle.std.proofs.lemmas.Bool.{eqb-true, or_cases, or_left, or_right, cases_eq, both_ways}
use Rattle.ir_entities.specs.Lists.{ListsView}
use Rattle.ir_entities.specs.Links.{has, list_at, put_before}
use Rattle.ir_arena.specs.declared.arena.Key.{Key}
use Rattle.ir_arena.specs.Arena.{held, get}
use Rattle.ir_entities.specs.declared.forest.Place.{Place}
use Rattle.ir_entities.specs.declared.forest.Place.TheVariants.{Op, Block, Region}
use Rattle.ir_entities.specs.Shape.{Shape, IsIn, IsInside, itself, deeper, IsGrounded, below}
use Rattle.ir_entities.specs.Forest.{Forest, IsForest, shape_of}
use Rattle.ir_entities.proofs.Segments.{has-append}
use Rattle.ir_entities.proofs.Trees.{list_at-map, held_is, members_kept, more_ops, more_blocks}
use Rattle.ir_entities.proofs.Climb.{used_below, inside_trans}

has_before : (m x i : ℕ) (xs : List ℕ) → has i (put_before m x xs) ≡ true → ((i ≡ x) × (has m xs ≡ true)) ⊎ (has i xs ≡ true)
has_before m x i [] h = inr h
has_before m x i (y ∷ ys) h = put_cases (eqb m y) (has_before m x i ys) refl h where
  put_cases : (b : Bool) → (has i (put_before m x ys) ≡ true → ((i ≡ x) × (has m ys ≡ true)) ⊎ (has i ys ≡ true)) → eqb m y ≡ b → has i (cond b (x ∷ y ∷ ys) (y ∷ put_before m x ys)) ≡ true → ((i ≡ x) × (has m (y ∷ ys) ≡ true)) ⊎ (has i (y ∷ ys) ≡ true)
  put_cases true rest at h = ⊎_elim
      (λ a. inl (eqb-true i x a, or_left (eqb m y) (has m ys) at))
      (λ a. inr a)
      (or_cases (eqb i x) (eqb i y || has i ys) h)
  put_cases false rest at h = ⊎_elim
      (λ a. inr (or_left (eqb i y) (has i ys) a))
      (λ a. ⊎_elim (λ b. inl (b.0, or_right (eqb m y) (has m ys) b.1)) (λ b. inr (or_right (eqb i y) (has i ys) b)) (rest a))
      (or_cases (eqb i y) (has i (put_before m x ys)) h)

has_before_at : (ls : List (List ℕ)) (m x d i : ℕ) → has i (list_at (map (put_before m x) ls) d) ≡ true → ((i ≡ x) × (has m (list_at ls d) ≡ true)) ⊎ (has i (list_at ls d) ≡ true)
has_before_at ls m x d i h = has_before m x i (list_at ls d) (rw (list_at-map (put_before m x) ls d refl) at h)

-- list o goes behind list d
module _ (ls ms : List (List ℕ)) (d o : ℕ) (differ : d ≢ o) (d_made : d < length ls) (o_made : o < length ls) (moved : ms ≡ set (set ls d (list_at ls d ++ list_at ls o)) o []) where
  at_donee : list_at ms d ≡ list_at ls d ++ list_at ls o
  at_donee = rw moved (get_or-set_other (set ls d (list_at ls d ++ list_at ls o)) o d [] [] differ ∙ get_or-set_same ls d (list_at ls d ++ list_at ls o) [] d_made)

  at_donor : list_at ms o ≡ []
  at_donor = rw moved (get_or-set_same (set ls d (list_at ls d ++ list_at ls o)) o [] [] (rw length-set o_made))

  at_third : (c : ℕ) → c ≢ d → c ≢ o → list_at ms c ≡ list_at ls c
  at_third c nd no_o = rw moved (get_or-set_other (set ls d (list_at ls d ++ list_at ls o)) o c [] [] no_o ∙ get_or-set_other ls d c (list_at ls d ++ list_at ls o) [] nd)

  -- what stands in a list then
  has_moved : (c i : ℕ) → has i (list_at ms c) ≡ true → ((c ≡ d) × (has i (list_at ls o) ≡ true)) ⊎ (has i (list_at ls c) ≡ true)
  has_moved c i h = ⊎_elim
      (λ (e : c ≡ d). ⊎_elim (λ a. inr (rw e a)) (λ a. inl (e, a)) (or_cases (has i (list_at ls d)) (has i (list_at ls o)) (sym (has-append i (list_at ls d) (list_at ls o)) ∙ rw (e, at_donee) at h)))
      (λ nd. ⊎_elim (λ (e : c ≡ o). absurd (both_ways false refl (rw (e, at_donor) at h))) (λ no_o. inr (rw (at_third c nd no_o) at h)) (cases_eq c o))
      (cases_eq c d)

-- new edges lead from places that move to places that are inside none of them
module _ (s t : Shape) (Moves : Place → Type 0) (adds : (e d : Place) → IsIn t e d → (Moves e × ((x : Place) → Moves x → IsInside s x d → ⊥)) ⊎ IsIn s e d) where
  still_kept : (e : Place) → IsGrounded s e → ((x : Place) → Moves x → IsInside s x e → ⊥) → IsGrounded t e
  still_kept e (below _ h) out = below e (λ d i. ⊎_elim
      (λ n. absurd (out e n.0 itself))
      (λ j. still_kept d (h d j) (λ x m w. out x m (deeper e d j w)))
      (adds e d i))

  moved_from : ((e : Place) → IsGrounded s e) → (e : Place) → IsGrounded s e → IsGrounded t e
  moved_from all e (below _ h) = below e (λ d i. ⊎_elim
      (λ n. still_kept d (all d) n.1)
      (λ j. moved_from all d (h d j))
      (adds e d i))

module _ {O B R : Type 0} (f v : Forest O B R) (seen : f ≡ v) (forest : IsForest f) (l : ListsView) (nodes : l.nodes ≡ f.in_blocks.nodes) where
  pub before_op : (m p : Key) → IsSome (get v.ops p) → (IsInside (shape_of v) (Op p.slot) (Op m.slot) → ⊥)
      → l.lists ≡ map (put_before m.slot p.slot) f.in_blocks.lists → IsForest (record f { in_blocks = l })
  before_op m p lp apart is = more_ops f v seen forest l nodes p.slot (rw (is, length-map) refl) (λ i c h.
      ⊎_elim
      (λ n. inl (n.0, (λ w. apart (rw (← seen) (deeper (Op m.slot) (Block c) n.1 w))), (rw seen (held_is v.ops p lp)), forest.ops.holders c m.slot n.1))
      (λ o. inr o)
      (has_before_at f.in_blocks.lists m.slot p.slot c i (rw is at h)))

  appended_op : (d o : ℕ) → IsSome (held f.blocks d) → IsSome (held f.blocks o) → d ≢ o
      → ((i : ℕ) → has i (list_at f.in_blocks.lists o) ≡ true → IsInside (shape_of f) (Op i) (Block d) → ⊥)
      → l.lists ≡ set (set f.in_blocks.lists d (list_at f.in_blocks.lists d ++ list_at f.in_blocks.lists o)) o [] → IsForest (record f { in_blocks = l })
  appended_op d o ud uo differ apart is =
      let d_below : d < length f.blocks = used_below f.blocks d ud in
      let o_below : o < length f.blocks = used_below f.blocks o uo in
      let d_made : d < length f.in_blocks.lists = omega (arith, d_below, forest.ops.lists_made) in
      let o_made : o < length f.in_blocks.lists = omega (arith, o_below, forest.ops.lists_made) in
      let now : (c i : ℕ) → has i (list_at l.lists c) ≡ true → ((c ≡ d) × (has i (list_at f.in_blocks.lists o) ≡ true)) ⊎ (has i (list_at f.in_blocks.lists c) ≡ true) = has_moved f.in_blocks.lists l.lists d o differ d_made o_made is in record {
        ops = members_kept f.ops f.blocks f.in_blocks l forest.ops (rw (is, length-set, length-set) refl) (sym nodes) (λ c i h. ⊎_elim (λ n. inl (forest.ops.members o i n.1, rw n.0 ud)) (λ k. inr k) (now c i h));
        blocks = forest.blocks;
        regions = forest.regions;
        grounded = λ e. moved_from (shape_of f) (shape_of (record f { in_blocks = l })) (λ e. (i : ℕ) × (e ≡ Op i) × (has i (list_at f.in_blocks.lists o) ≡ true)) (edges now) forest.grounded e (forest.grounded e);
      }
    where
      out : (c : ℕ) → c ≡ d → (x : Place) → (i : ℕ) × (x ≡ Op i) × (has i (list_at f.in_blocks.lists o) ≡ true) → IsInside (shape_of f) x (Block c) → ⊥
      out c e x m w = apart m.0 m.2 (rw (← m.1, ← e) w)

      edges : ((c i : ℕ) → has i (list_at l.lists c) ≡ true → ((c ≡ d) × (has i (list_at f.in_blocks.lists o) ≡ true)) ⊎ (has i (list_at f.in_blocks.lists c) ≡ true))
          → (e k : Place) → IsIn (shape_of (record f { in_blocks = l })) e k
          → (((i : ℕ) × (e ≡ Op i) × (has i (list_at f.in_blocks.lists o) ≡ true)) × ((x : Place) → (i : ℕ) × (x ≡ Op i) × (has i (list_at f.in_blocks.lists o) ≡ true) → IsInside (shape_of f) x k → ⊥)) ⊎ IsIn (shape_of f) e k
      edges now (Op i) (Block c) h = ⊎_elim (λ n. inl ((i, refl, n.1), out c n.0)) (λ k. inr k) (now c i h)
      edges now (Block i) (Region c) h = inr h
      edges now (Region i) (Op c) h = inr h
      edges now (Op i) (Op c) h = absurd h
      edges now (Op i) (Region c) h = absurd h
      edges now (Block i) (Op c) h = absurd h
      edges now (Block i) (Block c) h = absurd h
      edges now (Region i) (Block c) h = absurd h
      edges now (Region i) (Region c) h = absurd h

  pub behind_op : (d o : Key) → IsSome (get v.blocks d) → IsSome (get v.blocks o) → d.slot ≢ o.slot
      → ((i : ℕ) → has i (list_at v.in_blocks.lists o.slot) ≡ true → IsInside (shape_of v) (Op i) (Block d.slot) → ⊥)
      → l.lists ≡ set (set f.in_blocks.lists d.slot (list_at f.in_blocks.lists d.slot ++ list_at f.in_blocks.lists o.slot)) o.slot [] → IsForest (record f { in_blocks = l })
  behind_op d o ld lo differ apart is = appended_op d.slot o.slot (rw seen (held_is v.blocks d ld)) (rw seen (held_is v.blocks o lo)) differ
      (subst (λ (w : Forest O B R). (i : ℕ) → has i (list_at w.in_blocks.lists o.slot) ≡ true → IsInside (shape_of w) (Op i) (Block d.slot) → ⊥) (sym seen) apart) is

module _ {O B R : Type 0} (f v : Forest O B R) (seen : f ≡ v) (forest : IsForest f) (l : ListsView) (nodes : l.nodes ≡ f.in_regions.nodes) where
  pub before_block : (m p : Key) → IsSome (get v.blocks p) → (IsInside (shape_of v) (Block p.slot) (Block m.slot) → ⊥)
      → l.lists ≡ map (put_before m.slot p.slot) f.in_regions.lists → IsForest (record f { in_regions = l })
  before_block m p lp apart is = more_blocks f v seen forest l nodes p.slot (rw (is, length-map) refl) (λ i c h.
      ⊎_elim
      (λ n. inl (n.0, (λ w. apart (rw (← seen) (deeper (Block m.slot) (Region c) n.1 w))), (rw seen (held_is v.blocks p lp)), forest.blocks.holders c m.slot n.1))
      (λ o. inr o)
      (has_before_at f.in_regions.lists m.slot p.slot c i (rw is at h)))

  appended_block : (d o : ℕ) → IsSome (held f.regions d) → IsSome (held f.regions o) → d ≢ o
      → ((i : ℕ) → has i (list_at f.in_regions.lists o) ≡ true → IsInside (shape_of f) (Block i) (Region d) → ⊥)
      → l.lists ≡ set (set f.in_regions.lists d (list_at f.in_regions.lists d ++ list_at f.in_regions.lists o)) o [] → IsForest (record f { in_regions = l })
  appended_block d o ud uo differ apart is =
      let d_below : d < length f.regions = used_below f.regions d ud in
      let o_below : o < length f.regions = used_below f.regions o uo in
      let d_made : d < length f.in_regions.lists = omega (arith, d_below, forest.blocks.lists_made) in
      let o_made : o < length f.in_regions.lists = omega (arith, o_below, forest.blocks.lists_made) in
      let now : (c i : ℕ) → has i (list_at l.lists c) ≡ true → ((c ≡ d) × (has i (list_at f.in_regions.lists o) ≡ true)) ⊎ (has i (list_at f.in_regions.lists c) ≡ true) = has_moved f.in_regions.lists l.lists d o differ d_made o_made is in record {
        blocks = members_kept f.blocks f.regions f.in_regions l forest.blocks (rw (is, length-set, length-set) refl) (sym nodes) (λ c i h. ⊎_elim (λ n. inl (forest.blocks.members o i n.1, rw n.0 ud)) (λ k. inr k) (now c i h));
        ops = forest.ops;
        regions = forest.regions;
        grounded = λ e. moved_from (shape_of f) (shape_of (record f { in_regions = l })) (λ e. (i : ℕ) × (e ≡ Block i) × (has i (list_at f.in_regions.lists o) ≡ true)) (edges now) forest.grounded e (forest.grounded e);
      }
    where
      out : (c : ℕ) → c ≡ d → (x : Place) → (i : ℕ) × (x ≡ Block i) × (has i (list_at f.in_regions.lists o) ≡ true) → IsInside (shape_of f) x (Region c) → ⊥
      out c e x m w = apart m.0 m.2 (rw (← m.1, ← e) w)

      edges : ((c i : ℕ) → has i (list_at l.lists c) ≡ true → ((c ≡ d) × (has i (list_at f.in_regions.lists o) ≡ true)) ⊎ (has i (list_at f.in_regions.lists c) ≡ true))
          → (e k : Place) → IsIn (shape_of (record f { in_regions = l })) e k
          → (((i : ℕ) × (e ≡ Block i) × (has i (list_at f.in_regions.lists o) ≡ true)) × ((x : Place) → (i : ℕ) × (x ≡ Block i) × (has i (list_at f.in_regions.lists o) ≡ true) → IsInside (shape_of f) x k → ⊥)) ⊎ IsIn (shape_of f) e k
      edges now (Op i) (Block c) h = inr h
      edges now (Block i) (Region c) h = ⊎_elim (λ n. inl ((i, refl, n.1), out c n.0)) (λ k. inr k) (now c i h)
      edges now (Region i) (Op c) h = inr h
      edges now (Op i) (Op c) h = absurd h
      edges now (Op i) (Region c) h = absurd h
      edges now (Block i) (Op c) h = absurd h
      edges now (Block i) (Block c) h = absurd h
      edges now (Region i) (Block c) h = absurd h
      edges now (Region i) (Region c) h = absurd h

  pub behind_block : (d o : Key) → IsSome (get v.regions d) → IsSome (get v.regions o) → d.slot ≢ o.slot
      → ((i : ℕ) → has i (list_at v.in_regions.lists o.slot) ≡ true → IsInside (shape_of v) (Block i) (Region d.slot) → ⊥)
      → l.lists ≡ set (set f.in_regions.lists d.slot (list_at f.in_regions.lists d.slot ++ list_at f.in_regions.lists o.slot)) o.slot [] → IsForest (record f { in_regions = l })
  behind_block d o ld lo differ apart is = appended_block d.slot o.slot (rw seen (held_is v.regions d ld)) (rw seen (held_is v.regions o lo)) differ
      (subst (λ (w : Forest O B R). (i : ℕ) → has i (list_at w.in_regions.lists o.slot) ≡ true → IsInside (shape_of w) (Block i) (Region d.slot) → ⊥) (sym seen) apart) is

-- what isn't inside a block isn't inside what stands in the block
pub holder_outside : (s : Shape) (o : ℕ) (d : Place) → (IsInside s (Block o) d → ⊥) → (i : ℕ) → has i (list_at s.in_blocks o) ≡ true → IsInside s (Op i) d → ⊥
holder_outside s o d out i h w = out (inside_trans s (Block o) (Op i) d (deeper (Op i) (Block o) h itself) w)
