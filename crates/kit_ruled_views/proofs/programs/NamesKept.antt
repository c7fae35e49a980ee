-- Names that are kept apart in a tree are kept apart in each operation of it; and numbering forgets them.
use Rattle.std.proofs.Common.{◌≡◌, ⊎_elim, inl, inr, ℕ, Bool, true, false, List, [], ◌∷◌, ◌++◌, map, Option, Some, None}
use Rattle.std.proofs.Common.{refl, sym, ap, ◌∙◌, subst}
use Rattle.std.specs.Prelude.{slice_get}
use Rattle.ir_trees.specs.Names.{Names, Contents}
use Rattle.ir_trees.specs.Renames.{Maps, KeepsApart, IsOneToOne, names_of, values_at, values_in, values_of, blocks_in}
use Rattle.ir_trees.specs.Renames.{blocks_of}
use Rattle.ir_trees.specs.Searched.{Lists, heads_in, operation_names}
use Rattle.ir_trees.specs.Trees.{Head, Sort, Tree, end, operation, block, region, Root}
use Rattle.opt_trees.specs.Occurrences.{Has, Occurrence, Inside, inner, next_block, next_region}
use Rattle.opt_trees.specs.Occurrences.{occurrences_in, occurrences_of, at_root, defined_in}
use Rattle.opt_trees.specs.Sccp as trees
use Rattle.opt_trees.specs.Sccp.{fresh, put_root}
use Rattle.opt_trees.proofs.Defined.{argument_defined}
use Rattle.opt_trees.proofs.Lists.{has-map, has-from_map}
use Rattle.opt_trees.proofs.NoneDead.{has-append, has-left, has-right}
use Rattle.opt_trees.proofs.Put.{operation_is}
use Rattle.kit_ops.specs.declared.attributes.IntegerAttr.{IntegerAttr}
use Rattle.kit.specs.Meaning.{kit}
use Rattle.kit_behaviour.specs.Machine.{Block, Fun, ops_left, arguments_of}
use Rattle.kit_behaviour.specs.Numbering.{place_fun, AnyBlock}
use Rattle.kit_behaviour.specs.Renaming.{rename_fun, AllNamed, OpsNamed}
use Rattle.kit_behaviour.proofs.ControlFlow.NamedPlacing.{placed_on}
use Rattle.kit_views.specs.FlatView.{IsSameness, FlattensTo, names_in}
use Rattle.kit_views.specs.Reading.{Reading, kit_contents}
use Rattle.kit_views.proofs.Lists.{has_get, at_has}
use Rattle.kit_views.proofs.Pairs.{backs, block_backs}
use Rattle.kit_ruled_views.proofs.RenamedViews.{value_listed}
use Rattle.kit_ruled_views.specs.Sound.{tree_of}
use Rattle.kit_ruled_views.proofs.programs.FlatDefined.{all_named, ops_named, op_named}

-- ---- names while constants are put in

abbrev pub told_fresh : {V : Type 0} → (V → V → Bool) → trees.Name V V → trees.Name V V → Bool
told_fresh same (trees.Old a) (trees.Old b) = same a b
told_fresh same (trees.New a) (trees.New b) = same a b
told_fresh same (trees.Old a) (trees.New b) = false
told_fresh same (trees.New a) (trees.Old b) = false

pub fresh_law : {V : Type 0} (same : V → V → Bool) → IsSameness same → IsSameness (told_fresh same)
fresh_law {V} same law = record { true_same = true_same; same_true = same_true }
  where
    true_same : (x y : trees.Name V V) → told_fresh same x y ≡ true → x ≡ y
    true_same (trees.Old a) (trees.Old b) e = ap trees.Old (law.true_same a b e)
    true_same (trees.New a) (trees.New b) e = ap trees.New (law.true_same a b e)
    true_same (trees.Old a) (trees.New b) e = absurd (cc e)
    true_same (trees.New a) (trees.Old b) e = absurd (cc e)

    same_true : (x : trees.Name V V) → told_fresh same x x ≡ true
    same_true (trees.Old a) = law.same_true a
    same_true (trees.New a) = law.same_true a

-- ---- what is named in an operation is named where it stands

module _ {N : Names} {S : Contents} where
  heads_sub : {s : Sort} (t : Tree N S s) (c : Inside N S s) (q : Occurrence N S) → Has q (occurrences_in t c) →
      (h : Head N S) → Has h (q.head ∷ heads_in q.regions) → Has h (heads_in t)
  heads_sub end c q i h m = absurd i
  heads_sub (operation g rs rest) c q i h m =
      ⊎_elim
      (λ e. ⊎_elim
      (λ k. inl (k ∙ ap (λ (x : Occurrence N S). x.head) e))
      (λ k. inr (has-left h (heads_in rs) (heads_in rest) (subst (λ (x : Occurrence N S). Has h (heads_in x.regions))
      e k)))
      m)
      (λ j. inr (⊎_elim
      (λ k. has-left h (heads_in rs) (heads_in rest) (heads_sub rs (inner g c) q k h m))
      (λ k. has-right h (heads_in rs) (heads_in rest) (heads_sub rest c q k h m))
      (has-append q (occurrences_in rs (inner g c)) (occurrences_in rest c) j)))
      i
  heads_sub (block l os rest) c q i h m =
      ⊎_elim
      (λ k. has-left h (heads_in os) (heads_in rest) (heads_sub os (record { spot = c; label = l }) q k h m))
      (λ k. has-right h (heads_in os) (heads_in rest) (heads_sub rest (next_block c) q k h m))
      (has-append q (occurrences_in os (record { spot = c; label = l })) (occurrences_in rest (next_block c)) i)
  heads_sub (region bs rest) c q i h m =
      ⊎_elim
      (λ k. has-left h (heads_in bs) (heads_in rest) (heads_sub bs c q k h m))
      (λ k. has-right h (heads_in bs) (heads_in rest) (heads_sub rest (next_region c) q k h m))
      (has-append q (occurrences_in bs c) (occurrences_in rest (next_region c)) i)

  values_sub : {s : Sort} (t : Tree N S s) (c : Inside N S s) (q : Occurrence N S) → Has q (occurrences_in t c) →
      (v : N.value) → Has v (values_at q.head ++ values_in q.regions) → Has v (values_in t)
  values_sub end c q i v m = absurd i
  values_sub (operation g rs rest) c q i v m =
      let below : List N.value = values_in rs ++ values_in rest in
      ⊎_elim
      (λ e. ⊎_elim
      (λ k. has-left v (values_at g) below k)
      (λ k. has-right v (values_at g) below (has-left v (values_in rs) (values_in rest) k))
      (has-append v (values_at g) (values_in rs)
      (subst (λ (x : Occurrence N S). Has v (values_at x.head ++ values_in x.regions)) e m)))
      (λ j. has-right v (values_at g) below (⊎_elim
      (λ k. has-left v (values_in rs) (values_in rest) (values_sub rs (inner g c) q k v m))
      (λ k. has-right v (values_in rs) (values_in rest) (values_sub rest c q k v m))
      (has-append q (occurrences_in rs (inner g c)) (occurrences_in rest c) j)))
      i
  values_sub (block l os rest) c q i v m =
      has-right v (names_of l.arguments) (values_in os ++ values_in rest) (⊎_elim
      (λ k. has-left v (values_in os) (values_in rest) (values_sub os (record { spot = c; label = l }) q k v m))
      (λ k. has-right v (values_in os) (values_in rest) (values_sub rest (next_block c) q k v m))
      (has-append q (occurrences_in os (record { spot = c; label = l })) (occurrences_in rest (next_block c)) i))
  values_sub (region bs rest) c q i v m =
      ⊎_elim
      (λ k. has-left v (values_in bs) (values_in rest) (values_sub bs c q k v m))
      (λ k. has-right v (values_in bs) (values_in rest) (values_sub rest (next_region c) q k v m))
      (has-append q (occurrences_in bs c) (occurrences_in rest (next_region c)) i)

  blocks_sub : {s : Sort} (t : Tree N S s) (c : Inside N S s) (q : Occurrence N S) → Has q (occurrences_in t c) →
      (v : N.block) → Has v (q.head.successors ++ blocks_in q.regions) → Has v (blocks_in t)
  blocks_sub end c q i v m = absurd i
  blocks_sub (operation g rs rest) c q i v m =
      let below : List N.block = blocks_in rs ++ blocks_in rest in
      ⊎_elim
      (λ e. ⊎_elim
      (λ k. has-left v g.successors below k)
      (λ k. has-right v g.successors below (has-left v (blocks_in rs) (blocks_in rest) k))
      (has-append v g.successors (blocks_in rs)
      (subst (λ (x : Occurrence N S). Has v (x.head.successors ++ blocks_in x.regions)) e m)))
      (λ j. has-right v g.successors below (⊎_elim
      (λ k. has-left v (blocks_in rs) (blocks_in rest) (blocks_sub rs (inner g c) q k v m))
      (λ k. has-right v (blocks_in rs) (blocks_in rest) (blocks_sub rest c q k v m))
      (has-append q (occurrences_in rs (inner g c)) (occurrences_in rest c) j)))
      i
  blocks_sub (block l os rest) c q i v m =
      inr (⊎_elim
      (λ k. has-left v (blocks_in os) (blocks_in rest) (blocks_sub os (record { spot = c; label = l }) q k v m))
      (λ k. has-right v (blocks_in os) (blocks_in rest) (blocks_sub rest (next_block c) q k v m))
      (has-append q (occurrences_in os (record { spot = c; label = l })) (occurrences_in rest (next_block c)) i))
  blocks_sub (region bs rest) c q i v m =
      ⊎_elim
      (λ k. has-left v (blocks_in bs) (blocks_in rest) (blocks_sub bs c q k v m))
      (λ k. has-right v (blocks_in bs) (blocks_in rest) (blocks_sub rest (next_region c) q k v m))
      (has-append q (occurrences_in bs c) (occurrences_in rest (next_region c)) i)

listed : {X : Type 0} (xs : List X) (x : X) → Has x xs → Lists xs x
listed xs x h = let a = at_has xs x h in (a.place, a.is)

keeps_sub : {X Y : Type 0} (f : X → Y) (xs ys : List X) → ((x : X) → Has x xs → Has x ys) → KeepsApart f ys →
    KeepsApart f xs
keeps_sub f xs ys sub keep x y i j e =
    keep x y (listed ys x (sub x (has_get xs i.0 x i.1))) (listed ys y (sub y (has_get xs j.0 y j.1))) e

-- names kept apart in a root are kept apart in each operation below it
one_to_one_sub : {N M : Names} {S : Contents} (m : Maps N M) (t : Root N S) → IsOneToOne m t → (q : Occurrence N S) →
    Has q (occurrences_of t) → IsOneToOne m (record { head = q.head; regions = q.regions })
one_to_one_sub {N} {M} {S} m t one q i = record {
  operations = keeps_sub m.operation
      (map (λ (h : Head N S). h.name) (q.head ∷ heads_in q.regions)) (operation_names t)
      (λ x h.
      let z = has-from_map (λ (h : Head N S). h.name) x (q.head ∷ heads_in q.regions) h in
      subst (λ y. Has y (operation_names t)) z.is
      (has-map (λ (h : Head N S). h.name) z.it (t.head ∷ heads_in t.regions)
      (inr (heads_sub t.regions (at_root t) q i z.it z.stands)))) one.operations;
  blocks = keeps_sub m.block (q.head.successors ++ blocks_in q.regions) (blocks_of t)
      (λ x h. has-right x t.head.successors (blocks_in t.regions) (blocks_sub t.regions (at_root t) q i x h))
      one.blocks;
  values = keeps_sub m.value (values_at q.head ++ values_in q.regions) (values_of t)
      (λ x h. has-right x (values_at t.head) (values_in t.regions) (values_sub t.regions (at_root t) q i x h))
      one.values;
}

-- ---- numbering forgets them

module _ {N M : Names} {S : Contents} (r : Reading S) (same : N.value → N.value → Bool) (other : M.value → M.value →
    Bool)
    (law : IsSameness same) (other_law : IsSameness other) (m : Maps N M) (t : Root N S) (f : Fun N.value)
    (one : IsOneToOne m t) (flat : FlattensTo r t f) where
  abbrev P : N.value → Type 0
  P v = Lists (values_of t) v

  apart : (x y : N.value) → P x → P y → other (m.value x) (m.value y) ≡ same x y
  apart x y a b = by_same (same x y) refl (other (m.value x) (m.value y)) refl
    where
      by_same : (p : Bool) → same x y ≡ p → (q : Bool) → other (m.value x) (m.value y) ≡ q →
          other (m.value x) (m.value y) ≡ same x y
      by_same true e true g = g ∙ sym e
      by_same false e false g = g ∙ sym e
      by_same true e false g =
          let bad : true ≡ false =
          sym (other_law.same_true (m.value x)) ∙ ap (λ z. other (m.value x) (m.value z)) (law.true_same x y e) ∙ g in
          absurd (cc bad)
      by_same false e true g =
          let z : x ≡ y = one.values x y a b (other_law.true_same (m.value x) (m.value y) g) in
          let bad : true ≡ false = sym (law.same_true x) ∙ ap (same x) z ∙ e in absurd (cc bad)

  below : (v : N.value) → Has v (values_in t.regions) → P v
  below v h = listed (values_of t) v (has-right v (values_at t.head) (values_in t.regions) h)

  own_value : (p : Occurrence N S) → Has p (occurrences_of t) → (v : N.value) → Has v (values_at p.head) → P v
  own_value p i v h =
      below v (values_sub t.regions (at_root t) p i v (has-left v (values_at p.head) (values_in p.regions) h))

  strip_there : (p : Occurrence N S) → Has p (occurrences_in flat.view.blocks (at_root t)) → Has p (occurrences_of t)
  strip_there p i =
      subst (λ z. Has p (occurrences_in z (at_root t))) (sym flat.view.region)
      (has-left p (occurrences_in flat.view.blocks (at_root t)) [] i)

  block_named : (b : ℕ) (o : Option (Block N.value)) → slice_get f b ≡ o → OpsNamed P AnyBlock (ops_left o 0)
  block_named b None e = tt
  block_named b (Some k) e =
      ops_named P k.ops
      (λ op i.
      let q = backs r (names_in flat.view.blocks) flat.view.blocks f (at_root t) flat.view.are b k op e i in
      let stands = strip_there q.it q.stands in
      op_named r (names_in flat.view.blocks) P q.it.head op q.is
      (λ x h. own_value q.it stands x (has-left x (names_of q.it.head.results) q.it.head.operands h))
      (λ x h. own_value q.it stands x (has-right x (names_of q.it.head.results) q.it.head.operands h)))

  arguments_named : (b : ℕ) (o : Option (Block N.value)) → slice_get f b ≡ o → AllNamed P (arguments_of o)
  arguments_named b None e = tt
  arguments_named b (Some k) e =
      let x = block_backs r (names_in flat.view.blocks) flat.view.blocks f (at_root t) flat.view.are b k e in
      all_named P k.arguments
      (λ v i. below v (value_listed t.regions v
      (subst (λ z. Has v (defined_in z)) (sym flat.view.region)
      (has-left v (defined_in flat.view.blocks) []
      (argument_defined flat.view.blocks (at_root t) x.it v x.stands (subst (Has v) (sym x.same.arguments) i))))))

  pub placed_under : place_fun other (rename_fun m.value (Some f)) ≡ place_fun same (Some f)
  placed_under =
      placed_on same other m.value P apart (Some f)
      (record {
        ops = λ b. block_named b (slice_get f b) refl;
        arguments = λ b. arguments_named b (slice_get f b) refl;
      })

-- names kept apart in a tree with constants are kept apart in each operation of it with constants
pub one_to_one_inside : {N M : Names} (made : N.value → Option IntegerAttr) (m : Maps (fresh N) M)
    (t : Root N kit_contents) → IsOneToOne m (put_root {N = N} kit made t) → (o : Occurrence N kit_contents) →
    Has o (occurrences_of t) → IsOneToOne m (put_root {N = N} kit made (tree_of o))
one_to_one_inside {N} made m t one o stands =
    let z = operation_is {N = N} kit made t.regions (at_root t) (at_root (put_root {N = N} kit made t)) tt o stands in
    subst (IsOneToOne m) (λ i. record { head = z.is.head i; regions = z.is.regions i })
    (one_to_one_sub {N = fresh N} m (put_root {N = N} kit made t) one z.it z.stands)
