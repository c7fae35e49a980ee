-- What stands in an operation, seen from the operation and from a tree that the operation stands in.
use Rattle.std.proofs.Common.{◌≡◌, false, ◌⊎◌, ⊎_elim, inl, inr, List, ◌∷◌, ◌++◌, map, refl, sym, ap, ◌∙◌, subst}
use Rattle.ir_trees.specs.Names.{Names, Contents}
use Rattle.ir_trees.specs.Searched.{AreDistinct, labels_in, operation_names, block_names}
use Rattle.ir_trees.specs.Trees.{Head, Label, Sort, Operations, Blocks, Regions, Tree, end, operation, block, region}
use Rattle.ir_trees.specs.Trees.{Root}
use Rattle.opt_trees.specs.Occurrences.{Has, Spot, OperationSite, Occurrence, BlockOccurrence, Inside, inner, next_block}
use Rattle.opt_trees.specs.Occurrences.{next_region, occurrences_in, block_occurrences_in, occurrences_of, at_root}
use Rattle.opt_trees.specs.Occurrences.{block_occurrences_of, defined_in}
use Rattle.opt_trees.proofs.Homes.{spot_at}
use Rattle.opt_trees.proofs.Lists.{map-map, map-append}
use Rattle.opt_trees.proofs.NoneDead.{has-append, has-left, has-right, inside_is}
use Rattle.kit.specs.Meaning.{kit}
use Rattle.kit_views.specs.Reading.{kit_contents}
use Rattle.kit_views.proofs.Lists.{Distinct, to_distinct, one_named, one_source}
use Rattle.kit_views.proofs.Definers.{Definer, makes, definers, all_made, heads_are}

module _ {N : Names} {S : Contents} (around : List N.operation) (within : List N.block) where
  -- with what is around the operation
  abbrev pub lift_spot : Spot N S → Spot N S
  lift_spot c = record {
    owner = c.owner;
    around = c.around ++ around;
    within = c.within ++ within;
    region = c.region;
    first = c.first;
  }

  abbrev pub lift_site : OperationSite N S → OperationSite N S
  lift_site c = record { spot = lift_spot c.spot; label = c.label }

  abbrev pub lift : Occurrence N S → Occurrence N S
  lift o = record { site = lift_site o.site; head = o.head; regions = o.regions }

  abbrev pub lift_block : BlockOccurrence N S → BlockOccurrence N S
  lift_block x = record { spot = lift_spot x.spot; label = x.label; operations = x.operations }

abbrev pub lift_inside : (N : Names) (S : Contents) → List N.operation → List N.block → (s : Sort) → Inside N S s →
    Inside N S s
lift_inside N S around within Operations c = lift_site {N = N} {S = S} around within c
lift_inside N S around within Blocks c = lift_spot {N = N} {S = S} around within c
lift_inside N S around within Regions c = lift_spot {N = N} {S = S} around within c

module _ {N : Names} {S : Contents} (around : List N.operation) (within : List N.block) where
  abbrev up : Occurrence N S → Occurrence N S
  up = lift {N = N} {S = S} around within

  abbrev up_block : BlockOccurrence N S → BlockOccurrence N S
  up_block = lift_block {N = N} {S = S} around within

  pub lifted : {s : Sort} (t : Tree N S s) (c : Inside N S s) →
      occurrences_in t (lift_inside N S around within s c) ≡ map up
      (occurrences_in t c)
  lifted end c = refl
  lifted (operation h rs rest) c =
      ap (λ l. record { site = lift_site {N = N} {S = S} around within c; head = h; regions = rs } ∷ l)
      ((λ i. lifted rs (inner h c) i ++ lifted rest c i)
      ∙ sym (map-append up (occurrences_in rs (inner h c)) (occurrences_in rest c)))
  lifted (block l ops rest) c =
      (λ i. lifted ops (record { spot = c; label = l }) i ++ lifted rest (next_block c) i)
      ∙ sym (map-append up (occurrences_in ops (record { spot = c; label = l })) (occurrences_in rest (next_block c)))
  lifted (region bs rest) c =
      (λ i. lifted bs c i ++ lifted rest (next_region c) i)
      ∙ sym (map-append up (occurrences_in bs c) (occurrences_in rest (next_region c)))

  pub lifted_blocks : {s : Sort} (t : Tree N S s) (c : Inside N S s) →
      block_occurrences_in t (lift_inside N S around within s c) ≡ map
      up_block (block_occurrences_in t c)
  lifted_blocks end c = refl
  lifted_blocks (operation h rs rest) c =
      (λ i. lifted_blocks rs (inner h c) i ++ lifted_blocks rest c i)
      ∙ sym (map-append up_block (block_occurrences_in rs (inner h c)) (block_occurrences_in rest c))
  lifted_blocks (block l ops rest) c =
      ap (λ m. record { spot = lift_spot {N = N} {S = S} around within c; label = l; operations = ops } ∷ m)
      ((λ i. lifted_blocks ops (record { spot = c; label = l }) i ++ lifted_blocks rest (next_block c) i)
      ∙ sym (map-append up_block (block_occurrences_in ops (record { spot = c; label = l }))
      (block_occurrences_in rest (next_block c))))
  lifted_blocks (region bs rest) c =
      (λ i. lifted_blocks bs c i ++ lifted_blocks rest (next_region c) i)
      ∙ sym (map-append up_block (block_occurrences_in bs c) (block_occurrences_in rest (next_region c)))

module _ {N : Names} {S : Contents} where
  -- blocks inside an operation stand where it does
  pub blocks_inside : {s : Sort} (t : Tree N S s) (c : Inside N S s) (o : Occurrence N S) (x : BlockOccurrence N S) →
      Has o (occurrences_in t c) → Has x (block_occurrences_in o.regions (inner o.head o.site)) →
      Has x (block_occurrences_in t c)
  blocks_inside end c o x h k = absurd h
  blocks_inside (operation g rs rest) c o x h k =
      ⊎_elim
      (λ z. has-left x (block_occurrences_in rs (inner g c)) (block_occurrences_in rest c)
      (subst (λ y. Has x (block_occurrences_in y.regions (inner y.head y.site))) z k))
      (λ z. ⊎_elim
      (λ y. has-left x (block_occurrences_in rs (inner g c)) (block_occurrences_in rest c)
      (blocks_inside rs (inner g c) o x y k))
      (λ y. has-right x (block_occurrences_in rs (inner g c)) (block_occurrences_in rest c)
      (blocks_inside rest c o x y k))
      (has-append o (occurrences_in rs (inner g c)) (occurrences_in rest c) z))
      h
  blocks_inside (block l ops rest) c o x h k =
      let b : OperationSite N S = record { spot = c; label = l } in
      ⊎_elim
      (λ y. inr (has-left x (block_occurrences_in ops b) (block_occurrences_in rest (next_block c))
      (blocks_inside ops b o x y k)))
      (λ y. inr (has-right x (block_occurrences_in ops b) (block_occurrences_in rest (next_block c))
      (blocks_inside rest (next_block c) o x y k)))
      (has-append o (occurrences_in ops b) (occurrences_in rest (next_block c)) h)
  blocks_inside (region bs rest) c o x h k =
      ⊎_elim
      (λ y. has-left x (block_occurrences_in bs c) (block_occurrences_in rest (next_region c))
      (blocks_inside bs c o x y k))
      (λ y. has-right x (block_occurrences_in bs c) (block_occurrences_in rest (next_region c))
      (blocks_inside rest (next_region c) o x y k))
      (has-append o (occurrences_in bs c) (occurrences_in rest (next_region c)) h)

  -- the labels of the blocks, in the same order
  pub labels_are : {s : Sort} (t : Tree N S s) (c : Inside N S s) → map (λ (x : BlockOccurrence N S). x.label)
      (block_occurrences_in t c) ≡ labels_in t
  labels_are end c = refl
  labels_are (operation h rs rest) c =
      map-append (λ (x : BlockOccurrence N S). x.label) (block_occurrences_in rs (inner h c))
      (block_occurrences_in rest c)
      ∙ λ i. labels_are rs (inner h c) i ++ labels_are rest c i
  labels_are (block l ops rest) c =
      ap (λ m. l ∷ m)
      (map-append (λ (x : BlockOccurrence N S). x.label) (block_occurrences_in ops (record { spot = c; label = l }))
      (block_occurrences_in rest (next_block c))
      ∙ λ i. labels_are ops (record { spot = c; label = l }) i ++ labels_are rest (next_block c) i)
  labels_are (region bs rest) c =
      map-append (λ (x : BlockOccurrence N S). x.label) (block_occurrences_in bs c)
      (block_occurrences_in rest (next_region c))
      ∙ λ i. labels_are bs c i ++ labels_are rest (next_region c) i

  -- an operation that another stands in
  pub record Holds (os : List (Occurrence N S)) (a : N.operation) (o : Occurrence N S) : Type 0 where
    pub it : Occurrence N S
    pub stands : Has it os
    pub name : it.head.name ≡ a
    pub inside : Has o (occurrences_in it.regions (inner it.head it.site))

  in_more : {os ps : List (Occurrence N S)} {a : N.operation} {o : Occurrence N S} →
      ((q : Occurrence N S) → Has q os → Has q ps) → Holds os a o → Holds ps a o
  in_more f z = record { it = z.it; stands = f z.it z.stands; name = z.name; inside = z.inside }

  -- what is around an operation is around the whole list, or holds the operation
  pub holder : {s : Sort} (t : Tree N S s) (c : Inside N S s) (o : Occurrence N S) (a : N.operation) →
      Has o (occurrences_in t c) → Has a o.site.spot.around → Has a (spot_at s c).around ⊎ Holds (occurrences_in t c)
      a o
  holder end c o a h k = absurd h
  holder (operation g rs rest) c o a h k =
      let own : Occurrence N S = record { site = c; head = g; regions = rs } in
      ⊎_elim
      (λ z. inl (subst (λ (y : Occurrence N S). Has a y.site.spot.around) z k))
      (λ z. ⊎_elim
      (λ y. ⊎_elim
      (λ w. ⊎_elim
      (λ e. inr (record { it = own; stands = inl refl; name = sym e; inside = y }))
      (λ v. inl v)
      w)
      (λ w. inr (in_more (λ q v. inr (has-left q (occurrences_in rs (inner g c)) (occurrences_in rest c) v)) w))
      (holder rs (inner g c) o a y k))
      (λ y. ⊎_elim
      (λ w. inl w)
      (λ w. inr (in_more (λ q v. inr (has-right q (occurrences_in rs (inner g c)) (occurrences_in rest c) v)) w))
      (holder rest c o a y k))
      (has-append o (occurrences_in rs (inner g c)) (occurrences_in rest c) z))
      h
  holder (block l ops rest) c o a h k =
      let b : OperationSite N S = record { spot = c; label = l } in
      ⊎_elim
      (λ y. ⊎_elim
      (λ w. inl w)
      (λ w. inr (in_more (λ q v. has-left q (occurrences_in ops b) (occurrences_in rest (next_block c)) v) w))
      (holder ops b o a y k))
      (λ y. ⊎_elim
      (λ w. inl w)
      (λ w. inr (in_more (λ q v. has-right q (occurrences_in ops b) (occurrences_in rest (next_block c)) v) w))
      (holder rest (next_block c) o a y k))
      (has-append o (occurrences_in ops b) (occurrences_in rest (next_block c)) h)
  holder (region bs rest) c o a h k =
      ⊎_elim
      (λ y. ⊎_elim
      (λ w. inl w)
      (λ w. inr (in_more (λ q v. has-left q (occurrences_in bs c) (occurrences_in rest (next_region c)) v) w))
      (holder bs c o a y k))
      (λ y. ⊎_elim
      (λ w. inl w)
      (λ w. inr (in_more (λ q v. has-right q (occurrences_in bs c) (occurrences_in rest (next_region c)) v) w))
      (holder rest (next_region c) o a y k))
      (has-append o (occurrences_in bs c) (occurrences_in rest (next_region c)) h)

  -- distinct names tell operations, blocks and definers apart
  module _ (t : Root N S) where
    pub one_operation : AreDistinct (operation_names t) → (o p : Occurrence N S) → Has o (occurrences_of t) →
        Has p (occurrences_of t) → o.head.name ≡ p.head.name → o ≡ p
    one_operation apart o p i j e =
        one_named (λ (z : Occurrence N S). z.head.name) (occurrences_of t) o p
        (subst Distinct
        (sym (ap (map (λ (z : Head N S). z.name)) (heads_are t.regions (at_root t)))
        ∙ map-map (λ (z : Head N S). z.name) (λ (z : Occurrence N S). z.head) (occurrences_of t))
        (to_distinct (operation_names t) apart).1) i j e

    pub one_block : AreDistinct (block_names t) → (x y : BlockOccurrence N S) → Has x (block_occurrences_of t) →
        Has y (block_occurrences_of t) → x.label.name ≡ y.label.name → x ≡ y
    one_block apart x y i j e =
        one_named (λ (z : BlockOccurrence N S). z.label.name) (block_occurrences_of t) x y
        (subst Distinct
        (sym (ap (map (λ (z : Label N S). z.name)) (labels_are t.regions (at_root t)))
        ∙ map-map (λ (z : Label N S). z.name) (λ (z : BlockOccurrence N S). z.label) (block_occurrences_of t))
        (to_distinct (block_names t) apart)) i j e

    pub one_definer : AreDistinct (defined_in t.regions) → (x y : Definer N S) (v : N.value) →
        Has x (definers t.regions (at_root t)) → Has y (definers t.regions (at_root t)) → Has v (makes x) →
        Has v (makes y) → x ≡ y
    one_definer apart x y v i j a b =
        one_source makes (definers t.regions (at_root t)) x y v
        (subst Distinct (sym (all_made t.regions (at_root t))) (to_distinct (defined_in t.regions) apart)) i j a b

-- operations inside an operation stand where it does
pub inside_there : {N : Names} {s : Sort} (t : Tree N kit_contents s) (c : Inside N kit_contents s)
    (o p : Occurrence N kit_contents) → Has o (occurrences_in t c) →
    Has p (occurrences_in o.regions (inner o.head o.site)) → Has p (occurrences_in t c)
inside_there {N} t c o p h k =
    inside_is {N = N} kit (record { item = λ x. false; operand = λ a i. false }) t c o p h k
