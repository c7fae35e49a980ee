-- A function whose operations hold nothing, in a tree: which operations and blocks of the tree stand in it, and which
-- edges lead there.
use Rattle.std.proofs.Common.{◌≡◌, ⊎_elim, inl, false, List, [], ◌∷◌, ◌++◌, map, refl, sym, ap, ◌∙◌, subst}
use Rattle.ir_trees.specs.Names.{Names, Contents}
use Rattle.ir_trees.specs.Trees.{Root}
use Rattle.opt_trees.specs.Dialect.{Dialect}
use Rattle.opt_trees.specs.Occurrences.{Has, Spot, Occurrence, BlockOccurrence, inner, occurrences_in}
use Rattle.opt_trees.specs.Occurrences.{block_occurrences_in, occurrences_of, block_occurrences_of, at_root}
use Rattle.opt_trees.specs.Occurrences.{OperationsApart}
use Rattle.opt_trees.specs.Simplify.{IsLocal}
use Rattle.opt_trees.proofs.Homes.{direct_there, operation_level}
use Rattle.opt_trees.proofs.Lists.{has-map, has-from_map}
use Rattle.opt_trees.proofs.NoneDead.{inside_is}
use Rattle.opt_trees.proofs.Reached.{Holder}
use Rattle.opt_trees.proofs.Reached as reached
use Rattle.kit_ruled_views.proofs.programs.Lifted.{lift, lift_block, lifted, lifted_blocks, blocks_inside, holder}

module _ {N : Names} {S : Contents} where
  -- the spot is in the first region of the root itself
  pub record IsAtRoot (u : Root N S) (c : Spot N S) : Type 0 where
    pub owner : c.owner ≡ u.head
    pub around : c.around ≡ []
    pub within : c.within ≡ []
    pub region : c.region ≡ 0

  -- all blocks stand in the first region of the root itself, and edges stay there
  pub record IsShallow (u : Root N S) : Type 0 where
    pub blocks : (x : BlockOccurrence N S) → Has x (block_occurrences_of u) → IsAtRoot u x.spot
    pub edges : (p : Occurrence N S) (b : N.block) → Has p (occurrences_of u) → Has b p.head.successors →
        (x : BlockOccurrence N S) × Has x (block_occurrences_of u) × (x.label.name ≡ b)

  -- the tree that the operation is
  abbrev pub root_of : Occurrence N S → Root N S
  root_of o = record { head = o.head; regions = o.regions }

module _ {N : Names} {S : Contents} {A : Type 0} (d : Dialect S A) (t : Root N S) (local : IsLocal t)
    (apart : OperationsApart t) (o : Occurrence N S) (stands : Has o (occurrences_of t))
    (shallow : IsShallow (root_of o)) where
  abbrev Op : Type 0
  Op = Occurrence N S

  abbrev Bl : Type 0
  Bl = BlockOccurrence N S

  abbrev u : Root N S
  u = root_of o

  -- what stands in the function, as it stands in the tree
  abbrev pub up : Op → Op
  up p = lift {N = N} {S = S} (o.head.name ∷ o.site.spot.around) (o.site.label.name ∷ o.site.spot.within) p

  abbrev pub up_block : Bl → Bl
  up_block x =
      lift_block {N = N} {S = S} (o.head.name ∷ o.site.spot.around) (o.site.label.name ∷ o.site.spot.within) x

  inside_up : occurrences_in o.regions (inner o.head o.site) ≡ map up (occurrences_of u)
  inside_up = lifted (o.head.name ∷ o.site.spot.around) (o.site.label.name ∷ o.site.spot.within) o.regions (at_root u)

  inside_blocks : block_occurrences_in o.regions (inner o.head o.site) ≡ map up_block (block_occurrences_of u)
  inside_blocks =
      lifted_blocks (o.head.name ∷ o.site.spot.around) (o.site.label.name ∷ o.site.spot.within) o.regions (at_root u)

  pub there : (p : Op) → Has p (occurrences_of u) → Has (up p) (occurrences_of t)
  there p h =
      inside_is d (record { item = λ x. false; operand = λ a i. false }) t.regions (at_root t) o (up p) stands
      (subst (Has (up p)) (sym inside_up) (has-map up p (occurrences_of u) h))

  pub block_there : (x : Bl) → Has x (block_occurrences_of u) → Has (up_block x) (block_occurrences_of t)
  block_there x h =
      blocks_inside t.regions (at_root t) o (up_block x) stands
      (subst (Has (up_block x)) (sym inside_blocks) (has-map up_block x (block_occurrences_of u) h))

  -- an operation of the tree that stands in the function, and a block
  abbrev pub IsInside : Op → Type 0
  IsInside q = (p : Op) × Has p (occurrences_of u) × (up p ≡ q)

  abbrev pub IsBlockInside : Bl → Type 0
  IsBlockInside y = (x : Bl) × Has x (block_occurrences_of u) × (up_block x ≡ y)

  abbrev pub own_around : List N.operation
  own_around = o.head.name ∷ o.site.spot.around

  down : (q : Op) → Has q (occurrences_of t) → q.site.spot.around ≡ own_around → IsInside q
  down q h e =
      ⊎_elim
      (λ k. absurd k)
      (λ z.
      let same : z.it ≡ o = apart z.it o z.stands stands z.name in
      let inside : Has q (occurrences_in o.regions (inner o.head o.site)) =
      subst (λ (x : Op). Has q (occurrences_in x.regions (inner x.head x.site))) same z.inside in
      let w = has-from_map up q (occurrences_of u) (subst (Has q) inside_up inside) in (w.it, w.stands, w.is))
      (holder t.regions (at_root t) q o.head.name h (subst (Has o.head.name) (sym e) (inl refl)))

  pub block_down : (y : Bl) → Has y (block_occurrences_of t) → y.spot.around ≡ own_around → IsBlockInside y
  block_down y h e =
      let direct = operation_level t apart o stands y h e in
      let inside = direct_there o.regions (inner o.head o.site) y direct in
      let w = has-from_map up_block y (block_occurrences_of u) (subst (Has y) inside_blocks inside) in
      (w.it, w.stands, w.is)

  -- a block of the tree with the name of one of the function
  pub block_same : (x y : Bl) → Has x (block_occurrences_of u) → Has y (block_occurrences_of t) →
      y.label.name ≡ x.label.name → up_block x ≡ y
  block_same x y h k e = local.blocks (up_block x) y (block_there x h) k (sym e)

  up_around : (x : Bl) → Has x (block_occurrences_of u) → x.spot.around ++ own_around ≡ own_around
  up_around x h = ap (λ l. l ++ own_around) (shallow.blocks x h).around

  -- an operation that leads to a block of the function stands in it
  pub entering : (q : Op) (x : Bl) → Has q (occurrences_of t) → Has x (block_occurrences_of u) →
      Has x.label.name q.head.successors → IsInside q
  entering q x h k m = down q h (sym (local.edges q (up_block x) h (block_there x k) m).around ∙ up_around x k)

  -- so does one in a block with the name of one of the function
  pub at_home : (q : Op) (x : Bl) → Has q (occurrences_of t) → Has x (block_occurrences_of u) →
      q.site.label.name ≡ x.label.name → IsInside q
  at_home q x h k e =
      let z = ⊎_elim (λ y. absurd y) (λ y. y) (reached.holder t.regions (at_root t) q h) in
      let same : up_block x ≡ z.it = block_same x z.it k z.stands (ap (λ l. l.name) z.label ∙ e) in
      down q h (ap (λ c. c.around) (sym z.spot) ∙ ap (λ (y : Bl). y.spot.around) (sym same) ∙ up_around x k)

  -- the block of an operation of the function
  pub own_block : (p : Op) → Has p (occurrences_of u) → Holder (block_occurrences_of u) p
  own_block p h = ⊎_elim (λ y. absurd y) (λ y. y) (reached.holder o.regions (at_root u) p h)

  pub op_root : (p : Op) → Has p (occurrences_of u) → IsAtRoot u p.site.spot
  op_root p h = let z = own_block p h in subst (IsAtRoot u) z.spot (shallow.blocks z.it z.stands)

  -- what is the same in the tree is the same in the function
  pub up_same : (p q : Op) → Has p (occurrences_of u) → Has q (occurrences_of u) → up p ≡ up q → p ≡ q
  up_same p q h k e =
      let a = op_root p h in
      let b = op_root q k in
      λ i. record {
        site = record {
          spot = record {
            owner = (e i).site.spot.owner;
            around = (a.around ∙ sym b.around) i;
            within = (a.within ∙ sym b.within) i;
            region = (e i).site.spot.region;
            first = (e i).site.spot.first;
          };
          label = (e i).site.label;
        };
        head = (e i).head;
        regions = (e i).regions;
      }
