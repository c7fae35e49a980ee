-- Where blocks have names of their own and edges stay in their region, an edge leads from a block to one that is beside
-- it.
use Rattle.std.proofs.Common.{◌≡◌, ⊎_elim, inl, inr, refl, sym, subst}
use Rattle.ir_trees.specs.Names.{Names, Contents}
use Rattle.ir_trees.specs.Trees.{Sort, Operations, Blocks, Regions, Tree, end, operation, block, region, Root}
use Rattle.opt_trees.specs.Occurrences.{Has, Occurrence, BlockOccurrence, Spot, Inside, inner, next_block, next_region}
use Rattle.opt_trees.specs.Occurrences.{occurrences_in, block_occurrences_in, occurrences_of, block_occurrences_of}
use Rattle.opt_trees.specs.Occurrences.{at_root}
use Rattle.opt_trees.specs.Occurrences.{SameRegion, BlocksApart}
use Rattle.opt_trees.specs.Simplify.{IsLocal}
use Rattle.opt_trees.proofs.Homes.{Part, part_regions, part_rest, part_block, part_blocks, part_region, part_more}
use Rattle.opt_trees.proofs.NoneDead.{has-append, has-right}
use Rattle.kit_ruled_passes.specs.Edges.{IsNoBlock, own_blocks, EdgesScoped, HasScopedEdges}

module _ {N : Names} {S : Contents} where
  -- the block of this name in a region
  record OwnBlock (bs : Tree N S Blocks) (c : Spot N S) (b : N.block) : Type 0 where
    it : BlockOccurrence N S
    has : Has it (block_occurrences_in bs c)
    name : it.label.name ≡ b
    same : SameRegion c it.spot

  own_block : (bs : Tree N S Blocks) (c : Spot N S) (b : N.block) → Has b (own_blocks bs) → OwnBlock bs c b
  own_block end c b has = absurd has
  own_block (block l os rest) c b (inl e) = record {
    it = record { spot = c; label = l; operations = os };
    has = inl refl;
    name = sym e;
    same = record { around = refl; region = refl; within = refl };
  }
  own_block (block l os rest) c b (inr more) =
      let z = own_block rest (next_block c) b more in
      record {
        it = z.it;
        has = inr (has-right z.it (block_occurrences_in os (record { spot = c; label = l }))
            (block_occurrences_in rest (next_block c)) z.has);
        name = z.name;
        same = record { around = z.same.around; region = z.same.region; within = z.same.within };
      }

module _ {N : Names} {S : Contents} (t : Root N S) where
  -- a block of this name is in the region of the spot
  record IsBeside (c : Spot N S) (b : N.block) : Type 0 where
    it : BlockOccurrence N S
    stands : Has it (block_occurrences_of t)
    name : it.label.name ≡ b
    same : SameRegion c it.spot

  abbrev AreBeside : (s : Sort) → Inside N S s → (N.block → Type 0) → Type 0
  AreBeside Operations c P = (b : N.block) → P b → IsBeside c.spot b
  AreBeside Blocks c P = (b : N.block) → P b → IsBeside c b
  AreBeside Regions c P = Unit {0}

  beside_next : (c : Spot N S) (b : N.block) → IsBeside c b → IsBeside (next_block c) b
  beside_next c b z = record {
    it = z.it;
    stands = z.stands;
    name = z.name;
    same = record { around = z.same.around; region = z.same.region; within = z.same.within };
  }

  target : {s : Sort} (x : Tree N S s) (c : Inside N S s) (P : N.block → Type 0) → EdgesScoped x P → AreBeside s c P
      → Part x c (occurrences_of t) (block_occurrences_of t) → (o : Occurrence N S) → Has o (occurrences_in x c)
      → (b : N.block) → Has b o.head.successors → IsBeside o.site.spot b
  target end c P scoped near i o has b leads = absurd has
  target (operation h rs rest) c P scoped near i o has b leads = ⊎_elim
      (λ same. subst (λ (z : Occurrence N S). IsBeside z.site.spot b) (sym same)
      (near b (scoped.0 b (subst (λ (z : Occurrence N S). Has b z.head.successors) same leads))))
      (λ more. ⊎_elim
      (λ k. target rs (inner h c) (IsNoBlock N) scoped.1 tt
      (part_regions (occurrences_of t) (block_occurrences_of t) h rs rest c i) o k b leads)
      (λ k. target rest c P scoped.2 near
      (part_rest (occurrences_of t) (block_occurrences_of t) h rs rest c i) o k b leads)
      (has-append o (occurrences_in rs (inner h c)) (occurrences_in rest c) more))
      has
  target (block l os rest) c P scoped near i o has b leads = ⊎_elim
      (λ k. target os (record { spot = c; label = l }) P scoped.0 near
      (part_block (occurrences_of t) (block_occurrences_of t) l os rest c i) o k b leads)
      (λ k. target rest (next_block c) P scoped.1 (λ x p. beside_next c x (near x p))
      (part_blocks (occurrences_of t) (block_occurrences_of t) l os rest c i) o k b leads)
      (has-append o (occurrences_in os (record { spot = c; label = l })) (occurrences_in rest (next_block c)) has)
  target (region bs rest) c P scoped near i o has b leads =
      let part = part_region (occurrences_of t) (block_occurrences_of t) bs rest c i in
      ⊎_elim
      (λ k. target bs c (λ x. Has x (own_blocks bs)) scoped.0
      (λ x own. let z = own_block bs c x own in
      record { it = z.it; stands = part.blocks z.it z.has; name = z.name; same = z.same }) part o k b leads)
      (λ k. target rest (next_region c) P scoped.1 tt
      (part_more (occurrences_of t) (block_occurrences_of t) bs rest c i) o k b leads)
      (has-append o (occurrences_in bs c) (occurrences_in rest (next_region c)) has)

  pub local_of_scoped : BlocksApart t → HasScopedEdges t → IsLocal t
  local_of_scoped apart scoped = record {
    blocks = apart;
    edges = λ o x ho hx leads.
        let z = target t.regions (at_root t) (IsNoBlock N) scoped tt
        (record { operations = λ p h. h; blocks = λ y h. h }) o ho x.label.name leads in
        subst (λ (y : BlockOccurrence N S). SameRegion o.site.spot y.spot) (apart z.it x z.stands hx z.name) z.same;
  }
