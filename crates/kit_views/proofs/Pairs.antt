-- The operations and blocks of a tree, and those of its flat view: each with its partner.
use Rattle.std.proofs.Common.{◌≡◌, ⊎_elim, inl, inr, ℕ, zero, suc, Bool, false, List, [], ◌∷◌, Some, refl, sym, ap, ◌∙◌, subst}
use Rattle.std.specs.Prelude.{slice_get}
use Rattle.ir_trees.specs.Names.{Names, Contents}
use Rattle.ir_trees.specs.Renames.{names_of}
use Rattle.ir_trees.specs.Trees.{Head, Operations, Blocks, Tree, end, operation, block}
use Rattle.opt_trees.specs.Occurrences.{Has, Occurrence, BlockOccurrence, OperationSite, Spot, inner, next_block, occurrences_in, block_occurrences_in}
use Rattle.opt_trees.proofs.Lists.{some_same, none_some}
use Rattle.opt_trees.proofs.NoneDead.{has-append, has-left, has-right}
use Rattle.kit_behaviour.specs.Machine.{Op, Block, Fun}
use Rattle.kit_views.specs.Reading.{Reading}
use Rattle.kit_views.specs.FlatView.{IsOp, AreOps, AreFlatBlocks, names_in}

-- the block at this place is the entry
abbrev pub first_at : Bool → ℕ → Bool
first_at b zero = b
first_at b (suc n) = false

first_false : (n : ℕ) → first_at false n ≡ false
first_false zero = refl
first_false (suc n) = refl

module _ {N : Names} {S : Contents} (r : Reading S) (names : List N.block) where
  pub record OpPair (c : OperationSite N S) (o : Occurrence N S) (ps : List (Op N.value)) : Type 0 where
    pub op : Op N.value
    pub stands : Has op ps
    pub is : IsOp r names o.head op
    pub where_it_is : o.site ≡ c
    pub regions : o.regions ≡ end

  pub op_pairs : (os : Tree N S Operations) (ps : List (Op N.value)) (c : OperationSite N S) → AreOps r names os ps → (o : Occurrence N S) → Has o (occurrences_in os c) → OpPair c o ps
  op_pairs end [] c a o h = absurd h
  op_pairs end (p ∷ ps) c a o h = absurd a
  op_pairs (operation h rs more) [] c a o i = absurd a
  op_pairs (operation h rs more) (p ∷ ps) c a o i =
      ⊎_elim
      (λ e. record { op = p; stands = inl refl; is = subst (λ (z : Head N S). IsOp r names z p) (ap (λ (z : Occurrence N S). z.head) (sym e)) a.1; where_it_is = ap (λ (z : Occurrence N S). z.site) e; regions = ap (λ (z : Occurrence N S). z.regions) e ∙ a.0 })
      (λ x. ⊎_elim
      (λ y. absurd (subst (λ z. Has o (occurrences_in z (inner h c))) a.0 y))
      (λ y. let q = op_pairs more ps c a.2 o y in record { op = q.op; stands = inr q.stands; is = q.is; where_it_is = q.where_it_is; regions = q.regions })
      (has-append o (occurrences_in rs (inner h c)) (occurrences_in more c) x)) i

  record OpBack (c : OperationSite N S) (os : List (Occurrence N S)) (p : Op N.value) : Type 0 where
    it : Occurrence N S
    stands : Has it os
    is : IsOp r names it.head p
    where_it_is : it.site ≡ c
    regions : it.regions ≡ end

  op_backs : (os : Tree N S Operations) (ps : List (Op N.value)) (c : OperationSite N S) → AreOps r names os ps → (p : Op N.value) → Has p ps → OpBack c (occurrences_in os c) p
  op_backs end [] c a p h = absurd h
  op_backs end (q ∷ ps) c a p h = absurd a
  op_backs (operation h rs more) [] c a p i = absurd i
  op_backs (operation h rs more) (q ∷ ps) c a p i =
      ⊎_elim
      (λ e. record { it = record { site = c; head = h; regions = rs }; stands = inl refl; is = subst (λ z. IsOp r names h z) (sym e) a.1; where_it_is = refl; regions = a.0 })
      (λ x. let q = op_backs more ps c a.2 p x in record { it = q.it; stands = inr (has-right q.it (occurrences_in rs (inner h c)) (occurrences_in more c) q.stands); is = q.is; where_it_is = q.where_it_is; regions = q.regions }) i

  pub no_blocks : (os : Tree N S Operations) (ps : List (Op N.value)) (c : OperationSite N S) → AreOps r names os ps → (x : BlockOccurrence N S) → Has x (block_occurrences_in os c) → ⊥
  no_blocks end ps c a x h = h
  no_blocks (operation h rs more) [] c a x i = a
  no_blocks (operation h rs more) (p ∷ ps) c a x i =
      ⊎_elim (λ y. subst (λ z. Has x (block_occurrences_in z (inner h c))) a.0 y) (λ y. no_blocks more ps c a.2 x y)
      (has-append x (block_occurrences_in rs (inner h c)) (block_occurrences_in more c) i)

  -- the operation of the flat function that an operation of the tree is
  pub record Pair (c : Spot N S) (ns : List N.block) (o : Occurrence N S) (ks : Fun N.value) : Type 0 where
    pub place : ℕ
    pub k : Block N.value
    pub at : slice_get ks place ≡ Some k
    pub name : slice_get ns place ≡ Some o.site.label.name
    pub op : Op N.value
    pub stands : Has op k.ops
    pub is : IsOp r names o.head op
    pub around : o.site.spot.around ≡ c.around
    pub regions : o.regions ≡ end

  pub pairs : (bs : Tree N S Blocks) (ks : Fun N.value) (c : Spot N S) → AreFlatBlocks r names bs ks → (o : Occurrence N S) → Has o (occurrences_in bs c) → Pair c (names_in bs) o ks
  pairs end ks c a o h = absurd h
  pairs (block l os more) [] c a o i = absurd a
  pairs (block l os more) (k ∷ ks) c a o i =
      ⊎_elim
      (λ y. let q = op_pairs os k.ops (record { spot = c; label = l }) a.1 o y in record { place = 0; k = k; at = refl; name = ap (λ (z : OperationSite N S). Some z.label.name) (sym q.where_it_is); op = q.op; stands = q.stands; is = q.is; around = ap (λ (z : OperationSite N S). z.spot.around) q.where_it_is; regions = q.regions })
      (λ y. let q = pairs more ks (next_block c) a.2 o y in record { place = suc q.place; k = q.k; at = q.at; name = q.name; op = q.op; stands = q.stands; is = q.is; around = q.around; regions = q.regions })
      (has-append o (occurrences_in os (record { spot = c; label = l })) (occurrences_in more (next_block c)) i)

  -- the operation of the tree that is one of the flat function
  pub record Back (c : Spot N S) (ns : List N.block) (b : ℕ) (os : List (Occurrence N S)) (p : Op N.value) : Type 0 where
    pub it : Occurrence N S
    pub stands : Has it os
    pub name : slice_get ns b ≡ Some it.site.label.name
    pub is : IsOp r names it.head p
    pub around : it.site.spot.around ≡ c.around
    pub regions : it.regions ≡ end

  pub backs : (bs : Tree N S Blocks) (ks : Fun N.value) (c : Spot N S) → AreFlatBlocks r names bs ks → (b : ℕ) (k : Block N.value) (p : Op N.value) → slice_get ks b ≡ Some k → Has p k.ops → Back c (names_in bs) b (occurrences_in bs c) p
  backs end [] c a b k p e h = absurd (none_some k e)
  backs end (j ∷ ks) c a b k p e h = absurd a
  backs (block l os more) [] c a b k p e h = absurd a
  backs (block l os more) (j ∷ ks) c a zero k p e h =
      let q = op_backs os j.ops (record { spot = c; label = l }) a.1 p (subst (λ (z : Block N.value). Has p z.ops) (sym (some_same j k e)) h) in
      record { it = q.it; stands = has-left q.it (occurrences_in os (record { spot = c; label = l })) (occurrences_in more (next_block c)) q.stands; name = ap (λ (z : OperationSite N S). Some z.label.name) (sym q.where_it_is); is = q.is; around = ap (λ (z : OperationSite N S). z.spot.around) q.where_it_is; regions = q.regions }
  backs (block l os more) (j ∷ ks) c a (suc b) k p e h =
      let q = backs more ks (next_block c) a.2 b k p e h in
      record { it = q.it; stands = has-right q.it (occurrences_in os (record { spot = c; label = l })) (occurrences_in more (next_block c)) q.stands; name = q.name; is = q.is; around = q.around; regions = q.regions }

  -- the block of the flat function at a place, and the block of the tree that it is
  pub record AreSame (c : Spot N S) (ns : List N.block) (x : BlockOccurrence N S) (place : ℕ) (k : Block N.value) : Type 0 where
    pub name : slice_get ns place ≡ Some x.label.name
    pub arguments : names_of x.label.arguments ≡ k.arguments
    pub owner : x.spot.owner ≡ c.owner
    pub number : x.spot.region ≡ c.region
    pub first : x.spot.first ≡ first_at c.first place

  later : (c : Spot N S) (l : N.block) (ns : List N.block) (x : BlockOccurrence N S) (n : ℕ) (k : Block N.value) → AreSame (next_block c) ns x n k → AreSame c (l ∷ ns) x (suc n) k
  later c l ns x n k s = record { name = s.name; arguments = s.arguments; owner = s.owner; number = s.number; first = s.first ∙ first_false n }

  pub record BlockPair (c : Spot N S) (ns : List N.block) (x : BlockOccurrence N S) (ks : Fun N.value) : Type 0 where
    pub place : ℕ
    pub k : Block N.value
    pub at : slice_get ks place ≡ Some k
    pub same : AreSame c ns x place k

  pub block_pairs : (bs : Tree N S Blocks) (ks : Fun N.value) (c : Spot N S) → AreFlatBlocks r names bs ks → (x : BlockOccurrence N S) → Has x (block_occurrences_in bs c) → BlockPair c (names_in bs) x ks
  block_pairs end ks c a x h = absurd h
  block_pairs (block l os more) [] c a x i = absurd a
  block_pairs (block l os more) (k ∷ ks) c a x i =
      ⊎_elim
      (λ e. subst (λ z. BlockPair c (l.name ∷ names_in more) z (k ∷ ks)) (sym e) (record { place = 0; k = k; at = refl; same = record { name = refl; arguments = a.0; owner = refl; number = refl; first = refl } }))
      (λ y. ⊎_elim
      (λ z. absurd (no_blocks os k.ops (record { spot = c; label = l }) a.1 x z))
      (λ z. let q = block_pairs more ks (next_block c) a.2 x z in record { place = suc q.place; k = q.k; at = q.at; same = later c l.name (names_in more) x q.place q.k q.same })
      (has-append x (block_occurrences_in os (record { spot = c; label = l })) (block_occurrences_in more (next_block c)) y)) i

  pub record BlockBack (c : Spot N S) (ns : List N.block) (xs : List (BlockOccurrence N S)) (place : ℕ) (k : Block N.value) : Type 0 where
    pub it : BlockOccurrence N S
    pub stands : Has it xs
    pub same : AreSame c ns it place k

  pub block_backs : (bs : Tree N S Blocks) (ks : Fun N.value) (c : Spot N S) → AreFlatBlocks r names bs ks → (b : ℕ) (k : Block N.value) → slice_get ks b ≡ Some k → BlockBack c (names_in bs) (block_occurrences_in bs c) b k
  block_backs end [] c a b k e = absurd (none_some k e)
  block_backs end (j ∷ ks) c a b k e = absurd a
  block_backs (block l os more) [] c a b k e = absurd a
  block_backs (block l os more) (j ∷ ks) c a zero k e =
      record { it = record { spot = c; label = l; operations = os }; stands = inl refl; same = record { name = refl; arguments = a.0 ∙ ap (λ (z : Block N.value). z.arguments) (some_same j k e); owner = refl; number = refl; first = refl } }
  block_backs (block l os more) (j ∷ ks) c a (suc b) k e =
      let q = block_backs more ks (next_block c) a.2 b k e in
      record { it = q.it; stands = inr (has-right q.it (block_occurrences_in os (record { spot = c; label = l })) (block_occurrences_in more (next_block c)) q.stands); same = later c l.name (names_in more) q.it b k q.same }
