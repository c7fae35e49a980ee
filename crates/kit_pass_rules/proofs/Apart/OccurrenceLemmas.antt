-- What stands in a tree whose chains are joined is told by what stood in the tree: so handles stay apart.
use Rattle.std.proofs.Common.{◌≡◌, ⊎_elim, inl, suc, false, List, [], ◌∷◌, Option, Some, None, refl, sym, ap, ◌∙◌}
use Rattle.std.proofs.Common.{subst}
use Rattle.ir_trees.specs.Names.{Names, Contents}
use Rattle.ir_trees.specs.Trees.{Head, Label, Sort, Operations, Blocks, Regions, Tree, operation, block, region, Root}
use Rattle.opt_trees.specs.Occurrences.{Has, Occurrence, BlockOccurrence, OperationSite, Spot, Inside, inner, next_block}
use Rattle.opt_trees.specs.Occurrences.{next_region, occurrences_in, block_occurrences_in, occurrences_of}
use Rattle.opt_trees.specs.Occurrences.{block_occurrences_of, at_root, OperationsApart, BlocksApart}
use Rattle.opt_trees.specs.Dialect.{Dialect}
use Rattle.opt_trees.specs.Simplify.{StartingRegions, Joinable, use_head, use_instead, but_last, append, Joins, ends, operations}
use Rattle.opt_trees.specs.Simplify.{regions, taken, first, chain_ends, chain_goes_on, IsOrderly, IsLocal}
use Rattle.opt_trees.proofs.NoneDead.{has-append}
use Rattle.opt_trees.proofs.Homes.{part_regions, part_rest, part_block, part_blocks, part_region, part_more, part_part}
use Rattle.opt_trees.proofs.Homes.{block_inside, but_last_inside, appended, blocks_appended, use_append, owner_same}
use Rattle.opt_trees.proofs.Chains.{InChain, itself, next, AtHome, HomeOf, IsNamed, InTree, leads_to, taken_later}
use Rattle.opt_trees.proofs.Reached.{holder}

module _ {N : Names} {S : Contents} {A : Type 0} (d : Dialect S A) (start : StartingRegions N) (r : Root N S)
    (orderly : IsOrderly r) (local : IsLocal r)
    (names : N.value → N.value) where
  -- each block has become the first of its chain
  abbrev pub AllInChain : List N.block → List N.block → Type 0
  AllInChain [] [] = Unit {0}
  AllInChain [] (b ∷ bs) = ⊥
  AllInChain (f ∷ fs) [] = ⊥
  AllInChain (f ∷ fs) (b ∷ bs) = InChain d start r f b × AllInChain fs bs

  -- the spot before, and afterwards
  pub record LikeSpot (c e : Spot N S) : Type 0 where
    pub owner : e.owner ≡ use_head names c.owner
    pub around : e.around ≡ c.around
    pub within_chains : AllInChain e.within c.within
    pub region_same : e.region ≡ c.region

  pub record LikeBlock (c e : Spot N S) : Type 0 where
    pub spot : LikeSpot c e
    pub first_same : e.first ≡ c.first

  -- an operation, and the first block of its chain
  pub record LikeSite (c e : OperationSite N S) : Type 0 where
    pub spot : LikeSpot c.spot e.spot
    pub chain : InChain d start r e.label.name c.label.name
    pub head : BlockOccurrence N S
    pub head_stands : Has head (block_occurrences_of r)
    pub head_label : e.label ≡ head.label
    pub head_first : e.spot.first ≡ head.spot.first

  abbrev LikeInside : (s : Sort) → Inside N S s → Inside N S s → Type 0
  LikeInside Operations c e = LikeSite c e
  LikeInside Blocks c e = LikeBlock c e
  LikeInside Regions c e = LikeBlock c e

  -- what an operation was, and what a block was
  pub record OperationWas (p : Occurrence N S) : Type 0 where
    pub it : Occurrence N S
    pub stands : Has it (occurrences_of r)
    pub site : LikeSite it.site p.site
    pub head : p.head ≡ use_head names it.head
    pub made : Tree N S Regions
    pub joins : Joins d start r None Regions it.regions made
    pub is : p.regions ≡ use_instead names made

  pub record BlockWas (y : BlockOccurrence N S) : Type 0 where
    pub it : BlockOccurrence N S
    pub stands : Has it (block_occurrences_of r)
    pub spot : LikeBlock it.spot y.spot
    pub label : y.label ≡ it.label
    pub made : Tree N S Operations
    pub joins : Joins d start r (Some it.label.name) Operations it.operations made
    pub is : y.operations ≡ use_instead names made

  like_inner : (h : Head N S) (c e : OperationSite N S) → LikeSite c e → LikeBlock (inner h c) (inner (use_head names h) e)
  like_inner h c e k = record {
    spot = record {
      owner = refl;
      around = ap (λ l. h.name ∷ l) k.spot.around;
      within_chains =
          (k.chain, k.spot.within_chains);
      region_same = refl;
    };
    first_same = refl;
  }

  like_next : (c e : Spot N S) → LikeBlock c e → LikeBlock (next_block c) (next_block e)
  like_next c e k = record {
    spot = record {
      owner = k.spot.owner;
      around = k.spot.around;
      within_chains = k.spot.within_chains;
      region_same = k.spot.region_same;
    };
    first_same = refl;
  }

  like_region : (c e : Spot N S) → LikeBlock c e → LikeBlock (next_region c) (next_region e)
  like_region c e k = record {
    spot = record {
      owner = k.spot.owner;
      around = k.spot.around;
      within_chains = k.spot.within_chains;
      region_same =
          ap suc k.spot.region_same;
    };
    first_same = k.first_same;
  }

  like_skip : (c e : Spot N S) → c.first ≡ false → LikeBlock c e → LikeBlock (next_block c) e
  like_skip c e f k = record {
    spot = record {
      owner = k.spot.owner;
      around = k.spot.around;
      within_chains = k.spot.within_chains;
      region_same = k.spot.region_same;
    };
    first_same = k.first_same ∙ f;
  }

  like_first : (c e : Spot N S) (l : Label N S) (ops : Tree N S Operations) →
      ((a : N.block) → Joinable d start r a l.name → ⊥) →
      Has (record { spot = c; label = l; operations = ops }) (block_occurrences_of r) → LikeBlock c e →
      LikeSite (record { spot = c; label = l }) (record { spot = e; label = l })
  like_first c e l ops n h k = record {
    spot = k.spot;
    chain = itself l.name n;
    head = record { spot = c; label = l; operations = ops };
    head_stands = h;
    head_label = refl;
    head_first = k.first_same;
  }

  -- the last operation of a block stands in it
  holder_of : (o : Occurrence N S) → Has o (occurrences_of r) → AtHome d start r o.site
  holder_of o h = ⊎_elim (λ z. absurd z) (λ p. record { it = p.it; stands = p.stands; spot = p.spot; label = p.label })
      (holder r.regions (at_root r) o h)

  last_home : (a b : N.block) (j : Joinable d start r a b) (c : OperationSite N S) → AtHome d start r c → c.label.name ≡ a →
      j.last.site.spot ≡ c.spot
  last_home a b j c h e =
      let p = holder_of j.last j.stands in
      let same = orderly.blocks p.it h.it p.stands h.stands
      (ap (λ l. l.name) p.label ∙ (j.in_block ∙ (sym e ∙ ap (λ l. l.name) (sym h.label)))) in
      sym p.spot ∙ (ap (λ x. x.spot) same ∙ h.spot)

  -- the next block of a chain is in the same region
  like_chain : (a : N.block) (x : BlockOccurrence N S) (j : Joinable d start r a x.label.name) →
      Has x (block_occurrences_of r) →
      (c e : OperationSite N S) → AtHome d start r c → c.label.name ≡ a → LikeSite c e →
      LikeSite (record { spot = x.spot; label = x.label }) e
  like_chain a x j h c e home n k =
      let last = last_home a x.label.name j c home n in
      let region = local.edges j.last x j.stands h (leads_to d start r orderly local a x.label.name j) in
      let own : home.it.spot ≡ j.last.site.spot = home.spot ∙ sym last in
      let owner : x.spot.owner ≡ c.spot.owner =
      owner_same r orderly.operations home.it x home.stands h (region.around ∙ sym (ap (λ s. s.around) own))
      ∙ ap (λ s. s.owner) home.spot in
      record {
        spot = record {
          owner = k.spot.owner ∙ ap (use_head names) (sym owner);
          around = k.spot.around ∙ sym (region.around ∙ ap (λ s. s.around) last);
          within_chains = subst (AllInChain e.spot.within) (sym (region.within ∙ ap (λ s. s.within) last))
              k.spot.within_chains;
          region_same = k.spot.region_same ∙ sym (region.region ∙ ap (λ s. s.region) last);
        };
        chain = next e.label.name a x.label.name (subst (InChain d start r e.label.name) n k.chain) j;
        head = k.head;
        head_stands = k.head_stands;
        head_label = k.head_label;
        head_first = k.head_first;
      }

  abbrev Stands : {s : Sort} → Tree N S s → Inside N S s → Type 0
  Stands x c = InTree d start r x c

  at_home : (l : Label N S) (ops : Tree N S Operations) (rest : Tree N S Blocks) (c : Spot N S) →
      Has (record { spot = c; label = l; operations = ops }) (block_occurrences_of r) →
      AtHome d start r (record { spot = c; label = l })
  at_home l ops rest c h = record {
    it = record { spot = c; label = l; operations = ops };
    stands = h;
    spot = refl;
    label = refl;
  }

  pub operation_was : (q : Option N.block) (s : Sort) (x u : Tree N S s) → Joins d start r q s x u →
      (c e : Inside N S s) → LikeInside s c e → HomeOf d start r s c →
      IsNamed d start r q s c → InTree d start r x c → (p : Occurrence N S) →
      Has p (occurrences_in (use_instead names u) e) → OperationWas p
  operation_was _ _ _ _ (ends s) c e k m n i p h = absurd h
  operation_was _ _ _ _ (operations g rs qs rest more x y) c e k m n i p h = ⊎_elim
      (λ z. record {
        it = record { site = c; head = g; regions = rs };
        stands = i.operations (record { site = c; head = g; regions = rs }) (inl refl);
        site = subst (LikeSite c) (ap (λ w. w.site) (sym z)) k;
        head = ap (λ w. w.head) z;
        made = qs;
        joins = x;
        is = ap (λ w. w.regions) z;
      })
      (λ z. ⊎_elim
      (λ w. operation_was None Regions rs qs x (inner g c) (inner (use_head names g) e) (like_inner g c e k) tt tt
      (part_regions (occurrences_of r) (block_occurrences_of r) g rs rest c i) p w)
      (λ w. operation_was None Operations rest more y c e k m tt
      (part_rest (occurrences_of r) (block_occurrences_of r) g rs rest c i) p w)
      (has-append p (occurrences_in (use_instead names qs) (inner (use_head names g) e))
      (occurrences_in (use_instead names more) e) z)) h
  operation_was _ _ _ _ (regions bs cs rest more x y) c e k m n i p h = ⊎_elim
      (λ w. operation_was None Blocks bs cs x c e k tt tt (part_region (occurrences_of r) (block_occurrences_of r) bs
      rest c i) p w)
      (λ w. operation_was None Regions rest more y (next_region c) (next_region e) (like_region c e k) tt tt
      (part_more (occurrences_of r) (block_occurrences_of r) bs rest c i) p w)
      (has-append p (occurrences_in (use_instead names cs) e) (occurrences_in (use_instead names more) (next_region e))
      h)
  operation_was _ _ _ _ (taken l ops rest more b j x) c e k m n i p h =
      operation_was None Blocks rest more x (next_block c) e
      (like_skip c e (taken_later d start r orderly local names l ops rest c i b j) k) tt tt
      (part_blocks (occurrences_of r) (block_occurrences_of r) l ops rest c i) p h
  operation_was _ _ _ _ (first l ops all rest more f x y) c e k m n i p h =
      let here = i.blocks (record { spot = c; label = l; operations = ops }) (inl refl) in
      ⊎_elim
      (λ w. operation_was (Some l.name) Operations ops all x (record { spot = c; label = l })
      (record { spot = e; label = l }) (like_first c e l ops f here k)
      (at_home l ops rest c here) refl (part_block (occurrences_of r) (block_occurrences_of r) l ops rest c i) p w)
      (λ w. operation_was None Blocks rest more y (next_block c) (next_block e) (like_next c e k) tt tt
      (part_blocks (occurrences_of r) (block_occurrences_of r) l ops rest c i) p w)
      (has-append p (occurrences_in (use_instead names all) (record { spot = e; label = l }))
      (occurrences_in (use_instead names more) (next_block e)) h)
  operation_was _ _ _ _ (chain_ends b ops own f x) c e k m n i p h =
      operation_was None Operations ops own x c e k m tt i p h
  operation_was _ _ _ _ (chain_goes_on b z ops own others all j s x y q) c e k m n i p h = ⊎_elim
      (λ w. operation_was None Operations (but_last ops) own x c e k m tt (part_part (but_last_inside ops c) i) p w)
      (λ w. operation_was (Some z.label.name) Operations z.operations others y
      (record { spot = z.spot; label = z.label }) e (like_chain b z j s c e m n k)
      (record { it = z; stands = s; spot = refl; label = refl }) refl (block_inside r.regions (at_root r) z s) p w)
      (appended (use_instead names own) (use_instead names others) e p
      (subst (λ u. Has p (occurrences_in u e)) (ap (use_instead names) q ∙ use_append names own others) h))

  pub block_was : (q : Option N.block) (s : Sort) (x u : Tree N S s) → Joins d start r q s x u → (c e : Inside N S s) →
      LikeInside s c e → HomeOf d start r s c →
      IsNamed d start r q s c → InTree d start r x c → (p : BlockOccurrence N S) →
      Has p (block_occurrences_in (use_instead names u) e) → BlockWas p
  block_was _ _ _ _ (ends s) c e k m n i p h = absurd h
  block_was _ _ _ _ (operations g rs qs rest more x y) c e k m n i p h = ⊎_elim
      (λ w. block_was None Regions rs qs x (inner g c) (inner (use_head names g) e) (like_inner g c e k) tt tt
      (part_regions (occurrences_of r) (block_occurrences_of r) g rs rest c i) p w)
      (λ w. block_was None Operations rest more y c e k m tt
      (part_rest (occurrences_of r) (block_occurrences_of r) g rs rest c i) p w)
      (has-append p (block_occurrences_in (use_instead names qs) (inner (use_head names g) e))
      (block_occurrences_in (use_instead names more) e) h)
  block_was _ _ _ _ (regions bs cs rest more x y) c e k m n i p h = ⊎_elim
      (λ w. block_was None Blocks bs cs x c e k tt tt (part_region (occurrences_of r) (block_occurrences_of r) bs rest c
      i) p w)
      (λ w. block_was None Regions rest more y (next_region c) (next_region e) (like_region c e k) tt tt
      (part_more (occurrences_of r) (block_occurrences_of r) bs rest c i) p w)
      (has-append p (block_occurrences_in (use_instead names cs) e)
      (block_occurrences_in (use_instead names more) (next_region e)) h)
  block_was _ _ _ _ (taken l ops rest more b j x) c e k m n i p h =
      block_was None Blocks rest more x (next_block c) e (like_skip c e
      (taken_later d start r orderly local names l ops rest c i b j) k) tt tt
      (part_blocks (occurrences_of r) (block_occurrences_of r) l ops rest c i) p h
  block_was _ _ _ _ (first l ops all rest more f x y) c e k m n i p h =
      let here = i.blocks (record { spot = c; label = l; operations = ops }) (inl refl) in
      ⊎_elim
      (λ z. record {
        it = record { spot = c; label = l; operations = ops };
        stands = here;
        spot = subst (LikeBlock c) (ap (λ w. w.spot) (sym z)) k;
        label = ap (λ w. w.label) z;
        made = all;
        joins = x;
        is = ap (λ w. w.operations) z;
      })
      (λ z. ⊎_elim
      (λ w. block_was (Some l.name) Operations ops all x (record { spot = c; label = l })
      (record { spot = e; label = l }) (like_first c e l ops f here k)
      (at_home l ops rest c here) refl (part_block (occurrences_of r) (block_occurrences_of r) l ops rest c i) p w)
      (λ w. block_was None Blocks rest more y (next_block c) (next_block e) (like_next c e k) tt tt
      (part_blocks (occurrences_of r) (block_occurrences_of r) l ops rest c i) p w)
      (has-append p (block_occurrences_in (use_instead names all) (record { spot = e; label = l }))
      (block_occurrences_in (use_instead names more) (next_block e)) z)) h
  block_was _ _ _ _ (chain_ends b ops own f x) c e k m n i p h = block_was None Operations ops own x c e k m tt i p h
  block_was _ _ _ _ (chain_goes_on b z ops own others all j s x y q) c e k m n i p h = ⊎_elim
      (λ w. block_was None Operations (but_last ops) own x c e k m tt (part_part (but_last_inside ops c) i) p w)
      (λ w. block_was (Some z.label.name) Operations z.operations others y (record { spot = z.spot; label = z.label }) e
      (like_chain b z j s c e m n k)
      (record { it = z; stands = s; spot = refl; label = refl }) refl (block_inside r.regions (at_root r) z s) p w)
      (blocks_appended (use_instead names own) (use_instead names others) e p
      (subst (λ u. Has p (block_occurrences_in u e)) (ap (use_instead names) q ∙ use_append names own others) h))

  -- ---- one for each

  leads_one : (b t u : N.block) → Joinable d start r b t → Joinable d start r b u → t ≡ u
  leads_one b t u j k =
      let same = orderly.ends j.last k.last t u j.stands k.stands (j.in_block ∙ sym k.in_block)
      (leads_to d start r orderly local b t j)
      (leads_to d start r orderly local b u k) in
      head_same t u (sym j.leads ∙ (ap (λ x. x.head.successors) same ∙ k.leads))
    where
      head_same : (t u : N.block) → t ∷ [] ≡ u ∷ [] → t ≡ u
      head_same t u e = cc e

  joins_one : (c : Option N.block) (s : Sort) (t a b : Tree N S s) → Joins d start r c s t a → Joins d start r c s t b →
      a ≡ b
  joins_one _ _ _ _ _ (ends s) (ends _) = refl
  joins_one _ _ _ _ _ (operations h rs qs rest more x y) (operations _ _ ps _ most u v) =
      λ i. operation h (joins_one None Regions rs qs ps x u i) (joins_one None Operations rest more most y v i)
  joins_one _ _ _ _ _ (regions bs cs rest more x y) (regions _ ds _ most u v) =
      λ i. region (joins_one None Blocks bs cs ds x u i) (joins_one None Regions rest more most y v i)
  joins_one _ _ _ _ _ (taken l ops rest more b j x) (taken _ _ _ most _ _ y) = joins_one None Blocks rest more most x y
  joins_one _ _ _ _ _ (taken l ops rest more b j x) (first _ _ _ _ _ n _ _) = absurd (n b j)
  joins_one _ _ _ _ _ (first l ops all rest more n x y) (taken _ _ _ _ b j _) = absurd (n b j)
  joins_one _ _ _ _ _ (first l ops all rest more n x y) (first _ _ whole _ most _ u v) =
      λ i. block l (joins_one (Some l.name) Operations ops all whole x u i) (joins_one None Blocks rest more most y v i)
  joins_one _ _ _ _ _ (chain_ends b ops own n x) (chain_ends _ _ mine _ y) = joins_one None Operations ops own mine x y
  joins_one _ _ _ _ _ (chain_ends b ops own n x) (chain_goes_on _ z _ _ _ _ j _ _ _ _) = absurd (n z.label.name j)
  joins_one _ _ _ _ _ (chain_goes_on b z ops own others all j h x y e) (chain_ends _ _ _ n _) =
      absurd (n z.label.name j)
  joins_one _ _ _ _ _ (chain_goes_on b z ops own others all j h x y e) (chain_goes_on _ w _ mine more whole k m u v f) =
      let same : w ≡ z = orderly.blocks w z m h (leads_one b w.label.name z.label.name k j) in
      e ∙ ((λ i. append (joins_one None Operations _ own mine x u i)
      (joins_one (Some z.label.name) Operations z.operations others more y
      (subst (λ q. Joins d start r (Some q.label.name) Operations q.operations more) same v) i)) ∙ sym f)

  joined_before : (a b c : N.block) → Joinable d start r a c → Joinable d start r b c → a ≡ b
  joined_before a b c j k =
      sym j.in_block ∙ (ap (λ z. z.site.label.name) (k.single j.last j.stands (leads_to d start r orderly local a c j))
      ∙ k.in_block)

  one_first : (f g b : N.block) → InChain d start r f b → InChain d start r g b → f ≡ g
  one_first _ _ _ (itself b n) (itself _ m) = refl
  one_first _ _ _ (itself b n) (next g a _ c j) = absurd (n a j)
  one_first _ _ _ (next f a b c j) (itself _ n) = absurd (n a j)
  one_first _ _ _ (next f a b c j) (next g z _ k i) = one_first f g a c
      (subst (InChain d start r g) (joined_before z a b i j) k)

  all_firsts : (fs gs bs : List N.block) → AllInChain fs bs → AllInChain gs bs → fs ≡ gs
  all_firsts [] [] [] a b = refl
  all_firsts (f ∷ fs) (g ∷ gs) (b ∷ bs) a c = λ i. one_first f g b a.0 c.0 i ∷ all_firsts fs gs bs a.1 c.1 i
  all_firsts [] gs (b ∷ bs) a c = absurd a
  all_firsts (f ∷ fs) [] (b ∷ bs) a c = absurd c
  all_firsts [] (g ∷ gs) [] a c = absurd c
  all_firsts (f ∷ fs) gs [] a c = absurd a

  one_spot : (c e f : Spot N S) → LikeSpot c e → LikeSpot c f → e.first ≡ f.first → e ≡ f
  one_spot c e f k m same = λ i. record {
    owner = (k.owner ∙ sym m.owner) i;
    around = (k.around ∙ sym m.around) i;
    within = all_firsts e.within f.within c.within k.within_chains m.within_chains i;
    region = (k.region_same ∙ sym m.region_same) i;
    first = same i;
  }

  one_site : (c e f : OperationSite N S) → LikeSite c e → LikeSite c f → e ≡ f
  one_site c e f k m =
      let name : e.label.name ≡ f.label.name = one_first e.label.name f.label.name c.label.name k.chain m.chain in
      let head : k.head ≡ m.head =
      orderly.blocks k.head m.head k.head_stands m.head_stands
      (ap (λ l. l.name) (sym k.head_label) ∙ (name ∙ ap (λ l. l.name) m.head_label)) in
      λ i. record {
        spot = one_spot c.spot e.spot f.spot k.spot m.spot (k.head_first
            ∙ (ap (λ x. x.spot.first) head ∙ sym m.head_first)) i;
        label = (k.head_label ∙ (ap (λ x. x.label) head ∙ sym m.head_label)) i;
      }

  one_operation : (o : Occurrence N S) (p q : Occurrence N S) (a : OperationWas p) (b : OperationWas q) → a.it ≡ o →
      b.it ≡ o → p ≡ q
  one_operation o p q a b e f =
      let made : a.made ≡ b.made =
      joins_one None Regions o.regions a.made b.made
      (subst (λ z. Joins d start r None Regions z.regions a.made) e a.joins)
      (subst (λ z. Joins d start r None Regions z.regions b.made) f b.joins) in
      λ i. record {
        site = one_site o.site p.site q.site (subst (λ z. LikeSite z.site p.site) e a.site)
            (subst (λ z. LikeSite z.site q.site) f b.site) i;
        head = (a.head ∙ (ap (λ z. use_head names z.head) (e ∙ sym f) ∙ sym b.head)) i;
        regions = (a.is ∙ (ap (use_instead names) made ∙ sym b.is)) i;
      }

  one_block : (o : BlockOccurrence N S) (p q : BlockOccurrence N S) (a : BlockWas p) (b : BlockWas q) → a.it ≡ o →
      b.it ≡ o → p ≡ q
  one_block o p q a b e f =
      let made : a.made ≡ b.made =
      joins_one (Some o.label.name) Operations o.operations a.made b.made
      (subst (λ z. Joins d start r (Some z.label.name) Operations z.operations a.made) e a.joins)
      (subst (λ z. Joins d start r (Some z.label.name) Operations z.operations b.made) f b.joins) in
      let k = subst (λ z. LikeBlock z.spot p.spot) e a.spot in
      let m = subst (λ z. LikeBlock z.spot q.spot) f b.spot in
      λ i. record {
        spot = one_spot o.spot p.spot q.spot k.spot m.spot (k.first_same ∙ sym m.first_same) i;
        label = (a.label ∙ (ap (λ z. z.label) (e ∙ sym f) ∙ sym b.label)) i;
        operations = (a.is ∙ (ap (use_instead names) made ∙ sym b.is)) i;
      }

  module _ (made : Tree N S Regions) (joins : Joins d start r None Regions r.regions made) where
    abbrev pub after : Root N S
    after = record { head = use_head names r.head; regions = use_instead names made }

    root_like : LikeBlock (at_root r) (at_root after)
    root_like = record {
      spot = record {
        owner = refl;
        around = refl;
        within_chains = tt;
        region_same = refl;
      };
      first_same = refl;
    }

    pub each_operation : (p : Occurrence N S) → Has p (occurrences_of after) → OperationWas p
    each_operation p h = operation_was None Regions r.regions made joins (at_root r) (at_root after) root_like tt tt
        (record { operations = λ o m. m; blocks = λ x m. m }) p h

    pub each_block : (y : BlockOccurrence N S) → Has y (block_occurrences_of after) → BlockWas y
    each_block y h = block_was None Regions r.regions made joins (at_root r) (at_root after) root_like tt tt
        (record { operations = λ o m. m; blocks = λ x m. m }) y h

    pub operations_apart : OperationsApart after
    operations_apart p q hp hq e =
        let a = each_operation p hp in
        let b = each_operation q hq in
        let same = orderly.operations a.it b.it a.stands b.stands
        (ap (λ z. z.name) (sym a.head) ∙ (e ∙ ap (λ z. z.name) b.head)) in
        one_operation b.it p q a b same refl

    pub blocks_apart : BlocksApart after
    blocks_apart p q hp hq e =
        let a = each_block p hp in
        let b = each_block q hq in
        let same = orderly.blocks a.it b.it a.stands b.stands
        (ap (λ z. z.name) (sym a.label) ∙ (e ∙ ap (λ z. z.name) b.label)) in
        one_block b.it p q a b same refl
