-- What stands in a tree whose chains are joined: what stood there, each block of a chain in its first.
use Rattle.std.proofs.Common.{◌≡◌, ⊎_elim, inl, false, suc, Option, Some, None, refl, sym, ap, ◌∙◌, subst}
use Rattle.ir_trees.specs.Names.{Names, Contents}
use Rattle.ir_trees.specs.Trees.{Head, Label, Sort, Operations, Blocks, Regions, Tree, block, Root}
use Rattle.opt_trees.specs.Occurrences.{Has, Occurrence, BlockOccurrence, OperationSite, Spot, Inside, inner, next_block, next_region, occurrences_in, block_occurrences_in, occurrences_of, block_occurrences_of, at_root}
use Rattle.opt_trees.specs.Dialect.{Dialect}
use Rattle.opt_trees.specs.Simplify.{StartingRegions, is_end, Joinable, use_head, use_instead, but_last, Joins, ends, operations, regions, taken, first, chain_ends, chain_goes_on, IsOrderly, IsLocal}
use Rattle.opt_trees.proofs.NoneDead.{has-append, true_false}
use Rattle.opt_trees.proofs.Reached.{holder}
use Rattle.opt_trees.proofs.Homes.{IsPart, part_regions, part_rest, part_block, part_blocks, part_region, part_more, part_part, block_inside, but_last_inside, appended, blocks_appended, use_append, owner_same}

module _ {N : Names} {S : Contents} {A : Type 0} (d : Dialect S A) (start : StartingRegions N) (r : Root N S) where
  -- the chain from the first block, which nothing is joined to, goes to the second
  pub data InChain : N.block → N.block → Type 0 where
    itself : (b : N.block) → ((a : N.block) → Joinable d start r a b → ⊥) → InChain b b
    next : (f a b : N.block) → InChain f a → Joinable d start r a b → InChain f b

  -- the spot afterwards, and the one before
  pub record LikeSpot (c e : Spot N S) : Type 0 where
    pub name : e.owner.name ≡ c.owner.name
    pub content : e.owner.content ≡ c.owner.content
    pub region : e.region ≡ c.region

  -- the place afterwards, in the chain's first block
  pub record LikeSite (c e : OperationSite N S) : Type 0 where
    pub spot : LikeSpot c.spot e.spot
    pub first : d.is_ssa c.spot.owner.content c.spot.region ≡ false → e.spot.first ≡ c.spot.first
    pub chain : InChain e.label.name c.label.name

  pub record LikeBlock (c e : Spot N S) : Type 0 where
    pub spot : LikeSpot c e
    pub first : e.first ≡ c.first

  abbrev pub LikeInside : (s : Sort) → Inside N S s → Inside N S s → Type 0
  LikeInside Operations c e = LikeSite c e
  LikeInside Blocks c e = LikeBlock c e
  LikeInside Regions c e = LikeBlock c e

  -- the block of a place
  pub record AtHome (c : OperationSite N S) : Type 0 where
    pub it : BlockOccurrence N S
    pub stands : Has it (block_occurrences_of r)
    pub spot : it.spot ≡ c.spot
    pub label : it.label ≡ c.label

  abbrev pub HomeOf : (s : Sort) → Inside N S s → Type 0
  HomeOf Operations c = AtHome c
  HomeOf Blocks c = Unit {0}
  HomeOf Regions c = Unit {0}

  abbrev pub IsNamed : Option N.block → (s : Sort) → Inside N S s → Type 0
  IsNamed None s c = Unit {0}
  IsNamed (Some b) Operations c = c.label.name ≡ b
  IsNamed (Some b) Blocks c = Unit {0}
  IsNamed (Some b) Regions c = Unit {0}

  abbrev pub InTree : {s : Sort} → Tree N S s → Inside N S s → Type 0
  InTree t c = IsPart (occurrences_in t c) (block_occurrences_in t c) (occurrences_of r) (block_occurrences_of r)

  pub like_inner : (f : N.value → N.value) (h : Head N S) (c e : OperationSite N S) → LikeBlock (inner h c) (inner (use_head f h) e)
  like_inner f h c e = record { spot = record { name = refl; content = refl; region = refl }; first = refl }

  pub like_next : (c e : Spot N S) → LikeBlock c e → LikeBlock (next_block c) (next_block e)
  like_next c e l = record { spot = record { name = l.spot.name; content = l.spot.content; region = l.spot.region }; first = refl }

  pub like_region : (c e : Spot N S) → LikeBlock c e → LikeBlock (next_region c) (next_region e)
  like_region c e l = record { spot = record { name = l.spot.name; content = l.spot.content; region = ap suc l.spot.region }; first = l.first }

  -- past a block that is taken, which is no entry
  pub like_skip : (c e : Spot N S) → c.first ≡ false → LikeBlock c e → LikeBlock (next_block c) e
  like_skip c e f l = record { spot = record { name = l.spot.name; content = l.spot.content; region = l.spot.region }; first = l.first ∙ f }

  pub like_first : (c e : Spot N S) (l : Label N S) → ((a : N.block) → Joinable d start r a l.name → ⊥) → LikeBlock c e → LikeSite (record { spot = c; label = l }) (record { spot = e; label = l })
  like_first c e l n k = record { spot = k.spot; first = λ x. k.first; chain = itself l.name n }

  module _ (orderly : IsOrderly r) (local : IsLocal r) where
    -- the one block of its name
    pub target_is : (a b : N.block) (j : Joinable d start r a b) (x : BlockOccurrence N S) → Has x (block_occurrences_of r) → x.label.name ≡ b → j.target ≡ x
    target_is a b j x h e = orderly.blocks j.target x j.target_stands h (j.target_name ∙ sym e)

    pub leads_to : (a b : N.block) (j : Joinable d start r a b) → Has b j.last.head.successors
    leads_to a b j = subst (Has b) (sym j.leads) (inl refl)

    pub holder_of : (o : Occurrence N S) → Has o (occurrences_of r) → AtHome o.site
    holder_of o h = ⊎_elim (λ z. absurd z) (λ p. record { it = p.it; stands = p.stands; spot = p.spot; label = p.label }) (holder r.regions (at_root r) o h)

    -- the last operation of a block stands in it
    last_home : (a b : N.block) (j : Joinable d start r a b) (c : OperationSite N S) → AtHome c → c.label.name ≡ a → j.last.site.spot ≡ c.spot
    last_home a b j c h e =
        let p = holder_of j.last j.stands in
        let same = orderly.blocks p.it h.it p.stands h.stands (ap (λ l. l.name) p.label ∙ j.in_block ∙ sym e ∙ ap (λ l. l.name) (sym h.label)) in
        sym p.spot ∙ ap (λ x. x.spot) same ∙ h.spot

    -- the next block of a chain is in the same region
    pub next_like : (a : N.block) (x : BlockOccurrence N S) (j : Joinable d start r a x.label.name) → Has x (block_occurrences_of r) → (c e : OperationSite N S) → AtHome c → c.label.name ≡ a → LikeSite c e → LikeSite (record { spot = x.spot; label = x.label }) e
    next_like a x j h c e home n k =
        let last = last_home a x.label.name j c home n in
        let region = local.edges j.last x j.stands h (leads_to a x.label.name j) in
        let own : home.it.spot ≡ j.last.site.spot = home.spot ∙ sym last in
        let owner : x.spot.owner ≡ c.spot.owner = owner_same r orderly.operations home.it x home.stands h (region.around ∙ sym (ap (λ s. s.around) own)) ∙ ap (λ s. s.owner) home.spot in
        let index : x.spot.region ≡ c.spot.region = region.region ∙ ap (λ s. s.region) last in
        record {
          spot = record { name = k.spot.name ∙ ap (λ h. h.name) (sym owner); content = k.spot.content ∙ ap (λ h. h.content) (sym owner); region = k.spot.region ∙ sym index };
          first = λ f. absurd (true_false (d.is_ssa x.spot.owner.content x.spot.region) ((λ i. d.is_ssa (owner i).content (index i)) ∙ ap (λ s. d.is_ssa s.owner.content s.region) (sym last) ∙ j.visited.ssa) f);
          chain = next e.label.name a x.label.name (subst (InChain e.label.name) n k.chain) j;
        }

    -- a list that is joined is as empty as it was
    pub end_same : (rs qs : Tree N S Regions) → Joins d start r None Regions rs qs → (f : N.value → N.value) → is_end (use_instead f qs) ≡ is_end rs
    end_same rs qs j f = by_case None Regions rs qs j refl refl
      where
        by_case : (q : Option N.block) (s : Sort) (x u : Tree N S s) → Joins d start r q s x u → q ≡ None → s ≡ Regions → is_end (use_instead f u) ≡ is_end x
        by_case _ _ _ _ (ends s) e m = refl
        by_case _ _ _ _ (operations h rs qs rest more x y) e m = refl
        by_case _ _ _ _ (regions bs cs rest more x y) e m = refl
        by_case _ _ _ _ (taken l ops rest more b j x) e m = absurd (cc m)
        by_case _ _ _ _ (first l ops all rest more n x y) e m = refl
        by_case _ _ _ _ (chain_ends b ops own n x) e m = absurd (cc e)
        by_case _ _ _ _ (chain_goes_on b z ops own others all j h x y k) e m = absurd (cc e)

    module _ (names : N.value → N.value) where
      -- what an operation has become
      pub record Moved (o p : Occurrence N S) : Type 0 where
        pub site : LikeSite o.site p.site
        pub head : p.head ≡ use_head names o.head
        pub bare : is_end p.regions ≡ is_end o.regions

      pub record WasMoved (p : Occurrence N S) : Type 0 where
        pub it : Occurrence N S
        pub stands : Has it (occurrences_of r)
        pub is : Moved it p

      pub record WasFirst (y : BlockOccurrence N S) : Type 0 where
        pub it : BlockOccurrence N S
        pub stands : Has it (block_occurrences_of r)
        pub spot : LikeBlock it.spot y.spot
        pub label : y.label ≡ it.label
        pub is_first : (a : N.block) → Joinable d start r a it.label.name → ⊥

      own_home : (l : Label N S) (ops : Tree N S Operations) (rest : Tree N S Blocks) (c : Spot N S) → InTree (block l ops rest) c → AtHome (record { spot = c; label = l })
      own_home l ops rest c i = record { it = record { spot = c; label = l; operations = ops }; stands = i.blocks (record { spot = c; label = l; operations = ops }) (inl refl); spot = refl; label = refl }

      pub taken_later : (l : Label N S) (ops : Tree N S Operations) (rest : Tree N S Blocks) (c : Spot N S) → InTree (block l ops rest) c → (b : N.block) → Joinable d start r b l.name → c.first ≡ false
      taken_later l ops rest c i b j =
          let own : BlockOccurrence N S = record { spot = c; label = l; operations = ops } in
          sym (ap (λ x. x.spot.first) (target_is b l.name j own (i.blocks own (inl refl)) refl)) ∙ j.not_entry

      pub operation_was : (q : Option N.block) (s : Sort) (x u : Tree N S s) → Joins d start r q s x u → (c e : Inside N S s) → LikeInside s c e → HomeOf s c → IsNamed q s c → InTree x c → (p : Occurrence N S) → Has p (occurrences_in (use_instead names u) e) → WasMoved p
      operation_was _ _ _ _ (ends s) c e k m n i p h = absurd h
      operation_was _ _ _ _ (operations g rs qs rest more x y) c e k m n i p h = ⊎_elim
          (λ z. record {
            it = record { site = c; head = g; regions = rs };
            stands = i.operations (record { site = c; head = g; regions = rs }) (inl refl);
            is = record { site = subst (LikeSite c) (ap (λ w. w.site) (sym z)) k; head = ap (λ w. w.head) z; bare = ap (λ w. is_end w.regions) z ∙ end_same rs qs x names };
          })
          (λ z. ⊎_elim
          (λ w. operation_was None Regions rs qs x (inner g c) (inner (use_head names g) e) (like_inner names g c e) tt tt (part_regions (occurrences_of r) (block_occurrences_of r) g rs rest c i) p w)
          (λ w. operation_was None Operations rest more y c e k m tt (part_rest (occurrences_of r) (block_occurrences_of r) g rs rest c i) p w)
          (has-append p (occurrences_in (use_instead names qs) (inner (use_head names g) e)) (occurrences_in (use_instead names more) e) z)) h
      operation_was _ _ _ _ (regions bs cs rest more x y) c e k m n i p h = ⊎_elim
          (λ w. operation_was None Blocks bs cs x c e k tt tt (part_region (occurrences_of r) (block_occurrences_of r) bs rest c i) p w)
          (λ w. operation_was None Regions rest more y (next_region c) (next_region e) (like_region c e k) tt tt (part_more (occurrences_of r) (block_occurrences_of r) bs rest c i) p w)
          (has-append p (occurrences_in (use_instead names cs) e) (occurrences_in (use_instead names more) (next_region e)) h)
      operation_was _ _ _ _ (taken l ops rest more b j x) c e k m n i p h = operation_was None Blocks rest more x (next_block c) e (like_skip c e (taken_later l ops rest c i b j) k) tt tt (part_blocks (occurrences_of r) (block_occurrences_of r) l ops rest c i) p h
      operation_was _ _ _ _ (first l ops all rest more f x y) c e k m n i p h = ⊎_elim
          (λ w. operation_was (Some l.name) Operations ops all x (record { spot = c; label = l }) (record { spot = e; label = l }) (like_first c e l f k) (own_home l ops rest c i) refl (part_block (occurrences_of r) (block_occurrences_of r) l ops rest c i) p w)
          (λ w. operation_was None Blocks rest more y (next_block c) (next_block e) (like_next c e k) tt tt (part_blocks (occurrences_of r) (block_occurrences_of r) l ops rest c i) p w)
          (has-append p (occurrences_in (use_instead names all) (record { spot = e; label = l })) (occurrences_in (use_instead names more) (next_block e)) h)
      operation_was _ _ _ _ (chain_ends b ops own f x) c e k m n i p h = operation_was None Operations ops own x c e k m tt i p h
      operation_was _ _ _ _ (chain_goes_on b z ops own others all j s x y q) c e k m n i p h = ⊎_elim
          (λ w. operation_was None Operations (but_last ops) own x c e k m tt (part_part (but_last_inside ops c) i) p w)
          (λ w. operation_was (Some z.label.name) Operations z.operations others y (record { spot = z.spot; label = z.label }) e (next_like b z j s c e m n k) (record { it = z; stands = s; spot = refl; label = refl }) refl (block_inside r.regions (at_root r) z s) p w)
          (appended (use_instead names own) (use_instead names others) e p (subst (λ u. Has p (occurrences_in u e)) (ap (use_instead names) q ∙ use_append names own others) h))

      pub block_was : (q : Option N.block) (s : Sort) (x u : Tree N S s) → Joins d start r q s x u → (c e : Inside N S s) → LikeInside s c e → HomeOf s c → IsNamed q s c → InTree x c → (p : BlockOccurrence N S) → Has p (block_occurrences_in (use_instead names u) e) → WasFirst p
      block_was _ _ _ _ (ends s) c e k m n i p h = absurd h
      block_was _ _ _ _ (operations g rs qs rest more x y) c e k m n i p h = ⊎_elim
          (λ w. block_was None Regions rs qs x (inner g c) (inner (use_head names g) e) (like_inner names g c e) tt tt (part_regions (occurrences_of r) (block_occurrences_of r) g rs rest c i) p w)
          (λ w. block_was None Operations rest more y c e k m tt (part_rest (occurrences_of r) (block_occurrences_of r) g rs rest c i) p w)
          (has-append p (block_occurrences_in (use_instead names qs) (inner (use_head names g) e)) (block_occurrences_in (use_instead names more) e) h)
      block_was _ _ _ _ (regions bs cs rest more x y) c e k m n i p h = ⊎_elim
          (λ w. block_was None Blocks bs cs x c e k tt tt (part_region (occurrences_of r) (block_occurrences_of r) bs rest c i) p w)
          (λ w. block_was None Regions rest more y (next_region c) (next_region e) (like_region c e k) tt tt (part_more (occurrences_of r) (block_occurrences_of r) bs rest c i) p w)
          (has-append p (block_occurrences_in (use_instead names cs) e) (block_occurrences_in (use_instead names more) (next_region e)) h)
      block_was _ _ _ _ (taken l ops rest more b j x) c e k m n i p h = block_was None Blocks rest more x (next_block c) e (like_skip c e (taken_later l ops rest c i b j) k) tt tt (part_blocks (occurrences_of r) (block_occurrences_of r) l ops rest c i) p h
      block_was _ _ _ _ (first l ops all rest more f x y) c e k m n i p h = ⊎_elim
          (λ z. record {
            it = record { spot = c; label = l; operations = ops };
            stands = i.blocks (record { spot = c; label = l; operations = ops }) (inl refl);
            spot = subst (LikeBlock c) (ap (λ w. w.spot) (sym z)) k;
            label = ap (λ w. w.label) z;
            is_first = f;
          })
          (λ z. ⊎_elim
          (λ w. block_was (Some l.name) Operations ops all x (record { spot = c; label = l }) (record { spot = e; label = l }) (like_first c e l f k) (own_home l ops rest c i) refl (part_block (occurrences_of r) (block_occurrences_of r) l ops rest c i) p w)
          (λ w. block_was None Blocks rest more y (next_block c) (next_block e) (like_next c e k) tt tt (part_blocks (occurrences_of r) (block_occurrences_of r) l ops rest c i) p w)
          (has-append p (block_occurrences_in (use_instead names all) (record { spot = e; label = l })) (block_occurrences_in (use_instead names more) (next_block e)) z)) h
      block_was _ _ _ _ (chain_ends b ops own f x) c e k m n i p h = block_was None Operations ops own x c e k m tt i p h
      block_was _ _ _ _ (chain_goes_on b z ops own others all j s x y q) c e k m n i p h = ⊎_elim
          (λ w. block_was None Operations (but_last ops) own x c e k m tt (part_part (but_last_inside ops c) i) p w)
          (λ w. block_was (Some z.label.name) Operations z.operations others y (record { spot = z.spot; label = z.label }) e (next_like b z j s c e m n k) (record { it = z; stands = s; spot = refl; label = refl }) refl (block_inside r.regions (at_root r) z s) p w)
          (blocks_appended (use_instead names own) (use_instead names others) e p (subst (λ u. Has p (block_occurrences_in u e)) (ap (use_instead names) q ∙ use_append names own others) h))
