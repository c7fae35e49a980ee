-- What of a tree stands in the tree whose chains are joined: all but the branches along the chains, and the later blocks.
use Rattle.std.proofs.Common.{◌≡◌, ◌⊎◌, ⊎_elim, inl, inr, Bool, true, false, List, [], ◌∷◌, Option, Some, None, refl, sym, ap, ◌∙◌, subst}
use Rattle.std.specs.Prelude.{◌&&◌}
use Rattle.ir_trees.specs.Names.{Names, Contents}
use Rattle.ir_trees.specs.Trees.{Head, Label, Sort, Operations, Blocks, Regions, Tree, end, operation, block, region, Root}
use Rattle.opt_trees.specs.Occurrences.{Has, Occurrence, BlockOccurrence, OperationSite, Spot, Inside, inner, next_block, next_region, occurrences_in, block_occurrences_in, occurrences_of, block_occurrences_of}
use Rattle.opt_trees.specs.Dialect.{Dialect}
use Rattle.opt_trees.specs.Simplify.{StartingRegions, is_end, IsReached, entry, further, Joinable, use_head, use_instead, but_last, append, Joins, ends, operations, regions, taken, first, chain_ends, chain_goes_on, EndsIn, IsOrderly, IsLocal, BranchesLast}
use Rattle.opt_trees.proofs.NoneDead.{has-append, has-left, has-right, true_false}
use Rattle.opt_trees.proofs.One.{leads_one}
use Rattle.opt_trees.proofs.Homes.{direct, no_direct, direct_there, direct_spot, Part, part_regions, part_rest, part_block, part_blocks, part_region, part_more, part_part, append_left, append_right, use_append, operation_level}
use Rattle.opt_trees.proofs.Chains.{LikeSite, LikeBlock, LikeInside, InTree, like_inner, like_next, like_region, like_skip, like_first, target_is, leads_to, holder_of, next_like, end_same, Moved, taken_later}

and_right : (a b c : Bool) → (a && (b && c)) ≡ true → c ≡ true
and_right true true c e = e
and_right true false c e = absurd (cc e)
and_right false b c e = absurd (cc e)

none_in : {N : Names} {S : Contents} (rs : Tree N S Regions) (c : Spot N S) (o : Occurrence N S) → is_end rs ≡ true → Has o (occurrences_in rs c) → ⊥
none_in end c o e h = h
none_in (region bs rest) c o e h = absurd (cc e)

no_blocks_in : {N : Names} {S : Contents} (rs : Tree N S Regions) (c : Spot N S) (x : BlockOccurrence N S) → is_end rs ≡ true → Has x (block_occurrences_in rs c) → ⊥
no_blocks_in end c x e h = h
no_blocks_in (region bs rest) c x e h = absurd (cc e)

module _ {N : Names} {S : Contents} {A : Type 0} (d : Dialect S A) (start : StartingRegions N) (r : Root N S) where
  -- how a list was joined

  pub record OperationJoined (h : Head N S) (rs : Tree N S Regions) (rest u : Tree N S Operations) : Type 0 where
    pub inside : Tree N S Regions
    pub more : Tree N S Operations
    pub joins : Joins d start r None Regions rs inside
    pub joins_rest : Joins d start r None Operations rest more
    pub is : u ≡ operation h inside more

  pub record ChainEnds (b : N.block) (ops u : Tree N S Operations) : Type 0 where
    pub none : (t : N.block) → Joinable d start r b t → ⊥
    pub joins : Joins d start r None Operations ops u

  pub record ChainGoesOn (b : N.block) (ops u : Tree N S Operations) : Type 0 where
    pub to : BlockOccurrence N S
    pub stands : Has to (block_occurrences_of r)
    pub link : Joinable d start r b to.label.name
    pub own : Tree N S Operations
    pub others : Tree N S Operations
    pub joins : Joins d start r None Operations (but_last ops) own
    pub joins_rest : Joins d start r (Some to.label.name) Operations to.operations others
    pub is : u ≡ append own others

  abbrev pub Inverted : Option N.block → (s : Sort) → Tree N S s → Tree N S s → Type 0
  Inverted None s end u = Unit {0}
  Inverted None s (operation h rs rest) u = OperationJoined h rs rest u
  Inverted None s (block l ops rest) u = Unit {0}
  Inverted None s (region bs rest) u = Unit {0}
  Inverted (Some b) Operations x u = ChainEnds b x u ⊎ ChainGoesOn b x u
  Inverted (Some b) Blocks x u = Unit {0}
  Inverted (Some b) Regions x u = Unit {0}

  inverted : (q : Option N.block) (s : Sort) (x u : Tree N S s) → Joins d start r q s x u → Inverted q s x u
  inverted _ _ _ _ (ends s) = tt
  inverted _ _ _ _ (operations h rs qs rest more x y) = record { inside = qs; more = more; joins = x; joins_rest = y; is = refl }
  inverted _ _ _ _ (regions bs cs rest more x y) = tt
  inverted _ _ _ _ (taken l ops rest more b j x) = tt
  inverted _ _ _ _ (first l ops all rest more n x y) = tt
  inverted _ _ _ _ (chain_ends b ops own n x) = inl (record { none = n; joins = x })
  inverted _ _ _ _ (chain_goes_on b z ops own others all j h x y e) = inr (record { to = z; stands = h; link = j; own = own; others = others; joins = x; joins_rest = y; is = e })

  -- something is joined to it
  pub record IsTaken (b : N.block) : Type 0 where
    pub from : N.block
    pub link : Joinable d start r from b

  -- the branch along a chain
  pub record IsDropped (o : Occurrence N S) : Type 0 where
    pub target : N.block
    pub link : Joinable d start r o.site.label.name target
    pub leads : o.head.successors ≡ target ∷ []

  module _ (orderly : IsOrderly r) (local : IsLocal r) (names : N.value → N.value) (ps : List (Occurrence N S)) (ys : List (BlockOccurrence N S)) where
    abbrev pub PartAfter : {s : Sort} → Tree N S s → Inside N S s → Type 0
    PartAfter u e = Part (use_instead names u) e ps ys

    pub record IsMoved (o : Occurrence N S) : Type 0 where
      pub it : Occurrence N S
      pub stands : Has it ps
      pub is : Moved d start r orderly local names o it

    pub record IsFirst (x : BlockOccurrence N S) : Type 0 where
      pub it : BlockOccurrence N S
      pub stands : Has it ys
      pub spot : LikeBlock d start r x.spot it.spot
      pub label : it.label ≡ x.label

    abbrev pub site_of : BlockOccurrence N S → OperationSite N S
    site_of x = record { spot = x.spot; label = x.label }

    -- the operations of the block's chain, from it on, stand there
    pub record Holds (x : BlockOccurrence N S) : Type 0 where
      pub all : Tree N S Operations
      pub joins : Joins d start r (Some x.label.name) Operations x.operations all
      pub site : OperationSite N S
      pub like : LikeSite d start r (record { spot = x.spot; label = x.label }) site
      pub part : Part (use_instead names all) site ps ys

    -- each block of a list is taken, or its chain stands there
    pub level : (q : Option N.block) (s : Sort) (x u : Tree N S s) → Joins d start r q s x u → (c e : Inside N S s) → LikeInside d start r s c e → InTree d start r x c → PartAfter u e → (z : BlockOccurrence N S) → Has z (direct x c) → IsTaken z.label.name ⊎ (Holds z × IsFirst z)
    level _ _ _ _ (ends s) c e k i p z h = absurd h
    level _ _ _ _ (operations g rs qs rest more x y) c e k i p z h = absurd h
    level _ _ _ _ (regions bs cs rest more x y) c e k i p z h = ⊎_elim
        (λ w. level None Blocks bs cs x c e k (part_region (occurrences_of r) (block_occurrences_of r) bs rest c i) (part_region ps ys (use_instead names cs) (use_instead names more) e p) z w)
        (λ w. level None Regions rest more y (next_region c) (next_region e) (like_region d start r c e k) (part_more (occurrences_of r) (block_occurrences_of r) bs rest c i) (part_more ps ys (use_instead names cs) (use_instead names more) e p) z w)
        (has-append z (direct bs c) (direct rest (next_region c)) h)
    level _ _ _ _ (taken l ops rest more b j x) c e k i p z h = ⊎_elim
        (λ w. inl (record { from = b; link = subst (λ y. Joinable d start r b y.label.name) (sym w) j }))
        (λ w. level None Blocks rest more x (next_block c) e (like_skip d start r c e (taken_later d start r orderly local names l ops rest c i b j) k) (part_blocks (occurrences_of r) (block_occurrences_of r) l ops rest c i) p z w) h
    level _ _ _ _ (first l ops all rest more f x y) c e k i p z h = ⊎_elim
        (λ w. inr (
          subst Holds (sym w) (record { all = all; joins = x; site = record { spot = e; label = l }; like = like_first d start r c e l f k; part = part_block ps ys l (use_instead names all) (use_instead names more) e p }),
          subst IsFirst (sym w) (record { it = record { spot = e; label = l; operations = use_instead names all }; stands = p.blocks (record { spot = e; label = l; operations = use_instead names all }) (inl refl); spot = k; label = refl }),
        ))
        (λ w. level None Blocks rest more y (next_block c) (next_block e) (like_next d start r c e k) (part_blocks (occurrences_of r) (block_occurrences_of r) l ops rest c i) (part_blocks ps ys l (use_instead names all) (use_instead names more) e p) z w) h
    level _ _ _ _ (chain_ends b ops own f x) c e k i p z h = absurd (no_direct ops c z h)
    level _ _ _ _ (chain_goes_on b y ops own others all j s x q m) c e k i p z h = absurd (no_direct ops c z h)

    -- of a chain that goes on, the rest stands there
    rest_part : (u own others : Tree N S Operations) (e : OperationSite N S) → u ≡ append own others → PartAfter u e → PartAfter others e
    rest_part u own others e q p = part_part (append_right (use_instead names own) (use_instead names others) e) (subst (λ w. Part w e ps ys) (ap (use_instead names) q ∙ use_append names own others) p)

    own_part : (u own others : Tree N S Operations) (e : OperationSite N S) → u ≡ append own others → PartAfter u e → PartAfter own e
    own_part u own others e q p = part_part (append_left (use_instead names own) (use_instead names others) e) (subst (λ w. Part w e ps ys) (ap (use_instead names) q ∙ use_append names own others) p)

    follow : (w z : BlockOccurrence N S) → Has w (block_occurrences_of r) → Holds w → Has z (block_occurrences_of r) → Joinable d start r w.label.name z.label.name → Holds z
    follow w z s h m j = ⊎_elim
        (λ f. absurd (f.none z.label.name j))
        (λ g.
        let same : g.to ≡ z = orderly.blocks g.to z g.stands m (leads_one d start r orderly w.label.name g.to.label.name z.label.name g.link j) in
        subst Holds same (record {
          all = g.others;
          joins = g.joins_rest;
          site = h.site;
          like = next_like d start r orderly local w.label.name g.to g.link g.stands (record { spot = w.spot; label = w.label }) h.site (record { it = w; stands = s; spot = refl; label = refl }) refl h.like;
          part = rest_part h.all g.own g.others h.site g.is h.part;
        }))
        (inverted (Some w.label.name) Operations w.operations h.all h.joins)

    -- the blocks of regions, all of one holder
    module _ (rs : Tree N S Regions) (k : Spot N S) (choice : (z : BlockOccurrence N S) → Has z (direct rs k) → IsTaken z.label.name ⊎ (Holds z × IsFirst z)) (inside : InTree d start r rs k) (same_level : (z : BlockOccurrence N S) → Has z (block_occurrences_of r) → z.spot.around ≡ k.around → Has z (direct rs k)) where
      there : (z : BlockOccurrence N S) → Has z (direct rs k) → Has z (block_occurrences_of r)
      there z m = inside.blocks z (direct_there rs k z m)

      -- what leads there stands there
      from_here : (o : Occurrence N S) (h : Has o (occurrences_of r)) (x : BlockOccurrence N S) → Has x (direct rs k) → Has x.label.name o.head.successors → Has (holder_of d start r orderly local o h).it (direct rs k)
      from_here o h x m s =
          let own = holder_of d start r orderly local o h in
          same_level own.it own.stands (ap (λ y. y.around) own.spot ∙ sym (local.edges o x h (there x m) s).around ∙ (direct_spot rs k x m).around)

      holds : (b : N.block) → IsReached r b → (x : BlockOccurrence N S) → Has x (direct rs k) → x.label.name ≡ b → Holds x
      holds _ (entry y h f) x m e = ⊎_elim
          (λ t.
          let at = target_is d start r orderly local t.from x.label.name t.link x (there x m) refl in
          let same = orderly.blocks x y (there x m) h e in
          absurd (true_false y.spot.first f (ap (λ z. z.spot.first) (sym same) ∙ ap (λ z. z.spot.first) (sym at) ∙ t.link.not_entry)))
          (λ p. p.0) (choice x m)
      holds _ (further o b h p s) x m e =
          let leads = subst (λ z. Has z o.head.successors) (sym e) s in
          let own = holder_of d start r orderly local o h in
          let own_holds = holds o.site.label.name p own.it (from_here o h x m leads) (ap (λ l. l.name) own.label) in
          ⊎_elim
          (λ t.
          let from : t.from ≡ own.it.label.name = sym t.link.in_block ∙ ap (λ q. q.site.label.name) (sym (t.link.single o h leads)) ∙ ap (λ l. l.name) (sym own.label) in
          follow own.it x own.stands own_holds (there x m) (subst (λ a. Joinable d start r a x.label.name) from t.link))
          (λ q. q.0) (choice x m)

      pub hold : (x : BlockOccurrence N S) → Has x (direct rs k) → Holds x × (IsTaken x.label.name ⊎ IsFirst x)
      hold x m = ⊎_elim
          (λ t.
          let own = holder_of d start r orderly local t.link.last t.link.stands in
          let from : own.it.label.name ≡ t.from = ap (λ l. l.name) own.label ∙ t.link.in_block in
          let h = holds t.from t.link.reached own.it (from_here t.link.last t.link.stands x m (leads_to d start r orderly local t.from x.label.name t.link)) from in
          (follow own.it x own.stands h (there x m) (subst (λ a. Joinable d start r a x.label.name) (sym from) t.link), inl t))
          (λ p. (p.0, inr p.1)) (choice x m)

    module _ (last : BranchesLast r) where
      -- operations that are joined, all, or all but the branch to the next block
      pub record Whole (t : Tree N S Operations) (c : OperationSite N S) : Type 0 where
        pub own : Tree N S Operations
        pub joins : Joins d start r None Operations t own
        pub site : OperationSite N S
        pub like : LikeSite d start r c site
        pub part : Part (use_instead names own) site ps ys

      pub record ButLast (t : Tree N S Operations) (c : OperationSite N S) : Type 0 where
        pub own : Tree N S Operations
        pub joins : Joins d start r None Operations (but_last t) own
        pub site : OperationSite N S
        pub like : LikeSite d start r c site
        pub part : Part (use_instead names own) site ps ys
        pub target : N.block
        pub link : Joinable d start r c.label.name target
        pub is_last : EndsIn t link.last.head link.last.regions

      abbrev pub Given : (s : Sort) → Tree N S s → Inside N S s → Type 0
      Given Operations t c = Whole t c ⊎ ButLast t c
      Given Blocks t c = (x : BlockOccurrence N S) → Has x (direct t c) → Holds x × (IsTaken x.label.name ⊎ IsFirst x)
      Given Regions t c = (x : BlockOccurrence N S) → Has x (direct t c) → Holds x × (IsTaken x.label.name ⊎ IsFirst x)

      -- the operations of a block
      of_block : (l : Label N S) (ops : Tree N S Operations) (rest : Tree N S Blocks) (c : Spot N S) → InTree d start r (block l ops rest) c → Holds (record { spot = c; label = l; operations = ops }) → Given Operations ops (record { spot = c; label = l })
      of_block l ops rest c i h = ⊎_elim
          (λ f. inl (record { own = h.all; joins = f.joins; site = h.site; like = h.like; part = h.part }))
          (λ g. inr (record {
            own = g.own;
            joins = g.joins;
            site = h.site;
            like = h.like;
            part = own_part h.all g.own g.others h.site g.is h.part;
            target = g.to.label.name;
            link = g.link;
            is_last = last g.link.last (record { spot = c; label = l; operations = ops }) g.to.label.name g.link.stands (i.blocks (record { spot = c; label = l; operations = ops }) (inl refl)) g.link.in_block (leads_to d start r orderly local l.name g.to.label.name g.link);
          }))
          (inverted (Some l.name) Operations ops h.all h.joins)

      -- the regions of an operation that stands there
      pub of_regions : (h : Head N S) (rs qs : Tree N S Regions) (c e : OperationSite N S) → Has (record { site = c; head = h; regions = rs }) (occurrences_of r) → InTree d start r rs (inner h c) → Joins d start r None Regions rs qs → PartAfter qs (inner (use_head names h) e) → Given Regions rs (inner h c)
      of_regions h rs qs c e s i j p = hold rs (inner h c) (level None Regions rs qs j (inner h c) (inner (use_head names h) e) (like_inner d start r names h c e) i p) i (λ z m q. operation_level r orderly.operations (record { site = c; head = h; regions = rs }) s z m q)

      moved : (h : Head N S) (rs qs : Tree N S Regions) (more : Tree N S Operations) (c e : OperationSite N S) → LikeSite d start r c e → Joins d start r None Regions rs qs → PartAfter (operation h qs more) e → IsMoved (record { site = c; head = h; regions = rs })
      moved h rs qs more c e k j p = record {
        it = record { site = e; head = use_head names h; regions = use_instead names qs };
        stands = p.operations (record { site = e; head = use_head names h; regions = use_instead names qs }) (inl refl);
        is = record { site = k; head = refl; bare = end_same d start r orderly local rs qs j names };
      }

      -- an operation is there, or was dropped
      pub cover : {s : Sort} (t : Tree N S s) (c : Inside N S s) → Given s t c → InTree d start r t c → (o : Occurrence N S) → Has o (occurrences_in t c) → IsDropped o ⊎ IsMoved o
      cover end c w i o m = absurd m
      cover (operation h rs rest) c (inl w) i o m =
          let v = inverted None Operations (operation h rs rest) w.own w.joins in
          let part = subst (λ u. Part (use_instead names u) w.site ps ys) v.is w.part in
          let own : Has (record { site = c; head = h; regions = rs }) (occurrences_of r) = i.operations (record { site = c; head = h; regions = rs }) (inl refl) in
          let in_regions = part_regions (occurrences_of r) (block_occurrences_of r) h rs rest c i in
          ⊎_elim
          (λ z. subst (λ q. IsDropped q ⊎ IsMoved q) (sym z) (inr (moved h rs v.inside v.more c w.site w.like v.joins part)))
          (λ z. ⊎_elim
          (λ y. cover rs (inner h c) (of_regions h rs v.inside c w.site own in_regions v.joins (part_regions ps ys (use_head names h) (use_instead names v.inside) (use_instead names v.more) w.site part)) in_regions o y)
          (λ y. cover rest c (inl (record { own = v.more; joins = v.joins_rest; site = w.site; like = w.like; part = part_rest ps ys (use_head names h) (use_instead names v.inside) (use_instead names v.more) w.site part })) (part_rest (occurrences_of r) (block_occurrences_of r) h rs rest c i) o y)
          (has-append o (occurrences_in rs (inner h c)) (occurrences_in rest c) z)) m
      cover (operation h rs end) c (inr w) i o m = ⊎_elim
          (λ z. subst (λ q. IsDropped q ⊎ IsMoved q) (sym z) (inl (record { target = w.target; link = w.link; leads = ap (λ q. q.successors) w.is_last.0 ∙ w.link.leads })))
          (λ z. ⊎_elim
          (λ y. absurd (none_in rs (inner h c) o (ap is_end w.is_last.1 ∙ and_right (d.is_branch w.link.last.head.content) _ (is_end w.link.last.regions) w.link.bare) y))
          (λ y. absurd y)
          (has-append o (occurrences_in rs (inner h c)) [] z)) m
      cover (operation h rs (operation g qs rest)) c (inr w) i o m =
          let v = inverted None Operations (operation h rs (but_last (operation g qs rest))) w.own w.joins in
          let part = subst (λ u. Part (use_instead names u) w.site ps ys) v.is w.part in
          let own : Has (record { site = c; head = h; regions = rs }) (occurrences_of r) = i.operations (record { site = c; head = h; regions = rs }) (inl refl) in
          let in_regions = part_regions (occurrences_of r) (block_occurrences_of r) h rs (operation g qs rest) c i in
          ⊎_elim
          (λ z. subst (λ q. IsDropped q ⊎ IsMoved q) (sym z) (inr (moved h rs v.inside v.more c w.site w.like v.joins part)))
          (λ z. ⊎_elim
          (λ y. cover rs (inner h c) (of_regions h rs v.inside c w.site own in_regions v.joins (part_regions ps ys (use_head names h) (use_instead names v.inside) (use_instead names v.more) w.site part)) in_regions o y)
          (λ y. cover (operation g qs rest) c (inr (record { own = v.more; joins = v.joins_rest; site = w.site; like = w.like; part = part_rest ps ys (use_head names h) (use_instead names v.inside) (use_instead names v.more) w.site part; target = w.target; link = w.link; is_last = w.is_last })) (part_rest (occurrences_of r) (block_occurrences_of r) h rs (operation g qs rest) c i) o y)
          (has-append o (occurrences_in rs (inner h c)) (occurrences_in (operation g qs rest) c) z)) m
      cover (block l ops rest) c w i o m = ⊎_elim
          (λ z. cover ops (record { spot = c; label = l }) (of_block l ops rest c i (w (record { spot = c; label = l; operations = ops }) (inl refl)).0) (part_block (occurrences_of r) (block_occurrences_of r) l ops rest c i) o z)
          (λ z. cover rest (next_block c) (λ x q. w x (inr q)) (part_blocks (occurrences_of r) (block_occurrences_of r) l ops rest c i) o z)
          (has-append o (occurrences_in ops (record { spot = c; label = l })) (occurrences_in rest (next_block c)) m)
      cover (region bs rest) c w i o m = ⊎_elim
          (λ z. cover bs c (λ x q. w x (has-left x (direct bs c) (direct rest (next_region c)) q)) (part_region (occurrences_of r) (block_occurrences_of r) bs rest c i) o z)
          (λ z. cover rest (next_region c) (λ x q. w x (has-right x (direct bs c) (direct rest (next_region c)) q)) (part_more (occurrences_of r) (block_occurrences_of r) bs rest c i) o z)
          (has-append o (occurrences_in bs c) (occurrences_in rest (next_region c)) m)

      -- a block is there, or was taken
      pub cover_block : {s : Sort} (t : Tree N S s) (c : Inside N S s) → Given s t c → InTree d start r t c → (o : BlockOccurrence N S) → Has o (block_occurrences_in t c) → IsTaken o.label.name ⊎ IsFirst o
      cover_block end c w i o m = absurd m
      cover_block (operation h rs rest) c (inl w) i o m =
          let v = inverted None Operations (operation h rs rest) w.own w.joins in
          let part = subst (λ u. Part (use_instead names u) w.site ps ys) v.is w.part in
          let own : Has (record { site = c; head = h; regions = rs }) (occurrences_of r) = i.operations (record { site = c; head = h; regions = rs }) (inl refl) in
          let in_regions = part_regions (occurrences_of r) (block_occurrences_of r) h rs rest c i in
          ⊎_elim
          (λ y. cover_block rs (inner h c) (of_regions h rs v.inside c w.site own in_regions v.joins (part_regions ps ys (use_head names h) (use_instead names v.inside) (use_instead names v.more) w.site part)) in_regions o y)
          (λ y. cover_block rest c (inl (record { own = v.more; joins = v.joins_rest; site = w.site; like = w.like; part = part_rest ps ys (use_head names h) (use_instead names v.inside) (use_instead names v.more) w.site part })) (part_rest (occurrences_of r) (block_occurrences_of r) h rs rest c i) o y)
          (has-append o (block_occurrences_in rs (inner h c)) (block_occurrences_in rest c) m)
      cover_block (operation h rs end) c (inr w) i o m = ⊎_elim
          (λ y. absurd (no_blocks_in rs (inner h c) o (ap is_end w.is_last.1 ∙ and_right (d.is_branch w.link.last.head.content) _ (is_end w.link.last.regions) w.link.bare) y))
          (λ y. absurd y)
          (has-append o (block_occurrences_in rs (inner h c)) [] m)
      cover_block (operation h rs (operation g qs rest)) c (inr w) i o m =
          let v = inverted None Operations (operation h rs (but_last (operation g qs rest))) w.own w.joins in
          let part = subst (λ u. Part (use_instead names u) w.site ps ys) v.is w.part in
          let own : Has (record { site = c; head = h; regions = rs }) (occurrences_of r) = i.operations (record { site = c; head = h; regions = rs }) (inl refl) in
          let in_regions = part_regions (occurrences_of r) (block_occurrences_of r) h rs (operation g qs rest) c i in
          ⊎_elim
          (λ y. cover_block rs (inner h c) (of_regions h rs v.inside c w.site own in_regions v.joins (part_regions ps ys (use_head names h) (use_instead names v.inside) (use_instead names v.more) w.site part)) in_regions o y)
          (λ y. cover_block (operation g qs rest) c (inr (record { own = v.more; joins = v.joins_rest; site = w.site; like = w.like; part = part_rest ps ys (use_head names h) (use_instead names v.inside) (use_instead names v.more) w.site part; target = w.target; link = w.link; is_last = w.is_last })) (part_rest (occurrences_of r) (block_occurrences_of r) h rs (operation g qs rest) c i) o y)
          (has-append o (block_occurrences_in rs (inner h c)) (block_occurrences_in (operation g qs rest) c) m)
      cover_block (block l ops rest) c w i o m = ⊎_elim
          (λ z. subst (λ q. IsTaken q.label.name ⊎ IsFirst q) (sym z) (w (record { spot = c; label = l; operations = ops }) (inl refl)).1)
          (λ z. ⊎_elim
          (λ y. cover_block ops (record { spot = c; label = l }) (of_block l ops rest c i (w (record { spot = c; label = l; operations = ops }) (inl refl)).0) (part_block (occurrences_of r) (block_occurrences_of r) l ops rest c i) o y)
          (λ y. cover_block rest (next_block c) (λ x q. w x (inr q)) (part_blocks (occurrences_of r) (block_occurrences_of r) l ops rest c i) o y)
          (has-append o (block_occurrences_in ops (record { spot = c; label = l })) (block_occurrences_in rest (next_block c)) z)) m
      cover_block (region bs rest) c w i o m = ⊎_elim
          (λ z. cover_block bs c (λ x q. w x (has-left x (direct bs c) (direct rest (next_region c)) q)) (part_region (occurrences_of r) (block_occurrences_of r) bs rest c i) o z)
          (λ z. cover_block rest (next_region c) (λ x q. w x (has-right x (direct bs c) (direct rest (next_region c)) q)) (part_more (occurrences_of r) (block_occurrences_of r) bs rest c i) o z)
          (has-append o (block_occurrences_in bs c) (block_occurrences_in rest (next_region c)) m)
