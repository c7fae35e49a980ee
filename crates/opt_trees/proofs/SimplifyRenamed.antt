-- simplify of a tree under other names.
use Rattle.std.proofs.Common.{◌≡◌, ℕ, Bool, true, false, not, List, [], ◌∷◌, Option, Some, None, refl, sym, ap, ◌∙◌, subst}
use Rattle.std.specs.Prelude.{map, if◌then◌else◌, ◌&&◌}
use Rattle.std.specs.Prelude.{slice_get}
use Rattle.ir_trees.specs.Names.{Names, Contents}
use Rattle.ir_trees.specs.Renames.{rename_defined, rename_head, rename_label, rename, rename_root, names_of}
use Rattle.ir_trees.specs.Trees.{Defined, Head, Sort, Operations, Blocks, Regions, Tree, end, operation, block, region, Root}
use Rattle.opt_trees.specs.Occurrences.{Has, cons_if, Spot, rename_spot, rename_occurrence, rename_block_occurrence, Renaming, maps, OperationsApart}
use Rattle.opt_trees.specs.Dialect.{Dialect}
use Rattle.opt_trees.specs.Facts.{forwarded}
use Rattle.opt_trees.specs.Dce.{TreeSurroundings, Agree}
use Rattle.opt_trees.specs.Simplify.{StartingRegions, OfOperations, OfRegion, BeginsAt, all_of, rename_place, use_head, is_empty, is_end, is_bare, along_edge, decide_head, decide, decided, IsReached, entry, further, IsEntered, IsVisited, of_place, of_inner, IsVisitedSsa, IsUnreached, keep, IsCut, Joinable, IsGiven, Follows, stops, goes_on, use_instead, but_last, append, Joins, ends, operations, regions, taken, first, chain_ends, chain_goes_on, IsJoined, IsSimplify, Chases, goes, goes_by, ComesBack}
use Rattle.opt_trees.proofs.Lists.{map-map, names-map, at-map, cons_if-map, has-map, has-from_map, has-apart, apart, at-to, from_some, none_some}
use Rattle.opt_trees.proofs.FactsRenamed.{forwarded_under}
use Rattle.opt_trees.proofs.DceRenamed.{rt, operation_to, operation_from, block_to, block_from}

no_true : false ≡ true → ⊥
no_true e = cc e

module _ {N M : Names} {S : Contents} {A : Type 0} (d : Dialect S A) (r : Renaming N M) where
  -- 1. branches

  end_under : {s : Sort} (x : Tree N S s) → is_end (rename (maps r) x) ≡ is_end x
  end_under end = refl
  end_under (operation h rs rest) = refl
  end_under (block l ops rest) = refl
  end_under (region bs rest) = refl

  results_under : (vs : List (Defined N.value S.of_value)) → is_empty (map (rename_defined r.value.to) vs) ≡ is_empty vs
  results_under [] = refl
  results_under (v ∷ vs) = refl

  bare_under : (h : Head N S) (rs : Tree N S Regions) → is_bare d (rename_head (maps r) h) (rename (maps r) rs) ≡ is_bare d h rs
  bare_under h rs = λ i. d.is_branch h.content && (results_under h.results i && end_under rs i)

  along_under : (h : Head N S) (q : Option ℕ) (c : Option S.of_operation) → along_edge d (rename_head (maps r) h) q c ≡ rename_head (maps r) (along_edge d h q c)
  along_under h None c = refl
  along_under h (Some i) None = refl
  along_under h (Some i) (Some c) = λ j. record { name = r.operation.to h.name; content = c; results = map (rename_defined r.value.to) h.results; operands = forwarded_under d r h i j; successors = (ap (λ q. cons_if q []) (at-map r.block.to h.successors i) ∙ cons_if-map r.block.to (slice_get h.successors i) []) j }

  module _ (w : TreeSurroundings N A) (w' : TreeSurroundings M A) (agree : Agree r w w') where
    decide_head_under : (h : Head N S) (rs : Tree N S Regions) → decide_head d w'.alone (rename_head (maps r) h) (rename (maps r) rs) ≡ rename_head (maps r) (decide_head d w.alone h rs)
    decide_head_under h rs =
        (λ i. if bare_under h rs i && not (d.is_plain h.content) then along_edge d (rename_head (maps r) h) (d.edge h.content (known i)) d.plain else rename_head (maps r) h)
        ∙ by_test (is_bare d h rs && not (d.is_plain h.content))
      where
        known : map w'.alone (map r.value.to h.operands) ≡ map w.alone h.operands
        known = map-map w'.alone r.value.to h.operands ∙ λ i. map (λ v. agree.knows v i) h.operands

        by_test : (b : Bool) → (if b then along_edge d (rename_head (maps r) h) (d.edge h.content (map w.alone h.operands)) d.plain else rename_head (maps r) h) ≡ rename_head (maps r) (if b then along_edge d h (d.edge h.content (map w.alone h.operands)) d.plain else h)
        by_test true = along_under h (d.edge h.content (map w.alone h.operands)) d.plain
        by_test false = refl

    decide_under : {s : Sort} (x : Tree N S s) → decide d w'.alone (rename (maps r) x) ≡ rename (maps r) (decide d w.alone x)
    decide_under end = refl
    decide_under (operation h rs rest) = λ i. operation (decide_head_under h rs i) (decide_under rs i) (decide_under rest i)
    decide_under (block l ops rest) = λ i. block (rename_label (maps r) l) (decide_under ops i) (decide_under rest i)
    decide_under (region bs rest) = λ i. region (decide_under bs i) (decide_under rest i)

    pub decided_renamed : (t : Root N S) → decided d w' (rename_root (maps r) t) ≡ rename_root (maps r) (decided d w t)
    decided_renamed t = λ i. record { head = rename_head (maps r) t.head; regions = decide_under t.regions i }

module _ {N M : Names} {S : Contents} {A : Type 0} (d : Dialect S A) (r : Renaming N M) (start : StartingRegions N) where
  -- 2. blocks

  abbrev new_start : StartingRegions M
  new_start = rename_place (maps r) start

  begins_to : (p : StartingRegions N) (o : N.operation) (i : ℕ) →
      BeginsAt p o i → BeginsAt (rename_place (maps r) p) (r.operation.to o) i
  begins_to (OfOperations os) o i h = has-map r.operation.to o os h
  begins_to (OfRegion a k) o i h = (ap r.operation.to h.0, h.1)

  begins_from : (p : StartingRegions N) (o : N.operation) (i : ℕ) →
      BeginsAt (rename_place (maps r) p) (r.operation.to o) i → BeginsAt p o i
  begins_from (OfOperations os) o i h = has-apart r.operation o os h
  begins_from (OfRegion a k) o i h = (apart r.operation o a h.0, h.1)

  module _ (t : Root N S) where
    reached_to : (b : N.block) → IsReached t b → IsReached (rt r t) (r.block.to b)
    reached_to _ (entry x h f) = entry (rename_block_occurrence (maps r) x) (block_to r t x h) f
    reached_to _ (further o b h p s) = further (rename_occurrence (maps r) o) (r.block.to b) (operation_to r t o h) (reached_to o.site.label.name p) (has-map r.block.to b o.head.successors s)

    reached_from : (c : M.block) → IsReached (rt r t) c → (b : N.block) → r.block.to b ≡ c → IsReached t b
    reached_from _ (entry x h f) b e =
        let q = block_from r t x h in
        subst (IsReached t) (apart r.block q.it.label.name b (ap (λ z. z.label.name) q.is ∙ sym e)) (entry q.it q.stands (ap (λ z. z.spot.first) q.is ∙ f))
    reached_from _ (further o c h p s) b e =
        let q = operation_from r t o h in
        further q.it b q.stands (reached_from o.site.label.name p q.it.site.label.name (ap (λ z. z.site.label.name) q.is))
        (has-apart r.block b q.it.head.successors (subst (λ z. Has z (map r.block.to q.it.head.successors)) (sym e) (subst (λ z. Has c z.head.successors) (sym q.is) s)))

    origin : (c : M.block) → IsReached (rt r t) c → (b : N.block) × (r.block.to b ≡ c)
    origin _ (entry x h f) = let q = block_from r t x h in (q.it.label.name, ap (λ z. z.label.name) q.is)
    origin _ (further o c h p s) =
        let q = operation_from r t o h in
        let b = has-from_map r.block.to c q.it.head.successors (subst (λ z. Has c z.head.successors) (sym q.is) s) in
        (b.it, b.is)

    entered_to : (c : Spot N S) (b : N.block) (f : Bool) → IsEntered t c b f → IsEntered (rt r t) (rename_spot (maps r) c) (r.block.to b) f
    entered_to c b true h = reached_to b h
    entered_to c b false h = h

    entered_from : (c : Spot N S) (b : N.block) (f : Bool) → IsEntered (rt r t) (rename_spot (maps r) c) (r.block.to b) f → IsEntered t c b f
    entered_from c b true h = reached_from (r.block.to b) h b refl
    entered_from c b false h = h

    visited_to : (o : N.operation) (i : ℕ) →
        IsVisited d start t o i → IsVisited d new_start (rt r t) (r.operation.to o) i
    visited_to _ _ (of_place o i h) = of_place (r.operation.to o) i (begins_to start o i h)
    visited_to _ _ (of_inner o i h v e) = of_inner (rename_occurrence (maps r) o) i (operation_to r t o h) (visited_to o.site.spot.owner.name o.site.spot.region v) (entered_to o.site.spot o.site.label.name (d.is_ssa o.site.spot.owner.content o.site.spot.region) e)

    visited_from : (p : M.operation) (i : ℕ) → IsVisited d new_start (rt r t) p i → (o : N.operation) (j : ℕ) → r.operation.to o ≡ p → j ≡ i → IsVisited d start t o j
    visited_from _ _ (of_place p i h) o j e f = of_place o j (begins_from start o j
        (subst (λ z. BeginsAt new_start z j) (sym e) (subst (BeginsAt new_start p) (sym f) h)))
    visited_from _ _ (of_inner p i h v g) o j e f =
        let q = operation_from r t p h in
        let g' = entered_from q.it.site.spot q.it.site.label.name (d.is_ssa q.it.site.spot.owner.content q.it.site.spot.region) (subst (λ z. IsEntered (rt r t) z.site.spot z.site.label.name (d.is_ssa z.site.spot.owner.content z.site.spot.region)) (sym q.is) g) in
        subst (λ z. IsVisited d start t z j) (apart r.operation q.it.head.name o (ap (λ z. z.head.name) q.is ∙ sym e))
        (of_inner q.it j q.stands (visited_from p.site.spot.owner.name p.site.spot.region v q.it.site.spot.owner.name q.it.site.spot.region (ap (λ z. z.site.spot.owner.name) q.is) (ap (λ z. z.site.spot.region) q.is)) g')

    ssa_to : (c : Spot N S) → IsVisitedSsa d start t c → IsVisitedSsa d new_start (rt r t) (rename_spot (maps r) c)
    ssa_to c v = record { visited = visited_to c.owner.name c.region v.visited; ssa = v.ssa }

    ssa_from : (c : Spot N S) → IsVisitedSsa d new_start (rt r t) (rename_spot (maps r) c) → IsVisitedSsa d start t c
    ssa_from c v = record { visited = visited_from (r.operation.to c.owner.name) c.region v.visited c.owner.name c.region refl refl; ssa = v.ssa }

    unreached_to : (b : N.block) → IsUnreached d start t b → IsUnreached d new_start (rt r t) (r.block.to b)
    unreached_to b u = record { it = rename_block_occurrence (maps r) u.it; stands = block_to r t u.it u.stands; name = ap r.block.to u.name; visited = ssa_to u.it.spot u.visited; unreached = λ h. u.unreached (reached_from (r.block.to b) h b refl) }

    unreached_from : (c : M.block) → IsUnreached d new_start (rt r t) c →
        (b : N.block) × (r.block.to b ≡ c) × IsUnreached d start t b
    unreached_from c u =
        let q = block_from r t u.it u.stands in
        let is : r.block.to q.it.label.name ≡ c = ap (λ z. z.label.name) q.is ∙ u.name in
        (q.it.label.name, is, record { it = q.it; stands = q.stands; name = refl; visited = ssa_from q.it.spot (subst (λ z. IsVisitedSsa d new_start (rt r t) z.spot) (sym q.is) u.visited); unreached = λ h. u.unreached (subst (IsReached (rt r t)) is (reached_to q.it.label.name h)) })

    abbrev gone_at : (N.block → Bool) → Option N.block → Bool
    gone_at g None = false
    gone_at g (Some b) = g b

    abbrev gone_pushed : (N.block → Bool) → M.block → Bool
    gone_pushed g c = gone_at g (r.block.back c)

    keep_under : (g : N.block → Bool) {s : Sort} (x : Tree N S s) → keep (gone_pushed g) (rename (maps r) x) ≡ rename (maps r) (keep g x)
    keep_under g end = refl
    keep_under g (operation h rs rest) = λ i. operation (rename_head (maps r) h) (keep_under g rs i) (keep_under g rest i)
    keep_under g (block l ops rest) =
        ap (λ b. if b then keep (gone_pushed g) (rename (maps r) rest) else block (rename_label (maps r) l) (keep (gone_pushed g) (rename (maps r) ops)) (keep (gone_pushed g) (rename (maps r) rest))) (ap (gone_at g) (r.block.there l.name))
        ∙ by_test (g l.name) (keep_under g ops) (keep_under g rest)
      where
        by_test : (b : Bool) → keep (gone_pushed g) (rename (maps r) ops) ≡ rename (maps r) (keep g ops) → keep (gone_pushed g) (rename (maps r) rest) ≡ rename (maps r) (keep g rest) → (if b then keep (gone_pushed g) (rename (maps r) rest) else block (rename_label (maps r) l) (keep (gone_pushed g) (rename (maps r) ops)) (keep (gone_pushed g) (rename (maps r) rest))) ≡ rename (maps r) (if b then keep g rest else block l (keep g ops) (keep g rest))
        by_test true x y = y
        by_test false x y = λ i. block (rename_label (maps r) l) (x i) (y i)
    keep_under g (region bs rest) = λ i. region (keep_under g bs i) (keep_under g rest i)

    pub cut_renamed : (after : Root N S) → IsCut d start t after → IsCut d new_start (rename_root (maps r) t) (rename_root (maps r) after)
    cut_renamed after p = record {
      reach = gone_pushed p.reach;
      reached = λ c e. reach c e (r.block.back c) refl;
      all_reached = λ c h. all c h (r.block.back c) refl;
      gone = gone_pushed p.gone;
      there = λ c e. there c e (r.block.back c) refl;
      all = λ c u. let q = unreached_from c u in ap (gone_pushed p.gone) (sym q.1) ∙ ap (gone_at p.gone) (r.block.there q.0) ∙ p.all q.0 q.2;
      is = ap (rename_root (maps r)) p.is ∙ λ i. record { head = rename_head (maps r) t.head; regions = sym (keep_under p.gone t.regions) i };
    }
      where
        reach : (c : M.block) → gone_pushed p.reach c ≡ true → (q : Option N.block) → r.block.back c ≡ q → IsReached (rt r t) c
        reach c e None k = absurd (no_true (ap (gone_at p.reach) (sym k) ∙ e))
        reach c e (Some b) k = subst (IsReached (rt r t)) (r.block.from c b k) (reached_to b (p.reached b (ap (gone_at p.reach) (sym k) ∙ e)))

        all : (c : M.block) → IsReached (rt r t) c → (q : Option N.block) → r.block.back c ≡ q → gone_pushed p.reach c ≡ true
        all c h None k = let o = origin c h in absurd (none_some o.0 (sym k ∙ ap r.block.back (sym o.1) ∙ r.block.there o.0))
        all c h (Some b) k = ap (gone_at p.reach) k ∙ p.all_reached b (reached_from c h b (r.block.from c b k))

        there : (c : M.block) → gone_pushed p.gone c ≡ true → (q : Option N.block) → r.block.back c ≡ q → IsUnreached d new_start (rt r t) c
        there c e None k = absurd (no_true (ap (gone_at p.gone) (sym k) ∙ e))
        there c e (Some b) k = subst (IsUnreached d new_start (rt r t)) (r.block.from c b k) (unreached_to b (p.there b (ap (gone_at p.gone) (sym k) ∙ e)))

  -- 3. chains

  use_head_under : (f : N.value → N.value) (f' : M.value → M.value) →
      ((v : N.value) → f' (r.value.to v) ≡ r.value.to (f v)) → (h : Head N S) →
      use_head f' (rename_head (maps r) h) ≡ rename_head (maps r) (use_head f h)
  use_head_under f f' agree h = λ i. record {
    name = r.operation.to h.name;
    content = h.content;
    results = map (rename_defined r.value.to) h.results;
    operands = (map-map f' r.value.to h.operands
        ∙ (λ j. map (λ v. agree v j) h.operands)
        ∙ sym (map-map r.value.to f h.operands)) i;
    successors = map r.block.to h.successors;
  }

  use_under : {s : Sort} (f : N.value → N.value) (f' : M.value → M.value) → ((v : N.value) → f' (r.value.to v) ≡ r.value.to (f v)) → (x : Tree N S s) → use_instead f' (rename (maps r) x) ≡ rename (maps r) (use_instead f x)
  use_under f f' agree end = refl
  use_under f f' agree (operation h rs rest) = λ i. operation (use_head_under f f' agree h i)
      (use_under f f' agree rs i) (use_under f f' agree rest i)
  use_under f f' agree (block l ops rest) = λ i. block (rename_label (maps r) l) (use_under f f' agree ops i) (use_under f f' agree rest i)
  use_under f f' agree (region bs rest) = λ i. region (use_under f f' agree bs i) (use_under f f' agree rest i)

  but_last_under : (x : Tree N S Operations) → but_last (rename (maps r) x) ≡ rename (maps r) (but_last x)
  but_last_under end = refl
  but_last_under (operation h rs end) = refl
  but_last_under (operation h rs (operation k qs rest)) = ap (operation (rename_head (maps r) h) (rename (maps r) rs)) (but_last_under (operation k qs rest))

  append_under : (x y : Tree N S Operations) → append (rename (maps r) x) (rename (maps r) y) ≡ rename (maps r) (append x y)
  append_under end y = refl
  append_under (operation h rs rest) y = ap (operation (rename_head (maps r) h) (rename (maps r) rs)) (append_under rest y)

  one_apart : (xs : List N.block) (c : M.block) → map r.block.to xs ≡ c ∷ [] → (b : N.block) × (r.block.to b ≡ c) × (xs ≡ b ∷ [])
  one_apart [] c e = absurd (no_one c e)
    where
      no_one : (c : M.block) → [] ≡ c ∷ [] → ⊥
      no_one c e = cc e
  one_apart (x ∷ []) c e = (x, same (r.block.to x) c e, refl)
    where
      same : (a b : M.block) → a ∷ [] ≡ b ∷ [] → a ≡ b
      same a b e = cc e
  one_apart (x ∷ y ∷ xs) c e = absurd (no_two (r.block.to x) (r.block.to y) c (map r.block.to xs) e)
    where
      no_two : (a b c : M.block) (l : List M.block) → a ∷ b ∷ l ≡ c ∷ [] → ⊥
      no_two a b c l e = cc e

  module _ (t : Root N S) where
    joinable_to : (b c : N.block) → Joinable d start t b c → Joinable d new_start (rt r t) (r.block.to b) (r.block.to c)
    joinable_to b c j = record {
      last = rename_occurrence (maps r) j.last;
      stands = operation_to r t j.last j.stands;
      in_block = ap r.block.to j.in_block;
      visited = ssa_to t j.last.site.spot j.visited;
      reached = reached_to t b j.reached;
      bare = bare_under d r j.last.head j.last.regions ∙ j.bare;
      leads = ap (map r.block.to) j.leads;
      target = rename_block_occurrence (maps r) j.target;
      target_stands = block_to r t j.target j.target_stands;
      target_name = ap r.block.to j.target_name;
      not_entry = j.not_entry;
      other = λ e. j.other (apart r.block b c e);
      single = λ p h k.
          let q = operation_from r t p h in
          sym q.is ∙ ap (rename_occurrence (maps r)) (j.single q.it q.stands (has-apart r.block c q.it.head.successors (subst (λ z. Has (r.block.to c) z.head.successors) (sym q.is) k)));
    }

    given_to : (v u : N.value) → IsGiven d start t v u → IsGiven d new_start (rt r t) (r.value.to v) (r.value.to u)
    unfolding joinable_to
    given_to v u g = record {
      from = r.block.to g.from;
      to = r.block.to g.to;
      joins = joinable_to g.from g.to g.joins;
      place = g.place;
      takes = ap (λ l. slice_get l g.place) (names-map r.value.to g.joins.target.label.arguments) ∙ at-to r.value (names_of g.joins.target.label.arguments) g.place v g.takes;
      gives = ap (λ l. slice_get l g.place) (forwarded_under d r g.joins.last.head 0) ∙ at-to r.value (forwarded d g.joins.last.head 0) g.place u g.gives;
    }

    -- what comes back comes back
    chases_to : (v u : N.value) → Chases d start t v u → Chases d new_start (rt r t) (r.value.to v) (r.value.to u)
    chases_to _ _ (goes v u g) = goes (r.value.to v) (r.value.to u) (given_to v u g)
    chases_to _ _ (goes_by v u x g c) = goes_by (r.value.to v) (r.value.to u) (r.value.to x) (given_to v u g) (chases_to u x c)

    pub back_renamed : ComesBack d start t → ComesBack d new_start (rename_root (maps r) t)
    back_renamed b = record { argument = r.value.to b.argument; loop = chases_to b.argument b.argument b.loop }

  module _ (t : Root N S) (o : OperationsApart t) where
    -- with the origins of its last operation and its target
    record From (b' c' : M.block) (j' : Joinable d new_start (rt r t) b' c') : Type 0 where
      pub b : N.block
      pub c : N.block
      pub b_is : r.block.to b ≡ b'
      pub c_is : r.block.to c ≡ c'
      pub j : Joinable d start t b c
      pub last_is : rename_occurrence (maps r) j.last ≡ j'.last
      pub target_is : rename_block_occurrence (maps r) j.target ≡ j'.target

    joinable_from : (b' c' : M.block) (j' : Joinable d new_start (rt r t) b' c') → From b' c' j'
    joinable_from b' c' j' =
        let q = operation_from r t j'.last j'.stands in
        let x = block_from r t j'.target j'.target_stands in
        let b_is : r.block.to q.it.site.label.name ≡ b' = ap (λ z. z.site.label.name) q.is ∙ j'.in_block in
        let c_is : r.block.to x.it.label.name ≡ c' = ap (λ z. z.label.name) x.is ∙ j'.target_name in
        let one = one_apart q.it.head.successors c' (ap (λ z. z.head.successors) q.is ∙ j'.leads) in
        let same : one.0 ≡ x.it.label.name = apart r.block one.0 x.it.label.name (one.1 ∙ sym c_is) in
        record {
          b = q.it.site.label.name;
          c = x.it.label.name;
          b_is = b_is;
          c_is = c_is;
          j = record {
            last = q.it;
            stands = q.stands;
            in_block = refl;
            visited = ssa_from t q.it.site.spot (subst (λ z. IsVisitedSsa d new_start (rt r t) z.site.spot) (sym q.is) j'.visited);
            reached = reached_from t b' j'.reached q.it.site.label.name b_is;
            bare = sym (bare_under d r q.it.head q.it.regions) ∙ ap (λ z. is_bare d z.head z.regions) q.is ∙ j'.bare;
            leads = one.2 ∙ ap (λ z. z ∷ []) same;
            target = x.it;
            target_stands = x.stands;
            target_name = refl;
            not_entry = ap (λ z. z.spot.first) x.is ∙ j'.not_entry;
            other = λ e. j'.other (sym b_is ∙ ap r.block.to e ∙ c_is);
            single = λ p h k.
                let e = j'.single (rename_occurrence (maps r) p) (operation_to r t p h) (subst (λ z. Has z (map r.block.to p.head.successors)) c_is (has-map r.block.to x.it.label.name p.head.successors k)) in
                o p q.it h q.stands (apart r.operation p.head.name q.it.head.name (ap (λ z. z.head.name) (e ∙ sym q.is)));
          };
          last_is = q.is;
          target_is = x.is;
        }

    given_from : (v' u' : M.value) → IsGiven d new_start (rt r t) v' u' → (v u : N.value) × (r.value.to v ≡ v') × (r.value.to u ≡ u') × IsGiven d start t v u
    given_from v' u' g =
        let f = joinable_from g.from g.to g.joins in
        let a = from_some r.value.to (slice_get (names_of f.j.target.label.arguments) g.place) v'
        (sym (at-map r.value.to (names_of f.j.target.label.arguments) g.place) ∙ ap (λ l. slice_get l g.place) (sym (names-map r.value.to f.j.target.label.arguments)) ∙ ap (λ z. slice_get (names_of z.label.arguments) g.place) f.target_is ∙ g.takes) in
        let b = from_some r.value.to (slice_get (forwarded d f.j.last.head 0) g.place) u'
        (sym (at-map r.value.to (forwarded d f.j.last.head 0) g.place) ∙ ap (λ l. slice_get l g.place) (sym (forwarded_under d r f.j.last.head 0)) ∙ ap (λ z. slice_get (forwarded d z.head 0) g.place) f.last_is ∙ g.gives) in
        (a.it, b.it, a.is, b.is, record { from = f.b; to = f.c; joins = f.j; place = g.place; takes = a.some; gives = b.some })

    follows_to : (v u : N.value) → Follows d start t v u → Follows d new_start (rt r t) (r.value.to v) (r.value.to u)
    follows_to _ _ (stops v n) = stops (r.value.to v) (λ u' g. let q = given_from (r.value.to v) u' g in n q.1 (subst (λ z. IsGiven d start t z q.1) (apart r.value q.0 v q.2) q.4))
    follows_to _ _ (goes_on v u x g f) = goes_on (r.value.to v) (r.value.to u) (r.value.to x) (given_to t v u g) (follows_to u x f)

    abbrev name_at : (N.value → N.value) → M.value → Option N.value → M.value
    name_at f w None = w
    name_at f w (Some v) = r.value.to (f v)

    abbrev names_pushed : (N.value → N.value) → M.value → M.value
    names_pushed f w = name_at f w (r.value.back w)

    abbrev block_at : Option N.block → Option M.block
    block_at None = None
    block_at (Some b) = Some (r.block.to b)

    not_joinable_to : (b : N.block) → ((c : N.block) → Joinable d start t b c → ⊥) → (c' : M.block) → Joinable d new_start (rt r t) (r.block.to b) c' → ⊥
    not_joinable_to b n c' j' = let f = joinable_from (r.block.to b) c' j' in n f.c (subst (λ z. Joinable d start t z f.c) (apart r.block f.b b f.b_is) f.j)

    not_joined_to : (c : N.block) → ((b : N.block) → Joinable d start t b c → ⊥) → (b' : M.block) → Joinable d new_start (rt r t) b' (r.block.to c) → ⊥
    not_joined_to c n b' j' = let f = joinable_from b' (r.block.to c) j' in n f.b (subst (λ z. Joinable d start t f.b z) (apart r.block f.c c f.c_is) f.j)

    joins_to : (c : Option N.block) (s : Sort) (x y : Tree N S s) → Joins d start t c s x y → Joins d new_start (rt r t) (block_at c) s (rename (maps r) x) (rename (maps r) y)
    joins_to _ _ _ _ (ends s) = ends s
    joins_to _ _ _ _ (operations h rs qs rest more x y) = operations (rename_head (maps r) h) (rename (maps r) rs) (rename (maps r) qs) (rename (maps r) rest) (rename (maps r) more) (joins_to None Regions rs qs x) (joins_to None Operations rest more y)
    joins_to _ _ _ _ (regions bs cs rest more x y) = regions (rename (maps r) bs) (rename (maps r) cs) (rename (maps r) rest) (rename (maps r) more) (joins_to None Blocks bs cs x) (joins_to None Regions rest more y)
    joins_to _ _ _ _ (taken l ops rest more b j x) = taken (rename_label (maps r) l) (rename (maps r) ops) (rename (maps r) rest) (rename (maps r) more) (r.block.to b) (joinable_to t b l.name j) (joins_to None Blocks rest more x)
    joins_to _ _ _ _ (first l ops all rest more n x y) = first (rename_label (maps r) l) (rename (maps r) ops) (rename (maps r) all) (rename (maps r) rest) (rename (maps r) more) (not_joined_to l.name n) (joins_to (Some l.name) Operations ops all x) (joins_to None Blocks rest more y)
    joins_to _ _ _ _ (chain_ends b ops own n x) = chain_ends (r.block.to b) (rename (maps r) ops) (rename (maps r) own) (not_joinable_to b n) (joins_to None Operations ops own x)
    joins_to _ _ _ _ (chain_goes_on b z ops own others all j h x y e) =
        chain_goes_on (r.block.to b) (rename_block_occurrence (maps r) z) (rename (maps r) ops) (rename (maps r) own) (rename (maps r) others) (rename (maps r) all) (joinable_to t b z.label.name j) (block_to r t z h)
        (subst (λ q. Joins d new_start (rt r t) None Operations q (rename (maps r) own)) (sym (but_last_under ops)) (joins_to None Operations (but_last ops) own x))
        (joins_to (Some z.label.name) Operations z.operations others y)
        (ap (rename (maps r)) e ∙ sym (append_under own others))

    pub joined_renamed : (after : Root N S) → IsJoined d start t after → IsJoined d new_start (rename_root (maps r) t) (rename_root (maps r) after)
    joined_renamed after p = record {
      names = names_pushed p.names;
      follows = λ w. by_case w (r.value.back w) refl;
      regions = rename (maps r) p.regions;
      joins = joins_to None Regions t.regions p.regions p.joins;
      is = ap (rename_root (maps r)) p.is ∙ λ i. record {
        head = sym (use_head_under p.names (names_pushed p.names) agree t.head) i;
        regions = sym (use_under p.names (names_pushed p.names) agree p.regions) i;
      };
    }
      where
        agree : (v : N.value) → names_pushed p.names (r.value.to v) ≡ r.value.to (p.names v)
        agree v = ap (name_at p.names (r.value.to v)) (r.value.there v)

        by_case : (w : M.value) (q : Option N.value) → r.value.back w ≡ q → Follows d new_start (rt r t) w (name_at p.names w (r.value.back w))
        by_case w None e = subst (λ q. Follows d new_start (rt r t) w (name_at p.names w q)) (sym e) (stops w (λ u' g. let a = given_from w u' g in none_some a.0 (sym e ∙ ap r.value.back (sym a.2) ∙ r.value.there a.0)))
        by_case w (Some v) e = subst (λ q. Follows d new_start (rt r t) w (name_at p.names w q)) (sym e) (subst (λ z. Follows d new_start (rt r t) z (r.value.to (p.names v))) (r.value.from w v e) (follows_to v (p.names v) (p.follows v)))

module _ {N M : Names} {S : Contents} {A : Type 0} (d : Dialect S A) (r : Renaming N M) where
  -- what simplify makes of the tree under other names is what it makes of the tree, under those names
  pub simplify_renamed : (t after : Root N S) (w : TreeSurroundings N A) (w' : TreeSurroundings M A) → Agree r w w' → ((u : Root N S) → IsCut d (all_of t) (decided d w t) u → OperationsApart u) → IsSimplify d w t after → IsSimplify d w' (rename_root (maps r) t) (rename_root (maps r) after)
  simplify_renamed t after w w' agree o p = record {
    cut = rename_root (maps r) p.cut;
    is_cut = subst (λ z. IsCut d (rename_place (maps r) (all_of t)) z (rename_root (maps r) p.cut)) (sym (decided_renamed d r w w' agree t)) (cut_renamed d r (all_of t) (decided d w t) p.cut p.is_cut);
    is_joined = joined_renamed d r (all_of t) p.cut (o p.cut p.is_cut) after p.is_joined;
  }
