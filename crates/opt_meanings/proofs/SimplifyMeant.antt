-- simplify of what a tree means.
use Rattle.std.proofs.Common.{◌≡◌, ℕ, Bool, true, false, not, List, [], ◌∷◌, Option, Some, None, refl, sym, ap, ◌∙◌}
use Rattle.std.proofs.Common.{subst}
use Rattle.std.specs.Prelude.{map, option_map, if◌then◌else◌, ◌&&◌}
use Rattle.std.specs.Prelude.{slice_get}
use Rattle.ir_trees.specs.Names.{Names, Contents}
use Rattle.ir_trees.specs.Renames.{names_of}
use Rattle.ir_trees.specs.Trees.{Defined, Head, Sort, Operations, Blocks, Regions, Tree, end, operation, block, region}
use Rattle.ir_trees.specs.Trees.{Root}
use Rattle.opt_trees.specs.Occurrences.{Has, Spot, OperationsApart}
use Rattle.opt_trees.specs.Dialect.{Dialect}
use Rattle.opt_trees.specs.Facts.{forwarded}
use Rattle.opt_trees.specs.Dce.{TreeSurroundings}
use Rattle.opt_trees.specs.Simplify.{StartingRegions, all_of, is_empty, is_end, is_bare, along_edge, decide_head, decide, decided}
use Rattle.opt_trees.specs.Simplify.{IsReached, entry, further, IsEntered, IsVisited, of_place, of_inner, IsVisitedSsa}
use Rattle.opt_trees.specs.Simplify.{IsUnreached, keep, IsCut, use_head, Joinable, IsGiven, Follows, stops, goes_on}
use Rattle.opt_trees.specs.Simplify.{use_instead, but_last, append, Joins, ends, operations, regions, taken, first}
use Rattle.opt_trees.specs.Simplify.{chain_ends, chain_goes_on, IsJoined, IsSimplify}
use Rattle.opt_trees.proofs.Orderly.{phases_apart}
use Rattle.opt_meanings.specs.Meanings.{Meanings, IsMeant, mean_defined, mean_head, mean_label, mean, mean_root}
use Rattle.opt_meanings.proofs.Said.{names-mean, mean_spot, mean_occurrence, mean_block_occurrence, operation_there}
use Rattle.opt_meanings.proofs.Said.{operation_from, block_there, block_from}

module _ {S R : Contents} {A : Type 0} (m : Meanings S R) (e : Dialect R A) (d : Dialect S A) where
  -- the dialect that says of operations what the other says of what they mean
  abbrev pub seen : Dialect S A
  seen = record {
    is_foldable = d.is_foldable;
    fold = d.fold;
    is_branch = λ c. e.is_branch (m.operation c);
    feasible = d.feasible;
    edge = λ c xs. e.edge (m.operation c) xs;
    forwards = λ c n k. e.forwards (m.operation c) n k;
    is_terminator = d.is_terminator;
    has_effects = d.has_effects;
    can_remove = d.can_remove;
    plain = d.plain;
    is_plain = λ c. e.is_plain (m.operation c);
    constant = d.constant;
    constant_type = d.constant_type;
    is_constant = d.is_constant;
    is_ssa = λ c i. e.is_ssa (m.operation c) i;
    drop_operands = d.drop_operands;
    drop_names = d.drop_names;
  }

  -- that dialect is the one itself where the other says of what is meant what it says
  seen_is : IsMeant m d e → seen ≡ d
  seen_is meant = λ i. record {
    is_foldable = d.is_foldable;
    fold = d.fold;
    is_branch = λ c. meant.is_branch c i;
    feasible = d.feasible;
    edge = λ c xs. meant.edge c xs i;
    forwards = λ c n k. meant.forwards c n k i;
    is_terminator = d.is_terminator;
    has_effects = d.has_effects;
    can_remove = d.can_remove;
    plain = d.plain;
    is_plain = λ c. meant.is_plain c i;
    constant = d.constant;
    constant_type = d.constant_type;
    is_constant = d.is_constant;
    is_ssa = λ c n. meant.is_ssa c n i;
    drop_operands = d.drop_operands;
    drop_names = d.drop_names;
  }

-- what definitions mean are none where there are none
results_meant : {V T U : Type 0} (f : T → U) (vs : List (Defined V T)) → is_empty (map (mean_defined f) vs) ≡ is_empty vs
results_meant f [] = refl
results_meant f (v ∷ vs) = refl

module _ {N : Names} {S R : Contents} {A : Type 0} (m : Meanings S R) (e : Dialect R A) (d : Dialect S A) where
  -- 1. branches

  -- what a list means is empty where the list is
  end_meant : {k : Sort} (x : Tree N S k) → is_end (mean m x) ≡ is_end x
  end_meant end = refl
  end_meant (operation h rs rest) = refl
  end_meant (block l ops rest) = refl
  end_meant (region bs rest) = refl

  -- what a head means is bare where the head is
  bare_meant : (h : Head N S) (rs : Tree N S Regions) → is_bare e (mean_head m h) (mean m rs) ≡ is_bare (seen m e d) h rs
  bare_meant h rs = λ i. e.is_branch (m.operation h.content) && (results_meant m.value h.results i && end_meant rs i)

  -- the unconditional branch in place of what a head means is what the one in place of the head means
  along_meant : (h : Head N S) (q : Option ℕ) (c : Option S.of_operation) →
      along_edge e (mean_head m h) q (option_map m.operation c) ≡ mean_head m (along_edge (seen m e d) h q c)
  along_meant h None c = refl
  along_meant h (Some i) None = refl
  along_meant h (Some i) (Some c) = refl

  module _ (plain : e.plain ≡ option_map m.operation d.plain) (alone : N.value → Option A) where
    -- what a head means is decided as the head is
    decide_head_meant : (h : Head N S) (rs : Tree N S Regions) →
        decide_head e alone (mean_head m h) (mean m rs) ≡ mean_head m (decide_head (seen m e d) alone h rs)
    decide_head_meant h rs =
        (λ i. if bare_meant h rs i && not (e.is_plain (m.operation h.content))
        then along_edge e (mean_head m h) (e.edge (m.operation h.content) (map alone h.operands)) (plain i)
        else mean_head m h)
        ∙ by_test (is_bare (seen m e d) h rs && not (e.is_plain (m.operation h.content)))
      where
        by_test : (b : Bool) →
            (if b then along_edge e (mean_head m h) (e.edge (m.operation h.content) (map alone h.operands)) (option_map m.operation d.plain) else mean_head m h)
            ≡ mean_head m (if b then along_edge (seen m e d) h (e.edge (m.operation h.content) (map alone h.operands)) d.plain else h)
        by_test true = along_meant h (e.edge (m.operation h.content) (map alone h.operands)) d.plain
        by_test false = refl

    -- what a list means is decided as the list is
    decide_meant : {k : Sort} (x : Tree N S k) → decide e alone (mean m x) ≡ mean m (decide (seen m e d) alone x)
    decide_meant end = refl
    decide_meant (operation h rs rest) = λ i. operation (decide_head_meant h rs i) (decide_meant rs i) (decide_meant rest i)
    decide_meant (block l ops rest) = λ i. block (mean_label m l) (decide_meant ops i) (decide_meant rest i)
    decide_meant (region bs rest) = λ i. region (decide_meant bs i) (decide_meant rest i)

  -- what a tree means is decided as the tree is
  decided_meant : e.plain ≡ option_map m.operation d.plain → (w : TreeSurroundings N A) (t : Root N S) →
      decided e w (mean_root m t) ≡ mean_root m (decided (seen m e d) w t)
  decided_meant plain w t = λ i. record { head = mean_head m t.head; regions = decide_meant plain w.alone t.regions i }

  -- 2. blocks

  -- what a list means without some blocks is what the list means without them
  keep_meant : (g : N.block → Bool) {k : Sort} (x : Tree N S k) → keep g (mean m x) ≡ mean m (keep g x)
  keep_meant g end = refl
  keep_meant g (operation h rs rest) = λ i. operation (mean_head m h) (keep_meant g rs i) (keep_meant g rest i)
  keep_meant g (block l ops rest) =
      (λ i. if g l.name then keep_meant g rest i else block (mean_label m l) (keep_meant g ops i) (keep_meant g rest i))
      ∙ by_test (g l.name)
    where
      by_test : (b : Bool) →
          (if b then mean m (keep g rest) else block (mean_label m l) (mean m (keep g ops)) (mean m (keep g rest)))
          ≡ mean m (if b then keep g rest else block l (keep g ops) (keep g rest))
      by_test true = refl
      by_test false = refl
  keep_meant g (region bs rest) = λ i. region (keep_meant g bs i) (keep_meant g rest i)

  module _ (t : Root N S) where
    -- what is reached is reached in what the tree means
    reached_to : (b : N.block) → IsReached t b → IsReached (mean_root m t) b
    reached_to _ (entry x h f) = entry (mean_block_occurrence m x) (block_there m t x h) f
    reached_to _ (further o b h p q) =
        further (mean_occurrence m o) b (operation_there m t o h) (reached_to o.site.label.name p) q

    -- what is reached in what the tree means is reached
    reached_from : (b : N.block) → IsReached (mean_root m t) b → IsReached t b
    reached_from _ (entry x h f) =
        let q = block_from m t x h in
        subst (IsReached t) (ap (λ z. z.label.name) q.is) (entry q.it q.stands (ap (λ z. z.spot.first) q.is ∙ f))
    reached_from _ (further o b h p k) =
        let q = operation_from m t o h in
        further q.it b q.stands
        (subst (IsReached t) (sym (ap (λ z. z.site.label.name) q.is)) (reached_from o.site.label.name p))
        (subst (λ z. Has b z.head.successors) (sym q.is) k)

    -- where a block is entered it is entered in what the tree means
    entered_to : (c : Spot N S) (b : N.block) (f : Bool) → IsEntered t c b f → IsEntered (mean_root m t) (mean_spot m c) b f
    entered_to c b true h = reached_to b h
    entered_to c b false h = h

    -- where a block is entered in what the tree means it is entered
    entered_from : (c : Spot N S) (b : N.block) (f : Bool) → IsEntered (mean_root m t) (mean_spot m c) b f → IsEntered t c b f
    entered_from c b true h = reached_from b h
    entered_from c b false h = h

  module _ (start : StartingRegions N) (t : Root N S) where
    -- a region that is visited is visited in what the tree means
    visited_to : (o : N.operation) (i : ℕ) → IsVisited (seen m e d) start t o i → IsVisited e start (mean_root m t) o i
    visited_to _ _ (of_place o i h) = of_place o i h
    visited_to _ _ (of_inner o i h v n) =
        of_inner (mean_occurrence m o) i (operation_there m t o h)
        (visited_to o.site.spot.owner.name o.site.spot.region v)
        (entered_to t o.site.spot o.site.label.name ((seen m e d).is_ssa o.site.spot.owner.content o.site.spot.region) n)

    -- a region that is visited in what the tree means is visited
    visited_from : (o : N.operation) (i : ℕ) → IsVisited e start (mean_root m t) o i → IsVisited (seen m e d) start t o i
    visited_from _ _ (of_place o i h) = of_place o i h
    visited_from _ _ (of_inner o i h v n) =
        let q = operation_from m t o h in
        subst (λ z. IsVisited (seen m e d) start t z i) (ap (λ z. z.head.name) q.is)
        (of_inner q.it i q.stands
        (subst (λ z. IsVisited (seen m e d) start t z.site.spot.owner.name z.site.spot.region) (sym q.is)
        (visited_from o.site.spot.owner.name o.site.spot.region v))
        (entered_from t q.it.site.spot q.it.site.label.name
        ((seen m e d).is_ssa q.it.site.spot.owner.content q.it.site.spot.region)
        (subst (λ z. IsEntered (mean_root m t) z.site.spot z.site.label.name
        (e.is_ssa z.site.spot.owner.content z.site.spot.region)) (sym q.is) n)))

    -- the same of SSA regions
    ssa_to : (c : Spot N S) → IsVisitedSsa (seen m e d) start t c → IsVisitedSsa e start (mean_root m t) (mean_spot m c)
    ssa_to c v = record { visited = visited_to c.owner.name c.region v.visited; ssa = v.ssa }

    -- the same of SSA regions, the other way round
    ssa_from : (c : Spot N S) → IsVisitedSsa e start (mean_root m t) (mean_spot m c) → IsVisitedSsa (seen m e d) start t c
    ssa_from c v = record { visited = visited_from c.owner.name c.region v.visited; ssa = v.ssa }

    -- a block that isn't reached isn't reached in what the tree means
    unreached_to : (b : N.block) → IsUnreached (seen m e d) start t b → IsUnreached e start (mean_root m t) b
    unreached_to b u = record {
      it = mean_block_occurrence m u.it;
      stands = block_there m t u.it u.stands;
      name = u.name;
      visited = ssa_to u.it.spot u.visited;
      unreached = λ h. u.unreached (reached_from t b h);
    }

    -- a block that isn't reached in what the tree means isn't reached
    unreached_from : (b : N.block) → IsUnreached e start (mean_root m t) b → IsUnreached (seen m e d) start t b
    unreached_from b u =
        let q = block_from m t u.it u.stands in
        record {
          it = q.it;
          stands = q.stands;
          name = ap (λ z. z.label.name) q.is ∙ u.name;
          visited = ssa_from q.it.spot (subst (λ z. IsVisitedSsa e start (mean_root m t) z.spot) (sym q.is) u.visited);
          unreached = λ h. u.unreached (reached_to t b h);
        }

    -- what the tree means is cut as the tree is
    cut_meant : (after : Root N S) → IsCut (seen m e d) start t after → IsCut e start (mean_root m t) (mean_root m after)
    cut_meant after p = record {
      reach = p.reach;
      reached = λ b h. reached_to t b (p.reached b h);
      all_reached = λ b h. p.all_reached b (reached_from t b h);
      gone = p.gone;
      there = λ b h. unreached_to b (p.there b h);
      all = λ b h. p.all b (unreached_from b h);
      is = ap (mean_root m) p.is ∙ λ i. record { head = mean_head m t.head; regions = sym (keep_meant p.gone t.regions) i };
    }

  -- 3. chains

  -- what a list means with other values is what it means with the others in their place
  use_meant : (f : N.value → N.value) {k : Sort} (x : Tree N S k) → use_instead f (mean m x) ≡ mean m (use_instead f x)
  use_meant f end = refl
  use_meant f (operation h rs rest) = λ i. operation (mean_head m (use_head f h)) (use_meant f rs i) (use_meant f rest i)
  use_meant f (block l ops rest) = λ i. block (mean_label m l) (use_meant f ops i) (use_meant f rest i)
  use_meant f (region bs rest) = λ i. region (use_meant f bs i) (use_meant f rest i)

  -- what operations mean without the last
  but_last_meant : (x : Tree N S Operations) → but_last (mean m x) ≡ mean m (but_last x)
  but_last_meant end = refl
  but_last_meant (operation h rs end) = refl
  but_last_meant (operation h rs (operation k qs rest)) =
      ap (operation (mean_head m h) (mean m rs)) (but_last_meant (operation k qs rest))

  -- what operations mean in front of what others mean
  append_meant : (x y : Tree N S Operations) → append (mean m x) (mean m y) ≡ mean m (append x y)
  append_meant end y = refl
  append_meant (operation h rs rest) y = ap (operation (mean_head m h) (mean m rs)) (append_meant rest y)

  module _ (start : StartingRegions N) (t : Root N S) where
    -- blocks that can be joined can be joined in what the tree means
    joinable_to : (b c : N.block) → Joinable (seen m e d) start t b c → Joinable e start (mean_root m t) b c
    joinable_to b c j = record {
      last = mean_occurrence m j.last;
      stands = operation_there m t j.last j.stands;
      in_block = j.in_block;
      visited = ssa_to start t j.last.site.spot j.visited;
      reached = reached_to t b j.reached;
      bare = bare_meant j.last.head j.last.regions ∙ j.bare;
      leads = j.leads;
      target = mean_block_occurrence m j.target;
      target_stands = block_there m t j.target j.target_stands;
      target_name = j.target_name;
      not_entry = j.not_entry;
      other = j.other;
      single = λ p h k.
          let q = operation_from m t p h in
          sym q.is ∙ ap (mean_occurrence m)
          (j.single q.it q.stands (subst (λ z. Has c z.head.successors) (sym q.is) k));
    }

    -- what is given is given in what the tree means
    given_to : (v u : N.value) → IsGiven (seen m e d) start t v u → IsGiven e start (mean_root m t) v u
    unfolding joinable_to
    given_to v u g = record {
      from = g.from;
      to = g.to;
      joins = joinable_to g.from g.to g.joins;
      place = g.place;
      takes = ap (λ l. slice_get l g.place) (names-mean m.value g.joins.target.label.arguments) ∙ g.takes;
      gives = g.gives;
    }

  module _ (start : StartingRegions N) (t : Root N S) (o : OperationsApart t) where
    -- with the origins of its last operation and its target
    record From (b c : N.block) (j' : Joinable e start (mean_root m t) b c) : Type 0 where
      pub j : Joinable (seen m e d) start t b c
      pub last_is : mean_occurrence m j.last ≡ j'.last
      pub target_is : mean_block_occurrence m j.target ≡ j'.target

    -- blocks that can be joined in what the tree means can be joined
    joinable_from : (b c : N.block) (j' : Joinable e start (mean_root m t) b c) → From b c j'
    joinable_from b c j' =
        let q = operation_from m t j'.last j'.stands in
        let x = block_from m t j'.target j'.target_stands in
        record {
          j = record {
            last = q.it;
            stands = q.stands;
            in_block = ap (λ z. z.site.label.name) q.is ∙ j'.in_block;
            visited = ssa_from start t q.it.site.spot
                (subst (λ z. IsVisitedSsa e start (mean_root m t) z.site.spot) (sym q.is) j'.visited);
            reached = reached_from t b j'.reached;
            bare = sym (bare_meant q.it.head q.it.regions) ∙ ap (λ z. is_bare e z.head z.regions) q.is ∙ j'.bare;
            leads = ap (λ z. z.head.successors) q.is ∙ j'.leads;
            target = x.it;
            target_stands = x.stands;
            target_name = ap (λ z. z.label.name) x.is ∙ j'.target_name;
            not_entry = ap (λ z. z.spot.first) x.is ∙ j'.not_entry;
            other = j'.other;
            single = λ p h k.
                let same = j'.single (mean_occurrence m p) (operation_there m t p h) k in
                o p q.it h q.stands (ap (λ z. z.head.name) (same ∙ sym q.is));
          };
          last_is = q.is;
          target_is = x.is;
        }

    -- what is given in what the tree means is given
    given_from : (v u : N.value) → IsGiven e start (mean_root m t) v u → IsGiven (seen m e d) start t v u
    given_from v u g =
        let f = joinable_from g.from g.to g.joins in
        record {
          from = g.from;
          to = g.to;
          joins = f.j;
          place = g.place;
          takes = ap (λ l. slice_get l g.place) (sym (names-mean m.value f.j.target.label.arguments))
              ∙ ap (λ z. slice_get (names_of z.label.arguments) g.place) f.target_is ∙ g.takes;
          gives = ap (λ z. slice_get (forwarded e z.head 0) g.place) f.last_is ∙ g.gives;
        }

    -- values are followed to the same ones
    follows_to : (v u : N.value) → Follows (seen m e d) start t v u → Follows e start (mean_root m t) v u
    follows_to _ _ (stops v n) = stops v (λ u g. n u (given_from v u g))
    follows_to _ _ (goes_on v u x g f) = goes_on v u x (given_to start t v u g) (follows_to u x f)

    -- the same chains are joined
    joins_to : (c : Option N.block) (k : Sort) (x y : Tree N S k) → Joins (seen m e d) start t c k x y →
        Joins e start (mean_root m t) c k (mean m x) (mean m y)
    joins_to _ _ _ _ (ends k) = ends k
    joins_to _ _ _ _ (operations h rs qs rest more x y) =
        operations (mean_head m h) (mean m rs) (mean m qs) (mean m rest) (mean m more)
        (joins_to None Regions rs qs x) (joins_to None Operations rest more y)
    joins_to _ _ _ _ (regions bs cs rest more x y) =
        regions (mean m bs) (mean m cs) (mean m rest) (mean m more)
        (joins_to None Blocks bs cs x) (joins_to None Regions rest more y)
    joins_to _ _ _ _ (taken l ops rest more b j x) =
        taken (mean_label m l) (mean m ops) (mean m rest) (mean m more) b
        (joinable_to start t b l.name j) (joins_to None Blocks rest more x)
    joins_to _ _ _ _ (first l ops all rest more n x y) =
        first (mean_label m l) (mean m ops) (mean m all) (mean m rest) (mean m more)
        (λ b j. n b (joinable_from b l.name j).j)
        (joins_to (Some l.name) Operations ops all x) (joins_to None Blocks rest more y)
    joins_to _ _ _ _ (chain_ends b ops own n x) =
        chain_ends b (mean m ops) (mean m own) (λ c j. n c (joinable_from b c j).j) (joins_to None Operations ops own x)
    joins_to _ _ _ _ (chain_goes_on b z ops own others all j h x y is) =
        chain_goes_on b (mean_block_occurrence m z) (mean m ops) (mean m own) (mean m others) (mean m all)
        (joinable_to start t b z.label.name j) (block_there m t z h)
        (subst (λ q. Joins e start (mean_root m t) None Operations q (mean m own)) (sym (but_last_meant ops))
        (joins_to None Operations (but_last ops) own x))
        (joins_to (Some z.label.name) Operations z.operations others y)
        (ap (mean m) is ∙ sym (append_meant own others))

    -- what the tree means is joined as the tree is
    joined_meant : (after : Root N S) → IsJoined (seen m e d) start t after → IsJoined e start (mean_root m t) (mean_root m after)
    joined_meant after p = record {
      names = p.names;
      follows = λ v. follows_to v (p.names v) (p.follows v);
      regions = mean m p.regions;
      joins = joins_to None Regions t.regions p.regions p.joins;
      is = ap (mean_root m) p.is ∙ λ i. record {
        head = mean_head m (use_head p.names t.head);
        regions = sym (use_meant p.names p.regions) i;
      };
    }

  -- what a tree means is simplified as the tree is, by the dialect that says what is said of what is meant
  seen_simplify : e.plain ≡ option_map m.operation d.plain → (w : TreeSurroundings N A) (t after : Root N S) →
      OperationsApart t → IsSimplify (seen m e d) w t after → IsSimplify e w (mean_root m t) (mean_root m after)
  seen_simplify plain w t after apart x = record {
    cut = mean_root m x.cut;
    is_cut = subst (λ z. IsCut e (all_of t) z (mean_root m x.cut)) (sym (decided_meant plain w t))
        (cut_meant (all_of t) (decided (seen m e d) w t) x.cut x.is_cut);
    is_joined = joined_meant (all_of t) x.cut (phases_apart (seen m e d) (all_of t) w t x.cut x.is_cut apart) after x.is_joined;
  }

  -- what simplify makes of what a tree means is the meaning of what it makes of the tree
  pub simplify_meant : IsMeant m d e → (w : TreeSurroundings N A) (t after : Root N S) → OperationsApart t →
      IsSimplify d w t after → IsSimplify e w (mean_root m t) (mean_root m after)
  simplify_meant meant w t after apart x =
      seen_simplify meant.plain w t after apart
      (subst (λ z. IsSimplify z w t after) (sym (seen_is m e d meant)) x)
