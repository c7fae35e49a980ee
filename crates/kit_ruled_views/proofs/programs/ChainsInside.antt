-- Chains of blocks of a tree that are in a function are chains of the function, and joining makes the same of them.
use Rattle.std.proofs.Common.{◌≡◌, ⊎_elim, inl, inr, ℕ, Bool, true, false, List, [], ◌∷◌, map, length, Option}
use Rattle.std.proofs.Common.{Some, None, refl, sym, ap, ◌∙◌, subst}
use Rattle.std.specs.Prelude.{slice_get, if◌then◌else◌}
use Rattle.ir_trees.specs.Names.{Names, Contents}
use Rattle.ir_trees.specs.Renames.{names_of}
use Rattle.ir_trees.specs.Trees.{Head, Sort, Operations, Blocks, Regions, Tree, operation, block, region}
use Rattle.ir_trees.specs.Trees.{Root}
use Rattle.opt_trees.specs.Dialect.{Dialect}
use Rattle.opt_trees.specs.Facts.{forwarded}
use Rattle.opt_trees.specs.Occurrences.{Has, cons_if, picks, Occurrence, BlockOccurrence, Inside, inner, next_block}
use Rattle.opt_trees.specs.Occurrences.{next_region, occurrences_of}
use Rattle.opt_trees.specs.Occurrences.{block_occurrences_of, at_root, OperationsApart}
use Rattle.opt_trees.specs.Simplify.{IsLocal, all_of, IsVisited, is_bare, Joinable, IsGiven, Follows, stops, goes_on}
use Rattle.opt_trees.specs.Simplify.{use_head, use_instead, but_last, append, Joins, ends, operations, regions, taken}
use Rattle.opt_trees.specs.Simplify.{first, chain_ends, chain_goes_on, IsJoined}
use Rattle.opt_trees.proofs.Homes.{Part, part_regions, part_rest, part_block, part_blocks, part_region}
use Rattle.opt_trees.proofs.Homes.{part_more, part_part, block_inside, but_last_inside, use_append}
use Rattle.opt_trees.proofs.Orderly.{has_at}
use Rattle.kit_behaviour.specs.Scopes.{is_in}
use Rattle.kit_views.specs.FlatView.{IsSameness}
use Rattle.kit_views.proofs.Lists.{has_get}
use Rattle.kit_ruled_views.proofs.programs.Restricted.{has_is, is_has}
use Rattle.kit_ruled_views.proofs.programs.ShallowFunctions.{IsShallow, root_of}
use Rattle.kit_ruled_views.proofs.programs.ShallowFunctions as functions
use Rattle.kit_ruled_views.proofs.programs.CutInside.{reached_up, reached_down, visited_there, visited_here}

-- what is picked is there
cons_has : {X : Type 0} (xs ys : List X) (i : ℕ) (q : Option X) (x : X) → slice_get xs i ≡ q →
    Has x (cons_if q ys) → (Has x ys → Has x xs) → Has x xs
cons_has xs ys i None x e h k = k h
cons_has xs ys i (Some y) x e h k = ⊎_elim (λ z. subst (λ w. Has w xs) (sym z) (has_at xs i y e)) k h

pub picked_has : {X : Type 0} (xs : List X) (is : List ℕ) (x : X) → Has x (picks xs is) → Has x xs
picked_has xs [] x h = absurd h
picked_has xs (i ∷ is) x h = cons_has xs (picks xs is) i (slice_get xs i) x refl h (λ k. picked_has xs is x k)

module _ {N : Names} {S : Contents} {A : Type 0} (d : Dialect S A) (t : Root N S) (local : IsLocal t)
    (apart : OperationsApart t) (o : Occurrence N S) (stands : Has o (occurrences_of t))
    (shallow : IsShallow (root_of o)) (seen : (i : ℕ) → IsVisited d (all_of t) t o.head.name i)
    (ssa : d.is_ssa o.head.content 0 ≡ true) where
  abbrev Op : Type 0
  Op = Occurrence N S

  abbrev Bl : Type 0
  Bl = BlockOccurrence N S

  abbrev u : Root N S
  u = root_of o

  abbrev up : Op → Op
  up p = functions.up d t local apart o stands shallow p

  abbrev up_block : Bl → Bl
  up_block x = functions.up_block d t local apart o stands shallow x

  abbrev IsInside : Op → Type 0
  IsInside q = functions.IsInside d t local apart o stands shallow q

  abbrev IsBlockInside : Bl → Type 0
  IsBlockInside y = functions.IsBlockInside d t local apart o stands shallow y

  -- a block of the function with this name
  abbrev IsNamed : N.block → Type 0
  IsNamed b = (x : Bl) × Has x (block_occurrences_of u) × (x.label.name ≡ b)

  abbrev JoinableHere : N.block → N.block → Type 0
  JoinableHere b c = Joinable d (all_of u) u b c

  abbrev JoinableThere : N.block → N.block → Type 0
  JoinableThere b c = Joinable d (all_of t) t b c

  abbrev joinable_up : (b c : N.block) → JoinableHere b c → JoinableThere b c
  joinable_up b c j =
      let at = functions.op_root d t local apart o stands shallow j.last j.stands in
      record {
        last = up j.last;
        stands = functions.there d t local apart o stands shallow j.last j.stands;
        in_block = j.in_block;
        visited = visited_there d t local apart o stands shallow seen ssa (up j.last).site.spot at.owner at.region;
        reached = reached_up d t local apart o stands shallow b j.reached;
        bare = j.bare;
        leads = j.leads;
        target = up_block j.target;
        target_stands = functions.block_there d t local apart o stands shallow j.target j.target_stands;
        target_name = j.target_name;
        not_entry = j.not_entry;
        other = j.other;
        single = λ q h m.
            let p = functions.entering d t local apart o stands shallow q j.target h j.target_stands
            (subst (λ z. Has z q.head.successors) (sym j.target_name) m) in
            sym p.2 ∙ ap up (j.single p.0 p.1 (subst (λ (z : Op). Has c z.head.successors) (sym p.2) m));
      }

  -- the block that the last operation of a block of the function leads to
  target_in : (b c : N.block) (j : JoinableThere b c) → IsInside j.last → IsBlockInside j.target
  target_in b c j p =
      let leads = ap (λ (z : Op). z.head.successors) p.2 ∙ j.leads in
      let x = shallow.edges p.0 c p.1 (subst (Has c) (sym leads) (inl refl)) in (
        x.0,
        x.1,
        functions.block_same d t local apart o stands shallow x.0 j.target x.1 j.target_stands (j.target_name
            ∙ sym x.2),
      )

  abbrev joinable_down : (b c : N.block) (j : JoinableThere b c) → IsInside j.last → IsBlockInside j.target →
      JoinableHere b c
  joinable_down b c j p x =
      let at = functions.op_root d t local apart o stands shallow p.0 p.1 in
      let own = functions.own_block d t local apart o stands shallow p.0 p.1 in
      let name : p.0.site.label.name ≡ b = ap (λ (z : Op). z.site.label.name) p.2 ∙ j.in_block in
      record {
        last = p.0;
        stands = p.1;
        in_block = name;
        visited = visited_here d t local apart o stands shallow seen ssa p.0.site.spot at;
        reached = reached_down d t local apart o stands shallow b j.reached own.it own.stands
            (ap (λ l. l.name) own.label ∙ name);
        bare = ap (λ (z : Op). is_bare d z.head z.regions) p.2 ∙ j.bare;
        leads = ap (λ (z : Op). z.head.successors) p.2 ∙ j.leads;
        target = x.0;
        target_stands = x.1;
        target_name = ap (λ (z : Bl). z.label.name) x.2 ∙ j.target_name;
        not_entry = ap (λ (z : Bl). z.spot.first) x.2 ∙ j.not_entry;
        other = j.other;
        single = λ q h m.
            functions.up_same d t local apart o stands shallow q p.0 h p.1
            (j.single (up q) (functions.there d t local apart o stands shallow q h) m ∙ sym p.2);
      }

  last_from : (b c : N.block) (j : JoinableThere b c) → IsNamed b → IsInside j.last
  last_from b c j x =
      functions.at_home d t local apart o stands shallow j.last x.0 j.stands x.1 (j.in_block ∙ sym x.2)

  last_to : (b c : N.block) (j : JoinableThere b c) → IsNamed c → IsInside j.last
  last_to b c j x =
      functions.entering d t local apart o stands shallow j.last x.0 j.stands x.1
      (subst (Has x.0.label.name) (sym j.leads) (inl x.2))

  joinable_to : (b c : N.block) → JoinableThere b c → IsNamed c → JoinableHere b c
  joinable_to b c j x = let p = last_to b c j x in joinable_down b c j p (target_in b c j p)

  -- what is forwarded
  given_up : (v w : N.value) → IsGiven d (all_of u) u v w → IsGiven d (all_of t) t v w
  given_up v w g = record {
    from = g.from;
    to = g.to;
    joins = joinable_up g.from g.to g.joins;
    place = g.place;
    takes = g.takes;
    gives = g.gives;
  }

  given_down : (v w : N.value) (g : IsGiven d (all_of t) t v w) → IsInside g.joins.last →
      IsBlockInside g.joins.target → IsGiven d (all_of u) u v w
  given_down v w g p x = record {
    from = g.from;
    to = g.to;
    joins = joinable_down g.from g.to g.joins p x;
    place = g.place;
    takes = ap (λ (z : Bl). slice_get (names_of z.label.arguments) g.place) x.2 ∙ g.takes;
    gives = ap (λ (z : Op). slice_get (forwarded d z.head 0) g.place) p.2 ∙ g.gives;
  }

  -- values of the function: its arguments and what it uses are among them, and they are arguments of no other block
  module _ (same : N.value → N.value → Bool) (law : IsSameness same) (values : List N.value)
      (arguments : (x : Bl) (v : N.value) → Has x (block_occurrences_of u) → Has v (names_of x.label.arguments) →
      Has v values)
      (uses : (p : Op) (v : N.value) → Has p (occurrences_of u) → Has v p.head.operands → Has v values)
      (owned : (y : Bl) (v : N.value) → Has y (block_occurrences_of t) → Has v (names_of y.label.arguments) →
      Has v values → IsBlockInside y) where
    target_of : (v w : N.value) (g : IsGiven d (all_of t) t v w) → Has v values → IsBlockInside g.joins.target
    target_of v w g m =
        owned g.joins.target v g.joins.target_stands (has_get (names_of g.joins.target.label.arguments) g.place v
        g.takes) m

    giver_of : (v w : N.value) (g : IsGiven d (all_of t) t v w) → IsBlockInside g.joins.target → IsInside g.joins.last
    giver_of v w g x =
        last_to g.from g.to g.joins (x.0, x.1, ap (λ (z : Bl). z.label.name) x.2 ∙ g.joins.target_name)

    given_among : (v w : N.value) (g : IsGiven d (all_of t) t v w) → IsInside g.joins.last → Has w values
    given_among v w g p =
        uses p.0 w p.1
        (subst (λ (z : Op). Has w z.head.operands) (sym p.2)
        (picked_has g.joins.last.head.operands
        (d.forwards g.joins.last.head.content (length g.joins.last.head.operands) 0) w
        (has_get (forwarded d g.joins.last.head 0) g.place w g.gives)))

    follows_down : (v w : N.value) → Follows d (all_of t) t v w → Has v values → Follows d (all_of u) u v w
    follows_down _ _ (stops v none) m = stops v (λ w g. none w (given_up v w g))
    follows_down _ _ (goes_on v y w g f) m =
        let x = target_of v y g m in
        let p = giver_of v y g x in
        goes_on v y w (given_down v y g p x) (follows_down y w f (given_among v y g p))

    module _ (names : N.value → N.value) (follows : (v : N.value) → Follows d (all_of t) t v (names v)) where
      -- values of the function are followed as in the tree, others are left
      abbrev names_here : N.value → N.value
      names_here v = if is_in same v values then names v else v

      follows_here : (v : N.value) → Follows d (all_of u) u v (names_here v)
      follows_here v = by_test (is_in same v values) refl
        where
          by_test : (b : Bool) → is_in same v values ≡ b → Follows d (all_of u) u v (if b then names v else v)
          by_test true e = follows_down v (names v) (follows v) (is_has same law v values e)
          by_test false e =
              stops v (λ w g.
              let m = arguments g.joins.target v g.joins.target_stands
              (has_get (names_of g.joins.target.label.arguments) g.place v g.takes) in
              let bad : false ≡ true = sym e ∙ has_is same law v values m in absurd (cc bad))

      names_same : (v : N.value) → Has v values → names v ≡ names_here v
      names_same v m = ap (λ b. if b then names v else v) (sym (has_is same law v values m))

      operands_same : (xs : List N.value) → ((v : N.value) → Has v xs → Has v values) → map names xs ≡ map names_here xs
      operands_same [] h = refl
      operands_same (x ∷ xs) h = λ i. names_same x (h x (inl refl)) i ∷ operands_same xs (λ v m. h v (inr m)) i

      head_same : (h : Head N S) → ((v : N.value) → Has v h.operands → Has v values) →
          use_head names h ≡ use_head names_here h
      head_same h all =
          ap (λ xs. record {
            name = h.name;
            content = h.content;
            results = h.results;
            operands = xs;
            successors = h.successors;
          }) (operands_same h.operands all)

      -- a list is joined to this in the function too, and the values there are followed alike
      record IsJoinedHere (q : Option N.block) (s : Sort) (x z : Tree N S s) : Type 0 where
        joins : Joins d (all_of u) u q s x z
        alike : use_instead names z ≡ use_instead names_here z

      abbrev IsHere : Option N.block → Type 0
      IsHere None = Unit {0}
      IsHere (Some b) = IsNamed b

      abbrev IsPartHere : {s : Sort} → Tree N S s → Inside N S s → Type 0
      IsPartHere x c = Part x c (occurrences_of u) (block_occurrences_of u)

      joins_down : (q : Option N.block) (s : Sort) (x z : Tree N S s) → Joins d (all_of t) t q s x z → IsHere q →
          (c : Inside N S s) → IsPartHere x c → IsJoinedHere q s x z
      joins_down _ _ _ _ (ends s) here c part = record { joins = ends s; alike = refl }
      joins_down _ _ _ _ (operations h rs qs rest more x y) here c part =
          let a = joins_down None Regions rs qs x tt (inner h c)
          (part_regions (occurrences_of u) (block_occurrences_of u) h rs rest c part) in
          let b = joins_down None Operations rest more y tt c
          (part_rest (occurrences_of u) (block_occurrences_of u) h rs rest c part) in
          let own : Op = record { site = c; head = h; regions = rs } in
          let e = head_same h (λ v m. uses own v (part.operations own (inl refl)) m) in
          record {
            joins = operations h rs qs rest more a.joins b.joins;
            alike = λ i. operation (e i) (a.alike i) (b.alike i);
          }
      joins_down _ _ _ _ (regions bs cs rest more x y) here c part =
          let a = joins_down None Blocks bs cs x tt c
          (part_region (occurrences_of u) (block_occurrences_of u) bs rest c part) in
          let b = joins_down None Regions rest more y tt (next_region c)
          (part_more (occurrences_of u) (block_occurrences_of u) bs rest c part) in
          record {
            joins = regions bs cs rest more a.joins b.joins;
            alike = λ i. region (a.alike i) (b.alike i);
          }
      joins_down _ _ _ _ (taken l ops rest more b j x) here c part =
          let own : Bl = record { spot = c; label = l; operations = ops } in
          let a = joins_down None Blocks rest more x tt (next_block c)
          (part_blocks (occurrences_of u) (block_occurrences_of u) l ops rest c part) in
          record {
            joins = taken l ops rest more b (joinable_to b l.name j (own, part.blocks own (inl refl), refl)) a.joins;
            alike = a.alike;
          }
      joins_down _ _ _ _ (first l ops all rest more n x y) here c part =
          let own : Bl = record { spot = c; label = l; operations = ops } in
          let a = joins_down (Some l.name) Operations ops all x (own, part.blocks own (inl refl), refl)
          (record { spot = c; label = l })
          (part_block (occurrences_of u) (block_occurrences_of u) l ops rest c part) in
          let b = joins_down None Blocks rest more y tt (next_block c)
          (part_blocks (occurrences_of u) (block_occurrences_of u) l ops rest c part) in
          record {
            joins = first l ops all rest more (λ b j. n b (joinable_up b l.name j)) a.joins b.joins;
            alike = λ i. block l (a.alike i) (b.alike i);
          }
      joins_down _ _ _ _ (chain_ends b ops own n x) here c part =
          let a = joins_down None Operations ops own x tt c part in
          record { joins = chain_ends b ops own (λ y j. n y (joinable_up b y j)) a.joins; alike = a.alike }
      joins_down _ _ _ _ (chain_goes_on b z ops own others all j h x y e) here c part =
          let p = last_from b z.label.name j here in
          let k = target_in b z.label.name j p in
          let next : Bl = k.0 in
          let name : next.label.name ≡ z.label.name = ap (λ (w : Bl). w.label.name) k.2 ∙ j.target_name in
          let is : up_block next ≡ z =
          functions.block_same d t local apart o stands shallow next z k.1 h (sym name) in
          let inside = block_inside o.regions (at_root u) next k.1 in
          let a = joins_down None Operations (but_last ops) own x tt c (part_part (but_last_inside ops c) part) in
          let b1 = joins_down (Some z.label.name) Operations z.operations others y (next, k.1, name)
          (record { spot = next.spot; label = next.label })
          (subst (λ (w : Bl). IsPartHere w.operations (record { spot = next.spot; label = next.label })) is inside) in
          record {
            joins =
                chain_goes_on b next ops own others all
                (subst (λ (w : Bl). JoinableHere b w.label.name) (sym is) (joinable_down b z.label.name j p k))
                k.1 a.joins
                (subst (λ (w : Bl). Joins d (all_of u) u (Some w.label.name) Operations w.operations others) (sym is)
                b1.joins)
                e;
            alike =
                ap (use_instead names) e ∙ use_append names own others
                ∙ (λ i. append (a.alike i) (b1.alike i))
                ∙ sym (use_append names_here own others) ∙ ap (use_instead names_here) (sym e);
          }

      -- the function in the tree whose chains are joined is the function whose chains are joined
      pub joined_inside : (qs : Tree N S Regions) → Joins d (all_of t) t None Regions o.regions qs →
          o.head.operands ≡ [] →
          IsJoined d (all_of u) u (record { head = use_head names o.head; regions = use_instead names qs })
      joined_inside qs joins none =
          let a = joins_down None Regions o.regions qs joins tt (at_root u)
          (record { operations = λ p h. h; blocks = λ x h. h }) in
          let e = head_same o.head (λ v m. absurd (subst (Has v) none m)) in
          record {
            names = names_here;
            follows = follows_here;
            regions = qs;
            joins = a.joins;
            is = λ i. record { head = e i; regions = a.alike i };
          }
