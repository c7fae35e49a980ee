-- The blocks of a function that are reached in a tree are those that are reached in the function, and so are those
-- that go.
use Rattle.std.proofs.Common.{◌≡◌, inl, inr, ℕ, Bool, true, map, refl, sym, ap, ◌∙◌, subst}
use Rattle.std.specs.Prelude.{◌&&◌, if◌then◌else◌}
use Rattle.ir_trees.specs.Names.{Names, Contents}
use Rattle.ir_trees.specs.Trees.{Head, Sort, Tree, end, operation, block, region, Root}
use Rattle.opt_trees.specs.Dialect.{Dialect}
use Rattle.opt_trees.specs.Occurrences.{Has, Spot, Occurrence, BlockOccurrence, Inside, inner, next_block, next_region}
use Rattle.opt_trees.specs.Occurrences.{block_occurrences_in, occurrences_of, block_occurrences_of, at_root}
use Rattle.opt_trees.specs.Occurrences.{OperationsApart}
use Rattle.opt_trees.specs.Simplify.{IsLocal, all_of, IsReached, entry, further, IsVisited, of_place, IsVisitedSsa}
use Rattle.opt_trees.specs.Simplify.{IsUnreached, keep, IsCut}
use Rattle.opt_trees.proofs.Lists.{has-map, has-from_map}
use Rattle.opt_trees.proofs.NoneDead.{has-left, has-right}
use Rattle.kit_behaviour.specs.Scopes.{is_in}
use Rattle.kit_views.specs.FlatView.{IsSameness}
use Rattle.kit_ruled_views.proofs.programs.Restricted.{has_is, is_has, both_true, left_true, right_true, and_is}
use Rattle.kit_ruled_views.proofs.programs.ShallowFunctions.{IsAtRoot, IsShallow, root_of}
use Rattle.kit_ruled_views.proofs.programs.ShallowFunctions as functions

-- two sets that have the same of the blocks of a tree keep the same of it
keep_same : {N : Names} {S : Contents} {s : Sort} (g k : N.block → Bool) (t : Tree N S s) (c : Inside N S s) →
    ((x : BlockOccurrence N S) → Has x (block_occurrences_in t c) → g x.label.name ≡ k x.label.name) →
    keep g t ≡ keep k t
keep_same g k end c h = refl
keep_same g k (operation z rs rest) c h =
    let a = keep_same g k rs (inner z c)
    (λ x m. h x (has-left x (block_occurrences_in rs (inner z c)) (block_occurrences_in rest c) m)) in
    let b = keep_same g k rest c
    (λ x m. h x (has-right x (block_occurrences_in rs (inner z c)) (block_occurrences_in rest c) m)) in
    λ i. operation z (a i) (b i)
keep_same g k (block l os rest) c h =
    let own = h (record { spot = c; label = l; operations = os }) (inl refl) in
    let a = keep_same g k os (record { spot = c; label = l })
    (λ x m. h x (inr (has-left x (block_occurrences_in os (record { spot = c; label = l }))
    (block_occurrences_in rest (next_block c)) m))) in
    let b = keep_same g k rest (next_block c)
    (λ x m. h x (inr (has-right x (block_occurrences_in os (record { spot = c; label = l }))
    (block_occurrences_in rest (next_block c)) m))) in
    λ i. if own i then b i else block l (a i) (b i)
keep_same g k (region bs rest) c h =
    let a = keep_same g k bs c
    (λ x m. h x (has-left x (block_occurrences_in bs c) (block_occurrences_in rest (next_region c)) m)) in
    let b = keep_same g k rest (next_region c)
    (λ x m. h x (has-right x (block_occurrences_in bs c) (block_occurrences_in rest (next_region c)) m)) in
    λ i. region (a i) (b i)

module _ {N : Names} {S : Contents} {A : Type 0} (d : Dialect S A) (t : Root N S) (local : IsLocal t)
    (apart : OperationsApart t) (o : Occurrence N S) (stands : Has o (occurrences_of t))
    (shallow : IsShallow (root_of o)) where
  abbrev Op : Type 0
  Op = Occurrence N S

  abbrev Bl : Type 0
  Bl = BlockOccurrence N S

  abbrev u : Root N S
  u = root_of o

  abbrev up : Op → Op
  up p = functions.up d t local apart o stands shallow p

  abbrev up_block : Bl → Bl
  up_block x = functions.up_block d t local apart o stands shallow x

  pub reached_up : (b : N.block) → IsReached u b → IsReached t b
  reached_up _ (entry x h f) = entry (up_block x) (functions.block_there d t local apart o stands shallow x h) f
  reached_up _ (further p b h r s) =
      further (up p) b (functions.there d t local apart o stands shallow p h) (reached_up p.site.label.name r) s

  pub reached_down : (b : N.block) → IsReached t b → (x : Bl) → Has x (block_occurrences_of u) → x.label.name ≡ b →
      IsReached u b
  reached_down _ (entry y h f) x k e =
      let same = functions.block_same d t local apart o stands shallow x y k h (sym e) in
      subst (IsReached u) e (entry x k (ap (λ (z : Bl). z.spot.first) same ∙ f))
  reached_down _ (further q b h r s) x k e =
      let p = functions.entering d t local apart o stands shallow q x h k
      (subst (λ z. Has z q.head.successors) (sym e) s) in
      let own = functions.own_block d t local apart o stands shallow p.0 p.1 in
      let here : p.0.site.label.name ≡ q.site.label.name = ap (λ (z : Op). z.site.label.name) p.2 in
      let before = reached_down q.site.label.name r own.it own.stands (ap (λ l. l.name) own.label ∙ here) in
      further p.0 b p.1 (subst (IsReached u) (sym here) before)
      (subst (λ (z : Op). Has b z.head.successors) (sym p.2) s)

  -- what is reached in the function is a block of it
  pub reached_inside : (b : N.block) → IsReached u b → (x : Bl) × Has x (block_occurrences_of u) × (x.label.name ≡ b)
  reached_inside _ (entry x h f) = (x, h, refl)
  reached_inside _ (further p b h r s) = shallow.edges p b h s

  module _ (seen : (i : ℕ) → IsVisited d (all_of t) t o.head.name i) (ssa : d.is_ssa o.head.content 0 ≡ true) where
    pub visited_there : (c : Spot N S) → c.owner ≡ o.head → c.region ≡ 0 → IsVisitedSsa d (all_of t) t c
    visited_there c own number = record {
      visited = subst (λ (h : Head N S). IsVisited d (all_of t) t h.name c.region) (sym own) (seen c.region);
      ssa = (λ i. d.is_ssa (own i).content (number i)) ∙ ssa;
    }

    pub visited_here : (c : Spot N S) → IsAtRoot u c → IsVisitedSsa d (all_of u) u c
    visited_here c at = record {
      visited = subst (λ (h : Head N S). IsVisited d (all_of u) u h.name c.region) (sym at.owner)
          (of_place o.head.name c.region (inl refl));
      ssa = (λ i. d.is_ssa (at.owner i).content (at.region i)) ∙ ssa;
    }

    unreached_up : (b : N.block) → IsUnreached d (all_of u) u b → IsUnreached d (all_of t) t b
    unreached_up b z =
        let at = shallow.blocks z.it z.stands in
        record {
          it = up_block z.it;
          stands = functions.block_there d t local apart o stands shallow z.it z.stands;
          name = z.name;
          visited = visited_there (up_block z.it).spot at.owner at.region;
          unreached = λ r. z.unreached (reached_down b r z.it z.stands z.name);
        }

    unreached_down : (b : N.block) → IsUnreached d (all_of t) t b → (x : Bl) → Has x (block_occurrences_of u) →
        x.label.name ≡ b → IsUnreached d (all_of u) u b
    unreached_down b z x k e = record {
      it = x;
      stands = k;
      name = e;
      visited = visited_here x.spot (shallow.blocks x k);
      unreached = λ r. z.unreached (reached_up b r);
    }

    -- the function without what goes from the tree is the function without what goes from it
    module _ (same : N.block → N.block → Bool) (law : IsSameness same) (after : Root N S)
        (cut : IsCut d (all_of t) t after) where
      abbrev name_of : Bl → N.block
      name_of x = x.label.name

      abbrev here : N.block → Bool
      here b = is_in same b (map name_of (block_occurrences_of u))

      is_here : (x : Bl) → Has x (block_occurrences_of u) → here x.label.name ≡ true
      is_here x h =
          has_is same law x.label.name (map name_of (block_occurrences_of u))
          (has-map name_of x (block_occurrences_of u) h)

      from_here : (b : N.block) → here b ≡ true → (x : Bl) × Has x (block_occurrences_of u) × (x.label.name ≡ b)
      from_here b e =
          let z = has-from_map name_of b (block_occurrences_of u)
          (is_has same law b (map name_of (block_occurrences_of u)) e) in
          (z.it, z.stands, z.is)

      named_here : (b : N.block) → (x : Bl) × Has x (block_occurrences_of u) × (x.label.name ≡ b) → here b ≡ true
      named_here b x = ap here (sym x.2) ∙ is_here x.0 x.1

      pub cut_inside : IsCut d (all_of u) u (record { head = o.head; regions = keep cut.gone o.regions })
      cut_inside = record {
        reach = λ b. cut.reach b && here b;
        reached = λ b e.
            let x = from_here b (right_true (cut.reach b) (here b) e) in
            reached_down b (cut.reached b (left_true (cut.reach b) (here b) e)) x.0 x.1 x.2;
        all_reached = λ b r. both_true (cut.reach b) (here b) (cut.all_reached b (reached_up b r))
            (named_here b (reached_inside b r));
        gone = λ b. cut.gone b && here b;
        there = λ b e.
            let x = from_here b (right_true (cut.gone b) (here b) e) in
            unreached_down b (cut.there b (left_true (cut.gone b) (here b) e)) x.0 x.1 x.2;
        all = λ b z. both_true (cut.gone b) (here b) (cut.all b (unreached_up b z))
            (named_here b (z.it, z.stands, z.name));
        is = ap (λ z. record { head = o.head; regions = z })
            (keep_same cut.gone (λ b. cut.gone b && here b) o.regions (at_root u)
            (λ x m. and_is (cut.gone x.label.name) (here x.label.name) (is_here x m)));
      }
