-- After simplify each block of visited SSA regions is reached, and no two blocks can be joined.
use Rattle.std.proofs.Common.{◌≡◌, ◌⊎◌, ⊎_elim, inl, inr, ℕ, Bool, true, false, List, [], ◌∷◌, None, refl, sym, ap, ◌∙◌, subst}
use Rattle.std.specs.Prelude.{◌&&◌}
use Rattle.ir_trees.specs.Names.{Names, Contents}
use Rattle.ir_trees.specs.Trees.{Regions, Tree, Root}
use Rattle.opt_trees.specs.Occurrences.{Has, Occurrence, BlockOccurrence, Spot, occurrences_of, block_occurrences_of, at_root}
use Rattle.opt_trees.specs.Dialect.{Dialect}
use Rattle.opt_trees.specs.Dce.{TreeSurroundings}
use Rattle.opt_trees.specs.Simplify.{StartingRegions, all_of, is_empty, is_bare, decided, IsReached, entry, further, IsEntered, IsVisited, of_place, of_inner, IsVisitedSsa, Joinable, use_head, use_instead, Joins, IsOrderly, IsLocal, BranchesLast, IsSimplify, IsSimplified}
use Rattle.opt_trees.proofs.NoneDead.{true_false}
use Rattle.opt_trees.proofs.Reached.{cut_goal}
use Rattle.opt_trees.proofs.Orderly.{decided_local, phases_orderly, phases_local, phases_last}
use Rattle.opt_trees.proofs.Homes.{direct, root_level}
use Rattle.opt_trees.proofs.Chains.{InChain, itself, next, LikeSpot, LikeBlock, target_is, leads_to, WasMoved, WasFirst, operation_was, block_was}
use Rattle.opt_trees.proofs.Covered.{IsTaken, Holds, IsDropped, IsMoved, IsFirst, hold, level, cover, cover_block}

module _ {N : Names} {S : Contents} {A : Type 0} (d : Dialect S A) (start : StartingRegions N) (r : Root N S) (orderly : IsOrderly r) (local : IsLocal r) (last : BranchesLast r) (names : N.value → N.value) (joined : Tree N S Regions) (joins : Joins d start r None Regions r.regions joined) where
  abbrev pub after : Root N S
  after = record { head = use_head names r.head; regions = use_instead names joined }

  root_like : LikeBlock d start r (at_root r) (at_root after)
  root_like = record { spot = record { name = refl; content = refl; region = refl }; first = refl }

  op_was : (p : Occurrence N S) → Has p (occurrences_of after) → WasMoved d start r orderly local names p
  op_was p h = operation_was d start r orderly local names None Regions r.regions joined joins (at_root r) (at_root after) root_like tt tt (record { operations = λ o m. m; blocks = λ x m. m }) p h

  first_was : (y : BlockOccurrence N S) → Has y (block_occurrences_of after) → WasFirst d start r orderly local names y
  first_was y h = block_was d start r orderly local names None Regions r.regions joined joins (at_root r) (at_root after) root_like tt tt (record { operations = λ o m. m; blocks = λ x m. m }) y h

  given : (x : BlockOccurrence N S) → Has x (direct r.regions (at_root r)) → Holds d start r orderly local names (occurrences_of after) (block_occurrences_of after) x × (IsTaken d start r x.label.name ⊎ IsFirst d start r orderly local names (occurrences_of after) (block_occurrences_of after) x)
  given = hold d start r orderly local names (occurrences_of after) (block_occurrences_of after) r.regions (at_root r)
      (level d start r orderly local names (occurrences_of after) (block_occurrences_of after) None Regions r.regions joined joins (at_root r) (at_root after) root_like (record { operations = λ o m. m; blocks = λ x m. m }) (record { operations = λ o m. m; blocks = λ x m. m }))
      (record { operations = λ o m. m; blocks = λ x m. m }) (λ z m q. root_level r orderly.operations z m q)

  cover_operation : (o : Occurrence N S) → Has o (occurrences_of r) → IsDropped d start r o ⊎ IsMoved d start r orderly local names (occurrences_of after) (block_occurrences_of after) o
  cover_operation o h = cover d start r orderly local names (occurrences_of after) (block_occurrences_of after) last r.regions (at_root r) given (record { operations = λ o m. m; blocks = λ x m. m }) o h

  cover_first : (x : BlockOccurrence N S) → Has x (block_occurrences_of r) → IsTaken d start r x.label.name ⊎ IsFirst d start r orderly local names (occurrences_of after) (block_occurrences_of after) x
  cover_first x h = cover_block d start r orderly local names (occurrences_of after) (block_occurrences_of after) last r.regions (at_root r) given (record { operations = λ o m. m; blocks = λ x m. m }) x h

  entry_not_taken : (x : BlockOccurrence N S) → Has x (block_occurrences_of r) → x.spot.first ≡ true → (a : N.block) → Joinable d start r a x.label.name → ⊥
  entry_not_taken x h f a j = true_false x.spot.first f (ap (λ z. z.spot.first) (sym (target_is d start r orderly local a x.label.name j x h refl)) ∙ j.not_entry)

  -- the last step of a chain
  chain_case : (f b : N.block) → InChain d start r f b → ((f ≡ b) × ((a : N.block) → Joinable d start r a b → ⊥)) ⊎ ((a : N.block) × InChain d start r f a × Joinable d start r a b)
  chain_case _ _ (itself b n) = inl (refl, n)
  chain_case _ _ (next f a b c j) = inr (a, c, j)

  -- before

  chain_reached : (f a : N.block) → InChain d start r f a → IsReached r f → IsReached r a
  chain_reached _ _ (itself b n) h = h
  chain_reached _ _ (next f a b c j) h = further j.last b j.stands (subst (IsReached r) (sym j.in_block) j.reached) (leads_to d start r orderly local a b j)

  reached_before : (b : N.block) → IsReached after b → IsReached r b
  reached_before _ (entry y h f) =
      let w = first_was y h in
      subst (IsReached r) (ap (λ l. l.name) (sym w.label)) (entry w.it w.stands (sym w.spot.first ∙ f))
  reached_before _ (further p b h q s) =
      let w = op_was p h in
      further w.it b w.stands (chain_reached p.site.label.name w.it.site.label.name w.is.site.chain (reached_before p.site.label.name q)) (subst (λ z. Has b z.successors) w.is.head s)

  visited_before : (n : N.operation) (i : ℕ) → IsVisited d start after n i → IsVisited d start r n i
  visited_before _ _ (of_place n i x) = of_place n i x
  visited_before _ _ (of_inner p i h v e) =
      let w = op_was p h in
      let k = w.is.site.spot in
      let same : d.is_ssa p.site.spot.owner.content p.site.spot.region ≡ d.is_ssa w.it.site.spot.owner.content w.it.site.spot.region = λ j. d.is_ssa (k.content j) (k.region j) in
      subst (λ z. IsVisited d start r z i) (ap (λ z. z.name) (sym w.is.head))
      (of_inner w.it i w.stands
      (subst (IsVisited d start r w.it.site.spot.owner.name) k.region (subst (λ z. IsVisited d start r z p.site.spot.region) k.name (visited_before p.site.spot.owner.name p.site.spot.region v)))
      (entered p w h (d.is_ssa w.it.site.spot.owner.content w.it.site.spot.region) refl (subst (IsEntered after p.site.spot p.site.label.name) same e)))
    where
      entered : (p : Occurrence N S) (w : WasMoved d start r orderly local names p) → Has p (occurrences_of after) → (b : Bool) → d.is_ssa w.it.site.spot.owner.content w.it.site.spot.region ≡ b → IsEntered after p.site.spot p.site.label.name b → IsEntered r w.it.site.spot w.it.site.label.name b
      entered p w h true q e = chain_reached p.site.label.name w.it.site.label.name w.is.site.chain (reached_before p.site.label.name e)
      entered p w h false q e = sym (w.is.site.first q) ∙ e

  ssa_before : (c e : Spot N S) → LikeSpot d start r c e → IsVisitedSsa d start after e → IsVisitedSsa d start r c
  ssa_before c e k v = record {
    visited = subst (IsVisited d start r c.owner.name) k.region (subst (λ z. IsVisited d start r z e.region) k.name (visited_before e.owner.name e.region v.visited));
    ssa = (λ j. d.is_ssa (sym k.content j) (sym k.region j)) ∙ v.ssa;
  }

  -- afterwards

  reached_after : (b : N.block) → IsReached r b → (f : N.block) → InChain d start r f b → IsReached after f
  reached_after _ (entry x h e) f c = ⊎_elim
      (λ z. ⊎_elim
      (λ t. absurd (z.1 t.from t.link))
      (λ y. subst (IsReached after) (ap (λ l. l.name) y.label ∙ sym z.0) (entry y.it y.stands (y.spot.first ∙ e)))
      (cover_first x h))
      (λ z. absurd (entry_not_taken x h e z.0 z.2))
      (chain_case f x.label.name c)
  reached_after _ (further o b h p s) f c = ⊎_elim
      (λ z. ⊎_elim
      (λ t. absurd (z.1 o.site.label.name (subst (Joinable d start r o.site.label.name) (sym (only b t.target o.head.successors t.leads s)) t.link)))
      (λ w. subst (IsReached after) (sym z.0) (further w.it b w.stands (reached_after o.site.label.name p w.it.site.label.name w.is.site.chain) (subst (λ y. Has b y.successors) (sym w.is.head) s)))
      (cover_operation o h))
      (λ z.
      let from : z.0 ≡ o.site.label.name = sym z.2.in_block ∙ ap (λ q. q.site.label.name) (sym (z.2.single o h s)) in
      reached_after o.site.label.name p f (subst (InChain d start r f) from z.1))
      (chain_case f b c)
    where
      only : (x y : N.block) (xs : List N.block) → xs ≡ y ∷ [] → Has x xs → x ≡ y
      only x y xs e m = ⊎_elim (λ q. q) (λ q. absurd q) (subst (Has x) e m)

  module _ (reach : (x : BlockOccurrence N S) → Has x (block_occurrences_of r) → IsVisitedSsa d start r x.spot → IsReached r x.label.name) where
    goal_reached : (y : BlockOccurrence N S) → Has y (block_occurrences_of after) → IsVisitedSsa d start after y.spot → IsReached after y.label.name
    goal_reached y h v =
        let w = first_was y h in
        subst (IsReached after) (ap (λ l. l.name) (sym w.label)) (reached_after w.it.label.name (reach w.it w.stands (ssa_before w.it.spot y.spot w.spot.spot v)) w.it.label.name (itself w.it.label.name w.is_first))

    goal_joined : (b c : N.block) → Joinable d start after b c → ⊥
    goal_joined b c j =
        let w = op_was j.last j.stands in
        let v = first_was j.target j.target_stands in
        let to : v.it.label.name ≡ c = ap (λ l. l.name) (sym v.label) ∙ j.target_name in
        v.is_first w.it.site.label.name (record {
          last = w.it;
          stands = w.stands;
          in_block = refl;
          visited = ssa_before w.it.site.spot j.last.site.spot w.is.site.spot j.visited;
          reached = chain_reached j.last.site.label.name w.it.site.label.name w.is.site.chain (reached_before j.last.site.label.name (subst (IsReached after) (sym j.in_block) j.reached));
          bare = (λ i. d.is_branch w.it.head.content && (is_empty w.it.head.results && sym w.is.bare i)) ∙ ap (λ g. is_bare d g j.last.regions) (sym w.is.head) ∙ j.bare;
          leads = ap (λ g. g.successors) (sym w.is.head) ∙ j.leads ∙ ap (λ z. z ∷ []) (sym to);
          target = v.it;
          target_stands = v.stands;
          target_name = refl;
          not_entry = sym v.spot.first ∙ j.not_entry;
          other = λ e. ⊎_elim
              (λ z. j.other (sym j.in_block ∙ z.0 ∙ e ∙ to))
              (λ z. v.is_first z.0 (subst (Joinable d start r z.0) e z.2))
              (chain_case j.last.site.label.name w.it.site.label.name w.is.site.chain);
          single = λ q h m. ⊎_elim
              (λ t. absurd (v.is_first q.site.label.name (subst (Joinable d start r q.site.label.name) (sym (only v.it.label.name t.target q.head.successors t.leads m)) t.link)))
              (λ u.
              let same = j.single u.it u.stands (subst (λ z. Has z u.it.head.successors) to (subst (λ y. Has v.it.label.name y.successors) (sym u.is.head) m)) in
              orderly.operations q w.it h w.stands (ap (λ y. y.name) (sym u.is.head) ∙ ap (λ y. y.head.name) same ∙ ap (λ y. y.name) w.is.head))
              (cover_operation q h);
        })
      where
        only : (x y : N.block) (xs : List N.block) → xs ≡ y ∷ [] → Has x xs → x ≡ y
        only x y xs e m = ⊎_elim (λ q. q) (λ q. absurd q) (subst (Has x) e m)

    pub joined_simplified : start ≡ all_of r → IsSimplified d after
    joined_simplified e = record {
      reached = subst (λ p. (y : BlockOccurrence N S) →
          Has y (block_occurrences_of after) → IsVisitedSsa d p after y.spot → IsReached after y.label.name)
          e goal_reached;
      joined = subst (λ p. (b c : N.block) → Joinable d p after b c → ⊥) e goal_joined;
    }

-- what simplify leaves
pub simplify_goal : {N : Names} {S : Contents} {A : Type 0} (d : Dialect S A) (w : TreeSurroundings N A) (t after : Root N S) →
    IsOrderly t → IsLocal t → BranchesLast t → IsSimplify d w t after → IsSimplified d after
simplify_goal d w t after orderly local last p =
    subst (IsSimplified d) (sym p.is_joined.is)
    (joined_simplified d (all_of t) p.cut
    (phases_orderly d (all_of t) w t p.cut p.is_cut orderly)
    (phases_local d (all_of t) w t p.cut p.is_cut local)
    (phases_last d (all_of t) w t p.cut p.is_cut last)
    p.is_joined.names p.is_joined.regions p.is_joined.joins
    (cut_goal d (all_of t) (decided d w t) p.cut p.is_cut (decided_local d w t local))
    (ap (λ u. all_of u) (sym p.is_cut.is)))
