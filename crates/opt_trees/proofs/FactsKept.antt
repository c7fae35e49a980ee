-- With constants put in, the most precise facts are the old ones, and new values are known to be their constants.
use Rattle.std.proofs.Common.{◌≡◌, ◌⊎◌, ⊎_elim, inl, inr, ℕ, Bool, true, false, List, [], ◌∷◌, length, Option, Some, None, refl, sym, ap, ◌∙◌, subst}
use Rattle.std.specs.Prelude.{map}
use Rattle.ir_trees.specs.Names.{Names, Contents}
use Rattle.ir_trees.specs.Renames.{rename_defined, names_of}
use Rattle.ir_trees.specs.Trees.{Defined, Head, Sort, Operations, Tree, end, operation, block, region, Root}
use Rattle.opt_rows.specs.declared.known.Known.{Known}
use Rattle.opt_rows.specs.declared.known.Known.TheVariants.{Undetermined, One, Any}
use Rattle.opt_rows.specs.Known.{AtOrBelow, FactsOf, and_known, asked, answer, AllBelow, AllAny, MorePrecise}
use Rattle.opt_trees.specs.Occurrences.{Has, types_of, picks, Occurrence, BlockOccurrence, occurrences_of, block_occurrences_of, defined_in, at_root}
use Rattle.opt_trees.specs.Dce.{TreeSurroundings}
use Rattle.opt_trees.specs.Dialect.{Dialect, Lawful}
use Rattle.opt_trees.specs.Facts.{Facts, Asked, FoldClosed, forwarded, EdgeClosed, BranchClosed, EntriesRun, OperationClosed, IsClosed, IsMostPrecise}
use Rattle.opt_trees.specs.Sccp.{Name, Old, New, fresh, AreMadeConstants, IsSccp, KeepsFacts, known_after, facts_after, used_as, constant_head, old_head, put, put_root}
use Rattle.opt_trees.proofs.Lists.{map-map, length-map, picks-map}
use Rattle.opt_trees.proofs.FactsRenamed.{any_under, below_under, types-map}
use Rattle.opt_trees.proofs.Defined.{result_defined}
use Rattle.opt_trees.proofs.Best.{at_both, true_both, not_true, best_unique}
use Rattle.opt_trees.proofs.Put.{PutOf, ConstantFor, IsThere, operation_was, operation_is, result_there, argument_there, block_was, block_is, value_is, value_was}

-- the second, where the first isn't undetermined
abbrev pub guard : {A : Type 0} → Known A → Known A → Known A
guard Undetermined y = Undetermined
guard (One a) y = y
guard Any y = y

guard_same : {A : Type 0} (x : Known A) → guard x x ≡ x
guard_same Undetermined = refl
guard_same (One a) = refl
guard_same Any = refl

guard_below : {A : Type 0} (a : A) (x y : Known A) → AtOrBelow x (One a) → guard x y ≡ y
guard_below a Undetermined y h = absurd h
guard_below a (One b) y h = refl
guard_below a Any y h = refl

-- where both lie at or above a constant
guarded : {A : Type 0} (a : A) (x y : Known A) → AtOrBelow (One a) x → AtOrBelow (One a) y → (guard x y ≡ Undetermined) ⊎ (guard x y ≡ x)
guarded a Undetermined y p q = inl refl
guarded a (One b) Undetermined p q = inl refl
guarded a (One b) (One c) p q = inr (ap One (sym q ∙ p))
guarded a (One b) Any p q = absurd q
guarded a Any y p q = absurd p

guard_between : {A : Type 0} (z w k : Known A) → AtOrBelow (guard z w) k → AtOrBelow k w → w ≡ k
guard_between Undetermined w k p q = top w k p q
  where
    top : {A : Type 0} (w k : Known A) → AtOrBelow Undetermined k → AtOrBelow k w → w ≡ k
    top w (One a) p q = absurd p
    top w Any p q = absurd p
    top Undetermined Undetermined p q = refl
    top (One a) Undetermined p q = absurd q
    top Any Undetermined p q = absurd q
guard_between (One a) w k p q = at_both w k p q
guard_between Any w k p q = at_both w k p q

pub below_top : {A : Type 0} (x : Known A) → AtOrBelow x Undetermined
below_top Undetermined = tt
below_top (One a) = tt
below_top Any = tt

one_below : {A : Type 0} (a : A) (x : Known A) → x ≡ One a → AtOrBelow x (One a)
one_below a x e = subst (λ y. AtOrBelow y (One a)) (sym e) refl

pub one_any : {A : Type 0} (a : A) (x : Known A) → x ≡ One a → x ≡ Any → ⊥
one_any a x e f = let g : One a ≡ Any = sym e ∙ f in absurd (cc g)

none_known : {A : Type 0} (x : Known A) → and_known x None ≡ None
none_known Undetermined = refl
none_known (One a) = refl
none_known Any = refl

-- facts that are undetermined or the same ask nothing or the same
pub asked_or : {V A : Type 0} (f g : V → Known A) → ((v : V) → (f v ≡ Undetermined) ⊎ (f v ≡ g v)) → (vs : List V) → (asked (map f vs) ≡ None) ⊎ (asked (map f vs) ≡ asked (map g vs))
asked_or f g e [] = inr refl
asked_or f g e (v ∷ vs) = ⊎_elim
    (λ x. inl (ap (λ y. and_known y (asked (map f vs))) x))
    (λ x. ⊎_elim (λ y. inl (ap (and_known (f v)) y ∙ none_known (f v))) (λ y. inr (λ i. and_known (x i) (y i))) (asked_or f g e vs)) (e v)

-- facts that are the same of these values
pub any_same : {V A : Type 0} (f g : V → Known A) (vs : List V) → ((v : V) → Has v vs → f v ≡ g v) → AllAny g vs → AllAny f vs
any_same f g [] e h = tt
any_same f g (v ∷ vs) e h = (e v (inl refl) ∙ h.0, any_same f g vs (λ u m. e u (inr m)) h.1)

pub below_same : {V A : Type 0} (f g : V → Known A) (vs : List V) (ys : List (Known A)) → ((v : V) → Has v vs → f v ≡ g v) → AllBelow g vs ys → AllBelow f vs ys
below_same f g [] ys e h = tt
below_same f g (v ∷ vs) [] e h = tt
below_same f g (v ∷ vs) (y ∷ ys) e h = (subst (λ z. AtOrBelow z y) (sym (e v (inl refl))) h.0, below_same f g vs ys (λ u m. e u (inr m)) h.1)

-- below what is undetermined or the same
pub below_or : {V W A : Type 0} (f : V → Known A) (g h : W → Known A) → ((u : W) → (g u ≡ Undetermined) ⊎ (g u ≡ h u)) → (vs : List V) (us : List W) → AllBelow f vs (map h us) → AllBelow f vs (map g us)
below_or f g h e [] us b = tt
below_or f g h e (v ∷ vs) [] b = tt
below_or f g h e (v ∷ vs) (u ∷ us) b = (⊎_elim (λ x. subst (AtOrBelow (f v)) (sym x) (below_top (f v))) (λ x. subst (AtOrBelow (f v)) (sym x) b.0) (e u), below_or f g h e vs us b.1)

-- how a value is used afterwards
abbrev pub used : {V A : Type 0} → (V → Option A) → V → Name V V
used made v = used_as v (made v)

-- facts read at the old names
abbrev pub old_facts : {B V A : Type 0} → FactsOf B (Name V V) A → FactsOf B V A
old_facts f = record { runs = f.runs; of = λ v. f.of (Old v) }

pub asked_put : {V A : Type 0} (made : V → Option A) (f : Name V V → Known A) (vs : List V) → asked (map f (map (used made) vs)) ≡ asked (map (λ v. f (used made v)) vs)
asked_put made f vs = ap asked (map-map f (used made) vs)

module _ {N : Names} {S : Contents} {A : Type 0} (d : Dialect S A) (made : N.value → Option A) where
  entries_is : {s : Sort} (f : Facts (fresh N) A) (x : Tree N S s) → EntriesRun (old_facts f) x → EntriesRun f (put {N = N} d made x)
  entries_is f end h = tt
  entries_is f (operation k rs rest) h = always (put {N = N} d made (operation k rs rest))
    where
      always : (y : Tree (fresh N) S Operations) → EntriesRun f y
      always end = tt
      always (operation k rs rest) = tt
  entries_is f (block l ops rest) h = (h.0, subst (λ T. T) (sym (any_under Old f.of l.arguments)) h.1)
  entries_is f (region bs rest) h = (entries_is f bs h.0, entries_is f rest h.1)

  pub entries_was : {s : Sort} (f : Facts (fresh N) A) (x : Tree N S s) → EntriesRun f (put {N = N} d made x) → EntriesRun (old_facts f) x
  entries_was f end h = tt
  entries_was f (operation k rs rest) h = tt
  entries_was f (block l ops rest) h = (h.0, subst (λ T. T) (any_under Old f.of l.arguments) h.1)
  entries_was f (region bs rest) h = (entries_was f bs h.0, entries_was f rest h.1)

  pub folds_put : (f : Name N.value N.value → Known A) (h : Head N S) (b : Bool) (q : Asked A) → FoldClosed d f (old_head {N = N} made h) b q ≡ FoldClosed d (λ v. f (Old v)) h b q
  folds_put f h false q = any_under Old f h.results
  folds_put f h true None = refl
  folds_put f h true (Some xs) =
      ap (λ ts. AllBelow f (names_of (map (rename_defined Old) h.results)) (map answer (d.fold h.content ts xs))) (types-map Old h.results)
      ∙ below_under Old f h.results (map answer (d.fold h.content (types_of h.results) xs))

  forwarded_put : (h : Head N S) (i : ℕ) → forwarded d (old_head {N = N} made h) i ≡ map (used made) (forwarded d h i)
  forwarded_put h i = ap (λ n. picks (map (used made) h.operands) (d.forwards h.content n i)) (length-map (used made) h.operands) ∙ picks-map (used made) h.operands (d.forwards h.content (length h.operands) i)

  pub given_put : (f : Name N.value N.value → Known A) (vs : List (Defined N.value S.of_value)) (h : Head N S) (i : ℕ) → AllBelow f (names_of (map (rename_defined Old) vs)) (map f (forwarded d (old_head {N = N} made h) i)) ≡ AllBelow (λ v. f (Old v)) (names_of vs) (map (λ v. f (used made v)) (forwarded d h i))
  given_put f vs h i =
      below_under Old f vs (map f (forwarded d (old_head {N = N} made h) i))
      ∙ ap (AllBelow (λ v. f (Old v)) (names_of vs)) (ap (map f) (forwarded_put h i) ∙ map-map f (used made) (forwarded d h i))

  module _ (law : Lawful d) (w : TreeSurroundings N A) (t : Root N S) (k : Facts N A) (best : IsMostPrecise d t k) (is_made : AreMadeConstants d w t k made) where
    abbrev pub after : Root (fresh N) S
    after = put_root {N = N} d made t

    -- the constant of a value that gets one stands in a block that runs
    pub record Placed (v : N.value) (a : A) : Type 0 where
      pub maker : S.of_operation
      pub in_block : N.block
      pub runs : k.runs in_block ≡ true
      pub constant : IsThere d made (occurrences_of after) v a maker in_block

    pub placed : (v : N.value) (a : A) → made v ≡ Some a → Placed v a
    placed v a e =
        let g = is_made.gets v a e in
        ⊎_elim
        (λ p. record { maker = g.maker; in_block = p.definer.site.label.name; runs = p.runs; constant = result_there d made v a g.maker e g.made_by t.regions (at_root t) (at_root after) tt p.definer p.stands p.result })
        (λ p. record { maker = g.maker; in_block = p.definer.label.name; runs = p.in_run; constant = argument_there d made v a g.maker e g.made_by t.regions (at_root t) (at_root after) p.definer p.stands p.argument }) g.place

    -- the old facts, and each constant for its value
    abbrev pub known_of : Name N.value N.value → Known A
    known_of = known_after k.of made

    abbrev pub extended : Facts (fresh N) A
    extended = facts_after k made

    used_known : (v : N.value) → known_of (used made v) ≡ k.of v
    used_known v = by_case (made v) refl
      where
        by_case : (q : Option A) → made v ≡ q → known_of (used_as v q) ≡ k.of v
        by_case None e = refl
        by_case (Some a) e = ap answer e ∙ sym (is_made.gets v a e).known

    all_used_known : ◌≡◌ {A = N.value → Known A} (λ v. known_of (used made v)) k.of
    all_used_known = λ i v. used_known v i

    same_asked : (vs : List N.value) → asked (map known_of (map (used made) vs)) ≡ asked (map k.of vs)
    same_asked vs = asked_put made known_of vs ∙ ap asked (λ i. map (λ v. used_known v i) vs)

    edge_extended : (h : Head N S) (i : ℕ) (b : N.block) → EdgeClosed d (block_occurrences_of t) k h i b → EdgeClosed d (block_occurrences_of after) extended (old_head {N = N} made h) i b
    edge_extended h i b e = record {
      target = e.target;
      arguments = λ y has is.
          let w = block_was d made t.regions (at_root t) (at_root after) y has in
          subst (λ l. AllBelow known_of (names_of l.arguments) (map known_of (forwarded d (old_head {N = N} made h) i))) (sym w.2)
          (subst (λ T. T) (sym (given_put known_of w.0.label.arguments h i))
          (subst (λ f. AllBelow k.of (names_of w.0.label.arguments) (map f (forwarded d h i))) (sym all_used_known) (e.arguments w.0 w.1 (ap (λ l. l.name) (sym w.2) ∙ is))));
    }

    branch_extended : (h : Head N S) (c : Bool) (q : Asked A) → BranchClosed d (block_occurrences_of t) k h c q → BranchClosed d (block_occurrences_of after) extended (old_head {N = N} made h) c q
    branch_extended h false q e = tt
    branch_extended h true None e = tt
    branch_extended h true (Some xs) e = λ i b leads feasible. edge_extended h i b (e i b leads feasible)

    old_extended : (o : Occurrence N S) (p : Occurrence (fresh N) S) → PutOf d made o p → OperationClosed d (block_occurrences_of t) k o → OperationClosed d (block_occurrences_of after) extended p
    old_extended o p w c = record {
      folds = subst (λ h. FoldClosed d known_of h (d.is_foldable h.content) (asked (map known_of h.operands))) (sym w.head)
          (subst (λ T. T) (sym (folds_put known_of o.head (d.is_foldable o.head.content) (asked (map known_of (map (used made) o.head.operands)))))
          (subst (FoldClosed d k.of o.head (d.is_foldable o.head.content)) (sym (same_asked o.head.operands)) c.folds));
      goes = subst (λ h. BranchClosed d (block_occurrences_of after) extended h (d.is_branch h.content) (asked (map known_of h.operands))) (sym w.head)
          (subst (BranchClosed d (block_occurrences_of after) extended (old_head {N = N} made o.head) (d.is_branch o.head.content)) (sym (same_asked o.head.operands))
          (branch_extended o.head (d.is_branch o.head.content) (asked (map k.of o.head.operands)) c.goes));
      entries = subst (EntriesRun extended) (sym w.regions) (entries_is extended o.regions c.entries);
    }

    -- what a constant asks
    folds_constant : (f : Name N.value N.value → Known A) (v : N.value) (a : A) (c : S.of_operation) → d.constant a ≡ Some c → FoldClosed d f (constant_head {N = N} d v a c) (d.is_foldable c) (Some []) ≡ (AtOrBelow (f (New v)) (One a) × Unit {0})
    folds_constant f v a c e =
        let l = law.constant_folds c a e in
        ap (λ b. FoldClosed d f (constant_head {N = N} d v a c) b (Some [])) l.1
        ∙ ap (λ ys. AllBelow f (New v ∷ []) (map answer ys)) l.2

    constant_extended : (v : N.value) (a : A) (c : S.of_operation) (b : N.block) (p : Occurrence (fresh N) S) → ConstantFor d made v a c b p → OperationClosed d (block_occurrences_of after) extended p
    constant_extended v a c b p w =
        let no_branch : d.is_branch c ≡ false = not_true (d.is_branch c) (law.exclude c (law.constant_folds c a w.made_by).1) in
        record {
          folds = subst (λ h. FoldClosed d known_of h (d.is_foldable h.content) (asked (map known_of h.operands))) (sym w.head)
              (subst (λ T. T) (sym (folds_constant known_of v a c w.made_by)) (one_below a (answer (made v)) (ap answer w.gets), tt));
          goes = subst (λ h. BranchClosed d (block_occurrences_of after) extended h (d.is_branch h.content) (asked (map known_of h.operands))) (sym w.head)
              (subst (λ y. BranchClosed d (block_occurrences_of after) extended (constant_head {N = N} d v a c) y (Some [])) (sym no_branch) tt);
          entries = subst (EntriesRun extended) (sym w.regions) tt;
        }

    outside_extended : (v : Name N.value N.value) → (Has v (defined_in after.regions) → ⊥) → known_of v ≡ Any
    outside_extended (Old v) n = best.closed.outside v (λ h. n (value_is d made t.regions v h))
    outside_extended (New v) n = by_case (made v) refl
      where
        by_case : (q : Option A) → made v ≡ q → answer (made v) ≡ Any
        by_case None e = ap answer e
        by_case (Some a) e =
            let p = (placed v a e).constant in
            absurd (n (result_defined after.regions (at_root after) p.it (New v) p.stands (subst (λ h. Has (New v) (names_of h.results)) (sym p.is.head) (inl refl))))

    pub extended_closed : IsClosed d after extended
    extended_closed = record {
      entries = entries_is extended t.regions best.closed.entries;
      outside = outside_extended;
      inside = λ p h runs. ⊎_elim
          (λ c. constant_extended c.0 c.1 c.2 p.site.label.name p c.3)
          (λ w. old_extended w.it p w.is (best.closed.inside w.it w.stands (ap k.runs (sym w.is.block) ∙ runs)))
          (operation_was d made t.regions (at_root t) (at_root after) tt p h);
    }

    -- facts of the tree with constants

    module _ (l : Facts (fresh N) A) (closed : IsClosed d after l) where
      -- a constant in a block that runs lies at or below its attribute
      pub constant_below : (v : N.value) (a : A) (c : S.of_operation) (b : N.block) → IsThere d made (occurrences_of after) v a c b → l.runs b ≡ true → AtOrBelow (l.of (New v)) (One a)
      constant_below v a c b p runs =
          let x = (closed.inside p.it p.stands (ap l.runs p.is.block ∙ runs)).folds in
          (subst (λ T. T) (folds_constant l.of v a c p.is.made_by) (subst (λ h. FoldClosed d l.of h (d.is_foldable h.content) (asked (map l.of h.operands))) p.is.head x)).0

      module _ (more : MorePrecise l extended) where
        -- the new facts at the old names, undetermined where the constant is
        abbrev pub guarded_of : N.value → Known A
        guarded_of v = guard (l.of (used made v)) (l.of (Old v))

        abbrev pub guarded_facts : Facts N A
        guarded_facts = record { runs = l.runs; of = guarded_of }

        used_or : (v : N.value) → (guarded_of v ≡ Undetermined) ⊎ (guarded_of v ≡ l.of (used made v))
        used_or v = by_case (made v) refl
          where
            by_case : (q : Option A) → made v ≡ q → (guard (l.of (used_as v q)) (l.of (Old v)) ≡ Undetermined) ⊎ (guard (l.of (used_as v q)) (l.of (Old v)) ≡ l.of (used_as v q))
            by_case None e = inr (guard_same (l.of (Old v)))
            by_case (Some a) e = guarded a (l.of (New v)) (l.of (Old v)) (subst (λ y. AtOrBelow y (l.of (New v))) (ap answer e) (more.above (New v))) (subst (λ y. AtOrBelow y (l.of (Old v))) (is_made.gets v a e).known (more.above (Old v)))

        -- what is defined in a block that runs is as before
        own_value : (v : N.value) (b : N.block) → l.runs b ≡ true → ((a : A) (c : S.of_operation) → made v ≡ Some a → d.constant a ≡ Some c → IsThere d made (occurrences_of after) v a c b) → guarded_of v ≡ l.of (Old v)
        own_value v b runs there = by_case (made v) refl
          where
            by_case : (q : Option A) → made v ≡ q → guard (l.of (used_as v q)) (l.of (Old v)) ≡ l.of (Old v)
            by_case None e = guard_same (l.of (Old v))
            by_case (Some a) e = let g = is_made.gets v a e in guard_below a (l.of (New v)) (l.of (Old v)) (constant_below v a g.maker b (there a g.maker e g.made_by) runs)

        own_result : (o : Occurrence N S) → Has o (occurrences_of t) → l.runs o.site.label.name ≡ true → (v : N.value) → Has v (names_of o.head.results) → guarded_of v ≡ l.of (Old v)
        own_result o h runs v r = own_value v o.site.label.name runs (λ a c e m. result_there d made v a c e m t.regions (at_root t) (at_root after) tt o h r)

        own_argument : (x : BlockOccurrence N S) → Has x (block_occurrences_of t) → l.runs x.label.name ≡ true → (v : N.value) → Has v (names_of x.label.arguments) → guarded_of v ≡ l.of (Old v)
        own_argument x h runs v r = own_value v x.label.name runs (λ a c e m. argument_there d made v a c e m t.regions (at_root t) (at_root after) x h r)

        -- what may be any before and afterwards may be any
        any_guarded : (v : N.value) → k.of v ≡ Any → l.of (Old v) ≡ Any → guarded_of v ≡ Any
        any_guarded v e f = by_case (made v) refl
          where
            by_case : (q : Option A) → made v ≡ q → guard (l.of (used_as v q)) (l.of (Old v)) ≡ Any
            by_case None m = guard_same (l.of (Old v)) ∙ f
            by_case (Some a) m = absurd (one_any a (k.of v) (is_made.gets v a m).known e)

        all_any : (vs : List N.value) → AllAny k.of vs → AllAny (old_facts l).of vs → AllAny guarded_of vs
        all_any [] h i = tt
        all_any (v ∷ vs) h i = (any_guarded v h.0 i.0, all_any vs h.1 i.1)

        entries_guarded : {s : Sort} (x : Tree N S s) → EntriesRun k x → EntriesRun (old_facts l) x → EntriesRun guarded_facts x
        entries_guarded end h i = tt
        entries_guarded (operation q rs rest) h i = tt
        entries_guarded (block b ops rest) h i = (i.0, all_any (names_of b.arguments) h.1 i.1)
        entries_guarded (region bs rest) h i = (entries_guarded bs h.0 i.0, entries_guarded rest h.1 i.1)

        abbrev AsksLess : Asked A → Asked A → Type 0
        AsksLess q r = (q ≡ None) ⊎ (q ≡ r)

        folds_guarded : (h : Head N S) (b : Bool) (q r : Asked A) → AsksLess q r → ((v : N.value) → Has v (names_of h.results) → guarded_of v ≡ l.of (Old v)) → FoldClosed d (old_facts l).of h b r → FoldClosed d guarded_of h b q
        folds_guarded h false q r e own c = any_same guarded_of (old_facts l).of (names_of h.results) own c
        folds_guarded h true q r e own c = ⊎_elim (λ z. subst (FoldClosed d guarded_of h true) (sym z) tt) (λ z. subst (FoldClosed d guarded_of h true) (sym z) (same r c)) e
          where
            same : (r : Asked A) → FoldClosed d (old_facts l).of h true r → FoldClosed d guarded_of h true r
            same None c = tt
            same (Some xs) c = below_same guarded_of (old_facts l).of (names_of h.results) (map answer (d.fold h.content (types_of h.results) xs)) own c

        edge_guarded : (h : Head N S) (i : ℕ) (b : N.block) → EdgeClosed d (block_occurrences_of after) l (old_head {N = N} made h) i b → EdgeClosed d (block_occurrences_of t) guarded_facts h i b
        edge_guarded h i b e = record {
          target = e.target;
          arguments = λ x has is.
              let w = block_is d made t.regions (at_root t) (at_root after) x has in
              let given = subst (λ y. AllBelow l.of (names_of y.arguments) (map l.of (forwarded d (old_head {N = N} made h) i))) w.2 (e.arguments w.0 w.1 (ap (λ y. y.name) w.2 ∙ is)) in
              below_or guarded_of guarded_of (λ v. l.of (used made v)) used_or (names_of x.label.arguments) (forwarded d h i)
              (below_same guarded_of (old_facts l).of (names_of x.label.arguments) (map (λ v. l.of (used made v)) (forwarded d h i)) (own_argument x has (ap l.runs is ∙ e.target)) (subst (λ T. T) (given_put l.of x.label.arguments h i) given));
        }

        branch_guarded : (h : Head N S) (c : Bool) (q r : Asked A) → AsksLess q r → BranchClosed d (block_occurrences_of after) l (old_head {N = N} made h) c r → BranchClosed d (block_occurrences_of t) guarded_facts h c q
        branch_guarded h false q r e c = tt
        branch_guarded h true q r e c = ⊎_elim (λ z. subst (BranchClosed d (block_occurrences_of t) guarded_facts h true) (sym z) tt) (λ z. subst (BranchClosed d (block_occurrences_of t) guarded_facts h true) (sym z) (same r c)) e
          where
            same : (r : Asked A) → BranchClosed d (block_occurrences_of after) l (old_head {N = N} made h) true r → BranchClosed d (block_occurrences_of t) guarded_facts h true r
            same None c = tt
            same (Some xs) c = λ i b leads feasible. edge_guarded h i b (c i b leads feasible)

        operation_guarded : (o : Occurrence N S) → Has o (occurrences_of t) → l.runs o.site.label.name ≡ true → OperationClosed d (block_occurrences_of t) guarded_facts o
        operation_guarded o h runs =
            let w = operation_is d made t.regions (at_root t) (at_root after) tt o h in
            let c = closed.inside w.it w.stands (ap l.runs w.is.block ∙ runs) in
            let less = asked_or guarded_of (λ v. l.of (used made v)) used_or o.head.operands in
            let asks = asked_put made l.of o.head.operands in
            record {
              folds = folds_guarded o.head (d.is_foldable o.head.content) (asked (map guarded_of o.head.operands)) (asked (map (λ v. l.of (used made v)) o.head.operands)) less (own_result o h runs)
                  (subst (FoldClosed d (old_facts l).of o.head (d.is_foldable o.head.content)) asks
                  (subst (λ T. T) (folds_put l.of o.head (d.is_foldable o.head.content) (asked (map l.of (map (used made) o.head.operands))))
                  (subst (λ y. FoldClosed d l.of y (d.is_foldable y.content) (asked (map l.of y.operands))) w.is.head c.folds)));
              goes = branch_guarded o.head (d.is_branch o.head.content) (asked (map guarded_of o.head.operands)) (asked (map (λ v. l.of (used made v)) o.head.operands)) less
                  (subst (BranchClosed d (block_occurrences_of after) l (old_head {N = N} made o.head) (d.is_branch o.head.content)) asks
                  (subst (λ y. BranchClosed d (block_occurrences_of after) l y (d.is_branch y.content) (asked (map l.of y.operands))) w.is.head c.goes));
              entries = entries_guarded o.regions (best.closed.inside o h (more.fewer o.site.label.name runs)).entries (entries_was l o.regions (subst (EntriesRun l) w.is.regions c.entries));
            }

        guarded_closed : IsClosed d t guarded_facts
        guarded_closed = record {
          entries = entries_guarded t.regions best.closed.entries (entries_was l t.regions closed.entries);
          outside = λ v n. any_guarded v (best.closed.outside v n) (closed.outside (Old v) (λ h. n (value_was d made t.regions v h)));
          inside = operation_guarded;
        }

        runs_kept : (b : N.block) → l.runs b ≡ k.runs b
        runs_kept b = true_both (l.runs b) (k.runs b) (more.fewer b) ((best.best guarded_facts guarded_closed).fewer b)

        of_kept : (v : N.value) → l.of (Old v) ≡ k.of v
        of_kept v = guard_between (l.of (used made v)) (l.of (Old v)) (k.of v) ((best.best guarded_facts guarded_closed).above v) (more.above (Old v))

        made_kept : (v : N.value) (a : A) → made v ≡ Some a → l.of (New v) ≡ One a
        made_kept v a e =
            let p = placed v a e in
            at_both (l.of (New v)) (One a) (constant_below v a p.maker p.in_block p.constant (runs_kept p.in_block ∙ p.runs)) (subst (λ y. AtOrBelow y (l.of (New v))) (ap answer e) (more.above (New v)))

        pub kept : KeepsFacts d w t k l
        kept = record { runs = runs_kept; of = of_kept; made = λ v a g. made_kept v a (is_made.all v a g) }

-- the most precise facts of what sccp makes
pub facts_kept : {N : Names} {S : Contents} {A : Type 0} (d : Dialect S A) (w : TreeSurroundings N A) (t : Root N S) (after : Root (fresh N) S) (k : Facts N A) (l : Facts (fresh N) A) → Lawful d → IsSccp d w t after → IsMostPrecise d t k → IsMostPrecise d after l → KeepsFacts d w t k l
facts_kept {N} d w t after k l law p b c =
    let is_made = subst (λ f. AreMadeConstants d w t f p.made) (best_unique d t p.facts k p.best b) p.is_made in
    let c' = subst (λ u. IsMostPrecise d u l) p.is c in
    kept d p.made law w t k b is_made l c'.closed (c'.best (extended d p.made law w t k b is_made) (extended_closed d p.made law w t k b is_made))
