-- With constants put in there are most precise facts, the old ones extended, where attributes can be told apart.
use Rattle.std.proofs.Common.{◌≡◌, ◌≢◌, ◌⊎◌, ⊎_elim, inl, inr, ℕ, Bool, true, false, List, [], ◌∷◌, Option, Some, None, refl, sym, ap, ◌∙◌, subst}
use Rattle.std.specs.Prelude.{map, ◌&&◌}
use Rattle.ir_trees.specs.Names.{Names, Contents}
use Rattle.ir_trees.specs.Renames.{rename_defined, names_of}
use Rattle.ir_trees.specs.Trees.{Defined, Head, Sort, Tree, end, operation, block, region, Root}
use Rattle.opt_rows.specs.declared.known.Known.{Known}
use Rattle.opt_rows.specs.declared.known.Known.TheVariants.{Undetermined, One, Any}
use Rattle.opt_rows.specs.Known.{AtOrBelow, and_known, asked, answer, AllBelow, AllAny, MorePrecise, KnowsMore}
use Rattle.opt_trees.specs.Occurrences.{Has, types_of, Occurrence, BlockOccurrence, occurrences_of, block_occurrences_of, defined_in, at_root}
use Rattle.opt_trees.specs.Dce.{TreeSurroundings}
use Rattle.opt_trees.specs.Dialect.{Dialect, Lawful}
use Rattle.opt_trees.specs.Facts.{Facts, Asked, FoldClosed, forwarded, EdgeClosed, BranchClosed, EntriesRun, OperationClosed, IsClosed, IsMostPrecise}
use Rattle.opt_trees.specs.Sccp.{Name, Old, New, fresh, AreMadeConstants, used_as, old_head, put_root, IsSccp, facts_after, CanTell}
use Rattle.opt_trees.proofs.Lists.{none_some}
use Rattle.opt_trees.proofs.Defined.{ByResult, ByArgument, definer}
use Rattle.opt_trees.proofs.Put.{Constant, operation_was, operation_is, result_there, argument_there, block_was, block_is, value_was}
use Rattle.opt_trees.proofs.FactsKept.{below_top, one_any, used, old_facts, entries_was, folds_put, given_put, asked_put, placed, extended_closed, constant_below}

-- the least that lies at or above both

abbrev one_or : {A : Type 0} {a b : A} → (a ≡ b) ⊎ (a ≢ b) → A → Known A
one_or (inl e) a = One a
one_or (inr n) a = Undetermined

abbrev high : {A : Type 0} → CanTell A → Known A → Known A → Known A
high tell Undetermined y = Undetermined
high tell (One a) Undetermined = Undetermined
high tell (One a) (One b) = one_or (tell a b) a
high tell (One a) Any = One a
high tell Any y = y

itself : {A : Type 0} (x : Known A) → AtOrBelow x x
itself Undetermined = tt
itself (One a) = refl
itself Any = tt

module _ {A : Type 0} (tell : CanTell A) where
  left_high : (x y : Known A) → AtOrBelow x (high tell x y)
  left_high Undetermined y = tt
  left_high (One a) Undetermined = tt
  left_high (One a) (One b) = by_case (tell a b)
    where
      by_case : (q : (a ≡ b) ⊎ (a ≢ b)) → AtOrBelow (One a) (one_or q a)
      by_case (inl e) = refl
      by_case (inr n) = tt
  left_high (One a) Any = refl
  left_high Any y = tt

  right_high : (x y : Known A) → AtOrBelow y (high tell x y)
  right_high Undetermined y = below_top y
  right_high (One a) Undetermined = tt
  right_high (One a) (One b) = by_case (tell a b)
    where
      by_case : (q : (a ≡ b) ⊎ (a ≢ b)) → AtOrBelow (One b) (one_or q a)
      by_case (inl e) = sym e
      by_case (inr n) = tt
  right_high (One a) Any = tt
  right_high Any y = itself y

  least_high : (x y z : Known A) → AtOrBelow x z → AtOrBelow y z → AtOrBelow (high tell x y) z
  least_high Undetermined y z p q = p
  least_high (One a) Undetermined z p q = q
  least_high (One a) (One b) z p q = by_case (tell a b) z p q
    where
      by_case : (q : (a ≡ b) ⊎ (a ≢ b)) (z : Known A) → AtOrBelow (One a) z → AtOrBelow (One b) z → AtOrBelow (one_or q a) z
      by_case (inl e) z p q = p
      by_case (inr n) Undetermined p q = tt
      by_case (inr n) (One c) p q = n (p ∙ sym q)
      by_case (inr n) Any p q = p
  least_high (One a) Any z p q = p
  least_high Any y z p q = q

at_trans : {A : Type 0} (x y z : Known A) → AtOrBelow x y → AtOrBelow y z → AtOrBelow x z
at_trans Undetermined Undetermined z p q = q
at_trans Undetermined (One b) z p q = absurd p
at_trans Undetermined Any z p q = absurd p
at_trans (One a) Undetermined Undetermined p q = tt
at_trans (One a) Undetermined (One c) p q = absurd q
at_trans (One a) Undetermined Any p q = absurd q
at_trans (One a) (One b) Undetermined p q = tt
at_trans (One a) (One b) (One c) p q = p ∙ q
at_trans (One a) (One b) Any p q = absurd q
at_trans (One a) Any z p q = absurd p
at_trans Any y z p q = tt

-- what is asked where more is known: nothing, or more
abbrev More : {A : Type 0} → Asked A → Asked A → Type 0
More p None = Unit {0}
More None (Some ys) = ⊥
More (Some xs) (Some ys) = KnowsMore xs ys

and_more : {A : Type 0} (x y : Known A) (p q : Asked A) → AtOrBelow x y → More p q → More (and_known x p) (and_known y q)
and_more x Undetermined p q h m = tt
and_more x (One b) p None h m = tt
and_more x Any p None h m = tt
and_more x (One b) None (Some ys) h m = absurd m
and_more x Any None (Some ys) h m = absurd m
and_more Undetermined (One b) (Some xs) (Some ys) h m = absurd h
and_more (One a) (One b) (Some xs) (Some ys) h m = (λ c e. ap Some (sym h) ∙ e, m)
and_more Any (One b) (Some xs) (Some ys) h m = (λ c e. absurd (none_some c e), m)
and_more Undetermined Any (Some xs) (Some ys) h m = absurd h
and_more (One a) Any (Some xs) (Some ys) h m = absurd h
and_more Any Any (Some xs) (Some ys) h m = (λ c e. e, m)

asked_more : {V A : Type 0} (f g : V → Known A) → ((v : V) → AtOrBelow (f v) (g v)) → (vs : List V) → More (asked (map f vs)) (asked (map g vs))
asked_more f g h [] = tt
asked_more f g h (v ∷ vs) = and_more (f v) (g v) (asked (map f vs)) (asked (map g vs)) (h v) (asked_more f g h vs)

answer_more : {A : Type 0} (x y : Option A) → ((a : A) → x ≡ Some a → y ≡ Some a) → AtOrBelow (answer x) (answer y)
answer_more None y h = tt
answer_more (Some a) y h = subst (λ z. AtOrBelow (One a) (answer z)) (sym (h a refl)) refl

below_more : {V A : Type 0} (f : V → Known A) (vs : List V) (xs ys : List (Option A)) → KnowsMore xs ys → AllBelow f vs (map answer xs) → AllBelow f vs (map answer ys)
below_more f [] xs ys k h = tt
below_more f (v ∷ vs) [] [] k h = tt
below_more f (v ∷ vs) [] (y ∷ ys) k h = absurd k
below_more f (v ∷ vs) (x ∷ xs) [] k h = absurd k
below_more f (v ∷ vs) (x ∷ xs) (y ∷ ys) k h = (at_trans (f v) (answer x) (answer y) h.0 (answer_more x y k.0), below_more f vs xs ys k.1 h.1)

both_true : (a b : Bool) → a ≡ true → b ≡ true → (a && b) ≡ true
both_true true b e f = f
both_true false b e f = e

first_true : (a b : Bool) → (a && b) ≡ true → a ≡ true
first_true true b e = refl
first_true false b e = e

second_true : (a b : Bool) → (a && b) ≡ true → b ≡ true
second_true true b e = e
second_true false b e = absurd (cc e)

pub no_new : {V T : Type 0} (v : V) (vs : List (Defined V T)) → Has {X = Name V V} (New v) (names_of (map (rename_defined Old) vs)) → ⊥
no_new v [] h = h
no_new {V} v (u ∷ vs) h = ⊎_elim (λ e. apart v u.name e) (λ z. no_new v vs z) h
  where
    apart : (x y : V) → ◌≡◌ {A = Name V V} (New x) (Old y) → ⊥
    apart x y e = cc e

module _ {N : Names} {S : Contents} {A : Type 0} (d : Dialect S A) (made : N.value → Option A) (law : Lawful d) (tell : CanTell A) (w : TreeSurroundings N A) (t : Root N S) (k : Facts N A) (best : IsMostPrecise d t k) (is_made : AreMadeConstants d w t k made) where
  abbrev after : Root (fresh N) S
  after = put_root {N = N} d made t

  -- a new value that is defined got a constant
  new_made : (v : N.value) → Has (New v) (defined_in after.regions) → (a : A) × (made v ≡ Some a)
  new_made v h = ⊎_elim of_result of_argument (definer after.regions (at_root after) (New v) h)
    where
      same : (x y : N.value) → ◌≡◌ {A = Name N.value N.value} (New x) (New y) → x ≡ y
      same x y e = cc e

      of_constant : (p : Occurrence (fresh N) S) → Has (New v) (names_of p.head.results) → Constant d made p → (a : A) × (made v ≡ Some a)
      of_constant p m c = (c.1, ⊎_elim (λ e. ap made (same v c.0 e) ∙ c.3.gets) (λ z. absurd z) (subst (λ h. Has (New v) (names_of h.results)) c.3.head m))

      of_result : ByResult (occurrences_of after) (New v) → (a : A) × (made v ≡ Some a)
      of_result r = ⊎_elim
          (λ c. of_constant r.it r.value c)
          (λ w. absurd (no_new v w.it.head.results (subst (λ h. Has (New v) (names_of h.results)) w.is.head r.value)))
          (operation_was d made t.regions (at_root t) (at_root after) tt r.it r.stands)

      of_argument : ByArgument (block_occurrences_of after) (New v) → (a : A) × (made v ≡ Some a)
      of_argument r =
          let w = block_was d made t.regions (at_root t) (at_root after) r.it r.stands in
          absurd (no_new v w.0.label.arguments (subst (λ l. Has (New v) (names_of l.arguments)) w.2 r.value))

  module _ (m : Facts (fresh N) A) (closed : IsClosed d after m) where
    abbrev new_of : N.value → Known A
    new_of v = m.of (used made v)

    -- the least facts that lie at or above the old ones and these
    abbrev both_of : N.value → Known A
    both_of v = high tell (high tell (k.of v) (m.of (Old v))) (new_of v)

    abbrev both : Facts N A
    both = record { runs = λ b. k.runs b && m.runs b; of = both_of }

    above_old : (v : N.value) → AtOrBelow (k.of v) (both_of v)
    above_old v = at_trans (k.of v) (high tell (k.of v) (m.of (Old v))) (both_of v) (left_high tell (k.of v) (m.of (Old v))) (left_high tell (high tell (k.of v) (m.of (Old v))) (new_of v))

    above_same : (v : N.value) → AtOrBelow (m.of (Old v)) (both_of v)
    above_same v = at_trans (m.of (Old v)) (high tell (k.of v) (m.of (Old v))) (both_of v) (right_high tell (k.of v) (m.of (Old v))) (left_high tell (high tell (k.of v) (m.of (Old v))) (new_of v))

    above_new : (v : N.value) → AtOrBelow (new_of v) (both_of v)
    above_new v = right_high tell (high tell (k.of v) (m.of (Old v))) (new_of v)

    any_both : (v : N.value) → k.of v ≡ Any → m.of (Old v) ≡ Any → both_of v ≡ Any
    any_both v e f = by_case (made v) refl
      where
        by_case : (q : Option A) → made v ≡ q → high tell (high tell (k.of v) (m.of (Old v))) (m.of (used_as v q)) ≡ Any
        by_case None g = λ i. high tell (high tell (e i) (f i)) (f i)
        by_case (Some a) g = absurd (one_any a (k.of v) (is_made.gets v a g).known e)

    all_any : (vs : List N.value) → AllAny k.of vs → AllAny (old_facts m).of vs → AllAny both_of vs
    all_any [] h i = tt
    all_any (v ∷ vs) h i = (any_both v h.0 i.0, all_any vs h.1 i.1)

    entries_both : {s : Sort} (x : Tree N S s) → EntriesRun k x → EntriesRun (old_facts m) x → EntriesRun both x
    entries_both end h i = tt
    entries_both (operation q rs rest) h i = tt
    entries_both (block b ops rest) h i = (both_true (k.runs b.name) (m.runs b.name) h.0 i.0, all_any (names_of b.arguments) h.1 i.1)
    entries_both (region bs rest) h i = (entries_both bs h.0 i.0, entries_both rest h.1 i.1)

    -- where its constant runs
    abbrev IsOwn : N.value → Type 0
    IsOwn v = (a : A) → made v ≡ Some a → AtOrBelow (m.of (New v)) (One a)

    both_below : (v : N.value) (y : Known A) → IsOwn v → AtOrBelow (k.of v) y → AtOrBelow (m.of (Old v)) y → AtOrBelow (both_of v) y
    both_below v y own p q = least_high tell (high tell (k.of v) (m.of (Old v))) (new_of v) y (least_high tell (k.of v) (m.of (Old v)) y p q) (by_case (made v) refl)
      where
        by_case : (q : Option A) → made v ≡ q → AtOrBelow (m.of (used_as v q)) y
        by_case None e = q
        by_case (Some a) e = at_trans (m.of (New v)) (One a) y (own a e) (subst (λ z. AtOrBelow z y) (is_made.gets v a e).known p)

    all_below : (vs : List N.value) (ys : List (Known A)) → ((v : N.value) → Has v vs → IsOwn v) → AllBelow k.of vs ys → AllBelow (old_facts m).of vs ys → AllBelow both_of vs ys
    all_below [] ys own p q = tt
    all_below (v ∷ vs) [] own p q = tt
    all_below (v ∷ vs) (y ∷ ys) own p q = (both_below v y (own v (inl refl)) p.0 q.0, all_below vs ys (λ u h. own u (inr h)) p.1 q.1)

    given_below : (vs us : List N.value) → ((v : N.value) → Has v vs → IsOwn v) → AllBelow k.of vs (map k.of us) → AllBelow (old_facts m).of vs (map new_of us) → AllBelow both_of vs (map both_of us)
    given_below [] us own p q = tt
    given_below (v ∷ vs) [] own p q = tt
    given_below (v ∷ vs) (u ∷ us) own p q = (
      both_below v (both_of u) (own v (inl refl)) (at_trans (k.of v) (k.of u) (both_of u) p.0 (above_old u)) (at_trans (m.of (Old v)) (new_of u) (both_of u) q.0 (above_new u)),
      given_below vs us (λ w h. own w (inr h)) p.1 q.1,
    )

    folds_both : (h : Head N S) (b : Bool) (p r q : Asked A) → More p q → More r q → ((v : N.value) → Has v (names_of h.results) → IsOwn v) → FoldClosed d k.of h b p → FoldClosed d (old_facts m).of h b r → FoldClosed d both_of h b q
    folds_both h false p r q x y own c e = all_any (names_of h.results) c e
    folds_both h true p r None x y own c e = tt
    folds_both h true None r (Some zs) x y own c e = absurd x
    folds_both h true (Some xs) None (Some zs) x y own c e = absurd y
    folds_both h true (Some xs) (Some ys) (Some zs) x y own c e = all_below (names_of h.results) (map answer (d.fold h.content (types_of h.results) zs)) own
        (below_more k.of (names_of h.results) (d.fold h.content (types_of h.results) xs) (d.fold h.content (types_of h.results) zs) (law.folds_more h.content (types_of h.results) xs zs x) c)
        (below_more (old_facts m).of (names_of h.results) (d.fold h.content (types_of h.results) ys) (d.fold h.content (types_of h.results) zs) (law.folds_more h.content (types_of h.results) ys zs y) e)

    own_result : (o : Occurrence N S) → Has o (occurrences_of t) → m.runs o.site.label.name ≡ true → (v : N.value) → Has v (names_of o.head.results) → IsOwn v
    own_result o h runs v r a e = let g = is_made.gets v a e in constant_below d made law w t k best is_made m closed v a g.maker o.site.label.name (result_there d made v a g.maker e g.made_by t.regions (at_root t) (at_root after) tt o h r) runs

    own_argument : (x : BlockOccurrence N S) → Has x (block_occurrences_of t) → m.runs x.label.name ≡ true → (v : N.value) → Has v (names_of x.label.arguments) → IsOwn v
    own_argument x h runs v r a e = let g = is_made.gets v a e in constant_below d made law w t k best is_made m closed v a g.maker x.label.name (argument_there d made v a g.maker e g.made_by t.regions (at_root t) (at_root after) x h r) runs

    edge_both : (h : Head N S) (i : ℕ) (b : N.block) → EdgeClosed d (block_occurrences_of t) k h i b → EdgeClosed d (block_occurrences_of after) m (old_head {N = N} made h) i b → EdgeClosed d (block_occurrences_of t) both h i b
    edge_both h i b e f = record {
      target = both_true (k.runs b) (m.runs b) e.target f.target;
      arguments = λ x has is.
          let w = block_is d made t.regions (at_root t) (at_root after) x has in
          let given = subst (λ y. AllBelow m.of (names_of y.arguments) (map m.of (forwarded d (old_head {N = N} made h) i))) w.2 (f.arguments w.0 w.1 (ap (λ y. y.name) w.2 ∙ is)) in
          given_below (names_of x.label.arguments) (forwarded d h i) (own_argument x has (ap m.runs is ∙ f.target)) (e.arguments x has is) (subst (λ T. T) (given_put d made m.of x.label.arguments h i) given);
    }

    branch_both : (h : Head N S) (c : Bool) (p r q : Asked A) → More p q → More r q → BranchClosed d (block_occurrences_of t) k h c p → BranchClosed d (block_occurrences_of after) m (old_head {N = N} made h) c r → BranchClosed d (block_occurrences_of t) both h c q
    branch_both h false p r q x y e f = tt
    branch_both h true p r None x y e f = tt
    branch_both h true None r (Some zs) x y e f = absurd x
    branch_both h true (Some xs) None (Some zs) x y e f = absurd y
    branch_both h true (Some xs) (Some ys) (Some zs) x y e f = λ i b leads feasible. edge_both h i b
        (e i b leads (feasible.0, feasible.1, law.feasible_less h.content xs zs feasible.0 x feasible.2))
        (f i b leads (feasible.0, feasible.1, law.feasible_less h.content ys zs feasible.0 y feasible.2))

    operation_both : (o : Occurrence N S) → Has o (occurrences_of t) → k.runs o.site.label.name ≡ true → m.runs o.site.label.name ≡ true → OperationClosed d (block_occurrences_of t) both o
    operation_both o h runs runs' =
        let w = operation_is d made t.regions (at_root t) (at_root after) tt o h in
        let e = best.closed.inside o h runs in
        let f = closed.inside w.it w.stands (ap m.runs w.is.block ∙ runs') in
        let asks = asked_put made m.of o.head.operands in
        let old = asked_more k.of both_of above_old o.head.operands in
        let new = asked_more new_of both_of above_new o.head.operands in
        record {
          folds = folds_both o.head (d.is_foldable o.head.content) (asked (map k.of o.head.operands)) (asked (map new_of o.head.operands)) (asked (map both_of o.head.operands)) old new (own_result o h runs') e.folds
              (subst (FoldClosed d (old_facts m).of o.head (d.is_foldable o.head.content)) asks
              (subst (λ T. T) (folds_put d made m.of o.head (d.is_foldable o.head.content) (asked (map m.of (map (used made) o.head.operands))))
              (subst (λ y. FoldClosed d m.of y (d.is_foldable y.content) (asked (map m.of y.operands))) w.is.head f.folds)));
          goes = branch_both o.head (d.is_branch o.head.content) (asked (map k.of o.head.operands)) (asked (map new_of o.head.operands)) (asked (map both_of o.head.operands)) old new e.goes
              (subst (BranchClosed d (block_occurrences_of after) m (old_head {N = N} made o.head) (d.is_branch o.head.content)) asks
              (subst (λ y. BranchClosed d (block_occurrences_of after) m y (d.is_branch y.content) (asked (map m.of y.operands))) w.is.head f.goes));
          entries = entries_both o.regions e.entries (entries_was d made m o.regions (subst (EntriesRun m) w.is.regions f.entries));
        }

    both_closed : IsClosed d t both
    both_closed = record {
      entries = entries_both t.regions best.closed.entries (entries_was d made m t.regions closed.entries);
      outside = λ v n. any_both v (best.closed.outside v n) (closed.outside (Old v) (λ h. n (value_was d made t.regions v h)));
      inside = λ o h runs. operation_both o h (first_true (k.runs o.site.label.name) (m.runs o.site.label.name) runs) (second_true (k.runs o.site.label.name) (m.runs o.site.label.name) runs);
    }

    runs_more : (b : N.block) → k.runs b ≡ true → m.runs b ≡ true
    runs_more b h = second_true (k.runs b) (m.runs b) ((best.best both both_closed).fewer b h)

    above_both : (v : Name N.value N.value) → AtOrBelow (m.of v) ((facts_after k made).of v)
    above_both (Old v) = at_trans (m.of (Old v)) (both_of v) (k.of v) (above_same v) ((best.best both both_closed).above v)
    above_both (New v) = by_case (made v) refl
      where
        by_case : (q : Option A) → made v ≡ q → AtOrBelow (m.of (New v)) (answer (made v))
        by_case None e = subst (λ z. AtOrBelow z (answer (made v))) (sym (closed.outside (New v) (λ h. let p = new_made v h in none_some p.0 (sym e ∙ p.1)))) tt
        by_case (Some a) e =
            let p = placed d made law w t k best is_made v a e in
            subst (λ z. AtOrBelow (m.of (New v)) (answer z)) (sym e) (constant_below d made law w t k best is_made m closed v a p.maker p.in_block p.constant (runs_more p.in_block p.runs))

    pub more_precise : MorePrecise (facts_after k made) m
    more_precise = record { fewer = runs_more; above = above_both }

  pub extended_best : IsMostPrecise d after (facts_after k made)
  extended_best = record { closed = extended_closed d made law w t k best is_made; best = more_precise }

-- what sccp makes has most precise facts
pub facts_after_best : {N : Names} {S : Contents} {A : Type 0} (d : Dialect S A) (w : TreeSurroundings N A) (t : Root N S) (after : Root (fresh N) S) → Lawful d → CanTell A → (p : IsSccp d w t after) → IsMostPrecise d after (facts_after p.facts p.made)
facts_after_best d w t after law tell p = subst (λ u. IsMostPrecise d u (facts_after p.facts p.made)) (sym p.is) (extended_best d p.made law tell w t p.facts p.best p.is_made)
