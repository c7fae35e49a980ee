-- With constants put in, an operand that is known to be a constant names the result of one.
use Rattle.std.proofs.Common.{◌≡◌, ◌⊎◌, ⊎_elim, inl, inr, ℕ, Bool, true, false, List, [], ◌∷◌, Option, Some, None, refl, sym, ap, ◌∙◌, subst}
use Rattle.std.specs.Prelude.{map, slice_get}
use Rattle.ir_trees.specs.Names.{Names, Contents}
use Rattle.ir_trees.specs.Renames.{rename_root, names_of}
use Rattle.ir_trees.specs.Trees.{Head, Sort, Tree, end, operation, block, region, Root}
use Rattle.opt_rows.specs.declared.known.Known.{Known}
use Rattle.opt_rows.specs.declared.known.Known.TheVariants.{Undetermined, One, Any}
use Rattle.opt_rows.specs.Known.{AtOrBelow, asked, answer, AllAny}
use Rattle.opt_trees.specs.Occurrences.{Has, types_of, Occurrence, BlockOccurrence, occurrences_of, block_occurrences_of, at_root, rename_occurrence, Renaming, maps, Use}
use Rattle.opt_trees.specs.Dce.{TreeSurroundings}
use Rattle.opt_trees.specs.Dialect.{Dialect, Lawful}
use Rattle.opt_trees.specs.Facts.{Facts, Asked, FoldClosed, forwarded, EdgeClosed, BranchClosed, EntriesRun, IsClosed, IsMostPrecise}
use Rattle.opt_trees.specs.Sccp.{Name, Old, New, fresh, IsResult, IsArgument, IsUsed, AreMadeConstants, used_as, put_root, IsSccp, CanTell, IsOfConstant, NamesConstants}
use Rattle.opt_trees.proofs.Lists.{at-map, from_some, none_some, has-map, names-map}
use Rattle.opt_trees.proofs.Best.{best_unique}
use Rattle.opt_trees.proofs.FactsRenamed.{pushed, pulled_pushed, best_pushed}
use Rattle.opt_trees.proofs.DceRenamed.{operation_to, operation_from, name_to}
use Rattle.opt_trees.proofs.Put.{Constant, WasOld, operation_was, operation_is}
use Rattle.opt_trees.proofs.FactsKept.{used, one_any, asked_or, below_same, below_or, placed, facts_kept}

-- one of the list is found, or none is one
find : {X : Type 0} (P : X → Type 0) → ((x : X) → P x ⊎ (P x → ⊥)) → (xs : List X) → ((x : X) × Has x xs × P x) ⊎ ((x : X) → Has x xs → P x → ⊥)
find P dec [] = inr (λ x h p. h)
find P dec (y ∷ ys) = ⊎_elim
    (λ p. inl (y, inl refl, p))
    (λ n. ⊎_elim
    (λ f. inl (f.0, inr f.1, f.2))
    (λ g. inr (λ x h p. ⊎_elim (λ e. n (subst P e p)) (λ k. g x k p) h)) (find P dec ys)) (dec y)

tell_has : {X : Type 0} → CanTell X → (x : X) (xs : List X) → Has x xs ⊎ (Has x xs → ⊥)
tell_has tell x [] = inr (λ h. h)
tell_has tell x (y ∷ ys) = ⊎_elim
    (λ e. inl (inl e))
    (λ n. ⊎_elim (λ h. inl (inr h)) (λ m. inr (λ h. ⊎_elim (λ e. n e) (λ k. m k) h)) (tell_has tell x ys)) (tell x y)

clash : false ≡ true → ⊥
clash e = cc e

tell_both : {P : Type 0} (b : Bool) → P ⊎ (P → ⊥) → ((b ≡ true) × P) ⊎ ((b ≡ true) × P → ⊥)
tell_both false p = inr (λ q. clash q.0)
tell_both true p = ⊎_elim (λ y. inl (refl, y)) (λ n. inr (λ q. n q.1)) p

-- nothing is found out of the value that is left out
abbrev pub left_out : {A E : Type 0} → E ⊎ (E → ⊥) → Known A → Known A
left_out (inl e) x = Undetermined
left_out (inr n) x = x

left_or : {A E : Type 0} (q : E ⊎ (E → ⊥)) (x : Known A) → (left_out q x ≡ Undetermined) ⊎ (left_out q x ≡ x)
left_or (inl e) x = inl refl
left_or (inr n) x = inr refl

left_same : {A E : Type 0} (q : E ⊎ (E → ⊥)) (x : Known A) → (E → ⊥) → left_out q x ≡ x
left_same (inl e) x n = absurd (n e)
left_same (inr m) x n = refl

left_top : {A E : Type 0} (q : E ⊎ (E → ⊥)) (x : Known A) (a : A) → E → AtOrBelow (left_out q x) (One a) → ⊥
left_top (inl e) x a y h = h
left_top (inr n) x a y h = n y

module _ {N : Names} {S : Contents} {A : Type 0} (d : Dialect S A) (t : Root N S) (k : Facts N A) (best : IsMostPrecise d t k) (tell : CanTell N.value) (v : N.value) (a : A) (known : k.of v ≡ One a) where
  abbrev pub RunsWith : Occurrence N S → Type 0
  RunsWith o = (k.runs o.site.label.name ≡ true) × Has v (names_of o.head.results)

  abbrev pub BlockRunsWith : BlockOccurrence N S → Type 0
  BlockRunsWith x = (k.runs x.label.name ≡ true) × Has v (names_of x.label.arguments)

  -- where nothing that runs defines the value, the facts without it are closed
  module _ (none : (o : Occurrence N S) → Has o (occurrences_of t) → RunsWith o → ⊥) (no_block : (x : BlockOccurrence N S) → Has x (block_occurrences_of t) → BlockRunsWith x → ⊥) where
    abbrev less_of : N.value → Known A
    less_of u = left_out (tell u v) (k.of u)

    abbrev less : Facts N A
    less = record { runs = k.runs; of = less_of }

    less_or : (u : N.value) → (less_of u ≡ Undetermined) ⊎ (less_of u ≡ k.of u)
    less_or u = left_or (tell u v) (k.of u)

    any_less : (u : N.value) → k.of u ≡ Any → less_of u ≡ Any
    any_less u e = left_same (tell u v) (k.of u) (λ z. one_any a (k.of u) (ap k.of z ∙ known) e) ∙ e

    all_any : (us : List N.value) → AllAny k.of us → AllAny less_of us
    all_any [] h = tt
    all_any (u ∷ us) h = (any_less u h.0, all_any us h.1)

    entries_less : {s : Sort} (x : Tree N S s) → EntriesRun k x → EntriesRun less x
    entries_less end h = tt
    entries_less (operation q rs rest) h = tt
    entries_less (block b ops rest) h = (h.0, all_any (names_of b.arguments) h.1)
    entries_less (region bs rest) h = (entries_less bs h.0, entries_less rest h.1)

    own : (us : List N.value) → (Has v us → ⊥) → (u : N.value) → Has u us → less_of u ≡ k.of u
    own us n u h = left_same (tell u v) (k.of u) (λ e. n (subst (λ z. Has z us) e h))

    abbrev AsksLess : Asked A → Asked A → Type 0
    AsksLess q r = (q ≡ None) ⊎ (q ≡ r)

    folds_less : (h : Head N S) (b : Bool) (q r : Asked A) → AsksLess q r → (Has v (names_of h.results) → ⊥) → FoldClosed d k.of h b r → FoldClosed d less_of h b q
    folds_less h false q r e n c = all_any (names_of h.results) c
    folds_less h true q r e n c = ⊎_elim (λ z. subst (FoldClosed d less_of h true) (sym z) tt) (λ z. subst (FoldClosed d less_of h true) (sym z) (same r c)) e
      where
        same : (r : Asked A) → FoldClosed d k.of h true r → FoldClosed d less_of h true r
        same None c = tt
        same (Some xs) c = below_same less_of k.of (names_of h.results) (map answer (d.fold h.content (types_of h.results) xs)) (own (names_of h.results) n) c

    edge_less : (h : Head N S) (i : ℕ) (b : N.block) → EdgeClosed d (block_occurrences_of t) k h i b → EdgeClosed d (block_occurrences_of t) less h i b
    edge_less h i b e = record {
      target = e.target;
      arguments = λ x has is. below_or less_of less_of k.of less_or (names_of x.label.arguments) (forwarded d h i)
          (below_same less_of k.of (names_of x.label.arguments) (map k.of (forwarded d h i)) (own (names_of x.label.arguments) (λ m. no_block x has (ap k.runs is ∙ e.target, m))) (e.arguments x has is));
    }

    branch_less : (h : Head N S) (c : Bool) (q r : Asked A) → AsksLess q r → BranchClosed d (block_occurrences_of t) k h c r → BranchClosed d (block_occurrences_of t) less h c q
    branch_less h false q r e c = tt
    branch_less h true q r e c = ⊎_elim (λ z. subst (BranchClosed d (block_occurrences_of t) less h true) (sym z) tt) (λ z. subst (BranchClosed d (block_occurrences_of t) less h true) (sym z) (same r c)) e
      where
        same : (r : Asked A) → BranchClosed d (block_occurrences_of t) k h true r → BranchClosed d (block_occurrences_of t) less h true r
        same None c = tt
        same (Some xs) c = λ i b leads feasible. edge_less h i b (c i b leads feasible)

    less_closed : IsClosed d t less
    less_closed = record {
      entries = entries_less t.regions best.closed.entries;
      outside = λ u n. any_less u (best.closed.outside u n);
      inside = λ o h runs.
          let c = best.closed.inside o h runs in
          let asks = asked_or less_of k.of less_or o.head.operands in
          record {
            folds = folds_less o.head (d.is_foldable o.head.content) (asked (map less_of o.head.operands)) (asked (map k.of o.head.operands)) asks (λ m. none o h (runs, m)) c.folds;
            goes = branch_less o.head (d.is_branch o.head.content) (asked (map less_of o.head.operands)) (asked (map k.of o.head.operands)) asks c.goes;
            entries = entries_less o.regions c.entries;
          };
    }

    never : ⊥
    never = left_top (tell v v) (k.of v) a refl (subst (AtOrBelow (less_of v)) known ((best.best less less_closed).above v))

  -- something that runs defines a value that is known to be a constant
  pub definer_runs : ((o : Occurrence N S) × Has o (occurrences_of t) × RunsWith o) ⊎ ((x : BlockOccurrence N S) × Has x (block_occurrences_of t) × BlockRunsWith x)
  definer_runs = ⊎_elim
      (λ p. inl p)
      (λ n. ⊎_elim
      (λ p. inr p)
      (λ m. absurd (never n m))
      (find BlockRunsWith (λ x. tell_both (k.runs x.label.name) (tell_has tell v (names_of x.label.arguments))) (block_occurrences_of t)))
      (find RunsWith (λ o. tell_both (k.runs o.site.label.name) (tell_has tell v (names_of o.head.results))) (occurrences_of t))

module _ {N : Names} {S : Contents} {A : Type 0} (d : Dialect S A) (law : Lawful d) (w : TreeSurroundings N A) (t : Root N S) (k : Facts N A) (best : IsMostPrecise d t k) (made : N.value → Option A) (is_made : AreMadeConstants d w t k made) (tell : CanTell N.value) where
  abbrev after : Root (fresh N) S
  after = put_root {N = N} d made t

  -- a used value that got no constant, though it is known to be one that can be made, is the result of a constant
  unmade : (v : N.value) (a : A) (c : S.of_operation) → IsUsed w t v → made v ≡ None → k.of v ≡ One a → d.constant a ≡ Some c → IsOfConstant d after (Old v)
  unmade v a c used none known by = ⊎_elim
      (λ p. folds p.0 p.1 p.2.0 p.2.1 (d.is_foldable p.0.head.content) refl)
      (λ p. got (inr (record { definer = p.0; stands = p.1; in_run = p.2.0; argument = p.2.1 })))
      (definer_runs d t k best tell v a known)
    where
      got : IsResult d t k v ⊎ IsArgument t k.runs v → IsOfConstant d after (Old v)
      got p = absurd (none_some a (sym none ∙ is_made.all v a (record { known = known; maker = c; made_by = by; place = p; used = used })))

      any_of : (us : List N.value) → Has v us → AllAny k.of us → k.of v ≡ Any
      any_of [] h c = absurd h
      any_of (u ∷ us) h c = ⊎_elim (λ e. ap k.of e ∙ c.0) (λ m. any_of us m c.1) h

      constant : (o : Occurrence N S) → Has o (occurrences_of t) → k.runs o.site.label.name ≡ true → Has v (names_of o.head.results) → d.is_foldable o.head.content ≡ true → (b : Bool) → d.is_constant o.head.content ≡ b → IsOfConstant d after (Old v)
      constant o h runs r f false e = got (inl (record { definer = o; stands = h; runs = runs; folds = f; no_constant = e; result = r }))
      constant o h runs r f true e =
          let w = operation_is d made t.regions (at_root t) (at_root after) tt o h in
          record {
            definer = w.it;
            stands = w.stands;
            constant = ap (λ y. d.is_constant y.content) w.is.head ∙ e;
            result = subst (λ y. Has (Old v) (names_of y.results)) (sym w.is.head) (subst (Has (Old v)) (sym (names-map Old o.head.results)) (has-map Old v (names_of o.head.results) r));
          }

      folds : (o : Occurrence N S) → Has o (occurrences_of t) → k.runs o.site.label.name ≡ true → Has v (names_of o.head.results) → (b : Bool) → d.is_foldable o.head.content ≡ b → IsOfConstant d after (Old v)
      folds o h runs r false e = absurd (one_any a (k.of v) known (any_of (names_of o.head.results) r (subst (λ b. FoldClosed d k.of o.head b (asked (map k.of o.head.operands))) e (best.closed.inside o h runs).folds)))
      folds o h runs r true e = constant o h runs r e (d.is_constant o.head.content) refl

  -- a value that got a constant is used by that constant's name
  got : (v : N.value) (a : A) → made v ≡ Some a → IsOfConstant d after (New v)
  got v a e =
      let p = placed d made law w t k best is_made v a e in
      let c = p.constant in
      record {
        definer = c.it;
        stands = c.stands;
        constant = ap (λ y. d.is_constant y.content) c.is.head ∙ (law.constant_folds p.maker a c.is.made_by).0;
        result = subst (λ y. Has (New v) (names_of y.results)) (sym c.is.head) (inl refl);
      }

  named : (l : Facts (fresh N) A) → ((v : N.value) → l.of (Old v) ≡ k.of v) → (v : Name N.value N.value) (p : Occurrence (fresh N) S) (i : ℕ) (a : A) (c : S.of_operation) → Use after v p i → l.of v ≡ One a → d.constant a ≡ Some c → IsOfConstant d after v
  named l same v p i a c ue known by = ⊎_elim of_constant of_old (operation_was d made t.regions (at_root t) (at_root after) tt p ue.stands)
    where
      of_constant : Constant d made p → IsOfConstant d after v
      of_constant w = absurd (none_some v (ap (λ y. slice_get y.operands i) (sym w.3.head) ∙ ue.operand))

      by_case : (u : N.value) → IsUsed w t u → (q : Option A) → made u ≡ q → used made u ≡ v → IsOfConstant d after v
      by_case u h None e is =
          let old : Old u ≡ v = sym (ap (λ z. used_as u z) e) ∙ is in
          subst (IsOfConstant d after) old (unmade u a c h e (sym (same u) ∙ ap l.of old ∙ known) by)
      by_case u h (Some b) e is =
          let new : New u ≡ v = sym (ap (λ z. used_as u z) e) ∙ is in
          subst (IsOfConstant d after) new (got u b e)

      of_old : WasOld d made (occurrences_of t) p → IsOfConstant d after v
      of_old w =
          let o = from_some (used made) (slice_get w.it.head.operands i) v (sym (at-map (used made) w.it.head.operands i) ∙ ap (λ y. slice_get y.operands i) (sym w.is.head) ∙ ue.operand) in
          by_case o.it (inl (w.it, i, record { stands = w.stands; operand = o.some })) (made o.it) refl o.is

-- what sccp makes leaves no operand that is known to be a constant, but those that name one
pub sccp_goal : {N : Names} {S : Contents} {A : Type 0} (d : Dialect S A) (w : TreeSurroundings N A) (t : Root N S) (after : Root (fresh N) S) (l : Facts (fresh N) A) → Lawful d → CanTell N.value → IsSccp d w t after → IsMostPrecise d after l → (v : Name N.value N.value) (user : Occurrence (fresh N) S) (i : ℕ) (a : A) (c : S.of_operation) → Use after v user i → l.of v ≡ One a → d.constant a ≡ Some c → IsOfConstant d after v
sccp_goal {N} d w t after l law tell p best v user i a c ue known by =
    let kept = facts_kept d w t after p.facts l law p p.best best in
    subst (λ u. IsOfConstant d u v) (sym p.is) (named d law w t p.facts p.best p.made p.is_made tell l kept.of v user i a c (subst (λ u. Use u v user i) p.is ue) known by)

-- the same under other names
pub constants_renamed : {N M : Names} {S : Contents} {A : Type 0} (d : Dialect S A) (r : Renaming N M) (t : Root N S) (k : Facts N A) → IsMostPrecise d t k → NamesConstants d t → NamesConstants d (rename_root (maps r) t)
constants_renamed {N} d r t k best names l more v user i a c ue known by =
    let same = best_unique d (rename_root (maps r) t) l (pushed d r k) more (best_pushed d r t k best) in
    let o = operation_from r t user ue.stands in
    let u = from_some r.value.to (slice_get o.it.head.operands i) v (sym (at-map r.value.to o.it.head.operands i) ∙ ap (λ y. slice_get y.head.operands i) o.is ∙ ue.operand) in
    let of : k.of u.it ≡ One a = ap (λ f. f.of u.it) (sym (pulled_pushed d r k)) ∙ ap (pushed d r k).of u.is ∙ ap (λ f. f.of v) (sym same) ∙ known in
    let p = names k best u.it o.it i a c (record { stands = o.stands; operand = u.some }) of by in
    subst (IsOfConstant d (rename_root (maps r) t)) u.is (record {
      definer = rename_occurrence (maps r) p.definer;
      stands = operation_to r t p.definer p.stands;
      constant = p.constant;
      result = name_to r t u.it p.definer.head.results p.result;
    })
