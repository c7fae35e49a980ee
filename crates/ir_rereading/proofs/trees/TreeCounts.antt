-- Where a text has no fault of names, each operation has as many names before it as results.
use Rattle.std.proofs.Common.{◌≡◌, ℕ, List, [], ◌∷◌, ◌++◌, length, Option, Some, None, refl, sym, subst, ap, ◌∙◌, ◌⊎◌, inl, inr}
use Rattle.std.proofs.lemmas.List.{append_assoc, append-nil}
use Rattle.std.proofs.lemmas.Bool.{cases_eq}
use Rattle.ir_names.specs.Tree.{Trees, node, no_tree, a_tree}
use Rattle.ir_print.specs.Pieces.{Values}
use Rattle.ir_grammar.specs.declared.grammar.Action.{Action}
use Rattle.ir_grammar.specs.declared.grammar.Action.TheVariants as act
use Rattle.ir_grammar.specs.declared.grammar.Event.{Event}
use Rattle.ir_tokens.specs.declared.faults.Fault.{Fault}
use Rattle.ir_tokens.specs.declared.faults.FaultKind.TheVariants as kinds
use Rattle.ir_forest.specs.Building.{with_name}
use Rattle.ir_forest.specs.Forest.{end_of, Deed, deeds, ActionSpan, ending, deeds_of, deeds_in, IsWholeStep, AreWhole, IsForestOf}
use Rattle.ir_forest.specs.Meaning.{pieces_in}
use Rattle.ir_forest.specs.ValueFaults.{results, first_token, EndsInResult, HasNamesFault}
use Rattle.ir_forest.proofs.BuiltSteps.{alone, closing, sort_of, end_sort}

-- ---- the last deed

-- the last action, or else this
last_of : Option Action → List Deed → Option Action
last_of o [] = o
last_of o (d ∷ ds) = last_of (Some d.0) ds

last_one : (xs : List Deed) (d : Deed) (o : Option Action) → last_of o (xs ++ d ∷ []) ≡ Some d.0
unfolding last_of
last_one [] d o = refl
last_one (x ∷ xs) d o = last_one xs d (Some x.0)

other_last : (xs : List Deed) (d : Deed) → (d.0 ≡ act.Result → ⊥) → EndsInResult (xs ++ d ∷ []) → ⊥
other_last xs d h e =
    let same : Some d.0 ≡ Some act.Result = sym (last_one xs d None) ∙ (ap (last_of None) e.2 ∙ last_one e.0 (act.Result, e.1) None) in
    h (let is : d.0 ≡ act.Result = cc in is)

nothing_last : EndsInResult [] → ⊥
unfolding last_of
nothing_last e = let wrong : None ≡ Some act.Result = ap (last_of None) e.2 ∙ last_one e.0 (act.Result, e.1) None in cc

-- ---- names before operations

module _ (values : Values) (text : ℕ → List ℕ) where
  -- as many names as results
  abbrev pub CountsAt : Action → List ℕ → Trees ActionSpan → Type 0
  CountsAt (act.Operation kind) names ts = length names ≡ length (values.result_types kind (pieces_in values text ts))
  CountsAt _ names ts = Unit {0}

  -- before each operation among the trees, at any depth, there are as many names as it has results, these standing before the first
  abbrev pub Counts : List ℕ → Trees ActionSpan → Type 0
  Counts names no_tree = Unit {0}
  Counts names (a_tree (node s ts) rest) = CountsAt s.action names ts × Counts [] ts × Counts (with_name names s.action s.first) rest

  module _ (es : List Event) (good : (f : Fault) → HasNamesFault values text es f → ⊥) where
    counts_here : (a : Action) (names : List ℕ) (s : ActionSpan) (ts : Trees ActionSpan) (before after : List Deed) → s.action ≡ a → AreWhole (a_tree (node s ts) no_tree)
        → deeds es ≡ before ++ (results names ++ (deeds_of (node s ts) ++ after)) → (EndsInResult before → ⊥) → CountsAt a names ts
    counts_here (act.Operation kind) names s ts before after e w all not = elim (cases_eq (length names) (length (values.result_types kind (pieces_in values text ts)))) [
      | inl same ↦ same
      | inr other ↦ absurd (good (record { kind = kinds.ResultNames; met = s.last; place = first_token names s.first }) (names, kind, s, ts, before, after, w, all, not, e, other, refl))
    ]
    counts_here _ names s ts before after e w all not = tt

    -- so it is of trees that were read behind names of results
    abbrev CountsWell : Trees ActionSpan → Type 0
    CountsWell ts = AreWhole ts → (names : List ℕ) (before after : List Deed) → deeds es ≡ before ++ (results names ++ (deeds_in ts ++ after)) → (EndsInResult before → ⊥) → Counts names ts

    results_more : (names : List ℕ) (k : ℕ) (ds : List Deed) → results (names ++ k ∷ []) ++ ds ≡ results names ++ ((act.Result, k) ∷ ds)
    results_more [] k ds = refl
    results_more (n ∷ names) k ds = ap (λ z. (act.Result, n) ∷ z) (results_more names k ds)

    result_or : (a : Action) → (a ≡ act.Result) ⊎ ((a ≡ act.Result → ⊥) × ((names : List ℕ) (k : ℕ) → with_name names a k ≡ []))
    result_or act.Result = inl refl
    result_or _ = inr ((λ e. cc), λ names k. refl)

    inside : (s : ActionSpan) (ts : Trees ActionSpan) (x : Option Action) → end_of s.action ≡ x → IsWholeStep x s ts → CountsWell ts → AreWhole ts → (before after : List Deed)
        → deeds es ≡ before ++ ((s.action, s.first) ∷ (deeds_in ts ++ after)) → Counts [] ts
    inside s ts None e w here whole before after all = subst (Counts []) (sym w.2) tt
    inside s ts (Some x) e w here whole before after all =
        here whole [] (before ++ (s.action, s.first) ∷ []) after (all ∙ sym (append_assoc before ((s.action, s.first) ∷ []) (deeds_in ts ++ after)))
        (other_last before (s.action, s.first) (λ is. (let wrong : None ≡ Some x = sym (ap end_of is) ∙ e in cc)))

    -- the last deed of a tree that is no result
    tree_last : (s : ActionSpan) (ts : Trees ActionSpan) (x : Option Action) → end_of s.action ≡ x → IsWholeStep x s ts → (s.action ≡ act.Result → ⊥) → (before : List Deed)
        → EndsInResult (before ++ ((s.action, s.first) ∷ (deeds_in ts ++ ending x s.last))) → ⊥
    tree_last s ts None e w not before h =
        other_last before (s.action, s.first) not (subst (λ us. EndsInResult (before ++ ((s.action, s.first) ∷ (deeds_in us ++ [])))) w.2 h)
    tree_last s ts (Some x) e w not before h =
        other_last (before ++ ((s.action, s.first) ∷ deeds_in ts)) (x, s.last) (λ is. (let wrong : closing ≡ alone = sym (end_sort s.action x e) ∙ ap sort_of is in cc))
        (subst EndsInResult (sym (append_assoc before ((s.action, s.first) ∷ deeds_in ts) ((x, s.last) ∷ []))) h)

    step : (s : ActionSpan) (ts rest : Trees ActionSpan) → IsWholeStep (end_of s.action) s ts → AreWhole ts → AreWhole rest → CountsWell ts → CountsWell rest → (names : List ℕ) (before after : List Deed)
        → deeds es ≡ before ++ (results names ++ (deeds_of (node s ts) ++ (deeds_in rest ++ after))) → (EndsInResult before → ⊥)
        → CountsAt s.action names ts × Counts [] ts × Counts (with_name names s.action s.first) rest
    step s ts rest w whole more here there names before after all not = (
      counts_here s.action names s ts before (deeds_in rest ++ after) refl (w, whole, tt) all not,
      inside s ts (end_of s.action) refl w here whole (before ++ results names) (ending (end_of s.action) s.last ++ (deeds_in rest ++ after))
          (all ∙ (sym (append_assoc before (results names) (deeds_of (node s ts) ++ (deeds_in rest ++ after)))
          ∙ ap (λ z. (before ++ results names) ++ ((s.action, s.first) ∷ z)) (append_assoc (deeds_in ts) (ending (end_of s.action) s.last) (deeds_in rest ++ after)))),
      behind (result_or s.action),
    )
      where
        behind : (s.action ≡ act.Result) ⊎ ((s.action ≡ act.Result → ⊥) × ((names : List ℕ) (k : ℕ) → with_name names s.action k ≡ [])) → Counts (with_name names s.action s.first) rest
        behind (inl is) =
            let none : end_of s.action ≡ None = ap end_of is in
            let w' : IsWholeStep None s ts = subst (λ x. IsWholeStep x s ts) none w in
            let one : deeds_of (node s ts) ≡ (act.Result, s.first) ∷ [] =
            ap (λ us. let d : Deed = (s.action, s.first) in d ∷ (deeds_in us ++ ending (end_of s.action) s.last)) w'.2
            ∙ ap (λ a. let d : Deed = (a, s.first) in d ∷ ending (end_of a) s.last) is in
            subst (λ a. Counts (with_name names a s.first) rest) (sym is)
            (there more (names ++ s.first ∷ []) before after
            (all ∙ (ap (λ z. before ++ (results names ++ (z ++ (deeds_in rest ++ after)))) one ∙ ap (λ z. before ++ z) (sym (results_more names s.first (deeds_in rest ++ after))))) not)
        behind (inr other) =
            subst (λ ns. Counts ns rest) (sym (other.1 names s.first))
            (there more [] ((before ++ results names) ++ deeds_of (node s ts)) after
            (all ∙ (sym (append_assoc before (results names) (deeds_of (node s ts) ++ (deeds_in rest ++ after))) ∙ sym (append_assoc (before ++ results names) (deeds_of (node s ts)) (deeds_in rest ++ after))))
            (tree_last s ts (end_of s.action) refl w other.0 (before ++ results names)))

    counts_well : (ts : Trees ActionSpan) → CountsWell ts
    counts_well no_tree w names before after all not = tt
    counts_well (a_tree (node s ts) rest) w names before after all not =
        step s ts rest w.0 w.1 w.2 (counts_well ts) (counts_well rest) names before after
        (all ∙ ap (λ z. before ++ (results names ++ z)) (append_assoc (deeds_of (node s ts)) (deeds_in rest) after)) not

    -- so it is in a whole text
    pub forest_counts : (ts : Trees ActionSpan) → IsForestOf es ts → Counts [] ts
    forest_counts ts f = counts_well ts f.0 [] [] [] (f.1 ∙ sym (append-nil (deeds_in ts))) nothing_last
