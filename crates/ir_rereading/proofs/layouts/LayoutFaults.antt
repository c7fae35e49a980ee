-- A layout has no fault of values, and none of depth.
use Rattle.std.proofs.Common.{◌≡◌, ℕ, zero, suc, ◌+◌, ◌<◌, ◌≤◌, ◌⊎◌, inl, inr, List, [], ◌∷◌, ◌++◌, true, false, length, Option, Some, None, slice_get, arith, refl, ap, sym, subst, ◌∙◌}
use Rattle.std.specs.Option.{option_map_or}
use Rattle.std.proofs.lemmas.List.{append-nil, append_assoc}
use Rattle.ir_names.specs.Tree.{LabelledTree, Trees, node, no_tree, a_tree, join}
use Rattle.ir_print.specs.Formats.{Formats}
use Rattle.ir_print.specs.Layout.{IsShallow}
use Rattle.ir_print.specs.Pieces.{Values, Entity}
use Rattle.ir_forest.specs.Closed.{IsOperation, FitsTree}
use Rattle.ir_grammar.specs.declared.grammar.Action.{Action}
use Rattle.ir_grammar.specs.declared.grammar.Action.TheVariants as act
use Rattle.ir_grammar.specs.declared.grammar.Event.{Event}
use Rattle.ir_grammar.specs.declared.grammar.Event.TheVariants.{Took, Did}
use Rattle.ir_tokens.specs.declared.faults.Fault.{Fault}
use Rattle.ir_forest.specs.Building.{Open, Built, nothing_built, ended_tree, with_end, after, with_name, names_behind}
use Rattle.ir_scopes.specs.Depth.{IsTooDeep}
use Rattle.ir_forest.specs.Forest.{end_of, is_end, Deed, deeds, deeds_from, ActionSpan, ending, deeds_of, deeds_in, IsWholeStep, AreWhole}
use Rattle.ir_forest.specs.Meaning.{pieces_in}
use Rattle.ir_forest.specs.Progress.{run}
use Rattle.ir_grammar.specs.Reading.{opens, depth_at, OpensMore, OpensAt}
use Rattle.ir_forest.specs.ValueFaults.{results, EndsInResult, HasNumberFault, HasNamesFault}
use Rattle.ir_forest.proofs.BuiltSteps.{Sort, alone, opening, closing, sort_of, after_by, after_is, EndsBy, ends_by, end_sort}
use Rattle.ir_forest.proofs.BuiltTrees.{run_append, AllBefore, AllBuilt, pushed, run_trees, run_tree}
use Rattle.ir_rereading.proofs.layouts.LayoutParts.{AreLow, IsCounted, AreFine}
use Rattle.ir_rereading.proofs.layouts.LayoutOperations.{IsPlainTree}
use Rattle.ir_rereading.proofs.layouts.LayoutTrees.{HasTexts, fine_whole, layout_builds}
use Rattle.ir_rereading.proofs.layouts.Marks.{tokens, events, marks, IsSpelt}

-- ---- names of results

names_join : (ts us : Trees ActionSpan) (names : List ℕ) → names_behind names (join ts us) ≡ names_behind (names_behind names ts) us
names_join no_tree us names = refl
names_join (a_tree (node s is) ts) us names = names_join ts us (with_name names s.action s.first)

is_result : (a : Action) → (a ≡ act.Result) ⊎ ((names : List ℕ) (k : ℕ) → with_name names a k ≡ [])
is_result act.Result = inl refl
is_result _ = inr (λ names k. refl)

opening_unnamed : (a : Action) → sort_of a ≡ opening → (names : List ℕ) (k : ℕ) → with_name names a k ≡ []
opening_unnamed act.Result h names k = cc
opening_unnamed _ h names k = refl

-- ---- what is open along whole trees

-- as many are open as end later
abbrev EndsAfter : Sort → ℕ → (ℕ → Type 0) → Type 0
EndsAfter alone n P = P n
EndsAfter opening n P = P (suc n)
EndsAfter closing zero P = ⊥
EndsAfter closing (suc n) P = P n

-- of deeds with so many open before, nothing ends but what is open
abbrev Balances : ℕ → List Deed → Type 0
Balances n [] = Unit {0}
Balances n (d ∷ ds) = EndsAfter (sort_of d.0) n (λ m. Balances m ds)

sort_alone : (a : Action) (s : Sort) → sort_of a ≡ s → end_of a ≡ None → is_end a ≡ false → sort_of a ≡ alone
sort_alone a alone e n f = e
sort_alone a opening e n f = let x = subst (λ z. EndsBy z a) e (ends_by a) in let wrong : Some x.0 ≡ None = sym x.1 ∙ n in cc
sort_alone a closing e n f = let x = subst (λ z. EndsBy z a) e (ends_by a) in let wrong : true ≡ false = sym x.1 ∙ f in cc

sort_opening : (a x : Action) (s : Sort) → sort_of a ≡ s → end_of a ≡ Some x → sort_of a ≡ opening
sort_opening a x alone e n = let y = subst (λ z. EndsBy z a) e (ends_by a) in let wrong : None ≡ Some x = sym y.0 ∙ n in cc
sort_opening a x opening e n = e
sort_opening a x closing e n = let y = subst (λ z. EndsBy z a) e (ends_by a) in let wrong : None ≡ Some x = sym y.0 ∙ n in cc

balances_node : (s : ActionSpan) (ts : Trees ActionSpan) (more : List Deed) (n : ℕ) (e : Option Action) → end_of s.action ≡ e → IsWholeStep e s ts
    → ((m : ℕ) (rest : List Deed) → Balances m rest → Balances m (deeds_in ts ++ rest)) → Balances n more → Balances n ((s.action, s.first) ∷ (deeds_in ts ++ (ending e s.last ++ more)))
balances_node s ts more n None e w inner h =
    subst (λ z. EndsAfter z n (λ m. Balances m (deeds_in ts ++ more))) (sym (sort_alone s.action (sort_of s.action) refl e w.0)) (inner n more h)
balances_node s ts more n (Some x) e w inner h =
    subst (λ z. EndsAfter z n (λ m. Balances m (deeds_in ts ++ ((x, s.last) ∷ more)))) (sym (sort_opening s.action x (sort_of s.action) refl e))
    (inner (suc n) ((x, s.last) ∷ more) (subst (λ z. EndsAfter z (suc n) (λ m. Balances m more)) (sym (end_sort s.action x e)) h))

-- the deeds of a tree, and those behind it
deeds_apart : (s : ActionSpan) (is ts : Trees ActionSpan) (more : List Deed)
    → deeds_in (a_tree (node s is) ts) ++ more ≡ (s.action, s.first) ∷ (deeds_in is ++ (ending (end_of s.action) s.last ++ (deeds_in ts ++ more)))
deeds_apart s is ts more =
    let first : Deed = (s.action, s.first) in
    let end = ending (end_of s.action) s.last in
    ap (λ z. first ∷ z)
    (append_assoc (deeds_in is ++ end) (deeds_in ts) more ∙ append_assoc (deeds_in is) end (deeds_in ts ++ more))

balances_trees : (ts : Trees ActionSpan) → AreWhole ts → (n : ℕ) (more : List Deed) → Balances n more → Balances n (deeds_in ts ++ more)
balances_trees no_tree w n more h = h
balances_trees (a_tree (node s is) ts) w n more h =
    subst (Balances n) (sym (deeds_apart s is ts more))
    (balances_node s is (deeds_in ts ++ more) n (end_of s.action) refl w.0 (λ m rest h. balances_trees is w.1 m rest h) (balances_trees ts w.2 n more h))

-- so many are open, and each is begun by an action that begins something
abbrev AreOpen : ℕ → List Open → Type 0
AreOpen zero [] = Unit {0}
AreOpen (suc n) (o ∷ os) = (sort_of o.action ≡ opening) × AreOpen n os
AreOpen _ _ = ⊥

-- no name of a result stands behind all trees, or the last deed is one
abbrev IsQuiet : Built → List Deed → Type 0
IsQuiet b done = (names_behind [] b.here ≡ []) ⊎ EndsInResult done

-- one deed more
quiet_by : (s : Sort) (b : Built) (d : Deed) (n : ℕ) (P : ℕ → Type 0) → sort_of d.0 ≡ s → AreOpen n b.around → EndsAfter s n P
    → (m : ℕ) × AreOpen m (after_by s b d.0 d.1).around × P m × (((names : List ℕ) (k : ℕ) → with_name names d.0 k ≡ []) → names_behind [] (after_by s b d.0 d.1).here ≡ [])
quiet_by alone b d n P e o h =
    (n, o, h, λ f. names_join b.here (a_tree (node (record { action = d.0; first = d.1; last = d.1 }) no_tree) no_tree) [] ∙ f (names_behind [] b.here) d.1)
quiet_by opening b d n P e o h = (suc n, (e, o), h, λ f. refl)
quiet_by closing b d n P e o h = go b.around n o h
  where
    go : (os : List Open) (n : ℕ) → AreOpen n os → EndsAfter closing n P
        → (m : ℕ) × AreOpen m (with_end b.here os d.1).around × P m × (((names : List ℕ) (k : ℕ) → with_name names d.0 k ≡ []) → names_behind [] (with_end b.here os d.1).here ≡ [])
    go [] zero o h = absurd h
    go [] (suc n) o h = absurd o
    go (x ∷ xs) zero o h = absurd h
    go (x ∷ xs) (suc n) o h = (n, o.1, h, λ f. names_join x.before (a_tree (ended_tree x b.here d.1) no_tree) [] ∙ opening_unnamed x.action o.0 (names_behind [] x.before) x.first)

quiet_after : (b : Built) (d : Deed) (done : List Deed) (n : ℕ) (P : ℕ → Type 0) → AreOpen n b.around → EndsAfter (sort_of d.0) n P
    → (m : ℕ) × AreOpen m (after b d.0 d.1).around × P m × IsQuiet (after b d.0 d.1) (done ++ d ∷ [])
quiet_after b d done n P o h =
    let q = quiet_by (sort_of d.0) b d n P refl o h in
    let same = after_is d.0 b d.1 in
    let last : (d.0 ≡ act.Result) ⊎ ((names : List ℕ) (k : ℕ) → with_name names d.0 k ≡ []) → IsQuiet (after b d.0 d.1) (done ++ d ∷ []) = λ w.
    elim w [
      | inl e ↦ inr (done, d.1, ap (λ a. let x : Deed = (a, d.1) in done ++ x ∷ []) e)
      | inr f ↦ inl (ap (λ c. names_behind [] c.here) same ∙ q.3 f)
    ] in
    (q.0, subst (λ c. AreOpen q.0 c.around) (sym same) q.1, q.2, last (is_result d.0))

quiet : (ds done rest : List Deed) (b : Built) (n : ℕ) → AreOpen n b.around → Balances n (ds ++ rest) → IsQuiet b done → IsQuiet (run b ds) (done ++ ds)
quiet [] done rest b n o h q = subst (IsQuiet b) (sym (append-nil done)) q
quiet (d ∷ ds) done rest b n o h q =
    let a = quiet_after b d done n (λ m. Balances m (ds ++ rest)) o h in
    subst (IsQuiet (run (after b d.0 d.1) ds)) (append_assoc done (d ∷ []) ds) (quiet ds (done ++ d ∷ []) rest (after b d.0 d.1) a.0 a.1 a.2 a.3)

-- ---- no number out of range, and as many names as results

module _ (v : Values) (text : ℕ → List ℕ) where
  -- trees with no names of results before them
  abbrev Fine : Trees ActionSpan → Type 0
  Fine ts = AreFine v text [] ts

  fine_apart : (ts us : Trees ActionSpan) (names : List ℕ) → AreFine v text names (join ts us) → AreFine v text names ts × AreFine v text (names_behind names ts) us
  fine_apart no_tree us names h = (tt, h)
  fine_apart (a_tree (node s is) ts) us names h = let r = fine_apart ts us (with_name names s.action s.first) h.4 in ((h.0, h.1, h.2, h.3, r.0), r.1)

  -- what is fine at the end was so before
  fine_back : (s : Sort) (b : Built) (a : Action) (k : ℕ) → AllBuilt Fine (after_by s b a k) → AllBuilt Fine b
  fine_back alone b a k h = ((fine_apart b.here (a_tree (node (record { action = a; first = k; last = k }) no_tree) no_tree) [] h.0).0, h.1)
  fine_back opening b a k h = h.1
  fine_back closing b a k h = go b.around h
    where
      go : (os : List Open) → AllBuilt Fine (with_end b.here os k) → Fine b.here × AllBefore Fine os
      go [] h = h
      go (o ∷ os) h = let r = fine_apart o.before (a_tree (ended_tree o b.here k) no_tree) [] h.0 in (r.1.3, (r.0, h.1))

  fine_before : (ds : List Deed) (b : Built) → AllBuilt Fine (run b ds) → AllBuilt Fine b
  fine_before [] b h = h
  fine_before (d ∷ ds) b h = fine_back (sort_of d.0) b d.0 d.1 (subst (AllBuilt Fine) (after_is d.0 b d.1) (fine_before ds (after b d.0 d.1) h))

  fine_forest : (ts : Trees ActionSpan) → Fine ts → (ds : List Deed) → ds ≡ deeds_in ts → AllBuilt Fine (run nothing_built ds)
  fine_forest ts h ds e = subst (AllBuilt Fine) (sym (ap (run nothing_built) e ∙ run_trees ts (fine_whole v text [] ts h) nothing_built)) (h, tt)

  -- a tree among the deeds of a forest
  fine_tree : (forest : Trees ActionSpan) → Fine forest → (t : LabelledTree ActionSpan) (front more : List Deed) → AreWhole (a_tree t no_tree) → deeds_in forest ≡ front ++ (deeds_of t ++ more)
      → AreFine v text (names_behind [] (run nothing_built front).here) (a_tree t no_tree)
  fine_tree forest h t front more w e =
      let b = run nothing_built front in
      let all : AllBuilt Fine (run nothing_built (front ++ (deeds_of t ++ more))) = fine_forest forest h (front ++ (deeds_of t ++ more)) (sym e) in
      let last : AllBuilt Fine (run (run b (deeds_of t)) more) = subst (AllBuilt Fine) (run_append front (deeds_of t ++ more) nothing_built ∙ run_append (deeds_of t) more b) all in
      let there : AllBuilt Fine (pushed b (a_tree t no_tree)) = subst (AllBuilt Fine) (run_tree t b w) (fine_before more (run b (deeds_of t)) last) in
      (fine_apart b.here (a_tree t no_tree) [] there.0).1

  pub no_number : (forest : Trees ActionSpan) (es : List Event) → Fine forest → deeds es ≡ deeds_in forest → (fault : Fault) → HasNumberFault v text es fault → ⊥
  no_number forest es h e fault n =
      let t = n.3 in
      let one = fine_tree forest h (node n.0 n.1) t.1 t.2 t.0 (sym e ∙ t.3) in
      let wrong : None ≡ Some n.2 = sym one.1 ∙ n.5 in cc

  -- names of results, read one after the other
  run_results : (names : List ℕ) (b : Built) → names_behind [] (run b (results names)).here ≡ names_behind [] b.here ++ names
  run_results [] b = sym (append-nil (names_behind [] b.here))
  run_results (k ∷ ks) b =
      let leaf : Trees ActionSpan = a_tree (node (record { action = act.Result; first = k; last = k }) no_tree) no_tree in
      run_results ks (after b act.Result k) ∙ (ap (λ z. z ++ ks) (names_join b.here leaf []) ∙ append_assoc (names_behind [] b.here) (k ∷ []) ks)

  counted_at : (a : Action) (kind : ℕ) (names : List ℕ) (ts : Trees ActionSpan) → a ≡ act.Operation kind → IsCounted v text a names ts → length names ≡ length (v.result_types kind (pieces_in v text ts))
  counted_at a kind names ts e h = subst (λ z. IsCounted v text z names ts) e h

  pub no_names : (forest : Trees ActionSpan) (es : List Event) → Fine forest → deeds es ≡ deeds_in forest → (fault : Fault) → HasNamesFault v text es fault → ⊥
  no_names forest es h e fault n =
      let names = n.0 in
      let s = n.2 in
      let ts = n.3 in
      let before = n.4 in
      let more = n.5 in
      let read : deeds_in forest ≡ before ++ (results names ++ (deeds_of (node s ts) ++ more)) = sym e ∙ n.7 in
      let split : deeds_in forest ≡ (before ++ results names) ++ (deeds_of (node s ts) ++ more) = read ∙ sym (append_assoc before (results names) (deeds_of (node s ts) ++ more)) in
      let one = fine_tree forest h (node s ts) (before ++ results names) more n.6 split in
      let many = counted_at s.action n.1 (names_behind [] (run nothing_built (before ++ results names)).here) ts n.9 one.2 in
      let balanced : Balances 0 (before ++ (results names ++ (deeds_of (node s ts) ++ more))) =
      subst (Balances 0) (append-nil (deeds_in forest) ∙ read) (balances_trees forest (fine_whole v text [] forest h) 0 [] tt) in
      let none : names_behind [] (run nothing_built before).here ≡ [] =
      elim (quiet before [] (results names ++ (deeds_of (node s ts) ++ more)) nothing_built 0 tt balanced (inl refl)) [ inl same ↦ same | inr last ↦ absurd (n.8 last) ] in
      let same : names_behind [] (run nothing_built (before ++ results names)).here ≡ names =
      ap (λ c. names_behind [] c.here) (run_append before (results names) nothing_built) ∙ (run_results names (run nothing_built before) ∙ ap (λ z. z ++ names) none) in
      n.10 (ap length (sym same) ∙ many)

-- ---- depth

-- of deeds with d parts open before: one begins where 64 are open
abbrev OpensLate : ℕ → List Deed → Type 0
OpensLate d [] = ⊥
OpensLate d (x ∷ ds) = ((opens x.0 ≡ true) × (64 ≤ d)) ⊎ OpensLate (depth_at d x.0) ds

late_more : (es : List Event) (n d : ℕ) → OpensMore 64 d es → OpensLate d (deeds_from n es)
late_more [] n d h = h
late_more (Took ∷ es) n d h = late_more es (n + 1) d h
late_more (Did a ∷ es) n d (inl h) = inl h
late_more (Did a ∷ es) n d (inr h) = inr (late_more es n (depth_at d a) h)

late_at : (es : List Event) (n d k : ℕ) → OpensAt 64 n d es k → OpensLate d (deeds_from n es)
late_at [] n d k h = h
late_at (Took ∷ es) n d k h = late_at es (n + 1) d k h
late_at (Did a ∷ es) n d k (inl h) = inl (h.0, h.1)
late_at (Did a ∷ es) n d k (inr h) = inr (late_at es n (depth_at d a) k h)

-- an action that ends what another begins opens nothing, and as much is open behind it as before that
ends_depth : (a x : Action) (d : ℕ) → end_of a ≡ Some x → (opens x ≡ false) × (depth_at (depth_at d a) x ≡ d)
ends_depth (act.Operation kind) x d h = let e : act.EndOperation ≡ x = cc in subst (λ z. (opens z ≡ false) × (depth_at d z ≡ d)) e (refl, refl)
ends_depth act.BeginRegion x d h = let e : act.EndRegion ≡ x = cc in subst (λ z. (opens z ≡ false) × (depth_at (d + 1) z ≡ d)) e (refl, omega arith)
ends_depth act.Label x d h = let e : act.EndBlock ≡ x = cc in subst (λ z. (opens z ≡ false) × (depth_at d z ≡ d)) e (refl, refl)
ends_depth (act.Begin sort kind) x d h = let e : act.End sort ≡ x = cc in subst (λ z. (opens z ≡ false) × (depth_at (d + 1) z ≡ d)) e (refl, omega arith)
ends_depth act.BeginOperands x d h = let e : act.EndOperands ≡ x = cc in subst (λ z. (opens z ≡ false) × (depth_at d z ≡ d)) e (refl, refl)
ends_depth act.BeginSuccessor x d h = let e : act.EndSuccessor ≡ x = cc in subst (λ z. (opens z ≡ false) × (depth_at d z ≡ d)) e (refl, refl)
ends_depth act.BeginList x d h = let e : act.EndList ≡ x = cc in subst (λ z. (opens z ≡ false) × (depth_at d z ≡ d)) e (refl, refl)
ends_depth act.BeginItem x d h = let e : act.EndItem ≡ x = cc in subst (λ z. (opens z ≡ false) × (depth_at d z ≡ d)) e (refl, refl)
ends_depth (act.BeginChoice n) x d h = let e : act.EndChoice ≡ x = cc in subst (λ z. (opens z ≡ false) × (depth_at d z ≡ d)) e (refl, refl)
ends_depth _ x d h = cc

alone_depth : (a : Action) (d : ℕ) → end_of a ≡ None → is_end a ≡ false → depth_at d a ≡ d
alone_depth act.Result d e f = refl
alone_depth act.Argument d e f = refl
alone_depth act.Header d e f = refl
alone_depth (act.Leaf sort) d e f = refl
alone_depth act.Operand d e f = refl
alone_depth _ d e f = cc

low_node : (s : ActionSpan) (ts : Trees ActionSpan) (more : List Deed) (d : ℕ) (e : Option Action) → end_of s.action ≡ e → IsWholeStep e s ts → (opens s.action ≡ true → d < 64)
    → ((rest : List Deed) → OpensLate (depth_at d s.action) (deeds_in ts ++ rest) → OpensLate (depth_at d s.action) rest)
    → OpensLate d ((s.action, s.first) ∷ (deeds_in ts ++ (ending e s.last ++ more))) → OpensLate d more
low_node s ts more d e is w low inner (inl h) = let few = low h.0 in absurd (omega (arith, few, h.1))
low_node s ts more d None is w low inner (inr h) = subst (λ z. OpensLate z more) (alone_depth s.action d is w.0) (inner more h)
low_node s ts more d (Some x) is w low inner (inr h) =
    let after = ends_depth s.action x d is in
    elim (inner ((x, s.last) ∷ more) h) [
      | inl o ↦ let wrong : true ≡ false = sym o.0 ∙ after.0 in cc
      | inr m ↦ subst (λ z. OpensLate z more) after.1 m
    ]

low_trees : (ts : Trees ActionSpan) (d : ℕ) (more : List Deed) → AreWhole ts → AreLow d ts → OpensLate d (deeds_in ts ++ more) → OpensLate d more
low_trees no_tree d more w low h = h
low_trees (a_tree (node s is) ts) d more w low h =
    low_trees ts d more w.2 low.2
    (low_node s is (deeds_in ts ++ more) d (end_of s.action) refl w.0 low.0 (λ rest h. low_trees is (depth_at d s.action) rest w.1 low.1 h)
    (subst (OpensLate d) (deeds_apart s is ts more) h))

low_forest : (ts : Trees ActionSpan) (es : List Event) → AreWhole ts → AreLow 0 ts → deeds es ≡ deeds_in ts → OpensLate 0 (deeds es) → ⊥
low_forest ts es w low e h = low_trees ts 0 [] w low (subst (OpensLate 0) (e ∙ sym (append-nil (deeds_in ts))) h)

-- ---- layouts

pub no_number_fault : (f : Formats) (v : Values) (t : Entity (List ℕ)) (text : ℕ → List ℕ) → FitsTree f v t → IsPlainTree t → IsOperation v t → IsSpelt t → HasTexts text (marks f t)
    → (fault : Fault) → HasNumberFault v text (events (marks f t)) fault → ⊥
no_number_fault f v t text fit plain is spelt h fault n =
    let b = layout_builds f v t text fit plain is spelt h in
    no_number v text b.forest (events (marks f t)) b.says.fine b.done fault n

pub no_names_fault : (f : Formats) (v : Values) (t : Entity (List ℕ)) (text : ℕ → List ℕ) → FitsTree f v t → IsPlainTree t → IsOperation v t → IsSpelt t → HasTexts text (marks f t)
    → (fault : Fault) → HasNamesFault v text (events (marks f t)) fault → ⊥
no_names_fault f v t text fit plain is spelt h fault n =
    let b = layout_builds f v t text fit plain is spelt h in
    no_names v text b.forest (events (marks f t)) b.says.fine b.done fault n

-- the token with a number, or nothing
abbrev token_at : List (List ℕ) → ℕ → List ℕ
token_at ts k = option_map_or (λ x. x) (slice_get ts k) []

pub no_deep_fault : (f : Formats) (v : Values) (t : Entity (List ℕ)) → FitsTree f v t → IsPlainTree t → IsOperation v t → IsSpelt t → IsShallow 64 t
    → ((fault : Fault) → IsTooDeep (events (marks f t)) fault → ⊥) × (OpensMore 64 0 (events (marks f t)) → ⊥)
no_deep_fault f v t fit plain is spelt shallow =
    let es = events (marks f t) in
    let text = token_at (tokens (marks f t)) in
    let b = layout_builds f v t text fit plain is spelt (λ k x e. ap (λ o. option_map_or (λ x. x) o []) e) in
    let whole = fine_whole v text [] b.forest b.says.fine in
    let low = b.says.low 0 64 refl (shallow, tt) in
    (λ fault h. low_forest b.forest es whole low b.done (late_at es 0 0 h.0 h.1), λ h. low_forest b.forest es whole low b.done (late_more es 0 0 h))
