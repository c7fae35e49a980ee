-- What is built is what was read.
use Rattle.std.proofs.Common.{◌≡◌, ℕ, ◌+◌, true, false, List, [], ◌∷◌, ◌++◌, Option, Some, None, refl, sym, subst, ap, ◌∙◌, ◌⊎◌, inl, inr}
use Rattle.std.proofs.lemmas.List.{append_assoc, append-nil}
use Rattle.ir_names.specs.Tree.{LabelledTree, Trees, node, no_tree, a_tree, join}
use Rattle.ir_print.specs.Pieces.{Values, Entity, entity, an_entity, no_entity}
use Rattle.ir_grammar.specs.declared.grammar.Action.{Action}
use Rattle.ir_grammar.specs.declared.grammar.Action.TheVariants as act
use Rattle.ir_grammar.specs.declared.grammar.Event.{Event}
use Rattle.ir_grammar.specs.declared.grammar.Event.TheVariants.{Took, Did}
use Rattle.ir_forest.specs.Forest.{end_of, is_end, Deed, deeds, deeds_from, ActionSpan, ending, deeds_of, deeds_in, IsWholeStep, AreWhole, IsForestOf}
use Rattle.ir_forest.specs.Meaning.{head_of, operations_in, regions_in}
use Rattle.ir_grammar.specs.Nesting.{Position, at_root, behind_root_results, at_end, Move, goes_to, goes_in, goes_out, nowhere, move, Nests, NestsBy}
use Rattle.ir_forest.specs.Building.{Open, Built, nothing_built, behind, ended_tree, with_end, with_begin, after, built}
use Rattle.ir_forest.specs.Progress.{deeds_around, deeds_so_far, run, Leads}
use Rattle.ir_forest.proofs.BuiltSteps.{Sort, alone, opening, closing, sort_of, after_by, after_is, EndsBy, ends_by, end_sort, end_at, Says, says, Follows, by_move, nests_deeds, built_by_deeds, Fits, Alone, Opens, ended, Closes, step}

-- ---- trees

pub join_nothing : (ts : Trees ActionSpan) → join ts no_tree ≡ ts
join_nothing no_tree = refl
join_nothing (a_tree t ts) = ap (a_tree t) (join_nothing ts)

pub join_assoc : (ts us vs : Trees ActionSpan) → join (join ts us) vs ≡ join ts (join us vs)
join_assoc no_tree us vs = refl
join_assoc (a_tree t ts) us vs = ap (a_tree t) (join_assoc ts us vs)

pub deeds_join : (ts us : Trees ActionSpan) → deeds_in (join ts us) ≡ deeds_in ts ++ deeds_in us
deeds_join no_tree us = refl
deeds_join (a_tree t ts) us = ap (λ x. deeds_of t ++ x) (deeds_join ts us) ∙ sym (append_assoc (deeds_of t) (deeds_in ts) (deeds_in us))

pub deeds_behind : (ts : Trees ActionSpan) (t : LabelledTree ActionSpan) → deeds_in (behind ts t) ≡ deeds_in ts ++ deeds_of t
deeds_behind ts t = deeds_join ts (a_tree t no_tree) ∙ ap (λ x. deeds_in ts ++ x) (append-nil (deeds_of t))

pub whole_join : (ts us : Trees ActionSpan) → AreWhole ts → AreWhole us → AreWhole (join ts us)
whole_join no_tree us h k = k
whole_join (a_tree (node s is) ts) us h k = (h.0, h.1, whole_join ts us h.2 k)

-- ---- runs

pub run_append : (xs ys : List Deed) (b : Built) → run b (xs ++ ys) ≡ run (run b xs) ys
run_append [] ys b = refl
run_append (d ∷ xs) ys b = run_append xs ys (after b d.0 d.1)

-- one of the three ways on
abbrev pub Way : Built → Deed → Built → Type 0
Way b d c = Alone b d c ⊎ (Opens b d c ⊎ Closes b d c)

-- what each step keeps is kept
pub along : {X : Built → Type 0} → ((b : Built) (d : Deed) (c : Built) → Way b d c → X b → X c)
    → (ds : List Deed) (p : Position) (ps : List Position) (b : Built) → Fits (end_at p) ps b.around → Follows p ps ds → X b → X (run b ds)
along keep [] p ps b fits f x = x
along keep (d ∷ ds) p ps b fits f x = let s = step p ps b d ds fits f in along keep ds s.0 s.1 (after b d.0 d.1) s.2 s.3 (keep b d (after b d.0 d.1) s.4 x)

-- ---- the deeds of what is built

pub step_deeds : (b : Built) (d : Deed) (c : Built) → Way b d c → deeds_so_far c ≡ deeds_so_far b ++ d ∷ []
step_deeds b d c (inl h) =
    let none : end_of d.0 ≡ None = (subst (λ z. EndsBy z d.0) h.0 (ends_by d.0)).0 in
    let leaf : LabelledTree ActionSpan = node (record { action = d.0; first = d.1; last = d.1 }) no_tree in
    let one : deeds_of leaf ≡ d ∷ [] = ap (λ x. d ∷ ending x d.1) none in
    ap deeds_so_far h.1
    ∙ (ap (λ x. deeds_around b.around ++ x) (deeds_behind b.here leaf ∙ ap (λ x. deeds_in b.here ++ x) one)
    ∙ sym (append_assoc (deeds_around b.around) (deeds_in b.here) (d ∷ [])))
step_deeds b d c (inr (inl h)) =
    ap deeds_so_far h.1
    ∙ (append-nil (deeds_around b.around ++ (deeds_in b.here ++ d ∷ []))
    ∙ sym (append_assoc (deeds_around b.around) (deeds_in b.here) (d ∷ [])))
step_deeds b d c (inr (inr h)) =
    let o = h.0 in
    let os = h.1 in
    let t : LabelledTree ActionSpan = ended_tree o b.here d.1 in
    let first : Deed = (o.action, o.first) in
    let last : deeds_of t ≡ first ∷ (deeds_in b.here ++ d ∷ []) = ap (λ x. first ∷ (deeds_in b.here ++ ending x d.1)) h.3 in
    let split : deeds_around (o ∷ os) ++ (deeds_in b.here ++ d ∷ []) ≡ deeds_around os ++ (deeds_in o.before ++ (first ∷ (deeds_in b.here ++ d ∷ []))) =
    append_assoc (deeds_around os) (deeds_in o.before ++ first ∷ []) (deeds_in b.here ++ d ∷ [])
    ∙ ap (λ x. deeds_around os ++ x) (append_assoc (deeds_in o.before) (first ∷ []) (deeds_in b.here ++ d ∷ [])) in
    ap deeds_so_far h.4
    ∙ (ap (λ x. deeds_around os ++ x) (deeds_behind o.before t ∙ ap (λ x. deeds_in o.before ++ x) last)
    ∙ (sym split
    ∙ (ap (λ x. deeds_around x ++ (deeds_in b.here ++ d ∷ [])) (sym h.2)
    ∙ sym (append_assoc (deeds_around b.around) (deeds_in b.here) (d ∷ [])))))

pub run_deeds : (ds : List Deed) (p : Position) (ps : List Position) (b : Built) → Fits (end_at p) ps b.around → Follows p ps ds → deeds_so_far (run b ds) ≡ deeds_so_far b ++ ds
run_deeds [] p ps b fits f = sym (append-nil (deeds_so_far b))
run_deeds (d ∷ ds) p ps b fits f =
    let s = step p ps b d ds fits f in
    run_deeds ds s.0 s.1 (after b d.0 d.1) s.2 s.3
    ∙ (ap (λ x. x ++ ds) (step_deeds b d (after b d.0 d.1) s.4) ∙ append_assoc (deeds_so_far b) (d ∷ []) ds)

-- ---- they are whole

-- so are the trees before each of what is open
abbrev pub AllBefore : (Trees ActionSpan → Type 0) → List Open → Type 0
AllBefore Q [] = Unit {0}
AllBefore Q (o ∷ os) = Q o.before × AllBefore Q os

abbrev pub AllBuilt : (Trees ActionSpan → Type 0) → Built → Type 0
AllBuilt Q b = Q b.here × AllBefore Q b.around

pub step_whole : (b : Built) (d : Deed) (c : Built) → Way b d c → AllBuilt AreWhole b → AllBuilt AreWhole c
step_whole b d c (inl h) w =
    let e = subst (λ z. EndsBy z d.0) h.0 (ends_by d.0) in
    let s : ActionSpan = record { action = d.0; first = d.1; last = d.1 } in
    let one : IsWholeStep (end_of d.0) s no_tree = subst (λ x. IsWholeStep x s no_tree) (sym e.0) (e.1, refl, refl) in
    subst (AllBuilt AreWhole) (sym h.1) (whole_join b.here (a_tree (node s no_tree) no_tree) w.0 (one, tt, tt), w.1)
step_whole b d c (inr (inl h)) w = subst (AllBuilt AreWhole) (sym h.1) (tt, w)
step_whole b d c (inr (inr h)) w =
    let o = h.0 in
    let around = subst (AllBefore AreWhole) h.2 w.1 in
    let s : ActionSpan = record { action = o.action; first = o.first; last = d.1 } in
    let one : IsWholeStep (end_of o.action) s b.here = subst (λ x. IsWholeStep x s b.here) (sym h.3) tt in
    subst (AllBuilt AreWhole) (sym h.4) (whole_join o.before (a_tree (node s b.here) no_tree) around.0 (one, w.0, tt), around.1)

pub run_whole : (ds : List Deed) (p : Position) (ps : List Position) (b : Built) → Fits (end_at p) ps b.around → Follows p ps ds → AllBuilt AreWhole b → AllBuilt AreWhole (run b ds)
run_whole = along step_whole

-- ---- law 1

pub built_runs : (es : List Event) → built es ≡ run nothing_built (deeds es)
built_runs es = built_by_deeds es nothing_built 0

pub built_deeds : (es : List Event) → Nests at_root [] es → deeds es ≡ deeds_so_far (built es)
built_deeds es h = sym (ap deeds_so_far (built_runs es) ∙ run_deeds (deeds es) at_root [] nothing_built refl (nests_deeds es at_root [] 0 h))

pub built_whole : (es : List Event) → Nests at_root [] es → AllBuilt AreWhole (built es)
built_whole es h = subst (AllBuilt AreWhole) (sym (built_runs es)) (run_whole (deeds es) at_root [] nothing_built refl (nests_deeds es at_root [] 0 h) (tt, tt))

pub built_forest : (es : List Event) → Nests at_root [] es → (built es).around ≡ [] → IsForestOf es (built es).here
built_forest es h e = ((built_whole es h).0, built_deeds es h ∙ ap (λ x. deeds_around x ++ deeds_in (built es).here) e)

-- ---- law 2

alone_sort : (a : Action) (s : Sort) → sort_of a ≡ s → end_of a ≡ None → is_end a ≡ false → sort_of a ≡ alone
alone_sort a alone e n f = e
alone_sort a opening e n f = let x = subst (λ z. EndsBy z a) e (ends_by a) in let wrong : Some x.0 ≡ None = sym x.1 ∙ n in cc
alone_sort a closing e n f = let x = subst (λ z. EndsBy z a) e (ends_by a) in let wrong : true ≡ false = sym x.1 ∙ f in cc

opening_sort : (a x : Action) (s : Sort) → sort_of a ≡ s → end_of a ≡ Some x → sort_of a ≡ opening
opening_sort a x alone e n = let y = subst (λ z. EndsBy z a) e (ends_by a) in let wrong : None ≡ Some x = sym y.0 ∙ n in cc
opening_sort a x opening e n = e
opening_sort a x closing e n = let y = subst (λ z. EndsBy z a) e (ends_by a) in let wrong : None ≡ Some x = sym y.0 ∙ n in cc

pub after_sort : (s : Sort) (b : Built) (a : Action) (k : ℕ) → sort_of a ≡ s → after b a k ≡ after_by s b a k
after_sort s b a k e = subst (λ z. after b a k ≡ after_by z b a k) e (after_is a b k)

pub after_begin : (b : Built) (a x : Action) (k : ℕ) → end_of a ≡ Some x → after b a k ≡ with_begin b a k
after_begin b a x k e = after_sort opening b a k (opening_sort a x (sort_of a) refl e)

pub after_end : (here : Trees ActionSpan) (o : Open) (os : List Open) (a : Action) (k : ℕ) → end_of o.action ≡ Some a → after (record { here = here; around = o ∷ os }) a k ≡ ended here o os k
after_end here o os a k e = after_sort closing (record { here = here; around = o ∷ os }) a k (end_sort o.action a e)

-- what is built behind trees
abbrev pub pushed : Built → Trees ActionSpan → Built
pushed b ts = record { here = join b.here ts; around = b.around }

-- a tree, given what its inner trees do
run_node : (b : Built) (s : ActionSpan) (ts : Trees ActionSpan) → ((c : Built) → run c (deeds_in ts) ≡ pushed c ts) → (x : Option Action) → end_of s.action ≡ x → IsWholeStep x s ts
    → run b ((s.action, s.first) ∷ (deeds_in ts ++ ending x s.last)) ≡ pushed b (a_tree (node s ts) no_tree)
run_node b s ts inner (Some x) e w =
    let o : Open = record { action = s.action; first = s.first; before = b.here } in
    ap (λ c. run c (deeds_in ts ++ (x, s.last) ∷ [])) (after_begin b s.action x s.first e)
    ∙ (run_append (deeds_in ts) ((x, s.last) ∷ []) (with_begin b s.action s.first)
    ∙ (ap (λ c. after c x s.last) (inner (with_begin b s.action s.first))
    ∙ after_end ts o b.around x s.last e))
run_node b s ts inner None e w =
    let plain : sort_of s.action ≡ alone = alone_sort s.action (sort_of s.action) refl e w.0 in
    let same : record { action = s.action; first = s.first; last = s.first } ≡ s = ap (λ k. let z : ActionSpan = record { action = s.action; first = s.first; last = k } in z) (sym w.1) in
    ap (λ us. run (after b s.action s.first) (deeds_in us ++ [])) w.2
    ∙ (after_sort alone b s.action s.first plain
    ∙ (ap (λ z. pushed b (a_tree (node z no_tree) no_tree)) same
    ∙ ap (λ us. pushed b (a_tree (node s us) no_tree)) (sym w.2)))

pub run_trees : (ts : Trees ActionSpan) → AreWhole ts → (b : Built) → run b (deeds_in ts) ≡ pushed b ts
run_trees no_tree w b = ap (λ x. let c : Built = record { here = x; around = b.around } in c) (sym (join_nothing b.here))
run_trees (a_tree (node s is) ts) w b =
    run_append (deeds_of (node s is)) (deeds_in ts) b
    ∙ (ap (λ c. run c (deeds_in ts)) (run_node b s is (λ c. run_trees is w.1 c) (end_of s.action) refl w.0)
    ∙ (run_trees ts w.2 (pushed b (a_tree (node s is) no_tree))
    ∙ ap (λ x. let c : Built = record { here = x; around = b.around } in c) (join_assoc b.here (a_tree (node s is) no_tree) ts)))

pub run_tree : (t : LabelledTree ActionSpan) (b : Built) → AreWhole (a_tree t no_tree) → run b (deeds_of t) ≡ pushed b (a_tree t no_tree)
run_tree t b w = ap (run b) (sym (append-nil (deeds_of t))) ∙ run_trees (a_tree t no_tree) w b

-- what was read is one forest
pub forest_is_built : (es : List Event) (ts : Trees ActionSpan) → IsForestOf es ts → built es ≡ record { here = ts; around = [] }
forest_is_built es ts h = built_runs es ∙ (ap (run nothing_built) h.1 ∙ run_trees ts h.0 nothing_built)

-- ---- one operation

abbrev pub FollowsTo : Position → List Position → List Deed → Position → List Position → Type 0
FollowsTo p ps [] to back = (p ≡ to) × (ps ≡ back)
FollowsTo p ps (d ∷ ds) to back = NestsBy (move p d.0) ps (λ q qs. FollowsTo q qs ds to back)

leads_deeds : (es : List Event) (p : Position) (ps : List Position) (n : ℕ) (to : Position) (back : List Position) → Leads p ps es to back → FollowsTo p ps (deeds_from n es) to back
leads_deeds [] p ps n to back h = h
leads_deeds (Took ∷ es) p ps n to back h = leads_deeds es p ps (n + 1) to back h
leads_deeds (Did a ∷ es) p ps n to back h = by_move (move p a) ps (λ q qs h. leads_deeds es q qs n to back h) h

module _ (values : Values) (text : ℕ → List ℕ) where
  -- names of results stand before what comes
  abbrev Ready : List ℕ → Trees ActionSpan → Type 0
  Ready names ts = (us : Trees ActionSpan) → operations_in values text [] (join ts us) ≡ operations_in values text names us

  -- the trees at a position
  abbrev Content : Position → Trees ActionSpan → Type 0
  Content at_root ts = (names : List ℕ) × Ready names ts
  Content behind_root_results ts = (names : List ℕ) × Ready names ts
  Content at_end ts = (e : Entity ℕ) × (operations_in values text [] ts ≡ an_entity e no_entity)
  Content _ ts = Unit {0}

  abbrev AroundContent : List Position → List Open → Type 0
  AroundContent [] os = Unit {0}
  AroundContent (q ∷ qs) [] = Unit {0}
  AroundContent (q ∷ qs) (o ∷ os) = ((ts : Trees ActionSpan) (k : ℕ) → Content q (behind o.before (ended_tree o ts k))) × AroundContent qs os

  abbrev ContentSays : Position → Action → Move → Type 0
  ContentSays p a (goes_to q) = (ts : Trees ActionSpan) (k : ℕ) → Content p ts → Content q (behind ts (node (record { action = a; first = k; last = k }) no_tree))
  ContentSays p a (goes_in i q) = Content i no_tree × ((ts us : Trees ActionSpan) (k n : ℕ) → Content p ts → Content q (behind ts (node (record { action = a; first = k; last = n }) us)))
  ContentSays p a _ = Unit {0}

  inner : (q : Position) (x : Action) → end_at q ≡ Some x → (ts : Trees ActionSpan) → Content q ts
  inner at_root x e ts = cc
  inner behind_root_results x e ts = cc
  inner at_end x e ts = cc
  inner _ x e ts = tt

  inner_says : (p : Position) (x a : Action) → end_at p ≡ Some x → (m : Move) → Says p a m → ContentSays p a m
  inner_says p x a e (goes_to q) s = λ ts k c. inner q x (s.1 ∙ e) (behind ts (node (record { action = a; first = k; last = k }) no_tree))
  inner_says p x a e (goes_in i q) s =
      let y = subst (λ z. EndsBy z a) s.0 (ends_by a) in
      (inner i y.0 (sym s.2 ∙ y.1) no_tree, λ ts us k n c. inner q x (s.1 ∙ e) (behind ts (node (record { action = a; first = k; last = n }) us)))
  inner_says p x a e goes_out s = tt
  inner_says p x a e nowhere s = tt

  one_result : (ts : Trees ActionSpan) (k : ℕ) → ((names : List ℕ) × Ready names ts) → (names : List ℕ) × Ready names (behind ts (node (record { action = act.Result; first = k; last = k }) no_tree))
  one_result ts k c =
      let t : LabelledTree ActionSpan = node (record { action = act.Result; first = k; last = k }) no_tree in
      (c.0 ++ k ∷ [], λ us. ap (operations_in values text []) (join_assoc ts (a_tree t no_tree) us) ∙ c.1 (a_tree t us))

  one_operation : (kind : ℕ) (ts us : Trees ActionSpan) (k n : ℕ) → ((names : List ℕ) × Ready names ts)
      → (e : Entity ℕ) × (operations_in values text [] (behind ts (node (record { action = act.Operation kind; first = k; last = n }) us)) ≡ an_entity e no_entity)
  one_operation kind ts us k n c =
      let t : LabelledTree ActionSpan = node (record { action = act.Operation kind; first = k; last = n }) us in
      (entity (head_of values text c.0 us kind) (regions_in values text us), c.1 (a_tree t no_tree))

  root_says : (a : Action) → ContentSays at_root a (move at_root a)
  root_says act.Result = one_result
  root_says (act.Operation kind) = (tt, one_operation kind)
  root_says _ = tt

  results_says : (a : Action) → ContentSays behind_root_results a (move behind_root_results a)
  results_says act.Result = one_result
  results_says (act.Operation kind) = (tt, one_operation kind)
  results_says _ = tt

  content_says : (p : Position) (a : Action) → (e : Option Action) → end_at p ≡ e → ContentSays p a (move p a)
  content_says at_root a e h = root_says a
  content_says behind_root_results a e h = results_says a
  content_says at_end a e h = tt
  content_says p a (Some x) h = inner_says p x a h (move p a) (says p a)
  content_says p a None h = cc

  content_run : (ds : List Deed) (p : Position) (ps : List Position) (b : Built) (to : Position) (back : List Position)
      → Fits (end_at p) ps b.around → FollowsTo p ps ds to back → Content p b.here → AroundContent ps b.around
      → Fits (end_at to) back (run b ds).around × Content to (run b ds).here
  content_run [] p ps b to back fits f c cs =
      (subst (λ z. Fits (end_at z) back b.around) f.0 (subst (λ z. Fits (end_at p) z b.around) f.1 fits), subst (λ z. Content z b.here) f.0 c)
  content_run (d ∷ ds) p ps b to back fits f c cs =
      go (move p d.0) ps b.around refl fits (says p d.0) (content_says p d.0 (end_at p) refl) cs f (λ q qs fits f c cs. content_run ds q qs (after b d.0 d.1) to back fits f c cs)
    where
      go : (m : Move) (ps : List Position) (around : List Open) → b.around ≡ around → Fits (end_at p) ps around → Says p d.0 m → ContentSays p d.0 m → AroundContent ps around
          → NestsBy m ps (λ q qs. FollowsTo q qs ds to back)
          → ((q : Position) (qs : List Position) → Fits (end_at q) qs (after b d.0 d.1).around → FollowsTo q qs ds to back → Content q (after b d.0 d.1).here → AroundContent qs (after b d.0 d.1).around
          → Fits (end_at to) back (run (after b d.0 d.1) ds).around × Content to (run (after b d.0 d.1) ds).here)
          → Fits (end_at to) back (run (after b d.0 d.1) ds).around × Content to (run (after b d.0 d.1) ds).here
      go (goes_to q) ps around e fits s k cs f rec =
          let now = after_sort alone b d.0 d.1 s.0 in
          let there = sym e ∙ sym (ap (λ z. z.around) now) in
          rec q ps (subst (λ z. Fits z ps (after b d.0 d.1).around) (sym s.1) (subst (Fits (end_at p) ps) there fits)) f
          (subst (Content q) (sym (ap (λ z. z.here) now)) (k b.here d.1 c)) (subst (AroundContent ps) there cs)
      go (goes_in i q) ps around e fits s k cs f rec =
          let now = after_sort opening b d.0 d.1 s.0 in
          let x = subst (λ z. EndsBy z d.0) s.0 (ends_by d.0) in
          let opened : Open = record { action = d.0; first = d.1; before = b.here } in
          let there : Fits (end_at q) ps b.around = subst (λ z. Fits z ps b.around) (sym s.1) (subst (Fits (end_at p) ps) (sym e) fits) in
          let whole : Fits (end_at i) (q ∷ ps) (opened ∷ b.around) = (x.0, x.1, sym s.2 ∙ x.1, s.3, there) in
          let outer : AroundContent (q ∷ ps) (opened ∷ b.around) = ((λ ts n. k.1 b.here ts d.1 n c), subst (AroundContent ps) (sym e) cs) in
          let around_now = sym (ap (λ z. z.around) now) in
          rec i (q ∷ ps) (subst (Fits (end_at i) (q ∷ ps)) around_now whole) f (subst (Content i) (sym (ap (λ z. z.here) now)) k.0) (subst (AroundContent (q ∷ ps)) around_now outer)
      go goes_out [] around e fits s k cs f rec = absurd f
      go goes_out (q ∷ qs) [] e fits s k cs f rec = absurd fits
      go goes_out (q ∷ qs) (o ∷ os) e fits s k cs f rec =
          let now : after b d.0 d.1 ≡ ended b.here o os d.1 = after_sort closing b d.0 d.1 s.0 ∙ ap (λ z. with_end b.here z d.1) e in
          rec q qs (subst (Fits (end_at q) qs) (sym (ap (λ z. z.around) now)) fits.4) f
          (subst (Content q) (sym (ap (λ z. z.here) now)) (cs.0 b.here d.1)) (subst (AroundContent qs) (sym (ap (λ z. z.around) now)) cs.1)
      go nowhere ps around e fits s k cs f rec = absurd f

  nothing_around : (os : List Open) → Fits None [] os → os ≡ []
  nothing_around [] h = refl
  nothing_around (o ∷ os) h = absurd h

  pub one_root : (es : List Event) → Leads at_root [] es at_end []
      → ((built es).around ≡ []) × ((e : Entity ℕ) × (operations_in values text [] (built es).here ≡ an_entity e no_entity))
  one_root es h =
      let r = content_run (deeds es) at_root [] nothing_built at_end [] refl (leads_deeds es at_root [] 0 at_end [] h) ([], λ us. refl) tt in
      let same = built_runs es in
      (ap (λ z. z.around) same ∙ nothing_around (run nothing_built (deeds es)).around r.0, subst (Content at_end) (sym (ap (λ z. z.here) same)) r.1)

-- the pieces don't matter for what is open
nothing_refused : Values
nothing_refused = record { refused_type = λ kind ps. None; refused_attribute = λ kind ps. None; refused_operation = λ kind ps. None; canonical = λ kind ps. ps; result_types = λ kind ps. [] }

pub built_ended : (es : List Event) → Leads at_root [] es at_end [] → (built es).around ≡ []
built_ended es h = (one_root nothing_refused (λ k. []) es h).0

-- where reading leads somewhere, its actions nest
pub leads_nests : (es : List Event) (p : Position) (ps : List Position) (to : Position) (back : List Position) → Leads p ps es to back → Nests p ps es
leads_nests [] p ps to back h = tt
leads_nests (Took ∷ es) p ps to back h = leads_nests es p ps to back h
leads_nests (Did a ∷ es) p ps to back h = by_move (move p a) ps (λ q qs h. leads_nests es q qs to back h) h

-- where actions nest, they lead somewhere
pub nests_lead : (es : List Event) (p : Position) (ps : List Position) → Nests p ps es → (to : Position) × (back : List Position) × Leads p ps es to back
nests_lead [] p ps h = (p, ps, (refl, refl))
nests_lead (Took ∷ es) p ps h = nests_lead es p ps h
nests_lead (Did a ∷ es) p ps h = go (move p a) ps h (λ q qs h. nests_lead es q qs h)
  where
    go : (m : Move) (ps : List Position) → NestsBy m ps (λ q qs. Nests q qs es) → ((q : Position) (qs : List Position) → Nests q qs es → (to : Position) × (back : List Position) × Leads q qs es to back)
        → (to : Position) × (back : List Position) × NestsBy m ps (λ q qs. Leads q qs es to back)
    go (goes_to q) ps h rec = rec q ps h
    go (goes_in i q) ps h rec = rec i (q ∷ ps) h
    go goes_out [] h rec = absurd h
    go goes_out (q ∷ ps) h rec = rec q ps h
    go nowhere ps h rec = absurd h
