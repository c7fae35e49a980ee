-- The faults that are met at ends are those of the values that were read.
use Rattle.std.proofs.Common.{◌≡◌, ℕ, false, List, [], ◌∷◌, ◌++◌, length, Option, Some, None, refl, sym, subst, ap, ◌∙◌, ◌⊎◌, inl, inr}
use Rattle.std.proofs.lemmas.List.{append_assoc, append-nil, map-append}
use Rattle.ir_names.specs.Tree.{LabelledTree, Trees, node, no_tree, a_tree}
use Rattle.ir_print.specs.Pieces.{Values}
use Rattle.ir_grammar.specs.declared.grammar.Action.{Action}
use Rattle.ir_grammar.specs.declared.grammar.Action.TheVariants as act
use Rattle.ir_grammar.specs.declared.grammar.Event.{Event}
use Rattle.ir_tokens.specs.declared.faults.Fault.{Fault}
use Rattle.ir_tokens.specs.declared.faults.FaultKind.TheVariants as kinds
use Rattle.ir_tokens.specs.Faults.{IsNamed}
use Rattle.ir_forest.specs.Forest.{end_of, Deed, deeds, ActionSpan, ending, deeds_of, deeds_in, IsWholeStep, AreWhole}
use Rattle.ir_forest.specs.Meaning.{pieces_in}
use Rattle.ir_grammar.specs.Nesting.{Position, at_root, move, Nests, FollowTokens}
use Rattle.ir_forest.specs.ValueFaults.{first_token, results, EndsInResult, HasNumberFault, HasNamesFault}
use Rattle.ir_forest.specs.Building.{Open, Built, nothing_built, with_begin, after, with_name, names_behind, first_refusal}
use Rattle.ir_forest.specs.Progress.{deeds_around, deeds_so_far, run}
use Rattle.ir_tokens.proofs.FirstFault.{named_along}
use Rattle.ir_forest.proofs.BuiltSteps.{alone, opening, closing, sort_of, end_sort, end_at, Follows, by_move, nests_deeds, Fits, step}
use Rattle.ir_forest.proofs.BuiltTrees.{AllBuilt, after_begin, pushed, run_trees, run_deeds, run_whole, step_deeds, step_whole}
use Rattle.ir_forest.proofs.BuiltEnds.{root_grows, refused_ends, NamesAt, HasAt, Somewhere, refusal, refusal_by_deeds, named}

-- ---- the names behind all other deeds

-- the names of results behind all other deeds, these standing before
abbrev trailing : List ℕ → List Deed → List ℕ
trailing names [] = names
trailing names (d ∷ ds) = trailing (with_name names d.0 d.1) ds

trailing_append : (xs ys : List Deed) (names : List ℕ) → trailing names (xs ++ ys) ≡ trailing (trailing names xs) ys
trailing_append [] ys names = refl
trailing_append (d ∷ xs) ys names = trailing_append xs ys (with_name names d.0 d.1)

trailing_results : (ks names : List ℕ) → trailing names (results ks) ≡ names ++ ks
trailing_results [] names = sym (append-nil names)
trailing_results (k ∷ ks) names = trailing_results ks (names ++ k ∷ []) ∙ append_assoc names (k ∷ []) ks

-- other actions name no result
no_name : (a : Action) → (a ≡ act.Result → ⊥) → (names : List ℕ) (k : ℕ) → with_name names a k ≡ []
no_name act.Result h names k = absurd (h refl)
no_name _ h names k = refl

result_or : (a : Action) → (a ≡ act.Result) ⊎ (a ≡ act.Result → ⊥)
result_or act.Result = inl refl
result_or (act.Operation kind) = inr (λ e. let x : opening ≡ alone = ap sort_of e in cc)
result_or act.EndOperation = inr (λ e. let x : closing ≡ alone = ap sort_of e in cc)
result_or _ = inr (λ e. cc)

opening_other : (a x : Action) → end_of a ≡ Some x → a ≡ act.Result → ⊥
opening_other a x h e = let wrong : Some x ≡ None = sym h ∙ ap end_of e in cc

closing_other : (a x : Action) → end_of a ≡ Some x → x ≡ act.Result → ⊥
closing_other a x h e = let wrong : closing ≡ alone = sym (end_sort a x h) ∙ ap sort_of e in cc

-- ---- deeds that end in no name of a result

last_of : Option Action → List Deed → Option Action
last_of o [] = o
last_of o (d ∷ ds) = last_of (Some d.0) ds

last_one : (xs : List Deed) (d : Deed) (o : Option Action) → last_of o (xs ++ d ∷ []) ≡ Some d.0
unfolding last_of
last_one [] d o = refl
last_one (x ∷ xs) d o = last_one xs d (Some x.0)

other_last : (xs : List Deed) (d : Deed) → (d.0 ≡ act.Result → ⊥) → EndsInResult (xs ++ d ∷ []) → ⊥
other_last xs d h e =
    let same : Some d.0 ≡ Some act.Result = sym (last_one xs d None) ∙ (ap (last_of None) e.2 ∙ last_one e.0 (act.Result, e.1) None) in
    h (let is : d.0 ≡ act.Result = cc in is)

nothing_last : EndsInResult [] → ⊥
unfolding last_of
nothing_last e = let wrong : None ≡ Some act.Result = ap (last_of None) e.2 ∙ last_one e.0 (act.Result, e.1) None in cc

-- deeds are others, and then names of results
names_split : (ds xs : List Deed) (names : List ℕ) → (EndsInResult xs → ⊥)
    → (ys : List Deed) × (EndsInResult ys → ⊥) × ((xs ++ results names) ++ ds ≡ ys ++ results (trailing names ds))
names_split [] xs names h = (xs, h, append-nil (xs ++ results names))
names_split (d ∷ ds) xs names h = go (result_or d.0) (λ xs names h. names_split ds xs names h)
  where
    go : (d.0 ≡ act.Result) ⊎ (d.0 ≡ act.Result → ⊥)
        → ((xs : List Deed) (names : List ℕ) → (EndsInResult xs → ⊥) → (ys : List Deed) × (EndsInResult ys → ⊥) × ((xs ++ results names) ++ ds ≡ ys ++ results (trailing names ds)))
        → (ys : List Deed) × (EndsInResult ys → ⊥) × ((xs ++ results names) ++ (d ∷ ds) ≡ ys ++ results (trailing (with_name names d.0 d.1) ds))
    go (inl e) rec =
        let r = rec xs (names ++ d.1 ∷ []) h in
        let one : Deed = (act.Result, d.1) in
        let same : d ≡ one = ap (λ a. let x : Deed = (a, d.1) in x) e in
        let more : xs ++ results (names ++ d.1 ∷ []) ≡ (xs ++ results names) ++ one ∷ [] =
        ap (λ z. xs ++ z) (map-append (λ k. (act.Result, k)) names (d.1 ∷ [])) ∙ sym (append_assoc xs (results names) (one ∷ [])) in (
          r.0,
          r.1,
          ap (λ z. (xs ++ results names) ++ (z ∷ ds)) same
              ∙ (sym (append_assoc (xs ++ results names) (one ∷ []) ds)
              ∙ (ap (λ z. z ++ ds) (sym more)
              ∙ (r.2
              ∙ ap (λ a. r.0 ++ results (trailing (with_name names a d.1) ds)) (sym e)))),
        )
    go (inr e) rec =
        let r = rec ((xs ++ results names) ++ d ∷ []) [] (other_last (xs ++ results names) d e) in (
          r.0,
          r.1,
          sym (append_assoc (xs ++ results names) (d ∷ []) ds)
              ∙ (ap (λ z. z ++ ds) (sym (append-nil ((xs ++ results names) ++ d ∷ [])))
              ∙ (r.2
              ∙ ap (λ z. r.0 ++ results (trailing z ds)) (sym (no_name d.0 e names d.1)))),
        )

-- Deeds that end in no name have no names behind them.
others_trail : (ds : List Deed) (names : List ℕ) → (EndsInResult ds → ⊥) → (ds ≡ []) ⊎ (trailing names ds ≡ [])
others_trail [] names h = inl refl
others_trail (d ∷ ds) names h = inr (go (others_trail ds (with_name names d.0 d.1) (λ e. h (d ∷ e.0, e.1, ap (λ z. d ∷ z) e.2))) (result_or d.0))
  where
    go : (ds ≡ []) ⊎ (trailing (with_name names d.0 d.1) ds ≡ []) → (d.0 ≡ act.Result) ⊎ (d.0 ≡ act.Result → ⊥) → trailing (with_name names d.0 d.1) ds ≡ []
    go (inr e) r = e
    go (inl e) (inl r) = absurd (h ([], d.1, ap (λ z. d ∷ z) e ∙ ap (λ a. let x : Deed = (a, d.1) in x ∷ []) r))
    go (inl e) (inr r) = ap (trailing (with_name names d.0 d.1)) e ∙ no_name d.0 r names d.1

others_trail_none : (ds : List Deed) → (EndsInResult ds → ⊥) → trailing [] ds ≡ []
others_trail_none ds h = elim (others_trail ds [] h) [ inl e ↦ ap (trailing []) e | inr e ↦ e ]

-- the names behind trees are those behind their deeds
trailing_node : (s : ActionSpan) (ts : Trees ActionSpan) (names : List ℕ) (x : Option Action) → end_of s.action ≡ x → IsWholeStep x s ts
    → trailing names ((s.action, s.first) ∷ (deeds_in ts ++ ending x s.last)) ≡ with_name names s.action s.first
trailing_node s ts names (Some x) e w =
    trailing_append (deeds_in ts) ((x, s.last) ∷ []) (with_name names s.action s.first)
    ∙ (no_name x (closing_other s.action x e) (trailing (with_name names s.action s.first) (deeds_in ts)) s.last
    ∙ sym (no_name s.action (opening_other s.action x e) names s.first))
trailing_node s ts names None e w = ap (λ us. trailing (with_name names s.action s.first) (deeds_in us ++ [])) w.2

trailing_trees : (ts : Trees ActionSpan) (names : List ℕ) → AreWhole ts → trailing names (deeds_in ts) ≡ names_behind names ts
trailing_trees no_tree names w = refl
trailing_trees (a_tree (node s is) ts) names w =
    trailing_append (deeds_of (node s is)) (deeds_in ts) names
    ∙ (ap (λ z. trailing z (deeds_in ts)) (trailing_node s is names (end_of s.action) refl w.0)
    ∙ trailing_trees ts (with_name names s.action s.first) w.2)

around_other : (e : Option Action) (ps : List Position) (os : List Open) → Fits e ps os → EndsInResult (deeds_around os) → ⊥
around_other e [] [] f h = nothing_last h
around_other e [] (o ∷ os) f h = f
around_other e (p ∷ ps) [] f h = f
around_other e (p ∷ ps) (o ∷ os) f h =
    other_last (deeds_around os ++ deeds_in o.before) (o.action, o.first) (opening_other o.action f.0 f.1)
    (subst EndsInResult (sym (append_assoc (deeds_around os) (deeds_in o.before) ((o.action, o.first) ∷ []))) h)

-- the names that stand last among what is built
names_built : (e : Option Action) (ps : List Position) (b : Built) → Fits e ps b.around → AreWhole b.here → trailing [] (deeds_so_far b) ≡ names_behind [] b.here
names_built e ps b f w =
    trailing_append (deeds_around b.around) (deeds_in b.here) []
    ∙ (ap (λ z. trailing z (deeds_in b.here)) (others_trail_none (deeds_around b.around) (around_other e ps b.around f))
    ∙ trailing_trees b.here [] w)

-- ---- reading a front

follows_front : (xs ys : List Deed) (p : Position) (ps : List Position) → Follows p ps (xs ++ ys) → Follows p ps xs
follows_front [] ys p ps h = tt
follows_front (d ∷ xs) ys p ps h = by_move (move p d.0) ps (λ q qs h. follows_front xs ys q qs h) h

fits_run : (ds : List Deed) (p : Position) (ps : List Position) (b : Built) → Fits (end_at p) ps b.around → Follows p ps ds → (q : Position) × (qs : List Position) × Fits (end_at q) qs (run b ds).around
fits_run [] p ps b fits f = (p, ps, fits)
fits_run (d ∷ ds) p ps b fits f = let s = step p ps b d ds fits f in fits_run ds s.0 s.1 (after b d.0 d.1) s.2 s.3

module _ (values : Values) (text : ℕ → List ℕ) (es : List Event) where
  -- ---- what is met is so

  -- what ends here was read
  end_read : (here : Trees ActionSpan) (o : Open) (os : List Open) (d : Deed) (ds : List Deed) (s : ActionSpan) → (s ≡ record { action = o.action; first = o.first; last = d.1 }) → end_of o.action ≡ Some d.0
      → (deeds_around (o ∷ os) ++ deeds_in here) ++ (d ∷ ds) ≡ deeds es
      → deeds es ≡ (deeds_around os ++ deeds_in o.before) ++ (deeds_of (node s here) ++ ds)
  end_read here o os d ds s is e all =
      let first : Deed = (o.action, o.first) in
      let t : LabelledTree ActionSpan = node (record { action = o.action; first = o.first; last = d.1 }) here in
      let tree : deeds_of t ≡ first ∷ (deeds_in here ++ d ∷ []) = ap (λ x. first ∷ (deeds_in here ++ ending x d.1)) e in
      sym all
      ∙ (ap (λ z. (z ++ deeds_in here) ++ (d ∷ ds)) (sym (append_assoc (deeds_around os) (deeds_in o.before) (first ∷ [])))
      ∙ (append_assoc ((deeds_around os ++ deeds_in o.before) ++ first ∷ []) (deeds_in here) (d ∷ ds)
      ∙ (append_assoc (deeds_around os ++ deeds_in o.before) (first ∷ []) (deeds_in here ++ (d ∷ ds))
      ∙ (ap (λ z. (deeds_around os ++ deeds_in o.before) ++ (first ∷ z)) (sym (append_assoc (deeds_in here) (d ∷ []) ds))
      ∙ (ap (λ z. (deeds_around os ++ deeds_in o.before) ++ (z ++ ds)) (sym tree)
      ∙ ap (λ z. (deeds_around os ++ deeds_in o.before) ++ (deeds_of (node z here) ++ ds)) (sym is))))))

  end_whole : (here : Trees ActionSpan) (o : Open) (d : Deed) → end_of o.action ≡ Some d.0 → AreWhole here → AreWhole (a_tree (node (record { action = o.action; first = o.first; last = d.1 }) here) no_tree)
  end_whole here o d e w =
      let s : ActionSpan = record { action = o.action; first = o.first; last = d.1 } in
      (subst (λ x. IsWholeStep x s here) (sym e) tt, w, tt)

  met_here : (here : Trees ActionSpan) (os : List Open) (e : Option Action) (ps : List Position) (d : Deed) (ds : List Deed) → Fits e ps os → AllBuilt AreWhole (record { here = here; around = os })
      → (deeds_around os ++ deeds_in here) ++ (d ∷ ds) ≡ deeds es → (f : Fault) → HasAt values text here os d f → HasNumberFault values text es f ⊎ HasNamesFault values text es f
  met_here here [] e ps d ds fits whole all f h = absurd h
  met_here here (o ∷ os) e [] d ds fits whole all f h = absurd fits
  met_here here (o ∷ os) e (p ∷ ps) d ds fits whole all f (end, inl h) =
      let s : ActionSpan = record { action = o.action; first = o.first; last = d.1 } in
      let read = end_read here o os d ds s refl end all in
      inl (s, here, h.0, (end_whole here o d end whole.0, deeds_around os ++ deeds_in o.before, ds, read), h.1, h.2, h.3)
  met_here here (o ∷ os) e (p ∷ ps) d ds fits whole all f (end, inr h) =
      let s : ActionSpan = record { action = o.action; first = o.first; last = d.1 } in
      let read = end_read here o os d ds s refl end all in
      let names : List ℕ = names_behind [] o.before in
      let split = names_split (deeds_in o.before) (deeds_around os) [] (around_other (end_at p) ps os fits.4) in
      let same : trailing [] (deeds_in o.before) ≡ names = trailing_trees o.before [] whole.1.0 in
      let front : deeds_around os ++ deeds_in o.before ≡ split.0 ++ results names =
      ap (λ z. z ++ deeds_in o.before) (sym (append-nil (deeds_around os))) ∙ (split.2 ∙ ap (λ z. split.0 ++ results z) same) in
      inr (
        names,
        h.0,
        s,
        here,
        split.0,
        ds,
        end_whole here o d end whole.0,
        read ∙ (ap (λ z. z ++ (deeds_of (node s here) ++ ds)) front ∙ append_assoc split.0 (results names) (deeds_of (node s here) ++ ds)),
        split.1,
        h.1,
        h.2,
        h.3,
      )

  met_so : (ds : List Deed) (p : Position) (ps : List Position) (b : Built) → Fits (end_at p) ps b.around → Follows p ps ds → AllBuilt AreWhole b → deeds_so_far b ++ ds ≡ deeds es
      → (f : Fault) → Somewhere values text b ds f → HasNumberFault values text es f ⊎ HasNamesFault values text es f
  met_so [] p ps b fits f whole all g h = absurd h
  met_so (d ∷ ds) p ps b fits f whole all g (inl h) = met_here b.here b.around (end_at p) ps d ds fits whole all g h
  met_so (d ∷ ds) p ps b fits f whole all g (inr h) =
      let s = step p ps b d ds fits f in
      met_so ds s.0 s.1 (after b d.0 d.1) s.2 s.3 (step_whole b d (after b d.0 d.1) s.4 whole)
      (ap (λ z. z ++ ds) (step_deeds b d (after b d.0 d.1) s.4) ∙ (append_assoc (deeds_so_far b) (d ∷ []) ds ∙ all)) g h

  -- ---- what is so is met

  somewhere_behind : (xs ys : List Deed) (b : Built) (f : Fault) → Somewhere values text (run b xs) ys f → Somewhere values text b (xs ++ ys) f
  somewhere_behind [] ys b f h = h
  somewhere_behind (d ∷ xs) ys b f h = inr (somewhere_behind xs ys (after b d.0 d.1) f h)

  somewhere_tree : (b : Built) (s : ActionSpan) (ts : Trees ActionSpan) (more : List Deed) (f : Fault) (x : Action) → end_of s.action ≡ Some x → AreWhole ts
      → HasAt values text ts (record { action = s.action; first = s.first; before = b.here } ∷ b.around) (x, s.last) f → Somewhere values text b (deeds_of (node s ts) ++ more) f
  somewhere_tree b s ts more f x e w h =
      let begun : Built = with_begin b s.action s.first in
      let within : Somewhere values text (pushed begun ts) ((x, s.last) ∷ more) f = inl h in
      let inner : Somewhere values text begun (deeds_in ts ++ ((x, s.last) ∷ more)) f =
      somewhere_behind (deeds_in ts) ((x, s.last) ∷ more) begun f (subst (λ c. Somewhere values text c ((x, s.last) ∷ more) f) (sym (run_trees ts w begun)) within) in
      let here : Somewhere values text (after b s.action s.first) (deeds_in ts ++ ((x, s.last) ∷ more)) f =
      subst (λ c. Somewhere values text c (deeds_in ts ++ ((x, s.last) ∷ more)) f) (sym (after_begin b s.action x s.first e)) inner in
      let whole : Somewhere values text b ((s.action, s.first) ∷ (deeds_in ts ++ ((x, s.last) ∷ more))) f = inr here in
      let same : deeds_of (node s ts) ++ more ≡ (s.action, s.first) ∷ (deeds_in ts ++ ((x, s.last) ∷ more)) =
      ap (λ z. ((s.action, s.first) ∷ (deeds_in ts ++ ending z s.last)) ++ more) e ∙ ap (λ z. (s.action, s.first) ∷ z) (append_assoc (deeds_in ts) ((x, s.last) ∷ []) more) in
      subst (λ z. Somewhere values text b z f) (sym same) whole

  number_met : (f : Fault) → HasNumberFault values text es f → Somewhere values text nothing_built (deeds es) f
  number_met f (s, ts, i, tree, sound, no_number, is) =
      let x = refused_ends values s.action (pieces_in values text ts) i no_number in
      subst (λ z. Somewhere values text nothing_built z f) (sym tree.3)
      (somewhere_behind tree.1 (deeds_of (node s ts) ++ tree.2) nothing_built f
      (somewhere_tree (run nothing_built tree.1) s ts tree.2 f x.0 x.1 tree.0.1 (x.1, inl (i, sound, no_number, is))))

  names_met : Nests at_root [] es → (f : Fault) → HasNamesFault values text es f → Somewhere values text nothing_built (deeds es) f
  names_met nests f (names, kind, s, ts, before, more, whole, read, other, operation, wrong, is) =
      let all : deeds es ≡ (before ++ results names) ++ (deeds_of (node s ts) ++ more) = read ∙ sym (append_assoc before (results names) (deeds_of (node s ts) ++ more)) in
      let follows : Follows at_root [] (before ++ results names) =
      follows_front (before ++ results names) (deeds_of (node s ts) ++ more) at_root [] (subst (Follows at_root []) all (nests_deeds es at_root [] 0 nests)) in
      let b : Built = run nothing_built (before ++ results names) in
      let fits = fits_run (before ++ results names) at_root [] nothing_built refl follows in
      let so_far : deeds_so_far b ≡ before ++ results names = run_deeds (before ++ results names) at_root [] nothing_built refl follows in
      let built_whole = run_whole (before ++ results names) at_root [] nothing_built refl follows (tt, tt) in
      let same : names_behind [] b.here ≡ names =
      sym (names_built (end_at fits.0) fits.1 b fits.2 built_whole.0)
      ∙ (ap (trailing []) so_far
      ∙ (trailing_append before (results names) []
      ∙ (ap (λ z. trailing z (results names)) (others_trail_none before other) ∙ trailing_results names []))) in
      let end : end_of s.action ≡ Some act.EndOperation = ap end_of operation in
      let o : Open = record { action = s.action; first = s.first; before = b.here } in
      let has : NamesAt values text ts o s.last f =
      (kind, operation, (λ e. wrong (ap length (sym same) ∙ e)), is ∙ ap (λ z. let g : Fault = record { kind = kinds.ResultNames; met = s.last; place = first_token z s.first } in g) (sym same)) in
      subst (λ z. Somewhere values text nothing_built z f) (sym all)
      (somewhere_behind (before ++ results names) (deeds_of (node s ts) ++ more) nothing_built f
      (somewhere_tree b s ts more f act.EndOperation end whole.1 (end, inr has)))

  -- ---- law 3

  pub refusal_is_named : Nests at_root [] es → FollowTokens false es
      → IsNamed (λ f. HasNumberFault values text es f ⊎ HasNamesFault values text es f) (first_refusal values text es)
  refusal_is_named nests fresh =
      let follows = nests_deeds es at_root [] 0 nests in
      let grow = root_grows es false 0 nests fresh (λ e. cc) in
      let first = named values text (deeds es) at_root [] nothing_built 0 refl follows grow (tt, tt) in
      let Has : Fault → Type 0 = λ f. HasNumberFault values text es f ⊎ HasNamesFault values text es f in
      subst (IsNamed Has) (sym (refusal_by_deeds values text es nothing_built 0))
      (named_along (Somewhere values text nothing_built (deeds es)) Has (refusal values text nothing_built (deeds es))
      (λ f h. met_so (deeds es) at_root [] nothing_built refl follows (tt, tt) refl f h)
      (λ f h. elim h [ inl x ↦ number_met f x | inr x ↦ names_met nests f x ]) first)
