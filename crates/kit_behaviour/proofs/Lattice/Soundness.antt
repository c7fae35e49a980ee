-- In each state of a run the values in scope are what closed facts say.
use Rattle.std.proofs.Common.{◌≡◌, ⊎_elim, ℕ, zero, suc, Bool, true, false, List, [], ◌∷◌, ◌++◌, Option, Some, None, refl, sym, ap, ◌∙◌, subst}
use Rattle.std.specs.Prelude.{map, if◌then◌else◌}
use Rattle.kit_behaviour.specs.Machine.{AllEdges, edge_at, chosen, Select, Arith, Edge, Op, Const, Calc, Emit, Call, Branch, Return, Fun, Frame, FunctionsByPath, Env, bind, bind_all, calc, go, with_result, effect, entry, results_of, left_in, arguments_in}
use Rattle.kit_behaviour.specs.Facts.{Knows, Lacks, Numbers, Open, knows, knows_more, unless_lacking, branch_knows, all_forwarded, Fact, Undetermined, Known, Unknown, FactAtOrBelow, fold_known, folds_to, FunctionFacts, AllUnknown, AllFactsAtOrBelow, EdgeClosedIn, BranchClosedIn, OpsClosed, AreClosedFacts}
use Rattle.kit_behaviour.specs.Scopes.{In, AllIn, entry_values, at_start, SameLength, EdgeScoped, OpScoped, OpsWith, BlocksWith}
use Rattle.kit_behaviour.proofs.Behaviour.FrameLemmas.{IsSameness, left_next, fr}
use Rattle.kit_behaviour.proofs.Behaviour.SameEffects.{EffectKeeps, IsInvariant}
use Rattle.kit_behaviour.proofs.Behaviour.EdgeLemmas.{taken_has}

-- a number is what a fact says
abbrev pub Holds : Fact → ℕ → Type 0
Holds Undetermined n = ⊥
Holds (Known m) n = n ≡ m
Holds Unknown n = Unit {0}

pub holds_below : (x y : Fact) (n : ℕ) → FactAtOrBelow x y → Holds y n → Holds x n
holds_below Unknown y n h k = tt
holds_below Undetermined Undetermined n h k = k
holds_below Undetermined (Known m) n h k = absurd h
holds_below Undetermined Unknown n h k = absurd h
holds_below (Known a) Undetermined n h k = absurd k
holds_below (Known a) (Known m) n h k = k ∙ sym h
holds_below (Known a) Unknown n h k = absurd h

pub holds_unknown : (x : Fact) (n : ℕ) → x ≡ Unknown → Holds x n
holds_unknown x n e = subst (λ y. Holds y n) (sym e) tt

holds_fold : (o : Option ℕ) (n : ℕ) → o ≡ Some n → Holds (fold_known o) n
holds_fold None n e = absurd (cc e)
holds_fold (Some m) n e = let x : n ≡ m = cc e in x

holds_calc : (a : Arith) (w : ℕ) (x y : Fact) (i j n : ℕ) → Holds x i → Holds y j → calc a w i j ≡ Some n → Holds (folds_to a w x y) n
holds_calc a w Undetermined y i j n hx hy e = absurd hx
holds_calc a w (Known k) Undetermined i j n hx hy e = absurd hy
holds_calc a w Unknown Undetermined i j n hx hy e = absurd hy
holds_calc a w (Known k) (Known m) i j n hx hy e = holds_fold (calc a w k m) n (ap (λ z. calc a w z m) (sym hx) ∙ ap (λ z. calc a w i z) (sym hy) ∙ e)
holds_calc a w (Known k) Unknown i j n hx hy e = tt
holds_calc a w Unknown (Known m) i j n hx hy e = tt
holds_calc a w Unknown Unknown i j n hx hy e = tt

-- numbers are what is known of them together
abbrev pub Told : Knows → List ℕ → Type 0
Told Lacks ns = ⊥
Told (Numbers ms) ns = ms ≡ ns
Told Open ns = Unit {0}

told_more : (t : Fact) (n : ℕ) (q : Knows) (ns : List ℕ) → Holds t n → Told q ns → Told (knows_more t q) (n ∷ ns)
told_more Undetermined n q ns h g = absurd h
told_more (Known m) n Lacks ns h g = absurd g
told_more (Known m) n (Numbers ms) ns h g = ap (λ z. z ∷ ms) (sym h) ∙ ap (λ l. n ∷ l) g
told_more (Known m) n Open ns h g = tt
told_more Unknown n Lacks ns h g = absurd g
told_more Unknown n (Numbers ms) ns h g = tt
told_more Unknown n Open ns h g = tt

pub told_unless : (q t : Knows) (ms ns : List ℕ) → Told q ms → Told t ns → Told (unless_lacking q t) ns
told_unless Lacks t ms ns h g = absurd h
told_unless (Numbers l) t ms ns h g = g
told_unless Open t ms ns h g = g

-- what edges forward is in scope
pub gives_in : {V : Type 0} (f : Option (Fun V)) (a : List V) (es : List (Edge V)) → AllEdges (EdgeScoped f a) es → AllIn (all_forwarded es) a
gives_in f a [] h = tt
gives_in {V} f a (e ∷ es) h = both e.forwards h.0.0 (gives_in f a es h.1)
  where
    both : (xs : List V) → AllIn xs a → AllIn (all_forwarded es) a → AllIn (xs ++ all_forwarded es) a
    both [] g k = k
    both (x ∷ xs) g k = (g.0, both xs g.1 k)

module _ {V : Type 0} (same : V → V → Bool) (law : IsSameness same) where
  module _ (k : FunctionFacts V) where
    abbrev pub AllHold : Env V → List V → Type 0
    AllHold e [] = Unit {0}
    AllHold e (v ∷ vs) = Holds (k.of v) (e v) × AllHold e vs

    pub in_holds : (e : Env V) (x : V) (vs : List V) → AllHold e vs → In x vs → Holds (k.of x) (e x)
    in_holds e x [] h i = absurd i
    in_holds e x (v ∷ vs) h i = ⊎_elim (λ eq. subst (λ y. Holds (k.of y) (e y)) (sym eq) h.0) (λ j. in_holds e x vs h.1 j) i

    pub knows_told : (e : Env V) (xs : List V) → AllHold e xs → Told (knows (map k.of xs)) (map e xs)
    knows_told e [] h = refl
    knows_told e (x ∷ xs) h = told_more (k.of x) (e x) (knows (map k.of xs)) (map e xs) h.0 (knows_told e xs h.1)

    pub all_in_hold : (e : Env V) (xs vs : List V) → AllHold e vs → AllIn xs vs → AllHold e xs
    all_in_hold e [] vs h i = tt
    all_in_hold e (x ∷ xs) vs h i = (in_holds e x vs h i.0, all_in_hold e xs vs h i.1)

    append_hold : (e : Env V) (xs ys : List V) → AllHold e xs → AllHold e ys → AllHold e (xs ++ ys)
    append_hold e [] ys h g = g
    append_hold e (x ∷ xs) ys h g = (h.0, append_hold e xs ys h.1 g)

    -- a number that holds of r, bound to r
    bind_one : (e : Env V) (r v : V) (n : ℕ) → Holds (k.of r) n → Holds (k.of v) (e v) → Holds (k.of v) (bind same e r n v)
    bind_one e r v n hr hv = by_test (same r v) refl
      where
        by_test : (b : Bool) → same r v ≡ b → Holds (k.of v) (if same r v then n else e v)
        by_test true t = subst (λ b. Holds (k.of v) (if b then n else e v)) (sym t) (subst (λ y. Holds (k.of y) n) (law.true_same r v t) hr)
        by_test false t = subst (λ b. Holds (k.of v) (if b then n else e v)) (sym t) hv

    bind_keeps : (e : Env V) (r : V) (n : ℕ) (vs : List V) → Holds (k.of r) n → AllHold e vs → AllHold (bind same e r n) vs
    bind_keeps e r n [] hr h = tt
    bind_keeps e r n (v ∷ vs) hr h = (bind_one e r v n hr h.0, bind_keeps e r n vs hr h.1)

    bind_self : (e : Env V) (r : V) (n : ℕ) → Holds (k.of r) n → Holds (k.of r) (bind same e r n r)
    bind_self e r n hr = subst (λ b. Holds (k.of r) (if b then n else e r)) (sym (law.same_true r)) hr

    -- the numbers hold of the names
    abbrev Pairs : List V → List ℕ → Type 0
    Pairs [] ns = Unit {0}
    Pairs (t ∷ ts) [] = ⊥
    Pairs (t ∷ ts) (n ∷ ns) = Holds (k.of t) n × Pairs ts ns

    bind_all_keeps : (e : Env V) (ts : List V) (ns : List ℕ) (vs : List V) → Pairs ts ns → AllHold e vs → AllHold (bind_all same e ts ns) vs
    bind_all_keeps e [] ns vs hp h = h
    bind_all_keeps e (t ∷ ts) [] vs hp h = absurd hp
    bind_all_keeps e (t ∷ ts) (n ∷ ns) vs hp h = bind_all_keeps (bind same e t n) ts ns vs hp.1 (bind_keeps e t n vs hp.0 h)

    bind_all_self : (e : Env V) (ts : List V) (ns : List ℕ) → Pairs ts ns → AllHold (bind_all same e ts ns) ts
    bind_all_self e [] ns hp = tt
    bind_all_self e (t ∷ ts) [] hp = absurd hp
    bind_all_self e (t ∷ ts) (n ∷ ns) hp =
        ((bind_all_keeps (bind same e t n) ts ns (t ∷ []) hp.1 (bind_self e t n hp.0, tt)).0, bind_all_self (bind same e t n) ts ns hp.1)

    pairs_edge : (e : Env V) (ts gs : List V) → SameLength ts gs → AllFactsAtOrBelow k ts gs → AllHold e gs → Pairs ts (map e gs)
    pairs_edge e [] gs l b h = tt
    pairs_edge e (t ∷ ts) [] l b h = absurd l
    pairs_edge e (t ∷ ts) (g ∷ gs) l b h = (holds_below (k.of t) (k.of g) (e g) b.0 h.0, pairs_edge e ts gs l b.1 h.1)

    unknown_hold : (e : Env V) (vs : List V) → AllUnknown k vs → AllHold e vs
    unknown_hold e [] h = tt
    unknown_hold e (v ∷ vs) h = (holds_unknown (k.of v) (e v) h.0, unknown_hold e vs h.1)

    bind_unknown : (e : Env V) (ts : List V) (ns : List ℕ) (vs : List V) → AllUnknown k ts → AllHold e vs → AllHold (bind_all same e ts ns) vs
    bind_unknown e [] ns vs u h = h
    bind_unknown e (t ∷ ts) [] vs u h = h
    bind_unknown e (t ∷ ts) (n ∷ ns) vs u h = bind_unknown (bind same e t n) ts ns vs u.1 (bind_keeps e t n vs (holds_unknown (k.of t) n u.0) h)

    -- the values at a block's start
    start_hold : (f : Option (Fun V)) (e : Env V) (b : ℕ) → AllHold e (arguments_in f b) → AllHold e (entry_values f) → AllHold e (at_start f b)
    start_hold f e zero h g = h
    start_hold f e (suc b) h g = append_hold e (arguments_in f (suc b)) (entry_values f) h g

  module _ (p : FunctionsByPath V) (k : List ℕ → FunctionFacts V) (closed : (path : List ℕ) → AreClosedFacts (p path) (k path)) (T : List ℕ → List V → Op V → Type 0) (scoped : (path : List ℕ) → BlocksWith (p path) (λ a op. OpScoped (p path) a op × T path a op)) where
    abbrev pub Fine : List ℕ → List V → List (Op V) → Type 0
    Fine path = OpsWith (λ a op. OpScoped (p path) a op × T path a op)

    -- the block is known to run, and the values in scope are as the facts say
    pub record Sound (f : Frame V) : Type 0 where
      pub runs : (k f.path).runs f.block ≡ true
      pub scope : List V
      pub hold : AllHold (k f.path) f.env scope
      pub closed_left : OpsClosed (p f.path) (k f.path) (left_in (p f.path) f.block f.index)
      pub scoped_left : Fine f.path scope (left_in (p f.path) f.block f.index)

    next_sound : (path : List ℕ) (b i : ℕ) (e : Env V) (op : Op V) (ops : List (Op V)) (a : List V) → (k path).runs b ≡ true → left_in (p path) b i ≡ op ∷ ops → AllHold (k path) e a → OpsClosed (p path) (k path) ops → Fine path a ops → Sound (fr path b (suc i) e)
    next_sound path b i e op ops a r l h c s =
        let n = sym (left_next (p path) b i op ops l) in
        record { runs = r; scope = a; hold = h; closed_left = subst (OpsClosed (p path) (k path)) n c; scoped_left = subst (Fine path a) n s }

    go_sound : (path : List ℕ) (b i : ℕ) (e : Env V) (x : Edge V) (a : List V) → AllHold (k path) e a → EdgeClosedIn (p path) (k path) x → EdgeScoped (p path) a x → Sound (go same (p path) (fr path b i e) x)
    go_sound path b i e x a h c s =
        let ps = pairs_edge (k path) e (arguments_in (p path) x.target) x.forwards s.2 c.1 (all_in_hold (k path) e x.forwards a h s.0) in
        let own = bind_all_self (k path) e (arguments_in (p path) x.target) (map e x.forwards) ps in
        let old = bind_all_keeps (k path) e (arguments_in (p path) x.target) (map e x.forwards) (entry_values (p path)) ps (all_in_hold (k path) e (entry_values (p path)) a h s.1) in
        record {
          runs = c.0;
          scope = at_start (p path) x.target;
          hold = start_hold (k path) (p path) _ x.target own old;
          closed_left = (closed path).ops x.target c.0;
          scoped_left = scoped path x.target;
        }

    result_sound : (path : List ℕ) (b i : ℕ) (e : Env V) (op : Op V) (ops : List (Op V)) (a : List V) (r : V) (o : Option ℕ) → (k path).runs b ≡ true → left_in (p path) b i ≡ op ∷ ops → AllHold (k path) e a → OpsClosed (p path) (k path) ops → Fine path (r ∷ a) ops → ((n : ℕ) → o ≡ Some n → Holds ((k path).of r) n) → EffectKeeps same p Sound (fr path b i e) (with_result same (fr path b i e) r o)
    result_sound path b i e op ops a r None rb l h c s hr = tt
    result_sound path b i e op ops a r (Some n) rb l h c s hr =
        let hn = hr n refl in
        next_sound path b i (bind same e r n) op ops (r ∷ a) rb l (bind_self (k path) e r n hn, bind_keeps (k path) e r n a hn h) c s

    fork_sound : (path : List ℕ) (b i : ℕ) (e : Env V) (s : Select) (x : Edge V) (xs : List (Edge V)) (a : List V) (t : Knows) (ns : List ℕ) → Told t ns → AllHold (k path) e a → BranchClosedIn (p path) (k path) s t x xs → AllEdges (EdgeScoped (p path) a) (x ∷ xs) → Sound (go same (p path) (fr path b i e) (edge_at x xs (chosen s ns)))
    fork_sound path b i e s x xs a Lacks ns ht h c sx = absurd ht
    fork_sound path b i e s x xs a Open ns ht h c sx =
        go_sound path b i e (edge_at x xs (chosen s ns)) a h (taken_has (EdgeClosedIn (p path) (k path)) x xs (chosen s ns) c) (taken_has (EdgeScoped (p path) a) x xs (chosen s ns) sx)
    fork_sound path b i e s x xs a (Numbers ms) ns ht h c sx =
        go_sound path b i e (edge_at x xs (chosen s ns)) a h
        (taken_has (λ z. z.target ≡ (edge_at x xs (chosen s ms)).target → EdgeClosedIn (p path) (k path) z) x xs (chosen s ns) c (ap (λ l. (edge_at x xs (chosen s l)).target) (sym ht)))
        (taken_has (EdgeScoped (p path) a) x xs (chosen s ns) sx)

    op_sound : (path : List ℕ) (b i : ℕ) (e : Env V) (a : List V) (ops : List (Op V)) → (k path).runs b ≡ true → left_in (p path) b i ≡ ops → AllHold (k path) e a → OpsClosed (p path) (k path) ops → Fine path a ops → EffectKeeps same p Sound (fr path b i e) (effect same (p path) (fr path b i e) ops)
    op_sound path b i e a [] rb l h c s = tt
    op_sound path b i e a (Const r n ∷ ops) rb l h c s = result_sound path b i e _ ops a r (Some n) rb l h c.1 s.1 (λ m eq. let x : n ≡ m = cc eq in holds_below ((k path).of r) (Known n) m c.0 (sym x))
    op_sound path b i e a (Calc o w r x y ∷ ops) rb l h c s =
        result_sound path b i e _ ops a r (calc o w (e x) (e y)) rb l h c.1 s.1
        (λ n eq. holds_below ((k path).of r) (folds_to o w ((k path).of x) ((k path).of y)) n c.0 (holds_calc o w ((k path).of x) ((k path).of y) (e x) (e y) n (in_holds (k path) e x a h s.0.0.0) (in_holds (k path) e y a h s.0.0.1) eq))
    op_sound path b i e a (Emit x ∷ ops) rb l h c s = next_sound path b i e _ ops a rb l h c.1 s.1
    op_sound path b i e a (Call rs n xs ∷ ops) rb l h c s =
        λ ns. subst (λ ls. Sound (fr path b (suc i) (bind_all same e (results_of ls) ns))) (sym l)
        (next_sound path b i (bind_all same e rs ns) _ ops (rs ++ a) rb l (append_hold (k path) _ rs a (unknown_hold (k path) _ rs c.0) (bind_unknown (k path) e rs ns a c.0 h)) c.1 s.1)
    op_sound path b i e a (Branch s xs y ys ∷ ops) rb l h c w =
        fork_sound path b i e s y ys a (branch_knows (k path) xs (y ∷ ys)) (map e xs)
        (told_unless (knows (map (k path).of (all_forwarded (y ∷ ys)))) (knows (map (k path).of xs)) (map e (all_forwarded (y ∷ ys))) (map e xs)
        (knows_told (k path) e (all_forwarded (y ∷ ys)) (all_in_hold (k path) e (all_forwarded (y ∷ ys)) a h (gives_in (p path) a (y ∷ ys) w.0.0.1)))
        (knows_told (k path) e xs (all_in_hold (k path) e xs a h w.0.0.0)))
        h c.0 w.0.0.1
    op_sound path b i e a (Return xs ∷ ops) rb l h c s = tt

    enters_sound : (path xs : List ℕ) → Sound (entry same p path xs)
    enters_sound path xs =
        let c = closed path in
        record {
          runs = c.entry_runs;
          scope = arguments_in (p path) 0;
          hold = unknown_hold (k path) _ (arguments_in (p path) 0) c.entry_unknown;
          closed_left = c.ops 0 c.entry_runs;
          scoped_left = scoped path 0;
        }

    pub sound : IsInvariant same p Sound
    sound = record { enters = enters_sound; keeps = λ f s. op_sound f.path f.block f.index f.env s.scope (left_in (p f.path) f.block f.index) s.runs refl s.hold s.closed_left s.scoped_left }
