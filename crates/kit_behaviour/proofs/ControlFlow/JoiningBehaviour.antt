-- A program whose blocks were taken in by the ones before them behaves alike.
use Rattle.std.proofs.Common.{◌≡◌, ℕ, zero, suc, ◌≤◌, Bool, true, false, List, [], ◌∷◌, Option, Some, None, refl, sym, ap, ◌∙◌, subst, arith}
use Rattle.std.specs.Prelude.{map, if◌then◌else◌}
use Rattle.kit_behaviour.specs.Machine.{AllEdges, edge_at, chosen, Select, Edge, Op, Const, Calc, Emit, Call, Branch, Return, Fun, Frame, Effect, Next, FunctionsByPath, Env, bind_all, calc, go, with_result, effect, act, entry, results_of, left_in, arguments_in, Alike}
use Rattle.kit_behaviour.specs.JoinedBlocks.{join_ops, joined, JoinsTo, Chains, JoinsBlocksOf}
use Rattle.kit_behaviour.proofs.Behaviour.FrameLemmas.{left_next, fr}
use Rattle.kit_behaviour.proofs.Behaviour.Simulation.{EffectsAlike, WaitAlike, Meet, alike}
use Rattle.kit_behaviour.proofs.Behaviour.EdgeLemmas.{taken_has, only_taken}

-- what each count of further blocks has in common
abbrev inner : {V : Type 0} → (ℕ → Bool) → Option (Fun V) → ℕ → ℕ → List (Op V)
inner j f zero t = []
inner j f (suc k) t = joined j f k (left_in f t 0)

abbrev Inner : {V : Type 0} → (ℕ → Bool) → Option (Fun V) → ℕ → ℕ → Type 0
Inner j f zero t = ⊥
Inner j f (suc k) t = (arguments_in f t ≡ []) × Chains j f k (left_in f t 0)

joined_inner : {V : Type 0} (j : ℕ → Bool) (f : Option (Fun V)) (k : ℕ) (ops : List (Op V)) → joined j f k ops ≡ join_ops j (inner j f k) ops
joined_inner j f zero ops = refl
joined_inner j f (suc k) ops = refl

chains_inner : {V : Type 0} (j : ℕ → Bool) (f : Option (Fun V)) (k : ℕ) (ops : List (Op V)) → Chains j f k ops → JoinsTo j (Inner j f k) ops
chains_inner j f zero ops h = h
chains_inner j f (suc k) ops h = h

inner_chains : {V : Type 0} (j : ℕ → Bool) (f : Option (Fun V)) (k : ℕ) (ops : List (Op V)) → JoinsTo j (Inner j f k) ops → Chains j f k ops
inner_chains j f zero ops h = h
inner_chains j f (suc k) ops h = h

module _ {V : Type 0} (same : V → V → Bool) (p q : FunctionsByPath V) (js : List ℕ → ℕ → Bool) (c : ℕ) (joins : (path : List ℕ) → JoinsBlocksOf (js path) c (p path) (q path)) where
  -- the blocks may differ; what is left is the same, with the chain behind it
  pub record Inside (f g : Frame V) : Type 0 where
    pub path : g.path ≡ f.path
    pub env : g.env ≡ f.env
    pub more : ℕ
    pub few : more ≤ c
    pub chains : Chains (js f.path) (p f.path) more (left_in (p f.path) f.block f.index)
    pub left : left_in (q f.path) g.block g.index ≡ joined (js f.path) (p f.path) more (left_in (p f.path) f.block f.index)

  abbrev Does : Frame V → Frame V → Effect V → Effect V → Type 0
  Does = EffectsAlike same same p q Inside

  abbrev Meets : ℕ → Frame V → Frame V → Type 0
  Meets = Meet same same p q Inside

  next_inside : (path : List ℕ) (b b' i i' : ℕ) (e : Env V) (k : ℕ) (op : Op V) (ops : List (Op V)) → k ≤ c → left_in (p path) b i ≡ op ∷ ops → left_in (q path) b' i' ≡ op ∷ join_ops (js path) (inner (js path) (p path) k) ops → JoinsTo (js path) (Inner (js path) (p path) k) ops → Inside (fr path b (suc i) e) (fr path b' (suc i') e)
  next_inside path b b' i i' e k op ops le l l' h =
      let n = left_next (p path) b i op ops l in
      record {
        path = refl;
        env = refl;
        more = k;
        few = le;
        chains = subst (Chains (js path) (p path) k) (sym n) (inner_chains (js path) (p path) k ops h);
        left = left_next (q path) b' i' op _ l' ∙ sym (joined_inner (js path) (p path) k ops) ∙ ap (joined (js path) (p path) k) (sym n);
      }

  go_inside : (path : List ℕ) (b b' i i' : ℕ) (e : Env V) (x : Edge V) → js path x.target ≡ false → Inside (go same (p path) (fr path b i e) x) (go same (q path) (fr path b' i' e) x)
  go_inside path b b' i i' e x h =
      let s = joins path in
      record {
        path = refl;
        env = ap (λ ts. bind_all same e ts (map e x.forwards)) (s.arguments x.target h);
        more = c;
        few = omega arith;
        chains = s.chains x.target h;
        left = s.left x.target h;
      }

  result_inside : (path : List ℕ) (b b' i i' : ℕ) (e : Env V) (k : ℕ) (op : Op V) (ops : List (Op V)) → k ≤ c → left_in (p path) b i ≡ op ∷ ops → left_in (q path) b' i' ≡ op ∷ join_ops (js path) (inner (js path) (p path) k) ops → JoinsTo (js path) (Inner (js path) (p path) k) ops → (r : V) (o : Option ℕ) → Does (fr path b i e) (fr path b' i' e) (with_result same (fr path b i e) r o) (with_result same (fr path b' i' e) r o)
  result_inside path b b' i i' e k op ops le l l' h r None = tt
  result_inside path b b' i i' e k op ops le l l' h r (Some n) = next_inside path b b' i i' _ k op ops le l l' h

  fork_inside : (path : List ℕ) (b b' i i' : ℕ) (e : Env V) (x : Edge V) (xs : List (Edge V)) (n : ℕ) → AllEdges (λ y. js path y.target ≡ false) (x ∷ xs) → Inside (go same (p path) (fr path b i e) (edge_at x xs n)) (go same (q path) (fr path b' i' e) (edge_at x xs n))
  fork_inside path b b' i i' e x xs n h = go_inside path b b' i i' e (edge_at x xs n) (taken_has (λ y. js path y.target ≡ false) x xs n h)

  wait_inside : (path : List ℕ) (b b' i i' : ℕ) (e : Env V) (k : ℕ) (vs : List V) (callee : ℕ) (xs : List V) (ops : List (Op V)) → k ≤ c → left_in (p path) b i ≡ Call vs callee xs ∷ ops → left_in (q path) b' i' ≡ Call vs callee xs ∷ join_ops (js path) (inner (js path) (p path) k) ops → JoinsTo (js path) (Inner (js path) (p path) k) ops → WaitAlike same same p q Inside (fr path b i e) (fr path b' i' e)
  wait_inside path b b' i i' e k vs callee xs ops le l l' h ns =
      let a = next_inside path b b' i i' (bind_all same e vs ns) k _ ops le l l' h in
      subst (λ ls. Inside (fr path b (suc i) (bind_all same e (results_of ls) ns)) (fr path b' (suc i') (bind_all same e (results_of (left_in (q path) b' i')) ns))) (sym l)
      (subst (λ ls. Inside (fr path b (suc i) (bind_all same e vs ns)) (fr path b' (suc i') (bind_all same e (results_of ls) ns))) (sym l') a)

  meet_now : (n : ℕ) (f g : Frame V) → 1 ≤ n → f.path ≡ g.path → (l l' : List (Op V)) → left_in (p f.path) f.block f.index ≡ l → left_in (q g.path) g.block g.index ≡ l' → Does f g (effect same (p f.path) f l) (effect same (q g.path) g l') → Meets n f g
  meet_now n f g le pe l l' e e' h =
      record {
        a = 0;
        b = 0;
        left = f;
        right = g;
        a_few = omega arith;
        b_few = omega arith;
        quiet_left = refl;
        quiet_right = refl;
        path = pe;
        effects = subst (λ x. Does f g (effect same (p f.path) f x) (act same q g)) (sym e) (subst (λ x. Does f g (effect same (p f.path) f l) (effect same (q g.path) g x)) (sym e') h);
      }

  before : (n : ℕ) (f g h : Frame V) → act same p f ≡ Next g → Meets n g h → Meets (suc n) f h
  before n f g h e m =
      record {
        a = suc m.a;
        b = m.b;
        left = m.left;
        right = m.right;
        a_few = omega (arith, m.a_few);
        b_few = omega (arith, m.b_few);
        quiet_left = (g, e, m.quiet_left);
        quiet_right = m.quiet_right;
        path = m.path;
        effects = m.effects;
      }

  -- a branch, within the chain or out of it
  meet_jump : (path : List ℕ) (b b' i i' : ℕ) (e : Env V) (k : ℕ) (s : Select) (ws : List V) (x : Edge V) (ops : List (Op V)) → k ≤ c → left_in (p path) b i ≡ Branch s ws x [] ∷ ops → left_in (q path) b' i' ≡ (if js path x.target then inner (js path) (p path) k x.target else Branch s ws x [] ∷ join_ops (js path) (inner (js path) (p path) k) ops) → (js path x.target ≡ true → Inner (js path) (p path) k x.target) → ((m : ℕ) → k ≡ suc m → js path x.target ≡ true → arguments_in (p path) x.target ≡ [] → Chains (js path) (p path) m (left_in (p path) x.target 0) → left_in (q path) b' i' ≡ joined (js path) (p path) m (left_in (p path) x.target 0) → Meets (suc m) (fr path x.target 0 e) (fr path b' i' e)) → Meets (suc k) (fr path b i e) (fr path b' i' e)
  meet_jump path b b' i i' e k s ws x ops le l l' h ih = by_test (js path x.target) refl k refl
    where
      by_test : (t : Bool) → js path x.target ≡ t → (m : ℕ) → k ≡ m → Meets (suc k) (fr path b i e) (fr path b' i' e)
      by_test false t m em =
          meet_now _ _ _ (omega arith) refl (Branch s ws x [] ∷ ops) (Branch s ws x [] ∷ join_ops (js path) (inner (js path) (p path) k) ops) l (l' ∙ ap (λ u. if u then inner (js path) (p path) k x.target else Branch s ws x [] ∷ join_ops (js path) (inner (js path) (p path) k) ops) t) (fork_inside path b b' i i' e x [] (chosen s (map e ws)) (t, tt))
      by_test true t zero em = absurd (subst (λ n. Inner (js path) (p path) n x.target) em (h t))
      by_test true t (suc m) em =
          let hs = subst (λ n. Inner (js path) (p path) n x.target) em (h t) in
          let l2 = l' ∙ ap (λ u. if u then inner (js path) (p path) k x.target else Branch s ws x [] ∷ join_ops (js path) (inner (js path) (p path) k) ops) t ∙ ap (λ n. inner (js path) (p path) n x.target) em in
          let st : act same p (fr path b i e) ≡ Next (fr path x.target 0 e) = ap (effect same (p path) (fr path b i e)) l ∙ ap (λ y. Next (go same (p path) (fr path b i e) y)) (only_taken x (chosen s (map e ws))) ∙ ap (λ ts. Next (fr path x.target 0 (bind_all same e ts (map e x.forwards)))) hs.0 in
          subst (λ n. Meets (suc n) (fr path b i e) (fr path b' i' e)) (sym em) (before (suc m) (fr path b i e) (fr path x.target 0 e) (fr path b' i' e) st (ih m em t hs.0 hs.1 l2))

  meet_inside : (k : ℕ) (path : List ℕ) (b b' i i' : ℕ) (e : Env V) (ops : List (Op V)) → k ≤ c → left_in (p path) b i ≡ ops → left_in (q path) b' i' ≡ join_ops (js path) (inner (js path) (p path) k) ops → JoinsTo (js path) (Inner (js path) (p path) k) ops → ((m : ℕ) → k ≡ suc m → (t : ℕ) → Chains (js path) (p path) m (left_in (p path) t 0) → left_in (q path) b' i' ≡ joined (js path) (p path) m (left_in (p path) t 0) → Meets (suc m) (fr path t 0 e) (fr path b' i' e)) → Meets (suc k) (fr path b i e) (fr path b' i' e)
  meet_inside k path b b' i i' e [] le l l' h ih =
      meet_now _ _ _ (omega arith) refl [] [] l l'
      (record { path = refl; env = refl; more = k; few = le; chains = subst (Chains (js path) (p path) k) (sym l) (inner_chains (js path) (p path) k [] h); left = l' ∙ sym (joined_inner (js path) (p path) k []) ∙ ap (joined (js path) (p path) k) (sym l) })
  meet_inside k path b b' i i' e (Branch s ws x [] ∷ ops) le l l' h ih = meet_jump path b b' i i' e k s ws x ops le l l' h.0 (λ m em t ts ch l2. ih m em x.target ch l2)
  meet_inside k path b b' i i' e (Const v n ∷ ops) le l l' h ih = meet_now _ _ _ (omega arith) refl _ _ l l' (next_inside path b b' i i' _ k _ ops le l l' h)
  meet_inside k path b b' i i' e (Calc a w v x y ∷ ops) le l l' h ih = meet_now _ _ _ (omega arith) refl _ _ l l' (result_inside path b b' i i' e k _ ops le l l' h v (calc a w (e x) (e y)))
  meet_inside k path b b' i i' e (Emit x ∷ ops) le l l' h ih = meet_now _ _ _ (omega arith) refl _ _ l l' (refl, next_inside path b b' i i' e k _ ops le l l' h)
  meet_inside k path b b' i i' e (Call vs n xs ∷ ops) le l l' h ih = meet_now _ _ _ (omega arith) refl _ _ l l' (refl, refl, wait_inside path b b' i i' e k vs n xs ops le l l' h)
  meet_inside k path b b' i i' e (Branch s ws x (y ∷ ys) ∷ ops) le l l' h ih = meet_now _ _ _ (omega arith) refl _ _ l l' (fork_inside path b b' i i' e x (y ∷ ys) (chosen s (map e ws)) h.0)
  meet_inside k path b b' i i' e (Return xs ∷ ops) le l l' h ih = meet_now _ _ _ (omega arith) refl _ _ l l' refl

  meet_deep : (k : ℕ) (path : List ℕ) (b b' i i' : ℕ) (e : Env V) → k ≤ c → Chains (js path) (p path) k (left_in (p path) b i) → left_in (q path) b' i' ≡ joined (js path) (p path) k (left_in (p path) b i) → Meets (suc k) (fr path b i e) (fr path b' i' e)
  meet_deep zero path b b' i i' e le h l' =
      meet_inside zero path b b' i i' e (left_in (p path) b i) le refl (l' ∙ joined_inner (js path) (p path) zero (left_in (p path) b i)) (chains_inner (js path) (p path) zero (left_in (p path) b i) h) (λ m em. absurd (cc em))
  meet_deep (suc k) path b b' i i' e le h l' =
      meet_inside (suc k) path b b' i i' e (left_in (p path) b i) le refl (l' ∙ joined_inner (js path) (p path) (suc k) (left_in (p path) b i)) (chains_inner (js path) (p path) (suc k) (left_in (p path) b i) h)
      (λ m em t ch l2.
      let km : k ≡ m = omega arith in
      subst (λ n. Meets (suc n) (fr path t 0 e) (fr path b' i' e)) km
      (meet_deep k path t b' 0 i' e (omega arith) (subst (λ n. Chains (js path) (p path) n (left_in (p path) t 0)) (sym km) ch) (l2 ∙ ap (λ n. joined (js path) (p path) n (left_in (p path) t 0)) (sym km))))

  meet_more : (n m : ℕ) (f g : Frame V) → n ≤ m → Meets n f g → Meets m f g
  meet_more n m f g le x =
      record {
        a = x.a;
        b = x.b;
        left = x.left;
        right = x.right;
        a_few = omega (arith, x.a_few);
        b_few = omega (arith, x.b_few);
        quiet_left = x.quiet_left;
        quiet_right = x.quiet_right;
        path = x.path;
        effects = x.effects;
      }

  join_meets : (f g : Frame V) → Inside f g → Meets (suc c) f g
  join_meets f g r =
      let e : fr f.path g.block g.index f.env ≡ g = ap (λ x. fr x g.block g.index f.env) (sym r.path) ∙ ap (fr g.path g.block g.index) (sym r.env) in
      subst (λ x. Meets (suc c) f x) e
      (meet_more (suc r.more) (suc c) f (fr f.path g.block g.index f.env) (omega (arith, r.few)) (meet_deep r.more f.path f.block g.block f.index g.index f.env r.few r.chains r.left))

  join_enters : (path xs : List ℕ) → Inside (entry same p path xs) (entry same q path xs)
  join_enters path xs =
      let s = joins path in
      record {
        path = refl;
        env = ap (λ ts. bind_all same (λ v. 0) ts xs) (s.arguments 0 s.entry);
        more = c;
        few = omega arith;
        chains = s.chains 0 s.entry;
        left = s.left 0 s.entry;
      }

  pub joined_alike : Alike same same (suc c) p q
  joined_alike = alike same same p q Inside (suc c) (record { some = omega arith; enters = join_enters; meets = join_meets })
