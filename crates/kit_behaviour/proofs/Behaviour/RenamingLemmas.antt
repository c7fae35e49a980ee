-- A program under other names, without blocks that no run reaches, behaves alike, step by step.
use Rattle.std.proofs.Common.{◌≡◌, ℕ, suc, Bool, List, [], ◌∷◌, Option, Some, None, refl, sym, ap, ◌∙◌, subst, arith}
use Rattle.std.specs.Prelude.{map, if◌then◌else◌}
use Rattle.kit_behaviour.specs.Machine.{AllEdges, edge_at, chosen, Edge, Op, Const, Calc, Emit, Call, Branch, Return, Frame, Effect, FunctionsByPath, Env, bind, bind_all, calc, go, with_result, effect, act, entry, results_of, left_in, arguments_in, Alike}
use Rattle.kit_behaviour.specs.Renaming.{EdgeNamed, rename_edge, rename_op, AllNamed, OpsNamed, Renames}
use Rattle.kit_behaviour.proofs.Behaviour.FrameLemmas.{left_next, fr}
use Rattle.kit_behaviour.proofs.Behaviour.Simulation.{EffectsAlike, WaitAlike, Meet, alike}
use Rattle.kit_behaviour.proofs.Behaviour.EdgeLemmas.{taken_has, taken_map}

module _ {V W : Type 0} (sv : V → V → Bool) (sw : W → W → Bool) where
  -- the names of the set stay apart
  abbrev pub StaysApart : (V → W) → (V → Type 0) → Type 0
  StaysApart r N = (x y : V) → N x → N y → sw (r x) (r y) ≡ sv x y

  module _ (r : V → W) (N : V → Type 0) where
    abbrev Under : Env V → Env W → Type 0
    Under e e' = (v : V) → N v → e' (r v) ≡ e v

    map_under : (e : Env V) (e' : Env W) (xs : List V) → Under e e' → AllNamed N xs → map e xs ≡ map e' (map r xs)
    map_under e e' [] u h = refl
    map_under e e' (x ∷ xs) u h = ap (λ n. n ∷ map e xs) (sym (u x h.0)) ∙ ap (λ l. e' (r x) ∷ l) (map_under e e' xs u h.1)

    bind_under : StaysApart r N → (e : Env V) (e' : Env W) (v : V) (n : ℕ) → N v → Under e e' → Under (bind sv e v n) (bind sw e' (r v) n)
    bind_under apart e e' v n nv u w nw =
        ap (λ b. if b then n else e' (r w)) (apart v w nv nw) ∙ ap (λ m. if sv v w then n else m) (u w nw)

    bind_all_under : StaysApart r N → (e : Env V) (e' : Env W) (vs : List V) (ns : List ℕ) → AllNamed N vs → Under e e' → Under (bind_all sv e vs ns) (bind_all sw e' (map r vs) ns)
    bind_all_under apart e e' [] ns h u = u
    bind_all_under apart e e' (v ∷ vs) [] h u = u
    bind_all_under apart e e' (v ∷ vs) (n ∷ ns) h u =
        bind_all_under apart (bind sv e v n) (bind sw e' (r v) n) vs ns h.1 (bind_under apart e e' v n h.0 u)

  module _ (p : FunctionsByPath V) (q : FunctionsByPath W) (r : List ℕ → V → W) (k : List ℕ → ℕ → ℕ) (N : List ℕ → V → Type 0) (S : List ℕ → ℕ → Type 0) (apart : (path : List ℕ) → StaysApart (r path) (N path)) (same : (path : List ℕ) → Renames (r path) (k path) (N path) (S path) (p path) (q path)) where
    pub record Other (f : Frame V) (g : Frame W) : Type 0 where
      pub path : g.path ≡ f.path
      pub block : g.block ≡ k f.path f.block
      pub left : left_in (q f.path) (k f.path f.block) g.index ≡ map (rename_op (r f.path) (k f.path)) (left_in (p f.path) f.block f.index)
      pub named : OpsNamed (N f.path) (S f.path) (left_in (p f.path) f.block f.index)
      pub env : Under (r f.path) (N f.path) f.env g.env

    abbrev Does : Frame V → Frame W → Effect V → Effect W → Type 0
    Does = EffectsAlike sv sw p q Other

    next_other : (path : List ℕ) (b i j : ℕ) (e : Env V) (e' : Env W) (op : Op V) (op' : Op W) (ops : List (Op V)) → left_in (p path) b i ≡ op ∷ ops → left_in (q path) (k path b) j ≡ op' ∷ map (rename_op (r path) (k path)) ops → OpsNamed (N path) (S path) ops → Under (r path) (N path) e e' → Other (fr path b (suc i) e) (fr path (k path b) (suc j) e')
    next_other path b i j e e' op op' ops l l' h u =
        let n = left_next (p path) b i op ops l in
        record {
          path = refl;
          block = refl;
          left = left_next (q path) (k path b) j op' (map (rename_op (r path) (k path)) ops) l' ∙ ap (map (rename_op (r path) (k path))) (sym n);
          named = subst (OpsNamed (N path) (S path)) (sym n) h;
          env = u;
        }

    go_other : (path : List ℕ) (b i j : ℕ) (e : Env V) (e' : Env W) (x : Edge V) → Under (r path) (N path) e e' → S path x.target → AllNamed (N path) x.forwards → Other (go sv (p path) (fr path b i e) x) (go sw (q path) (fr path (k path b) j e') (rename_edge (r path) (k path) x))
    go_other path b i j e e' x u s h =
        record {
          path = refl;
          block = refl;
          left = (same path).left x.target s;
          named = (same path).ops_named x.target s;
          env = subst (λ ts. Under (r path) (N path) (bind_all sv e (arguments_in (p path) x.target) (map e x.forwards)) (bind_all sw e' ts (map e' (map (r path) x.forwards)))) (sym ((same path).arguments x.target s))
              (subst (λ ns. Under (r path) (N path) (bind_all sv e (arguments_in (p path) x.target) (map e x.forwards)) (bind_all sw e' (map (r path) (arguments_in (p path) x.target)) ns)) (map_under (r path) (N path) e e' x.forwards u h)
              (bind_all_under (r path) (N path) (apart path) e e' (arguments_in (p path) x.target) (map e x.forwards) ((same path).takes_named x.target s) u));
        }

    result_other : (path : List ℕ) (b i j : ℕ) (e : Env V) (e' : Env W) (op : Op V) (op' : Op W) (ops : List (Op V)) → left_in (p path) b i ≡ op ∷ ops → left_in (q path) (k path b) j ≡ op' ∷ map (rename_op (r path) (k path)) ops → OpsNamed (N path) (S path) ops → Under (r path) (N path) e e' → (v : V) → N path v → (o : Option ℕ) → Does (fr path b i e) (fr path (k path b) j e') (with_result sv (fr path b i e) v o) (with_result sw (fr path (k path b) j e') (r path v) o)
    result_other path b i j e e' op op' ops l l' h u v nv None = tt
    result_other path b i j e e' op op' ops l l' h u v nv (Some n) =
        next_other path b i j _ _ op op' ops l l' h (bind_under (r path) (N path) (apart path) e e' v n nv u)

    fork_other : (path : List ℕ) (b i j : ℕ) (e : Env V) (e' : Env W) (x : Edge V) (xs : List (Edge V)) (n : ℕ) → Under (r path) (N path) e e' → AllEdges (EdgeNamed (N path) (S path)) (x ∷ xs) → Other (go sv (p path) (fr path b i e) (edge_at x xs n)) (go sw (q path) (fr path (k path b) j e') (edge_at (rename_edge (r path) (k path) x) (map (rename_edge (r path) (k path)) xs) n))
    fork_other path b i j e e' x xs n u h =
        let c = taken_has (EdgeNamed (N path) (S path)) x xs n h in
        subst (λ y. Other (go sv (p path) (fr path b i e) (edge_at x xs n)) (go sw (q path) (fr path (k path b) j e') y)) (sym (taken_map (rename_edge (r path) (k path)) x xs n)) (go_other path b i j e e' (edge_at x xs n) u c.0 c.1)

    wait_other : (path : List ℕ) (b i j : ℕ) (e : Env V) (e' : Env W) (vs : List V) (c : ℕ) (xs : List V) (ops : List (Op V)) → left_in (p path) b i ≡ Call vs c xs ∷ ops → left_in (q path) (k path b) j ≡ Call (map (r path) vs) c (map (r path) xs) ∷ map (rename_op (r path) (k path)) ops → OpsNamed (N path) (S path) ops → AllNamed (N path) vs → Under (r path) (N path) e e' → WaitAlike sv sw p q Other (fr path b i e) (fr path (k path b) j e')
    wait_other path b i j e e' vs c xs ops l l' h nvs u ns =
        let a = next_other path b i j (bind_all sv e vs ns) (bind_all sw e' (map (r path) vs) ns) _ _ ops l l' h (bind_all_under (r path) (N path) (apart path) e e' vs ns nvs u) in
        subst (λ ls. Other (fr path b (suc i) (bind_all sv e (results_of ls) ns)) (fr path (k path b) (suc j) (bind_all sw e' (results_of (left_in (q path) (k path b) j)) ns))) (sym l)
        (subst (λ ls. Other (fr path b (suc i) (bind_all sv e vs ns)) (fr path (k path b) (suc j) (bind_all sw e' (results_of ls) ns))) (sym l') a)

    op_other : (path : List ℕ) (b i j : ℕ) (e : Env V) (e' : Env W) (ops : List (Op V)) → left_in (p path) b i ≡ ops → left_in (q path) (k path b) j ≡ map (rename_op (r path) (k path)) ops → OpsNamed (N path) (S path) ops → Under (r path) (N path) e e' → Does (fr path b i e) (fr path (k path b) j e') (effect sv (p path) (fr path b i e) ops) (effect sw (q path) (fr path (k path b) j e') (map (rename_op (r path) (k path)) ops))
    op_other path b i j e e' [] l l' h u =
        record { path = refl; block = refl; left = l' ∙ ap (map (rename_op (r path) (k path))) (sym l); named = subst (OpsNamed (N path) (S path)) (sym l) tt; env = u }
    op_other path b i j e e' (Const v n ∷ ops) l l' h u = next_other path b i j _ _ _ _ ops l l' h.1 (bind_under (r path) (N path) (apart path) e e' v n h.0 u)
    op_other path b i j e e' (Calc a w v x y ∷ ops) l l' h u =
        let ex : calc a w (e' (r path x)) (e' (r path y)) ≡ calc a w (e x) (e y) = ap (λ n. calc a w n (e' (r path y))) (u x h.0.1) ∙ ap (λ n. calc a w (e x) n) (u y h.0.2) in
        subst (λ o. Does (fr path b i e) (fr path (k path b) j e') (with_result sv (fr path b i e) v (calc a w (e x) (e y))) (with_result sw (fr path (k path b) j e') (r path v) o)) (sym ex) (result_other path b i j e e' _ _ ops l l' h.1 u v h.0.0 (calc a w (e x) (e y)))
    op_other path b i j e e' (Emit x ∷ ops) l l' h u = (sym (u x h.0), next_other path b i j e e' _ _ ops l l' h.1 u)
    op_other path b i j e e' (Call vs c xs ∷ ops) l l' h u = (refl, map_under (r path) (N path) e e' xs u h.0.1, wait_other path b i j e e' vs c xs ops l l' h.1 h.0.0 u)
    op_other path b i j e e' (Branch s xs y ys ∷ ops) l l' h u =
        subst (λ ns. Other (go sv (p path) (fr path b i e) (edge_at y ys (chosen s (map e xs)))) (go sw (q path) (fr path (k path b) j e') (edge_at (rename_edge (r path) (k path) y) (map (rename_edge (r path) (k path)) ys) (chosen s ns)))) (map_under (r path) (N path) e e' xs u h.0.0) (fork_other path b i j e e' y ys (chosen s (map e xs)) u h.0.1)
    op_other path b i j e e' (Return xs ∷ ops) l l' h u = map_under (r path) (N path) e e' xs u h.0

    other_meets : (f : Frame V) (g : Frame W) → Other f g → Meet sv sw p q Other 1 f g
    other_meets f g o =
        let e : fr f.path (k f.path f.block) g.index g.env ≡ g = ap (λ x. fr x (k f.path f.block) g.index g.env) (sym o.path) ∙ ap (λ x. fr g.path x g.index g.env) (sym o.block) in
        let x = op_other f.path f.block f.index g.index f.env g.env (left_in (p f.path) f.block f.index) refl o.left o.named o.env in
        subst (λ y. Meet sv sw p q Other 1 f y) e
        (record {
          a = 0;
          b = 0;
          left = f;
          right = fr f.path (k f.path f.block) g.index g.env;
          a_few = omega arith;
          b_few = omega arith;
          quiet_left = refl;
          quiet_right = refl;
          path = refl;
          effects = subst (λ l. Does f (fr f.path (k f.path f.block) g.index g.env) (act sv p f) (effect sw (q f.path) (fr f.path (k f.path f.block) g.index g.env) l)) (sym o.left) x;
        })

    other_enters : (path xs : List ℕ) → Other (entry sv p path xs) (entry sw q path xs)
    other_enters path xs =
        let s = same path in
        let t : arguments_in (q path) 0 ≡ map (r path) (arguments_in (p path) 0) = ap (arguments_in (q path)) (sym s.entry_stays) ∙ s.arguments 0 s.entry_in in
        record {
          path = refl;
          block = sym s.entry_stays;
          left = s.left 0 s.entry_in;
          named = s.ops_named 0 s.entry_in;
          env = subst (λ ts. Under (r path) (N path) (bind_all sv (λ v. 0) (arguments_in (p path) 0) xs) (bind_all sw (λ v. 0) ts xs)) (sym t) (bind_all_under (r path) (N path) (apart path) (λ v. 0) (λ v. 0) (arguments_in (p path) 0) xs (s.takes_named 0 s.entry_in) (λ v h. refl));
        }

    pub renamed_alike : Alike sv sw 1 p q
    renamed_alike = alike sv sw p q Other 1 (record { some = omega arith; enters = other_enters; meets = other_meets })
