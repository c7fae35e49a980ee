-- A program without values that nothing needs behaves alike.
use Rattle.std.proofs.Common.{◌≡◌, ℕ, zero, suc, ◌≤◌, Bool, true, false, List, [], ◌∷◌, Option, Some, None, refl, sym, ap, ◌∙◌, subst, arith}
use Rattle.std.specs.Prelude.{map, slice_get, drop, if◌then◌else◌}
use Rattle.std.proofs.lemmas.Option.{slice_get-map}
use Rattle.std.specs.Prelude.{option_map}
use Rattle.kit_ops.specs.Arithmetic.{compare, bit}
use Rattle.kit_ops.proofs.Operators as operators
use Rattle.kit_behaviour.specs.Machine.{AllEdges, edge_at, chosen, Arith, Calculated, Compared, Edge, Op, Const, Calc, Emit, Call, Branch, Return, Block, Fun, Frame, Effect, Next, FunctionsByPath, Env, bind, bind_all, calc, next, go, with_result, effect, act, entry, results_of, ops_left, left_in, arguments_of, arguments_in, Alike}
use Rattle.kit_behaviour.specs.RemovedValues.{EdgeLive, may_trap, goes, live, pick, thin_edge, thin_op, thin_ops, thin_block, thin, thinned, AllLive, GivesLive, OpLive, OpsLive, SetMayGo, going, FewGo}
use Rattle.kit_behaviour.proofs.Behaviour.FrameLemmas.{IsSameness, left_next, fr}
use Rattle.kit_behaviour.proofs.Behaviour.Simulation.{EffectsAlike, WaitAlike, Meet, alike}
use Rattle.kit_behaviour.proofs.Behaviour.EdgeLemmas.{taken_has, taken_map}

thin_left_block : {V : Type 0} (f : Option (Fun V)) (d : V → Bool) (o : Option (Block V)) → ops_left (option_map (thin_block f d) o) 0 ≡ thin_ops f d (ops_left o 0)
thin_left_block f d None = refl
thin_left_block f d (Some b) = refl

pub thin_left : {V : Type 0} (d : V → Bool) (f : Option (Fun V)) (b : ℕ) → left_in (thin d f) b 0 ≡ thin_ops f d (left_in f b 0)
thin_left d None b = refl
thin_left d (Some f) b =
    ap (λ o. ops_left o 0) (slice_get-map (thin_block (Some f) d) f b) ∙ thin_left_block (Some f) d (slice_get f b)

thin_takes_block : {V : Type 0} (f : Option (Fun V)) (d : V → Bool) (o : Option (Block V)) → arguments_of (option_map (thin_block f d) o) ≡ live d (arguments_of o)
thin_takes_block f d None = refl
thin_takes_block f d (Some b) = refl

pub thin_takes : {V : Type 0} (d : V → Bool) (f : Option (Fun V)) (b : ℕ) → arguments_in (thin d f) b ≡ live d (arguments_in f b)
thin_takes d None b = refl
thin_takes d (Some f) b =
    ap arguments_of (slice_get-map (thin_block (Some f) d) f b) ∙ thin_takes_block (Some f) d (slice_get f b)

tail_going : {V : Type 0} (d : V → Bool) (op : Op V) (ops : List (Op V)) → going d ops ≤ going d (op ∷ ops)
tail_going d op ops = by_test (goes d op)
  where
    by_test : (t : Bool) → going d ops ≤ (if t then suc (going d ops) else going d ops)
    by_test true = omega arith
    by_test false = omega arith

drop_going : {V : Type 0} (d : V → Bool) (ops : List (Op V)) (i : ℕ) → going d (drop i ops) ≤ going d ops
drop_going d [] zero = omega arith
drop_going d [] (suc i) = omega arith
drop_going d (op ∷ ops) zero = omega arith
drop_going d (op ∷ ops) (suc i) = omega (arith, drop_going d ops i, tail_going d op ops)

ops_going : {V : Type 0} (d : V → Bool) (b : Option (Block V)) (i : ℕ) → going d (ops_left b i) ≤ going d (ops_left b 0)
ops_going d None i = omega arith
ops_going d (Some b) i = drop_going d b.ops i

left_going : {V : Type 0} (d : V → Bool) (f : Option (Fun V)) (b i : ℕ) → going d (left_in f b i) ≤ going d (left_in f b 0)
left_going d None b i = omega arith
left_going d (Some f) b i = ops_going d (slice_get f b) i

live_all : {V : Type 0} (d : V → Bool) (vs : List V) → AllLive d vs → live d vs ≡ vs
live_all d [] h = refl
live_all d (v ∷ vs) h =
    ap (λ b. if b then live d vs else v ∷ live d vs) h.0 ∙ ap (λ l. v ∷ l) (live_all d vs h.1)

-- only an operation that may trap has no number
calc_total : (a : Arith) (w x y : ℕ) → may_trap a ≡ false → (n : ℕ) × (calc a w x y ≡ Some n)
calc_total (Calculated a) w x y h = operators.calc_total a w x y h
calc_total (Compared c) w x y h = (bit (compare c x y), refl)

-- the numbers of the values that stay are the same
abbrev Agree : {V : Type 0} → (V → Bool) → Env V → Env V → Type 0
Agree {V} d e e' = (v : V) → d v ≡ false → e v ≡ e' v

map_agree : {V : Type 0} (d : V → Bool) (e e' : Env V) (xs : List V) → Agree d e e' → AllLive d xs → map e xs ≡ map e' xs
map_agree d e e' [] ag h = refl
map_agree d e e' (x ∷ xs) ag h = ap (λ n. n ∷ map e xs) (ag x h.0) ∙ ap (λ l. e' x ∷ l) (map_agree d e e' xs ag h.1)

module _ {V : Type 0} (same : V → V → Bool) (law : IsSameness same) where
  bind_agree : (d : V → Bool) (e e' : Env V) (r : V) (n m : ℕ) → Agree d e e' → (d r ≡ false → n ≡ m) → Agree d (bind same e r n) (bind same e' r m)
  bind_agree d e e' r n m ag eq v h = by_test (same r v) refl
    where
      by_test : (b : Bool) → same r v ≡ b → (if same r v then n else e v) ≡ (if same r v then m else e' v)
      by_test true t =
          ap (λ b. if b then n else e v) t ∙ eq (ap d (law.true_same r v t) ∙ h) ∙ sym (ap (λ b. if b then m else e' v) t)
      by_test false t = ap (λ b. if b then n else e v) t ∙ ag v h ∙ sym (ap (λ b. if b then m else e' v) t)

  bind_dead : (d : V → Bool) (e e' : Env V) (r : V) (n : ℕ) → Agree d e e' → d r ≡ true → Agree d (bind same e r n) e'
  bind_dead d e e' r n ag dead v h = by_test (same r v) refl
    where
      by_test : (b : Bool) → same r v ≡ b → (if same r v then n else e v) ≡ e' v
      by_test true t = let x : true ≡ false = sym dead ∙ ap d (law.true_same r v t) ∙ h in absurd (cc x)
      by_test false t = ap (λ b. if b then n else e v) t ∙ ag v h

  bind_all_agree : (d : V → Bool) (e e' : Env V) (rs : List V) (ns : List ℕ) → Agree d e e' → Agree d (bind_all same e rs ns) (bind_all same e' rs ns)
  bind_all_agree d e e' [] ns ag = ag
  bind_all_agree d e e' (r ∷ rs) [] ag = ag
  bind_all_agree d e e' (r ∷ rs) (n ∷ ns) ag =
      bind_all_agree d (bind same e r n) (bind same e' r n) rs ns (bind_agree d e e' r n n ag (λ h. refl))

  -- along an edge
  bind_picked : (d : V → Bool) (e e' e0 e0' : Env V) (ts gs : List V) → Agree d e e' → Agree d e0 e0' → GivesLive d ts gs → Agree d (bind_all same e ts (map e0 gs)) (bind_all same e' (live d ts) (map e0' (pick d ts gs)))
  bind_picked d e e' e0 e0' [] gs ag ag0 h = ag
  bind_picked d e e' e0 e0' (t ∷ ts) [] ag ag0 h = by_test (d t) refl
    where
      none : (rs : List V) → bind_all same e' rs [] ≡ e'
      none [] = refl
      none (r ∷ rs) = refl

      by_test : (b : Bool) → d t ≡ b → Agree d e (bind_all same e' (live d (t ∷ ts)) [])
      by_test b u = subst (λ x. Agree d e x) (sym (none (live d (t ∷ ts)))) ag
  bind_picked d e e' e0 e0' (t ∷ ts) (g ∷ gs) ag ag0 h =
      by_test (bind_picked d (bind same e t (e0 g)) e' e0 e0' ts gs) (bind_picked d (bind same e t (e0 g)) (bind same e' t (e0' g)) e0 e0' ts gs) (d t) refl
    where
      by_test : (Agree d (bind same e t (e0 g)) e' → Agree d e0 e0' → GivesLive d ts gs → Agree d (bind_all same (bind same e t (e0 g)) ts (map e0 gs)) (bind_all same e' (live d ts) (map e0' (pick d ts gs)))) → (Agree d (bind same e t (e0 g)) (bind same e' t (e0' g)) → Agree d e0 e0' → GivesLive d ts gs → Agree d (bind_all same (bind same e t (e0 g)) ts (map e0 gs)) (bind_all same (bind same e' t (e0' g)) (live d ts) (map e0' (pick d ts gs)))) → (b : Bool) → d t ≡ b → Agree d (bind_all same (bind same e t (e0 g)) ts (map e0 gs)) (bind_all same e' (live d (t ∷ ts)) (map e0' (pick d (t ∷ ts) (g ∷ gs))))
      by_test ih1 ih2 true u = subst (λ b. Agree d (bind_all same (bind same e t (e0 g)) ts (map e0 gs)) (bind_all same e' (if b then live d ts else t ∷ live d ts) (map e0' (if b then pick d ts gs else g ∷ pick d ts gs)))) (sym u) (ih1 (bind_dead d e e' t (e0 g) ag u) ag0 h.1)
      by_test ih1 ih2 false u = subst (λ b. Agree d (bind_all same (bind same e t (e0 g)) ts (map e0 gs)) (bind_all same e' (if b then live d ts else t ∷ live d ts) (map e0' (if b then pick d ts gs else g ∷ pick d ts gs)))) (sym u) (ih2 (bind_agree d e e' t (e0 g) (e0' g) ag (λ live_t. ag0 g (h.0 u))) ag0 h.1)

  module _ (p : FunctionsByPath V) (d : List ℕ → V → Bool) (may : (path : List ℕ) → SetMayGo (d path) (p path)) where
    -- at related frames the same blocks are left, but for what goes
    pub record Thinner (f : Frame V) (g : Frame V) : Type 0 where
      pub path : g.path ≡ f.path
      pub block : g.block ≡ f.block
      pub left : left_in (thin (d f.path) (p f.path)) f.block g.index ≡ thin_ops (p f.path) (d f.path) (left_in (p f.path) f.block f.index)
      pub uses : OpsLive (p f.path) (d f.path) (left_in (p f.path) f.block f.index)
      pub agree : Agree (d f.path) f.env g.env

    abbrev Does : Frame V → Frame V → Effect V → Effect V → Type 0
    Does = EffectsAlike same same p (thinned d p) Thinner

    next_thin : (path : List ℕ) (b i j : ℕ) (e e' : Env V) (op op' : Op V) (ops : List (Op V)) → left_in (p path) b i ≡ op ∷ ops → left_in (thin (d path) (p path)) b j ≡ op' ∷ thin_ops (p path) (d path) ops → OpsLive (p path) (d path) ops → Agree (d path) e e' → Thinner (fr path b (suc i) e) (fr path b (suc j) e')
    next_thin path b i j e e' op op' ops l l' u ag =
        let n = left_next (p path) b i op ops l in
        record {
          path = refl;
          block = refl;
          left = left_next (thin (d path) (p path)) b j op' (thin_ops (p path) (d path) ops) l' ∙ ap (thin_ops (p path) (d path)) (sym n);
          uses = subst (OpsLive (p path) (d path)) (sym n) u;
          agree = ag;
        }

    go_thin : (path : List ℕ) (b i j : ℕ) (e e' : Env V) (x : Edge V) → Agree (d path) e e' → GivesLive (d path) (arguments_in (p path) x.target) x.forwards → Thinner (go same (p path) (fr path b i e) x) (go same (thin (d path) (p path)) (fr path b j e') (thin_edge (p path) (d path) x))
    go_thin path b i j e e' x ag h =
        record {
          path = refl;
          block = refl;
          left = thin_left (d path) (p path) x.target;
          uses = (may path).uses x.target;
          agree = subst (λ ts. Agree (d path) (bind_all same e (arguments_in (p path) x.target) (map e x.forwards)) (bind_all same e' ts (map e' (pick (d path) (arguments_in (p path) x.target) x.forwards)))) (sym (thin_takes (d path) (p path) x.target)) (bind_picked (d path) e e' e e' (arguments_in (p path) x.target) x.forwards ag ag h);
        }

    -- a result, or a trap
    result_thin : (path : List ℕ) (b i j : ℕ) (e e' : Env V) (op op' : Op V) (ops : List (Op V)) → left_in (p path) b i ≡ op ∷ ops → left_in (thin (d path) (p path)) b j ≡ op' ∷ thin_ops (p path) (d path) ops → OpsLive (p path) (d path) ops → Agree (d path) e e' → (r : V) (o : Option ℕ) → Does (fr path b i e) (fr path b j e') (with_result same (fr path b i e) r o) (with_result same (fr path b j e') r o)
    result_thin path b i j e e' op op' ops l l' u ag r None = tt
    result_thin path b i j e e' op op' ops l l' u ag r (Some n) =
        next_thin path b i j _ _ op op' ops l l' u (bind_agree (d path) e e' r n n ag (λ h. refl))

    fork_thin : (path : List ℕ) (b i j : ℕ) (e e' : Env V) (x : Edge V) (xs : List (Edge V)) (n : ℕ) → Agree (d path) e e' → AllEdges (EdgeLive (p path) (d path)) (x ∷ xs) → Thinner (go same (p path) (fr path b i e) (edge_at x xs n)) (go same (thin (d path) (p path)) (fr path b j e') (edge_at (thin_edge (p path) (d path) x) (map (thin_edge (p path) (d path)) xs) n))
    fork_thin path b i j e e' x xs n ag h =
        subst (λ y. Thinner (go same (p path) (fr path b i e) (edge_at x xs n)) (go same (thin (d path) (p path)) (fr path b j e') y)) (sym (taken_map (thin_edge (p path) (d path)) x xs n)) (go_thin path b i j e e' (edge_at x xs n) ag (taken_has (EdgeLive (p path) (d path)) x xs n h))

    wait_thin : (path : List ℕ) (b i j : ℕ) (e e' : Env V) (rs : List V) (callee : ℕ) (xs xs' : List V) (ops : List (Op V)) → left_in (p path) b i ≡ Call rs callee xs ∷ ops → left_in (thin (d path) (p path)) b j ≡ Call rs callee xs' ∷ thin_ops (p path) (d path) ops → OpsLive (p path) (d path) ops → Agree (d path) e e' → WaitAlike same same p (thinned d p) Thinner (fr path b i e) (fr path b j e')
    wait_thin path b i j e e' rs callee xs xs' ops l l' u ag ns =
        let a = next_thin path b i j (bind_all same e rs ns) (bind_all same e' rs ns) (Call rs callee xs) (Call rs callee xs') ops l l' u (bind_all_agree (d path) e e' rs ns ag) in
        subst (λ ls. Thinner (fr path b (suc i) (bind_all same e (results_of ls) ns)) (fr path b (suc j) (bind_all same e' (results_of (left_in (thin (d path) (p path)) b j)) ns))) (sym l)
        (subst (λ ls. Thinner (fr path b (suc i) (bind_all same e rs ns)) (fr path b (suc j) (bind_all same e' (results_of ls) ns))) (sym l') a)

    -- an operation that stays
    op_thin : (path : List ℕ) (b i j : ℕ) (e e' : Env V) (op : Op V) (ops : List (Op V)) → left_in (p path) b i ≡ op ∷ ops → left_in (thin (d path) (p path)) b j ≡ thin_op (p path) (d path) op ∷ thin_ops (p path) (d path) ops → OpLive (p path) (d path) op → OpsLive (p path) (d path) ops → Agree (d path) e e' → Does (fr path b i e) (fr path b j e') (effect same (p path) (fr path b i e) (op ∷ ops)) (effect same (thin (d path) (p path)) (fr path b j e') (thin_op (p path) (d path) op ∷ thin_ops (p path) (d path) ops))
    op_thin path b i j e e' (Const r n) ops l l' h u ag = next_thin path b i j _ _ _ _ ops l l' u (bind_agree (d path) e e' r n n ag (λ x. refl))
    op_thin path b i j e e' (Calc a w r x y) ops l l' h u ag =
        let ex : calc a w (e' x) (e' y) ≡ calc a w (e x) (e y) = sym (ap (λ n. calc a w n (e y)) (ag x h.0) ∙ ap (λ n. calc a w (e' x) n) (ag y h.1)) in
        subst (λ o. Does (fr path b i e) (fr path b j e') (with_result same (fr path b i e) r (calc a w (e x) (e y))) (with_result same (fr path b j e') r o)) (sym ex) (result_thin path b i j e e' _ _ ops l l' u ag r (calc a w (e x) (e y)))
    op_thin path b i j e e' (Emit x) ops l l' h u ag = (ag x h, next_thin path b i j e e' _ _ ops l l' u ag)
    op_thin path b i j e e' (Call rs c xs) ops l l' h u ag = (refl, map_agree (d path) e e' xs ag h, wait_thin path b i j e e' rs c xs xs ops l l' u ag)
    op_thin path b i j e e' (Branch s xs y ys) ops l l' h u ag =
        subst (λ ns. Thinner (go same (p path) (fr path b i e) (edge_at y ys (chosen s (map e xs)))) (go same (thin (d path) (p path)) (fr path b j e') (edge_at (thin_edge (p path) (d path) y) (map (thin_edge (p path) (d path)) ys) (chosen s ns)))) (map_agree (d path) e e' xs ag h.0) (fork_thin path b i j e e' y ys (chosen s (map e xs)) ag h.1)
    op_thin path b i j e e' (Return xs) ops l l' h u ag = map_agree (d path) e e' xs ag h

    -- an operation that goes does nothing but bind a value of the set
    record Idle (path : List ℕ) (f : Option (Fun V)) (g : Frame V) (op : Op V) (ops : List (Op V)) : Type 0 where
      env : Env V
      is : effect same f g (op ∷ ops) ≡ Next (next g env)
      agree : (e' : Env V) → Agree (d path) g.env e' → Agree (d path) env e'

    idle_bind : (path : List ℕ) (f : Option (Fun V)) (g : Frame V) (op : Op V) (ops : List (Op V)) (r : V) (n : ℕ) → d path r ≡ true → effect same f g (op ∷ ops) ≡ Next (next g (bind same g.env r n)) → Idle path f g op ops
    idle_bind path f g op ops r n dead e = record { env = bind same g.env r n; is = e; agree = λ e' ag. bind_dead (d path) g.env e' r n ag dead }

    idle : (path : List ℕ) (f : Option (Fun V)) (g : Frame V) (op : Op V) (ops : List (Op V)) → goes (d path) op ≡ true → Idle path f g op ops
    idle path f g (Const r n) ops h = idle_bind path f g _ ops r n h refl
    idle path f g (Calc a w r x y) ops h = by_trap (may_trap a) refl
      where
        by_trap : (t : Bool) → may_trap a ≡ t → Idle path f g (Calc a w r x y) ops
        by_trap true e = let bad : false ≡ true = sym (ap (λ t. if t then false else d path r) e) ∙ h in absurd (cc bad)
        by_trap false e =
            let n = calc_total a w (g.env x) (g.env y) e in
            idle_bind path f g _ ops r n.0 (sym (ap (λ t. if t then false else d path r) e) ∙ h) (ap (with_result same g r) n.1)
    idle path f g (Emit x) ops h = absurd (cc h)
    idle path f g (Call rs c xs) ops h = absurd (cc h)
    idle path f g (Branch s xs y ys) ops h = absurd (cc h)
    idle path f g (Return xs) ops h = absurd (cc h)

    abbrev Meets : ℕ → Frame V → Frame V → Type 0
    Meets = Meet same same p (thinned d p) Thinner

    -- one more quiet step on the left
    before : (n : ℕ) (f g h : Frame V) → act same p f ≡ Next g → Meets n g h → Meets (suc n) f h
    before n f g h e m =
        record {
          a = suc m.a;
          b = m.b;
          left = m.left;
          right = m.right;
          a_few = omega (arith, m.a_few);
          b_few = omega (arith, m.b_few);
          quiet_left = (g, e, m.quiet_left);
          quiet_right = m.quiet_right;
          path = m.path;
          effects = m.effects;
        }

    meet_now : (n : ℕ) (f g : Frame V) → 1 ≤ n → f.path ≡ g.path → (l l' : List (Op V)) → left_in (p f.path) f.block f.index ≡ l → left_in (thinned d p g.path) g.block g.index ≡ l' → Does f g (effect same (p f.path) f l) (effect same (thinned d p g.path) g l') → Meets n f g
    meet_now n f g le pe l l' e e' h =
        record {
          a = 0;
          b = 0;
          left = f;
          right = g;
          a_few = omega arith;
          b_few = omega arith;
          quiet_left = refl;
          quiet_right = refl;
          path = pe;
          effects = subst (λ x. Does f g (effect same (p f.path) f x) (act same (thinned d p) g)) (sym e) (subst (λ x. Does f g (effect same (p f.path) f l) (effect same (thinned d p g.path) g x)) (sym e') h);
        }

    -- by what is left: what goes first is passed over
    meet_left : (path : List ℕ) (b i j : ℕ) (e e' : Env V) (ops : List (Op V)) → left_in (p path) b i ≡ ops → left_in (thin (d path) (p path)) b j ≡ thin_ops (p path) (d path) ops → OpsLive (p path) (d path) ops → Agree (d path) e e' → Meets (suc (going (d path) ops)) (fr path b i e) (fr path b j e')
    meet_left path b i j e e' [] l l' u ag =
        meet_now _ (fr path b i e) (fr path b j e') (omega arith) refl [] [] l l'
        (record { path = refl; block = refl; left = l' ∙ ap (thin_ops (p path) (d path)) (sym l); uses = subst (OpsLive (p path) (d path)) (sym l) tt; agree = ag })
    meet_left path b i j e e' (op ∷ ops) l l' u ag = by_test (goes (d path) op) refl (λ e1. meet_left path b (suc i) j e1 e' ops)
      where
        by_test : (t : Bool) → goes (d path) op ≡ t → ((e1 : Env V) → left_in (p path) b (suc i) ≡ ops → left_in (thin (d path) (p path)) b j ≡ thin_ops (p path) (d path) ops → OpsLive (p path) (d path) ops → Agree (d path) e1 e' → Meets (suc (going (d path) ops)) (fr path b (suc i) e1) (fr path b j e')) → Meets (suc (going (d path) (op ∷ ops))) (fr path b i e) (fr path b j e')
        by_test true t ih =
            let q = idle path (p path) (fr path b i e) op ops t in
            let l2 = l' ∙ ap (λ x. if x then thin_ops (p path) (d path) ops else thin_op (p path) (d path) op ∷ thin_ops (p path) (d path) ops) t in
            let n : suc (suc (going (d path) ops)) ≡ suc (if goes (d path) op then suc (going (d path) ops) else going (d path) ops) = ap (λ x. suc (if x then suc (going (d path) ops) else going (d path) ops)) (sym t) in
            subst (λ x. Meets x (fr path b i e) (fr path b j e')) n (before (suc (going (d path) ops)) (fr path b i e) (fr path b (suc i) q.env) (fr path b j e') (ap (effect same (p path) (fr path b i e)) l ∙ q.is) (ih q.env (left_next (p path) b i op ops l) l2 u.1 (q.agree e' ag)))
        by_test false t ih =
            let l2 = l' ∙ ap (λ x. if x then thin_ops (p path) (d path) ops else thin_op (p path) (d path) op ∷ thin_ops (p path) (d path) ops) t in
            meet_now _ (fr path b i e) (fr path b j e') (omega arith) refl (op ∷ ops) (thin_op (p path) (d path) op ∷ thin_ops (p path) (d path) ops) l l2 (op_thin path b i j e e' op ops l l2 (u.0 t) u.1 ag)

    meet_more : (n m : ℕ) (f g : Frame V) → n ≤ m → Meets n f g → Meets m f g
    meet_more n m f g le x =
        record {
          a = x.a;
          b = x.b;
          left = x.left;
          right = x.right;
          a_few = omega (arith, x.a_few);
          b_few = omega (arith, x.b_few);
          quiet_left = x.quiet_left;
          quiet_right = x.quiet_right;
          path = x.path;
          effects = x.effects;
        }

    thin_meets : (c : ℕ) → FewGo c d p → (f g : Frame V) → Thinner f g → Meets c f g
    thin_meets c few f g r =
        let e : fr f.path f.block g.index g.env ≡ g = ap (λ x. fr x f.block g.index g.env) (sym r.path) ∙ ap (λ x. fr g.path x g.index g.env) (sym r.block) in
        subst (λ x. Meets c f x) e
        (meet_more (suc (going (d f.path) (left_in (p f.path) f.block f.index))) c f (fr f.path f.block g.index g.env) (omega (arith, left_going (d f.path) (p f.path) f.block f.index, few f.path f.block))
        (meet_left f.path f.block f.index g.index f.env g.env (left_in (p f.path) f.block f.index) refl r.left r.uses r.agree))

    enters_thin : (path xs : List ℕ) → Thinner (entry same p path xs) (entry same (thinned d p) path xs)
    enters_thin path xs =
        record {
          path = refl;
          block = refl;
          left = thin_left (d path) (p path) 0;
          uses = (may path).uses 0;
          agree = λ v h. ap (λ ts. bind_all same (λ x. 0) ts xs v) (sym (thin_takes (d path) (p path) 0 ∙ live_all (d path) (arguments_in (p path) 0) (may path).entry));
        }

    pub thin_alike : (c : ℕ) → FewGo c d p → Alike same same c p (thinned d p)
    thin_alike c few =
        alike same same p (thinned d p) Thinner c
        (record { some = omega (arith, few [] 0); enters = enters_thin; meets = thin_meets c few })
