-- A simulation of frames, in stretches of one step or more on both sides, is a simulation of runs, calls
-- and returns included. Both directions come from one relation, since a stretch is bounded on both sides.
use Rattle.std.proofs.Common.{◌≡◌, ℕ, zero, suc, ◌+◌, ◌-◌, ◌*◌, ◌<◌, ◌≤◌, Bool, List, [], ◌∷◌, ◌++◌, refl, sym, ap, ◌∙◌, subst, arith}
use Rattle.kit_behaviour.specs.Machine.{Frame, State, Going, Ended, Trapped, Effect, Next, Out, Enter, Exit, Fault, Lost, FunctionsByPath, act, done, return_to, entry, beside, resume, start, run, out_of, Shown, FollowsWithin, Alike}
use Rattle.kit_behaviour.proofs.Behaviour.RunLemmas.{run-add, ended_stays, trapped_stays, run_out}

-- k steps within one frame, without an emission
abbrev pub Quiet : {V : Type 0} → (V → V → Bool) → FunctionsByPath V → ℕ → Frame V → Frame V → Type 0
Quiet same p zero f g = f ≡ g
Quiet {V} same p (suc k) f g = (h : Frame V) × (act same p f ≡ Next h) × Quiet same p k h g

quiet_run : {V : Type 0} (same : V → V → Bool) (p : FunctionsByPath V) (k : ℕ) (f g : Frame V) (fs : List (Frame V)) (out : List ℕ) → Quiet same p k f g → run same p k (Going (f ∷ fs) out) ≡ Going (g ∷ fs) out
quiet_run same p zero f g fs out q = ap (λ h. Going (h ∷ fs) out) q
quiet_run same p (suc k) f g fs out q =
    ap (λ d. run same p k (done same p f fs out d)) q.1 ∙ quiet_run same p k q.0 g fs out q.2

module _ {V W : Type 0} (same : V → V → Bool) (same' : W → W → Bool) (p : FunctionsByPath V) (q : FunctionsByPath W) (R : Frame V → Frame W → Type 0) where
  -- two frames that wait at a call go on alike, whatever the call returns
  abbrev pub WaitAlike : Frame V → Frame W → Type 0
  WaitAlike f g = (ns : List ℕ) → R (resume same p f ns) (resume same' q g ns)

  abbrev pub EffectsAlike : Frame V → Frame W → Effect V → Effect W → Type 0
  EffectsAlike f g (Next f') (Next g') = R f' g'
  EffectsAlike f g (Out n f') (Out m g') = (n ≡ m) × R f' g'
  EffectsAlike f g (Enter c xs) (Enter d ys) = (c ≡ d) × (xs ≡ ys) × WaitAlike f g
  EffectsAlike f g (Exit xs) (Exit ys) = xs ≡ ys
  EffectsAlike f g Fault Fault = Unit {0}
  EffectsAlike f g Lost Lost = R f g
  EffectsAlike f g _ _ = ⊥

  -- after fewer than c quiet steps each, both do the same
  pub record Meet (c : ℕ) (f : Frame V) (g : Frame W) : Type 0 where
    pub a : ℕ
    pub b : ℕ
    pub left : Frame V
    pub right : Frame W
    pub a_few : a < c
    pub b_few : b < c
    pub quiet_left : Quiet same p a f left
    pub quiet_right : Quiet same' q b g right
    pub path : left.path ≡ right.path
    pub effects : EffectsAlike left right (act same p left) (act same' q right)

  pub record Simulates (c : ℕ) : Type 0 where
    pub some : 1 ≤ c
    pub enters : (path xs : List ℕ) → R (entry same p path xs) (entry same' q path xs)
    pub meets : (f : Frame V) (g : Frame W) → R f g → Meet c f g

  abbrev Stacks : List (Frame V) → List (Frame W) → Type 0
  Stacks [] [] = Unit {0}
  Stacks (f ∷ fs) (g ∷ gs) = WaitAlike f g × Stacks fs gs
  Stacks _ _ = ⊥

  abbrev Match : State V → State W → Type 0
  Match (Going [] o) (Going [] o') = o ≡ o'
  Match (Going (f ∷ fs) o) (Going (g ∷ gs) o') = R f g × Stacks fs gs × (o ≡ o')
  Match (Ended ns o) (Ended ms o') = (ns ≡ ms) × (o ≡ o')
  Match (Trapped o) (Trapped o') = o ≡ o'
  Match _ _ = ⊥

  returns_match : (fs : List (Frame V)) (gs : List (Frame W)) (xs ys o o' : List ℕ) → Stacks fs gs → xs ≡ ys → o ≡ o' → Match (return_to same p fs xs o) (return_to same' q gs ys o')
  returns_match [] [] xs ys o o' st e oe = (e, oe)
  returns_match (f ∷ fs) (g ∷ gs) xs ys o o' st e oe =
      (subst (λ l. R (resume same p f xs) (resume same' q g l)) e (st.0 xs), st.1, oe)
  returns_match [] (g ∷ gs) xs ys o o' st e oe = absurd st
  returns_match (f ∷ fs) [] xs ys o o' st e oe = absurd st

  enters_alike : ((path xs : List ℕ) → R (entry same p path xs) (entry same' q path xs)) → (a b : List ℕ) (c d : ℕ) (xs ys : List ℕ) → a ≡ b → c ≡ d → xs ≡ ys → R (entry same p (beside a c) xs) (entry same' q (beside b d) ys)
  enters_alike en a b c d xs ys pe ce xe =
      subst (λ l. R (entry same p (beside a c) xs) (entry same' q (beside b d) l)) xe
      (subst (λ n. R (entry same p (beside a c) xs) (entry same' q (beside b n) xs)) ce
      (subst (λ l. R (entry same p (beside a c) xs) (entry same' q (beside l c) xs)) pe (en (beside a c) xs)))

  done_match : ((path xs : List ℕ) → R (entry same p path xs) (entry same' q path xs)) → (f : Frame V) (g : Frame W) (fs : List (Frame V)) (gs : List (Frame W)) (o o' : List ℕ) (d : Effect V) (e : Effect W) → f.path ≡ g.path → EffectsAlike f g d e → Stacks fs gs → o ≡ o' → Match (done same p f fs o d) (done same' q g gs o' e)
  done_match en f g fs gs o o' (Next f') (Next g') pe h st oe = (h, st, oe)
  done_match en f g fs gs o o' (Out n f') (Out m g') pe h st oe =
      (h.1, st, ap (λ l. l ++ n ∷ []) oe ∙ ap (λ k. o' ++ k ∷ []) h.0)
  done_match en f g fs gs o o' (Enter c xs) (Enter d ys) pe h st oe =
      (enters_alike en f.path g.path c d xs ys pe h.0 h.1, (h.2, st), oe)
  done_match en f g fs gs o o' (Exit xs) (Exit ys) pe h st oe = returns_match fs gs xs ys o o' st h oe
  done_match en f g fs gs o o' Fault Fault pe h st oe = oe
  done_match en f g fs gs o o' Lost Lost pe h st oe = (h, st, oe)
  done_match en f g fs gs o o' _ _ pe h st oe = absurd h

  -- a stretch of both runs, from one match to the next
  record Stretch (c n : ℕ) (s : State V) (t : State W) : Type 0 where
    a : ℕ
    b : ℕ
    a_some : n ≤ a
    a_few : a ≤ n * c
    b_some : n ≤ b
    b_few : b ≤ n * c
    match : Match (run same p a s) (run same' q b t)

  stretch_of : (c : ℕ) → 1 ≤ c → (s : State V) (t : State W) → Match (run same p 1 s) (run same' q 1 t) → Stretch c 1 s t
  stretch_of c le s t m = record { a = 1; b = 1; a_some = omega arith; a_few = omega arith; b_some = omega arith; b_few = omega arith; match = m }

  meet_stretch : (c : ℕ) → Simulates c → (f : Frame V) (g : Frame W) (fs : List (Frame V)) (gs : List (Frame W)) (o o' : List ℕ) → Meet c f g → Stacks fs gs → o ≡ o' → Stretch c 1 (Going (f ∷ fs) o) (Going (g ∷ gs) o')
  meet_stretch c sim f g fs gs o o' m st oe =
      let la : run same p (m.a + 1) (Going (f ∷ fs) o) ≡ done same p m.left fs o (act same p m.left) =
      run-add same p m.a 1 (Going (f ∷ fs) o) ∙ ap (λ s. run same p 1 s) (quiet_run same p m.a f m.left fs o m.quiet_left) in
      let lb : run same' q (m.b + 1) (Going (g ∷ gs) o') ≡ done same' q m.right gs o' (act same' q m.right) =
      run-add same' q m.b 1 (Going (g ∷ gs) o') ∙ ap (λ s. run same' q 1 s) (quiet_run same' q m.b g m.right gs o' m.quiet_right) in
      let dm = done_match sim.enters m.left m.right fs gs o o' (act same p m.left) (act same' q m.right) m.path m.effects st oe in
      record {
        a = m.a + 1;
        b = m.b + 1;
        a_some = omega arith;
        a_few = omega (arith, m.a_few);
        b_some = omega arith;
        b_few = omega (arith, m.b_few);
        match = subst (λ s. Match s (run same' q (m.b + 1) (Going (g ∷ gs) o'))) (sym la)
            (subst (λ t. Match (done same p m.left fs o (act same p m.left)) t) (sym lb) dm);
      }

  stretch : (c : ℕ) → Simulates c → (s : State V) (t : State W) → Match s t → Stretch c 1 s t
  stretch c sim (Going [] o) (Going [] o') m = stretch_of c sim.some (Going [] o) (Going [] o') m
  stretch c sim (Going (f ∷ fs) o) (Going (g ∷ gs) o') m = meet_stretch c sim f g fs gs o o' (sim.meets f g m.0) m.1 m.2
  stretch c sim (Ended ns o) (Ended ms o') m = stretch_of c sim.some (Ended ns o) (Ended ms o') m
  stretch c sim (Trapped o) (Trapped o') m = stretch_of c sim.some (Trapped o) (Trapped o') m
  stretch c sim (Going [] o) (Going (g ∷ gs) o') m = absurd m
  stretch c sim (Going (f ∷ fs) o) (Going [] o') m = absurd m
  stretch c sim (Going [] o) (Ended ms o') m = absurd m
  stretch c sim (Going (f ∷ fs) o) (Ended ms o') m = absurd m
  stretch c sim (Going [] o) (Trapped o') m = absurd m
  stretch c sim (Going (f ∷ fs) o) (Trapped o') m = absurd m
  stretch c sim (Ended ns o) (Going gs o') m = absurd m
  stretch c sim (Ended ns o) (Trapped o') m = absurd m
  stretch c sim (Trapped o) (Going gs o') m = absurd m
  stretch c sim (Trapped o) (Ended ms o') m = absurd m

  stretches : (c : ℕ) → Simulates c → (n : ℕ) (s : State V) (t : State W) → Match s t → Stretch c n s t
  stretches c sim zero s t m = record { a = 0; b = 0; a_some = omega arith; a_few = omega arith; b_some = omega arith; b_few = omega arith; match = m }
  stretches c sim (suc n) s t m =
      let x = stretch c sim s t m in
      let y = stretches c sim n (run same p x.a s) (run same' q x.b t) x.match in
      record {
        a = x.a + y.a;
        b = x.b + y.b;
        a_some = omega (arith, x.a_some, y.a_some);
        a_few = omega (arith, x.a_few, y.a_few);
        b_some = omega (arith, x.b_some, y.b_some);
        b_few = omega (arith, x.b_few, y.b_few);
        match = subst (λ u. Match u (run same' q (x.b + y.b) t)) (sym (run-add same p x.a y.a s))
            (subst (λ u. Match (run same p y.a (run same p x.a s)) u) (sym (run-add same' q x.b y.b t)) y.match);
      }

  match_out : (s : State V) (t : State W) → Match s t → out_of s ≡ out_of t
  match_out (Going [] o) (Going [] o') m = m
  match_out (Going (f ∷ fs) o) (Going (g ∷ gs) o') m = m.2
  match_out (Ended ns o) (Ended ms o') m = m.1
  match_out (Trapped o) (Trapped o') m = m
  match_out (Going [] o) (Going (g ∷ gs) o') m = absurd m
  match_out (Going (f ∷ fs) o) (Going [] o') m = absurd m
  match_out (Going [] o) (Ended ms o') m = absurd m
  match_out (Going (f ∷ fs) o) (Ended ms o') m = absurd m
  match_out (Going [] o) (Trapped o') m = absurd m
  match_out (Going (f ∷ fs) o) (Trapped o') m = absurd m
  match_out (Ended ns o) (Going gs o') m = absurd m
  match_out (Ended ns o) (Trapped o') m = absurd m
  match_out (Trapped o) (Going gs o') m = absurd m
  match_out (Trapped o) (Ended ms o') m = absurd m

  match_ended : (ns o : List ℕ) (t : State W) → Match (Ended ns o) t → t ≡ Ended ns o
  match_ended ns o (Going gs o') m = absurd m
  match_ended ns o (Ended ms o') m = ap (λ l. Ended l o') (sym m.0) ∙ ap (λ l. Ended ns l) (sym m.1)
  match_ended ns o (Trapped o') m = absurd m

  match_trapped : (o : List ℕ) (t : State W) → Match (Trapped o) t → t ≡ Trapped o
  match_trapped o (Going gs o') m = absurd m
  match_trapped o (Ended ms o') m = absurd m
  match_trapped o (Trapped o') m = ap (λ l. Trapped l) (sym m)

  match_shown : (k : ℕ) (s : State V) (t : State W) → Match (run same p k s) t → Shown s t
  match_shown k (Going fs o) t m =
      let h = run_out same p k (Going fs o) in
      (h.0, h.1 ∙ match_out (run same p k (Going fs o)) t m)
  match_shown k (Ended ns o) t m = match_ended ns o t (subst (λ s. Match s t) (ended_stays same p k ns o) m)
  match_shown k (Trapped o) t m = match_trapped o t (subst (λ s. Match s t) (trapped_stays same p k o) m)

  pub follows : (c : ℕ) → Simulates c → FollowsWithin same same' c p q
  follows c sim path xs n =
      let x = stretches c sim n (start same p path xs) (start same' q path xs) (sim.enters path xs, tt, refl) in
      let k : n + (x.a - n) ≡ x.a = omega (arith, x.a_some) in
      let split = ap (λ j. run same p j (start same p path xs)) (sym k) ∙ run-add same p n (x.a - n) (start same p path xs) in
      (x.b, x.b_few, match_shown (x.a - n) (run same p n (start same p path xs)) (run same' q x.b (start same' q path xs)) (subst (λ s. Match s (run same' q x.b (start same' q path xs))) split x.match))

module _ {V W : Type 0} (same : V → V → Bool) (same' : W → W → Bool) (p : FunctionsByPath V) (q : FunctionsByPath W) (R : Frame V → Frame W → Type 0) where
  effects_flip : (f : Frame V) (g : Frame W) (d : Effect V) (e : Effect W) → EffectsAlike same same' p q R f g d e → EffectsAlike same' same q p (λ y x. R x y) g f e d
  effects_flip f g (Next f') (Next g') h = h
  effects_flip f g (Out n f') (Out m g') h = (sym h.0, h.1)
  effects_flip f g (Enter c xs) (Enter d ys) h = (sym h.0, sym h.1, h.2)
  effects_flip f g (Exit xs) (Exit ys) h = sym h
  effects_flip f g Fault Fault h = tt
  effects_flip f g Lost Lost h = h
  effects_flip f g _ _ h = absurd h

  simulates_flip : (c : ℕ) → Simulates same same' p q R c → Simulates same' same q p (λ y x. R x y) c
  simulates_flip c sim =
      record {
        some = sim.some;
        enters = sim.enters;
        meets = λ g f r. let m = sim.meets f g r in
            record {
              a = m.b;
              b = m.a;
              left = m.right;
              right = m.left;
              a_few = m.b_few;
              b_few = m.a_few;
              quiet_left = m.quiet_right;
              quiet_right = m.quiet_left;
              path = sym m.path;
              effects = effects_flip m.left m.right _ _ m.effects;
            };
      }

  pub alike : (c : ℕ) → Simulates same same' p q R c → Alike same same' c p q
  alike c sim =
      record {
        there = follows same same' p q R c sim;
        back = follows same' same q p (λ y x. R x y) c (simulates_flip c sim);
      }
