-- Uses of arguments of a chain's later blocks may be replaced by what was forwarded, followed to its end.
use Rattle.std.proofs.Common.{◌≡◌, ◌⊎◌, ⊎_elim, inl, inr, ℕ, zero, suc, ◌+◌, ◌≤◌, Bool, true, false, List, [], ◌∷◌, ◌++◌, length, Option, Some, None, refl, sym, ap, ◌∙◌, subst, arith}
use Rattle.std.specs.Prelude.{slice_get, if◌then◌else◌, unwrap_or}
use Rattle.kit_behaviour.specs.Machine.{AllEdges, Edge, Op, Const, Calc, Emit, Call, Branch, Return, Fun, left_in, arguments_in}
use Rattle.kit_behaviour.specs.Scopes.{In, AllIn, defs, all_defs, entry_values, at_start, SameLength, EdgeScoped, OpScoped, OpsWith}
use Rattle.kit_behaviour.specs.ForwardedArguments.{Untouched, Forwarded, EdgeKeeps, OpKeeps, MayForward}
use Rattle.kit_behaviour.specs.Rules.{from, OpsPlaced, Rules}
use Rattle.kit_behaviour.specs.Places.{Place, Arg, Res}
use Rattle.kit_behaviour.specs.SimplifiedBlocks.{edges_of, all_edges, Reached, count_to, edges_in, BlocksAreJoinable, IsJoinedSet, Depth, top, below, forwarded_to}
use Rattle.kit_behaviour.proofs.ControlFlow.PlacesJoined.{forward, Follows, stop, more, taken_arg}
use Rattle.kit_behaviour.proofs.Propagation.ScopeLemmas.{in_append, in_split}
use Rattle.kit_behaviour.proofs.Numbering.RuleLemmas.{rules_scoped}
use Rattle.kit_behaviour.proofs.ControlFlow.ChainLemmas.{gives_unique, last_in, last_scope, edge_in, entry_free, depth_one, reached_depth, ends_none, ends_at, follows_on}

-- what stands in a list of places

pub in_from : (c : ℕ → Place) (i n : ℕ) (x : Place) → In x (from c i n) → (k : ℕ) × (x ≡ c k) × (i ≤ k)
in_from c i zero x h = absurd h
in_from c i (suc n) x h = ⊎_elim (λ q. (i, q, omega arith)) (λ j. let r = in_from c (suc i) n x j in (r.0, r.1, omega (arith, r.2))) h

arg_index : (b c i k : ℕ) → Arg b i ≡ Arg c k → i ≡ k
arg_index b c i k e = cc e

arg_block : (b c i k : ℕ) → Arg b i ≡ Arg c k → b ≡ c
arg_block b c i k e = cc e

res_block : (b c o q i k : ℕ) → Res b o i ≡ Res c q k → b ≡ c
res_block b c o q i k e = cc e

not_later : (b i n : ℕ) → In (Arg b i) (from (Arg b) (suc i) n) → ⊥
not_later b i n h = let r = in_from (Arg b) (suc i) n (Arg b i) h in let q : i ≡ r.0 = arg_index b b i r.0 r.1 in absurd (omega (arith, q, r.2))

-- names of results
abbrev pub IsRes : ℕ → Place → Type 0
IsRes b x = (o : ℕ) × (i : ℕ) × (x ≡ Res b o i)

res_in : (b o i n : ℕ) (x : Place) → In x (from (Res b o) i n) → (k : ℕ) × (x ≡ Res b o k)
res_in b o i n x h = let r = in_from (Res b o) i n x h in (r.0, r.1)

pub defs_res : (b o : ℕ) (ops : List (Op Place)) → OpsPlaced b o ops → (x : Place) → In x (all_defs ops) → IsRes b x
defs_res b o [] h x i = absurd i
defs_res b o (op ∷ ops) h x i =
    ⊎_elim
    (λ l. let r = res_in b o 0 (length (defs op)) x (subst (In x) h.0 l) in (o, r.0, r.1))
    (λ k. defs_res b (suc o) ops h.1 x k)
    (in_split x (defs op) (all_defs ops) i)

module _ (f : Option (Fun Place)) (rules : Rules f) (j : ℕ → Bool) (taken : IsJoinedSet f j) (s : Place → Place) (fol : (v : Place) → Follows (forward j f) v (s v)) (lives : (b : ℕ) → (arguments_in f b ≡ []) ⊎ Reached f b) where
  abbrev fwd : Place → Option Place
  fwd = forward j f

  free_none : (v : Place) → taken_arg j v ≡ false → fwd v ≡ None
  free_none (Res b o i) e = refl
  free_none (Arg t i) e = ap (λ b. if b then Some (unwrap_or (slice_get (forwarded_to t (edges_in f)) i) (Arg 0 0)) else None) e

  none_free : (v : Place) → fwd v ≡ None → taken_arg j v ≡ false
  none_free (Res b o i) e = refl
  none_free (Arg t i) e = by_test (j t) refl
    where
      by_test : (b : Bool) → j t ≡ b → j t ≡ false
      by_test false q = q
      by_test true q = let bad : None ≡ Some (unwrap_or (slice_get (forwarded_to t (edges_in f)) i) (Arg 0 0)) = sym e ∙ ap (λ b. if b then Some (unwrap_or (slice_get (forwarded_to t (edges_in f)) i) (Arg 0 0)) else None) q in absurd (cc bad)

  pub free_same : (v : Place) → taken_arg j v ≡ false → s v ≡ v
  free_same v e = ends_none fwd v (s v) (fol v) (free_none v e)

  pub names_free : (v : Place) → taken_arg j (s v) ≡ false
  names_free v = none_free (s v) (ends_at fwd v (s v) (fol v))

  pub take_arg : (b : ℕ) (x : Place) → In x (arguments_in f b) → (i : ℕ) × (x ≡ Arg b i)
  take_arg b x h = let r = in_from (Arg b) 0 (length (arguments_in f b)) x (subst (In x) (rules.args b) h) in (r.0, r.1)

  pub res_same : (b : ℕ) (x : Place) → IsRes b x → s x ≡ x
  res_same b x r = free_same x (ap (taken_arg j) r.2)

  pub block_res : (b : ℕ) (x : Place) → In x (all_defs (left_in f b 0)) → IsRes b x
  block_res b x i = defs_res b 0 (left_in f b 0) (rules.names b) x i

  -- a value of the entry block
  abbrev OfEntry : Place → Type 0
  OfEntry x = ((i : ℕ) × (x ≡ Arg 0 i)) ⊎ IsRes 0 x

  of_entry : (x : Place) → In x (entry_values f) → OfEntry x
  of_entry x i = ⊎_elim (λ l. inl (take_arg 0 x l)) (λ k. inr (block_res 0 x k)) (in_split x (arguments_in f 0) (all_defs (left_in f 0 0)) i)

  entry_free_of : (x : Place) → OfEntry x → taken_arg j x ≡ false
  entry_free_of x h = ⊎_elim (λ l. ap (taken_arg j) l.1 ∙ entry_free f j taken) (λ r. ap (taken_arg j) r.2) h

  pub entry_same : (x : Place) → In x (entry_values f) → s x ≡ x
  entry_same x i = free_same x (entry_free_of x (of_entry x i))

  -- what is forwarded to a taken block
  abbrev Into : ℕ → ℕ → Edge Place → List Place → Type 0
  Into p t e c = (e.target ≡ t) × (forwarded_to t (edges_in f) ≡ e.forwards) × EdgeScoped f c e × ((x : Place) → In x c → In x (all_defs (left_in f p 0)) ⊎ In x (at_start f p))

  into : (p t : ℕ) → BlocksAreJoinable f p t → (e : Edge Place) × (c : List Place) × Into p t e c
  into p t h =
      let m = last_scope f (at_start f p) (left_in f p 0) h.edge (rules_scoped f rules p) h.last in
      let le : count_to t (edges_in f) ≤ 1 = omega (arith, h.single) in
      (h.edge, m.0, (h.target, gives_unique t h.edge (edges_in f) le (edge_in f h.edge p (last_in (left_in f p 0) h.edge h.last)) h.target, m.1, m.2))

  pub given : (ts gs : List Place) (i : ℕ) (x : Place) → SameLength ts gs → slice_get ts i ≡ Some x → (g : Place) × (slice_get gs i ≡ Some g) × In g gs
  given [] gs i x l e = absurd (cc e)
  given (t ∷ ts) [] i x l e = absurd l
  given (t ∷ ts) (g ∷ gs) zero x l e = (g, refl, inl refl)
  given (t ∷ ts) (g ∷ gs) (suc i) x l e = let r = given ts gs i x l e in (r.0, r.1, inr r.2)

  from_get : (b i n k : ℕ) → In (Arg b (i + k)) (from (Arg b) i n) → slice_get (from (Arg b) i n) k ≡ Some (Arg b (i + k))
  from_get b i zero k h = absurd h
  from_get b i (suc n) zero h = let z : i ≡ i + 0 = omega arith in ap (λ q. Some (Arg b q)) z
  from_get b i (suc n) (suc k) h =
      let w : i + suc k ≡ suc i + k = omega arith in
      from_get b (suc i) n k (⊎_elim (λ q. let y : i + suc k ≡ i = arg_index b b (i + suc k) i q in absurd (omega (arith, y))) (λ r. subst (λ z. In (Arg b z) (from (Arg b) (suc i) n)) w r) h) ∙ ap (λ q. Some (Arg b q)) (sym w)

  pub take_get : (b i : ℕ) → In (Arg b i) (arguments_in f b) → slice_get (arguments_in f b) i ≡ Some (Arg b i)
  take_get b i h =
      let z : i ≡ 0 + i = omega arith in
      ap (λ l. slice_get l i) (rules.args b)
      ∙ from_get b 0 (length (arguments_in f b)) i (subst (λ q. In (Arg b q) (from (Arg b) 0 (length (arguments_in f b)))) z (subst (In (Arg b i)) (rules.args b) h)) ∙ ap (λ q. Some (Arg b q)) (sym z)

  fwd_is : (t i : ℕ) (g : Place) → j t ≡ true → slice_get (forwarded_to t (edges_in f)) i ≡ Some g → fwd (Arg t i) ≡ Some g
  fwd_is t i g e h = ap (λ b. if b then Some (unwrap_or (slice_get (forwarded_to t (edges_in f)) i) (Arg 0 0)) else None) e ∙ ap (λ o. Some (unwrap_or o (Arg 0 0))) h

  pub follow_same : (t i : ℕ) (g : Place) → j t ≡ true → slice_get (forwarded_to t (edges_in f)) i ≡ Some g → s (Arg t i) ≡ s g
  follow_same t i g e h = follows_on fwd (Arg t i) g (s (Arg t i)) (s g) (fwd_is t i g e h) (fol (Arg t i)) (fol g)

  -- it ends above
  abbrev pub Low : ℕ → Place → Type 0
  Low m u = (c o i : ℕ) → u ≡ Res c o i → (c ≡ 0) ⊎ ((n : ℕ) × Depth f j c n × (suc n ≤ m))

  low_more : (m n : ℕ) (u : Place) → m ≤ n → Low m u → Low n u
  low_more m n u le h c o i e = ⊎_elim (λ q. inl q) (λ w. inr (w.0, w.1, omega (arith, le, w.2))) (h c o i e)

  low : (x u : Place) → Follows fwd x u → (b i m : ℕ) → x ≡ Arg b i → In x (arguments_in f b) → Depth f j b m → Low m u
  low x u (stop v w e q) b i m xe h d = λ c o k r. let bad : Arg b i ≡ Res c o k = sym xe ∙ sym q ∙ r in absurd (cc bad)
  low x u (more v w y e r) b i m xe h (top b1 n1 free z) =
      let bad : None ≡ Some w = sym (ap fwd xe ∙ free_none (Arg b i) free) ∙ e in absurd (cc bad)
  low x u (more v w y e r) b i m xe h (below p t k n1 jn z d) =
      let n = into p t jn in
      let ed = n.0 in
      let c = n.1 in
      let jt = taken.back p t jn in
      let here : slice_get (arguments_in f t) i ≡ Some (Arg t i) = take_get t i (subst (λ q. In q (arguments_in f t)) xe h) in
      let g = given (arguments_in f t) ed.forwards i (Arg t i) (subst (λ q. SameLength (arguments_in f q) ed.forwards) n.2.0 n.2.2.2) here in
      let fg : fwd v ≡ Some g.0 = ap fwd xe ∙ fwd_is t i g.0 jt (ap (λ l. slice_get l i) n.2.1 ∙ g.1) in
      let both : Some w ≡ Some g.0 = sym e ∙ fg in
      let wg : w ≡ g.0 = cc both in
      let in_c : In w c = subst (λ q. In q c) (sym wg) (all_in g.0 ed.forwards c g.2 n.2.2.0) in
      ⊎_elim
      (λ l. let o = block_res p w l in λ c2 o2 i2 q. inr (k, subst (λ b2. Depth f j b2 k) (res_block p c2 o.0 o2 o.1 i2 (sym o.2 ∙ sym (ends_none fwd w y r (free_none w (ap (taken_arg j) o.2))) ∙ q)) d, omega (arith, z)))
      (λ l. by_start p k w y d r (omega (arith, z)) (λ i2 q. low w y r p i2 k q) l)
      (n.2.3 w in_c)
    where
      all_in : (q : Place) (qs c : List Place) → In q qs → AllIn qs c → In q c
      all_in q [] c i h = absurd i
      all_in q (y ∷ ys) c i h = ⊎_elim (λ e. subst (λ z. In z c) (sym e) h.0) (λ k. all_in q ys c k h.1) i

      by_entry : (w y : Place) → Follows fwd w y → In w (entry_values f) → Low m y
      by_entry w y r l c o i q =
          ⊎_elim
          (λ a. let bad : Arg 0 a.0 ≡ Res c o i = sym a.1 ∙ sym (ends_none fwd w y r (free_none w (entry_free_of w (inl a)))) ∙ q in absurd (cc bad))
          (λ a. inl (sym (res_block 0 c a.0 o a.1 i (sym a.2 ∙ sym (ends_none fwd w y r (free_none w (entry_free_of w (inr a)))) ∙ q))))
          (of_entry w l)

      by_start : (p k : ℕ) (w y : Place) → Depth f j p k → Follows fwd w y → k ≤ m → ((i : ℕ) → w ≡ Arg p i → In w (arguments_in f p) → Depth f j p k → Low k y) → In w (at_start f p) → Low m y
      by_start zero k w y d r le ih l = let a = take_arg 0 w l in low_more k m y le (ih a.0 a.1 l d)
      by_start (suc p) k w y d r le ih l =
          ⊎_elim
          (λ t. let a = take_arg (suc p) w t in low_more k m y le (ih a.0 a.1 t d))
          (λ t. by_entry w y r t)
          (in_split w (arguments_in f (suc p)) (entry_values f) l)

  -- 2. the uses may be replaced

  -- no operation of block b binds x or what stands for it
  abbrev Calm : ℕ → Place → Type 0
  Calm b x = (s x ≡ x) ⊎ ((IsRes b x → ⊥) × (IsRes b (s x) → ⊥))

  takes_calm : (b : ℕ) (x : Place) → In x (arguments_in f b) → Calm b x
  takes_calm b x i = by_test (j b) refl (lives b)
    where
      by_test : (t : Bool) → j b ≡ t → (arguments_in f b ≡ []) ⊎ Reached f b → Calm b x
      by_test false e l = let a = take_arg b x i in inl (free_same x (ap (taken_arg j) a.1 ∙ e))
      by_test true e l =
          ⊎_elim
          (λ q. absurd (subst (In x) q i))
          (λ r.
          let dp = reached_depth f j taken b r in
          let a = take_arg b x i in
          inr (
            λ w. let bad : Arg b a.0 ≡ Res b w.0 w.1 = sym a.1 ∙ w.2 in cc bad,
            λ w.
                ⊎_elim
                (λ z. let bad : true ≡ false = sym e ∙ ap j z ∙ entry_free f j taken in cc bad)
                (λ (z : (n : ℕ) × Depth f j b n × (suc n ≤ dp.0)). let q = depth_one f j taken b z.0 dp.0 z.1 dp.1 in absurd (omega (arith, q, z.2)))
                (low x (s x) (fol x) b a.0 dp.0 a.1 i dp.1 b w.0 w.1 w.2),
          ))
          l

  start_calm : (b : ℕ) (x : Place) → In x (at_start f b) → Calm b x
  start_calm zero x i = takes_calm 0 x i
  start_calm (suc b) x i = ⊎_elim (λ l. takes_calm (suc b) x l) (λ k. inl (entry_same x k)) (in_split x (arguments_in f (suc b)) (entry_values f) i)

  untouched : (b : ℕ) (rs a : List Place) → ((r : Place) → In r rs → IsRes b r) → ((x : Place) → In x a → Calm b x) → (x : Place) → In x (rs ++ a) → Untouched s rs a x
  untouched b rs a res calm x i =
      ⊎_elim
      (λ l. inl (res_same b x (res x l)))
      (λ k. ⊎_elim (λ e. inl e) (λ c. inr (k, λ l. c.0 (res x l), λ l. c.1 (res (s x) l))) (calm x k))
      (in_split x rs a i)

  fw_from : (t i n : ℕ) (gs all : List Place) → SameLength (from (Arg t) i n) gs → ((k : ℕ) (g : Place) → slice_get gs k ≡ Some g → (s (Arg t (i + k)) ≡ Arg t (i + k)) ⊎ ((s (Arg t (i + k)) ≡ s g) × (In (s g) all → ⊥))) → Forwarded s all (from (Arg t) i n) gs
  fw_from t i zero gs all l h = tt
  fw_from t i (suc n) [] all l h = absurd l
  fw_from t i (suc n) (g ∷ gs) all l h =
      let z : i + 0 ≡ i = omega arith in (
        subst (λ q. (s (Arg t q) ≡ Arg t q) ⊎ ((s (Arg t q) ≡ s g) × (In (s g) all → ⊥))) z (h 0 g refl),
        not_later t i n,
        fw_from t (suc i) n gs all l (λ k x e. let w : i + suc k ≡ suc i + k = omega arith in subst (λ q. (s (Arg t q) ≡ Arg t q) ⊎ ((s (Arg t q) ≡ s x) × (In (s x) all → ⊥))) w (h (suc k) x e)),
      )

  pub gives_is : (e : Edge Place) → In e (edges_in f) → j e.target ≡ true → forwarded_to e.target (edges_in f) ≡ e.forwards
  gives_is e i q =
      let h = taken.there e.target q in
      let le : count_to e.target (edges_in f) ≤ 1 = omega (arith, h.1.single) in
      gives_unique e.target e (edges_in f) le i refl

  edge_forwarded : (e : Edge Place) → In e (edges_in f) → SameLength (arguments_in f e.target) e.forwards → Forwarded s (arguments_in f e.target) (arguments_in f e.target) e.forwards
  edge_forwarded e i l =
      subst (λ ts. Forwarded s (arguments_in f e.target) ts e.forwards) (sym (rules.args e.target))
      (fw_from e.target 0 (length (arguments_in f e.target)) e.forwards (arguments_in f e.target) (subst (λ ts. SameLength ts e.forwards) (rules.args e.target) l) (λ k g h. by_test (j e.target) refl k g h))
    where
      by_test : (t : Bool) → j e.target ≡ t → (k : ℕ) (g : Place) → slice_get e.forwards k ≡ Some g → (s (Arg e.target (0 + k)) ≡ Arg e.target (0 + k)) ⊎ ((s (Arg e.target (0 + k)) ≡ s g) × (In (s g) (arguments_in f e.target) → ⊥))
      by_test false q k g h = inl (free_same (Arg e.target (0 + k)) q)
      by_test true q k g h =
          let z : 0 + k ≡ k = omega arith in
          inr (
            ap (λ w. s (Arg e.target w)) z ∙ follow_same e.target k g q (ap (λ l. slice_get l k) (gives_is e i q) ∙ h),
            λ w. let a = take_arg e.target (s g) w in let bad : true ≡ false = sym q ∙ sym (ap (taken_arg j) a.1) ∙ names_free g in cc bad,
          )

  edge_keeps : (a : List Place) (e : Edge Place) → In e (edges_in f) → EdgeScoped f a e → EdgeKeeps f (at_start f) s a e
  edge_keeps a e i w = (w.0, edge_forwarded e i w.2, by_target e.target)
    where
      by_target : (t : ℕ) (x : Place) → In x (at_start f t) → In x (arguments_in f t) ⊎ Untouched s (arguments_in f t) a x
      by_target zero x h = inl h
      by_target (suc t) x h = ⊎_elim (λ l. inl l) (λ k. inr (inl (entry_same x k))) (in_split x (arguments_in f (suc t)) (entry_values f) h)

  each_keeps : (a : List Place) (es : List (Edge Place)) → ((e : Edge Place) → In e es → In e (edges_in f)) → AllEdges (EdgeScoped f a) es → AllEdges (EdgeKeeps f (at_start f) s a) es
  each_keeps a [] sub w = tt
  each_keeps a (e ∷ es) sub w = (edge_keeps a e (sub e (inl refl)) w.0, each_keeps a es (λ x i. sub x (inr i)) w.1)

  op_keeps : (b : ℕ) (a : List Place) (op : Op Place) → ((r : Place) → In r (defs op) → IsRes b r) → ((e : Edge Place) → In e (edges_of op) → In e (edges_in f)) → ((x : Place) → In x a → Calm b x) → OpScoped f a op → OpKeeps f (at_start f) s a op
  op_keeps b a (Const r n) res sub calm w = untouched b (r ∷ []) a res calm
  op_keeps b a (Calc o t r x y) res sub calm w = (w.0, w.1, untouched b (r ∷ []) a res calm)
  op_keeps b a (Emit x) res sub calm w = w
  op_keeps b a (Call rs c xs) res sub calm w = (w, untouched b rs a res calm)
  op_keeps b a (Branch t xs e es) res sub calm w = (w.0, each_keeps a (e ∷ es) sub w.1)
  op_keeps b a (Return xs) res sub calm w = w

  ops_keep : (b : ℕ) (a : List Place) (ops : List (Op Place)) → ((r : Place) → In r (all_defs ops) → IsRes b r) → ((e : Edge Place) → In e (all_edges ops) → In e (edges_in f)) → ((x : Place) → In x a → Calm b x) → OpsWith (OpScoped f) a ops → OpsWith (OpKeeps f (at_start f) s) a ops
  ops_keep b a [] res sub calm w = tt
  ops_keep b a (op ∷ ops) res sub calm w = (
    op_keeps b a op (λ r i. res r (in_append r (defs op) (all_defs ops) (inl i))) (λ e i. sub e (in_append e (edges_of op) (all_edges ops) (inl i))) calm w.0,
    ops_keep b (defs op ++ a) ops (λ r i. res r (in_append r (defs op) (all_defs ops) (inr i))) (λ e i. sub e (in_append e (edges_of op) (all_edges ops) (inr i)))
        (λ x i. ⊎_elim (λ l. inl (res_same b x (res x (in_append x (defs op) (all_defs ops) (inl l))))) (λ k. calm x k) (in_split x (defs op) a i)) w.1,
  )

  pub may_forward : MayForward s (at_start f) f
  may_forward =
      record {
        entry = λ x i. let a = take_arg 0 x i in free_same x (ap (taken_arg j) a.1 ∙ entry_free f j taken);
        blocks = λ b. ops_keep b (at_start f b) (left_in f b 0) (λ r i. block_res b r i) (λ e i. edge_in f e b i) (λ x i. start_calm b x i) (rules_scoped f rules b);
      }
