-- Chains joined at their first: arguments gone, blocks taken in, taken blocks dropped.
use Rattle.std.proofs.Common.{◌≡◌, ◌⊎◌, inl, inr, ℕ, zero, suc, ◌+◌, ◌<◌, ◌≤◌, Bool, true, false, List, [], ◌∷◌, ◌++◌, length, Option, Some, None, refl, sym, ap, ◌∙◌, subst, arith}
use Rattle.std.specs.Prelude.{map, slice_get, option_map, if◌then◌else◌, not}
use Rattle.std.proofs.lemmas.Option.{slice_get-map}
use Rattle.kit_behaviour.specs.Machine.{AllEdges, Edge, Op, Const, Calc, Emit, Call, Branch, Return, Block, Fun, ops_left, left_in, arguments_of, arguments_in}
use Rattle.kit_behaviour.specs.RemovedValues.{may_trap, goes, live, thin_edge, thin_op, thin_ops, AllLive, GivesLive, EdgeLive, OpLive, OpsLive, SetMayGo, going}
use Rattle.kit_behaviour.specs.JoinedBlocks.{join_ops, joined, JoinsTo, Chains, JoinsBlocksOf}
use Rattle.kit_behaviour.specs.Scopes.{In, defs, all_defs}
use Rattle.kit_behaviour.specs.Replacement.{replace_edge, replace_op, replace}
use Rattle.kit_behaviour.specs.Rules.{from, Rules}
use Rattle.kit_behaviour.specs.Places.{Place, Arg}
use Rattle.kit_behaviour.specs.SimplifiedBlocks.{edges_of, all_edges, LeadsTo, Reached, lone, last_edge, count_to, BlocksAreJoinable, IsJoinedSet, Depth, top, below, join_block, join_fun}
use Rattle.kit_behaviour.proofs.ControlFlow.PlacesJoined.{forward, Follows, taken_arg, replaced_args}
use Rattle.kit_behaviour.proofs.Behaviour.EdgeLemmas.{edges_map}
use Rattle.kit_behaviour.proofs.Lattice.ReplacementBehaviour.{replace_left, replace_takes}
use Rattle.kit_behaviour.proofs.DeadCode.RemovalBehaviour.{thin_left, thin_takes}
use Rattle.kit_behaviour.proofs.Propagation.ScopeLemmas.{in_append}
use Rattle.kit_behaviour.proofs.ControlFlow.ChainLemmas.{leads_left, leads_right, leads_count, in_leads, last_in, left_count, ops_count, one_place, joinable_leads, entry_free}
use Rattle.kit_behaviour.proofs.ControlFlow.ForwardingPremises.{IsRes, block_res, names_free}

join_none : {V : Type 0} (j : ℕ → Bool) (g : Option (Fun V)) (k : ℕ) → joined j g k [] ≡ []
join_none j g zero = refl
join_none j g (suc k) = refl

join_left_block : {V : Type 0} (j : ℕ → Bool) (g : Option (Fun V)) (k : ℕ) (o : Option (Block V)) → ops_left (option_map (join_block j g k) o) 0 ≡ joined j g k (ops_left o 0)
join_left_block j g k None = sym (join_none j g k)
join_left_block j g k (Some b) = refl

pub join_left : {V : Type 0} (j : ℕ → Bool) (k : ℕ) (g : Option (Fun V)) (b : ℕ) → left_in (join_fun j k g) b 0 ≡ joined j g k (left_in g b 0)
join_left j k None b = sym (join_none j None k)
join_left j k (Some g) b = ap (λ o. ops_left o 0) (slice_get-map (join_block j (Some g) k) g b) ∙ join_left_block j (Some g) k (slice_get g b)

join_takes_block : {V : Type 0} (j : ℕ → Bool) (g : Option (Fun V)) (k : ℕ) (o : Option (Block V)) → arguments_of (option_map (join_block j g k) o) ≡ arguments_of o
join_takes_block j g k None = refl
join_takes_block j g k (Some b) = refl

pub join_takes : {V : Type 0} (j : ℕ → Bool) (k : ℕ) (g : Option (Fun V)) (b : ℕ) → arguments_in (join_fun j k g) b ≡ arguments_in g b
join_takes j k None b = refl
join_takes j k (Some g) b = ap arguments_of (slice_get-map (join_block j (Some g) k) g b) ∙ join_takes_block j (Some g) k (slice_get g b)

pub edges_append : {V : Type 0} (P : Edge V → Type 0) (xs ys : List (Edge V)) → AllEdges P xs → AllEdges P ys → AllEdges P (xs ++ ys)
edges_append P [] ys h g = g
edges_append P (x ∷ xs) ys h g = (h.0, edges_append P xs ys h.1 g)

pub edges_by : {V : Type 0} (P : Edge V → Type 0) (es : List (Edge V)) → ((z : Edge V) → In z es → P z) → AllEdges P es
edges_by P [] h = tt
edges_by P (e ∷ es) h = (h e (inl refl), edges_by P es (λ z i. h z (inr i)))

-- edges of what was joined lead to no block of the set

module _ {V : Type 0} (j : ℕ → Bool) where
  abbrev pub Stays : Edge V → Type 0
  Stays x = not (j x.target) ≡ true

  stays_ops : (N : ℕ → Type 0) (n : ℕ → List (Op V)) → ((t : ℕ) → N t → AllEdges Stays (all_edges (n t))) → (ops : List (Op V)) → JoinsTo j N ops → AllEdges Stays (all_edges (join_ops j n ops))
  stays_ops N n h [] q = tt
  stays_ops N n h (Branch s xs e [] ∷ ops) q = by_test (j e.target) refl (stays_ops N n h ops q.1)
    where
      by_test : (t : Bool) → j e.target ≡ t → AllEdges Stays (all_edges (join_ops j n ops)) → AllEdges Stays (all_edges (if t then n e.target else Branch s xs e [] ∷ join_ops j n ops))
      by_test true t ih = h e.target (q.0 t)
      by_test false t ih = (ap not t, ih)
  stays_ops N n h (Branch s xs e (x ∷ es) ∷ ops) q =
      edges_append Stays (e ∷ x ∷ es) (all_edges (join_ops j n ops)) (each (e ∷ x ∷ es) q.0) (stays_ops N n h ops q.1)
    where
      each : (ys : List (Edge V)) → AllEdges (λ y. j y.target ≡ false) ys → AllEdges Stays ys
      each [] w = tt
      each (y ∷ ys) w = (ap not w.0, each ys w.1)
  stays_ops N n h (Const v k ∷ ops) q = stays_ops N n h ops q
  stays_ops N n h (Calc a w v x y ∷ ops) q = stays_ops N n h ops q
  stays_ops N n h (Emit x ∷ ops) q = stays_ops N n h ops q
  stays_ops N n h (Call vs c xs ∷ ops) q = stays_ops N n h ops q
  stays_ops N n h (Return xs ∷ ops) q = stays_ops N n h ops q

  pub joined_stays : (g : Option (Fun V)) (k : ℕ) (ops : List (Op V)) → Chains j g k ops → AllEdges Stays (all_edges (joined j g k ops))
  joined_stays g zero ops h = stays_ops (λ t. ⊥) (λ t. []) (λ t n. tt) ops h
  joined_stays g (suc k) ops h = stays_ops (λ t. (arguments_in g t ≡ []) × Chains j g k (left_in g t 0)) (λ t. joined j g k (left_in g t 0)) (λ t n. joined_stays g k (left_in g t 0) n.1) ops h

module _ (f : Option (Fun Place)) (rules : Rules f) (j : ℕ → Bool) (taken : IsJoinedSet f j) (s : Place → Place) (fol : (v : Place) → Follows (forward j f) v (s v)) (lives : (b : ℕ) → (arguments_in f b ≡ []) ⊎ Reached f b) (k : ℕ) (long : (b n : ℕ) → Depth f j b n → n ≤ k) where
  abbrev d : Place → Bool
  d = taken_arg j

  abbrev f1 : Option (Fun Place)
  f1 = replace s f

  abbrev f2 : Option (Fun Place)
  f2 = replaced_args j s f

  abbrev f3 : Option (Fun Place)
  f3 = join_fun j k f2

  abbrev pub tw : Op Place → Op Place
  tw op = thin_op f1 d (replace_op s op)

  abbrev twe : Edge Place → Edge Place
  twe e = thin_edge f1 d (replace_edge s e)

  -- 1. arguments go, and no operation

  if_none : (t b : Bool) → b ≡ false → (if t then false else b) ≡ false
  if_none true b e = refl
  if_none false b e = e

  goes_none : (b : ℕ) (op : Op Place) → ((r : Place) → In r (defs op) → IsRes b r) → goes d (replace_op s op) ≡ false
  goes_none b (Const r n) res = let w = res r (inl refl) in ap (taken_arg j) w.2
  goes_none b (Calc a w r x y) res = let q = res r (inl refl) in if_none (may_trap a) (d r) (ap (taken_arg j) q.2)
  goes_none b (Emit x) res = refl
  goes_none b (Call rs c xs) res = refl
  goes_none b (Branch t xs e es) res = refl
  goes_none b (Return xs) res = refl

  thin_map : (b : ℕ) (ops : List (Op Place)) → ((r : Place) → In r (all_defs ops) → IsRes b r) → thin_ops f1 d (map (replace_op s) ops) ≡ map tw ops
  thin_map b [] res = refl
  thin_map b (op ∷ ops) res =
      ap (λ t. if t then thin_ops f1 d (map (replace_op s) ops) else tw op ∷ thin_ops f1 d (map (replace_op s) ops)) (goes_none b op (λ r i. res r (in_append r (defs op) (all_defs ops) (inl i))))
      ∙ ap (λ l. tw op ∷ l) (thin_map b ops (λ r i. res r (in_append r (defs op) (all_defs ops) (inr i))))

  going_none : (b : ℕ) (ops : List (Op Place)) → ((r : Place) → In r (all_defs ops) → IsRes b r) → going d (map (replace_op s) ops) ≡ 0
  going_none b [] res = refl
  going_none b (op ∷ ops) res =
      ap (λ t. if t then suc (going d (map (replace_op s) ops)) else going d (map (replace_op s) ops)) (goes_none b op (λ r i. res r (in_append r (defs op) (all_defs ops) (inl i))))
      ∙ going_none b ops (λ r i. res r (in_append r (defs op) (all_defs ops) (inr i)))

  res_of : (b : ℕ) (r : Place) → In r (all_defs (left_in f b 0)) → IsRes b r
  res_of b r i = block_res f rules j taken s fol lives b r i

  pub left_two : (b : ℕ) → left_in f2 b 0 ≡ map tw (left_in f b 0)
  left_two b = thin_left d f1 b ∙ ap (thin_ops f1 d) (replace_left s f b 0) ∙ thin_map b (left_in f b 0) (λ r i. res_of b r i)

  pub takes_two : (b : ℕ) → arguments_in f2 b ≡ live d (arguments_in f b)
  takes_two b = thin_takes d f1 b ∙ ap (live d) (replace_takes s f b)

  live_taken : (b i n : ℕ) → j b ≡ true → live d (from (Arg b) i n) ≡ []
  live_taken b i zero e = refl
  live_taken b i (suc n) e = ap (λ t. if t then live d (from (Arg b) (suc i) n) else Arg b i ∷ live d (from (Arg b) (suc i) n)) e ∙ live_taken b (suc i) n e

  live_free : (b i n : ℕ) → j b ≡ false → live d (from (Arg b) i n) ≡ from (Arg b) i n
  live_free b i zero e = refl
  live_free b i (suc n) e = ap (λ t. if t then live d (from (Arg b) (suc i) n) else Arg b i ∷ live d (from (Arg b) (suc i) n)) e ∙ ap (λ l. Arg b i ∷ l) (live_free b (suc i) n e)

  pub no_takes : (b : ℕ) → j b ≡ true → arguments_in f2 b ≡ []
  no_takes b e = takes_two b ∙ ap (live d) (rules.args b) ∙ live_taken b 0 (length (arguments_in f b)) e

  pub same_takes : (b : ℕ) → j b ≡ false → arguments_in f2 b ≡ arguments_in f b
  same_takes b e = takes_two b ∙ ap (live d) (rules.args b) ∙ live_free b 0 (length (arguments_in f b)) e ∙ sym (rules.args b)

  free : (v : Place) → d (s v) ≡ false
  free v = names_free f rules j taken s fol lives v

  all_free : (xs : List Place) → AllLive d (map s xs)
  all_free [] = tt
  all_free (x ∷ xs) = (free x, all_free xs)

  gives_free : (ts gs : List Place) → GivesLive d ts (map s gs)
  gives_free [] gs = tt
  gives_free (t ∷ ts) [] = tt
  gives_free (t ∷ ts) (g ∷ gs) = (λ h. free g, gives_free ts gs)

  edges_free : (es : List (Edge Place)) → AllEdges (EdgeLive f1 d) (map (replace_edge s) es)
  edges_free [] = tt
  edges_free (e ∷ es) = (gives_free (arguments_in f1 e.target) e.forwards, edges_free es)

  op_free : (op : Op Place) → OpLive f1 d (replace_op s op)
  op_free (Const r n) = tt
  op_free (Calc a w r x y) = (free x, free y)
  op_free (Emit x) = free x
  op_free (Call rs c xs) = all_free xs
  op_free (Branch t xs e es) = (all_free xs, edges_free (e ∷ es))
  op_free (Return xs) = all_free xs

  ops_free : (ops : List (Op Place)) → OpsLive f1 d (map (replace_op s) ops)
  ops_free [] = tt
  ops_free (op ∷ ops) = (λ h. op_free op, ops_free ops)

  entry_live : (i n : ℕ) → AllLive d (from (Arg 0) i n)
  entry_live i zero = tt
  entry_live i (suc n) = (entry_free f j taken, entry_live (suc i) n)

  pub args_may_go : SetMayGo d f1
  args_may_go =
      record {
        entry = subst (AllLive d) (sym (replace_takes s f 0 ∙ rules.args 0)) (entry_live 0 (length (arguments_in f 0)));
        uses = λ b. subst (OpsLive f1 d) (sym (replace_left s f b 0)) (ops_free (left_in f b 0));
      }

  pub none_goes : (b : ℕ) → going d (left_in f1 b 0) < 1
  none_goes b =
      let e : going d (left_in f1 b 0) ≡ 0 = ap (going d) (replace_left s f b 0) ∙ going_none b (left_in f b 0) (λ r i. res_of b r i) in
      omega (arith, e)

  -- 2. the blocks join

  -- a taken block that these operations lead to is the one after b
  abbrev pub ToNext : ℕ → List (Op Place) → Type 0
  ToNext b ops = (t : ℕ) → j t ≡ true → LeadsTo t (all_edges ops) → BlocksAreJoinable f b t × (count_to t (all_edges ops) ≤ 1) × ((e : Edge Place) × (last_edge ops ≡ Some e) × (e.target ≡ t))

  pub to_next : (b : ℕ) → ToNext b (left_in f b 0)
  to_next b t q l =
      let h = taken.there t q in
      let e = one_place t f h.0 b h.1.single (joinable_leads f h.0 t h.1) l in
      let n = subst (λ x. BlocksAreJoinable f x t) e h.1 in
      (n, omega (arith, left_count t f b, h.1.single), (n.edge, n.last, n.target))

  tail_last : (t : ℕ) (op : Op Place) (ops : List (Op Place)) → LeadsTo t (all_edges ops) → (e : Edge Place) × (last_edge (op ∷ ops) ≡ Some e) × (e.target ≡ t) → (e : Edge Place) × (last_edge ops ≡ Some e) × (e.target ≡ t)
  tail_last t op [] l h = absurd l
  tail_last t op (o ∷ ops) l h = h

  pub next_tail : (b : ℕ) (op : Op Place) (ops : List (Op Place)) → ToNext b (op ∷ ops) → ToNext b ops
  next_tail b op ops p t q l =
      let r = p t q (leads_right t (edges_of op) (all_edges ops) l) in
      (r.0, omega (arith, r.1, ops_count t op ops), tail_last t op ops l r.2)

  twice : (t : ℕ) (op : Op Place) (ops : List (Op Place)) → LeadsTo t (edges_of op) → lone op ≡ None → (e : Edge Place) × (last_edge (op ∷ ops) ≡ Some e) × (e.target ≡ t) → count_to t (all_edges (op ∷ ops)) ≤ 1 → ⊥
  twice t op [] l n h le = let bad : None ≡ Some h.0 = sym n ∙ h.1 in cc bad
  twice t op (o ∷ ops) l n h le =
      absurd (omega (arith, le, ops_count t op (o ∷ ops), leads_count t (edges_of op) l, leads_count t (all_edges (o ∷ ops)) (in_leads t h.0 (all_edges (o ∷ ops)) (last_in (o ∷ ops) h.0 h.1) h.2)))

  many_free : (b : ℕ) (op : Op Place) (ops : List (Op Place)) → lone op ≡ None → ToNext b (op ∷ ops) → AllEdges (λ z. j z.target ≡ false) (edges_of op)
  many_free b op ops n p = edges_by (λ z. j z.target ≡ false) (edges_of op) (λ z i. by_test z i (j z.target) refl)
    where
      by_test : (z : Edge Place) → In z (edges_of op) → (t : Bool) → j z.target ≡ t → j z.target ≡ false
      by_test z i false e = e
      by_test z i true e =
          let l = in_leads z.target z (edges_of op) i refl in
          let r = p z.target e (leads_left z.target (edges_of op) (all_edges ops) l) in
          absurd (twice z.target op ops l n r.2 r.1)

  pub join_to : (N : ℕ → Type 0) (b : ℕ) (ops : List (Op Place)) → ToNext b ops → ((t : ℕ) → j t ≡ true → BlocksAreJoinable f b t → N t) → JoinsTo j N (map tw ops)
  join_to N b [] p n = tt
  join_to N b (Branch t xs e [] ∷ ops) p n = (λ q. n e.target q (p e.target q (inl refl)).0, join_to N b ops (next_tail b (Branch t xs e []) ops p) n)
  join_to N b (Branch t xs e (y ∷ es) ∷ ops) p n = (
    edges_map (λ z. j z.target ≡ false) (λ z. j z.target ≡ false) (thin_edge f1 d) (λ z h. h) (map (replace_edge s) (e ∷ y ∷ es)) (edges_map (λ z. j z.target ≡ false) (λ z. j z.target ≡ false) (replace_edge s) (λ z h. h) (e ∷ y ∷ es) (many_free b (Branch t xs e (y ∷ es)) ops refl p)),
    join_to N b ops (next_tail b (Branch t xs e (y ∷ es)) ops p) n,
  )
  join_to N b (Const v m ∷ ops) p n = join_to N b ops (next_tail b (Const v m) ops p) n
  join_to N b (Calc a w v x y ∷ ops) p n = join_to N b ops (next_tail b (Calc a w v x y) ops p) n
  join_to N b (Emit x ∷ ops) p n = join_to N b ops (next_tail b (Emit x) ops p) n
  join_to N b (Call vs c xs ∷ ops) p n = join_to N b ops (next_tail b (Call vs c xs) ops p) n
  join_to N b (Return xs ∷ ops) p n = join_to N b ops (next_tail b (Return xs) ops p) n

  pub chains_at : (m : ℕ) (b n : ℕ) → Depth f j b n → n + m ≡ k → Chains j f2 m (left_in f2 b 0)
  chains_at zero b n dp e =
      subst (Chains j f2 zero) (sym (left_two b)) (join_to (λ t. ⊥) b (left_in f b 0) (to_next b) (λ t q h. let le = long t (suc n) (below b t n (suc n) h refl dp) in absurd (omega (arith, le, e))))
  chains_at (suc m) b n dp e =
      subst (Chains j f2 (suc m)) (sym (left_two b))
      (join_to (λ t. (arguments_in f2 t ≡ []) × Chains j f2 m (left_in f2 t 0)) b (left_in f b 0) (to_next b)
      (λ t q h. (no_takes t q, chains_at m t (suc n) (below b t n (suc n) h refl dp) (omega (arith, e)))))

  pub chains_free : (b : ℕ) → j b ≡ false → Chains j f2 k (left_in f2 b 0)
  chains_free b e = chains_at k b 0 (top b 0 e refl) (omega arith)

  pub join_joins : JoinsBlocksOf j k f2 f3
  join_joins =
      record {
        entry = entry_free f j taken;
        arguments = λ b e. join_takes j k f2 b;
        left = λ b e. join_left j k f2 b;
        chains = chains_free;
      }

  pub not_free : (b : Bool) → not b ≡ true → b ≡ false
  not_free true e = absurd (cc e)
  not_free false e = refl

  -- 3. the taken blocks drop

  pub drop_stays : (b : ℕ) → not (j b) ≡ true → AllEdges (λ x. not (j x.target) ≡ true) (all_edges (left_in f3 b 0))
  drop_stays b e = subst (λ l. AllEdges (λ x. not (j x.target) ≡ true) (all_edges l)) (sym (join_left j k f2 b)) (joined_stays j f2 k (left_in f2 b 0) (chains_free b (not_free (j b) e)))
