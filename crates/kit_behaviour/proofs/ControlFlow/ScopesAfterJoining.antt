-- What is used after chains are joined is in scope.
use Rattle.std.proofs.Common.{◌≡◌, ◌⊎◌, ⊎_elim, inl, inr, ℕ, zero, suc, ◌<◌, ◌≤◌, Bool, true, false, List, [], ◌∷◌, ◌++◌, length, Option, refl, sym, ap, ◌∙◌, subst, arith}
use Rattle.std.specs.Prelude.{map, slice_get, if◌then◌else◌, not}
use Rattle.kit_behaviour.specs.Machine.{AllEdges, Edge, Op, Const, Calc, Emit, Call, Branch, Return, Fun, left_in, arguments_in}
use Rattle.kit_behaviour.specs.Renaming.{EdgeNamed, OpNamed, OpsNamed}
use Rattle.kit_behaviour.specs.RemovedValues.{pick, thin_edge, thin_op}
use Rattle.kit_behaviour.specs.JoinedBlocks.{join_ops, joined, JoinsTo, Chains}
use Rattle.kit_behaviour.specs.Scopes.{In, AllIn, defs, all_defs, entry_values, at_start, EdgeScoped, OpScoped, OpsWith, BlocksWith}
use Rattle.kit_behaviour.specs.Replacement.{replace_edge, replace_op, replace}
use Rattle.kit_behaviour.specs.Facts.{all_forwarded}
use Rattle.kit_behaviour.specs.Rules.{operands, is_terminator, EndsWell, Rules}
use Rattle.kit_behaviour.specs.Numbering.{HasPlace, AnyBlock, NamesAreDefined}
use Rattle.kit_behaviour.specs.Places.{Place, Arg}
use Rattle.kit_behaviour.specs.SimplifiedBlocks.{all_edges, Reached, edges_in, IsJoinedSet, Depth, join_fun}
use Rattle.kit_behaviour.proofs.ControlFlow.PlacesJoined.{forward, Follows, taken_arg, replaced_args}
use Rattle.kit_behaviour.proofs.Behaviour.SizeLemmas.{some_end}
use Rattle.kit_behaviour.proofs.Behaviour.FrameLemmas.{IsSameness}
use Rattle.kit_behaviour.proofs.Propagation.ScopeLemmas.{in_append, in_split, all_append, all_front, all_back}
use Rattle.kit_behaviour.proofs.Numbering.RuleLemmas.{rules_scoped}
use Rattle.kit_behaviour.proofs.Numbering.DefinedNames.{has_place, Has, start_has, all_have, these_have}
use Rattle.kit_behaviour.proofs.ControlFlow.ChainLemmas.{edge_in}
use Rattle.kit_behaviour.proofs.ControlFlow.ForwardingPremises.{block_res, res_same, free_same, entry_same, take_arg, take_get, given, follow_same, gives_is}
use Rattle.kit_behaviour.proofs.ControlFlow.JoiningPremises.{join_left, join_takes, left_two, same_takes, chains_free, not_free}

-- where each operand is in scope each name is defined
module _ {V : Type 0} (same : V → V → Bool) (law : IsSameness same) (f : Option (Fun V)) where
  each_gives : (a : List V) (es : List (Edge V)) → Has same law f a → AllIn (all_forwarded es) a → AllEdges (λ x. Unit {0} × AllIn x.forwards a) es
  each_gives a [] h s = tt
  each_gives a (e ∷ es) h s = ((tt, all_front e.forwards (all_forwarded es) a s), each_gives a es h (all_back e.forwards (all_forwarded es) a s))

  edges_named : (a : List V) (es : List (Edge V)) → Has same law f a → AllIn (all_forwarded es) a → AllEdges (EdgeNamed (HasPlace same f) AnyBlock) es
  edges_named a [] h s = tt
  edges_named a (e ∷ es) h s = ((tt, all_have same law f a e.forwards h (all_front e.forwards (all_forwarded es) a s)), edges_named a es h (all_back e.forwards (all_forwarded es) a s))

  op_named : (a : List V) (op : Op V) → Has same law f a → Has same law f (defs op) → AllIn (operands op) a → OpNamed (HasPlace same f) AnyBlock op
  op_named a (Const r n) h d s = d r (inl refl)
  op_named a (Calc o w r x y) h d s = (d r (inl refl), h x s.0, h y s.1.0)
  op_named a (Emit x) h d s = h x s.0
  op_named a (Call rs c xs) h d s = (these_have same law f rs d, all_have same law f a xs h s)
  op_named a (Branch t xs e es) h d s = (all_have same law f a xs h (all_front xs (all_forwarded (e ∷ es)) a s), edges_named a (e ∷ es) h (all_back xs (all_forwarded (e ∷ es)) a s))
  op_named a (Return xs) h d s = all_have same law f a xs h s

  ops_named : (a : List V) (ops : List (Op V)) → Has same law f a → Has same law f (all_defs ops) → OpsWith (λ a op. AllIn (operands op) a) a ops → OpsNamed (HasPlace same f) AnyBlock ops
  ops_named a [] h d s = tt
  ops_named a (op ∷ ops) h d s =
      let own : Has same law f (defs op) = λ x i. d x (in_append x (defs op) (all_defs ops) (inl i)) in
      let more : Has same law f (defs op ++ a) = λ x i. ⊎_elim (λ l. own x l) (λ r. h x r) (in_split x (defs op) a i) in
      (op_named a op h own s.0, ops_named (defs op ++ a) ops more (λ x i. d x (in_append x (defs op) (all_defs ops) (inr i))) s.1)

  pub sees_defined : BlocksWith f (λ a op. AllIn (operands op) a) → NamesAreDefined same f
  sees_defined s =
      record {
        ops = λ b. ops_named (at_start f b) (left_in f b 0) (start_has same law f b) (λ x i. has_place same law f b x (inr i)) (s b);
        arguments = λ b. these_have same law f (arguments_in f b) (λ x i. has_place same law f b x (inl i));
      }

module _ (f : Option (Fun Place)) (rules : Rules f) (j : ℕ → Bool) (taken : IsJoinedSet f j) (s : Place → Place) (fol : (v : Place) → Follows (forward j f) v (s v)) (lives : (b : ℕ) → (arguments_in f b ≡ []) ⊎ Reached f b) (k : ℕ) (long : (b n : ℕ) → Depth f j b n → n ≤ k) where
  abbrev f1 : Option (Fun Place)
  f1 = replace s f

  abbrev f2 : Option (Fun Place)
  f2 = replaced_args j s f

  abbrev f3 : Option (Fun Place)
  f3 = join_fun j k f2

  abbrev tw : Op Place → Op Place
  tw op = thin_op f1 (taken_arg j) (replace_op s op)

  abbrev Sees : List Place → Op Place → Type 0
  Sees a op = AllIn (operands op) a

  -- what stands for the values in scope is in scope
  abbrev Covers : List Place → List Place → Type 0
  Covers a a' = (x : Place) → In x a → In (s x) a'

  maps_in : (xs a a' : List Place) → Covers a a' → AllIn xs a → AllIn (map s xs) a'
  maps_in [] a a' c i = tt
  maps_in (x ∷ xs) a a' c i = (c x i.0, maps_in xs a a' c i.1)

  pick_sub : (ts gs a : List Place) → AllIn gs a → AllIn (pick (taken_arg j) ts gs) a
  pick_sub [] gs a i = i
  pick_sub (t ∷ ts) [] a i = tt
  pick_sub (t ∷ ts) (g ∷ gs) a i = by_test (taken_arg j t) (pick_sub ts gs a i.1)
    where
      by_test : (b : Bool) → AllIn (pick (taken_arg j) ts gs) a → AllIn (if b then pick (taken_arg j) ts gs else g ∷ pick (taken_arg j) ts gs) a
      by_test true h = h
      by_test false h = (i.0, h)

  edges_see : (a a' : List Place) (es : List (Edge Place)) → Covers a a' → AllEdges (EdgeScoped f a) es → AllIn (all_forwarded (map (thin_edge f1 (taken_arg j)) (map (replace_edge s) es))) a'
  edges_see a a' [] c w = tt
  edges_see a a' (e ∷ es) c w =
      all_append (pick (taken_arg j) (arguments_in f1 e.target) (map s e.forwards)) (all_forwarded (map (thin_edge f1 (taken_arg j)) (map (replace_edge s) es))) a' (pick_sub (arguments_in f1 e.target) (map s e.forwards) a' (maps_in e.forwards a a' c w.0.0)) (edges_see a a' es c w.1)

  op_sees : (a a' : List Place) (op : Op Place) → Covers a a' → OpScoped f a op → Sees a' (tw op)
  op_sees a a' (Const r n) c w = tt
  op_sees a a' (Calc o t r x y) c w = (c x w.0, (c y w.1, tt))
  op_sees a a' (Emit x) c w = (c x w, tt)
  op_sees a a' (Call rs g xs) c w = maps_in xs a a' c w
  op_sees a a' (Branch t xs e es) c w = all_append (map s xs) (all_forwarded (map (thin_edge f1 (taken_arg j)) (map (replace_edge s) (e ∷ es)))) a' (maps_in xs a a' c w.0) (edges_see a a' (e ∷ es) c w.1)
  op_sees a a' (Return xs) c w = maps_in xs a a' c w

  cover_defs : (rs a a' : List Place) → ((r : Place) → In r rs → s r ≡ r) → Covers a a' → Covers (rs ++ a) (rs ++ a')
  cover_defs rs a a' own c x i =
      ⊎_elim (λ l. in_append (s x) rs a' (inl (subst (λ y. In y rs) (sym (own x l)) l))) (λ r. in_append (s x) rs a' (inr (c x r))) (in_split x rs a i)

  see_ops : (N : ℕ → Type 0) (n : ℕ → List (Op Place)) → ((t : ℕ) (e : Edge Place) (c c' : List Place) → j t ≡ true → e.target ≡ t → In e (edges_in f) → N t → EdgeScoped f c e → Covers c c' → OpsWith Sees c' (n t)) → (a a' : List Place) (ops : List (Op Place)) → ((r : Place) → In r (all_defs ops) → s r ≡ r) → ((e : Edge Place) → In e (all_edges ops) → In e (edges_in f)) → OpsWith (OpScoped f) a ops → Covers a a' → JoinsTo j N (map tw ops) → OpsWith Sees a' (join_ops j n (map tw ops))
  see_ops N n go a a' [] own sub w c q = tt
  see_ops N n go a a' (Const r m ∷ ops) own sub w c q =
      (tt, see_ops N n go (r ∷ a) (r ∷ a') ops (λ x i. own x (inr i)) sub w.1 (cover_defs (r ∷ []) a a' (λ x i. own x (⊎_elim (λ z. inl z) (λ z. absurd z) i)) c) q)
  see_ops N n go a a' (Calc o t r x y ∷ ops) own sub w c q =
      (op_sees a a' (Calc o t r x y) c w.0, see_ops N n go (r ∷ a) (r ∷ a') ops (λ x i. own x (inr i)) sub w.1 (cover_defs (r ∷ []) a a' (λ x i. own x (⊎_elim (λ z. inl z) (λ z. absurd z) i)) c) q)
  see_ops N n go a a' (Emit x ∷ ops) own sub w c q = (op_sees a a' (Emit x) c w.0, see_ops N n go a a' ops own sub w.1 c q)
  see_ops N n go a a' (Call rs g xs ∷ ops) own sub w c q =
      (op_sees a a' (Call rs g xs) c w.0, see_ops N n go (rs ++ a) (rs ++ a') ops (λ x i. own x (in_append x rs (all_defs ops) (inr i))) sub w.1 (cover_defs rs a a' (λ x i. own x (in_append x rs (all_defs ops) (inl i))) c) q)
  see_ops N n go a a' (Branch t xs e [] ∷ ops) own sub w c q = by_test (j e.target) refl (see_ops N n go a a' ops own (λ x i. sub x (inr i)) w.1 c q.1)
    where
      by_test : (b : Bool) → j e.target ≡ b → OpsWith Sees a' (join_ops j n (map tw ops)) → OpsWith Sees a' (if b then n e.target else tw (Branch t xs e []) ∷ join_ops j n (map tw ops))
      by_test true h ih = go e.target e a a' h refl (sub e (inl refl)) (q.0 h) w.0.1.0 c
      by_test false h ih = (op_sees a a' (Branch t xs e []) c w.0, ih)
  see_ops N n go a a' (Branch t xs e (y ∷ es) ∷ ops) own sub w c q =
      (op_sees a a' (Branch t xs e (y ∷ es)) c w.0, see_ops N n go a a' ops own (λ x i. sub x (in_append x (e ∷ y ∷ es) (all_edges ops) (inr i))) w.1 c q.1)
  see_ops N n go a a' (Return xs ∷ ops) own sub w c q = (op_sees a a' (Return xs) c w.0, see_ops N n go a a' ops own sub w.1 c q)

  all_in : (q : Place) (qs c : List Place) → In q qs → AllIn qs c → In q c
  all_in q [] c i h = absurd i
  all_in q (y ∷ ys) c i h = ⊎_elim (λ e. subst (λ z. In z c) (sym e) h.0) (λ r. all_in q ys c r h.1) i

  cover_takes : (e : Edge Place) (c c' : List Place) → j e.target ≡ true → In e (edges_in f) → EdgeScoped f c e → Covers c c' → Covers (arguments_in f e.target) c'
  cover_takes e c c' h ei w cv x i =
      let a = take_arg f rules j taken s fol lives e.target x i in
      let here = take_get f rules j taken s fol lives e.target a.0 (subst (λ y. In y (arguments_in f e.target)) a.1 i) in
      let g = given f rules j taken s fol lives (arguments_in f e.target) e.forwards a.0 (Arg e.target a.0) w.2 here in
      let q : s x ≡ s g.0 = ap s a.1 ∙ follow_same f rules j taken s fol lives e.target a.0 g.0 h (ap (λ l. slice_get l a.0) (gives_is f rules j taken s fol lives e ei h) ∙ g.1) in
      subst (λ y. In y c') (sym q) (cv g.0 (all_in g.0 e.forwards c g.2 w.0))

  cover_start : (t : ℕ) (c c' : List Place) → Covers (arguments_in f t) c' → AllIn (entry_values f) c → Covers c c' → Covers (at_start f t) c'
  cover_start zero c c' h en cv x i = h x i
  cover_start (suc t) c c' h en cv x i = ⊎_elim (λ l. h x l) (λ r. cv x (all_in x (entry_values f) c r en)) (in_split x (arguments_in f (suc t)) (entry_values f) i)

  own_defs : (b : ℕ) (r : Place) → In r (all_defs (left_in f b 0)) → s r ≡ r
  own_defs b r i = res_same f rules j taken s fol lives b r (block_res f rules j taken s fol lives b r i)

  two : (b : ℕ) → left_in f2 b 0 ≡ map tw (left_in f b 0)
  two b = left_two f rules j taken s fol lives k long b

  see_joined : (m b : ℕ) (a' : List Place) → Covers (at_start f b) a' → Chains j f2 m (map tw (left_in f b 0)) → OpsWith Sees a' (joined j f2 m (map tw (left_in f b 0)))
  see_joined zero b a' c h = see_ops (λ t. ⊥) (λ t. []) (λ t e c c' jt et ei nt w cv. absurd nt) (at_start f b) a' (left_in f b 0) (own_defs b) (λ e i. edge_in f e b i) (rules_scoped f rules b) c h
  see_joined (suc m) b a' c h =
      see_ops (λ t. (arguments_in f2 t ≡ []) × Chains j f2 m (left_in f2 t 0)) (λ t. joined j f2 m (left_in f2 t 0))
      (λ t e c c' jt et ei nt w cv.
      subst (λ l. OpsWith Sees c' (joined j f2 m l)) (sym (two t))
      (see_joined m t c' (cover_start t c c' (subst (λ u. Covers (arguments_in f u) c') et (cover_takes e c c' (ap j et ∙ jt) ei w cv)) w.1 cv) (subst (Chains j f2 m) (two t) nt.1)))
      (at_start f b) a' (left_in f b 0) (own_defs b) (λ e i. edge_in f e b i) (rules_scoped f rules b) c h

  -- what the entry block defines stays

  pub pass_on : (n : ℕ → List (Op Place)) (op : Op Place) (rest : List (Op Place)) → is_terminator op ≡ false → join_ops j n (tw op ∷ rest) ≡ tw op ∷ join_ops j n rest
  pass_on n (Const r m) rest e = refl
  pass_on n (Calc o t r x y) rest e = refl
  pass_on n (Emit x) rest e = refl
  pass_on n (Call rs c xs) rest e = refl
  pass_on n (Branch t xs x es) rest e = absurd (cc e)
  pass_on n (Return xs) rest e = refl

  last_defs : (op : Op Place) → is_terminator op ≡ true → defs op ≡ []
  last_defs (Const r m) e = absurd (cc e)
  last_defs (Calc o t r x y) e = absurd (cc e)
  last_defs (Emit x) e = absurd (cc e)
  last_defs (Call rs c xs) e = absurd (cc e)
  last_defs (Branch t xs x es) e = refl
  last_defs (Return xs) e = refl

  pub defs_tw : (op : Op Place) → defs (tw op) ≡ defs op
  defs_tw (Const r m) = refl
  defs_tw (Calc o t r x y) = refl
  defs_tw (Emit x) = refl
  defs_tw (Call rs c xs) = refl
  defs_tw (Branch t xs x es) = refl
  defs_tw (Return xs) = refl

  has_ops : (n : ℕ → List (Op Place)) (x : Place) (ops : List (Op Place)) → EndsWell ops → In x (all_defs ops) → In x (all_defs (join_ops j n (map tw ops)))
  has_ops n x [] e i = absurd i
  has_ops n x (op ∷ []) e i =
      ⊎_elim (λ l. absurd (subst (In x) (last_defs op e) l)) (λ r. absurd r) (in_split x (defs op) [] i)
  has_ops n x (op ∷ next ∷ ops) e i =
      subst (λ l. In x (all_defs l)) (sym (pass_on n op (map tw (next ∷ ops)) e.0))
      (in_append x (defs (tw op)) (all_defs (join_ops j n (map tw (next ∷ ops))))
      (⊎_elim (λ l. inl (subst (In x) (sym (defs_tw op)) l)) (λ r. inr (has_ops n x (next ∷ ops) e.1 r)) (in_split x (defs op) (all_defs (next ∷ ops)) i)))

  has_joined : (m : ℕ) (x : Place) (ops : List (Op Place)) → (0 < length ops → EndsWell ops) → In x (all_defs ops) → In x (all_defs (joined j f2 m (map tw ops)))
  has_joined m x [] e i = absurd i
  has_joined zero x (op ∷ ops) e i = has_ops (λ t. []) x (op ∷ ops) (e (omega arith)) i
  has_joined (suc m) x (op ∷ ops) e i = has_ops (λ t. joined j f2 m (left_in f2 t 0)) x (op ∷ ops) (e (omega arith)) i

  pub left_three : (b : ℕ) → left_in f3 b 0 ≡ joined j f2 k (map tw (left_in f b 0))
  left_three b = join_left j k f2 b ∙ ap (joined j f2 k) (two b)

  takes_three : (b : ℕ) → j b ≡ false → arguments_in f3 b ≡ arguments_in f b
  takes_three b e = join_takes j k f2 b ∙ same_takes f rules j taken s fol lives k long b e

  entry_has : j 0 ≡ false → (x : Place) → In x (entry_values f) → In (s x) (entry_values f3)
  entry_has e x i =
      subst (λ y. In y (entry_values f3)) (sym (entry_same f rules j taken s fol lives x i))
      (in_append x (arguments_in f3 0) (all_defs (left_in f3 0 0))
      (⊎_elim
      (λ l. inl (subst (In x) (sym (takes_three 0 e)) l))
      (λ r. inr (subst (λ l. In x (all_defs l)) (sym (left_three 0)) (has_joined k x (left_in f 0 0) (some_end f rules.terminated 0) r)))
      (in_split x (arguments_in f 0) (all_defs (left_in f 0 0)) i)))

  takes_cover : (b : ℕ) → j b ≡ false → Covers (arguments_in f b) (arguments_in f3 b)
  takes_cover b e x i =
      let a = take_arg f rules j taken s fol lives b x i in
      let q : s x ≡ x = free_same f rules j taken s fol lives x (ap (taken_arg j) a.1 ∙ e) in
      subst (λ y. In y (arguments_in f3 b)) (sym q) (subst (In x) (sym (takes_three b e)) i)

  start_cover : (b : ℕ) → j 0 ≡ false → j b ≡ false → Covers (at_start f b) (at_start f3 b)
  start_cover zero z e x i = takes_cover 0 e x i
  start_cover (suc b) z e x i =
      ⊎_elim
      (λ l. in_append (s x) (arguments_in f3 (suc b)) (entry_values f3) (inl (takes_cover (suc b) e x l)))
      (λ r. in_append (s x) (arguments_in f3 (suc b)) (entry_values f3) (inr (entry_has z x r)))
      (in_split x (arguments_in f (suc b)) (entry_values f) i)

  pub sees_three : j 0 ≡ false → (b : ℕ) → not (j b) ≡ true → OpsWith (λ a op. AllIn (operands op) a) (at_start f3 b) (left_in f3 b 0)
  sees_three z b e =
      let q = not_free f rules j taken s fol lives k long (j b) e in
      subst (OpsWith Sees (at_start f3 b)) (sym (left_three b))
      (see_joined k b (at_start f3 b) (start_cover b z q) (subst (Chains j f2 k) (two b) (chains_free f rules j taken s fol lives k long b q)))
