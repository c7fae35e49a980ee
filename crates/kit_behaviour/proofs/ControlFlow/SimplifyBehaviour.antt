-- The whole pass behaves alike.
use Rattle.std.proofs.Common.{◌≡◌, ◌⊎◌, ⊎_elim, inl, inr, ℕ, zero, suc, ◌*◌, ◌<◌, ◌≤◌, Bool, true, false, List, [], ◌∷◌, ◌++◌, length, Option, Some, None, refl, sym, ap, ◌∙◌, subst, arith}
use Rattle.std.specs.Prelude.{map, slice_get, if◌then◌else◌, not, nat_eq}
use Rattle.std.proofs.lemmas.Bool.{eqb-true, eq-eqb}
use Rattle.kit_behaviour.proofs.Behaviour.SizeLemmas.{length_map}
use Rattle.kit_behaviour.specs.Machine.{AllEdges, Edge, Op, Const, Calc, Emit, Call, Branch, Return, Block, Fun, FunctionsByPath, ops_left, left_in, arguments_in, Alike, size}
use Rattle.kit_behaviour.specs.Renaming.{rename_edge, rename_op, same_block}
use Rattle.kit_behaviour.specs.RemovedValues.{thinned}
use Rattle.kit_behaviour.specs.JoinedBlocks.{join_ops, joined, JoinsTo, Chains, JoinsBlocksOf}
use Rattle.kit_behaviour.specs.Scopes.{In, at_start}
use Rattle.kit_behaviour.specs.Replacement.{replaced}
use Rattle.kit_behaviour.specs.Rules.{Rules}
use Rattle.kit_behaviour.specs.DecidedBranches.{decide_block}
use Rattle.kit_behaviour.specs.Numbering.{place_of, place_block, place_fun, placed}
use Rattle.kit_behaviour.specs.Places.{Place, same_place}
use Rattle.kit_behaviour.specs.SimplifiedBlocks.{constants, edges_of, all_edges, LeadsTo, Reached, first, further, IsReachedSet, between, retarget_edge, retarget, retarget_block, keep_blocks, keep, last_edge, IsJoinedSet, Depth, top, below, join_fun, branched}
use Rattle.kit_behaviour.proofs.ControlFlow.PlacesJoined.{taken_arg, IsMerged, IsSimplify}
use Rattle.kit_behaviour.proofs.Numbering.PlaceEquality.{place_law}
use Rattle.kit_behaviour.proofs.Numbering.NumberingBehaviour.{place_name, place_left, place_takes, placed_alike}
use Rattle.kit_behaviour.proofs.Propagation.PropagationBehaviour.{alike_trans}
use Rattle.kit_behaviour.proofs.DeadCode.RemovalBehaviour.{thin_alike}
use Rattle.kit_behaviour.proofs.ControlFlow.ForwardingBehaviour.{forwarded_alike}
use Rattle.kit_behaviour.proofs.ControlFlow.JoiningBehaviour.{joined_alike}
use Rattle.kit_behaviour.proofs.Numbering.NumberingRules.{shaped_on, placed_rules}
use Rattle.kit_behaviour.proofs.ControlFlow.KeptBlocks.{Was, was, at, keep_left, keep_sees, keep_shaped, keep_distinct, kept, keep_alike, rules_distinct, rules_shaped}
use Rattle.kit_behaviour.proofs.ControlFlow.DecisionRules.{decide_rules, branched_alike}
use Rattle.kit_behaviour.proofs.ControlFlow.ChainLemmas.{in_leads, leads_left, leads_right, entry_free, depth_one}
use Rattle.kit_behaviour.proofs.ControlFlow.ForwardingPremises.{may_forward}
use Rattle.kit_behaviour.proofs.ControlFlow.JoiningPremises.{edges_by, join_left, join_takes, args_may_go, none_goes, chains_free, drop_stays}
use Rattle.kit_behaviour.proofs.ControlFlow.ScopesAfterJoining.{sees_defined, sees_three}

-- 1. what is joined doesn't depend on the count, where it is enough

module _ {V : Type 0} (j : ℕ → Bool) where
  join_same : (N N' : ℕ → Type 0) (n n' : ℕ → List (Op V)) → ((t : ℕ) → N t → N' t → n t ≡ n' t) → (ops : List (Op V)) → JoinsTo j N ops → JoinsTo j N' ops → join_ops j n ops ≡ join_ops j n' ops
  join_same N N' n n' h [] q q' = refl
  join_same N N' n n' h (Branch s xs e [] ∷ ops) q q' = by_test (j e.target) refl (join_same N N' n n' h ops q.1 q'.1)
    where
      by_test : (t : Bool) → j e.target ≡ t → join_ops j n ops ≡ join_ops j n' ops → (if t then n e.target else Branch s xs e [] ∷ join_ops j n ops) ≡ (if t then n' e.target else Branch s xs e [] ∷ join_ops j n' ops)
      by_test true t ih = h e.target (q.0 t) (q'.0 t)
      by_test false t ih = ap (λ l. Branch s xs e [] ∷ l) ih
  join_same N N' n n' h (Branch s xs e (x ∷ es) ∷ ops) q q' = ap (λ l. Branch s xs e (x ∷ es) ∷ l) (join_same N N' n n' h ops q.1 q'.1)
  join_same N N' n n' h (Const v k ∷ ops) q q' = ap (λ l. Const v k ∷ l) (join_same N N' n n' h ops q q')
  join_same N N' n n' h (Calc a w v x y ∷ ops) q q' = ap (λ l. Calc a w v x y ∷ l) (join_same N N' n n' h ops q q')
  join_same N N' n n' h (Emit x ∷ ops) q q' = ap (λ l. Emit x ∷ l) (join_same N N' n n' h ops q q')
  join_same N N' n n' h (Call vs c xs ∷ ops) q q' = ap (λ l. Call vs c xs ∷ l) (join_same N N' n n' h ops q q')
  join_same N N' n n' h (Return xs ∷ ops) q q' = ap (λ l. Return xs ∷ l) (join_same N N' n n' h ops q q')

  pub joined_same : (g : Option (Fun V)) (k c : ℕ) (ops : List (Op V)) → Chains j g k ops → Chains j g c ops → joined j g k ops ≡ joined j g c ops
  joined_same g zero zero ops x y = refl
  joined_same g zero (suc c) ops x y = join_same (λ t. ⊥) (λ t. (arguments_in g t ≡ []) × Chains j g c (left_in g t 0)) (λ t. []) (λ t. joined j g c (left_in g t 0)) (λ t a b. absurd a) ops x y
  joined_same g (suc k) zero ops x y = join_same (λ t. (arguments_in g t ≡ []) × Chains j g k (left_in g t 0)) (λ t. ⊥) (λ t. joined j g k (left_in g t 0)) (λ t. []) (λ t a b. absurd b) ops x y
  joined_same g (suc k) (suc c) ops x y =
      join_same (λ t. (arguments_in g t ≡ []) × Chains j g k (left_in g t 0)) (λ t. (arguments_in g t ≡ []) × Chains j g c (left_in g t 0)) (λ t. joined j g k (left_in g t 0)) (λ t. joined j g c (left_in g t 0)) (λ t a b. joined_same g k c (left_in g t 0) a.1 b.1) ops x y

-- 2. chains

module _ (p q : FunctionsByPath Place) (rules : (path : List ℕ) → Rules (p path)) (is : (path : List ℕ) → IsMerged (p path) (q path)) (lives : (path : List ℕ) (b : ℕ) → (arguments_in (p path) b ≡ []) ⊎ Reached (p path) b) (c : ℕ) (few : (path : List ℕ) (b n : ℕ) → Depth (p path) (is path).taken b n → n ≤ c) where
  abbrev names : List ℕ → Place → Place
  names path = (is path).names

  abbrev gone : List ℕ → Place → Bool
  gone path = taken_arg (is path).taken

  abbrev p1 : FunctionsByPath Place
  p1 = replaced names p

  abbrev p2 : FunctionsByPath Place
  p2 = thinned gone p1

  abbrev p3 : FunctionsByPath Place
  p3 path = join_fun (is path).taken (is path).most (p2 path)

  abbrev stays : List ℕ → ℕ → Bool
  stays path b = not ((is path).taken b)

  abbrev p4 : FunctionsByPath Place
  p4 = kept stays p3

  a1 : Alike same_place same_place 1 p p1
  a1 = forwarded_alike same_place place_law p names (λ path. at_start (p path)) (λ path. may_forward (p path) (rules path) (is path).taken (is path).is_taken (names path) (is path).follows (lives path))

  a2 : Alike same_place same_place 1 p1 p2
  a2 =
      thin_alike same_place place_law p1 gone (λ path. args_may_go (p path) (rules path) (is path).taken (is path).is_taken (names path) (is path).follows (lives path) (is path).most (is path).long) 1
      (λ path b. none_goes (p path) (rules path) (is path).taken (is path).is_taken (names path) (is path).follows (lives path) (is path).most (is path).long b)

  joins : (path : List ℕ) → JoinsBlocksOf (is path).taken c (p2 path) (p3 path)
  joins path =
      let m = is path in
      let ck = λ (b : ℕ) (e : m.taken b ≡ false). chains_free (p path) (rules path) m.taken m.is_taken m.names m.follows (lives path) m.most m.long b e in
      let cc2 = λ (b : ℕ) (e : m.taken b ≡ false). chains_free (p path) (rules path) m.taken m.is_taken m.names m.follows (lives path) c (few path) b e in
      record {
        entry = entry_free (p path) m.taken m.is_taken;
        arguments = λ b e. join_takes m.taken m.most (p2 path) b;
        left = λ b e. join_left m.taken m.most (p2 path) b ∙ joined_same m.taken (p2 path) m.most c (left_in (p2 path) b 0) (ck b e) (cc2 b e);
        chains = cc2;
      }

  a3 : Alike same_place same_place (suc c) p2 p3
  a3 = joined_alike same_place p2 p3 (λ path. (is path).taken) c joins

  entry_stays : (path : List ℕ) → stays path 0 ≡ true
  entry_stays path = ap not (entry_free (p path) (is path).taken (is path).is_taken)

  edges_stay : (path : List ℕ) (b : ℕ) → stays path b ≡ true → AllEdges (λ x. stays path x.target ≡ true) (all_edges (left_in (p3 path) b 0))
  edges_stay path b e = drop_stays (p path) (rules path) (is path).taken (is path).is_taken (names path) (is path).follows (lives path) (is path).most (is path).long b e

  a4 : Alike same_place same_place 1 p3 p4
  a4 = keep_alike same_place p3 stays entry_stays edges_stay

  a5 : Alike same_place same_place 1 p4 (placed same_place p4)
  a5 =
      placed_alike same_place place_law p4
      (λ path. sees_defined same_place place_law (p4 path)
      (keep_sees (stays path) (p3 path) (entry_stays path) (edges_stay path)
      (sees_three (p path) (rules path) (is path).taken (is path).is_taken (names path) (is path).follows (lives path) (is path).most (is path).long (entry_free (p path) (is path).taken (is path).is_taken))))

  pub merged_alike : Alike same_place same_place (suc c) p q
  merged_alike =
      let S = same_place in
      let t12 = alike_trans S S S 1 1 p p1 p2 a1 a2 in
      let t13 = alike_trans S S S (1 * 1) (suc c) p p2 p3 t12 a3 in
      let t14 = alike_trans S S S (1 * 1 * suc c) 1 p p3 p4 t13 a4 in
      let t15 = alike_trans S S S (1 * 1 * suc c * 1) 1 p p4 (placed S p4) t14 a5 in
      let e : 1 * 1 * suc c * 1 * 1 ≡ suc c = omega arith in
      let g : q ≡ placed S p4 = λ i path. (is path).is i in
      subst (λ r. Alike S S (suc c) p r) (sym g) (subst (λ n. Alike S S n p (placed S p4)) e t15)

-- 3. what is kept is reached

pub leads_split : {V : Type 0} (t : ℕ) (xs ys : List (Edge V)) → LeadsTo t (xs ++ ys) → LeadsTo t xs ⊎ LeadsTo t ys
leads_split t [] ys h = inr h
leads_split t (x ∷ xs) ys h = ⊎_elim (λ q. inl (inl q)) (λ r. ⊎_elim (λ l. inl (inr l)) (λ k. inr k) (leads_split t xs ys r)) h

module _ {V W : Type 0} (g : Op V → Op W) (ge : Edge V → Edge W) (k : ℕ → ℕ) (of : (op : Op V) → edges_of (g op) ≡ map ge (edges_of op)) (to : (e : Edge V) → (ge e).target ≡ k e.target) where
  leads_edges : (t : ℕ) (es : List (Edge V)) → LeadsTo t es → LeadsTo (k t) (map ge es)
  leads_edges t [] h = absurd h
  leads_edges t (e ∷ es) h = ⊎_elim (λ q. inl (to e ∙ ap k q)) (λ r. inr (leads_edges t es r)) h

  pub leads_through : (t : ℕ) (ops : List (Op V)) → LeadsTo t (all_edges ops) → LeadsTo (k t) (all_edges (map g ops))
  leads_through t [] h = absurd h
  leads_through t (op ∷ ops) h =
      ⊎_elim
      (λ l. leads_left (k t) (edges_of (g op)) (all_edges (map g ops)) (subst (LeadsTo (k t)) (sym (of op)) (leads_edges t (edges_of op) l)))
      (λ r. leads_right (k t) (edges_of (g op)) (all_edges (map g ops)) (leads_through t ops r))
      (leads_split t (edges_of op) (all_edges ops) h)

pub edges_retarget : {V : Type 0} (k : ℕ → ℕ) (op : Op V) → edges_of (retarget k op) ≡ map (retarget_edge k) (edges_of op)
edges_retarget k (Const r n) = refl
edges_retarget k (Calc a w r x y) = refl
edges_retarget k (Emit x) = refl
edges_retarget k (Call rs c xs) = refl
edges_retarget k (Branch s xs e es) = refl
edges_retarget k (Return xs) = refl

pub edges_renamed : {V W : Type 0} (r : V → W) (op : Op V) → edges_of (rename_op r same_block op) ≡ map (rename_edge r same_block) (edges_of op)
edges_renamed r (Const v n) = refl
edges_renamed r (Calc a w v x y) = refl
edges_renamed r (Emit x) = refl
edges_renamed r (Call rs c xs) = refl
edges_renamed r (Branch s xs e es) = refl
edges_renamed r (Return xs) = refl

module _ (f : Option (Fun Place)) (r : ℕ → Bool) (is : IsReachedSet f r) where
  abbrev left_over : Option (Fun Place)
  left_over = place_fun same_place (keep r f)

  pub reach_entry : r 0 ≡ true
  reach_entry = is.full 0 (first 0 refl)

  pub reach_stays : (b : ℕ) → r b ≡ true → AllEdges (λ x. r x.target ≡ true) (all_edges (left_in f b 0))
  reach_stays b e = edges_by (λ x. r x.target ≡ true) (all_edges (left_in f b 0)) (λ z i. is.full z.target (further b z.target (is.sound b e) (in_leads z.target z (all_edges (left_in f b 0)) i refl)))

  leads_kept : (b t : ℕ) → r b ≡ true → LeadsTo t (all_edges (left_in f b 0)) → LeadsTo (at r t) (all_edges (left_in left_over (at r b) 0))
  leads_kept b t e l =
      let x = leads_through (retarget (at r)) (retarget_edge (at r)) (at r) (edges_retarget (at r)) (λ y. refl) t (left_in f b 0) l in
      let n = place_name same_place place_law (keep r f) in
      let y = subst (λ o. LeadsTo (at r t) (all_edges o)) (sym (keep_left r f b e)) x in
      let z = leads_through (rename_op n same_block) (rename_edge n same_block) same_block (edges_renamed n) (λ w. refl) (at r t) (left_in (keep r f) (at r b) 0) y in
      subst (λ o. LeadsTo (at r t) (all_edges o)) (sym (place_left same_place place_law (keep r f) (at r b))) z

  pub reached_kept : (b : ℕ) → Reached f b → Reached left_over (at r b)
  reached_kept b (first u e) = first (at r u) (ap (at r) e)
  reached_kept b (further u t h l) = further (at r u) (at r t) (reached_kept u h) (leads_kept u t (is.full u h) l)

  pub kept_lives : (b : ℕ) → (arguments_in left_over b ≡ []) ⊎ Reached left_over b
  kept_lives b =
      ⊎_elim
      (λ h. inl (place_takes same_place place_law (keep r f) b ∙ ap (map (place_name same_place place_law (keep r f))) h.1))
      (λ (w : Was r b). inr (subst (Reached left_over) (sym w.is) (reached_kept w.old (is.sound w.old w.kept))))
      (was r f b)

  pub kept_rules : Rules f → Rules left_over
  kept_rules h = placed_rules same_place place_law (keep r f) (keep_distinct r f (rules_distinct f h)) (keep_shaped r f reach_entry reach_stays (shaped_on r f (rules_shaped f h)))

-- 4. a chain is no longer than the function has blocks

NoTwice : List ℕ → Type 0
NoTwice [] = Unit {0}
NoTwice (x ∷ xs) = (In x xs → ⊥) × NoTwice xs

without : ℕ → List ℕ → List ℕ
without n [] = []
without n (x ∷ xs) = if nat_eq x n then without n xs else x ∷ without n xs

without_in : (n x : ℕ) (xs : List ℕ) → In x (without n xs) → In x xs × (x ≡ n → ⊥)
unfolding without
without_in n x [] i = absurd i
without_in n x (y ∷ ys) i = by_test (nat_eq y n) refl i (without_in n x ys)
  where
    by_test : (b : Bool) → nat_eq y n ≡ b → In x (if b then without n ys else y ∷ without n ys) → (In x (without n ys) → In x ys × (x ≡ n → ⊥)) → In x (y ∷ ys) × (x ≡ n → ⊥)
    by_test true e j ih = let r = ih j in (inr r.0, r.1)
    by_test false e j ih =
        ⊎_elim (λ q. (inl q, λ z. let bad : true ≡ false = sym (eq-eqb y n (sym q ∙ z)) ∙ e in cc bad)) (λ k. let r = ih k in (inr r.0, r.1)) j

without_no : (n : ℕ) (xs : List ℕ) → NoTwice xs → NoTwice (without n xs)
unfolding without NoTwice
without_no n [] h = tt
without_no n (y ∷ ys) h = by_test (nat_eq y n) (without_no n ys h.1)
  where
    by_test : (b : Bool) → NoTwice (without n ys) → NoTwice (if b then without n ys else y ∷ without n ys)
    by_test true r = r
    by_test false r = (λ i. h.0 (without_in n y ys i).0, r)

without_same : (n : ℕ) (xs : List ℕ) → (In n xs → ⊥) → length (without n xs) ≡ length xs
unfolding without
without_same n [] h = refl
without_same n (y ∷ ys) h = by_test (nat_eq y n) refl (without_same n ys (λ i. h (inr i)))
  where
    by_test : (b : Bool) → nat_eq y n ≡ b → length (without n ys) ≡ length ys → length (if b then without n ys else y ∷ without n ys) ≡ suc (length ys)
    by_test true e r = absurd (h (inl (sym (eqb-true y n e))))
    by_test false e r = ap suc r

without_length : (n : ℕ) (xs : List ℕ) → NoTwice xs → length xs ≤ suc (length (without n xs))
unfolding without NoTwice
without_length n [] h = omega arith
without_length n (y ∷ ys) h = by_test (nat_eq y n) refl (without_length n ys h.1)
  where
    by_test : (b : Bool) → nat_eq y n ≡ b → length ys ≤ suc (length (without n ys)) → suc (length ys) ≤ suc (length (if b then without n ys else y ∷ without n ys))
    by_test true e r = let q = without_same n ys (λ i. h.0 (subst (λ z. In z ys) (sym (eqb-true y n e)) i)) in omega (arith, q)
    by_test false e r = omega (arith, r)

lower : (x n : ℕ) → x < suc n → (x ≡ n → ⊥) → x < n
lower zero zero l ne = absurd (ne refl)
lower zero (suc n) l ne = omega arith
lower (suc x) zero l ne = absurd (omega (arith, l))
lower (suc x) (suc n) l ne = let h = lower x n (omega (arith, l)) (λ q. ne (ap suc q)) in omega (arith, h)

pigeons : (n : ℕ) (xs : List ℕ) → NoTwice xs → ((x : ℕ) → In x xs → x < n) → length xs ≤ n
pigeons zero [] h b = omega arith
pigeons zero (x ∷ xs) h b = absurd (omega (arith, b x (inl refl)))
pigeons (suc n) xs h b =
    let r = pigeons n (without n xs) (without_no n xs h) (λ x i. let w = without_in n x xs i in lower x n (b x w.0) w.1) in
    omega (arith, r, without_length n xs h)

module _ {V : Type 0} (f : Option (Fun V)) (j : ℕ → Bool) (taken : IsJoinedSet f j) where
  block_range : (ks : List (Block V)) (b : ℕ) (e : Edge V) → last_edge (ops_left (slice_get ks b) 0) ≡ Some e → b < length ks
  block_range [] b e h = absurd (cc h)
  block_range (k ∷ ks) zero e h = omega arith
  block_range (k ∷ ks) (suc b) e h = omega (arith, block_range ks b e h)

  in_range : (g : Option (Fun V)) (b : ℕ) (e : Edge V) → last_edge (left_in g b 0) ≡ Some e → b < size g
  in_range None b e h = absurd (cc h)
  in_range (Some g) b e h = block_range g b e h

  record Above (b n : ℕ) : Type 0 where
    blocks : List ℕ
    many : length blocks ≡ n
    no : NoTwice blocks
    all : (x : ℕ) → In x blocks → (x < size f) × ((i : ℕ) × Depth f j x i × (suc i ≤ n))

  above : (b n : ℕ) → Depth f j b n → Above b n
  unfolding NoTwice
  above b n (top u m e z) = record { blocks = []; many = sym z; no = tt; all = λ x i. absurd i }
  above b n (below u t m w h z d) =
      let r = above u m d in
      record {
        blocks = u ∷ r.blocks;
        many = ap suc r.many ∙ sym z;
        no = (λ i. let y = (r.all u i).1 in let q = depth_one f j taken u m y.0 d y.1 in absurd (omega (arith, q, y.2)), r.no);
        all = λ x i. ⊎_elim (λ q. subst (λ v. (v < size f) × ((i : ℕ) × Depth f j v i × (suc i ≤ w))) (sym q) (in_range f u h.edge h.last, (m, d, omega (arith, z)))) (λ k. let y = r.all x k in (y.0, (y.1.0, y.1.1, omega (arith, z, y.1.2)))) i;
      }

  pub depth_few : (b n : ℕ) → Depth f j b n → n ≤ size f
  depth_few b n d = let r = above b n d in let p = pigeons (size f) r.blocks r.no (λ x i. (r.all x i).0) in omega (arith, p, r.many)

pub keep_size : {V : Type 0} (r : ℕ → Bool) (k : ℕ → ℕ) (i : ℕ) (ks : List (Block V)) → length (keep_blocks r k i ks) ≤ length ks
keep_size r k i [] = omega arith
keep_size r k i (b ∷ bs) = by_test (r i) (keep_size r k (suc i) bs)
  where
    by_test : (t : Bool) → length (keep_blocks r k (suc i) bs) ≤ length bs → length (keep_blocks r k i (b ∷ bs)) ≤ length (b ∷ bs)
    by_test t h = by_kept (r i)
      where
        by_kept : (t : Bool) → length (if t then retarget_block k b ∷ keep_blocks r k (suc i) bs else keep_blocks r k (suc i) bs) ≤ suc (length bs)
        by_kept true = omega (arith, h)
        by_kept false = omega (arith, h)

pub size_after : (f : Option (Fun Place)) (r : ℕ → Bool) → size (place_fun same_place (keep r (branched f))) ≤ size f
size_after None r = omega arith
size_after (Some f) r =
    let d = map (decide_block (constants (Some f))) f in
    let g = keep_blocks r (between r 0) 0 d in
    let a : length (map (place_block (place_of same_place g)) g) ≡ length g = length_map (place_block (place_of same_place g)) g in
    let b = keep_size r (between r 0) 0 d in
    let c : length d ≡ length f = length_map (decide_block (constants (Some f))) f in
    omega (arith, a, b, c)

-- 5. the whole pass

pub simplify_is_alike : (p q : FunctionsByPath Place) (c : ℕ) → ((path : List ℕ) → Rules (p path)) → IsSimplify p q → ((path : List ℕ) → size (p path) ≤ c) → Alike same_place same_place (suc c) p q
simplify_is_alike p q c rules is few =
    let S = same_place in
    let r1 = λ (path : List ℕ). decide_rules (constants (p path)) (p path) (rules path) in
    let p1 : FunctionsByPath Place = λ path. branched (p path) in
    let reach = λ (path : List ℕ). (is.each path).reach in
    let p2 : FunctionsByPath Place = kept reach p1 in
    let p3 : FunctionsByPath Place = placed S p2 in
    let r3 = λ (path : List ℕ). kept_rules (p1 path) (reach path) (is.each path).reached (r1 path) in
    let b1 = branched_alike p rules in
    let b2 = keep_alike S p1 reach (λ path. reach_entry (p1 path) (reach path) (is.each path).reached) (λ path. reach_stays (p1 path) (reach path) (is.each path).reached) in
    let b3 = placed_alike S place_law p2 (λ path. sees_defined S place_law (p2 path) (keep_shaped (reach path) (p1 path) (reach_entry (p1 path) (reach path) (is.each path).reached) (reach_stays (p1 path) (reach path) (is.each path).reached) (shaped_on (reach path) (p1 path) (rules_shaped (p1 path) (r1 path)))).sees) in
    let b4 = merged_alike p3 q r3 (λ path. (is.each path).merges) (λ path. kept_lives (p1 path) (reach path) (is.each path).reached) c
    (λ path b n d. let z = depth_few (p3 path) (is.each path).merges.taken (is.each path).merges.is_taken b n d in omega (arith, z, size_after (p path) (reach path), few path)) in
    let t2 = alike_trans S S S 1 1 p p1 p2 b1 b2 in
    let t3 = alike_trans S S S (1 * 1) 1 p p2 p3 t2 b3 in
    let t4 = alike_trans S S S (1 * 1 * 1) (suc c) p p3 q t3 b4 in
    let e : 1 * 1 * 1 * suc c ≡ suc c = omega arith in
    subst (λ n. Alike S S n p q) e t4
