-- What was put in is seen from each use that names it.
use Rattle.std.proofs.Common.{◌≡◌, ◌⊎◌, ⊎_elim, inl, inr, ℕ, zero, suc, List, [], ◌∷◌, ◌++◌, Option, Some, None, refl, sym, ap, ◌∙◌, subst}
use Rattle.std.specs.Prelude.{map}
use Rattle.kit_behaviour.specs.Machine.{Edge, Op, Const, Calc, Emit, Call, Branch, Return, Fun, left_in, arguments_in}
use Rattle.kit_behaviour.specs.Renaming.{rename_edge, same_block}
use Rattle.kit_behaviour.specs.Scopes.{In, AllIn, all_defs, entry_values, at_start, SameLength, EdgeScoped, OpScoped, OpsWith, BlocksWith}
use Rattle.kit_behaviour.specs.Replacement.{replace_edge, replace_op}
use Rattle.kit_behaviour.specs.InsertedConstants.{OldOrNewName, Old, New, Made, put_if, put_args, old, put_ops, put_in, constant_of, use_of, AllUnmade, OpsUnmade}
use Rattle.kit_behaviour.proofs.Propagation.InsertionLemmas.{put_left, put_takes}
use Rattle.kit_behaviour.proofs.Behaviour.EdgeLemmas.{edges_map}

pub in_append : {V : Type 0} (x : V) (xs ys : List V) → In x xs ⊎ In x ys → In x (xs ++ ys)
in_append x [] ys h = ⊎_elim (λ a. absurd a) (λ b. b) h
in_append x (y ∷ xs) ys h =
    ⊎_elim
    (λ a. ⊎_elim (λ e. inl e) (λ b. inr (in_append x xs ys (inl b))) a)
    (λ b. inr (in_append x xs ys (inr b)))
    h

pub in_split : {V : Type 0} (x : V) (xs ys : List V) → In x (xs ++ ys) → In x xs ⊎ In x ys
in_split x [] ys h = inr h
in_split x (y ∷ xs) ys h =
    ⊎_elim (λ e. inl (inl e)) (λ b. ⊎_elim (λ l. inl (inr l)) (λ r. inr r) (in_split x xs ys b)) h

pub all_append : {V : Type 0} (xs ys a : List V) → AllIn xs a → AllIn ys a → AllIn (xs ++ ys) a
all_append [] ys a h g = g
all_append (x ∷ xs) ys a h g = (h.0, all_append xs ys a h.1 g)

pub all_front : {V : Type 0} (xs ys a : List V) → AllIn (xs ++ ys) a → AllIn xs a
all_front [] ys a h = tt
all_front (x ∷ xs) ys a h = (h.0, all_front xs ys a h.1)

pub all_back : {V : Type 0} (xs ys a : List V) → AllIn (xs ++ ys) a → AllIn ys a
all_back [] ys a h = h
all_back (x ∷ xs) ys a h = all_back xs ys a h.1

in_old : {V : Type 0} (x : V) (xs : List V) → In x xs → In (Old x) (map Old xs)
in_old x [] h = absurd h
in_old x (y ∷ xs) h = ⊎_elim (λ e. inl (ap Old e)) (λ b. inr (in_old x xs b)) h

module _ {V : Type 0} (m : Made V) where
  -- the old values in scope are in scope, and their constants, but for those in Q
  abbrev Covered : (V → Type 0) → List V → List (OldOrNewName V) → Type 0
  Covered Q a a' = (x : V) → In x a → In (Old x) a' × ((n : ℕ) → m x ≡ Some n → In (New x) a' ⊎ Q x)

  abbrev Covers : List V → List (OldOrNewName V) → Type 0
  Covers = Covered (λ x. ⊥)

  cover_more : (Q : V → Type 0) (a : List V) (a' : List (OldOrNewName V)) (y : OldOrNewName V) → Covered Q a a' → Covered Q a (y ∷ a')
  cover_more Q a a' y c x i = let h = c x i in (inr h.0, λ n e. ⊎_elim (λ l. inl (inr l)) (λ r. inr r) (h.1 n e))

  cover_unmade : (a : List V) (a' : List (OldOrNewName V)) (r : V) → m r ≡ None → Covers a a' → Covers (r ∷ a) (Old r ∷ a')
  cover_unmade a a' r none c x i =
      ⊎_elim
      (λ e. (inl (ap Old e), λ n s. let bad : None ≡ Some n = sym none ∙ ap m (sym e) ∙ s in absurd (cc bad)))
      (λ j. cover_more (λ y. ⊥) a a' (Old r) c x j)
      i

  cover_made : (a : List V) (a' : List (OldOrNewName V)) (r : V) → Covers a a' → Covers (r ∷ a) (Old r ∷ New r ∷ a')
  cover_made a a' r c x i =
      ⊎_elim
      (λ e. (inl (ap Old e), λ n s. inl (inr (inl (ap New e)))))
      (λ j. cover_more (λ y. ⊥) a (New r ∷ a') (Old r) (cover_more (λ y. ⊥) a a' (New r) c) x j)
      i

  cover_results : (a : List V) (a' : List (OldOrNewName V)) (rs : List V) → AllUnmade m rs → Covers a a' → Covers (rs ++ a) (map Old rs ++ a')
  cover_results a a' [] h c = c
  cover_results a a' (r ∷ rs) h c = cover_unmade (rs ++ a) (map Old rs ++ a') r h.0 (cover_results a a' rs h.1 c)

  -- 1. uses

  use_in : (a : List V) (a' : List (OldOrNewName V)) (x : V) → Covers a a' → In x a → In (use_of m (Old x)) a'
  use_in a a' x c i = by_made (m x) refl
    where
      by_made : (o : Option ℕ) → m x ≡ o → In (constant_of o x) a'
      by_made None e = (c x i).0
      by_made (Some n) e = ⊎_elim (λ l. l) (λ r. absurd r) ((c x i).1 n e)

  olds_in : (a : List V) (a' : List (OldOrNewName V)) (xs : List V) → Covers a a' → AllIn xs a → AllIn (map Old xs) a'
  olds_in a a' [] c h = tt
  olds_in a a' (x ∷ xs) c h = ((c x h.0).0, olds_in a a' xs c h.1)

  uses_in : (a : List V) (a' : List (OldOrNewName V)) (xs : List V) → Covers a a' → AllIn xs a → AllIn (map (use_of m) (map Old xs)) a'
  uses_in a a' [] c h = tt
  uses_in a a' (x ∷ xs) c h = (use_in a a' x c h.0, uses_in a a' xs c h.1)

  same_length_old : (ts gs : List V) → SameLength ts gs → SameLength (map Old ts) (map Old gs)
  same_length_old [] [] h = tt
  same_length_old [] (g ∷ gs) h = h
  same_length_old (t ∷ ts) [] h = h
  same_length_old (t ∷ ts) (g ∷ gs) h = same_length_old ts gs h

  same_length_use : (ts gs : List (OldOrNewName V)) → SameLength ts gs → SameLength ts (map (use_of m) gs)
  same_length_use [] [] h = tt
  same_length_use [] (g ∷ gs) h = h
  same_length_use (t ∷ ts) [] h = h
  same_length_use (t ∷ ts) (g ∷ gs) h = same_length_use ts gs h

  -- 2. what the entry block defines

  defs_put : (a' : List (OldOrNewName V)) (o : Option ℕ) (v : V) (rest : List (Op (OldOrNewName V))) → ((n : ℕ) → o ≡ Some n → In (New v) a') → AllIn (all_defs rest) a' → AllIn (all_defs (put_if o v rest)) a'
  defs_put a' None v rest i h = h
  defs_put a' (Some n) v rest i h = (i n refl, h)

  made_in : (a : List V) (a' : List (OldOrNewName V)) (v : V) → Covers a a' → In v a → (n : ℕ) → m v ≡ Some n → In (New v) a'
  made_in a a' v c i n e = ⊎_elim (λ l. l) (λ r. absurd r) ((c v i).1 n e)

  defs_args : (a : List V) (a' : List (OldOrNewName V)) (vs : List V) (rest : List (Op (OldOrNewName V))) → Covers a a' → AllIn vs a → AllIn (all_defs rest) a' → AllIn (all_defs (put_args m vs rest)) a'
  defs_args a a' [] rest c i h = h
  defs_args a a' (v ∷ vs) rest c i h = defs_args a a' vs (put_if (m v) v rest) c i.1 (defs_put a' (m v) v rest (made_in a a' v c i.0) h)

  defs_ops : (a : List V) (a' : List (OldOrNewName V)) (ops : List (Op V)) → Covers a a' → AllIn (all_defs ops) a → AllIn (all_defs (put_ops m ops)) a'
  defs_ops a a' [] c h = tt
  defs_ops a a' (Const r n ∷ ops) c h = ((c r h.0).0, defs_ops a a' ops c h.1)
  defs_ops a a' (Calc o w r x y ∷ ops) c h = defs_put a' (m r) r (old (Calc o w r x y) ∷ put_ops m ops) (made_in a a' r c h.0) ((c r h.0).0, defs_ops a a' ops c h.1)
  defs_ops a a' (Emit x ∷ ops) c h = defs_ops a a' ops c h
  defs_ops a a' (Call rs k xs ∷ ops) c h = all_append (map Old rs) (all_defs (put_ops m ops)) a' (olds_in a a' rs c (all_front rs (all_defs ops) a h)) (defs_ops a a' ops c (all_back rs (all_defs ops) a h))
  defs_ops a a' (Branch s xs e es ∷ ops) c h = defs_ops a a' ops c h
  defs_ops a a' (Return xs ∷ ops) c h = defs_ops a a' ops c h

  module _ (f : Option (Fun V)) (others : (b : ℕ) → OpsUnmade m (left_in f b 0)) where
    entry_put : entry_values (put_in m f) ≡ map Old (arguments_in f 0) ++ all_defs (put_args m (arguments_in f 0) (put_ops m (left_in f 0 0)))
    entry_put = ap (λ l. l ++ all_defs (left_in (put_in m f) 0 0)) (put_takes m f 0) ∙ ap (λ l. map Old (arguments_in f 0) ++ all_defs l) (put_left m f 0)

    entry_in : (a : List V) (a' : List (OldOrNewName V)) → Covers a a' → AllIn (entry_values f) a → AllIn (entry_values (put_in m f)) a'
    entry_in a a' c h =
        let t = all_front (arguments_in f 0) (all_defs (left_in f 0 0)) a h in
        let o = all_back (arguments_in f 0) (all_defs (left_in f 0 0)) a h in
        subst (λ l. AllIn l a') (sym entry_put)
        (all_append (map Old (arguments_in f 0)) _ a' (olds_in a a' (arguments_in f 0) c t) (defs_args a a' (arguments_in f 0) (put_ops m (left_in f 0 0)) c t (defs_ops a a' (left_in f 0 0) c o)))

    -- the other way round: each value that the entry block defined, and its constant, is defined there

    put_has : (y : OldOrNewName V) (o : Option ℕ) (v : V) (rest : List (Op (OldOrNewName V))) → In y (all_defs rest) → In y (all_defs (put_if o v rest))
    put_has y None v rest h = h
    put_has y (Some n) v rest h = inr h

    put_new : (x : V) (o : Option ℕ) (n : ℕ) (v : V) (rest : List (Op (OldOrNewName V))) → x ≡ v → o ≡ Some n → In (New x) (all_defs (put_if o v rest))
    put_new x None n v rest e s = absurd (cc s)
    put_new x (Some k) n v rest e s = inl (ap New e)

    pub args_has : (y : OldOrNewName V) (vs : List V) (rest : List (Op (OldOrNewName V))) → In y (all_defs rest) → In y (all_defs (put_args m vs rest))
    args_has y [] rest h = h
    args_has y (v ∷ vs) rest h = args_has y vs (put_if (m v) v rest) (put_has y (m v) v rest h)

    args_new : (x : V) (n : ℕ) (vs : List V) (rest : List (Op (OldOrNewName V))) → m x ≡ Some n → In x vs → In (New x) (all_defs (put_args m vs rest))
    args_new x n [] rest e i = absurd i
    args_new x n (v ∷ vs) rest e i =
        ⊎_elim
        (λ eq. args_has (New x) vs (put_if (m v) v rest) (put_new x (m v) n v rest eq (ap m (sym eq) ∙ e)))
        (λ j. args_new x n vs (put_if (m v) v rest) e j)
        i

    abbrev Both : V → List (OldOrNewName V) → Type 0
    Both x a' = In (Old x) a' × ((n : ℕ) → m x ≡ Some n → In (New x) a')

    both_append : (x : V) (ys a' : List (OldOrNewName V)) → Both x a' → Both x (ys ++ a')
    both_append x ys a' h = (in_append (Old x) ys a' (inr h.0), λ n e. in_append (New x) ys a' (inr (h.1 n e)))

    unmade_both : (x : V) (rs : List V) (a' : List (OldOrNewName V)) → AllUnmade m rs → In x rs → Both x (map Old rs ++ a')
    unmade_both x [] a' u i = absurd i
    unmade_both x (r ∷ rs) a' u i =
        ⊎_elim
        (λ e. (inl (ap Old e), λ n s. let bad : None ≡ Some n = sym u.0 ∙ ap m (sym e) ∙ s in absurd (cc bad)))
        (λ j. let h = unmade_both x rs a' u.1 j in (inr h.0, λ n s. inr (h.1 n s)))
        i

    pub ops_both : (x : V) (ops : List (Op V)) → OpsUnmade m ops → In x (all_defs ops) → Both x (all_defs (put_ops m ops))
    ops_both x [] u i = absurd i
    ops_both x (Const r k ∷ ops) u i =
        ⊎_elim
        (λ e. (inl (ap Old e), λ n s. let bad : None ≡ Some n = sym u.0 ∙ ap m (sym e) ∙ s in absurd (cc bad)))
        (λ j. let h = ops_both x ops u.1 j in (inr h.0, λ n s. inr (h.1 n s)))
        i
    ops_both x (Calc o w r y z ∷ ops) u i =
        let rest = old (Calc o w r y z) ∷ put_ops m ops in
        ⊎_elim
        (λ e. (put_has (Old x) (m r) r rest (inl (ap Old e)), λ n s. put_new x (m r) n r rest e (ap m (sym e) ∙ s)))
        (λ j. let h = ops_both x ops u j in (put_has (Old x) (m r) r rest (inr h.0), λ n s. put_has (New x) (m r) r rest (inr (h.1 n s))))
        i
    ops_both x (Emit y ∷ ops) u i = ops_both x ops u i
    ops_both x (Call rs k xs ∷ ops) u i =
        ⊎_elim
        (λ l. unmade_both x rs (all_defs (put_ops m ops)) u.0 l)
        (λ r. both_append x (map Old rs) (all_defs (put_ops m ops)) (ops_both x ops u.1 r))
        (in_split x rs (all_defs ops) i)
    ops_both x (Branch s xs e es ∷ ops) u i = ops_both x ops u i
    ops_both x (Return xs ∷ ops) u i = ops_both x ops u i

    entry_both : (x : V) → In x (entry_values f) → Both x (entry_values (put_in m f))
    entry_both x i =
        let ops = put_ops m (left_in f 0 0) in
        let ts = arguments_in f 0 in
        subst (Both x) (sym entry_put)
        (⊎_elim
        (λ l. (in_append (Old x) (map Old ts) (all_defs (put_args m ts ops)) (inl (in_old x ts l)), λ n e. in_append (New x) (map Old ts) (all_defs (put_args m ts ops)) (inr (args_new x n ts ops e l))))
        (λ r.
        let h = ops_both x (left_in f 0 0) (others 0) r in
        both_append x (map Old ts) (all_defs (put_args m ts ops)) (args_has (Old x) ts ops h.0, λ n e. args_has (New x) ts ops (h.1 n e)))
        (in_split x ts (all_defs (left_in f 0 0)) i))

    -- 3. operations

    abbrev Fine : List (OldOrNewName V) → Op (OldOrNewName V) → Type 0
    Fine a' op = OpScoped (put_in m f) a' op × OpScoped (put_in m f) a' (replace_op (use_of m) op)

    edge_fine : (a : List V) (a' : List (OldOrNewName V)) (e : Edge V) → Covers a a' → EdgeScoped f a e → EdgeScoped (put_in m f) a' (rename_edge Old same_block e) × EdgeScoped (put_in m f) a' (replace_edge (use_of m) (rename_edge Old same_block e))
    edge_fine a a' e c h =
        let len = subst (λ ts. SameLength ts (map Old e.forwards)) (sym (put_takes m f e.target)) (same_length_old (arguments_in f e.target) e.forwards h.2) in
        let ent = entry_in a a' c h.1 in
        ((olds_in a a' e.forwards c h.0, ent, len), (uses_in a a' e.forwards c h.0, ent, same_length_use (arguments_in (put_in m f) e.target) (map Old e.forwards) len))

    op_fine : (a : List V) (a' : List (OldOrNewName V)) (op : Op V) → Covers a a' → OpScoped f a op → Fine a' (old op)
    op_fine a a' (Const r n) c h = (tt, tt)
    op_fine a a' (Calc o w r x y) c h = (((c x h.0).0, (c y h.1).0), (use_in a a' x c h.0, use_in a a' y c h.1))
    op_fine a a' (Emit x) c h = ((c x h).0, use_in a a' x c h)
    op_fine a a' (Call rs k xs) c h = (olds_in a a' xs c h, uses_in a a' xs c h)
    op_fine a a' (Branch s xs e es) c h = (
      (olds_in a a' xs c h.0, edges_map (EdgeScoped f a) (EdgeScoped (put_in m f) a') (rename_edge Old same_block) (λ x g. (edge_fine a a' x c g).0) (e ∷ es) h.1),
      (uses_in a a' xs c h.0, edges_map (λ x. EdgeScoped (put_in m f) a' (replace_edge (use_of m) x)) (EdgeScoped (put_in m f) a') (replace_edge (use_of m)) (λ x g. g) (map (rename_edge Old same_block) (e ∷ es)) (edges_map (EdgeScoped f a) (λ x. EdgeScoped (put_in m f) a' (replace_edge (use_of m) x)) (rename_edge Old same_block) (λ x g. (edge_fine a a' x c g).1) (e ∷ es) h.1)),
    )
    op_fine a a' (Return xs) c h = (olds_in a a' xs c h, uses_in a a' xs c h)

    ops_fine : (a : List V) (a' : List (OldOrNewName V)) (ops : List (Op V)) → Covers a a' → OpsWith (OpScoped f) a ops → OpsUnmade m ops → OpsWith Fine a' (put_ops m ops)
    ops_fine a a' [] c h u = tt
    ops_fine a a' (Const r n ∷ ops) c h u = ((tt, tt), ops_fine (r ∷ a) (Old r ∷ a') ops (cover_unmade a a' r u.0 c) h.1 u.1)
    ops_fine a a' (Calc o w r x y ∷ ops) c h u = by_made (m r) refl (λ a2. ops_fine (r ∷ a) a2 ops)
      where
        by_made : (t : Option ℕ) → m r ≡ t → ((a2 : List (OldOrNewName V)) → Covers (r ∷ a) a2 → OpsWith (OpScoped f) (r ∷ a) ops → OpsUnmade m ops → OpsWith Fine a2 (put_ops m ops)) → OpsWith Fine a' (put_if t r (old (Calc o w r x y) ∷ put_ops m ops))
        by_made None e ih = (op_fine a a' (Calc o w r x y) c h.0, ih (Old r ∷ a') (cover_unmade a a' r e c) h.1 u)
        by_made (Some n) e ih = ((tt, tt), (op_fine a (New r ∷ a') (Calc o w r x y) (cover_more (λ y. ⊥) a a' (New r) c) h.0, ih (Old r ∷ New r ∷ a') (cover_made a a' r c) h.1 u))
    ops_fine a a' (Emit x ∷ ops) c h u = (op_fine a a' (Emit x) c h.0, ops_fine a a' ops c h.1 u)
    ops_fine a a' (Call rs k xs ∷ ops) c h u = (op_fine a a' (Call rs k xs) c h.0, ops_fine (rs ++ a) (map Old rs ++ a') ops (cover_results a a' rs u.0 c) h.1 u.1)
    ops_fine a a' (Branch s xs e es ∷ ops) c h u = (op_fine a a' (Branch s xs e es) c h.0, ops_fine a a' ops c h.1 u)
    ops_fine a a' (Return xs ∷ ops) c h u = (op_fine a a' (Return xs) c h.0, ops_fine a a' ops c h.1 u)

    -- the constants of the arguments come first, and are pending until then
    args_fine : (a : List V) (Q : V → Type 0) (vs : List V) (rest : List (Op (OldOrNewName V))) → ((a2 : List (OldOrNewName V)) → Covered Q a a2 → OpsWith Fine a2 rest) → (a' : List (OldOrNewName V)) → Covered (λ x. In x vs ⊎ Q x) a a' → OpsWith Fine a' (put_args m vs rest)
    args_fine a Q [] rest go a' c = go a' (λ x i. let h = c x i in (h.0, λ n e. ⊎_elim (λ l. inl l) (λ r. ⊎_elim (λ bad. absurd bad) (λ q. inr q) r) (h.1 n e)))
    args_fine a Q (v ∷ vs) rest go a' c =
        args_fine a (λ x. (x ≡ v) ⊎ Q x) vs (put_if (m v) v rest) (λ a2 c2. by_made a2 c2 (m v) refl) a'
        (λ x i. let h = c x i in (h.0, λ n e. ⊎_elim (λ l. inl l) (λ r. inr (⊎_elim (λ b. ⊎_elim (λ eq. inr (inl eq)) (λ j. inl j) b) (λ q. inr (inr q)) r)) (h.1 n e)))
      where
        by_made : (a2 : List (OldOrNewName V)) → Covered (λ x. (x ≡ v) ⊎ Q x) a a2 → (t : Option ℕ) → m v ≡ t → OpsWith Fine a2 (put_if t v rest)
        by_made a2 c2 None e = go a2 (λ x i. let h = c2 x i in (h.0, λ n s. ⊎_elim (λ l. inl l) (λ r. ⊎_elim (λ eq. let bad : None ≡ Some n = sym e ∙ ap m (sym eq) ∙ s in absurd (cc bad)) (λ q. inr q) r) (h.1 n s)))
        by_made a2 c2 (Some k) e = ((tt, tt), go (New v ∷ a2) (λ x i. let h = c2 x i in (inr h.0, λ n s. ⊎_elim (λ l. inl (inr l)) (λ r. ⊎_elim (λ eq. inl (inl (ap New eq))) (λ q. inr q) r) (h.1 n s))))

    at_start_covered : (b : ℕ) → Covered (λ x. In x (arguments_in f b) ⊎ ⊥) (at_start f b) (at_start (put_in m f) b)
    at_start_covered zero x i = (subst (In (Old x)) (sym (put_takes m f 0)) (in_old x (arguments_in f 0) i), λ n e. inr (inl i))
    at_start_covered (suc b) x i =
        let ts = arguments_in (put_in m f) (suc b) in
        ⊎_elim
        (λ l. (in_append (Old x) ts (entry_values (put_in m f)) (inl (subst (In (Old x)) (sym (put_takes m f (suc b))) (in_old x (arguments_in f (suc b)) l))), λ n e. inr (inl l)))
        (λ r. let h = both_append x ts (entry_values (put_in m f)) (entry_both x r) in (h.0, λ n e. inl (h.1 n e)))
        (in_split x (arguments_in f (suc b)) (entry_values f) i)

    pub put_scoped : BlocksWith f (OpScoped f) → BlocksWith (put_in m f) Fine
    put_scoped s b =
        subst (OpsWith Fine (at_start (put_in m f) b)) (sym (put_left m f b))
        (args_fine (at_start f b) (λ x. ⊥) (arguments_in f b) (put_ops m (left_in f b 0)) (λ a2 c2. ops_fine (at_start f b) a2 (left_in f b 0) c2 (s b) (others b)) (at_start (put_in m f) b) (at_start_covered b))
