-- Where chains of blocks are joined the rules are kept.
use Rattle.std.proofs.Common.{◌≡◌, ◌⊎◌, ⊎_elim, inl, ℕ, zero, suc, ◌+◌, ◌*◌, ◌<◌, ◌≤◌, Bool, true, false, List, [], ◌∷◌, length, Option, Some, None, refl, sym, ap, ◌∙◌, subst, arith}
use Rattle.std.specs.Prelude.{map, slice_get, if◌then◌else◌, not}
use Rattle.kit_behaviour.specs.Machine.{AllEdges, Edge, Op, Const, Calc, Emit, Call, Branch, Return, Fun, left_in, arguments_in, size}
use Rattle.kit_behaviour.specs.RemovedValues.{thin_op}
use Rattle.kit_behaviour.specs.JoinedBlocks.{join_ops, joined, JoinsTo, Chains}
use Rattle.kit_behaviour.specs.Scopes.{In, defs, SameLength}
use Rattle.kit_behaviour.specs.Replacement.{replace_op, replace}
use Rattle.kit_behaviour.specs.Rules.{is_terminator, EndsWell, EdgeFits, EdgesOfOpFit, AllEdgesFit, Rules}
use Rattle.kit_behaviour.specs.Places.{Place, Arg, Res, same_place}
use Rattle.kit_behaviour.specs.Numbering.{place_fun}
use Rattle.kit_behaviour.specs.SimplifiedBlocks.{edges_of, all_edges, Reached, BlocksAreJoinable, IsJoinedSet, Depth, join_fun, keep}
use Rattle.kit_behaviour.proofs.ControlFlow.PlacesJoined.{forward, Follows, taken_arg, replaced_args}
use Rattle.kit_behaviour.proofs.Numbering.PlaceEquality.{place_law}
use Rattle.kit_behaviour.proofs.Behaviour.SizeLemmas.{has_block, replace_size, thin_size}
use Rattle.kit_behaviour.proofs.Numbering.NumberingBehaviour.{name_op}
use Rattle.kit_behaviour.proofs.Propagation.ScopeLemmas.{in_split}
use Rattle.kit_behaviour.proofs.Behaviour.EdgeLemmas.{edges_each}
use Rattle.kit_behaviour.proofs.DeadCode.RemovalBehaviour.{thin_left}
use Rattle.kit_behaviour.proofs.DeadCode.RemovalScopes.{ops_end, ops_fit}
use Rattle.kit_behaviour.proofs.Lattice.ReplacementBehaviour.{replace_left}
use Rattle.kit_behaviour.proofs.Numbering.NumberingRules.{name_at, DistinctOn, arg_name, res_name, name_arg, name_res, placed_rules}
use Rattle.kit_behaviour.proofs.ControlFlow.KeptBlocks.{rules_home, keep_distinct_on, keep_shaped}
use Rattle.kit_behaviour.proofs.ControlFlow.ChainLemmas.{last_in, one_before, entry_free}
use Rattle.kit_behaviour.proofs.ControlFlow.JoiningPremises.{ToNext, to_next, next_tail, left_two, join_left, join_takes, same_takes, chains_free, not_free, drop_stays}
use Rattle.kit_behaviour.proofs.ControlFlow.ScopesAfterJoining.{pass_on, left_three, defs_tw, sees_three}
use Rattle.kit_behaviour.proofs.ControlFlow.AllReached.{join_size}
use Rattle.kit_behaviour.proofs.Propagation.PropagationRules.{cons_ends, replace_ends, all_fit_replaced}

-- each edge of these fits
pub edge_fits_in : {V : Type 0} (f : Option (Fun V)) (e : Edge V) (ops : List (Op V)) → AllEdgesFit f ops → In e (all_edges ops) → EdgeFits f e
edge_fits_in f e [] h i = absurd i
edge_fits_in {V} f e (op ∷ ops) h i = ⊎_elim (λ l. of_op op h.0 l) (λ r. edge_fits_in f e ops h.1 r) (in_split e (edges_of op) (all_edges ops) i)
  where
    of_list : (es : List (Edge V)) → AllEdges (EdgeFits f) es → In e es → EdgeFits f e
    of_list [] a j = absurd j
    of_list (x ∷ es) a j = ⊎_elim (λ q. subst (EdgeFits f) (sym q) a.0) (λ r. of_list es a.1 r) j

    of_op : (o : Op V) → EdgesOfOpFit f o → In e (edges_of o) → EdgeFits f e
    of_op (Branch s xs x es) a j = of_list (x ∷ es) a j
    of_op (Const r n) a j = absurd j
    of_op (Calc o w r x y) a j = absurd j
    of_op (Emit x) a j = absurd j
    of_op (Call rs c xs) a j = absurd j
    of_op (Return xs) a j = absurd j

-- 1. what joined operations are, whatever stands behind

module _ {V : Type 0} (j : ℕ → Bool) (N : ℕ → Type 0) (n : ℕ → List (Op V)) where
  ends_join : ((t : ℕ) → j t ≡ true → N t → EndsWell (n t)) → (ops : List (Op V)) → EndsWell ops → JoinsTo j N ops → EndsWell (join_ops j n ops)
  ends_join next [] e q = e
  ends_join next (Branch s xs x [] ∷ []) e q = by_test (j x.target) refl
    where
      by_test : (b : Bool) → j x.target ≡ b → EndsWell (if b then n x.target else Branch s xs x [] ∷ [])
      by_test true h = next x.target h (q.0 h)
      by_test false h = refl
  ends_join next (Branch s xs x (y ∷ ys) ∷ []) e q = refl
  ends_join next (Return xs ∷ []) e q = refl
  ends_join next (Const r m ∷ []) e q = absurd (cc e)
  ends_join next (Calc o w r x y ∷ []) e q = absurd (cc e)
  ends_join next (Emit x ∷ []) e q = absurd (cc e)
  ends_join next (Call rs c xs ∷ []) e q = absurd (cc e)
  ends_join next (Branch s xs x es ∷ op ∷ ops) e q = absurd (cc e.0)
  ends_join next (Return xs ∷ op ∷ ops) e q = absurd (cc e.0)
  ends_join next (Const r m ∷ op ∷ ops) e q = cons_ends (Const r m) (join_ops j n (op ∷ ops)) refl (ends_join next (op ∷ ops) e.1 q)
  ends_join next (Calc o w r x y ∷ op ∷ ops) e q = cons_ends (Calc o w r x y) (join_ops j n (op ∷ ops)) refl (ends_join next (op ∷ ops) e.1 q)
  ends_join next (Emit x ∷ op ∷ ops) e q = cons_ends (Emit x) (join_ops j n (op ∷ ops)) refl (ends_join next (op ∷ ops) e.1 q)
  ends_join next (Call rs c xs ∷ op ∷ ops) e q = cons_ends (Call rs c xs) (join_ops j n (op ∷ ops)) refl (ends_join next (op ∷ ops) e.1 q)

  fits_join : (f g : Option (Fun V)) → ((x : Edge V) → EdgeFits f x → EdgeFits g x) → ((t : ℕ) → N t → AllEdgesFit g (n t)) → (ops : List (Op V)) → AllEdgesFit f ops → JoinsTo j N ops → AllEdgesFit g (join_ops j n ops)
  fits_join f g to next [] h q = tt
  fits_join f g to next (Branch s xs x [] ∷ ops) h q = by_test (j x.target) refl (fits_join f g to next ops h.1 q.1)
    where
      by_test : (b : Bool) → j x.target ≡ b → AllEdgesFit g (join_ops j n ops) → AllEdgesFit g (if b then n x.target else Branch s xs x [] ∷ join_ops j n ops)
      by_test true e ih = next x.target (q.0 e)
      by_test false e ih = ((to x h.0.0, tt), ih)
  fits_join f g to next (Branch s xs x (y ∷ ys) ∷ ops) h q = (edges_each (EdgeFits f) (EdgeFits g) to (x ∷ y ∷ ys) h.0, fits_join f g to next ops h.1 q.1)
  fits_join f g to next (Return xs ∷ ops) h q = (tt, fits_join f g to next ops h.1 q)
  fits_join f g to next (Const r m ∷ ops) h q = (tt, fits_join f g to next ops h.1 q)
  fits_join f g to next (Calc o w r x y ∷ ops) h q = (tt, fits_join f g to next ops h.1 q)
  fits_join f g to next (Emit x ∷ ops) h q = (tt, fits_join f g to next ops h.1 q)
  fits_join f g to next (Call rs c xs ∷ ops) h q = (tt, fits_join f g to next ops h.1 q)

module _ {V : Type 0} (j : ℕ → Bool) (n : ℕ → List (Op V)) (l : ℕ) (few : (t : ℕ) → length (n t) ≤ l) where
  join_length : (ops : List (Op V)) → length (join_ops j n ops) ≤ length ops + l
  join_length [] = omega arith
  join_length (Branch s xs x [] ∷ ops) = by_test (j x.target) (join_length ops)
    where
      by_test : (b : Bool) → length (join_ops j n ops) ≤ length ops + l → length (if b then n x.target else Branch s xs x [] ∷ join_ops j n ops) ≤ suc (length ops) + l
      by_test true ih = omega (arith, few x.target)
      by_test false ih = omega (arith, ih)
  join_length (Branch s xs x (y ∷ ys) ∷ ops) = omega (arith, join_length ops)
  join_length (Return xs ∷ ops) = omega (arith, join_length ops)
  join_length (Const r m ∷ ops) = omega (arith, join_length ops)
  join_length (Calc o w r x y ∷ ops) = omega (arith, join_length ops)
  join_length (Emit x ∷ ops) = omega (arith, join_length ops)
  join_length (Call rs c xs ∷ ops) = omega (arith, join_length ops)

-- a chain of at most m further blocks, each with at most l operations
pub joined_length : {V : Type 0} (j : ℕ → Bool) (g : Option (Fun V)) (l : ℕ) → ((b : ℕ) → length (left_in g b 0) ≤ l) → (m : ℕ) (ops : List (Op V)) → length (joined j g m ops) ≤ length ops + m * l
joined_length j g l few zero ops = join_length j (λ t. []) (0 * l) (λ t. omega arith) ops
joined_length j g l few (suc m) ops =
    join_length j (λ t. joined j g m (left_in g t 0)) (suc m * l) (λ t. let a = joined_length j g l few m (left_in g t 0) in let e : suc m * l ≡ l + m * l = omega arith in omega (arith, a, few t, e)) ops

module _ (f : Option (Fun Place)) (rules : Rules f) (j : ℕ → Bool) (taken : IsJoinedSet f j) (s : Place → Place) (fol : (v : Place) → Follows (forward j f) v (s v)) (lives : (b : ℕ) → (arguments_in f b ≡ []) ⊎ Reached f b) (k : ℕ) (long : (b n : ℕ) → Depth f j b n → n ≤ k) where
  abbrev d : Place → Bool
  d = taken_arg j

  abbrev f1 : Option (Fun Place)
  f1 = replace s f

  abbrev f2 : Option (Fun Place)
  f2 = replaced_args j s f

  abbrev f3 : Option (Fun Place)
  f3 = join_fun j k f2

  abbrev tw : Op Place → Op Place
  tw op = thin_op f1 d (replace_op s op)

  two : (b : ℕ) → left_in f2 b 0 ≡ map tw (left_in f b 0)
  two b = left_two f rules j taken s fol lives k long b

  two_size : size f2 ≡ size f
  two_size = thin_size d f1 ∙ replace_size s f

  pub three_is : size f3 ≡ size f
  three_is = join_size j k f2 ∙ two_size

  joinable_range : (b t : ℕ) → BlocksAreJoinable f b t → t < size f
  joinable_range b t h = subst (λ x. x < size f) h.target (edge_fits_in f h.edge (left_in f b 0) (rules.fits b) (last_in (left_in f b 0) h.edge h.last)).leads

  taken_range : (t : ℕ) → j t ≡ true → t < size f
  taken_range t e = let h = taken.there t e in joinable_range h.0 t h.1

  -- 2. ends and edges

  two_ends : (b : ℕ) → b < size f → EndsWell (left_in f2 b 0)
  two_ends b l =
      subst EndsWell (sym (thin_left d f1 b)) (ops_end f1 d (left_in f1 b 0) (subst EndsWell (sym (replace_left s f b 0)) (replace_ends s (left_in f b 0) (rules.terminated b l))))

  ends_joined : (m : ℕ) (ops : List (Op Place)) → EndsWell ops → Chains j f2 m ops → EndsWell (joined j f2 m ops)
  ends_joined zero ops e q = ends_join j (λ t. ⊥) (λ t. []) (λ t h z. absurd z) ops e q
  ends_joined (suc m) ops e q =
      ends_join j (λ t. (arguments_in f2 t ≡ []) × Chains j f2 m (left_in f2 t 0)) (λ t. joined j f2 m (left_in f2 t 0)) (λ t h z. ends_joined m (left_in f2 t 0) (two_ends t (taken_range t h)) z.1) ops e q

  pub three_ends : (b : ℕ) → not (j b) ≡ true → b < size f3 → EndsWell (left_in f3 b 0)
  three_ends b e l =
      let q = not_free f rules j taken s fol lives k long (j b) e in
      subst EndsWell (sym (join_left j k f2 b)) (ends_joined k (left_in f2 b 0) (two_ends b (omega (arith, l, three_is))) (chains_free f rules j taken s fol lives k long b q))

  two_fits : (b : ℕ) → AllEdgesFit f2 (left_in f2 b 0)
  two_fits b =
      subst (AllEdgesFit f2) (sym (thin_left d f1 b)) (ops_fit f1 d (left_in f1 b 0) (subst (AllEdgesFit f1) (sym (replace_left s f b 0)) (all_fit_replaced s f (left_in f b 0) (rules.fits b))))

  fits_three : (x : Edge Place) → EdgeFits f2 x → EdgeFits f3 x
  fits_three x h =
      record {
        count = subst (λ l. SameLength l x.forwards) (sym (join_takes j k f2 x.target)) h.count;
        leads = subst (λ c. x.target < c) (sym (join_size j k f2)) h.leads;
      }

  fits_joined : (m : ℕ) (ops : List (Op Place)) → AllEdgesFit f2 ops → Chains j f2 m ops → AllEdgesFit f3 (joined j f2 m ops)
  fits_joined zero ops h q = fits_join j (λ t. ⊥) (λ t. []) f2 f3 fits_three (λ t z. tt) ops h q
  fits_joined (suc m) ops h q =
      fits_join j (λ t. (arguments_in f2 t ≡ []) × Chains j f2 m (left_in f2 t 0)) (λ t. joined j f2 m (left_in f2 t 0)) f2 f3 fits_three (λ t z. fits_joined m (left_in f2 t 0) (two_fits t) z.1) ops h q

  pub three_fits : (b : ℕ) → not (j b) ≡ true → AllEdgesFit f3 (left_in f3 b 0)
  three_fits b e =
      let q = not_free f rules j taken s fol lives k long (j b) e in
      subst (AllEdgesFit f3) (sym (join_left j k f2 b)) (fits_joined k (left_in f2 b 0) (two_fits b) (chains_free f rules j taken s fol lives k long b q))

  -- 3. names

  -- the operations of block c are those of the chain that begins at the block b, from its nth on
  data Inside (b : ℕ) : ℕ → ℕ → Type 0 where
    itself : (c n : ℕ) → c ≡ b → j b ≡ false → n ≡ 0 → Inside b c n
    behind : (c t m n : ℕ) → Inside b c m → BlocksAreJoinable f c t → suc n ≡ m + length (left_in f c 0) → Inside b t n

  inside_one : (b b' c n n' : ℕ) → Inside b c n → Inside b' c n' → (b ≡ b') × (n ≡ n')
  inside_one b b' c n n' (itself c1 n1 e h z) (itself c2 n2 e' h' z') = (sym e ∙ e', z ∙ sym z')
  inside_one b b' c n n' (itself c1 n1 e h z) (behind c2 t m n2 i g w) = let bad : true ≡ false = sym (taken.back c2 c g) ∙ ap j e ∙ h in absurd (cc bad)
  inside_one b b' c n n' (behind c1 t m n1 i g w) (itself c2 n2 e h z) = let bad : true ≡ false = sym (taken.back c1 c g) ∙ ap j e ∙ h in absurd (cc bad)
  inside_one b b' c n n' (behind c1 t m n1 i g w) (behind c2 t2 m2 n2 i2 g2 w2) =
      let q : c2 ≡ c1 = one_before f c2 c1 c g2 g in
      let r = inside_one b b' c1 m m2 i (subst (λ x. Inside b' x m2) q i2) in
      let x : suc n ≡ suc n' = w ∙ ap (λ y. y + length (left_in f c1 0)) r.1 ∙ ap (λ y. m2 + length (left_in f y 0)) (sym q) ∙ sym w2 in
      (r.0, omega (arith, x))

  -- a name of the chain that begins at b is one of a block inside
  record JoinedAt (b o i : ℕ) (v : Place) : Type 0 where
    c : ℕ
    n : ℕ
    at : ℕ
    inside : Inside b c n
    named : name_op (slice_get (left_in f c 0) at) i ≡ Some v
    is : o ≡ n + at

  joins_tail : (N : ℕ → Type 0) (op : Op Place) (rest : List (Op Place)) → is_terminator op ≡ false → JoinsTo j N (tw op ∷ rest) → JoinsTo j N rest
  joins_tail N (Const r m) rest e q = q
  joins_tail N (Calc o w r x y) rest e q = q
  joins_tail N (Emit x) rest e q = q
  joins_tail N (Call rs c xs) rest e q = q
  joins_tail N (Branch t xs x es) rest e q = absurd (cc e)
  joins_tail N (Return xs) rest e q = absurd (cc e)

  module _ (b : ℕ) (N : ℕ → Type 0) (n : ℕ → List (Op Place)) (c base : ℕ) (ins : Inside b c base) (next : (t : ℕ) → BlocksAreJoinable f c t → N t → (w : ℕ) → Inside b t w → (o i : ℕ) (v : Place) → name_op (slice_get (n t) o) i ≡ Some v → JoinedAt b (w + o) i v) where
    no_name : (o i : ℕ) (op : Op Place) (v : Place) → defs op ≡ [] → name_op (slice_get (op ∷ []) o) i ≡ Some v → ⊥
    no_name zero i op v d e = let bad : None ≡ Some v = sym (ap (λ l. slice_get l i) d) ∙ e in cc bad
    no_name (suc o) i op v d e = cc e

    from_last : (skip : ℕ) (op : Op Place) → suc skip ≡ length (left_in f c 0) → is_terminator op ≡ true → ToNext f rules j taken s fol lives k long c (op ∷ []) → JoinsTo j N (map tw (op ∷ [])) → (o i : ℕ) (v : Place) → name_op (slice_get (join_ops j n (map tw (op ∷ []))) o) i ≡ Some v → JoinedAt b (base + skip + o) i v
    from_last skip (Branch t xs x []) z e p q o i v h = by_test (j x.target) refl h
      where
        by_test : (r : Bool) → j x.target ≡ r → name_op (slice_get (if r then n x.target else tw (Branch t xs x []) ∷ []) o) i ≡ Some v → JoinedAt b (base + skip + o) i v
        by_test true w g =
            let jo = (p x.target w (inl refl)).0 in
            next x.target jo (q.0 w) (base + skip) (behind c x.target base (base + skip) ins jo (omega (arith, z))) o i v g
        by_test false w g = absurd (no_name o i (tw (Branch t xs x [])) v refl g)
    from_last skip (Branch t xs x (y ∷ ys)) z e p q o i v h = absurd (no_name o i (tw (Branch t xs x (y ∷ ys))) v refl h)
    from_last skip (Return xs) z e p q o i v h = absurd (no_name o i (tw (Return xs)) v refl h)
    from_last skip (Const r m) z e p q o i v h = absurd (cc e)
    from_last skip (Calc a w r x y) z e p q o i v h = absurd (cc e)
    from_last skip (Emit x) z e p q o i v h = absurd (cc e)
    from_last skip (Call rs g xs) z e p q o i v h = absurd (cc e)

    from_join : (skip : ℕ) (ops : List (Op Place)) → ((x : ℕ) → slice_get (left_in f c 0) (skip + x) ≡ slice_get ops x) → skip + length ops ≡ length (left_in f c 0) → EndsWell ops → ToNext f rules j taken s fol lives k long c ops → JoinsTo j N (map tw ops) → (o i : ℕ) (v : Place) → name_op (slice_get (join_ops j n (map tw ops)) o) i ≡ Some v → JoinedAt b (base + skip + o) i v
    from_join skip [] at z e p q o i v h = absurd e
    from_join skip (op ∷ []) at z e p q o i v h = from_last skip op (omega (arith, z)) e p q o i v h
    from_join skip (op ∷ op' ∷ ops) at z e p q o i v h =
        by_index o (sym (ap (λ l. name_op (slice_get l o) i) (pass_on f rules j taken s fol lives k long n op (map tw (op' ∷ ops)) e.0)) ∙ h)
        (from_join (suc skip) (op' ∷ ops) (λ x. let y : suc skip + x ≡ skip + suc x = omega arith in ap (slice_get (left_in f c 0)) y ∙ at (suc x)) (omega (arith, z)) e.1 (next_tail f rules j taken s fol lives k long c op (op' ∷ ops) p) (joins_tail N op (map tw (op' ∷ ops)) e.0 q))
      where
        by_index : (o : ℕ) → name_op (slice_get (tw op ∷ join_ops j n (map tw (op' ∷ ops))) o) i ≡ Some v → ((o i : ℕ) (v : Place) → name_op (slice_get (join_ops j n (map tw (op' ∷ ops))) o) i ≡ Some v → JoinedAt b (base + suc skip + o) i v) → JoinedAt b (base + skip + o) i v
        by_index zero g ih =
            let y : skip + 0 ≡ skip = omega arith in
            record { c = c; n = base; at = skip; inside = ins; named = ap (λ u. name_op u i) (ap (slice_get (left_in f c 0)) (sym y) ∙ at 0) ∙ ap (λ l. slice_get l i) (sym (defs_tw f rules j taken s fol lives k long op)) ∙ g; is = omega arith }
        by_index (suc o') g ih =
            let r = ih o' i v g in
            record { c = r.c; n = r.n; at = r.at; inside = r.inside; named = r.named; is = omega (arith, r.is) }

  from_joined : (m b c base : ℕ) → Inside b c base → c < size f → Chains j f2 m (map tw (left_in f c 0)) → (o i : ℕ) (v : Place) → name_op (slice_get (joined j f2 m (map tw (left_in f c 0))) o) i ≡ Some v → JoinedAt b (base + o) i v
  from_joined zero b c base ins l q o i v h =
      let y : base + 0 + o ≡ base + o = omega arith in
      subst (λ x. JoinedAt b x i v) y
      (from_join b (λ t. ⊥) (λ t. []) c base ins (λ t jo nt w ins' o' i' v' g. absurd nt) 0 (left_in f c 0) (λ x. let z : 0 + x ≡ x = omega arith in ap (slice_get (left_in f c 0)) z) (omega arith) (rules.terminated c l) (to_next f rules j taken s fol lives k long c) q o i v h)
  from_joined (suc m) b c base ins l q o i v h =
      let y : base + 0 + o ≡ base + o = omega arith in
      subst (λ x. JoinedAt b x i v) y
      (from_join b (λ t. (arguments_in f2 t ≡ []) × Chains j f2 m (left_in f2 t 0)) (λ t. joined j f2 m (left_in f2 t 0)) c base ins
      (λ t jo nt w ins' o' i' v' g. from_joined m b t w ins' (joinable_range c t jo) (subst (Chains j f2 m) (two t) nt.1) o' i' v' (sym (ap (λ x. name_op (slice_get (joined j f2 m x) o') i') (two t)) ∙ g))
      0 (left_in f c 0) (λ x. let z : 0 + x ≡ x = omega arith in ap (slice_get (left_in f c 0)) z) (omega arith) (rules.terminated c l) (to_next f rules j taken s fol lives k long c) q o i v h)

  res_at : (b o i : ℕ) (v : Place) → not (j b) ≡ true → name_at f3 (Res b o i) ≡ Some v → JoinedAt b o i v
  res_at b o i v e h =
      let jb = not_free f rules j taken s fol lives k long (j b) e in
      let g = res_name f3 b o i v h in
      let l : b < size f = subst (λ n. b < n) three_is (has_block f3 b (some_op (left_in f3 b 0) o i v g)) in
      let y : 0 + o ≡ o = omega arith in
      subst (λ x. JoinedAt b x i v) y
      (from_joined k b b 0 (itself b 0 refl jb refl) l (subst (Chains j f2 k) (two b) (chains_free f rules j taken s fol lives k long b jb)) o i v
      (sym (ap (λ x. name_op (slice_get x o) i) (left_three f rules j taken s fol lives k long b)) ∙ g))
    where
      some_op : (ops : List (Op Place)) (o i : ℕ) (v : Place) → name_op (slice_get ops o) i ≡ Some v → 0 < length ops
      some_op [] o i v h = absurd (cc h)
      some_op (op ∷ ops) o i v h = omega arith

  arg_home : (b i : ℕ) (v : Place) → not (j b) ≡ true → name_at f3 (Arg b i) ≡ Some v → v ≡ Arg b i
  arg_home b i v e h =
      let jb = not_free f rules j taken s fol lives k long (j b) e in
      let t = join_takes j k f2 b ∙ same_takes f rules j taken s fol lives k long b jb in
      rules_home f rules (Arg b i) v (name_arg same_place place_law f b i v (ap (λ l. slice_get l i) (sym t) ∙ arg_name f3 b i v h))

  res_home : (b o i : ℕ) (v : Place) (r : JoinedAt b o i v) → v ≡ Res r.c r.at i
  res_home b o i v r = rules_home f rules (Res r.c r.at i) v (name_res same_place place_law f r.c r.at i v r.named)

  same_res : (b o i b' o' i' : ℕ) (v : Place) → JoinedAt b o i v → JoinedAt b' o' i' v → Res b o i ≡ Res b' o' i'
  same_res b o i b' o' i' v r r' =
      let q : Res r.c r.at i ≡ Res r'.c r'.at i' = sym (res_home b o i v r) ∙ res_home b' o' i' v r' in
      let qc : r.c ≡ r'.c = cc q in
      let qa : r.at ≡ r'.at = cc q in
      let qi : i ≡ i' = cc q in
      let u = inside_one b b' r.c r.n r'.n r.inside (subst (λ x. Inside b' x r'.n) (sym qc) r'.inside) in
      let qo : o ≡ o' = omega (arith, r.is, r'.is, qa, u.1) in
      ap (λ x. Res x o i) u.0 ∙ ap (λ x. Res b' x i) qo ∙ ap (Res b' o') qi

  -- each name of the blocks that are left has one place
  pub three_distinct : DistinctOn (λ b. not (j b)) f3
  three_distinct v (Arg b i) (Arg b' i') ea eb ha hb = sym (arg_home b i v ea ha) ∙ arg_home b' i' v eb hb
  three_distinct v (Res b o i) (Res b' o' i') ea eb ha hb = same_res b o i b' o' i' v (res_at b o i v ea ha) (res_at b' o' i' v eb hb)
  three_distinct v (Arg b i) (Res b' o' i') ea eb ha hb =
      let r = res_at b' o' i' v eb hb in
      let q : Arg b i ≡ Res r.c r.at i' = sym (arg_home b i v ea ha) ∙ res_home b' o' i' v r in
      absurd (cc q)
  three_distinct v (Res b o i) (Arg b' i') ea eb ha hb =
      let r = res_at b o i v ea ha in
      let q : Arg b' i' ≡ Res r.c r.at i = sym (arg_home b' i' v eb hb) ∙ res_home b o i v r in
      absurd (cc q)

  pub merged_rules : Rules (place_fun same_place (keep (λ b. not (j b)) f3))
  merged_rules =
      let z = entry_free f j taken in
      let stays = λ (b : ℕ). not (j b) in
      placed_rules same_place place_law (keep stays f3) (keep_distinct_on stays f3 three_distinct)
      (keep_shaped stays f3 (ap not z) (λ b e. drop_stays f rules j taken s fol lives k long b e)
      (record {
        terminated = three_ends;
        sees = λ b e. sees_three f rules j taken s fol lives k long z b e;
        fits = three_fits;
      }))
