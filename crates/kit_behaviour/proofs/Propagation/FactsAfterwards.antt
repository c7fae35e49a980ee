-- The most precise facts of what the pass leaves give each old value and block the same.
use Rattle.std.proofs.Common.{◌≡◌, ◌⊎◌, ⊎_elim, inl, inr, ℕ, zero, suc, Bool, true, false, List, [], ◌∷◌, ◌++◌, Option, Some, None, refl, sym, ap, ◌∙◌, subst}
use Rattle.std.specs.Prelude.{map, if◌then◌else◌, nat_eq, ◌&&◌}
use Rattle.std.proofs.lemmas.Bool.{eqb-true, eq-eqb}
use Rattle.kit_behaviour.specs.Machine.{AllEdges, edge_at, chosen, Select, Edge, Op, Const, Calc, Emit, Call, Branch, Return, Fun, left_in, arguments_in}
use Rattle.kit_behaviour.specs.Renaming.{rename_edge, same_block}
use Rattle.kit_behaviour.specs.Facts.{Knows, Lacks, Numbers, Open, knows, knows_more, unless_lacking, branch_knows, all_forwarded, Fact, Undetermined, Known, Unknown, FactAtOrBelow, folds_to, FunctionFacts, AllUnknown, AllFactsAtOrBelow, EdgeClosedIn, BranchClosedIn, OpClosed, OpsClosed, AreClosedFacts, AreMostPreciseFacts}
use Rattle.kit_behaviour.specs.Scopes.{EdgeScoped, In, AllIn, all_defs, entry_values, at_start, OpScoped, OpsWith, BlocksWith}
use Rattle.kit_behaviour.specs.Replacement.{replace_edge, replace_op, replace}
use Rattle.kit_behaviour.specs.InsertedConstants.{OldOrNewName, Old, New, Made, put_if, put_args, old, put_ops, put_in, constant_of, use_of, AllUnmade, OpsUnmade, MayPut}
use Rattle.kit_behaviour.proofs.Lattice.FactLemmas.{at_refl, at_trans, at_both, true_both, fold_mono}
use Rattle.kit_behaviour.proofs.Lattice.ReplacementBehaviour.{replace_left, replace_takes}
use Rattle.kit_behaviour.proofs.Propagation.InsertionLemmas.{put_left, put_takes, of_name, name_facts, put_closed}
use Rattle.kit_behaviour.proofs.Lattice.Soundness.{gives_in}
use Rattle.kit_behaviour.proofs.Propagation.ScopeLemmas.{in_split}
use Rattle.kit_behaviour.proofs.Behaviour.EdgeLemmas.{taken_map, edges_map, edges_each, edges_two, edges_back, gives_renamed, gives_replaced}

abbrev join : Fact → Fact → Fact
join Unknown y = y
join Undetermined y = Undetermined
join (Known n) Unknown = Known n
join (Known n) Undetermined = Undetermined
join (Known n) (Known m) = if nat_eq n m then Known n else Undetermined

at_top : (z : Fact) → FactAtOrBelow z Undetermined
at_top Undetermined = tt
at_top (Known n) = tt
at_top Unknown = tt

join_left : (x y : Fact) → FactAtOrBelow x (join x y)
join_left Unknown y = tt
join_left Undetermined y = tt
join_left (Known n) Unknown = refl
join_left (Known n) Undetermined = tt
join_left (Known n) (Known m) = by_test (nat_eq n m)
  where
    by_test : (b : Bool) → FactAtOrBelow (Known n) (if b then Known n else Undetermined)
    by_test true = refl
    by_test false = tt

join_right : (x y : Fact) → FactAtOrBelow y (join x y)
join_right Unknown y = at_refl y
join_right Undetermined y = at_top y
join_right (Known n) Unknown = tt
join_right (Known n) Undetermined = tt
join_right (Known n) (Known m) = by_test (nat_eq n m) refl
  where
    by_test : (b : Bool) → nat_eq n m ≡ b → FactAtOrBelow (Known m) (if nat_eq n m then Known n else Undetermined)
    by_test true e = subst (λ b. FactAtOrBelow (Known m) (if b then Known n else Undetermined)) (sym e) (sym (eqb-true n m e))
    by_test false e = subst (λ b. FactAtOrBelow (Known m) (if b then Known n else Undetermined)) (sym e) tt

join_least : (x y z : Fact) → FactAtOrBelow x z → FactAtOrBelow y z → FactAtOrBelow (join x y) z
join_least Unknown y z a b = b
join_least Undetermined y z a b = a
join_least (Known n) Unknown z a b = a
join_least (Known n) Undetermined z a b = b
join_least (Known n) (Known m) Undetermined a b = at_top (if nat_eq n m then Known n else Undetermined)
join_least (Known n) (Known m) (Known k) a b =
    subst (λ t. FactAtOrBelow (if t then Known n else Undetermined) (Known k)) (sym (eq-eqb n m (a ∙ sym b))) a
join_least (Known n) (Known m) Unknown a b = absurd a

pub and_true : (a b : Bool) → a ≡ true → b ≡ true → a && b ≡ true
and_true a b e f = ap (λ x. x && b) e ∙ f

pub and_first : (a b : Bool) → a && b ≡ true → a ≡ true
and_first true b e = refl
and_first false b e = absurd (cc e)

pub and_second : (a b : Bool) → a && b ≡ true → b ≡ true
and_second true b e = e
and_second false b e = absurd (cc e)

-- a branch of which less is asked
-- less is known together of values of which less is known
abbrev pub KnowsBelow : Knows → Knows → Type 0
KnowsBelow Open q = Unit {0}
KnowsBelow Lacks Lacks = Unit {0}
KnowsBelow Lacks (Numbers ns) = ⊥
KnowsBelow Lacks Open = ⊥
KnowsBelow (Numbers ms) Lacks = Unit {0}
KnowsBelow (Numbers ms) (Numbers ns) = ms ≡ ns
KnowsBelow (Numbers ms) Open = ⊥

below_lacks : (q : Knows) → KnowsBelow q Lacks
below_lacks Lacks = tt
below_lacks (Numbers ns) = tt
below_lacks Open = tt

pub more_below : (t u : Fact) (q r : Knows) → FactAtOrBelow t u → KnowsBelow q r → KnowsBelow (knows_more t q) (knows_more u r)
more_below t Undetermined q r h g = below_lacks (knows_more t q)
more_below Undetermined (Known n) q r h g = absurd h
more_below Undetermined Unknown q r h g = absurd h
more_below t (Known n) q Lacks h g = below_lacks (knows_more t q)
more_below (Known m) (Known n) Lacks (Numbers ns) h g = absurd g
more_below (Known m) (Known n) (Numbers ms) (Numbers ns) h g = ap (λ z. z ∷ ms) h ∙ ap (λ l. n ∷ l) g
more_below (Known m) (Known n) Open (Numbers ns) h g = tt
more_below (Known m) (Known n) Lacks Open h g = absurd g
more_below (Known m) (Known n) (Numbers ms) Open h g = absurd g
more_below (Known m) (Known n) Open Open h g = tt
more_below Unknown (Known n) Lacks (Numbers ns) h g = absurd g
more_below Unknown (Known n) (Numbers ms) (Numbers ns) h g = tt
more_below Unknown (Known n) Open (Numbers ns) h g = tt
more_below Unknown (Known n) Lacks Open h g = absurd g
more_below Unknown (Known n) (Numbers ms) Open h g = absurd g
more_below Unknown (Known n) Open Open h g = tt
more_below t Unknown q Lacks h g = below_lacks (knows_more t q)
more_below (Known m) Unknown q (Numbers ns) h g = absurd h
more_below (Known m) Unknown q Open h g = absurd h
more_below Unknown Unknown Lacks (Numbers ns) h g = absurd g
more_below Unknown Unknown (Numbers ms) (Numbers ns) h g = tt
more_below Unknown Unknown Open (Numbers ns) h g = tt
more_below Unknown Unknown Lacks Open h g = absurd g
more_below Unknown Unknown (Numbers ms) Open h g = absurd g
more_below Unknown Unknown Open Open h g = tt

pub unless_below : (q q' t t' : Knows) → KnowsBelow q q' → KnowsBelow t t' → KnowsBelow (unless_lacking q t) (unless_lacking q' t')
unless_below q Lacks t t' h g = below_lacks (unless_lacking q t)
unless_below Lacks (Numbers ns) t t' h g = absurd h
unless_below (Numbers ms) (Numbers ns) t t' h g = g
unless_below Open (Numbers ns) t t' h g = g
unless_below Lacks Open t t' h g = absurd h
unless_below (Numbers ms) Open t t' h g = absurd h
unless_below Open Open t t' h g = g

-- a branch of which less is asked
pub fork_raise : {V : Type 0} (f : Option (Fun V)) (k : FunctionFacts V) (s : Select) (t u : Knows) (e : Edge V) (es : List (Edge V)) → KnowsBelow t u → BranchClosedIn f k s t e es → BranchClosedIn f k s u e es
fork_raise f k s t Lacks e es h c = tt
fork_raise f k s (Numbers ms) (Numbers ns) e es h c = subst (λ z. BranchClosedIn f k s (Numbers z) e es) h c
fork_raise f k s Lacks (Numbers ns) e es h c = absurd h
fork_raise f k s Open (Numbers ns) e es h c = edges_each (EdgeClosedIn f k) (λ x. x.target ≡ (edge_at e es (chosen s ns)).target → EdgeClosedIn f k x) (λ x g q. g) (e ∷ es) c
fork_raise f k s Open Open e es h c = c
fork_raise f k s Lacks Open e es h c = absurd h
fork_raise f k s (Numbers ms) Open e es h c = absurd h

module _ {V : Type 0} (m : Made V) (k : FunctionFacts V) (f : Option (Fun V)) (may : MayPut m k f) (scoped : BlocksWith f (OpScoped f)) (l : FunctionFacts (OldOrNewName V)) where
  abbrev after : Option (Fun (OldOrNewName V))
  after = replace (use_of m) (put_in m f)

  abbrev use_op : Op (OldOrNewName V) → Op (OldOrNewName V)
  use_op = replace_op (use_of m)

  abbrev both : FunctionFacts V
  both = record { runs = λ b. l.runs b && k.runs b; of = λ v. join (l.of (Old v)) (k.of v) }

  -- the constants of these values are what they are
  abbrev Told : List V → Type 0
  Told a = (x : V) → In x a → (n : ℕ) → m x ≡ Some n → FactAtOrBelow (l.of (New x)) (Known n)

  takes_after : (b : ℕ) → arguments_in after b ≡ map Old (arguments_in f b)
  takes_after b = replace_takes (use_of m) (put_in m f) b ∙ put_takes m f b

  left_after : (b : ℕ) → left_in after b 0 ≡ map use_op (put_args m (arguments_in f b) (put_ops m (left_in f b 0)))
  left_after b = replace_left (use_of m) (put_in m f) b 0 ∙ ap (map use_op) (put_left m f b)

  use_below : (a : List V) (x : V) → Told a → In x a → FactAtOrBelow (l.of (use_of m (Old x))) (both.of x)
  use_below a x told i = by_made (m x) refl
    where
      by_made : (o : Option ℕ) → m x ≡ o → FactAtOrBelow (l.of (constant_of o x)) (join (l.of (Old x)) (k.of x))
      by_made None e = join_left (l.of (Old x)) (k.of x)
      by_made (Some n) e =
          at_trans (l.of (New x)) (Known n) (join (l.of (Old x)) (k.of x)) (told x i n e)
          (subst (λ t. FactAtOrBelow t (join (l.of (Old x)) (k.of x))) (may.known x n e) (join_right (l.of (Old x)) (k.of x)))

  unknown_both : (vs : List V) → AllUnknown l (map Old vs) → AllUnknown k vs → AllUnknown both vs
  unknown_both [] a b = tt
  unknown_both (v ∷ vs) a b = (ap (λ t. join t (k.of v)) a.0 ∙ b.0, unknown_both vs a.1 b.1)

  below_both : (a ts gs : List V) → Told a → AllIn gs a → AllFactsAtOrBelow l (map Old ts) (map (use_of m) (map Old gs)) → AllFactsAtOrBelow k ts gs → AllFactsAtOrBelow both ts gs
  below_both a [] gs told i x y = tt
  below_both a (t ∷ ts) [] told i x y = tt
  below_both a (t ∷ ts) (g ∷ gs) told i x y = (
    join_least (l.of (Old t)) (k.of t) (both.of g)
        (at_trans (l.of (Old t)) (l.of (use_of m (Old g))) (both.of g) x.0 (use_below a g told i.0))
        (at_trans (k.of t) (k.of g) (both.of g) y.0 (join_right (l.of (Old g)) (k.of g))),
    below_both a ts gs told i.1 x.1 y.1,
  )

  abbrev new_edge : Edge V → Edge (OldOrNewName V)
  new_edge e = replace_edge (use_of m) (rename_edge Old same_block e)

  edge_both : (a : List V) (e : Edge V) → Told a → AllIn e.forwards a → EdgeClosedIn after l (new_edge e) → EdgeClosedIn f k e → EdgeClosedIn f both e
  edge_both a e told i x y =
      (and_true (l.runs e.target) (k.runs e.target) x.0 y.0, below_both a (arguments_in f e.target) e.forwards told i (subst (λ ts. AllFactsAtOrBelow l ts (map (use_of m) (map Old e.forwards))) (takes_after e.target) x.1) y.1)

  fork_both : (a : List V) (s : Select) (u : Knows) (e : Edge V) (es : List (Edge V)) → Told a → AllEdges (EdgeScoped f a) (e ∷ es) → BranchClosedIn after l s u (new_edge e) (map new_edge es) → BranchClosedIn f k s u e es → BranchClosedIn f both s u e es
  fork_both a s Lacks e es told i x y = tt
  fork_both a s Open e es told i x y =
      edges_two (λ z. EdgeScoped f a z × EdgeClosedIn after l (new_edge z)) (EdgeClosedIn f k) (EdgeClosedIn f both) (λ z g h. edge_both a z told g.0.0 g.1 h) (e ∷ es)
      (edges_two (EdgeScoped f a) (λ z. EdgeClosedIn after l (new_edge z)) (λ z. EdgeScoped f a z × EdgeClosedIn after l (new_edge z)) (λ z g h. (g, h)) (e ∷ es) i (edges_back (EdgeClosedIn after l) new_edge (e ∷ es) x)) y
  fork_both a s (Numbers ns) e es told i x y =
      let t = ap (λ (w : Edge (OldOrNewName V)). w.target) (taken_map new_edge e es (chosen s ns)) in
      let N = λ (w : Edge (OldOrNewName V)). w.target ≡ (edge_at (new_edge e) (map new_edge es) (chosen s ns)).target → EdgeClosedIn after l w in
      let K = λ (z : Edge V). z.target ≡ (edge_at e es (chosen s ns)).target → EdgeClosedIn f k z in
      let B = λ (z : Edge V). z.target ≡ (edge_at e es (chosen s ns)).target → EdgeClosedIn f both z in
      edges_two (λ z. EdgeScoped f a z × N (new_edge z)) K B (λ z g h q. edge_both a z told g.0.0 (g.1 (q ∙ sym t)) (h q)) (e ∷ es)
      (edges_two (EdgeScoped f a) (λ z. N (new_edge z)) (λ z. EdgeScoped f a z × N (new_edge z)) (λ z g h. (g, h)) (e ∷ es) i (edges_back N new_edge (e ∷ es) x)) y

  knows_new : (a xs : List V) → Told a → AllIn xs a → KnowsBelow (knows (map l.of (map (use_of m) (map Old xs)))) (knows (map both.of xs))
  knows_new a [] told i = refl
  knows_new a (x ∷ xs) told i = more_below (l.of (use_of m (Old x))) (both.of x) _ (knows (map both.of xs)) (use_below a x told i.0) (knows_new a xs told i.1)

  knows_old : (xs : List V) → KnowsBelow (knows (map k.of xs)) (knows (map both.of xs))
  knows_old [] = refl
  knows_old (x ∷ xs) = more_below (k.of x) (both.of x) (knows (map k.of xs)) (knows (map both.of xs)) (join_right (l.of (Old x)) (k.of x)) (knows_old xs)

  edges_new : (es : List (Edge V)) → map (replace_edge (use_of m)) (map (rename_edge Old same_block) es) ≡ map new_edge es
  edges_new [] = refl
  edges_new (e ∷ es) = ap (λ z. new_edge e ∷ z) (edges_new es)

  abbrev new_old : List (Edge V) → List (Edge (OldOrNewName V))
  new_old es = map (replace_edge (use_of m)) (map (rename_edge Old same_block) es)

  gives_new : (es : List (Edge V)) → all_forwarded (new_old es) ≡ map (use_of m) (map Old (all_forwarded es))
  gives_new es = gives_replaced (use_of m) (map (rename_edge Old same_block) es) ∙ ap (map (use_of m)) (gives_renamed Old same_block es)

  branch_new : (a xs : List V) (es : List (Edge V)) → Told a → AllIn xs a → AllIn (all_forwarded es) a → KnowsBelow (branch_knows l (map (use_of m) (map Old xs)) (new_old es)) (branch_knows both xs es)
  branch_new a xs es told i g =
      unless_below (knows (map l.of (all_forwarded (new_old es)))) (knows (map both.of (all_forwarded es))) (knows (map l.of (map (use_of m) (map Old xs)))) (knows (map both.of xs))
      (subst (λ ys. KnowsBelow (knows (map l.of ys)) (knows (map both.of (all_forwarded es)))) (sym (gives_new es)) (knows_new a (all_forwarded es) told g))
      (knows_new a xs told i)

  branch_old : (xs : List V) (es : List (Edge V)) → KnowsBelow (branch_knows k xs es) (branch_knows both xs es)
  branch_old xs es = unless_below (knows (map k.of (all_forwarded es))) (knows (map both.of (all_forwarded es))) (knows (map k.of xs)) (knows (map both.of xs)) (knows_old (all_forwarded es)) (knows_old xs)

  op_both : (a : List V) (op : Op V) → Told a → OpScoped f a op → OpClosed after l (use_op (old op)) → OpClosed f k op → OpClosed f both op
  op_both a (Const r n) told s x y = join_least (l.of (Old r)) (k.of r) (Known n) x y
  op_both a (Calc o w r p q) told s x y =
      join_least (l.of (Old r)) (k.of r) (folds_to o w (both.of p) (both.of q))
      (at_trans (l.of (Old r)) (folds_to o w (l.of (use_of m (Old p))) (l.of (use_of m (Old q)))) (folds_to o w (both.of p) (both.of q)) x (fold_mono o w _ (both.of p) _ (both.of q) (use_below a p told s.0) (use_below a q told s.1)))
      (at_trans (k.of r) (folds_to o w (k.of p) (k.of q)) (folds_to o w (both.of p) (both.of q)) y (fold_mono o w _ (both.of p) _ (both.of q) (join_right (l.of (Old p)) (k.of p)) (join_right (l.of (Old q)) (k.of q))))
  op_both a (Emit p) told s x y = tt
  op_both a (Call rs c xs) told s x y = unknown_both rs x y
  op_both a (Branch t xs e es) told s x y =
      fork_both a t (branch_knows both xs (e ∷ es)) e es told s.1
      (subst (λ z. BranchClosedIn after l t (branch_knows both xs (e ∷ es)) (new_edge e) z) (edges_new es)
      (fork_raise after l t (branch_knows l (map (use_of m) (map Old xs)) (new_old (e ∷ es))) (branch_knows both xs (e ∷ es)) (new_edge e) (new_old es)
      (branch_new a xs (e ∷ es) told s.0 (gives_in f a (e ∷ es) s.1)) x))
      (fork_raise f k t (branch_knows k xs (e ∷ es)) (branch_knows both xs (e ∷ es)) e es (branch_old xs (e ∷ es)) y)
  op_both a (Return xs) told s x y = tt

  told_more : (a : List V) (r : V) → Told a → ((n : ℕ) → m r ≡ Some n → FactAtOrBelow (l.of (New r)) (Known n)) → Told (r ∷ a)
  told_more a r told h x i n e = ⊎_elim (λ q. subst (λ y. FactAtOrBelow (l.of (New y)) (Known n)) (sym q) (h n (ap m (sym q) ∙ e))) (λ j. told x j n e) i

  unmade_told : (r : V) → m r ≡ None → (n : ℕ) → m r ≡ Some n → FactAtOrBelow (l.of (New r)) (Known n)
  unmade_told r none n e = let bad : None ≡ Some n = sym none ∙ e in absurd (cc bad)

  told_results : (a rs : List V) → Told a → AllUnmade m rs → Told (rs ++ a)
  told_results a [] told u = told
  told_results a (r ∷ rs) told u = told_more (rs ++ a) r (told_results a rs told u.1) (unmade_told r u.0)

  -- what was put in, and the rest
  peel_put : (o : Option ℕ) (v : V) (rest : List (Op (OldOrNewName V))) → OpsClosed after l (map use_op (put_if o v rest)) → OpsClosed after l (map use_op rest) × ((n : ℕ) → o ≡ Some n → FactAtOrBelow (l.of (New v)) (Known n))
  peel_put None v rest c = (c, λ n e. absurd (cc e))
  peel_put (Some j) v rest c = (c.1, λ n e. let q : j ≡ n = cc e in subst (λ z. FactAtOrBelow (l.of (New v)) (Known z)) q c.0)

  peel_args : (vs : List V) (rest : List (Op (OldOrNewName V))) → OpsClosed after l (map use_op (put_args m vs rest)) → OpsClosed after l (map use_op rest) × Told vs
  peel_args [] rest c = (c, λ x i n e. absurd i)
  peel_args (v ∷ vs) rest c =
      let a = peel_args vs (put_if (m v) v rest) c in
      let b = peel_put (m v) v rest a.0 in
      (b.0, told_more vs v a.1 b.1)

  ops_both : (a : List V) (ops : List (Op V)) → Told a → OpsWith (OpScoped f) a ops → OpsUnmade m ops → OpsClosed after l (map use_op (put_ops m ops)) → OpsClosed f k ops → OpsClosed f both ops × ((x : V) → In x (all_defs ops) → (n : ℕ) → m x ≡ Some n → FactAtOrBelow (l.of (New x)) (Known n))
  ops_both a [] told s u x y = (tt, λ z i n e. absurd i)
  ops_both a (Const r j ∷ ops) told s u x y =
      let h = unmade_told r u.0 in
      let rest = ops_both (r ∷ a) ops (told_more a r told h) s.1 u.1 x.1 y.1 in
      ((op_both a (Const r j) told s.0 x.0 y.0, rest.0), λ z i n e. ⊎_elim (λ q. subst (λ w. FactAtOrBelow (l.of (New w)) (Known n)) (sym q) (h n (ap m (sym q) ∙ e))) (λ t. rest.1 z t n e) i)
  ops_both a (Calc o w r p q ∷ ops) told s u x y =
      let b = peel_put (m r) r (old (Calc o w r p q) ∷ put_ops m ops) x in
      let rest = ops_both (r ∷ a) ops (told_more a r told b.1) s.1 u b.0.1 y.1 in
      ((op_both a (Calc o w r p q) told s.0 b.0.0 y.0, rest.0), λ z i n e. ⊎_elim (λ q. subst (λ w. FactAtOrBelow (l.of (New w)) (Known n)) (sym q) (b.1 n (ap m (sym q) ∙ e))) (λ t. rest.1 z t n e) i)
  ops_both a (Emit p ∷ ops) told s u x y = let rest = ops_both a ops told s.1 u x.1 y.1 in ((tt, rest.0), rest.1)
  ops_both a (Call rs c xs ∷ ops) told s u x y =
      let rest = ops_both (rs ++ a) ops (told_results a rs told u.0) s.1 u.1 x.1 y.1 in
      ((op_both a (Call rs c xs) told s.0 x.0 y.0, rest.0), λ z i n e. ⊎_elim (λ t. told_results [] rs (λ v j. absurd j) u.0 z (in_front z rs t) n e) (λ t. rest.1 z t n e) (in_split z rs (all_defs ops) i))
    where
      in_front : (z : V) (ws : List V) → In z ws → In z (ws ++ [])
      in_front z [] i = i
      in_front z (w ∷ ws) i = ⊎_elim (λ q. inl q) (λ t. inr (in_front z ws t)) i
  ops_both a (Branch t xs e es ∷ ops) told s u x y = let rest = ops_both a ops told s.1 u x.1 y.1 in ((op_both a (Branch t xs e es) told s.0 x.0 y.0, rest.0), rest.1)
  ops_both a (Return xs ∷ ops) told s u x y = let rest = ops_both a ops told s.1 u x.1 y.1 in ((tt, rest.0), rest.1)

  module _ (closed_l : AreClosedFacts after l) (best : AreMostPreciseFacts f k) where
    closed_left : (b : ℕ) → l.runs b ≡ true → OpsClosed after l (map use_op (put_args m (arguments_in f b) (put_ops m (left_in f b 0))))
    closed_left b r = subst (OpsClosed after l) (left_after b) (closed_l.ops b r)

    told_takes : (b : ℕ) → l.runs b ≡ true → Told (arguments_in f b)
    told_takes b r = (peel_args (arguments_in f b) (put_ops m (left_in f b 0)) (closed_left b r)).1

    told_entry : Told (entry_values f)
    told_entry x i n e =
        let c = closed_left 0 closed_l.entry_runs in
        let t = peel_args (arguments_in f 0) (put_ops m (left_in f 0 0)) c in
        let o = ops_both (arguments_in f 0) (left_in f 0 0) t.1 (scoped 0) (may.others 0) t.0 (best.closed.ops 0 best.closed.entry_runs) in
        ⊎_elim (λ w. t.1 x w n e) (λ w. o.1 x w n e) (in_split x (arguments_in f 0) (all_defs (left_in f 0 0)) i)

    told_start : (b : ℕ) → l.runs b ≡ true → Told (at_start f b)
    told_start zero r x i n e = told_takes 0 r x i n e
    told_start (suc b) r x i n e = ⊎_elim (λ w. told_takes (suc b) r x w n e) (λ w. told_entry x w n e) (in_split x (arguments_in f (suc b)) (entry_values f) i)

    both_closed : AreClosedFacts f both
    both_closed =
        record {
          entry_runs = and_true (l.runs 0) (k.runs 0) closed_l.entry_runs best.closed.entry_runs;
          entry_unknown = unknown_both (arguments_in f 0) (subst (AllUnknown l) (takes_after 0) closed_l.entry_unknown) best.closed.entry_unknown;
          ops = λ b r.
              let rl = and_first (l.runs b) (k.runs b) r in
              let rk = and_second (l.runs b) (k.runs b) r in
              (ops_both (at_start f b) (left_in f b 0) (told_start b rl) (scoped b) (may.others b) (peel_args (arguments_in f b) (put_ops m (left_in f b 0)) (closed_left b rl)).0 (best.closed.ops b rk)).0;
        }

    -- the constants of a block that runs are what they are
    pub told_block : (b : ℕ) → l.runs b ≡ true → k.runs b ≡ true → (x : V) → In x (arguments_in f b) ⊎ In x (all_defs (left_in f b 0)) → (n : ℕ) → m x ≡ Some n → FactAtOrBelow (l.of (New x)) (Known n)
    told_block b rl rk x i n e =
        let t = peel_args (arguments_in f b) (put_ops m (left_in f b 0)) (closed_left b rl) in
        let o = ops_both (at_start f b) (left_in f b 0) (told_start b rl) (scoped b) (may.others b) t.0 (best.closed.ops b rk) in
        ⊎_elim (λ w. t.1 x w n e) (λ w. o.1 x w n e) i

    -- whatever is closed after the pass says no more than what was most precise before it
    pub no_more : (v : V) → FactAtOrBelow (l.of (Old v)) (k.of v)
    no_more v = at_trans (l.of (Old v)) (both.of v) (k.of v) (join_left (l.of (Old v)) (k.of v)) ((best.best both both_closed).above v)

    pub no_fewer : (b : ℕ) → k.runs b ≡ true → l.runs b ≡ true
    no_fewer b r = and_first (l.runs b) (k.runs b) ((best.best both both_closed).fewer b r)

-- the old facts, said of the names, are closed after the pass

module _ {V : Type 0} (s : V → V) (g : Option (Fun V)) (k : FunctionFacts V) (alike : (x : V) → k.of (s x) ≡ k.of x) where
  below_replaced : (ts gs : List V) → AllFactsAtOrBelow k ts gs → AllFactsAtOrBelow k ts (map s gs)
  below_replaced [] gs h = tt
  below_replaced (t ∷ ts) [] h = tt
  below_replaced (t ∷ ts) (y ∷ gs) h = (subst (FactAtOrBelow (k.of t)) (sym (alike y)) h.0, below_replaced ts gs h.1)

  edge_closed : (e : Edge V) → EdgeClosedIn g k e → EdgeClosedIn (replace s g) k (replace_edge s e)
  edge_closed e h = (h.0, subst (λ ts. AllFactsAtOrBelow k ts (map s e.forwards)) (sym (replace_takes s g e.target)) (below_replaced (arguments_in g e.target) e.forwards h.1))

  fork_closed : (t : Select) (q : Knows) (e : Edge V) (es : List (Edge V)) → BranchClosedIn g k t q e es → BranchClosedIn (replace s g) k t q (replace_edge s e) (map (replace_edge s) es)
  fork_closed t Lacks e es h = tt
  fork_closed t Open e es h = edges_map (EdgeClosedIn g k) (EdgeClosedIn (replace s g) k) (replace_edge s) (λ x c. edge_closed x c) (e ∷ es) h
  fork_closed t (Numbers ns) e es h =
      edges_map (λ x. x.target ≡ (edge_at e es (chosen t ns)).target → EdgeClosedIn g k x) (λ x. x.target ≡ (edge_at (replace_edge s e) (map (replace_edge s) es) (chosen t ns)).target → EdgeClosedIn (replace s g) k x) (replace_edge s)
      (λ x c q. let w = ap (λ (y : Edge V). y.target) (taken_map (replace_edge s) e es (chosen t ns)) in edge_closed x (c (q ∙ w))) (e ∷ es) h

  facts_alike : (xs : List V) → map k.of (map s xs) ≡ map k.of xs
  facts_alike [] = refl
  facts_alike (x ∷ xs) = ap (λ t. t ∷ map k.of (map s xs)) (alike x) ∙ ap (λ l. k.of x ∷ l) (facts_alike xs)

  knows_alike : (xs : List V) (es : List (Edge V)) → branch_knows k (map s xs) (map (replace_edge s) es) ≡ branch_knows k xs es
  knows_alike xs es =
      ap (λ l. unless_lacking (knows (map k.of l)) (knows (map k.of (map s xs)))) (gives_replaced s es)
      ∙ ap (λ l. unless_lacking (knows l) (knows (map k.of (map s xs)))) (facts_alike (all_forwarded es))
      ∙ ap (λ l. unless_lacking (knows (map k.of (all_forwarded es))) (knows l)) (facts_alike xs)

  op_closed : (op : Op V) → OpClosed g k op → OpClosed (replace s g) k (replace_op s op)
  op_closed (Const r n) h = h
  op_closed (Calc o w r x y) h =
      subst (λ t. FactAtOrBelow (k.of r) (folds_to o w t (k.of (s y)))) (sym (alike x)) (subst (λ t. FactAtOrBelow (k.of r) (folds_to o w (k.of x) t)) (sym (alike y)) h)
  op_closed (Emit x) h = tt
  op_closed (Call rs c xs) h = h
  op_closed (Branch t xs e es) h = subst (λ q. BranchClosedIn (replace s g) k t q (replace_edge s e) (map (replace_edge s) es)) (sym (knows_alike xs (e ∷ es))) (fork_closed t (branch_knows k xs (e ∷ es)) e es h)
  op_closed (Return xs) h = tt

  ops_closed : (ops : List (Op V)) → OpsClosed g k ops → OpsClosed (replace s g) k (map (replace_op s) ops)
  ops_closed [] h = tt
  ops_closed (op ∷ ops) h = (op_closed op h.0, ops_closed ops h.1)

  facts_replaced : AreClosedFacts g k → AreClosedFacts (replace s g) k
  facts_replaced c =
      record {
        entry_runs = c.entry_runs;
        entry_unknown = subst (AllUnknown k) (sym (replace_takes s g 0)) c.entry_unknown;
        ops = λ b r. subst (OpsClosed (replace s g) k) (sym (replace_left s g b 0)) (ops_closed (left_in g b 0) (c.ops b r));
      }

use_alike : {V : Type 0} (m : Made V) (k : FunctionFacts V) (x : OldOrNewName V) → of_name k (use_of m x) ≡ of_name k x
use_alike m k (New v) = refl
use_alike m k (Old v) = by_made (m v)
  where
    by_made : (o : Option ℕ) → of_name k (constant_of o v) ≡ k.of v
    by_made None = refl
    by_made (Some n) = refl

-- the old facts, said of the names
pub names_closed : {V : Type 0} (m : Made V) (k : FunctionFacts V) (f : Option (Fun V)) → MayPut m k f → AreClosedFacts f k → AreClosedFacts (replace (use_of m) (put_in m f)) (name_facts k)
names_closed m k f may closed = facts_replaced (use_of m) (put_in m f) (name_facts k) (use_alike m k) (put_closed m k f may closed)

-- so the most precise facts after the pass are the old ones, of each old value and block
pub kept_values : {V : Type 0} (m : Made V) (k : FunctionFacts V) (f : Option (Fun V)) → MayPut m k f → BlocksWith f (OpScoped f) → AreMostPreciseFacts f k → (l : FunctionFacts (OldOrNewName V)) → AreMostPreciseFacts (replace (use_of m) (put_in m f)) l → (v : V) → l.of (Old v) ≡ k.of v
kept_values m k f may scoped best l best_l v =
    let c = facts_replaced (use_of m) (put_in m f) (name_facts k) (use_alike m k) (put_closed m k f may best.closed) in
    at_both (l.of (Old v)) (k.of v) (no_more m k f may scoped l best_l.closed best v) ((best_l.best (name_facts k) c).above (Old v))

pub kept_blocks : {V : Type 0} (m : Made V) (k : FunctionFacts V) (f : Option (Fun V)) → MayPut m k f → BlocksWith f (OpScoped f) → AreMostPreciseFacts f k → (l : FunctionFacts (OldOrNewName V)) → AreMostPreciseFacts (replace (use_of m) (put_in m f)) l → (b : ℕ) → l.runs b ≡ k.runs b
kept_blocks m k f may scoped best l best_l b =
    let c = facts_replaced (use_of m) (put_in m f) (name_facts k) (use_alike m k) (put_closed m k f may best.closed) in
    true_both (l.runs b) (k.runs b) ((best_l.best (name_facts k) c).fewer b) (no_fewer m k f may scoped l best_l.closed best b)
