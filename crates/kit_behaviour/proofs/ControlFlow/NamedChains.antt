-- Chains joined, whatever the names of values are: what becomes of the operations of a block, and that edges fit.
use Rattle.std.proofs.Common.{◌≡◌, inl, inr, ℕ, zero, suc, ◌+◌, ◌<◌, ◌≤◌, Bool, true, false, List, [], ◌∷◌, ◌++◌}
use Rattle.std.proofs.Common.{length, Option, Some, None, refl, sym, ap, ◌∙◌, subst, arith}
use Rattle.std.specs.Prelude.{map, if◌then◌else◌, not}
use Rattle.kit_behaviour.specs.Machine.{AllEdges, Edge, Op, Const, Calc, Emit, Call, Branch, Return, Fun, left_in}
use Rattle.kit_behaviour.specs.Machine.{arguments_in, size}
use Rattle.kit_behaviour.specs.JoinedBlocks.{join_ops, joined}
use Rattle.kit_behaviour.specs.SimplifiedNames.{DefinitionsAreApart}
use Rattle.kit_behaviour.specs.RemovedValues.{may_trap, goes, live, pick, thin_edge, thin_op, thin_ops, thin}
use Rattle.kit_behaviour.specs.Replacement.{replace_edge, replace_op, replace}
use Rattle.kit_behaviour.specs.Rules.{is_terminator, EndsWell, EdgeFits, AllEdgesFit}
use Rattle.kit_behaviour.specs.Scopes.{In, defs, all_defs, SameLength}
use Rattle.kit_behaviour.specs.SimplifiedBlocks.{edges_of, all_edges, LeadsTo, last_edge, BlocksAreJoinable, IsJoinedSet, Depth, top}
use Rattle.kit_behaviour.specs.SimplifiedBlocks.{below, join_fun, keep, IsLaterArgument, Merges}
use Rattle.kit_behaviour.proofs.Behaviour.SizeLemmas.{has_block, replace_size, thin_size}
use Rattle.kit_behaviour.proofs.DeadCode.RemovalBehaviour.{thin_left, thin_takes}
use Rattle.kit_behaviour.proofs.Lattice.ReplacementBehaviour.{replace_left, replace_takes}
use Rattle.kit_behaviour.proofs.Propagation.ScopeLemmas.{in_append}
use Rattle.kit_behaviour.proofs.ControlFlow.AllReached.{join_size}
use Rattle.kit_behaviour.proofs.ControlFlow.ChainLemmas.{last_in, in_leads, one_place, joinable_leads, entry_free}
use Rattle.kit_behaviour.proofs.ControlFlow.JoiningPremises.{join_left, join_takes, edges_append, edges_by}
use Rattle.kit_behaviour.proofs.ControlFlow.JoiningRules.{edge_fits_in}
use Rattle.kit_behaviour.proofs.ControlFlow.KeptBlocks.{keep_fits}

-- 1. lists of operations

module _ {V : Type 0} where
  -- all operations but the last
  abbrev pub front : List (Op V) → List (Op V)
  front [] = []
  front (p ∷ []) = []
  front (p ∷ q ∷ ps) = p ∷ front (q ∷ ps)

  pub no_edges : (p : Op V) → is_terminator p ≡ false → edges_of p ≡ []
  no_edges (Const r n) e = refl
  no_edges (Calc a w r x y) e = refl
  no_edges (Emit x) e = refl
  no_edges (Call rs c xs) e = refl
  no_edges (Branch s xs x es) e = absurd (cc e)
  no_edges (Return xs) e = refl

  -- only the last of them has edges
  pub front_edges : (ps : List (Op V)) → EndsWell ps → all_edges (front ps) ≡ []
  front_edges [] w = refl
  front_edges (p ∷ []) w = refl
  front_edges (p ∷ q ∷ ps) w = (λ i. no_edges p w.0 i ++ front_edges (q ∷ ps) w.1 i)

  edges_replaced : (s : V → V) (p : Op V) → edges_of (replace_op s p) ≡ map (replace_edge s) (edges_of p)
  edges_replaced s (Const r n) = refl
  edges_replaced s (Calc a w r x y) = refl
  edges_replaced s (Emit x) = refl
  edges_replaced s (Call rs c xs) = refl
  edges_replaced s (Branch t xs e es) = refl
  edges_replaced s (Return xs) = refl

  -- each edge of operations with other operands
  pub each_replaced : (P Q : Edge V → Type 0) (s : V → V) → ((e : Edge V) → P e → Q (replace_edge s e)) →
      (ps : List (Op V)) → AllEdges P (all_edges ps) → AllEdges Q (all_edges (map (replace_op s) ps))
  each_replaced P Q s to [] h = tt
  each_replaced P Q s to (p ∷ ps) h =
      edges_append Q (edges_of (replace_op s p)) (all_edges (map (replace_op s) ps))
      (subst (AllEdges Q) (sym (edges_replaced s p)) (each (edges_of p) (first_part (edges_of p) h)))
      (each_replaced P Q s to ps (second_part (edges_of p) h))
    where
      each : (es : List (Edge V)) → AllEdges P es → AllEdges Q (map (replace_edge s) es)
      each [] g = tt
      each (e ∷ es) g = (to e g.0, each es g.1)

      first_part : (es : List (Edge V)) → AllEdges P (es ++ all_edges ps) → AllEdges P es
      first_part [] g = tt
      first_part (e ∷ es) g = (g.0, first_part es g.1)

      second_part : (es : List (Edge V)) → AllEdges P (es ++ all_edges ps) → AllEdges P (all_edges ps)
      second_part [] g = g
      second_part (e ∷ es) g = second_part es g.1

  each_fits : (g : Option (Fun V)) (ps : List (Op V)) → AllEdges (EdgeFits g) (all_edges ps) → AllEdgesFit g ps
  each_fits g [] h = tt
  each_fits g (Branch s xs e es ∷ ps) h = (first_part (e ∷ es) h, each_fits g ps (second_part (e ∷ es) h))
    where
      first_part : (es : List (Edge V)) → AllEdges (EdgeFits g) (es ++ all_edges ps) → AllEdges (EdgeFits g) es
      first_part [] k = tt
      first_part (e ∷ es) k = (k.0, first_part es k.1)

      second_part : (es : List (Edge V)) → AllEdges (EdgeFits g) (es ++ all_edges ps) →
          AllEdges (EdgeFits g) (all_edges ps)
      second_part [] k = k
      second_part (e ∷ es) k = second_part es k.1
  each_fits g (Const r n ∷ ps) h = (tt, each_fits g ps h)
  each_fits g (Calc a w r x y ∷ ps) h = (tt, each_fits g ps h)
  each_fits g (Emit x ∷ ps) h = (tt, each_fits g ps h)
  each_fits g (Call rs c xs ∷ ps) h = (tt, each_fits g ps h)
  each_fits g (Return xs ∷ ps) h = (tt, each_fits g ps h)

  -- lists without values of a set that has none of them, or all
  pub live_all : (d : V → Bool) (vs : List V) → ((v : V) → In v vs → d v ≡ false) → live d vs ≡ vs
  live_all d [] h = refl
  live_all d (v ∷ vs) h = ap (λ b. if b then live d vs else v ∷ live d vs) (h v (inl refl))
      ∙ ap (λ l. v ∷ l) (live_all d vs (λ x i. h x (inr i)))

  pub live_none : (d : V → Bool) (vs : List V) → ((v : V) → In v vs → d v ≡ true) → live d vs ≡ []
  live_none d [] h = refl
  live_none d (v ∷ vs) h = ap (λ b. if b then live d vs else v ∷ live d vs) (h v (inl refl))
      ∙ live_none d vs (λ x i. h x (inr i))

  pick_all : (d : V → Bool) (ts gs : List V) → ((v : V) → In v ts → d v ≡ false) → pick d ts gs ≡ gs
  pick_all d [] gs h = refl
  pick_all d (t ∷ ts) [] h = refl
  pick_all d (t ∷ ts) (g ∷ gs) h = ap (λ b. if b then pick d ts gs else g ∷ pick d ts gs) (h t (inl refl))
      ∙ ap (λ l. g ∷ l) (pick_all d ts gs (λ x i. h x (inr i)))

  same_length_map : (s : V → V) (ts gs : List V) → SameLength ts gs → SameLength ts (map s gs)
  same_length_map s [] [] h = tt
  same_length_map s [] (g ∷ gs) h = absurd h
  same_length_map s (t ∷ ts) [] h = absurd h
  same_length_map s (t ∷ ts) (g ∷ gs) h = same_length_map s ts gs h

-- 2. the blocks of a function whose names are distinct

module _ {V : Type 0} (f : Option (Fun V)) (apart : DefinitionsAreApart f) (j : ℕ → Bool) (taken : IsJoinedSet f j) (gone : V → Bool)
    (there : (v : V) → gone v ≡ true → IsLaterArgument j f v) (back : (v : V) → IsLaterArgument j f v → gone v ≡ true)
    (s : V → V) where
  abbrev pub f1 : Option (Fun V)
  f1 = replace s f

  abbrev pub f2 : Option (Fun V)
  f2 = thin gone f1

  abbrev pub tw : Op V → Op V
  tw op = thin_op f1 gone (replace_op s op)

  not_gone : (v : V) → (IsLaterArgument j f v → ⊥) → gone v ≡ false
  not_gone v h = by_test (gone v) refl
    where
      by_test : (b : Bool) → gone v ≡ b → gone v ≡ false
      by_test false e = e
      by_test true e = absurd (h (there v e))

  two_values : (b : ℕ) → j b ≡ true → j b ≡ false → ⊥
  two_values b e q = let bad : true ≡ false = sym e ∙ q in cc bad

  pub argument_stays : (b : ℕ) → j b ≡ false → (v : V) → In v (arguments_in f b) → gone v ≡ false
  argument_stays b e v i = not_gone v (λ w. two_values w.0 w.1 (ap j (apart.arguments w.0 b v w.2 i) ∙ e))

  result_stays : (b : ℕ) (v : V) → In v (all_defs (left_in f b 0)) → gone v ≡ false
  result_stays b v i = not_gone v (λ w. apart.results w.0 b v w.2 i)

  -- arguments of blocks that stay, stay
  pub same_takes : (b : ℕ) → j b ≡ false → arguments_in f2 b ≡ arguments_in f b
  same_takes b e = thin_takes gone f1 b ∙ ap (live gone) (replace_takes s f b)
      ∙ live_all gone (arguments_in f b) (argument_stays b e)

  if_none : (t b : Bool) → b ≡ false → (if t then false else b) ≡ false
  if_none true b e = refl
  if_none false b e = e

  goes_none : (op : Op V) → ((r : V) → In r (defs op) → gone r ≡ false) → goes gone (replace_op s op) ≡ false
  goes_none (Const r n) res = res r (inl refl)
  goes_none (Calc a w r x y) res = if_none (may_trap a) (gone r) (res r (inl refl))
  goes_none (Emit x) res = refl
  goes_none (Call rs c xs) res = refl
  goes_none (Branch t xs e es) res = refl
  goes_none (Return xs) res = refl

  thin_map : (ops : List (Op V)) → ((r : V) → In r (all_defs ops) → gone r ≡ false) →
      thin_ops f1 gone (map (replace_op s) ops) ≡ map tw ops
  thin_map [] res = refl
  thin_map (op ∷ ops) res =
      ap (λ t. if t then thin_ops f1 gone (map (replace_op s) ops) else tw op ∷ thin_ops f1 gone
      (map (replace_op s) ops)) (goes_none op (λ r i. res r (in_append r (defs op) (all_defs ops) (inl i))))
      ∙ ap (λ l. tw op ∷ l) (thin_map ops (λ r i. res r (in_append r (defs op) (all_defs ops) (inr i))))

  pub left_two : (b : ℕ) → left_in f2 b 0 ≡ map tw (left_in f b 0)
  left_two b = thin_left gone f1 b ∙ ap (thin_ops f1 gone) (replace_left s f b 0)
      ∙ thin_map (left_in f b 0) (result_stays b)

  -- the edge leads to a block that stays
  abbrev pub Free : Edge V → Type 0
  Free x = j x.target ≡ false

  edge_stays : (e : Edge V) → Free e → thin_edge f1 gone (replace_edge s e) ≡ replace_edge s e
  edge_stays e h =
      ap (λ l. record { target = e.target; forwards = l })
      (ap (λ l. pick gone l (map s e.forwards)) (replace_takes s f e.target)
      ∙ pick_all gone (arguments_in f e.target) (map s e.forwards) (argument_stays e.target h))

  edges_stay : (es : List (Edge V)) → AllEdges Free es →
      map (thin_edge f1 gone) (map (replace_edge s) es) ≡ map (replace_edge s) es
  edges_stay [] h = refl
  edges_stay (e ∷ es) h = λ i. edge_stays e h.0 i ∷ edges_stay es h.1 i

  op_stays : (op : Op V) → AllEdges Free (edges_of op) → tw op ≡ replace_op s op
  op_stays (Const r n) h = refl
  op_stays (Calc a w r x y) h = refl
  op_stays (Emit x) h = refl
  op_stays (Call rs c xs) h = refl
  op_stays (Branch t xs e es) h = λ i. Branch t (map s xs) (edge_stays e h.0 i) (edges_stay es h.1 i)
  op_stays (Return xs) h = refl

  some_front : (P : Edge V → Type 0) (xs ys : List (Edge V)) → AllEdges P (xs ++ ys) → AllEdges P xs
  some_front P [] ys h = tt
  some_front P (x ∷ xs) ys h = (h.0, some_front P xs ys h.1)

  some_rest : (P : Edge V → Type 0) (xs ys : List (Edge V)) → AllEdges P (xs ++ ys) → AllEdges P ys
  some_rest P [] ys h = h
  some_rest P (x ∷ xs) ys h = some_rest P xs ys h.1

  -- where no edge leads to a later block nothing is joined
  pub join_same : (n : ℕ → List (Op V)) (ops : List (Op V)) → AllEdges Free (all_edges ops) →
      join_ops j n (map tw ops) ≡ map (replace_op s) ops
  join_same n [] h = refl
  join_same n (Const r m ∷ ops) h = ap (λ l. Const r m ∷ l) (join_same n ops h)
  join_same n (Calc a w r x y ∷ ops) h = ap (λ l. replace_op s (Calc a w r x y) ∷ l) (join_same n ops h)
  join_same n (Emit x ∷ ops) h = ap (λ l. replace_op s (Emit x) ∷ l) (join_same n ops h)
  join_same n (Call rs c xs ∷ ops) h = ap (λ l. replace_op s (Call rs c xs) ∷ l) (join_same n ops h)
  join_same n (Branch t xs e [] ∷ ops) h =
      ap (λ b. if b then n e.target else tw (Branch t xs e []) ∷ join_ops j n (map tw ops)) h.0
      ∙ (λ i. op_stays (Branch t xs e []) (h.0, tt) i ∷ join_same n ops h.1 i)
  join_same n (Branch t xs e (x ∷ es) ∷ ops) h =
      λ i. op_stays (Branch t xs e (x ∷ es)) (some_front Free (e ∷ x ∷ es) (all_edges ops) h) i ∷ join_same n ops
      (some_rest Free (e ∷ x ∷ es) (all_edges ops) h) i
  join_same n (Return xs ∷ ops) h = ap (λ l. replace_op s (Return xs) ∷ l) (join_same n ops h)

  -- where the last operation leads to a later block, its operations come in its place
  pub join_next : (n : ℕ → List (Op V)) (ops : List (Op V)) (e : Edge V) → EndsWell ops → last_edge ops ≡ Some e →
      j e.target ≡ true → join_ops j n (map tw ops) ≡ map (replace_op s) (front ops) ++ n e.target
  join_next n [] e w q h = absurd w
  join_next n (Branch t xs x [] ∷ []) e w q h =
      let z : x ≡ e = cc q in
      ap (λ b. if b then n x.target else tw (Branch t xs x []) ∷ []) (ap (λ (y : Edge V). j y.target) z ∙ h)
      ∙ ap (λ (y : Edge V). n y.target) z
  join_next n (Branch t xs x (y ∷ ys) ∷ []) e w q h = absurd (cc q)
  join_next n (Const r m ∷ []) e w q h = absurd (cc q)
  join_next n (Calc a c r x y ∷ []) e w q h = absurd (cc q)
  join_next n (Emit x ∷ []) e w q h = absurd (cc q)
  join_next n (Call rs c xs ∷ []) e w q h = absurd (cc q)
  join_next n (Return xs ∷ []) e w q h = absurd (cc q)
  join_next n (Const r m ∷ op ∷ ops) e w q h = ap (λ l. Const r m ∷ l) (join_next n (op ∷ ops) e w.1 q h)
  join_next n (Calc a c r x y ∷ op ∷ ops) e w q h = ap (λ l. replace_op s (Calc a c r x y) ∷ l)
      (join_next n (op ∷ ops) e w.1 q h)
  join_next n (Emit x ∷ op ∷ ops) e w q h = ap (λ l. replace_op s (Emit x) ∷ l) (join_next n (op ∷ ops) e w.1 q h)
  join_next n (Call rs c xs ∷ op ∷ ops) e w q h = ap (λ l. replace_op s (Call rs c xs) ∷ l)
      (join_next n (op ∷ ops) e w.1 q h)
  join_next n (Branch t xs x es ∷ op ∷ ops) e w q h = absurd (cc w.0)
  join_next n (Return xs ∷ op ∷ ops) e w q h = absurd (cc w.0)

  -- 3. chains

  -- no block may be joined behind b
  pub stays_free : (b : ℕ) → ((t : ℕ) → BlocksAreJoinable f b t → ⊥) → AllEdges Free (all_edges (left_in f b 0))
  stays_free b none = edges_by Free (all_edges (left_in f b 0)) (λ z i. by_test z i (j z.target) refl)
    where
      by_test : (z : Edge V) → In z (all_edges (left_in f b 0)) → (t : Bool) → j z.target ≡ t → Free z
      by_test z i false e = e
      by_test z i true e =
          let h = taken.there z.target e in
          let q = one_place z.target f h.0 b h.1.single (joinable_leads f h.0 z.target h.1)
          (in_leads z.target z (all_edges (left_in f b 0)) i refl) in
          absurd (none z.target (subst (λ x. BlocksAreJoinable f x z.target) q h.1))

  -- what comes behind b: nothing, or one block
  pub data After (b : ℕ) : Type 0 where
    nothing : ((t : ℕ) → BlocksAreJoinable f b t → ⊥) → After b
    a_block : (t : ℕ) → BlocksAreJoinable f b t → After b

  pub after : (b : ℕ) → After b
  after b = by_last (last_edge (left_in f b 0)) refl
    where
      same_target : (t : ℕ) (e : Edge V) (h : BlocksAreJoinable f b t) → last_edge (left_in f b 0) ≡ Some e → t ≡ e.target
      same_target t e h q = let w : Some h.edge ≡ Some e = sym h.last ∙ q in let z : h.edge ≡ e =
          cc w in sym h.target ∙ ap (λ (y : Edge V). y.target) z

      by_test : (e : Edge V) → last_edge (left_in f b 0) ≡ Some e → (t : Bool) → j e.target ≡ t → After b
      by_test e q false z = nothing (λ t h. let w = taken.back b t h in two_values t w (ap j (same_target t e h q) ∙ z))
      by_test e q true z =
          let h = taken.there e.target z in
          let l = last_leads e q in
          a_block e.target (subst (λ x. BlocksAreJoinable f x e.target)
          (one_place e.target f h.0 b h.1.single (joinable_leads f h.0 e.target h.1) l) h.1)
        where
          last_leads : (e : Edge V) → last_edge (left_in f b 0) ≡ Some e → LeadsTo e.target (all_edges (left_in f b 0))
          last_leads e q = in_leads e.target e (all_edges (left_in f b 0)) (last_in (left_in f b 0) e q) refl

      by_last : (o : Option (Edge V)) → last_edge (left_in f b 0) ≡ o → After b
      by_last None q = nothing (λ t h. let bad : None ≡ Some h.edge = sym q ∙ h.last in cc bad)
      by_last (Some e) q = by_test e q (j e.target) refl

  module _ (ends : (b : ℕ) → b < size f → EndsWell (left_in f b 0)) (fits : (b : ℕ) → AllEdgesFit f (left_in f b 0))
      (k : ℕ) (long : (b n : ℕ) → Depth f j b n → n ≤ k) where
    abbrev pub f3 : Option (Fun V)
    f3 = join_fun j k f2

    three_size : size f3 ≡ size f
    three_size = join_size j k f2 ∙ (thin_size gone f1 ∙ replace_size s f)

    pub three_takes : (b : ℕ) → j b ≡ false → arguments_in f3 b ≡ arguments_in f b
    three_takes b e = join_takes j k f2 b ∙ same_takes b e

    -- the edge leads to a block that stays, and fits afterwards
    abbrev Good : Edge V → Type 0
    Good x = (not (j x.target) ≡ true) × EdgeFits f3 x

    good_edge : (e : Edge V) → Free e × EdgeFits f e → Good (replace_edge s e)
    good_edge e h = (
      ap not h.0,
      record {
        count = subst (λ ts. SameLength ts (map s e.forwards)) (sym (three_takes e.target h.0))
            (same_length_map s (arguments_in f e.target) e.forwards h.1.count);
        leads = subst (λ n. e.target < n) (sym three_size) h.1.leads;
      },
    )

    fit_free : (b : ℕ) → AllEdges Free (all_edges (left_in f b 0)) →
        AllEdges (λ x. Free x × EdgeFits f x) (all_edges (left_in f b 0))
    fit_free b h = both (all_edges (left_in f b 0)) h (λ z i. edge_fits_in f z (left_in f b 0) (fits b) i)
      where
        both : (es : List (Edge V)) → AllEdges Free es → ((z : Edge V) → In z es → EdgeFits f z) →
            AllEdges (λ x. Free x × EdgeFits f x) es
        both [] g q = tt
        both (e ∷ es) g q = ((g.0, q e (inl refl)), both es g.1 (λ z i. q z (inr i)))

    front_good : (ps : List (Op V)) → EndsWell ps → AllEdges Good (all_edges (map (replace_op s) (front ps)))
    front_good ps w = each_replaced (λ x. Free x × EdgeFits f x) Good s good_edge (front ps)
        (subst (AllEdges (λ x. Free x × EdgeFits f x)) (sym (front_edges ps w)) tt)

    pub target_range : (b t : ℕ) → BlocksAreJoinable f b t → t < size f
    target_range b t h = subst (λ x. x < size f) h.target
        (edge_fits_in f h.edge (left_in f b 0) (fits b) (last_in (left_in f b 0) h.edge h.last)).leads

    edges_both : (ps qs : List (Op V)) → AllEdges Good (all_edges ps) → AllEdges Good (all_edges qs) →
        AllEdges Good (all_edges (ps ++ qs))
    edges_both [] qs h g = g
    edges_both (p ∷ ps) qs h g =
        edges_append Good (edges_of p) (all_edges (ps ++ qs)) (some_front Good (edges_of p) (all_edges ps) h)
        (edges_both ps qs (some_rest Good (edges_of p) (all_edges ps) h) g)

    -- the operations of b, and what is joined behind them
    pub chain_ends : (m b : ℕ) → ((t : ℕ) → BlocksAreJoinable f b t → ⊥) →
        joined j f2 m (left_in f2 b 0) ≡ map (replace_op s) (left_in f b 0)
    chain_ends zero b none = ap (join_ops j (λ t. [])) (left_two b)
        ∙ join_same (λ t. []) (left_in f b 0) (stays_free b none)
    chain_ends (suc m) b none = ap (join_ops j (λ t. joined j f2 m (left_in f2 t 0))) (left_two b)
        ∙ join_same (λ t. joined j f2 m (left_in f2 t 0)) (left_in f b 0) (stays_free b none)

    pub chain_goes_on : (m b t : ℕ) → b < size f → BlocksAreJoinable f b t →
        joined j f2 (suc m) (left_in f2 b 0) ≡ map (replace_op s) (front (left_in f b 0)) ++ joined j f2 m
        (left_in f2 t 0)
    chain_goes_on m b t l h =
        ap (join_ops j (λ t. joined j f2 m (left_in f2 t 0))) (left_two b)
        ∙ join_next (λ t. joined j f2 m (left_in f2 t 0)) (left_in f b 0) h.edge (ends b l) h.last
        (ap j h.target ∙ taken.back b t h)
        ∙ ap (λ x. map (replace_op s) (front (left_in f b 0)) ++ joined j f2 m (left_in f2 x 0)) h.target

    chain_good : (m b n : ℕ) → b < size f → Depth f j b n → n + m ≡ k →
        AllEdges Good (all_edges (joined j f2 m (left_in f2 b 0)))
    chain_good zero b n l dp e = by_after (after b)
      where
        by_after : After b → AllEdges Good (all_edges (joined j f2 zero (left_in f2 b 0)))
        by_after (nothing none) =
            subst (λ ps. AllEdges Good (all_edges ps)) (sym (chain_ends zero b none))
            (each_replaced (λ x. Free x × EdgeFits f x) Good s good_edge (left_in f b 0)
            (fit_free b (stays_free b none)))
        by_after (a_block t h) = let le = long t (suc n) (below b t n (suc n) h refl dp) in absurd
            (omega (arith, le, e))
    chain_good (suc m) b n l dp e = by_after (after b)
        (λ t h. chain_good m t (suc n) (target_range b t h) (below b t n (suc n) h refl dp) (omega (arith, e)))
      where
        by_after : After b → ((t : ℕ) → BlocksAreJoinable f b t → AllEdges Good (all_edges (joined j f2 m (left_in f2 t 0)))) →
            AllEdges Good (all_edges (joined j f2 (suc m) (left_in f2 b 0)))
        by_after (nothing none) ih =
            subst (λ ps. AllEdges Good (all_edges ps)) (sym (chain_ends (suc m) b none))
            (each_replaced (λ x. Free x × EdgeFits f x) Good s good_edge (left_in f b 0)
            (fit_free b (stays_free b none)))
        by_after (a_block t h) ih =
            subst (λ ps. AllEdges Good (all_edges ps)) (sym (chain_goes_on m b t l h))
            (edges_both (map (replace_op s) (front (left_in f b 0))) (joined j f2 m (left_in f2 t 0))
            (front_good (left_in f b 0) (ends b l)) (ih t h))

    three_good : (b : ℕ) → not (j b) ≡ true → b < size f → AllEdges Good (all_edges (left_in f3 b 0))
    three_good b e l = subst (λ ps. AllEdges Good (all_edges ps)) (sym (join_left j k f2 b))
        (chain_good k b 0 l (top b 0 (not_free (j b) e) refl) (omega arith))
      where
        not_free : (t : Bool) → not t ≡ true → t ≡ false
        not_free true q = absurd (cc q)
        not_free false q = refl

    good_left : (b : ℕ) → not (j b) ≡ true → AllEdges Good (all_edges (left_in f3 b 0))
    good_left b e = by_range (left_in f3 b 0) refl
      where
        by_range : (ps : List (Op V)) → left_in f3 b 0 ≡ ps → AllEdges Good (all_edges (left_in f3 b 0))
        by_range [] q = subst (λ z. AllEdges Good (all_edges z)) (sym q) tt
        by_range (p ∷ ps) q = three_good b e (subst (λ n. b < n) three_size
            (has_block f3 b (subst (λ z. 0 < length z) (sym q) (omega arith))))

    first_of_each : (P Q : Edge V → Type 0) (es : List (Edge V)) → AllEdges (λ x. P x × Q x) es → AllEdges P es
    first_of_each P Q [] h = tt
    first_of_each P Q (e ∷ es) h = (h.0.0, first_of_each P Q es h.1)

    second_of_each : (P Q : Edge V → Type 0) (es : List (Edge V)) → AllEdges (λ x. P x × Q x) es → AllEdges Q es
    second_of_each P Q [] h = tt
    second_of_each P Q (e ∷ es) h = (h.0.1, second_of_each P Q es h.1)

    -- each edge fits afterwards
    pub merged_fits : (b : ℕ) → AllEdgesFit (keep (λ x. not (j x)) f3) (left_in (keep (λ x. not (j x)) f3) b 0)
    merged_fits =
        keep_fits (λ x. not (j x)) f3 (ap not (entry_free f j taken))
        (λ b e. first_of_each (λ x. not (j x.target) ≡ true) (EdgeFits f3) (all_edges (left_in f3 b 0)) (good_left b e))
        (λ b e. each_fits f3 (left_in f3 b 0) (second_of_each (λ x. not (j x.target) ≡ true) (EdgeFits f3)
        (all_edges (left_in f3 b 0)) (good_left b e)))

pub merges_fit : {V : Type 0} (f g : Option (Fun V)) → DefinitionsAreApart f → ((b : ℕ) → b < size f → EndsWell (left_in f b 0)) →
    ((b : ℕ) → AllEdgesFit f (left_in f b 0)) → Merges f g → (b : ℕ) → AllEdgesFit g (left_in g b 0)
merges_fit f g apart ends fits m b =
    subst (λ z. AllEdgesFit z (left_in z b 0)) (sym m.is)
    (merged_fits f apart m.later m.is_later m.gone (λ v. (m.is_gone v).0)
    (λ v. (m.is_gone v).1) m.names ends fits m.most m.long b)
