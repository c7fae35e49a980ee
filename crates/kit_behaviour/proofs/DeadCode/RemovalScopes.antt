-- Rules outlast the removal, so the pass goes from places to places.
use Rattle.std.proofs.Common.{◌≡◌, ◌⊎◌, ⊎_elim, inl, inr, ℕ, zero, suc, ◌*◌, ◌<◌, Bool, true, false, List, [], ◌∷◌, ◌++◌, length, Option, refl, sym, ap, ◌∙◌, subst, arith}
use Rattle.std.specs.Prelude.{map, if◌then◌else◌}
use Rattle.kit_behaviour.specs.Machine.{AllEdges, Edge, Op, Const, Calc, Emit, Call, Branch, Return, Fun, FunctionsByPath, left_in, arguments_in, size, Alike}
use Rattle.kit_behaviour.specs.RemovedValues.{EdgeLive, thin_edge, may_trap, goes, live, pick, thin_op, thin_ops, thin, thinned, AllLive, GivesLive, OpLive, OpsLive, SetMayGo, FewGo}
use Rattle.kit_behaviour.specs.Scopes.{In, AllIn, defs, all_defs, entry_values, at_start, SameLength, OpScoped, OpsWith, BlocksWith}
use Rattle.kit_behaviour.specs.Facts.{all_forwarded}
use Rattle.kit_behaviour.specs.Rules.{EdgeFits, operands, is_terminator, EndsWell, EdgesOfOpFit, AllEdgesFit, Rules, BlocksBelow}
use Rattle.kit_behaviour.specs.DeadValues.{IsDceOfFunctions}
use Rattle.kit_behaviour.specs.Numbering.{placed}
use Rattle.kit_behaviour.specs.Places.{Place, same_place}
use Rattle.kit_behaviour.proofs.Behaviour.SizeLemmas.{some_end, thin_size}
use Rattle.kit_behaviour.proofs.DeadCode.RemovalBehaviour.{thin_left, thin_takes, thin_alike}
use Rattle.kit_behaviour.proofs.Propagation.ScopeLemmas.{in_split, in_append}
use Rattle.kit_behaviour.proofs.Numbering.RuleLemmas.{Sees, any_scoped, start_coming, going_few}
use Rattle.kit_behaviour.proofs.Numbering.DefinedNames.{scoped_defined}
use Rattle.kit_behaviour.proofs.Numbering.NumberingBehaviour.{placed_alike}
use Rattle.kit_behaviour.proofs.Numbering.PlaceEquality.{place_law}
use Rattle.kit_behaviour.proofs.DeadCode.DeadMayGo.{dead_may_go}
use Rattle.kit_behaviour.proofs.Propagation.PropagationBehaviour.{alike_trans}
use Rattle.kit_behaviour.proofs.Behaviour.EdgeLemmas.{edges_map}

module _ {V : Type 0} (f : Option (Fun V)) (d : V → Bool) where
  -- what stays is still in scope
  abbrev Covers : List V → List V → Type 0
  Covers a a' = (x : V) → In x a → d x ≡ false → In x a'

  covered : (xs a a' : List V) → Covers a a' → AllIn xs a → AllLive d xs → AllIn xs a'
  covered [] a a' c i h = tt
  covered (x ∷ xs) a a' c i h = (c x i.0 h.0, covered xs a a' c i.1 h.1)

  live_test : (x t : V) (ts : List V) → In x (live d ts) ⊎ (x ≡ t) → d x ≡ false → In x (live d (t ∷ ts))
  live_test x t ts h e = by_test (d t) refl
    where
      by_test : (b : Bool) → d t ≡ b → In x (if b then live d ts else t ∷ live d ts)
      by_test true q = ⊎_elim (λ i. i) (λ w. let bad : true ≡ false = sym q ∙ ap d (sym w) ∙ e in absurd (cc bad)) h
      by_test false q = ⊎_elim (λ i. inr i) (λ w. inl w) h

  live_in : (x : V) (ts : List V) → In x ts → d x ≡ false → In x (live d ts)
  live_in x [] i e = absurd i
  live_in x (t ∷ ts) i e = live_test x t ts (⊎_elim (λ w. inr w) (λ j. inl (live_in x ts j e)) i) e

  pick_in : (ts gs a a' : List V) → Covers a a' → AllIn gs a → GivesLive d ts gs → SameLength ts gs → AllIn (pick d ts gs) a'
  pick_in [] [] a a' c i h l = tt
  pick_in [] (g ∷ gs) a a' c i h l = absurd l
  pick_in (t ∷ ts) [] a a' c i h l = tt
  pick_in (t ∷ ts) (g ∷ gs) a a' c i h l = by_test (d t) refl (pick_in ts gs a a' c i.1 h.1 l)
    where
      by_test : (b : Bool) → d t ≡ b → AllIn (pick d ts gs) a' → AllIn (if b then pick d ts gs else g ∷ pick d ts gs) a'
      by_test true q r = r
      by_test false q r = (c g i.0 (h.0 q), r)

  same_length : (ts gs : List V) → SameLength ts gs → SameLength (live d ts) (pick d ts gs)
  same_length [] [] l = tt
  same_length [] (g ∷ gs) l = absurd l
  same_length (t ∷ ts) [] l = absurd l
  same_length (t ∷ ts) (g ∷ gs) l = by_test (d t) (same_length ts gs l)
    where
      by_test : (b : Bool) → SameLength (live d ts) (pick d ts gs) → SameLength (if b then live d ts else t ∷ live d ts) (if b then pick d ts gs else g ∷ pick d ts gs)
      by_test true r = r
      by_test false r = r

  all_append : (xs ys a : List V) → AllIn xs a → AllIn ys a → AllIn (xs ++ ys) a
  all_append [] ys a h g = g
  all_append (x ∷ xs) ys a h g = (h.0, all_append xs ys a h.1 g)

  all_front : (xs ys a : List V) → AllIn (xs ++ ys) a → AllIn xs a
  all_front [] ys a h = tt
  all_front (x ∷ xs) ys a h = (h.0, all_front xs ys a h.1)

  all_back : (xs ys a : List V) → AllIn (xs ++ ys) a → AllIn ys a
  all_back [] ys a h = h
  all_back (x ∷ xs) ys a h = all_back xs ys a h.1

  edges_see : (a a' : List V) (es : List (Edge V)) → Covers a a' → AllIn (all_forwarded es) a → AllEdges (EdgeLive f d) es → AllEdges (EdgeFits f) es → AllIn (all_forwarded (map (thin_edge f d) es)) a'
  edges_see a a' [] c s h g = tt
  edges_see a a' (e ∷ es) c s h g =
      all_append (pick d (arguments_in f e.target) e.forwards) (all_forwarded (map (thin_edge f d) es)) a' (pick_in (arguments_in f e.target) e.forwards a a' c (all_front e.forwards (all_forwarded es) a s) h.0 g.0.count) (edges_see a a' es c (all_back e.forwards (all_forwarded es) a s) h.1 g.1)

  op_sees : (a a' : List V) (op : Op V) → Covers a a' → Sees f a op → OpLive f d op → EdgesOfOpFit f op → AllIn (operands (thin_op f d op)) a'
  op_sees a a' (Const r n) c s h g = tt
  op_sees a a' (Calc o w r x y) c s h g = (c x s.0 h.0, (c y s.1.0 h.1, tt))
  op_sees a a' (Emit x) c s h g = (c x s.0 h, tt)
  op_sees a a' (Call rs k xs) c s h g = covered xs a a' c s h
  op_sees a a' (Branch t xs e es) c s h g =
      all_append xs (all_forwarded (thin_edge f d e ∷ map (thin_edge f d) es)) a' (covered xs a a' c (all_front xs (all_forwarded (e ∷ es)) a s) h.0) (edges_see a a' (e ∷ es) c (all_back xs (all_forwarded (e ∷ es)) a s) h.1 g)
  op_sees a a' (Return xs) c s h g = covered xs a a' c s h

  pub defs_thin : (op : Op V) → defs (thin_op f d op) ≡ defs op
  defs_thin (Const r n) = refl
  defs_thin (Calc o w r x y) = refl
  defs_thin (Emit x) = refl
  defs_thin (Call rs k xs) = refl
  defs_thin (Branch s xs e es) = refl
  defs_thin (Return xs) = refl

  -- what goes makes one value of the set, and is no terminator
  gone : (op : Op V) → goes d op ≡ true → ((x : V) → In x (defs op) → d x ≡ true) × (is_terminator op ≡ false)
  gone (Const r n) h = (λ x i. ⊎_elim (λ q. ap d q ∙ h) (λ b. absurd b) i, refl)
  gone (Calc a w r x y) h = (λ z i. ⊎_elim (λ q. ap d q ∙ by_div (may_trap a) h) (λ b. absurd b) i, refl)
    where
      by_div : (b : Bool) → (if b then false else d r) ≡ true → d r ≡ true
      by_div true e = absurd (cc e)
      by_div false e = e
  gone (Emit x) h = absurd (cc h)
  gone (Call rs k xs) h = absurd (cc h)
  gone (Branch s xs e es) h = absurd (cc h)
  gone (Return xs) h = absurd (cc h)

  pub ops_see : (a a' : List V) (ops : List (Op V)) → Covers a a' → OpsWith (Sees f) a ops → OpsLive f d ops → AllEdgesFit f ops → OpsWith (Sees f) a' (thin_ops f d ops)
  ops_see a a' [] c s h g = tt
  ops_see a a' (op ∷ ops) c s h g = by_test (goes d op) refl (λ b'. ops_see (defs op ++ a) b' ops)
    where
      by_test : (b : Bool) → goes d op ≡ b → ((b' : List V) → Covers (defs op ++ a) b' → OpsWith (Sees f) (defs op ++ a) ops → OpsLive f d ops → AllEdgesFit f ops → OpsWith (Sees f) b' (thin_ops f d ops)) → OpsWith (Sees f) a' (if b then thin_ops f d ops else thin_op f d op ∷ thin_ops f d ops)
      by_test true q ih = ih a' (λ x i e. ⊎_elim (λ t. let bad : true ≡ false = sym ((gone op q).0 x t) ∙ e in absurd (cc bad)) (λ t. c x t e) (in_split x (defs op) a i)) s.1 h.1 g.1
      by_test false q ih = (
        op_sees a a' op c s.0 (h.0 q) g.0,
        subst (λ l. OpsWith (Sees f) (l ++ a') (thin_ops f d ops)) (sym (defs_thin op))
            (ih (defs op ++ a') (λ x i e. in_append x (defs op) a' (⊎_elim (λ t. inl t) (λ t. inr (c x t e)) (in_split x (defs op) a i))) s.1 h.1 g.1),
      )

  kept_defs : (x : V) (ops : List (Op V)) → d x ≡ false → In x (all_defs ops) → In x (all_defs (thin_ops f d ops))
  kept_defs x [] e i = i
  kept_defs x (op ∷ ops) e i = by_test (goes d op) refl (kept_defs x ops e)
    where
      by_test : (b : Bool) → goes d op ≡ b → (In x (all_defs ops) → In x (all_defs (thin_ops f d ops))) → In x (all_defs (if b then thin_ops f d ops else thin_op f d op ∷ thin_ops f d ops))
      by_test true q ih = ih (⊎_elim (λ t. let bad : true ≡ false = sym ((gone op q).0 x t) ∙ e in absurd (cc bad)) (λ t. t) (in_split x (defs op) (all_defs ops) i))
      by_test false q ih = in_append x (defs (thin_op f d op)) (all_defs (thin_ops f d ops)) (⊎_elim (λ t. inl (subst (In x) (sym (defs_thin op)) t)) (λ t. inr (ih t)) (in_split x (defs op) (all_defs ops) i))

  terminator_thin : (op : Op V) → is_terminator (thin_op f d op) ≡ is_terminator op
  terminator_thin (Const r n) = refl
  terminator_thin (Calc o w r x y) = refl
  terminator_thin (Emit x) = refl
  terminator_thin (Call rs k xs) = refl
  terminator_thin (Branch s xs e es) = refl
  terminator_thin (Return xs) = refl

  before_ends : (op : Op V) (ops : List (Op V)) → is_terminator op ≡ false → EndsWell ops → EndsWell (op ∷ ops)
  before_ends op [] t e = absurd e
  before_ends op (next ∷ ops) t e = (t, e)

  -- a terminator stays
  last_stays : (op : Op V) → is_terminator op ≡ true → goes d op ≡ true → ⊥
  last_stays op t g = let bad : true ≡ false = sym t ∙ (gone op g).1 in cc bad

  pub ops_end : (ops : List (Op V)) → EndsWell ops → EndsWell (thin_ops f d ops)
  ops_end [] e = e
  ops_end (op ∷ []) e = by_test (goes d op) refl
    where
      by_test : (b : Bool) → goes d op ≡ b → EndsWell (if b then [] else thin_op f d op ∷ [])
      by_test true q = last_stays op e q
      by_test false q = terminator_thin op ∙ e
  ops_end (op ∷ next ∷ ops) e = by_test (goes d op) (ops_end (next ∷ ops) e.1)
    where
      by_test : (b : Bool) → EndsWell (thin_ops f d (next ∷ ops)) → EndsWell (if b then thin_ops f d (next ∷ ops) else thin_op f d op ∷ thin_ops f d (next ∷ ops))
      by_test true r = r
      by_test false r = before_ends (thin_op f d op) (thin_ops f d (next ∷ ops)) (terminator_thin op ∙ e.0) r

  edge_fits : (op : Op V) → EdgesOfOpFit f op → EdgesOfOpFit (thin d f) (thin_op f d op)
  edge_fits (Branch s xs e es) g =
      edges_map (EdgeFits f) (EdgeFits (thin d f)) (thin_edge f d)
      (λ x (h : EdgeFits f x). record {
        count = subst (λ ts. SameLength ts (pick d (arguments_in f x.target) x.forwards)) (sym (thin_takes d f x.target)) (same_length (arguments_in f x.target) x.forwards h.count);
        leads = subst (λ n. x.target < n) (sym (thin_size d f)) h.leads;
      })
      (e ∷ es) g
  edge_fits (Const r n) g = tt
  edge_fits (Calc o w r x y) g = tt
  edge_fits (Emit x) g = tt
  edge_fits (Call rs k xs) g = tt
  edge_fits (Return xs) g = tt

  pub ops_fit : (ops : List (Op V)) → AllEdgesFit f ops → AllEdgesFit (thin d f) (thin_ops f d ops)
  ops_fit [] g = tt
  ops_fit (op ∷ ops) g = by_test (goes d op) (ops_fit ops g.1)
    where
      by_test : (b : Bool) → AllEdgesFit (thin d f) (thin_ops f d ops) → AllEdgesFit (thin d f) (if b then thin_ops f d ops else thin_op f d op ∷ thin_ops f d ops)
      by_test true r = r
      by_test false r = (edge_fits op g.0, r)

  pub start_covers : (b : ℕ) → Covers (at_start f b) (at_start (thin d f) b)
  start_covers zero x i e = subst (In x) (sym (thin_takes d f 0)) (live_in x (arguments_in f 0) i e)
  start_covers (suc b) x i e =
      let ts = arguments_in (thin d f) (suc b) in
      let t0 = arguments_in (thin d f) 0 in
      ⊎_elim
      (λ w. in_append x ts (entry_values (thin d f)) (inl (subst (In x) (sym (thin_takes d f (suc b))) (live_in x (arguments_in f (suc b)) w e))))
      (λ w. in_append x ts (entry_values (thin d f)) (inr (in_append x t0 (all_defs (left_in (thin d f) 0 0))
      (⊎_elim
      (λ z. inl (subst (In x) (sym (thin_takes d f 0)) (live_in x (arguments_in f 0) z e)))
      (λ z. inr (subst (λ l. In x (all_defs l)) (sym (thin_left d f 0)) (kept_defs x (left_in f 0 0) e z)))
      (in_split x (arguments_in f 0) (all_defs (left_in f 0 0)) w)))))
      (in_split x (arguments_in f (suc b)) (entry_values f) i)

  -- a block with an operation had one
  had_one : (ops : List (Op V)) → (0 < length ops → EndsWell ops) → 0 < length (thin_ops f d ops) → EndsWell (thin_ops f d ops)
  had_one [] e l = absurd (omega arith)
  had_one (op ∷ ops) e l = ops_end (op ∷ ops) (e (omega arith))

  pub thin_scoped : SetMayGo d f → ((b : ℕ) → b < size f → EndsWell (left_in f b 0)) → BlocksWith f (Sees f) → ((b : ℕ) → AllEdgesFit f (left_in f b 0)) → BlocksWith (thin d f) (OpScoped (thin d f))
  thin_scoped may ends sees fits b =
      any_scoped (thin d f) (at_start (thin d f) b) (left_in (thin d f) b 0)
      (subst (λ l. 0 < length l → EndsWell l) (sym (thin_left d f b)) (had_one (left_in f b 0) (some_end f ends b)))
      (subst (OpsWith (Sees f) (at_start (thin d f) b)) (sym (thin_left d f b)) (ops_see (at_start f b) (at_start (thin d f) b) (left_in f b 0) (start_covers b) (sees b) (may.uses b) (fits b)))
      (subst (AllEdgesFit (thin d f)) (sym (thin_left d f b)) (ops_fit (left_in f b 0) (fits b)))
      (start_coming (thin d f) b)

-- the whole pass
pub dce_is_alike : (p q : FunctionsByPath Place) (c : ℕ) → ((path : List ℕ) → Rules (p path)) → IsDceOfFunctions p q → BlocksBelow c p → Alike same_place same_place c p q
dce_is_alike p q c rules is below =
    let may = λ (path : List ℕ). dead_may_go same_place place_law (p path) (is.set path) (is.dead path) in
    let few : FewGo c is.set p = λ path b. omega (arith, going_few (is.set path) (left_in (p path) b 0), below path b) in
    let a = thin_alike same_place place_law p is.set may c few in
    let b = placed_alike same_place place_law (thinned is.set p) (λ path. scoped_defined same_place place_law (thin (is.set path) (p path)) (thin_scoped (p path) (is.set path) (may path) (rules path).terminated (rules path).sees (rules path).fits)) in
    let t = alike_trans same_place same_place same_place c 1 p (thinned is.set p) (placed same_place (thinned is.set p)) a b in
    let e : c * 1 ≡ c = omega arith in
    let g : q ≡ placed same_place (thinned is.set p) = λ i path. is.is path i in
    subst (λ r. Alike same_place same_place c p r) (sym g) (subst (λ n. Alike same_place same_place n p (placed same_place (thinned is.set p))) e t)
