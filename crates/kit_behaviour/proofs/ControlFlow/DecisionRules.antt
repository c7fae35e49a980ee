-- Branches that constants decide: the facts are closed, and the rules are kept.
use Rattle.std.proofs.Common.{◌≡◌, ℕ, zero, suc, ◌+◌, ◌<◌, List, [], ◌∷◌, ◌++◌, length, Option, Some, refl, sym, ap, ◌∙◌, subst, arith}
use Rattle.std.specs.Prelude.{map, slice_get}
use Rattle.kit_behaviour.proofs.Behaviour.SizeLemmas.{decide_size}
use Rattle.kit_behaviour.specs.Machine.{Select, edge_at, chosen, AllEdges, Edge, Op, Const, Calc, Emit, Call, Branch, Return, Fun, FunctionsByPath, left_in, arguments_in, Alike}
use Rattle.kit_behaviour.specs.Facts.{Known, Unknown, FactAtOrBelow, folds_to, FunctionFacts, Knows, Lacks, Numbers, Open, knows, branch_knows, AllUnknown, AllFactsAtOrBelow, EdgeClosedIn, BranchClosedIn, OpsClosed, AreClosedFacts, all_forwarded}
use Rattle.kit_behaviour.specs.Scopes.{AllIn, defs, all_defs, entry_values, at_start, SameLength, OpsWith}
use Rattle.kit_behaviour.specs.Rules.{operands, is_terminator, EndsWell, EdgeFits, EdgesOfOpFit, AllEdgesFit, from, OpsPlaced, Rules}
use Rattle.kit_behaviour.specs.DecidedBranches.{single, branch_by, decide_op, decide}
use Rattle.kit_behaviour.specs.Places.{Place, Arg, Res, same_place}
use Rattle.kit_behaviour.specs.SimplifiedBlocks.{const_fact, const_value, constants, branched}
use Rattle.kit_behaviour.proofs.Behaviour.EdgeLemmas.{taken_has, edges_any}
use Rattle.kit_behaviour.proofs.Numbering.PlaceEquality.{place_law}
use Rattle.kit_behaviour.proofs.Propagation.ScopeLemmas.{all_append, all_front, all_back}
use Rattle.kit_behaviour.proofs.Numbering.RuleLemmas.{rules_scoped, with_unit}
use Rattle.kit_behaviour.proofs.Lattice.DecisionBehaviour.{decide_left, decide_takes, decided_alike}

module _ (f : Option (Fun Place)) (rules : Rules f) where
  args_unknown : (b i n : ℕ) → AllUnknown (constants f) (from (Arg b) i n)
  args_unknown b i zero = tt
  args_unknown b i (suc n) = (refl, args_unknown b (suc i) n)

  args_below : (b i n : ℕ) (gs : List Place) → AllFactsAtOrBelow (constants f) (from (Arg b) i n) gs
  args_below b i zero gs = tt
  args_below b i (suc n) [] = tt
  args_below b i (suc n) (g ∷ gs) = (tt, args_below b (suc i) n gs)

  edge_closed : (x : Edge Place) → EdgeClosedIn f (constants f) x
  edge_closed x = (refl, subst (λ ts. AllFactsAtOrBelow (constants f) ts x.forwards) (sym (rules.args x.target)) (args_below x.target 0 (length (arguments_in f x.target)) x.forwards))

  branch_closed : (s : Select) (q : Knows) (e : Edge Place) (es : List (Edge Place)) → BranchClosedIn f (constants f) s q e es
  branch_closed s Lacks e es = tt
  branch_closed s (Numbers ns) e es = edges_any (λ x. x.target ≡ (edge_at e es (chosen s ns)).target → EdgeClosedIn f (constants f) x) (λ x h. edge_closed x) (e ∷ es)
  branch_closed s Open e es = edges_any (EdgeClosedIn f (constants f)) edge_closed (e ∷ es)

  results_unknown : (b o i n : ℕ) → const_fact (slice_get (left_in f b 0) o) ≡ Unknown → AllUnknown (constants f) (from (Res b o) i n)
  results_unknown b o i zero e = tt
  results_unknown b o i (suc n) e = (e, results_unknown b o (suc i) n e)

  abbrev AllHere : List Place → ℕ → Type 0
  AllHere [] n = Unit {0}
  AllHere (v ∷ vs) n = FactAtOrBelow (const_value f v) (Known n) × AllHere vs n

  ops_closed : (b o : ℕ) (ops : List (Op Place)) → ((n : ℕ) → slice_get (left_in f b 0) (o + n) ≡ slice_get ops n) → OpsPlaced b o ops → OpsClosed f (constants f) ops
  ops_closed b o [] at h = tt
  ops_closed b o (op ∷ ops) at h =
      by_kind op (let z : o ≡ o + 0 = omega arith in ap (slice_get (left_in f b 0)) z ∙ at 0) h.0
      (ops_closed b (suc o) ops (λ n. let s : suc o + n ≡ o + suc n = omega arith in ap (slice_get (left_in f b 0)) s ∙ at (suc n)) h.1)
    where
      by_kind : (q : Op Place) → slice_get (left_in f b 0) o ≡ Some q → defs q ≡ from (Res b o) 0 (length (defs q)) → OpsClosed f (constants f) ops → OpsClosed f (constants f) (q ∷ ops)
      by_kind (Const r n) e d rest =
          let u : AllHere (r ∷ []) n = subst (λ l. AllHere l n) (sym d) (subst (λ t. FactAtOrBelow t (Known n)) (sym (ap const_fact e)) refl, tt) in
          (u.0, rest)
      by_kind (Calc a w r x y) e d rest =
          let u : AllUnknown (constants f) (r ∷ []) = subst (AllUnknown (constants f)) (sym d) (results_unknown b o 0 1 (ap const_fact e)) in
          (subst (λ t. FactAtOrBelow t (folds_to a w (const_value f x) (const_value f y))) (sym u.0) tt, rest)
      by_kind (Emit x) e d rest = (tt, rest)
      by_kind (Call rs c xs) e d rest = (subst (AllUnknown (constants f)) (sym d) (results_unknown b o 0 (length rs) (ap const_fact e)), rest)
      by_kind (Branch s xs x es) e d rest = (branch_closed s (branch_knows (constants f) xs (x ∷ es)) x es, rest)
      by_kind (Return xs) e d rest = (tt, rest)

  pub constants_closed : AreClosedFacts f (constants f)
  constants_closed =
      record {
        entry_runs = refl;
        entry_unknown = subst (AllUnknown (constants f)) (sym (rules.args 0)) (args_unknown 0 0 (length (arguments_in f 0)));
        ops = λ b r. ops_closed b 0 (left_in f b 0) (λ n. let z : 0 + n ≡ n = omega arith in ap (slice_get (left_in f b 0)) z) (rules.names b);
      }

-- the rules after the decisions

module _ {V : Type 0} (k : FunctionFacts V) where
  defs_single : (s : Select) (xs : List V) (e : Edge V) (es : List (Edge V)) → defs (single s xs e es) ≡ []
  defs_single s xs e [] = refl
  defs_single s xs e (x ∷ es) = refl

  defs_by : (q : Knows) (s : Select) (xs : List V) (e : Edge V) (es : List (Edge V)) → defs (branch_by q s xs e es) ≡ []
  defs_by (Numbers ns) s xs e es = refl
  defs_by Lacks s xs e es = defs_single s xs e es
  defs_by Open s xs e es = defs_single s xs e es

  defs_decided : (op : Op V) → defs (decide_op k op) ≡ defs op
  defs_decided (Const r n) = refl
  defs_decided (Calc a w r x y) = refl
  defs_decided (Emit x) = refl
  defs_decided (Call rs c xs) = refl
  defs_decided (Branch s xs e es) = defs_by (knows (map k.of xs)) s xs e es
  defs_decided (Return xs) = refl

  all_defs_decided : (ops : List (Op V)) → all_defs (map (decide_op k) ops) ≡ all_defs ops
  all_defs_decided [] = refl
  all_defs_decided (op ∷ ops) = ap (λ l. l ++ all_defs (map (decide_op k) ops)) (defs_decided op) ∙ ap (λ l. defs op ++ l) (all_defs_decided ops)

  term_single : (s : Select) (xs : List V) (e : Edge V) (es : List (Edge V)) → is_terminator (single s xs e es) ≡ is_terminator (Branch s xs e es)
  term_single s xs e [] = refl
  term_single s xs e (x ∷ es) = refl

  term_by : (q : Knows) (s : Select) (xs : List V) (e : Edge V) (es : List (Edge V)) → is_terminator (branch_by q s xs e es) ≡ is_terminator (Branch s xs e es)
  term_by (Numbers ns) s xs e es = refl
  term_by Lacks s xs e es = term_single s xs e es
  term_by Open s xs e es = term_single s xs e es

  term_decided : (op : Op V) → is_terminator (decide_op k op) ≡ is_terminator op
  term_decided (Const r n) = refl
  term_decided (Calc a w r x y) = refl
  term_decided (Emit x) = refl
  term_decided (Call rs c xs) = refl
  term_decided (Branch s xs e es) = term_by (knows (map k.of xs)) s xs e es
  term_decided (Return xs) = refl

  pub ends_decided : (ops : List (Op V)) → EndsWell ops → EndsWell (map (decide_op k) ops)
  ends_decided [] e = e
  ends_decided (op ∷ []) e = term_decided op ∙ e
  ends_decided (op ∷ next ∷ ops) e = (term_decided op ∙ e.0, ends_decided (next ∷ ops) e.1)

  gives_in : (a : List V) (es : List (Edge V)) → AllIn (all_forwarded es) a → AllEdges (λ x. AllIn x.forwards a) es
  gives_in a [] h = tt
  gives_in a (e ∷ es) h = (all_front e.forwards (all_forwarded es) a h, gives_in a es (all_back e.forwards (all_forwarded es) a h))

  sees_single : (a : List V) (s : Select) (xs : List V) (e : Edge V) (es : List (Edge V)) → AllIn (xs ++ all_forwarded (e ∷ es)) a → AllIn (operands (single s xs e es)) a
  sees_single a s xs e [] h = all_back xs (all_forwarded (e ∷ [])) a h
  sees_single a s xs e (x ∷ es) h = h

  sees_by : (a : List V) (q : Knows) (s : Select) (xs : List V) (e : Edge V) (es : List (Edge V)) → AllIn (xs ++ all_forwarded (e ∷ es)) a → AllIn (operands (branch_by q s xs e es)) a
  sees_by a (Numbers ns) s xs e es h =
      all_append (edge_at e es (chosen s ns)).forwards [] a (taken_has (λ x. AllIn x.forwards a) e es (chosen s ns) (gives_in a (e ∷ es) (all_back xs (all_forwarded (e ∷ es)) a h))) tt
  sees_by a Lacks s xs e es h = sees_single a s xs e es h
  sees_by a Open s xs e es h = sees_single a s xs e es h

  sees_decided : (a : List V) (op : Op V) → AllIn (operands op) a → AllIn (operands (decide_op k op)) a
  sees_decided a (Const r n) h = h
  sees_decided a (Calc o w r x y) h = h
  sees_decided a (Emit x) h = h
  sees_decided a (Call rs c xs) h = h
  sees_decided a (Branch s xs e es) h = sees_by a (knows (map k.of xs)) s xs e es h
  sees_decided a (Return xs) h = h

  pub ops_see : (a : List V) (ops : List (Op V)) → OpsWith (λ a op. AllIn (operands op) a) a ops → OpsWith (λ a op. AllIn (operands op) a) a (map (decide_op k) ops)
  ops_see a [] h = tt
  ops_see a (op ∷ ops) h = (sees_decided a op h.0, subst (λ l. OpsWith (λ a op. AllIn (operands op) a) (l ++ a) (map (decide_op k) ops)) (sym (defs_decided op)) (ops_see (defs op ++ a) ops h.1))

  module _ (f : Option (Fun V)) where
    edge_fits : (x : Edge V) → EdgeFits f x → EdgeFits (decide k f) x
    edge_fits x h =
        record {
          count = subst (λ l. SameLength l x.forwards) (sym (decide_takes k f x.target)) h.count;
          leads = subst (λ n. x.target < n) (sym (decide_size k f)) h.leads;
        }

    each_fits : (es : List (Edge V)) → AllEdges (EdgeFits f) es → AllEdges (EdgeFits (decide k f)) es
    each_fits [] h = tt
    each_fits (e ∷ es) h = (edge_fits e h.0, each_fits es h.1)

    fits_single : (s : Select) (xs : List V) (e : Edge V) (es : List (Edge V)) → AllEdges (EdgeFits f) (e ∷ es) → EdgesOfOpFit (decide k f) (single s xs e es)
    fits_single s xs e [] h = each_fits (e ∷ []) h
    fits_single s xs e (x ∷ es) h = each_fits (e ∷ x ∷ es) h

    fits_by : (q : Knows) (s : Select) (xs : List V) (e : Edge V) (es : List (Edge V)) → AllEdges (EdgeFits f) (e ∷ es) → EdgesOfOpFit (decide k f) (branch_by q s xs e es)
    fits_by (Numbers ns) s xs e es h = (taken_has (EdgeFits (decide k f)) e es (chosen s ns) (each_fits (e ∷ es) h), tt)
    fits_by Lacks s xs e es h = fits_single s xs e es h
    fits_by Open s xs e es h = fits_single s xs e es h

    fits_decided : (op : Op V) → EdgesOfOpFit f op → EdgesOfOpFit (decide k f) (decide_op k op)
    fits_decided (Const r n) h = tt
    fits_decided (Calc o w r x y) h = tt
    fits_decided (Emit x) h = tt
    fits_decided (Call rs c xs) h = tt
    fits_decided (Branch s xs e es) h = fits_by (knows (map k.of xs)) s xs e es h
    fits_decided (Return xs) h = tt

    ops_fit : (ops : List (Op V)) → AllEdgesFit f ops → AllEdgesFit (decide k f) (map (decide_op k) ops)
    ops_fit [] h = tt
    ops_fit (op ∷ ops) h = (fits_decided op h.0, ops_fit ops h.1)

    pub start_decided : (b : ℕ) → at_start (decide k f) b ≡ at_start f b
    start_decided zero = decide_takes k f 0
    start_decided (suc b) =
        ap (λ l. l ++ entry_values (decide k f)) (decide_takes k f (suc b))
        ∙ ap (λ l. arguments_in f (suc b) ++ l)
        (ap (λ l. l ++ all_defs (left_in (decide k f) 0 0)) (decide_takes k f 0) ∙ ap (λ l. arguments_in f 0 ++ l) (ap all_defs (decide_left k f 0 0) ∙ all_defs_decided (left_in f 0 0)))

ops_placed : (k : FunctionFacts Place) (b o : ℕ) (ops : List (Op Place)) → OpsPlaced b o ops → OpsPlaced b o (map (decide_op k) ops)
ops_placed k b o [] h = tt
ops_placed k b o (op ∷ ops) h = (subst (λ l. l ≡ from (Res b o) 0 (length l)) (sym (defs_decided k op)) h.0, ops_placed k b (suc o) ops h.1)

pub decide_rules : (k : FunctionFacts Place) (f : Option (Fun Place)) → Rules f → Rules (decide k f)
decide_rules k f h =
    record {
      terminated = λ b l. subst EndsWell (sym (decide_left k f b 0)) (ends_decided k (left_in f b 0) (h.terminated b (omega (arith, l, decide_size k f))));
      sees = λ b. subst (λ a. OpsWith (λ a op. AllIn (operands op) a) a (left_in (decide k f) b 0)) (sym (start_decided k f b)) (subst (OpsWith (λ a op. AllIn (operands op) a) (at_start f b)) (sym (decide_left k f b 0)) (ops_see k (at_start f b) (left_in f b 0) (h.sees b)));
      fits = λ b. subst (AllEdgesFit (decide k f)) (sym (decide_left k f b 0)) (ops_fit k f (left_in f b 0) (h.fits b));
      names = λ b. subst (OpsPlaced b 0) (sym (decide_left k f b 0)) (ops_placed k b 0 (left_in f b 0) (h.names b));
      args = λ b. subst (λ l. l ≡ from (Arg b) 0 (length l)) (sym (decide_takes k f b)) (h.args b);
    }

pub branched_alike : (p : FunctionsByPath Place) → ((path : List ℕ) → Rules (p path)) → Alike same_place same_place 1 p (λ path. branched (p path))
branched_alike p rules =
    decided_alike same_place place_law p (λ path. constants (p path)) (λ path. constants_closed (p path) (rules path)) (λ path b. with_unit (p path) (at_start (p path) b) (left_in (p path) b 0) (rules_scoped (p path) (rules path) b))
