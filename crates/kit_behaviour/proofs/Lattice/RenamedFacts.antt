-- Facts under other names: closed ones, and the most precise ones of a function whose values are named by their places.
use Rattle.std.proofs.Common.{◌≡◌, ℕ, Bool, List, [], ◌∷◌, ◌++◌, Option, Some, None, refl, sym, ap, ◌∙◌, subst}
use Rattle.std.specs.Prelude.{map, unwrap_or}
use Rattle.kit_behaviour.specs.Machine.{Arith, AllEdges, edge_at, chosen, Select, Edge, Op, Const, Calc, Emit, Call, Branch, Return, Fun, left_in, arguments_in}
use Rattle.kit_behaviour.specs.Renaming.{rename_edge, rename_op, AllNamed, EdgeNamed, OpNamed, OpsNamed, same_block}
use Rattle.kit_behaviour.specs.Facts.{Knows, Lacks, Numbers, Open, knows, unless_lacking, branch_knows, all_forwarded, Fact, Undetermined, Known, Unknown, FactAtOrBelow, folds_to, FunctionFacts, AllUnknown, AllFactsAtOrBelow, EdgeClosedIn, BranchClosedIn, OpClosed, OpsClosed, AreClosedFacts, FactsMorePrecise, AreMostPreciseFacts}
use Rattle.kit_behaviour.specs.Numbering.{place_in_blocks, place_fun, HasPlace, AnyBlock, NamesAreDefined}
use Rattle.kit_behaviour.specs.Places.{Place, Arg}
use Rattle.kit_behaviour.proofs.Behaviour.FrameLemmas.{IsSameness}
use Rattle.kit_behaviour.proofs.Behaviour.EdgeLemmas.{taken_map, edges_two, edges_back, gives_renamed}
use Rattle.kit_behaviour.proofs.Numbering.NumberingBehaviour.{at_place, place_name, place_left, place_takes}
use Rattle.kit_behaviour.proofs.Numbering.NumberingRules.{name_at}

-- the same facts under other names are closed where these are, for the names that occur

module _ {V W : Type 0} (r : V → W) (N : V → Type 0) (g : Option (Fun V)) (q : Option (Fun W)) (arguments : (b : ℕ) → arguments_in q b ≡ map r (arguments_in g b)) (left : (b : ℕ) → left_in q b 0 ≡ map (rename_op r same_block) (left_in g b 0)) (takes_named : (b : ℕ) → AllNamed N (arguments_in g b)) (ops_named : (b : ℕ) → OpsNamed N AnyBlock (left_in g b 0)) (k : FunctionFacts V) (l : FunctionFacts W) (runs : (b : ℕ) → l.runs b ≡ k.runs b) (of : (v : V) → N v → l.of (r v) ≡ k.of v) where
  -- each follows from the other
  abbrev Both : Type 0 → Type 0 → Type 0
  Both A B = (A → B) × (B → A)

  unknown_both : (vs : List V) → AllNamed N vs → Both (AllUnknown k vs) (AllUnknown l (map r vs))
  unknown_both [] n = (λ h. tt, λ h. tt)
  unknown_both (v ∷ vs) n =
      let rest = unknown_both vs n.1 in
      (λ h. (of v n.0 ∙ h.0, rest.0 h.1), λ h. (sym (of v n.0) ∙ h.0, rest.1 h.1))

  below_both : (ts gs : List V) → AllNamed N ts → AllNamed N gs → Both (AllFactsAtOrBelow k ts gs) (AllFactsAtOrBelow l (map r ts) (map r gs))
  below_both [] gs n m = (λ h. tt, λ h. tt)
  below_both (t ∷ ts) [] n m = (λ h. tt, λ h. tt)
  below_both (t ∷ ts) (y ∷ gs) n m =
      let rest = below_both ts gs n.1 m.1 in (
        λ h. (subst (λ z. FactAtOrBelow z (l.of (r y))) (sym (of t n.0)) (subst (FactAtOrBelow (k.of t)) (sym (of y m.0)) h.0), rest.0 h.1),
        λ h. (subst (λ z. FactAtOrBelow z (k.of y)) (of t n.0) (subst (FactAtOrBelow (l.of (r t))) (of y m.0) h.0), rest.1 h.1),
      )

  facts_same : (xs : List V) → AllNamed N xs → map l.of (map r xs) ≡ map k.of xs
  facts_same [] n = refl
  facts_same (x ∷ xs) n = ap (λ t. t ∷ map l.of (map r xs)) (of x n.0) ∙ ap (λ ts. k.of x ∷ ts) (facts_same xs n.1)

  abbrev re : Edge V → Edge W
  re = rename_edge r same_block

  edge_there : (e : Edge V) → EdgeNamed N AnyBlock e → EdgeClosedIn g k e → EdgeClosedIn q l (re e)
  edge_there e n h =
      (runs e.target ∙ h.0, subst (λ ts. AllFactsAtOrBelow l ts (map r e.forwards)) (sym (arguments e.target)) ((below_both (arguments_in g e.target) e.forwards (takes_named e.target) n.1).0 h.1))

  edge_back : (e : Edge V) → EdgeNamed N AnyBlock e → EdgeClosedIn q l (re e) → EdgeClosedIn g k e
  edge_back e n h =
      (sym (runs e.target) ∙ h.0, (below_both (arguments_in g e.target) e.forwards (takes_named e.target) n.1).1 (subst (λ ts. AllFactsAtOrBelow l ts (map r e.forwards)) (arguments e.target) h.1))

  target_map : (e : Edge V) (es : List (Edge V)) (i : ℕ) → (edge_at (re e) (map re es) i).target ≡ (edge_at e es i).target
  target_map e es i = ap (λ (y : Edge W). y.target) (taken_map re e es i)

  two_map : (P P' : Edge V → Type 0) (Q : Edge W → Type 0) → ((x : Edge V) → P x → P' x → Q (re x)) → (es : List (Edge V)) → AllEdges P es → AllEdges P' es → AllEdges Q (map re es)
  two_map P P' Q h [] a b = tt
  two_map P P' Q h (e ∷ es) a b = (h e a.0 b.0, two_map P P' Q h es a.1 b.1)

  branch_there : (s : Select) (t : Knows) (e : Edge V) (es : List (Edge V)) → AllEdges (EdgeNamed N AnyBlock) (e ∷ es) → BranchClosedIn g k s t e es → BranchClosedIn q l s t (re e) (map re es)
  branch_there s Lacks e es n h = tt
  branch_there s Open e es n h = two_map (EdgeNamed N AnyBlock) (EdgeClosedIn g k) (EdgeClosedIn q l) edge_there (e ∷ es) n h
  branch_there s (Numbers ns) e es n h =
      two_map (EdgeNamed N AnyBlock) (λ x. x.target ≡ (edge_at e es (chosen s ns)).target → EdgeClosedIn g k x) (λ x. x.target ≡ (edge_at (re e) (map re es) (chosen s ns)).target → EdgeClosedIn q l x)
      (λ x a c w. edge_there x a (c (w ∙ target_map e es (chosen s ns)))) (e ∷ es) n h

  branch_back : (s : Select) (t : Knows) (e : Edge V) (es : List (Edge V)) → AllEdges (EdgeNamed N AnyBlock) (e ∷ es) → BranchClosedIn q l s t (re e) (map re es) → BranchClosedIn g k s t e es
  branch_back s Lacks e es n h = tt
  branch_back s Open e es n h = edges_two (EdgeNamed N AnyBlock) (λ x. EdgeClosedIn q l (re x)) (EdgeClosedIn g k) edge_back (e ∷ es) n (edges_back (EdgeClosedIn q l) re (e ∷ es) h)
  branch_back s (Numbers ns) e es n h =
      let Q = λ (x : Edge W). x.target ≡ (edge_at (re e) (map re es) (chosen s ns)).target → EdgeClosedIn q l x in
      edges_two (EdgeNamed N AnyBlock) (λ x. Q (re x)) (λ x. x.target ≡ (edge_at e es (chosen s ns)).target → EdgeClosedIn g k x)
      (λ x a c w. edge_back x a (c (w ∙ sym (target_map e es (chosen s ns))))) (e ∷ es) n (edges_back Q re (e ∷ es) h)

  gives_named : (es : List (Edge V)) → AllEdges (EdgeNamed N AnyBlock) es → AllNamed N (all_forwarded es)
  gives_named [] n = tt
  gives_named (e ∷ es) n = both e.forwards n.0.1 (gives_named es n.1)
    where
      both : (xs : List V) → AllNamed N xs → AllNamed N (all_forwarded es) → AllNamed N (xs ++ all_forwarded es)
      both [] a b = b
      both (x ∷ xs) a b = (a.0, both xs a.1 b)

  knows_same : (xs : List V) (es : List (Edge V)) → AllNamed N xs → AllEdges (EdgeNamed N AnyBlock) es → branch_knows l (map r xs) (map re es) ≡ branch_knows k xs es
  knows_same xs es n m =
      ap (λ ys. unless_lacking (knows (map l.of ys)) (knows (map l.of (map r xs)))) (gives_renamed r same_block es)
      ∙ ap (λ ts. unless_lacking (knows ts) (knows (map l.of (map r xs)))) (facts_same (all_forwarded es) (gives_named es m))
      ∙ ap (λ ts. unless_lacking (knows (map k.of (all_forwarded es))) (knows ts)) (facts_same xs n)

  folds_same : (a : Arith) (w : ℕ) (x y : V) → N x → N y → folds_to a w (l.of (r x)) (l.of (r y)) ≡ folds_to a w (k.of x) (k.of y)
  folds_same a w x y n m = ap (λ t. folds_to a w t (l.of (r y))) (of x n) ∙ ap (folds_to a w (k.of x)) (of y m)

  op_there : (op : Op V) → OpNamed N AnyBlock op → OpClosed g k op → OpClosed q l (rename_op r same_block op)
  op_there (Const v i) n h = subst (λ t. FactAtOrBelow t (Known i)) (sym (of v n)) h
  op_there (Calc a w v x y) n h = subst (FactAtOrBelow (l.of (r v))) (sym (folds_same a w x y n.1 n.2)) (subst (λ t. FactAtOrBelow t (folds_to a w (k.of x) (k.of y))) (sym (of v n.0)) h)
  op_there (Emit x) n h = tt
  op_there (Call vs c xs) n h = (unknown_both vs n.0).0 h
  op_there (Branch s xs e es) n h =
      subst (λ t. BranchClosedIn q l s t (re e) (map re es)) (sym (knows_same xs (e ∷ es) n.0 n.1)) (branch_there s (branch_knows k xs (e ∷ es)) e es n.1 h)
  op_there (Return xs) n h = tt

  op_back : (op : Op V) → OpNamed N AnyBlock op → OpClosed q l (rename_op r same_block op) → OpClosed g k op
  op_back (Const v i) n h = subst (λ t. FactAtOrBelow t (Known i)) (of v n) h
  op_back (Calc a w v x y) n h = subst (FactAtOrBelow (k.of v)) (folds_same a w x y n.1 n.2) (subst (λ t. FactAtOrBelow t (folds_to a w (l.of (r x)) (l.of (r y)))) (of v n.0) h)
  op_back (Emit x) n h = tt
  op_back (Call vs c xs) n h = (unknown_both vs n.0).1 h
  op_back (Branch s xs e es) n h =
      branch_back s (branch_knows k xs (e ∷ es)) e es n.1 (subst (λ t. BranchClosedIn q l s t (re e) (map re es)) (knows_same xs (e ∷ es) n.0 n.1) h)
  op_back (Return xs) n h = tt

  ops_there : (ops : List (Op V)) → OpsNamed N AnyBlock ops → OpsClosed g k ops → OpsClosed q l (map (rename_op r same_block) ops)
  ops_there [] n h = tt
  ops_there (op ∷ ops) n h = (op_there op n.0 h.0, ops_there ops n.1 h.1)

  ops_back : (ops : List (Op V)) → OpsNamed N AnyBlock ops → OpsClosed q l (map (rename_op r same_block) ops) → OpsClosed g k ops
  ops_back [] n h = tt
  ops_back (op ∷ ops) n h = (op_back op n.0 h.0, ops_back ops n.1 h.1)

  pub closed_there : AreClosedFacts g k → AreClosedFacts q l
  closed_there c =
      record {
        entry_runs = runs 0 ∙ c.entry_runs;
        entry_unknown = subst (AllUnknown l) (sym (arguments 0)) ((unknown_both (arguments_in g 0) (takes_named 0)).0 c.entry_unknown);
        ops = λ b h. subst (OpsClosed q l) (sym (left b)) (ops_there (left_in g b 0) (ops_named b) (c.ops b (sym (runs b) ∙ h)));
      }

  pub closed_back : AreClosedFacts q l → AreClosedFacts g k
  closed_back c =
      record {
        entry_runs = sym (runs 0) ∙ c.entry_runs;
        entry_unknown = (unknown_both (arguments_in g 0) (takes_named 0)).1 (subst (AllUnknown l) (arguments 0) c.entry_unknown);
        ops = λ b h. ops_back (left_in g b 0) (ops_named b) (subst (OpsClosed q l) (left b) (c.ops b (runs b ∙ h)));
      }

-- facts of places as facts of names, and back; what has no place or no name is undetermined

abbrev fact_at : FunctionFacts Place → Option Place → Fact
fact_at l None = Undetermined
fact_at l (Some a) = l.of a

abbrev pub fact_named : {V : Type 0} → FunctionFacts V → Option V → Fact
fact_named k None = Undetermined
fact_named k (Some v) = k.of v

pub at_top : (z : Fact) → FactAtOrBelow z Undetermined
at_top Undetermined = tt
at_top (Known n) = tt
at_top Unknown = tt

module _ {V : Type 0} (same : V → V → Bool) (law : IsSameness same) where
  abbrev place_at : Option (Fun V) → V → Option Place
  place_at None v = None
  place_at (Some f) v = place_in_blocks same 0 v f

  -- the facts of places, said of the names
  abbrev pub by_name : Option (Fun V) → FunctionFacts Place → FunctionFacts V
  by_name g l = record { runs = l.runs; of = λ v. fact_at l (place_at g v) }

  abbrev pub by_place : Option (Fun V) → FunctionFacts V → FunctionFacts Place
  by_place g k = record { runs = k.runs; of = λ a. fact_named k (name_at g a) }

  pub by_name_of : (g : Option (Fun V)) (l : FunctionFacts Place) (v : V) → HasPlace same g v → l.of (place_name same law g v) ≡ (by_name g l).of v
  by_name_of None l v h = absurd h
  by_name_of (Some g) l v h = ap (λ o. l.of (unwrap_or o (Arg 0 0))) h.1 ∙ sym (ap (fact_at l) h.1)

  pub by_place_of : (g : Option (Fun V)) (k : FunctionFacts V) (v : V) → HasPlace same g v → (by_place g k).of (place_name same law g v) ≡ k.of v
  by_place_of None k v h = absurd h
  by_place_of (Some g) k v h =
      ap (λ o. fact_named k (name_at (Some g) (unwrap_or o (Arg 0 0)))) h.1 ∙ ap (fact_named k) (at_place same law g v h.0 h.1)

  -- the most precise facts of places are the most precise ones of the names
  pub best_by_name : (g : Option (Fun V)) → NamesAreDefined same g → (l : FunctionFacts Place) → AreMostPreciseFacts (place_fun same g) l → AreMostPreciseFacts g (by_name g l)
  best_by_name g d l best =
      record {
        closed = closed_back (place_name same law g) (HasPlace same g) g (place_fun same g) (place_takes same law g) (place_left same law g) d.arguments d.ops (by_name g l) l (λ b. refl) (by_name_of g l) best.closed;
        best = λ k c.
            let m = best.best (by_place g k) (closed_there (place_name same law g) (HasPlace same g) g (place_fun same g) (place_takes same law g) (place_left same law g) d.arguments d.ops k (by_place g k) (λ b. refl) (by_place_of g k) c) in
            record { fewer = m.fewer; above = λ v. above g k m v };
      }
    where
      above : (g : Option (Fun V)) (k : FunctionFacts V) → FactsMorePrecise l (by_place g k) → (v : V) → FactAtOrBelow (k.of v) ((by_name g l).of v)
      above None k m v = at_top (k.of v)
      above (Some g) k m v = by_found (place_in_blocks same 0 v g) refl
        where
          by_found : (o : Option Place) → place_in_blocks same 0 v g ≡ o → FactAtOrBelow (k.of v) (fact_at l o)
          by_found None e = at_top (k.of v)
          by_found (Some a) e = subst (λ t. FactAtOrBelow t (l.of a)) (ap (fact_named k) (at_place same law g v a e)) (m.above a)

  -- closed facts of names, said of the places, and back
  pub place_closed : (g : Option (Fun V)) → NamesAreDefined same g → (k : FunctionFacts V) → AreClosedFacts g k → AreClosedFacts (place_fun same g) (by_place g k)
  place_closed g d k c =
      closed_there (place_name same law g) (HasPlace same g) g (place_fun same g) (place_takes same law g) (place_left same law g) d.arguments d.ops k (by_place g k) (λ b. refl) (by_place_of g k) c

  pub name_closed : (g : Option (Fun V)) → NamesAreDefined same g → (l : FunctionFacts Place) → AreClosedFacts (place_fun same g) l → AreClosedFacts g (by_name g l)
  name_closed g d l c =
      closed_back (place_name same law g) (HasPlace same g) g (place_fun same g) (place_takes same law g) (place_left same law g) d.arguments d.ops (by_name g l) l (λ b. refl) (by_name_of g l) c
