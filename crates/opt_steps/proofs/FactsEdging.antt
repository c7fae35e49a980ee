-- What marking the targets of feasible edges and taking edges keeps.
use Rattle.std.proofs.Common.{◌≡◌, ◌⊎◌, inl, inr, ⊎_elim, ℕ, ◌+◌, ◌<◌, ◌≤◌, List, [], Option, Some, None, Bool, true, false, length, get_or, take, refl, sym, ap, ◌∙◌, subst, arith, nat_eq, eq-eqb}
use Rattle.std.specs.Prelude.{Contains, slice_get, option_map}
use Rattle.std.specs.Option.{option_eq}
use Rattle.std.proofs.Math.ListN.{set}
use Rattle.std.proofs.lemmas.Option.{slice_get_within, slice_get-map, none-some, same_Some}
use Rattle.std.proofs.lemmas.List.{length-set}
use Rattle.opt_rows.specs.declared.known.Known.{Known}
use Rattle.opt_rows.specs.OperationRows.{BranchEdge, Row, row_numbered, edge_numbered}
use Rattle.opt_rows.specs.declared.facts_problem.FactsProblem.{FactsProblem}
use Rattle.opt_rows.specs.declared.facts_found.Found.{Found}
use Rattle.opt_rows.specs.Known.{AtOrBelow}
use Rattle.opt_rows.specs.Rows.{row_at}
use Rattle.opt_rows.specs.Facts.{Answers, IsProblem, NumberedFacts, arguments_of, picked, ForwardedBelow, RowEdgeClosed}
use Rattle.opt_rows.specs.FactsFound.{facts_of, Falls, Meets}
use Rattle.opt_steps.specs.FactsEdges.{IsTaken, Marks, ForwardsBelow, ForwardsLie, ForwardsAll, EdgeLies, TakesEdge, MarkedClosed, TakesMarkedEdges}
use Rattle.opt_rows.proofs.OperationLists.{row_contained, edge_contained}
use Rattle.opt_rows.proofs.Lists.{decide, same_numbers, get-set_same, get-set_other, table-set_same, table-set_other, get_take, get_from_take, get_more_cases, get_more_left}
use Rattle.opt_rows.proofs.FactsFalling.{at_trans, falls_none, falls_then, falls_when, falls_as}

module _ {A : Type 0} (ask : Answers A) (i : ℕ) (r : Row) (xs : List (Option A)) where
  pub marks_none : (old : List (Option ℕ)) → Marks ask i r xs 0 old old
  marks_none old = record {
    len = refl;
    keeps = λ b h. h;
    has = λ n e h. absurd (omega (arith, h));
    only = λ b j h. inl h;
  }

  -- the target of a feasible edge is marked
  pub mark_more : (n : ℕ) (e : BranchEdge) (old mid new : List (Option ℕ)) → slice_get r.edges n ≡ Some e → ask.feasible i xs n ≡ true → e.target < length mid → new ≡ set mid e.target (Some i) → Marks ask i r xs n old mid → Marks ask i r xs (n + 1) old new
  mark_more n e old mid new q f h d m = record {
    len = ap length d ∙ (length-set mid e.target (Some i) ∙ m.len);
    keeps = λ b h. stays b (m.keeps b h);
    has = λ k u l s g. ⊎_elim
        (λ t. subst (λ (y : BranchEdge). slice_get new y.target ≡ Some (Some i)) (same_Some e u (sym q ∙ (ap (slice_get r.edges) (sym t) ∙ s))) here)
        (λ t. stays u.target (m.has k u (omega (arith, l, t)) s g))
        (decide k n);
    only = λ b j s. ⊎_elim
        (λ t. inr (same_Some j i (same_Some (Some j) (Some i) (sym s ∙ (ap (slice_get new) t ∙ here))), record { index = n; edge = e; stands = q; leads = sym t; feasible = f }))
        (λ t. m.only b j (sym (other b t) ∙ s))
        (decide b e.target);
  }
    where
      here : slice_get new e.target ≡ Some (Some i)
      here = ap (λ ys. slice_get ys e.target) d ∙ get-set_same mid e.target (Some i) h

      other : (b : ℕ) → (b ≡ e.target → ⊥) → slice_get new b ≡ slice_get mid b
      other b t = ap (λ ys. slice_get ys b) d ∙ get-set_other mid e.target b (Some i) t

      stays : (b : ℕ) → slice_get mid b ≡ Some (Some i) → slice_get new b ≡ Some (Some i)
      stays b s = ⊎_elim (λ t. ap (slice_get new) t ∙ here) (λ t. other b t ∙ s) (decide b e.target)

  -- an edge that is not feasible
  pub mark_same : (n : ℕ) (e : BranchEdge) (old mid new : List (Option ℕ)) → slice_get r.edges n ≡ Some e → ask.feasible i xs n ≡ false → new ≡ mid → Marks ask i r xs n old mid → Marks ask i r xs (n + 1) old new
  mark_same n e old mid new q f d m = subst (Marks ask i r xs (n + 1) old) (sym d) (record {
    len = m.len;
    keeps = m.keeps;
    has = λ k u l s g. ⊎_elim
        (λ t. let no : true ≡ false = sym g ∙ (ap (ask.feasible i xs) t ∙ f) in absurd (cc no))
        (λ t. m.has k u (omega (arith, l, t)) s g)
        (decide k n);
    only = m.only;
  })

  pub marks_all : (n : ℕ) (old new : List (Option ℕ)) → length r.edges ≤ n → Marks ask i r xs n old new → Marks ask i r xs (length r.edges) old new
  marks_all n old new h m = record { len = m.len; keeps = m.keeps; has = λ k e l. m.has k e (omega (arith, l, h)); only = m.only }

picked_at : (operands forwards : List ℕ) (j u : ℕ) → slice_get (picked operands forwards) j ≡ Some (Some u) → (q : ℕ) × (slice_get forwards j ≡ Some q) × (slice_get operands q ≡ Some u)
picked_at operands forwards j u e = go (slice_get forwards j) refl
  where
    go : (o : Option ℕ) → slice_get forwards j ≡ o → (q : ℕ) × (slice_get forwards j ≡ Some q) × (slice_get operands q ≡ Some u)
    go None h = absurd (none-some (Some u) (sym (ap (option_map (λ q. slice_get operands q)) h) ∙ (sym (slice_get-map (λ q. slice_get operands q) forwards j) ∙ e)))
    go (Some q) h = (q, h, same_Some (slice_get operands q) (Some u) (sym (ap (option_map (λ q. slice_get operands q)) h) ∙ (sym (slice_get-map (λ q. slice_get operands q) forwards j) ∙ e)))

-- the target of an edge of an operation is a block
pub target_below : (p : FactsProblem) (i n target : ℕ) → IsProblem p → i < length p.rows → n < length (row_numbered p.rows i).edges → target ≡ (edge_numbered (row_numbered p.rows i).edges n).target → target < length p.arguments.items
target_below p i n target ok h l e =
    let r = row_numbered p.rows i in
    subst (λ b. b < length p.arguments.items) (sym e) ((ok.rows r (row_contained p.rows i h)).targets (edge_numbered r.edges n) (edge_contained r.edges n l))

module _ {A : Type 0} where
  -- what is forwarded, by the two ways to say it
  pub forwards_from : (k : NumberedFacts A) (arguments forwards operands : List ℕ) → ForwardedBelow k arguments (picked operands forwards) → ForwardsBelow arguments forwards operands k
  forwards_from k arguments forwards operands f v w t = (f t.index w v t.argument (slice_get-map (λ q. slice_get operands q) forwards t.index ∙ (ap (option_map (λ q. slice_get operands q)) t.forwards ∙ ap (λ y. Some y) t.value))).0

  pub forwards_to : (k : NumberedFacts A) (arguments forwards operands : List ℕ) → ForwardsBelow arguments forwards operands k → ForwardedBelow k arguments (picked operands forwards)
  forwards_to k arguments forwards operands f j w v e q = let t = picked_at operands forwards j v q in (f v w (record { index = j; argument = e; operand = t.0; forwards = t.1; value = t.2 }), tt)

  -- facts that fall further
  pub lie_stays : (D : NumberedFacts A → Type 0) (arguments forwards operands popped : List ℕ) (a b : Found A) → Falls D a b → ForwardsLie arguments forwards operands a popped → ForwardsLie arguments forwards operands b popped
  lie_stays D arguments forwards operands popped a b p f v w t = ⊎_elim
      (λ s. ⊎_elim
      (λ e. inl (at_trans ((facts_of b).of w) ((facts_of a).of w) ((facts_of b).of v) (p.falls.above w) (subst (AtOrBelow ((facts_of a).of w)) (sym e) s)))
      (λ e. inr (inl e))
      (p.value_waits v))
      (λ s. ⊎_elim (λ c. inr (inl (p.keeps_values v c))) (λ c. inr (inr c)) s)
      (f v w t)

  pub edge_stays : (D : NumberedFacts A → Type 0) (p : FactsProblem) (popped : List ℕ) (r : Row) (e : BranchEdge) (a b : Found A) → Falls D a b → EdgeLies p a popped r e → EdgeLies p b popped r e
  edge_stays D p popped r e a b f l = record {
    target = f.falls.fewer e.target l.target;
    arguments = lie_stays D (arguments_of p e.target) e.forwards r.operands popped a b f l.arguments;
  }

  pub forwards_none : (forwards operands : List ℕ) (a : Found A) → ForwardsAll [] forwards operands a a
  forwards_none forwards operands a = record {
    steps = falls_none (ForwardsBelow [] forwards operands) a;
    lie = λ v w t. absurd (none-some w t.argument);
  }

  -- the next argument is lowered
  pub forward_more : (arguments forwards operands : List ℕ) (n w q v : ℕ) (fact : Known A) (a b c : Found A) → n < length arguments → w ≡ get_or arguments n w → slice_get (take (n + 1) arguments) n ≡ Some w → slice_get forwards n ≡ Some q → slice_get operands q ≡ Some v → fact ≡ (facts_of b).of v
      → ForwardsAll (take n arguments) forwards operands a b → Meets (λ l. AtOrBelow (l.of w) fact) b c → ForwardsAll (take (n + 1) arguments) forwards operands a c
  forward_more arguments forwards operands n w q v fact a b c h e s f o i p m = record {
    steps = falls_then (ForwardsBelow (take (n + 1) arguments) forwards operands) a b c
        (falls_as (ForwardsBelow (take n arguments) forwards operands) (ForwardsBelow (take (n + 1) arguments) forwards operands) (λ l d u x t. d u x (record { index = t.index; argument = get_more_left arguments n w x t.index h e t.argument; operand = t.operand; forwards = t.forwards; value = t.value })) a b p.steps)
        (falls_when (λ l. AtOrBelow (l.of w) fact) (ForwardsBelow (take (n + 1) arguments) forwards operands) b c (λ l d k. subst (AtOrBelow (l.of w)) (sym i) (at_trans (l.of w) (l.of v) ((facts_of b).of v) (d v w (record { index = n; argument = s; operand = q; forwards = f; value = o })) (k.above v))) m.steps);
    lie = λ u x t. ⊎_elim
        (λ d. lie_stays (λ l. AtOrBelow (l.of w) fact) (take n arguments) forwards operands [] b c m.steps p.lie u x (record { index = t.index; argument = d; operand = t.operand; forwards = t.forwards; value = t.value }))
        (λ d. let j : t.operand ≡ q = same_Some t.operand q (sym t.forwards ∙ (ap (slice_get forwards) d.0 ∙ f)) in
        let g : v ≡ u = same_Some v u (sym o ∙ (ap (slice_get operands) (sym j) ∙ t.value)) in
        subst (λ y. AtOrBelow ((facts_of c).of x) ((facts_of c).of y) ⊎ (Contains c.values.items y ⊎ Contains [] y)) g
        (subst (λ y. AtOrBelow ((facts_of c).of y) ((facts_of c).of v) ⊎ (Contains c.values.items v ⊎ Contains [] v)) d.1
        (⊎_elim (λ z. inl (subst (AtOrBelow ((facts_of c).of w)) (i ∙ sym z) m.holds)) (λ z. inr (inl z)) (m.steps.value_waits v))))
        (get_more_cases arguments n w x t.index h e t.argument);
  }

  pub forward_all : (arguments forwards operands : List ℕ) (n : ℕ) (a b : Found A) → ((j : ℕ) → j < length arguments → j < length forwards → j < n) → ForwardsAll (take n arguments) forwards operands a b → ForwardsAll arguments forwards operands a b
  forward_all arguments forwards operands n a b h p = record {
    steps = falls_as (ForwardsBelow (take n arguments) forwards operands) (ForwardsBelow arguments forwards operands) (λ l d u x t. d u x (record { index = t.index; argument = get_from_take arguments n t.index x t.argument; operand = t.operand; forwards = t.forwards; value = t.value })) a b p.steps;
    lie = λ u x t. p.lie u x (record { index = t.index; argument = get_take arguments n t.index x t.argument (h t.index (slice_get_within arguments t.index x t.argument) (slice_get_within forwards t.index t.operand t.forwards)); operand = t.operand; forwards = t.forwards; value = t.value });
  }

  -- an edge is taken
  pub edge_taken : (p : FactsProblem) (r : Row) (e : BranchEdge) (arguments forwards operands : List ℕ) (a b c : Found A) → arguments ≡ arguments_of p e.target → forwards ≡ e.forwards → operands ≡ r.operands → Meets (λ l. l.runs e.target ≡ true) a b → ForwardsAll arguments forwards operands b c → TakesEdge p r e a c
  edge_taken p r e arguments forwards operands a b c x y z m f = record {
    steps = falls_then (λ l. RowEdgeClosed p l r e) a b c
        (falls_as (λ l. l.runs e.target ≡ true) (λ l. RowEdgeClosed p l r e) (λ l d. d.target) a b m.steps)
        (falls_as (ForwardsBelow (arguments_of p e.target) e.forwards r.operands) (λ l. RowEdgeClosed p l r e) (λ l d. forwards_from l (arguments_of p e.target) e.forwards r.operands d.arguments) b c g.steps);
    lies = record { target = g.steps.falls.fewer e.target m.holds; arguments = g.lie };
  }
    where
      g : ForwardsAll (arguments_of p e.target) e.forwards r.operands b c
      g = subst (λ us. ForwardsAll us e.forwards r.operands b c) x (subst (λ us. ForwardsAll arguments us r.operands b c) y (subst (λ us. ForwardsAll arguments forwards us b c) z f))

  module _ (p : FactsProblem) (i : ℕ) (r : Row) (marks : List (Option ℕ)) where
    pub no_edges : (taken : List (List Bool)) (a : Found A) → TakesMarkedEdges p i r marks 0 taken taken a a
    no_edges taken a = record {
      len = refl;
      edges_len = refl;
      others = λ j z. refl;
      steps = falls_none (MarkedClosed p i r marks) a;
      keeps = λ n h. h;
      has = λ n e h. absurd (omega (arith, h));
      only = λ n e q h. inl h;
    }

    -- the next edge leads to a marked block
    pub edge_more : (n : ℕ) (e : BranchEdge) (taken mid after : List (List Bool)) (a b c : Found A) → slice_get r.edges n ≡ Some e → slice_get marks e.target ≡ Some (Some i) → i < length mid → n < length (row_at mid i) → after ≡ set mid i (set (row_at mid i) n true) → TakesMarkedEdges p i r marks n taken mid a b → TakesEdge p r e b c → TakesMarkedEdges p i r marks (n + 1) taken after a c
    edge_more n e taken mid after a b c q k w h d m t = record {
      len = ap length d ∙ (length-set mid i (set (row_at mid i) n true) ∙ m.len);
      edges_len = ap length row ∙ (length-set (row_at mid i) n true ∙ m.edges_len);
      others = λ j z. ap (λ ts. row_at ts j) d ∙ (table-set_other mid i j (set (row_at mid i) n true) z ∙ m.others j z);
      steps = falls_then (MarkedClosed p i r marks) a b c m.steps (falls_as (λ l. RowEdgeClosed p l r e) (MarkedClosed p i r marks) (λ l g. g n e q k) b c t.steps);
      keeps = λ j g. stays j (m.keeps j g);
      has = λ j u l s g. ⊎_elim (λ z. subst (IsTaken after i) (sym z) here) (λ z. stays j (m.has j u (omega (arith, l, z)) s g)) (decide j n);
      only = λ j u s g. ⊎_elim
          (λ z. let v : e ≡ u = same_Some e u (sym q ∙ (ap (slice_get r.edges) (sym z) ∙ s)) in
          inr (subst (λ (y : BranchEdge). slice_get marks y.target ≡ Some (Some i)) v k, subst (EdgeLies p c [] r) v t.lies))
          (λ z. ⊎_elim (λ o. inl o) (λ o. inr (o.0, edge_stays (λ l. RowEdgeClosed p l r e) p [] r u b c t.steps o.1)) (m.only j u s (sym (other j z) ∙ g)))
          (decide j n);
    }
      where
        row : row_at after i ≡ set (row_at mid i) n true
        row = ap (λ ts. row_at ts i) d ∙ table-set_same mid i (set (row_at mid i) n true) w

        here : IsTaken after i n
        here = ap (λ ys. slice_get ys n) row ∙ get-set_same (row_at mid i) n true h

        other : (j : ℕ) → (j ≡ n → ⊥) → slice_get (row_at after i) j ≡ slice_get (row_at mid i) j
        other j z = ap (λ ys. slice_get ys j) row ∙ get-set_other (row_at mid i) n j true z

        stays : (j : ℕ) → IsTaken mid i j → IsTaken after i j
        stays j s = ⊎_elim (λ z. subst (IsTaken after i) (sym z) here) (λ z. other j z ∙ s) (decide j n)

    -- the next edge is taken already, or leads elsewhere
    pub edge_same : (n : ℕ) (e : BranchEdge) (taken mid after : List (List Bool)) (a b c : Found A) → slice_get r.edges n ≡ Some e → (slice_get marks e.target ≡ Some (Some i) → IsTaken mid i n) → after ≡ mid → c ≡ b → TakesMarkedEdges p i r marks n taken mid a b → TakesMarkedEdges p i r marks (n + 1) taken after a c
    edge_same n e taken mid after a b c q k d f m = subst (λ ys. TakesMarkedEdges p i r marks (n + 1) taken ys a c) (sym d) (subst (λ y. TakesMarkedEdges p i r marks (n + 1) taken mid a y) (sym f) (record {
      len = m.len;
      edges_len = m.edges_len;
      others = m.others;
      steps = m.steps;
      keeps = m.keeps;
      has = λ j u l s g. ⊎_elim
          (λ z. subst (IsTaken mid i) (sym z) (k (subst (λ (y : BranchEdge). slice_get marks y.target ≡ Some (Some i)) (same_Some u e (sym s ∙ (ap (slice_get r.edges) z ∙ q))) g)))
          (λ z. m.has j u (omega (arith, l, z)) s g)
          (decide j n);
      only = m.only;
    }))

    pub edges_all : (n : ℕ) (taken after : List (List Bool)) (a b : Found A) → length r.edges ≤ n → TakesMarkedEdges p i r marks n taken after a b → TakesMarkedEdges p i r marks (length r.edges) taken after a b
    edges_all n taken after a b h m = record { len = m.len; edges_len = m.edges_len; others = m.others; steps = m.steps; keeps = m.keeps; has = λ j e l. m.has j e (omega (arith, l, h)); only = m.only }

-- what a test of two numbers that may be missing says
pub marked_same : (x : Option ℕ) (i : ℕ) → option_eq nat_eq x (Some i) ≡ true → x ≡ Some i
marked_same None i e = absurd (cc (sym e))
marked_same (Some j) i e = ap (λ n. Some n) (same_numbers j i e)

pub marked_other : (x : Option ℕ) (i : ℕ) → option_eq nat_eq x (Some i) ≡ false → x ≡ Some i → ⊥
marked_other x i e q = let t = sym (ap (λ y. option_eq nat_eq y (Some i)) q) ∙ e in let s = eq-eqb i i refl in absurd (cc (sym s ∙ t))
