-- The decisions of the operations of a list.
use Rattle.std.proofs.Common.{◌≡◌, ◌≢◌, ℕ, zero, suc, ◌+◌, ◌≤◌, List, [], ◌∷◌, ◌++◌, length, take, Option, Some, None, option_map, slice_get, refl, sym, ap, ◌∙◌, subst, arith}
use Rattle.std.specs.Prelude.{IsSome, is_some, if◌then◌else◌, true, false}
use Rattle.ir_program.specs.Program.{Program, operation_at}
use Rattle.ir_program.specs.Lists.{StandsInside, itself, in_block, in_region, in_operation}
use Rattle.ir_program.specs.declared.handles.IRNode.{IRNode}
use Rattle.ir_program.specs.declared.handles.IRNode.TheVariants.{Operation as OperationNode}
use Rattle.ir_program.specs.declared.handles.Ptr.{Ptr}
use Rattle.ir_program.specs.declared.handles.Operation.{Operation}
use Rattle.ir_trees.specs.Searched.{Lists, AreDistinct}
use Rattle.opt_trees.specs.Occurrences.{cons_if}
use Rattle.ir_trees.specs.Stands.{in_program}
use Rattle.opt_trees.specs.Dialect.{Dialect}
use Rattle.opt_inside.specs.Numbered.{Numbers, NumbersInside}
use Rattle.opt_inside.specs.Occurring.{IsBelowRoot}
use Rattle.opt_decide.specs.Planned.{decisions_of, picked_edge, decided_edge, AreDecisions}
use Rattle.opt_decide.specs.declared.plan.Decision.{Decision}
use Rattle.opt_decide.proofs.Filled.{take_next, take_all}

abbrev decision : Ptr Operation → ℕ → Decision
decision p e = record { op = p; edge = e }

abbrev pub decision_of : Ptr Operation → Option ℕ → Option Decision
decision_of p e = option_map (λ i. record { op = p; edge = i }) e

module _ (f : Ptr Operation → Option ℕ) where
  of_both : (ps qs : List (Ptr Operation)) → decisions_of f (ps ++ qs) ≡ decisions_of f ps ++ decisions_of f qs
  of_both [] qs = refl
  of_both (p ∷ ps) qs = ap (λ ds. cons_if (decision_of p (f p)) ds) (of_both ps qs) ∙ front (decision_of p (f p))
    where
      front : (o : Option Decision) → cons_if o (decisions_of f ps ++ decisions_of f qs) ≡ cons_if o (decisions_of f ps) ++ decisions_of f qs
      front None = refl
      front (Some d) = refl

  nothing_behind : {X : Type 0} (xs : List X) → xs ++ [] ≡ xs
  nothing_behind [] = refl
  nothing_behind (x ∷ xs) = ap (λ ys. x ∷ ys) (nothing_behind xs)

  -- one operation more
  pub decision_more : (ps : List (Ptr Operation)) (i : ℕ) (p : Ptr Operation) (e : ℕ) (ds ds' : List Decision) → slice_get ps i ≡ Some p → f p ≡ Some e → ds' ≡ ds ++ record { op = p; edge = e } ∷ [] → ds ≡ decisions_of f (take i ps) → ds' ≡ decisions_of f (take (i + 1) ps)
  decision_more ps i p e ds ds' at is pushed done =
      pushed ∙ ap (λ xs. xs ++ record { op = p; edge = e } ∷ []) done
      ∙ ap (λ o. decisions_of f (take i ps) ++ cons_if (decision_of p o) []) (sym is)
      ∙ sym (of_both (take i ps) (p ∷ [])) ∙ ap (decisions_of f) (sym (take_next ps i p at))

  pub decision_none : (ps : List (Ptr Operation)) (i : ℕ) (p : Ptr Operation) (ds : List Decision) → slice_get ps i ≡ Some p → f p ≡ None → ds ≡ decisions_of f (take i ps) → ds ≡ decisions_of f (take (i + 1) ps)
  decision_none ps i p ds at is done =
      done ∙ sym (nothing_behind (decisions_of f (take i ps)))
      ∙ ap (λ o. decisions_of f (take i ps) ++ cons_if (decision_of p o) []) (sym is)
      ∙ sym (of_both (take i ps) (p ∷ [])) ∙ ap (decisions_of f) (sym (take_next ps i p at))

  pub decisions_all : (ps : List (Ptr Operation)) (i : ℕ) (ds : List Decision) → length ps ≤ i → ds ≡ decisions_of f (take i ps) → ds ≡ decisions_of f ps
  decisions_all ps i ds h done = done ∙ ap (decisions_of f) (take_all ps i h)

  abbrev pub IsOf : List (Ptr Operation) → Decision → Type 0
  IsOf ps x = (k : ℕ) × (slice_get ps k ≡ Some x.op) × (f x.op ≡ Some x.edge)

  behind : (p : Ptr Operation) (ps : List (Ptr Operation)) (x : Decision) → IsOf ps x → IsOf (p ∷ ps) x
  behind p ps x r = (suc r.0, r.1, r.2)

  first_of : (p : Ptr Operation) (ps : List (Ptr Operation)) (x : Decision) (o : Option ℕ) → f p ≡ o → ((i : ℕ) → slice_get (decisions_of f ps) i ≡ Some x → IsOf ps x)
      → (i : ℕ) → slice_get (cons_if (decision_of p o) (decisions_of f ps)) i ≡ Some x → IsOf (p ∷ ps) x
  first_of p ps x None is later i g = behind p ps x (later i g)
  first_of p ps x (Some e) is later zero g =
      let one : Decision = record { op = p; edge = e } in
      let s : Some one ≡ Some x = g in
      let q : one ≡ x = cc in
      (zero, ap (λ (d : Decision). Some d.op) q, subst (λ (d : Decision). f d.op ≡ Some d.edge) q is)
  first_of p ps x (Some e) is later (suc i) g = behind p ps x (later i g)

  -- each decision is of an operation of the list
  pub decision_at : (ps : List (Ptr Operation)) (j : ℕ) (x : Decision) → slice_get (decisions_of f ps) j ≡ Some x → IsOf ps x
  decision_at [] j x h = cc
  decision_at (p ∷ ps) j x h = first_of p ps x (f p) refl (λ i g. decision_at ps i x g) j h

  pub decision_there : (ps : List (Ptr Operation)) (k : ℕ) (p : Ptr Operation) (e : ℕ) → slice_get ps k ≡ Some p → f p ≡ Some e → Lists (decisions_of f ps) (record { op = p; edge = e })
  decision_there [] k p e at is = cc
  decision_there (q ∷ ps) zero p e at is =
      let s : Some q ≡ Some p = at in
      let same : q ≡ p = cc in
      (zero, ap (λ o. slice_get (cons_if (decision_of q o) (decisions_of f ps)) zero) (ap f same ∙ is) ∙ ap (λ z. Some (record { op = z; edge = e })) same)
  decision_there (q ∷ ps) (suc k) p e at is = front (f q) (decision_there ps k p e at is)
    where
      front : (o : Option ℕ) → Lists (decisions_of f ps) (record { op = p; edge = e }) → Lists (cons_if (decision_of q o) (decisions_of f ps)) (record { op = p; edge = e })
      front None l = l
      front (Some i) l = (suc l.0, l.1)

  -- the decisions of distinct operations are of distinct ones
  rest_distinct : (p : Ptr Operation) (ps : List (Ptr Operation)) → AreDistinct (p ∷ ps) → AreDistinct ps
  rest_distinct p ps once j k x g h = let e = once (suc j) (suc k) x g h in omega (arith, e)

  abbrev AreApart : List Decision → Type 0
  AreApart ds = (j k : ℕ) (x y : Decision) → slice_get ds j ≡ Some x → slice_get ds k ≡ Some y → x.op ≡ y.op → j ≡ k

  not_later : (p : Ptr Operation) (ps : List (Ptr Operation)) → AreDistinct (p ∷ ps) → (e : ℕ) (x y : Decision) (k : ℕ) → Some (decision p e) ≡ Some x → slice_get (decisions_of f ps) k ≡ Some y → x.op ≡ y.op → ⊥
  not_later p ps once e x y k g h same =
      let r = decision_at ps k y h in
      let q : decision p e ≡ x = cc in
      let here : p ≡ y.op = ap (λ (d : Decision). d.op) q ∙ same in
      let z = once zero (suc r.0) y.op (ap Some here) r.1 in
      omega (arith, z)

  apart_first : (p : Ptr Operation) (ps : List (Ptr Operation)) (o : Option ℕ) → AreDistinct (p ∷ ps) → AreApart (decisions_of f ps) → AreApart (cons_if (decision_of p o) (decisions_of f ps))
  apart_first p ps None once rest j k x y g h same = rest j k x y g h same
  apart_first p ps (Some e) once rest zero zero x y g h same = refl
  apart_first p ps (Some e) once rest zero (suc k) x y g h same = absurd (not_later p ps once e x y k g h same)
  apart_first p ps (Some e) once rest (suc j) zero x y g h same = absurd (not_later p ps once e y x j h g (sym same))
  apart_first p ps (Some e) once rest (suc j) (suc k) x y g h same = ap suc (rest j k x y g h same)

  pub decisions_apart : (ps : List (Ptr Operation)) → AreDistinct ps → AreApart (decisions_of f ps)
  decisions_apart [] once j k x y g h same = cc
  decisions_apart (p ∷ ps) once j k x y g h same = apart_first p ps (f p) once (decisions_apart ps (rest_distinct p ps once)) j k x y g h same

module _ {O B : Type 0} (c : Program O B) (op : Ptr Operation) where
  there : (x : IRNode) → StandsInside c (OperationNode op) x → (p : Ptr Operation) → x ≡ OperationNode p → p ≢ op → IsSome (operation_at c p)
  there _ itself p e ne = let q : p ≡ op = cc in absurd (ne q)
  there _ (in_block q b s i) p e ne = let same : q ≡ p = cc in subst (λ x. IsSome (operation_at c x)) same s.operation
  there _ (in_region b r s i) p e ne = cc
  there _ (in_operation r q s i) p e ne = cc

  -- an operation below the root is there
  pub below_there : (p : Ptr Operation) → IsBelowRoot c op p → IsSome (operation_at c p)
  below_there p below = there (OperationNode p) below.inside p refl below.other

module _ {O B A : Type 0} (d : Dialect (in_program O B) A) (c : Program O B) (op : Ptr Operation) where
  -- without an unconditional branch there are none
  pub no_decisions : is_some d.plain ≡ false → (ds : List Decision) → ds ≡ [] → AreDecisions d c op ds
  no_decisions none ds e = subst (AreDecisions d c op) (sym e) (record {
    below = λ x l. let s = l.1 in cc;
    sound = λ x l. let s = l.1 in cc;
    all = λ p i below is. let s : None ≡ Some i = sym (ap (λ b. if b then picked_edge d c p else None) none) ∙ is in cc;
    once = λ j k x y g h same. cc;
  })

  module _ (n : Numbers) (inside : NumbersInside c op n) (plain : is_some d.plain ≡ true) where
    abbrev f : Ptr Operation → Option ℕ
    f p = picked_edge d c p

    picks : (p : Ptr Operation) → decided_edge d c p ≡ picked_edge d c p
    picks p = ap (λ b. if b then picked_edge d c p else None) plain

    -- the decisions of what is numbered
    pub are_decisions : (ds : List Decision) → ds ≡ decisions_of (picked_edge d c) n.operations → AreDecisions d c op ds
    are_decisions ds e = subst (AreDecisions d c op) (sym e) (record {
      below = λ x l. let r = decision_at f n.operations l.0 x l.1 in (inside.operations x.op).0 (r.0, r.1);
      sound = λ x l. let r = decision_at f n.operations l.0 x l.1 in picks x.op ∙ r.2;
      all = λ p i below is. let l = (inside.operations p).1 below in decision_there f n.operations l.0 p i l.1 (sym (picks p) ∙ is);
      once = decisions_apart f n.operations inside.operations_once;
    })
