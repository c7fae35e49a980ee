-- Uses and candidates of a flat function, operation by operation.
use Rattle.std.proofs.Common.{◌≡◌, ⊎_elim, inl, inr, ℕ, zero, suc, Bool, true, false, List, [], ◌∷◌, ◌++◌, Option, Some, refl, sym, ap, ◌∙◌, subst}
use Rattle.std.specs.Prelude.{slice_get, if◌then◌else◌, not, ◌&&◌}
use Rattle.opt_trees.specs.Occurrences.{Has}
use Rattle.opt_trees.proofs.Lists.{some_same, none_some}
use Rattle.opt_trees.proofs.NoneDead.{has-append, has-left, has-right}
use Rattle.kit_behaviour.specs.Machine.{AllEdges, Edge, Op, Const, Calc, Emit, Call, Branch, Return, Block, Fun, ops_left, left_in}
use Rattle.kit_behaviour.specs.RemovedValues.{may_trap}
use Rattle.kit_behaviour.specs.DeadValues.{use_dead, ops_use_dead, blocks_use_dead, pure_results, candidates}
use Rattle.kit_behaviour.specs.Rules.{EdgeFits, EdgesOfOpFit, AllEdgesFit}
use Rattle.kit_behaviour.specs.Scopes.{SameLength}

pub and_both : (b c : Bool) → b ≡ true → c ≡ true → b && c ≡ true
and_both true true e g = refl
and_both true false e g = g
and_both false c e g = e

pub and_left : (b c : Bool) → b && c ≡ true → b ≡ true
and_left true c h = refl
and_left false c h = h

pub and_right : (b c : Bool) → b && c ≡ true → c ≡ true
and_right true c h = h
and_right false c h = absurd (cc h)

pub true_false : (b : Bool) → b ≡ true → b ≡ false → ⊥
true_false b e f = let x : true ≡ false = sym e ∙ f in absurd (cc x)

pub not_true : (b : Bool) → (b ≡ true → ⊥) → not b ≡ true
not_true true h = absurd (h refl)
not_true false h = refl

pub not_false : (b : Bool) → not b ≡ true → b ≡ true → ⊥
not_false b n h = let x : false ≡ true = ap not (sym h) ∙ n in absurd (cc x)

pub bool_same : (b c : Bool) → (b ≡ true → c ≡ true) → (c ≡ true → b ≡ true) → b ≡ c
bool_same true c f g = sym (f refl)
bool_same false true f g = g refl
bool_same false false f g = refl

module _ {V : Type 0} (same : V → V → Bool) (F : Option (Fun V)) (E : V → Bool) (v : V) where
  ops_all : (ps : List (Op V)) → ((p : Op V) → Has p ps → use_dead same F E v p ≡ true) → ops_use_dead same F E v ps ≡ true
  ops_all [] h = refl
  ops_all (p ∷ ps) h = and_both _ _ (h p (inl refl)) (ops_all ps (λ q i. h q (inr i)))

  ops_each : (ps : List (Op V)) → ops_use_dead same F E v ps ≡ true → (p : Op V) → Has p ps → use_dead same F E v p ≡ true
  ops_each [] h p i = absurd i
  ops_each (q ∷ ps) h p i =
      ⊎_elim (λ e. ap (use_dead same F E v) e ∙ and_left (use_dead same F E v q) (ops_use_dead same F E v ps) h)
      (λ j. ops_each ps (and_right (use_dead same F E v q) (ops_use_dead same F E v ps) h) p j) i

  pub blocks_all : (ks : List (Block V)) → ((b : ℕ) (k : Block V) → slice_get ks b ≡ Some k → (p : Op V) → Has p k.ops → use_dead same F E v p ≡ true) → blocks_use_dead same F E v ks ≡ true
  blocks_all [] h = refl
  blocks_all (k ∷ ks) h = and_both _ _ (ops_all k.ops (h 0 k refl)) (blocks_all ks (λ b j e. h (suc b) j e))

  pub blocks_each : (ks : List (Block V)) → blocks_use_dead same F E v ks ≡ true → (b : ℕ) (k : Block V) → slice_get ks b ≡ Some k → (p : Op V) → Has p k.ops → use_dead same F E v p ≡ true
  blocks_each [] h b k e p i = absurd (none_some k e)
  blocks_each (j ∷ ks) h zero k e p i =
      ops_each j.ops (and_left (ops_use_dead same F E v j.ops) (blocks_use_dead same F E v ks) h) p (subst (λ (z : Block V). Has p z.ops) (sym (some_same j k e)) i)
  blocks_each (j ∷ ks) h (suc b) k e p i = blocks_each ks (and_right (ops_use_dead same F E v j.ops) (blocks_use_dead same F E v ks) h) b k e p i

-- the operation has no side effects, and v is its result
abbrev pub IsPure : {V : Type 0} → V → Op V → Type 0
IsPure v (Const r n) = v ≡ r
IsPure v (Calc a w r x y) = (may_trap a ≡ false) × (v ≡ r)
IsPure v (Emit x) = ⊥
IsPure v (Call rs c xs) = ⊥
IsPure v (Branch s xs e es) = ⊥
IsPure v (Return xs) = ⊥

module _ {V : Type 0} where
  record PureIn (v : V) (ps : List (Op V)) : Type 0 where
    op : Op V
    stands : Has op ps
    pure : IsPure v op

  pure_in : (v : V) (ps : List (Op V)) → Has v (pure_results ps) → PureIn v ps
  pure_in v [] h = absurd h
  pure_in v (Const r n ∷ ps) h =
      ⊎_elim (λ e. record { op = Const r n; stands = inl refl; pure = e }) (λ i. let q = pure_in v ps i in record { op = q.op; stands = inr q.stands; pure = q.pure }) h
  pure_in v (Calc a w r x y ∷ ps) h = by_test (may_trap a) refl h (pure_in v ps)
    where
      by_test : (b : Bool) → may_trap a ≡ b → Has v (if b then pure_results ps else r ∷ pure_results ps) → (Has v (pure_results ps) → PureIn v ps) → PureIn v (Calc a w r x y ∷ ps)
      by_test true e i ih = let q = ih i in record { op = q.op; stands = inr q.stands; pure = q.pure }
      by_test false e i ih = ⊎_elim (λ g. record { op = Calc a w r x y; stands = inl refl; pure = (e, g) }) (λ j. let q = ih j in record { op = q.op; stands = inr q.stands; pure = q.pure }) i
  pure_in v (Emit x ∷ ps) h = let q = pure_in v ps h in record { op = q.op; stands = inr q.stands; pure = q.pure }
  pure_in v (Call rs c xs ∷ ps) h = let q = pure_in v ps h in record { op = q.op; stands = inr q.stands; pure = q.pure }
  pure_in v (Branch s xs e es ∷ ps) h = let q = pure_in v ps h in record { op = q.op; stands = inr q.stands; pure = q.pure }
  pure_in v (Return xs ∷ ps) h = let q = pure_in v ps h in record { op = q.op; stands = inr q.stands; pure = q.pure }

  pure_is : (v : V) (ps : List (Op V)) (p : Op V) → Has p ps → IsPure v p → Has v (pure_results ps)
  pure_is v [] p h i = absurd h
  pure_is v (q ∷ ps) p h i = ⊎_elim (λ e. here q (subst (IsPure v) e i)) (λ j. there q (pure_is v ps p j i)) h
    where
      here : (q : Op V) → IsPure v q → Has v (pure_results (q ∷ ps))
      here (Const r n) k = inl k
      here (Calc a w r x y) k = subst (λ b. Has v (if b then pure_results ps else r ∷ pure_results ps)) (sym k.0) (inl k.1)
      here (Emit x) k = absurd k
      here (Call rs c xs) k = absurd k
      here (Branch s xs e es) k = absurd k
      here (Return xs) k = absurd k

      there : (q : Op V) → Has v (pure_results ps) → Has v (pure_results (q ∷ ps))
      there (Const r n) k = inr k
      there (Calc a w r x y) k = by_test (may_trap a) k
        where
          by_test : (b : Bool) → Has v (pure_results ps) → Has v (if b then pure_results ps else r ∷ pure_results ps)
          by_test true k = k
          by_test false k = inr k
      there (Emit x) k = k
      there (Call rs c xs) k = k
      there (Branch s xs e es) k = k
      there (Return xs) k = k

  -- an argument of a block, or the result of an operation without side effects
  pub data Candidate (v : V) (ks : List (Block V)) : Type 0 where
    argument : (b : ℕ) (k : Block V) → slice_get ks b ≡ Some k → Has v k.arguments → Candidate v ks
    result : (b : ℕ) (k : Block V) (p : Op V) → slice_get ks b ≡ Some k → Has p k.ops → IsPure v p → Candidate v ks

  next_candidate : (v : V) (j : Block V) (ks : List (Block V)) → Candidate v ks → Candidate v (j ∷ ks)
  next_candidate v j ks (argument b k e i) = argument (suc b) k e i
  next_candidate v j ks (result b k p e i q) = result (suc b) k p e i q

  pub candidate_is : (v : V) (ks : List (Block V)) → Has v (candidates ks) → Candidate v ks
  candidate_is v [] h = absurd h
  candidate_is v (k ∷ ks) h =
      ⊎_elim (λ i. argument 0 k refl i)
      (λ i. ⊎_elim (λ j. let q = pure_in v k.ops j in result 0 k q.op refl q.stands q.pure) (λ j. next_candidate v k ks (candidate_is v ks j)) (has-append v (pure_results k.ops) (candidates ks) i))
      (has-append v k.arguments (pure_results k.ops ++ candidates ks) h)

  pub argument_candidate : (v : V) (ks : List (Block V)) (b : ℕ) (k : Block V) → slice_get ks b ≡ Some k → Has v k.arguments → Has v (candidates ks)
  argument_candidate v [] b k e i = absurd (none_some k e)
  argument_candidate v (j ∷ ks) zero k e i = has-left v j.arguments (pure_results j.ops ++ candidates ks) (subst (λ (z : Block V). Has v z.arguments) (sym (some_same j k e)) i)
  argument_candidate v (j ∷ ks) (suc b) k e i = has-right v j.arguments (pure_results j.ops ++ candidates ks) (has-right v (pure_results j.ops) (candidates ks) (argument_candidate v ks b k e i))

  pub result_candidate : (v : V) (ks : List (Block V)) (b : ℕ) (k : Block V) (p : Op V) → slice_get ks b ≡ Some k → Has p k.ops → IsPure v p → Has v (candidates ks)
  result_candidate v [] b k p e i q = absurd (none_some k e)
  result_candidate v (j ∷ ks) zero k p e i q = has-right v j.arguments (pure_results j.ops ++ candidates ks) (has-left v (pure_results j.ops) (candidates ks) (pure_is v j.ops p (subst (λ (z : Block V). Has p z.ops) (sym (some_same j k e)) i) q))
  result_candidate v (j ∷ ks) (suc b) k p e i q = has-right v j.arguments (pure_results j.ops ++ candidates ks) (has-right v (pure_results j.ops) (candidates ks) (result_candidate v ks b k p e i q))

  fits_each : (F : Option (Fun V)) (ps : List (Op V)) → AllEdgesFit F ps → (p : Op V) → Has p ps → EdgesOfOpFit F p
  fits_each F [] h p i = absurd i
  fits_each F (q ∷ ps) h p i = ⊎_elim (λ e. subst (EdgesOfOpFit F) (sym e) h.0) (λ j. fits_each F ps h.1 p j) i

  pub edges_fit : (F : Option (Fun V)) (ks : Fun V) → ((b : ℕ) → AllEdgesFit F (left_in (Some ks) b 0)) → (b : ℕ) (k : Block V) → slice_get ks b ≡ Some k → (p : Op V) → Has p k.ops → EdgesOfOpFit F p
  edges_fit F ks h b k e p i = fits_each F k.ops (subst (λ o. AllEdgesFit F (ops_left o 0)) e (h b)) p i

  pub edge_fits : (F : Option (Fun V)) (es : List (Edge V)) → AllEdges (EdgeFits F) es → (j : ℕ) (e : Edge V) → slice_get es j ≡ Some e → EdgeFits F e
  edge_fits F [] h j e q = absurd (none_some e q)
  edge_fits F (x ∷ es) h zero e q = subst (EdgeFits F) (some_same x e q) h.0
  edge_fits F (x ∷ es) h (suc j) e q = edge_fits F es h.1 j e q

  -- what is forwarded has an argument
  pub has_partner : (ts gs : List V) → SameLength ts gs → (p : ℕ) (v : V) → slice_get gs p ≡ Some v → (a : V) × (slice_get ts p ≡ Some a)
  has_partner [] [] s p v e = absurd (none_some v e)
  has_partner [] (g ∷ gs) s p v e = absurd s
  has_partner (t ∷ ts) [] s p v e = absurd s
  has_partner (t ∷ ts) (g ∷ gs) s zero v e = (t, refl)
  has_partner (t ∷ ts) (g ∷ gs) s (suc p) v e = has_partner ts gs s p v e
