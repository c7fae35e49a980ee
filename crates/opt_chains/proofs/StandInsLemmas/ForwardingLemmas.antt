-- What is forwarded to the arguments of blocks, one after the other.
use Rattle.std.proofs.Common.{◌≡◌, inl, inr, ⊎_elim, ℕ, zero, suc, ◌≤◌, ◌+◌, List, [], ◌∷◌, length, take, Option, Some, None, IsSome, option_map, unwrap_or, replicate, slice_get, refl, sym, ap, ◌∙◌, subst, add-one, arith}
use Rattle.ir_program.specs.Program.{Program, TypedValue, OperationView, operation_at, block_at, arguments_at, value_in}
use Rattle.ir_program.specs.declared.handles.Ptr.{Ptr}
use Rattle.ir_program.specs.declared.handles.Operation.{Operation}
use Rattle.ir_program.specs.declared.handles.BasicBlock.{BasicBlock}
use Rattle.ir_program.specs.declared.handles.Value.{Value}
use Rattle.ir_trees.specs.Stands.{in_program}
use Rattle.opt_chains.specs.Merging.{AreJoins}
use Rattle.opt_chains.specs.declared.merging.Join.{Join}
use Rattle.opt_trees.specs.Dialect.{Dialect}
use Rattle.opt_trees.specs.Occurrences.{picks}
use Rattle.opt_chains.specs.stand_ins.Forwarded.{IsPaired, forwarded_by, IsForwarded}
use Rattle.opt_chains.specs.stand_ins.Tables.{IsGivenTable, Gives}
use Rattle.opt_chains.proofs.StandInsLemmas.TableLemmas.{none_listed, same_some, taken_more, taken_still, taken_last, all_taken, nothing_given, gives_both, gives_alike, table_more, table_empty}

module _ {O B : Type 0} (c : Program O B) (b : Ptr BasicBlock) (keys : List Value) (us : List Value) where
  pub paired_none : (old : List (Option Value)) → Gives keys (IsPaired c b (take 0 us)) old old
  paired_none old = nothing_given keys (IsPaired c b (take 0 us)) old (λ v u p. none_listed p.0 u p.2)

  module _ (i : ℕ) where
    still : (v u : Value) → IsPaired c b (take i us) v u → IsPaired c b (take (suc i) us) v u
    still v u p = (p.0, p.1, taken_still us i p.0 u p.2)

    -- one argument more
    pub paired_more : (a x : Value) (old mid new last : List (Option Value)) → Gives keys (IsPaired c b (take i us)) old mid → Gives keys (λ v u. (v ≡ a) × (u ≡ x)) mid new → last ≡ new → value_in (arguments_at c b) i ≡ Some a → slice_get us i ≡ Some x → Gives keys (IsPaired c b (take (i + 1) us)) old last
    paired_more a x old mid new last done step is at here = subst (λ m. Gives keys (IsPaired c b (take m us)) old last) (sym (add-one i))
        (subst (Gives keys (IsPaired c b (take (suc i) us)) old) (sym is)
        (gives_both keys (IsPaired c b (take i us)) (λ v u. (v ≡ a) × (u ≡ x)) (IsPaired c b (take (suc i) us)) old mid new still
        (λ v u r. (i, at ∙ ap Some (sym r.0), taken_last us i u (here ∙ ap Some (sym r.1))))
        (λ v u p. ⊎_elim
        (λ l. inl (p.0, p.1, l))
        (λ r. inr (same_some (value_in (arguments_at c b) i) v a (ap (value_in (arguments_at c b)) (sym r.0) ∙ p.1) at, same_some (slice_get us i) u x r.1 here))
        (taken_more us i p.0 u p.2))
        done step))

    -- behind the last argument nothing is given
    pub paired_past : (old mid last : List (Option Value)) → length (arguments_at c b) ≤ i → Gives keys (IsPaired c b (take i us)) old mid → last ≡ mid → Gives keys (IsPaired c b (take (i + 1) us)) old last
    paired_past old mid last past done is = subst (λ m. Gives keys (IsPaired c b (take m us)) old last) (sym (add-one i))
        (subst (Gives keys (IsPaired c b (take (suc i) us)) old) (sym is)
        (gives_alike keys (IsPaired c b (take i us)) (IsPaired c b (take (suc i) us)) old mid still
        (λ v u p. ⊎_elim
        (λ l. (p.0, p.1, l))
        (λ r. let n : None ≡ Some v = sym (value_past (arguments_at c b) p.0 (subst (λ m. length (arguments_at c b) ≤ m) (sym r.0) past)) ∙ p.1 in cc)
        (taken_more us i p.0 u p.2))
        done))
      where
        value_past : (ts : List TypedValue) (k : ℕ) → length ts ≤ k → value_in ts k ≡ None
        value_past [] k h = refl
        value_past (x ∷ ts) zero h = absurd (omega (arith, h))
        value_past (x ∷ ts) (suc k) h = value_past ts k (omega (arith, h))

    pub paired_all : (old new : List (Option Value)) → length us ≤ i → Gives keys (IsPaired c b (take i us)) old new → Gives keys (IsPaired c b us) old new
    paired_all old new less done = subst (λ l. Gives keys (IsPaired c b l) old new) (all_taken us i less) done

module _ {O B A : Type 0} (d : Dialect (in_program O B) A) (c : Program O B) (keys : List Value) (js : List Join) where
  replicated : (n k : ℕ) (u : Value) → slice_get (replicate n None) k ≡ Some (Some u) → ⊥
  replicated zero k u h = absurd (none_listed k (Some u) h)
  replicated (suc n) zero u h = cc
  replicated (suc n) (suc k) u h = replicated n k u h

  replicated_long : (n : ℕ) → length (replicate {A = Option Value} n None) ≡ n
  replicated_long zero = refl
  replicated_long (suc n) = ap suc (replicated_long n)

  -- what an operation forwards, by what is said of it where it is there
  pub forwarded_is : (p : Ptr Operation) (us : List Value) → IsSome (operation_at c p) → ((v : OperationView O) → operation_at c p ≡ Some v → us ≡ picks v.operands (d.forwards v.payload (length v.operands) 0)) → us ≡ forwarded_by d c p
  forwarded_is p us live is = by_case (operation_at c p) refl live where
    by_case : (o : Option (OperationView O)) → operation_at c p ≡ o → IsSome o → us ≡ unwrap_or (option_map (λ (v : OperationView O). picks v.operands (d.forwards v.payload (length v.operands) 0)) o) []
    by_case None e h = cc
    by_case (Some v) e h = is v e

  -- before any step nothing is given
  pub forwarded_none : (given : List (Option Value)) (n : ℕ) → n ≡ length keys → given ≡ replicate n None → IsGivenTable keys (IsForwarded d c (take 0 js)) given
  forwarded_none given n len is = table_empty keys (IsForwarded d c (take 0 js)) given (ap length is ∙ replicated_long n ∙ len)
      (λ k u h. replicated n k u (ap (λ l. slice_get l k) (sym is) ∙ h))
      (λ v u f. none_listed f.1.0 f.0 f.1.1)

  module _ (k : ℕ) where
    -- one step more
    pub forwarded_more : (j : Join) (us : List Value) (old new : List (Option Value)) → slice_get js k ≡ Some j → us ≡ forwarded_by d c j.branch → IsGivenTable keys (IsForwarded d c (take k js)) old → Gives keys (IsPaired c j.block us) old new → IsGivenTable keys (IsForwarded d c (take (k + 1) js)) new
    forwarded_more j us old new here is done step = subst (λ m. IsGivenTable keys (IsForwarded d c (take m js)) new) (sym (add-one k))
        (table_more keys (IsForwarded d c (take k js)) (IsPaired c j.block us) (IsForwarded d c (take (suc k) js)) old new
        (λ v u f. (f.0, (f.1.0, taken_still js k f.1.0 f.0 f.1.1), f.2))
        (λ v u p. (j, (k, taken_last js k j here), subst (λ l. IsPaired c j.block l v u) is p))
        (λ v u f. ⊎_elim
        (λ l. inl (f.0, (f.1.0, l), f.2))
        (λ r. let same = same_some (slice_get js k) f.0 j r.1 here in
        inr (subst (λ l. IsPaired c j.block l v u) (sym is) (subst (λ (i : Join). IsPaired c i.block (forwarded_by d c i.branch) v u) same f.2)))
        (taken_more js k f.1.0 f.0 f.1.1))
        done step)

    pub forwarded_all : (given : List (Option Value)) → length js ≤ k → IsGivenTable keys (IsForwarded d c (take k js)) given → IsGivenTable keys (IsForwarded d c js) given
    forwarded_all given less done = subst (λ l. IsGivenTable keys (IsForwarded d c l) given) (all_taken js k less) done

  -- what each step names is there
  module _ (can : AreJoins c js) (k : ℕ) (j : Join) (here : slice_get js k ≡ Some j) where
    pub block_there : IsSome (block_at c j.block)
    block_there = (can k j here).together.2.block

    pub branch_there : IsSome (operation_at c j.branch)
    branch_there = subst IsSome (sym (can k j here).joint.there) refl
