-- What is put into tables by the numbers of values.
use Rattle.std.proofs.Common.{◌≡◌, ◌≢◌, ◌⊎◌, inl, inr, ⊎_elim, ℕ, zero, suc, ◌<◌, ◌≤◌, List, [], ◌∷◌, ◌++◌, length, set, take, Option, Some, slice_get, refl, sym, ap, ◌∙◌, arith}
use Rattle.std.proofs.lemmas.List.{length-set}
use Rattle.ir_program.specs.declared.handles.Value.{Value}
use Rattle.ir_trees.specs.Searched.{AreDistinct}
use Rattle.opt_chains.specs.stand_ins.Tables.{IsGivenTable, Gives}

pub none_listed : {X : Type 0} (k : ℕ) (x : X) → slice_get [] k ≡ Some x → ⊥
none_listed k x h = cc

pub same_some : {X : Type 0} (o : Option X) (x y : X) → o ≡ Some x → o ≡ Some y → x ≡ y
same_some o x y h g = let e : Some x ≡ Some y = sym h ∙ g in cc

module _ {X : Type 0} where
  pub in_length : (xs : List X) (k : ℕ) (x : X) → slice_get xs k ≡ Some x → k < length xs
  in_length [] k x h = absurd (none_listed k x h)
  in_length (y ∷ xs) zero x h = omega arith
  in_length (y ∷ xs) (suc k) x h = let l = in_length xs k x h in omega (arith, l)

  pub element : (xs : List X) (k : ℕ) → k < length xs → (x : X) × (slice_get xs k ≡ Some x)
  element [] k le = absurd (omega arith)
  element (x ∷ xs) zero le = (x, refl)
  element (x ∷ xs) (suc k) le = element xs k (omega (arith, le))

  -- of the first i + 1 each is of the first i, or the one at i
  pub taken_more : (xs : List X) (i k : ℕ) (x : X) → slice_get (take (suc i) xs) k ≡ Some x → (slice_get (take i xs) k ≡ Some x) ⊎ ((k ≡ i) × (slice_get xs i ≡ Some x))
  taken_more [] i k x h = absurd (none_listed k x h)
  taken_more (y ∷ xs) zero zero x h = inr (refl, h)
  taken_more (y ∷ xs) zero (suc k) x h = absurd (none_listed k x h)
  taken_more (y ∷ xs) (suc i) zero x h = inl h
  taken_more (y ∷ xs) (suc i) (suc k) x h = ⊎_elim (λ l. inl l) (λ r. inr (ap suc r.0, r.1)) (taken_more xs i k x h)

  -- and the first i are among them
  pub taken_still : (xs : List X) (i k : ℕ) (x : X) → slice_get (take i xs) k ≡ Some x → slice_get (take (suc i) xs) k ≡ Some x
  taken_still xs zero k x h = absurd (none_listed k x h)
  taken_still [] (suc i) k x h = absurd (none_listed k x h)
  taken_still (y ∷ xs) (suc i) zero x h = h
  taken_still (y ∷ xs) (suc i) (suc k) x h = taken_still xs i k x h

  pub taken_last : (xs : List X) (i : ℕ) (x : X) → slice_get xs i ≡ Some x → slice_get (take (suc i) xs) i ≡ Some x
  taken_last [] i x h = absurd (none_listed i x h)
  taken_last (y ∷ xs) zero x h = h
  taken_last (y ∷ xs) (suc i) x h = taken_last xs i x h

  pub all_taken : (xs : List X) (i : ℕ) → length xs ≤ i → take i xs ≡ xs
  all_taken [] zero h = refl
  all_taken [] (suc i) h = refl
  all_taken (x ∷ xs) zero h = absurd (omega (arith, h))
  all_taken (x ∷ xs) (suc i) h = ap (λ ys. x ∷ ys) (all_taken xs i (omega (arith, h)))

  -- what a list has where one element is another
  pub set_here : (xs : List X) (i : ℕ) (x : X) → i < length xs → slice_get (set xs i x) i ≡ Some x
  set_here [] i x less = absurd (omega arith)
  set_here (y ∷ xs) zero x less = refl
  set_here (y ∷ xs) (suc i) x less = set_here xs i x (omega (arith, less))

  pub set_other : (xs : List X) (i k : ℕ) (x : X) → k ≢ i → slice_get (set xs i x) k ≡ slice_get xs k
  set_other [] i k x ne = refl
  set_other (y ∷ xs) zero zero x ne = absurd (ne refl)
  set_other (y ∷ xs) zero (suc k) x ne = refl
  set_other (y ∷ xs) (suc i) zero x ne = refl
  set_other (y ∷ xs) (suc i) (suc k) x ne = set_other xs i k x (λ e. ne (ap suc e))

  -- what is in a list with one more at its end
  pub at_more : (xs : List X) (y x : X) (k : ℕ) → slice_get (xs ++ y ∷ []) k ≡ Some x → (slice_get xs k ≡ Some x) ⊎ ((k ≡ length xs) × (x ≡ y))
  at_more [] y x zero h = inr (refl, let e : Some y ≡ Some x = h in cc)
  at_more [] y x (suc k) h = absurd (none_listed k x h)
  at_more (z ∷ xs) y x zero h = inl h
  at_more (z ∷ xs) y x (suc k) h = ⊎_elim (λ l. inl l) (λ r. inr (ap suc r.0, r.1)) (at_more xs y x k h)

  pub at_still : (xs : List X) (y x : X) (k : ℕ) → slice_get xs k ≡ Some x → slice_get (xs ++ y ∷ []) k ≡ Some x
  at_still [] y x k h = absurd (none_listed k x h)
  at_still (z ∷ xs) y x zero h = h
  at_still (z ∷ xs) y x (suc k) h = at_still xs y x k h

  pub at_last : (xs : List X) (y : X) → slice_get (xs ++ y ∷ []) (length xs) ≡ Some y
  at_last [] y = refl
  at_last (z ∷ xs) y = at_last xs y

same_number : (a b : ℕ) → (a ≡ b) ⊎ (a ≢ b)
same_number zero zero = inl refl
same_number zero (suc b) = inr (λ e. omega arith)
same_number (suc a) zero = inr (λ e. omega arith)
same_number (suc a) (suc b) = ⊎_elim (λ e. inl (ap suc e)) (λ ne. inr (λ e. ne (omega arith))) (same_number a b)

module _ (keys : List Value) where
  -- one value is given to one argument
  pub one_put : (argument value : Value) (number : ℕ) (old : List (Option Value)) → AreDistinct keys → slice_get keys number ≡ Some argument → number < length old → Gives keys (λ v u. (v ≡ argument) × (u ≡ value)) old (set old number (Some value))
  one_put argument value number old once at less = record {
    len = length-set old number (Some value);
    given = λ n v u is r. (value, here n (once n number argument (is ∙ ap Some r.0) at));
    kept = λ n h. ⊎_elim (λ e. (value, here n e)) (λ ne. (h.0, set_other old number n (Some value) ne ∙ h.1)) (same_number n number);
    cases = λ n u h. ⊎_elim
        (λ (e : n ≡ number). inr (argument, ap (slice_get keys) e ∙ at, (refl, let s : Some (Some value) ≡ Some (Some u) = sym (here n e) ∙ h in cc)))
        (λ ne. inl (sym (set_other old number n (Some value) ne) ∙ h))
        (same_number n number);
  } where
    here : (n : ℕ) → n ≡ number → slice_get (set old number (Some value)) n ≡ Some (Some value)
    here n e = ap (slice_get (set old number (Some value))) e ∙ set_here old number (Some value) less

  -- nothing is put into a table
  pub nothing_given : (R : Value → Value → Type 0) (old : List (Option Value)) → ((v u : Value) → R v u → ⊥) → Gives keys R old old
  nothing_given R old none = record {
    len = refl;
    given = λ n v u at r. absurd (none v u r);
    kept = λ n h. h;
    cases = λ n u h. inl h;
  }

  -- first what one says and then what another does
  pub gives_both : (R S T : Value → Value → Type 0) (old mid new : List (Option Value)) → ((v u : Value) → R v u → T v u) → ((v u : Value) → S v u → T v u) → ((v u : Value) → T v u → R v u ⊎ S v u) → Gives keys R old mid → Gives keys S mid new → Gives keys T old new
  gives_both R S T old mid new first second either a b = record {
    len = b.len ∙ a.len;
    given = λ n v u at t. ⊎_elim (λ r. b.kept n (a.given n v u at r)) (λ s. b.given n v u at s) (either v u t);
    kept = λ n h. b.kept n (a.kept n h);
    cases = λ n u h. ⊎_elim
        (λ g. ⊎_elim (λ o. inl o) (λ r. inr (r.0, r.1, first r.0 u r.2)) (a.cases n u g))
        (λ s. inr (s.0, s.1, second s.0 u s.2))
        (b.cases n u h);
  }

  pub gives_alike : (R T : Value → Value → Type 0) (old new : List (Option Value)) → ((v u : Value) → R v u → T v u) → ((v u : Value) → T v u → R v u) → Gives keys R old new → Gives keys T old new
  gives_alike R T old new to from a = record {
    len = a.len;
    given = λ n v u at t. a.given n v u at (from v u t);
    kept = a.kept;
    cases = λ n u h. ⊎_elim (λ o. inl o) (λ r. inr (r.0, r.1, to r.0 u r.2)) (a.cases n u h);
  }

  -- a table into which more is put
  pub table_more : (P R T : Value → Value → Type 0) (old new : List (Option Value)) → ((v u : Value) → P v u → T v u) → ((v u : Value) → R v u → T v u) → ((v u : Value) → T v u → P v u ⊎ R v u) → IsGivenTable keys P old → Gives keys R old new → IsGivenTable keys T new
  table_more P R T old new first second either a b = record {
    len = b.len ∙ a.len;
    sound = λ n u h. ⊎_elim
        (λ o. let s = a.sound n u o in (s.0, s.1, first s.0 u s.2))
        (λ r. (r.0, r.1, second r.0 u r.2))
        (b.cases n u h);
    all = λ n v u at t. ⊎_elim (λ p. b.kept n (a.all n v u at p)) (λ r. b.given n v u at r) (either v u t);
  }

  pub table_alike : (P T : Value → Value → Type 0) (given : List (Option Value)) → ((v u : Value) → P v u → T v u) → ((v u : Value) → T v u → P v u) → IsGivenTable keys P given → IsGivenTable keys T given
  table_alike P T given to from a = record {
    len = a.len;
    sound = λ n u h. let s = a.sound n u h in (s.0, s.1, to s.0 u s.2);
    all = λ n v u at t. a.all n v u at (from v u t);
  }

  -- a table that has nothing
  pub table_empty : (P : Value → Value → Type 0) (given : List (Option Value)) → length given ≡ length keys → ((n : ℕ) (u : Value) → slice_get given n ≡ Some (Some u) → ⊥) → ((v u : Value) → P v u → ⊥) → IsGivenTable keys P given
  table_empty P given len empty none = record {
    len = len;
    sound = λ n u h. absurd (empty n u h);
    all = λ n v u at p. absurd (none v u p);
  }
