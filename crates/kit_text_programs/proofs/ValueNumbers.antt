-- The numbers that a text gives to the values of a context.
use Rattle.std.proofs.Common.{◌≡◌, ℕ, zero, suc, Bool, true, false, List, [], ◌∷◌, Some, slice_get, option_map, refl}
use Rattle.std.proofs.Common.{sym, ap, ◌∙◌, arith}
use Rattle.std.specs.Prelude.{nat_eq, unwrap_or, if◌then◌else◌}
use Rattle.std.proofs.lemmas.Bool.Decides.{nat_tests}
use Rattle.ir_program.specs.declared.handles.Value.{Value}
use Rattle.ir_program.specs.Replacing.{same_value}
use Rattle.kit_behaviour.specs.Numbering.{index_of}
use Rattle.kit_ruled_views.proofs.HandleSameness.{values_apart}
use Rattle.kit_views.specs.FlatView.{IsSameness}
use Rattle.text_rereading.specs.Rereading.{Numbering, Named}
use Rattle.kit_text_programs.specs.Laws.{HaveOwnNumbers}

-- what is in a list is found there
pub found : {X : Type 0} (test : X → X → Bool) → IsSameness test → (v : X) (xs : List X) (n : ℕ) → slice_get xs n ≡ Some v
    → (i : ℕ) × (index_of test v xs ≡ Some i) × (slice_get xs i ≡ Some v)
found test apart v [] n e = cc
found test apart v (x ∷ xs) n e = by_test (test v x) refl n e (λ m at. found test apart v xs m at)
  where
    by_test : (b : Bool) → test v x ≡ b → (k : ℕ) → slice_get (x ∷ xs) k ≡ Some v
        → ((m : ℕ) → slice_get xs m ≡ Some v → (i : ℕ) × (index_of test v xs ≡ Some i) × (slice_get xs i ≡ Some v))
        → (i : ℕ) × (index_of test v (x ∷ xs) ≡ Some i) × (slice_get (x ∷ xs) i ≡ Some v)
    by_test true t k at rest = (
      0,
      ap (λ b. if b then Some 0 else option_map suc (index_of test v xs)) t,
      ap Some (sym (apart.true_same v x t)),
    )
    by_test false t zero at rest =
        let same : x ≡ v = cc in
        let holds : test v x ≡ true = ap (λ y. test v y) same ∙ apart.same_true v in cc
    by_test false t (suc m) at rest =
        let r = rest m at in (
          suc r.0,
          ap (λ b. if b then Some 0 else option_map suc (index_of test v xs)) t ∙ ap (option_map suc) r.1,
          r.2,
        )

nat_same : (n : ℕ) → nat_eq n n ≡ true
nat_same n = grind (arith, nat_tests)

nat_true : (n m : ℕ) → nat_eq n m ≡ true → n ≡ m
nat_true n m h = grind (arith, nat_tests)

-- numbers are told apart
pub numbers_same : IsSameness nat_eq
numbers_same = record { true_same = nat_true; same_true = nat_same }

module _ (numbering : Numbering) (own : HaveOwnNumbers numbering) where
  -- the number of a value, where it has one
  abbrev pub number_of_value : Value → ℕ
  number_of_value v = unwrap_or (index_of same_value v numbering.values) 0

  -- the value has a number
  abbrev pub HasNumber : Value → Type 0
  HasNumber v = (n : ℕ) × (Named numbering).value v n

  pub number_is : (v : Value) (n : ℕ) → (Named numbering).value v n → number_of_value v ≡ n
  number_is v n named =
      let at = found same_value values_apart v numbering.values n named in
      ap (λ o. unwrap_or o 0) at.1 ∙ own.values at.0 n v v at.2 named refl

  -- numbers tell values apart
  pub numbers_apart : (v w : Value) → HasNumber v → HasNumber w
      → nat_eq (number_of_value v) (number_of_value w) ≡ same_value v w
  numbers_apart v w a b = by_test (same_value v w) refl
    where
      by_test : (t : Bool) → same_value v w ≡ t → nat_eq (number_of_value v) (number_of_value w) ≡ t
      by_test true e = ap (λ x. nat_eq (number_of_value v) (number_of_value x)) (sym (values_apart.true_same v w e))
          ∙ nat_same (number_of_value v)
      by_test false e = by_number (nat_eq (number_of_value v) (number_of_value w)) refl
        where
          by_number : (t : Bool) → nat_eq (number_of_value v) (number_of_value w) ≡ t → t ≡ false
          by_number false q = refl
          by_number true q =
              let same : a.0 ≡ b.0 = sym (number_is v a.0 a.1)
              ∙ nat_true (number_of_value v) (number_of_value w) q ∙ number_is w b.0 b.1 in
              let both : Some v ≡ Some w = sym a.1 ∙ ap (slice_get numbering.values) same ∙ b.1 in
              let one : v ≡ w = cc in
              let test : same_value v w ≡ true = ap (λ x. same_value v x) (sym one) ∙ values_apart.same_true v in cc
