-- A broken text has one first fault.
use Rattle.std.proofs.Common.{◌≡◌, ◌⊎◌, ◌<◌, ◌≤◌, ℕ, ◌-◌, List, [], ◌∷◌, Some, inl, inr, refl, sym, ap, subst, arith, ◌∙◌}
use Rattle.std.specs.Prelude.{slice_get}
use Rattle.std.proofs.lemmas.Bool.{cases_lt}
use Rattle.kit_checks.specs.Faults.{IsFirstFault, IsFirstPlace, KeptEverywhere}
use Rattle.kit_checks.specs.Numbers.{number_of}
use Rattle.kit_checks.specs.Sites.{IsBefore}
use Rattle.kit_checks.specs.World.{World}
use Rattle.kit_checks.specs.declared.rule.Rule.{Rule}
use Rattle.kit_checks.specs.declared.rule.Rule.TheVariants as rule
use Rattle.ir_trees.specs.Stands.{ProgramTree}

-- the rules in the order of their numbers
abbrev in_order : List Rule
in_order =
    rule.RootIsModule ∷ rule.ModuleHolds ∷ rule.FunctionHasType ∷ rule.FunctionHolds ∷ rule.ValuesAreIntegers ∷ rule.BlocksEnd
    ∷ rule.OperandsAreVisible ∷ rule.TypesAgree ∷ rule.EdgesFit ∷ rule.CallsFit ∷ rule.ReturnsFit ∷ rule.ConstantsFit
    ∷ rule.AttributesAreKnown ∷ rule.FitsFormat ∷ []

at_number : (r : Rule) → slice_get in_order (number_of r - 1) ≡ Some r
at_number rule.RootIsModule = refl
at_number rule.ModuleHolds = refl
at_number rule.FunctionHasType = refl
at_number rule.FunctionHolds = refl
at_number rule.ValuesAreIntegers = refl
at_number rule.BlocksEnd = refl
at_number rule.OperandsAreVisible = refl
at_number rule.TypesAgree = refl
at_number rule.EdgesFit = refl
at_number rule.CallsFit = refl
at_number rule.ReturnsFit = refl
at_number rule.ConstantsFit = refl
at_number rule.AttributesAreKnown = refl
at_number rule.FitsFormat = refl

-- two rules of one number are one
one_number : (r q : Rule) → number_of r ≡ number_of q → r ≡ q
one_number r q same =
    let found : Some r ≡ Some q = sym (at_number r) ∙ ap (λ n. slice_get in_order (n - 1)) same ∙ at_number q in cc found

-- of two places one comes first, or they are one
in_walk : (p q : List ℕ) → (p ≡ q) ⊎ (IsBefore p q ⊎ IsBefore q p)
in_walk [] [] = inl refl
in_walk [] (k ∷ q) = inr (inl tt)
in_walk (j ∷ p) [] = inr (inr tt)
in_walk (j ∷ p) (k ∷ q) = go (cases_lt j k) (cases_lt k j) (in_walk p q)
  where
    below : (j ≡ k) → (p ≡ q) ⊎ (IsBefore p q ⊎ IsBefore q p) → (j ∷ p ≡ k ∷ q) ⊎ (IsBefore (j ∷ p) (k ∷ q) ⊎ IsBefore (k ∷ q) (j ∷ p))
    below e (inl same) = let one : j ∷ p ≡ k ∷ q = cc in inl one
    below e (inr (inl first)) = inr (inl (inr (e, first)))
    below e (inr (inr first)) = inr (inr (inr (sym e, first)))

    go : (j < k) ⊎ (k ≤ j) → (k < j) ⊎ (j ≤ k) → (p ≡ q) ⊎ (IsBefore p q ⊎ IsBefore q p)
        → (j ∷ p ≡ k ∷ q) ⊎ (IsBefore (j ∷ p) (k ∷ q) ⊎ IsBefore (k ∷ q) (j ∷ p))
    go (inl less) other walk = inr (inl (inl less))
    go (inr more) (inl less) walk = inr (inr (inl less))
    go (inr more) (inr least) walk = below (omega (arith, more, least)) walk

module _ {O B : Type 0} (w : World O B) (t : ProgramTree O B) where
  -- a rule that is broken isn't kept
  pub not_kept : (r : Rule) (p : List ℕ) → IsFirstPlace w t r p → KeptEverywhere w t r → ⊥
  not_kept r p first kept = first.breaks.broken (kept p first.breaks.site first.breaks.there)

  one_place : (r : Rule) (p q : List ℕ) → IsFirstPlace w t r p → IsFirstPlace w t r q → p ≡ q
  one_place r p q first other = go (in_walk p q)
    where
      go : (p ≡ q) ⊎ (IsBefore p q ⊎ IsBefore q p) → p ≡ q
      go (inl same) = same
      go (inr (inl before)) = absurd (first.breaks.broken (other.before p first.breaks.site before first.breaks.there))
      go (inr (inr before)) = absurd (other.breaks.broken (first.before q other.breaks.site before other.breaks.there))

  -- there is one first fault at most
  pub one_first_fault : (r s : Rule) (p q : List ℕ) → IsFirstFault w t r p → IsFirstFault w t s q → (r ≡ s) × (p ≡ q)
  one_first_fault r s p q fault other = go (cases_lt (number_of r) (number_of s)) (cases_lt (number_of s) (number_of r))
    where
      go : (number_of r < number_of s) ⊎ (number_of s ≤ number_of r) → (number_of s < number_of r) ⊎ (number_of r ≤ number_of s)
          → (r ≡ s) × (p ≡ q)
      go (inl less) b = absurd (not_kept r p fault.first (other.smallest r less))
      go (inr more) (inl less) = absurd (not_kept s q other.first (fault.smallest s less))
      go (inr more) (inr least) =
          let same = one_number r s (omega (arith, more, least)) in
          (same, one_place s p q (subst (λ x. IsFirstPlace w t x p) same fault.first) other.first)
