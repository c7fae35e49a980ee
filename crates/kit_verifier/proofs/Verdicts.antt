-- The first fault, as the rules are tested in their order.
use Rattle.std.proofs.Common.{◌≡◌, ◌⊎◌, ⊎_elim, ℕ, zero, suc, ◌+◌, ◌-◌, ◌<◌, ◌≤◌, List, [], ◌∷◌, map, option_map, Some, None, get_or, slice_get, refl, sym, ap, ◌∙◌, subst, arith}
use Rattle.std.proofs.Common.{◌↔◌, Bool, IfOk, IsTrue, Result, Ok, Err}
use Rattle.std.proofs.lemmas.Option.{slice_get-get_or, slice_get-map}
use Rattle.ir_names.specs.declared.place.Place.{Place}
use Rattle.ir_program.specs.Program.{Program}
use Rattle.ir_program.specs.declared.handles.Ptr.{Ptr}
use Rattle.ir_program.specs.declared.handles.Operation.{Operation}
use Rattle.ir_trees.specs.Stands.{ProgramTree, StandsFor}
use Rattle.kit_checks.specs.Faults.{IsFirstFault, KeptEverywhere}
use Rattle.kit_checks.specs.Numbers.{number_of}
use Rattle.kit_checks.specs.Searching.{IsFirstBreakIn, IsTested, KeepsLocalRules}
use Rattle.kit_checks.specs.World.{World}
use Rattle.kit_checks.specs.declared.rule.Rule.{Rule}
use Rattle.kit_checks.specs.declared.rule.Rule.TheVariants as rule

-- all rules in the order of their numbers
abbrev pub rules_in_order : List Rule
rules_in_order = rule.RootIsModule ∷ rule.ModuleHolds ∷ rule.FunctionHasType ∷ rule.FunctionHolds ∷ rule.ValuesAreIntegers ∷ rule.BlocksEnd ∷ rule.OperandsAreVisible ∷ rule.TypesAgree ∷ rule.EdgesFit ∷ rule.CallsFit ∷ rule.ReturnsFit ∷ rule.ConstantsFit ∷ rule.AttributesAreKnown ∷ rule.FitsFormat ∷ []

-- the numbers go up by one
abbrev Counted : ℕ → List ℕ → Type 0
Counted from [] = Unit {0}
Counted from (n ∷ ns) = (n ≡ from) × Counted (from + 1) ns

counted : (ns : List ℕ) (from k n : ℕ) → Counted from ns → slice_get ns k ≡ Some n → n ≡ from + k
counted [] from k n h e = cc
counted (m ∷ ns) from zero n h e = let same : m ≡ n = cc in let first : m ≡ from = h.0 in omega arith
counted (m ∷ ns) from (suc k) n h e = let rest : n ≡ from + 1 + k = counted ns (from + 1) k n h.1 e in omega arith

numbers_counted : Counted 1 (map number_of rules_in_order)
numbers_counted = (refl, (refl, (refl, (refl, (refl, (refl, (refl, (refl, (refl, (refl, (refl, (refl, (refl, (refl, tt))))))))))))))

-- the rule at an index has the number behind it
pub number_at : (k : ℕ) (r : Rule) → slice_get rules_in_order k ≡ Some r → number_of r ≡ k + 1
number_at k r here = let e : number_of r ≡ 1 + k = counted (map number_of rules_in_order) 1 k (number_of r) numbers_counted (slice_get-map number_of rules_in_order k ∙ ap (option_map number_of) here) in omega arith

pub at_place : (k : ℕ) (d : Rule) → k < 14 → slice_get rules_in_order k ≡ Some (get_or rules_in_order k d)
at_place k d within = slice_get-get_or rules_in_order k d within

-- each rule is at the index before its number
rule_at : (r : Rule) → slice_get rules_in_order (number_of r - 1) ≡ Some r
rule_at rule.RootIsModule = refl
rule_at rule.ModuleHolds = refl
rule_at rule.FunctionHasType = refl
rule_at rule.FunctionHolds = refl
rule_at rule.ValuesAreIntegers = refl
rule_at rule.BlocksEnd = refl
rule_at rule.OperandsAreVisible = refl
rule_at rule.TypesAgree = refl
rule_at rule.EdgesFit = refl
rule_at rule.CallsFit = refl
rule_at rule.ReturnsFit = refl
rule_at rule.ConstantsFit = refl
rule_at rule.AttributesAreKnown = refl
rule_at rule.FitsFormat = refl

at_most : (r : Rule) → number_of r ≤ 14
at_most rule.RootIsModule = omega arith
at_most rule.ModuleHolds = omega arith
at_most rule.FunctionHasType = omega arith
at_most rule.FunctionHolds = omega arith
at_most rule.ValuesAreIntegers = omega arith
at_most rule.BlocksEnd = omega arith
at_most rule.OperandsAreVisible = omega arith
at_most rule.TypesAgree = omega arith
at_most rule.EdgesFit = omega arith
at_most rule.CallsFit = omega arith
at_most rule.ReturnsFit = omega arith
at_most rule.ConstantsFit = omega arith
at_most rule.AttributesAreKnown = omega arith
at_most rule.FitsFormat = omega arith

at_least : (r : Rule) → 1 ≤ number_of r
at_least rule.RootIsModule = omega arith
at_least rule.ModuleHolds = omega arith
at_least rule.FunctionHasType = omega arith
at_least rule.FunctionHolds = omega arith
at_least rule.ValuesAreIntegers = omega arith
at_least rule.BlocksEnd = omega arith
at_least rule.OperandsAreVisible = omega arith
at_least rule.TypesAgree = omega arith
at_least rule.EdgesFit = omega arith
at_least rule.CallsFit = omega arith
at_least rule.ReturnsFit = omega arith
at_least rule.ConstantsFit = omega arith
at_least rule.AttributesAreKnown = omega arith
at_least rule.FitsFormat = omega arith

module _ {O B : Type 0} (w : World O B) (c : Program O B) (root : Ptr Operation) where
  -- the first n rules are kept everywhere
  abbrev pub KeptUpTo : ℕ → Type 0
  KeptUpTo n = (t : ProgramTree O B) → StandsFor c root t → (r : Rule) → number_of r ≤ n → KeptEverywhere w t r

  pub kept_none : KeptUpTo 0
  kept_none t s r least = absurd (let one = at_least r in omega arith)

  pub kept_more : (n : ℕ) (r : Rule) → slice_get rules_in_order n ≡ Some r → IsFirstBreakIn w c root r None → KeptUpTo n → KeptUpTo (n + 1)
  kept_more n r here found kept t s q most = ⊎_elim
      (λ (less : number_of q ≤ n). kept t s q less)
      (λ (same : number_of q ≡ n + 1).
      let e : number_of q - 1 ≡ n = omega arith in
      let there : Some q ≡ Some r = sym (rule_at q) ∙ ap (slice_get rules_in_order) e ∙ here in
      let one : q ≡ r = cc in
      subst (KeptEverywhere w t) (sym one) (found t s))
      (last_or_less (number_of q) n most)
    where
      last_or_less : (a b : ℕ) → a ≤ b + 1 → (a ≤ b) ⊎ (a ≡ b + 1)
      last_or_less a b h = grind arith

  pub kept_all : (n : ℕ) → n ≡ 14 → KeptUpTo n → (t : ProgramTree O B) → StandsFor c root t → (r : Rule) → KeptEverywhere w t r
  kept_all n all kept t s r = kept t s r (let most = at_most r in omega arith)

  pub first_fault : (n : ℕ) (r : Rule) (place : Place) → slice_get rules_in_order n ≡ Some r → IsFirstBreakIn w c root r (Some place) → KeptUpTo n →
      (t : ProgramTree O B) → StandsFor c root t → IsFirstFault w t r place.children.items
  first_fault n r place here found kept t s = record {
    first = found t s;
    smallest = λ q less. kept t s q (let e = number_at n r here in omega arith);
  }

  -- what is found of the rules that ask for a table of names, and of all others, is found of all
  all_rules : KeepsLocalRules w c root → IsFirstBreakIn w c root rule.ModuleHolds None
      → IsFirstBreakIn w c root rule.CallsFit None → (r : Rule) → IsFirstBreakIn w c root r None
  all_rules kept m f rule.RootIsModule = kept rule.RootIsModule tt
  all_rules kept m f rule.ModuleHolds = m
  all_rules kept m f rule.FunctionHasType = kept rule.FunctionHasType tt
  all_rules kept m f rule.FunctionHolds = kept rule.FunctionHolds tt
  all_rules kept m f rule.ValuesAreIntegers = kept rule.ValuesAreIntegers tt
  all_rules kept m f rule.BlocksEnd = kept rule.BlocksEnd tt
  all_rules kept m f rule.OperandsAreVisible = kept rule.OperandsAreVisible tt
  all_rules kept m f rule.TypesAgree = kept rule.TypesAgree tt
  all_rules kept m f rule.EdgesFit = kept rule.EdgesFit tt
  all_rules kept m f rule.CallsFit = f
  all_rules kept m f rule.ReturnsFit = kept rule.ReturnsFit tt
  all_rules kept m f rule.ConstantsFit = kept rule.ConstantsFit tt
  all_rules kept m f rule.AttributesAreKnown = kept rule.AttributesAreKnown tt
  all_rules kept m f rule.FitsFormat = kept rule.FitsFormat tt

  -- where the rules that ask for no table of names are kept, whether the others are decides
  pub names_decide : {E : Type 0} → KeepsLocalRules w c root → (r : Result Bool E)
      → IfOk r (λ is. IsTrue is ↔ (IsFirstBreakIn w c root rule.ModuleHolds None × IsFirstBreakIn w c root rule.CallsFit None))
      → IfOk r (λ is. IsTrue is ↔ ((q : Rule) → IsFirstBreakIn w c root q None))
  names_decide local (Ok is) tells = (
    λ h. let both = tells.0 h in all_rules local both.0 both.1,
    λ kept. tells.1 (kept rule.ModuleHolds, kept rule.CallsFit),
  )
  names_decide local (Err e) tells = tells

-- all other rules are tested one operation at a time
pub tested : (r : Rule) → (r ≡ rule.ModuleHolds → ⊥) → (r ≡ rule.CallsFit → ⊥) → IsTested r
tested rule.RootIsModule m c = tt
tested rule.ModuleHolds m c = absurd (m refl)
tested rule.FunctionHasType m c = tt
tested rule.FunctionHolds m c = tt
tested rule.ValuesAreIntegers m c = tt
tested rule.BlocksEnd m c = tt
tested rule.OperandsAreVisible m c = tt
tested rule.TypesAgree m c = tt
tested rule.EdgesFit m c = tt
tested rule.CallsFit m c = absurd (c refl)
tested rule.ReturnsFit m c = tt
tested rule.ConstantsFit m c = tt
tested rule.AttributesAreKnown m c = tt
tested rule.FitsFormat m c = tt
