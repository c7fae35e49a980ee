-- Which rule is broken first, and where.
use Rattle.std.specs.Prelude.{◌≡◌, ◌<◌, ℕ, List, Option, Some, None, Result, Ok, Err}
use Rattle.ir_trees.specs.Stands.{ProgramTree}
use Rattle.kit_checks.specs.declared.rule.Rule.{Rule}
use Rattle.kit_checks.specs.declared.rule.Rule.TheVariants as rule
use Rattle.kit_checks.specs.declared.rule.RuleFault.{RuleFault}
use Rattle.kit_checks.specs.declared.rule.RuleFault.TheVariants.{Memory, Broken}
use Rattle.kit_checks.specs.Numbers.{number_of}
use Rattle.kit_checks.specs.Sites.{Site, site_at, IsBefore}
use Rattle.kit_checks.specs.World.{World}
use Rattle.kit_checks.specs.Rules as rules

module _ {O B : Type 0} (w : World O B) where
  -- the operation, where it is, keeps the rule
  abbrev pub Keeps : Rule → Site O B → Type 0
  Keeps rule.RootIsModule s = rules.RootIsModule w s
  Keeps rule.ModuleHolds s = rules.ModuleHolds w s
  Keeps rule.FunctionHasType s = rules.FunctionHasType w s
  Keeps rule.FunctionHolds s = rules.FunctionHolds w s
  Keeps rule.ValuesAreIntegers s = rules.ValuesAreIntegers w s
  Keeps rule.BlocksEnd s = rules.BlocksEnd w s
  Keeps rule.OperandsAreVisible s = rules.OperandsAreVisible w s
  Keeps rule.TypesAgree s = rules.TypesAgree w s
  Keeps rule.EdgesFit s = rules.EdgesFit w s
  Keeps rule.CallsFit s = rules.CallsFit w s
  Keeps rule.ReturnsFit s = rules.ReturnsFit w s
  Keeps rule.ConstantsFit s = rules.ConstantsFit w s
  Keeps rule.AttributesAreKnown s = rules.AttributesAreKnown w s
  Keeps rule.FitsFormat s = rules.FitsFormat w s

  module _ (t : ProgramTree O B) where
    -- the rule is broken at a place: an operation is there, and doesn't keep it
    pub record Breaks (r : Rule) (p : List ℕ) : Type 0 where
      pub site : Site O B
      pub there : site_at t p ≡ Some site
      pub broken : Keeps r site → ⊥

    -- each operation of the tree keeps the rule
    abbrev pub KeptEverywhere : Rule → Type 0
    KeptEverywhere r = (p : List ℕ) (s : Site O B) → site_at t p ≡ Some s → Keeps r s

    -- the place is the first one where the rule is broken: each operation before it keeps it
    pub record IsFirstPlace (r : Rule) (p : List ℕ) : Type 0 where
      pub breaks : Breaks r p
      pub before : (q : List ℕ) (s : Site O B) → IsBefore q p → site_at t q ≡ Some s → Keeps r s

    -- what is answered of one rule: the first place where it is broken, or none where it is kept everywhere
    abbrev pub IsFirstBreak : Rule → Option (List ℕ) → Type 0
    IsFirstBreak r None = KeptEverywhere r
    IsFirstBreak r (Some p) = IsFirstPlace r p

    -- the first fault: the rule is the one with the smallest number that is broken anywhere, and the place the first one
    -- where it is broken
    pub record IsFirstFault (r : Rule) (p : List ℕ) : Type 0 where
      pub first : IsFirstPlace r p
      pub smallest : (q : Rule) → number_of q < number_of r → KeptEverywhere q

    -- what is answered of all rules: `Ok` where each is kept everywhere, else the first fault. Without memory nothing is
    -- found out
    abbrev pub IsVerdict : {X : Type 0} → Result X RuleFault → Type 0
    IsVerdict (Ok _) = (r : Rule) → KeptEverywhere r
    IsVerdict (Err Memory) = Unit {0}
    IsVerdict (Err (Broken r p)) = IsFirstFault r p.children.items
