-- The numbers of the rules.
use Rattle.std.specs.Prelude.{ℕ}
use Rattle.kit_checks.specs.declared.rule.Rule.{Rule}
use Rattle.kit_checks.specs.declared.rule.Rule.TheVariants as rule

abbrev pub number_of : Rule → ℕ
number_of rule.RootIsModule = 1
number_of rule.ModuleHolds = 2
number_of rule.FunctionHasType = 3
number_of rule.FunctionHolds = 4
number_of rule.ValuesAreIntegers = 5
number_of rule.BlocksEnd = 6
number_of rule.OperandsAreVisible = 7
number_of rule.TypesAgree = 8
number_of rule.EdgesFit = 9
number_of rule.CallsFit = 10
number_of rule.ReturnsFit = 11
number_of rule.ConstantsFit = 12
number_of rule.AttributesAreKnown = 13
number_of rule.FitsFormat = 14
