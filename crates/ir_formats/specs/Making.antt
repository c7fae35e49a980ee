-- What the making of rules does to those that are there.
use Rattle.std.specs.Prelude.{ℕ, Bool, true, false, List, ◌≡◌, ◌++◌, map}
use Rattle.std.specs.Borrow.{Bor}
use Rattle.ir_print.specs.Formats.{Formats, Kind, Step, word, operands, operand, successor, a_value, a_region, symbol_name, a_leaf, list_of, choice_of, steps_of}
use Rattle.ir_grammar.specs.declared.grammar.Symbol.{Symbol}
use Rattle.ir_formats.specs.declared.rules.KindText.{KindText}
use Rattle.ir_formats.specs.declared.rules.KindTexts.{KindTexts}
use Rattle.ir_formats.specs.declared.rules.RuleMaker.{RuleMaker}
use Rattle.ir_formats.specs.Rules.{MadeOfSteps, PlainRule, plain_rules, operation_rules, region_rules, block_rules, argument_rules}

-- a kind as a value
abbrev pub kind_of : KindText → Kind
kind_of k = record { id = k.id.now; format = steps_of k.format.now }

-- kinds, each by its number, as values
abbrev pub formats_of : KindTexts → Formats
formats_of k = record {
  operations = map kind_of k.operations.items;
  types = map kind_of k.types.items;
  attributes = map kind_of k.attributes.items;
}

-- a rule that the maker is given, as a value
abbrev pub given_rule : (ℕ × Bor (List Symbol)) → PlainRule
given_rule r = (r.0, r.1.now)

-- the step has rules of its own
abbrev pub has_rules : Step → Bool
has_rules (word printed text) = false
has_rules operands = true
has_rules operand = false
has_rules successor = true
has_rules (a_value sort) = false
has_rules a_region = false
has_rules symbol_name = false
has_rules (a_leaf sort) = false
has_rules (list_of member printed separator) = true
has_rules (choice_of cs) = true

-- the rules that the grammar of each dialect with these words has
abbrev pub frame_rules : List (List ℕ) → List PlainRule
frame_rules ws = operation_rules ws ++ (region_rules ws ++ (block_rules ws ++ argument_rules ws))

-- The maker has these rules behind those it had, this part for the next list, and the same words.
pub record AddsRules (old new : RuleMaker) (added : List PlainRule) (part : ℕ) : Type 0 where
  pub rules : plain_rules new.rules.items ≡ plain_rules old.rules.items ++ added
  pub next : new.next_list ≡ part
  pub words : new.words ≡ old.words

-- The maker has the rules that were made, and these symbols stand behind those that were there.
pub record AddsSymbolsAndRules (old new : RuleMaker) (before after : List Symbol) (made : MadeOfSteps) : Type 0 where
  pub rules : AddsRules old new made.rules made.next
  pub symbols : after ≡ before ++ made.symbols

-- the maker has the rules that were made
abbrev pub AddsMade : RuleMaker → RuleMaker → MadeOfSteps → Type 0
AddsMade old new made = AddsRules old new made.rules made.next
