-- The formats that dialects may have.
use Rattle.std.specs.Prelude.{◌≡◌, Bool, true, false, ◌&&◌, [], ◌∷◌, Some, None, codes}
use Rattle.std.specs.List.{list_any}
use Rattle.ir_print.specs.Formats.{Step, word, a_value, a_leaf, list_of, choice_of, Steps, no_steps, step, Choices, no_choice, a_choice}
use Rattle.ir_format_checks.specs.declared.check.FormatSort.{FormatSort}
use Rattle.ir_format_checks.specs.declared.check.FormatSort.TheVariants.{Operation, «Type», Attribute}
use Rattle.ir_format_checks.specs.Tokens.{given, mark, Column, takes, IsWord}
use Rattle.ir_format_checks.specs.Decided.{Follow, anything, these, IsDecided}

-- ---- words

abbrev mutual
  -- each literal, and each separator of a list, is one token
  pub HasWords : Step → Type 0
  HasWords (word printed w) = IsWord w
  HasWords (list_of member printed separator) = IsWord separator × HaveWords member
  HasWords (choice_of cs) = AllHaveWords cs
  HasWords _ = Unit {0}

  pub HaveWords : Steps → Type 0
  HaveWords no_steps = Unit {0}
  HaveWords (step s ss) = HasWords s × HaveWords ss

  pub AllHaveWords : Choices → Type 0
  AllHaveWords no_choice = Unit {0}
  AllHaveWords (a_choice ss cs) = HaveWords ss × AllHaveWords cs

-- ---- sorts

-- The part may stand in the format of an operation. Leaves, lists and choices are of types and attributes alone.
abbrev pub may_be_of_operation : Step → Bool
may_be_of_operation (a_leaf sort) = false
may_be_of_operation (list_of member printed separator) = false
may_be_of_operation (choice_of cs) = false
may_be_of_operation _ = true

-- the parts of the format of an operation
abbrev pub are_of_operation : Steps → Bool
are_of_operation no_steps = true
are_of_operation (step s ss) = may_be_of_operation s && are_of_operation ss

abbrev mutual
  -- The part may stand in the format of a type or an attribute. Operands, edges, regions and names of symbols are of
  -- operations alone.
  pub may_be_of_value : Step → Bool
  may_be_of_value (word printed w) = true
  may_be_of_value (a_value sort) = true
  may_be_of_value (a_leaf sort) = true
  may_be_of_value (list_of member printed separator) = are_of_value member
  may_be_of_value (choice_of cs) = all_are_of_value cs
  may_be_of_value _ = false

  -- the parts of the format of a type or an attribute
  pub are_of_value : Steps → Bool
  are_of_value no_steps = true
  are_of_value (step s ss) = may_be_of_value s && are_of_value ss

  pub all_are_of_value : Choices → Bool
  all_are_of_value no_choice = true
  all_are_of_value (a_choice ss cs) = are_of_value ss && all_are_of_value cs

-- the parts are those of a format of this sort
abbrev pub are_of : FormatSort → Steps → Bool
are_of Operation = are_of_operation
are_of «Type» = are_of_value
are_of Attribute = are_of_value

-- ---- what comes behind a format

-- What may come behind an operation: its mark, `;`, the `^` of the next block, the `}` of its region, or the end. A name
-- may not, though `outlined_attributes` does behind a root: a reader tells it from a name by the `:` behind it.
abbrev pub behind_operation : Column → Bool
behind_operation None = true
behind_operation (Some t) =
    list_any (takes (Some t)) (mark ∷ given (codes ";") ∷ given (codes "^") ∷ given (codes "}") ∷ [])

-- what may come behind a format of this sort
abbrev pub behind : FormatSort → Follow Column
behind Operation = these behind_operation
behind «Type» = anything
behind Attribute = anything

-- ---- accepted

-- A format that a kind of this sort may have: it is made of words and of parts of its sort, and the next token decides each
-- step.
pub record IsAccepted (sort : FormatSort) (format : Steps) : Type 0 where
  pub words : HaveWords format
  pub parts : are_of sort format ≡ true
  pub decided : IsDecided format (behind sort)
