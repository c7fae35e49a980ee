-- The test of a format, on classes of tokens.
use Rattle.std.specs.Prelude.{ℕ, Bool, true, false, ◌&&◌, ◌||◌, not, List, [], ◌∷◌, if◌then◌else◌, codes, bytes_eq}
use Rattle.ir_names.specs.Text.{is_identifier}
use Rattle.ir_tokens.specs.Tokens.{is_sign}
use Rattle.ir_formats.specs.Words.{is_width}
use Rattle.ir_print.specs.Formats.{Step, word, operands, a_value, a_leaf, list_of, choice_of, Steps, no_steps, step, Choices, no_choice, a_choice}
use Rattle.ir_format_checks.specs.declared.check.FormatSort.{FormatSort}
use Rattle.ir_format_checks.specs.declared.check.FormatSort.TheVariants.{Operation}
use Rattle.ir_format_checks.specs.Tokens.{TokenClass, given, a_name, dotted, digits, number, width, quotation, mark}
use Rattle.ir_format_checks.specs.Decided.{begins, all_begin, one_begins, may_be_empty, all_may_be_empty, one_may_be_empty, Follow, anything, these, or_next}

-- ---- words

-- one sign
abbrev pub is_one_sign : List ℕ → Bool
is_one_sign (c ∷ []) = is_sign c
is_one_sign _ = false

-- a name, a sign, or `->`
abbrev pub is_word : List ℕ → Bool
is_word w = is_identifier w || (is_one_sign w || bytes_eq w (codes "->"))

-- ---- classes

-- A token is of both.
abbrev pub overlap : TokenClass → TokenClass → Bool
overlap (given v) (given w) = bytes_eq v w
overlap (given v) a_name = is_identifier v
overlap (given v) width = is_width v
overlap a_name (given w) = is_identifier w
overlap a_name a_name = true
overlap a_name width = true
overlap width (given w) = is_width w
overlap width a_name = true
overlap width width = true
overlap digits digits = true
overlap digits number = true
overlap number digits = true
overlap number number = true
overlap dotted dotted = true
overlap quotation quotation = true
overlap mark mark = true
overlap _ _ = false

-- ---- what may come next

-- classes of which a token may come next
abbrev pub Classes : Type 0
Classes = Follow TokenClass

-- a token of the class may come next
abbrev pub meets : Classes → TokenClass → Bool
meets anything c = true
meets (these p) c = p c

abbrev pub is_anything : Classes → Bool
is_anything anything = true
is_anything (these p) = false

-- what may come where these parts stand, and this behind them
abbrev pub next_of : Steps → Classes → Classes
next_of ss outer =
    if all_may_be_empty ss then or_next (λ c. all_begin (overlap c) ss) outer else these (λ c. all_begin (overlap c) ss)

-- no token of the class may come next
abbrev pub is_no_next : TokenClass → Classes → Bool
is_no_next c next = not (is_anything next) && not (meets next c)

-- The part isn't empty, or no token with which it begins may come next.
abbrev pub is_told : Step → Classes → Bool
is_told s next = not (may_be_empty s) || (not (is_anything next) && not (begins (meets next) s))

-- These parts and other ones begin with no common token, and are not both empty.
abbrev pub are_told : Steps → Choices → Bool
are_told ss others =
    not (all_begin (λ c. one_begins (overlap c) others) ss) && not (all_may_be_empty ss && one_may_be_empty others)

-- ---- the test

abbrev mutual
  -- the next token decides the part, where a token of such classes may come behind it
  pub is_decided_step : Step → Classes → Bool
  is_decided_step operands next = is_told operands next && is_no_next (given (codes ",")) next
  is_decided_step (list_of member printed separator) next = not (all_may_be_empty member)
      && (is_told (list_of member printed separator) next && (is_no_next (given separator) next
      && is_decided member (or_next (overlap (given separator)) next)))
  is_decided_step (choice_of cs) next = is_told (choice_of cs) next && are_decided cs next
  is_decided_step _ next = true

  -- the same of parts one behind the other
  pub is_decided : Steps → Classes → Bool
  is_decided no_steps outer = true
  is_decided (step s ss) outer = is_decided_step s (next_of ss outer) && is_decided ss outer

  -- the same of formats of which one is taken
  pub are_decided : Choices → Classes → Bool
  are_decided no_choice next = true
  are_decided (a_choice ss cs) next = are_told ss cs && (is_decided ss next && are_decided cs next)

-- ---- words and sorts

abbrev pub is_operation : FormatSort → Bool
is_operation Operation = true
is_operation _ = false

abbrev mutual
  -- the part is made of words, and is of the sort
  pub is_made : FormatSort → Step → Bool
  is_made sort (word printed w) = is_word w
  is_made sort (a_value value) = true
  is_made sort (a_leaf leaf) = not (is_operation sort)
  is_made sort (list_of member printed separator) =
      not (is_operation sort) && (is_word separator && are_made sort member)
  is_made sort (choice_of cs) = all_made sort cs && not (is_operation sort)
  is_made sort _ = is_operation sort

  pub are_made : FormatSort → Steps → Bool
  are_made sort no_steps = true
  are_made sort (step s ss) = is_made sort s && are_made sort ss

  pub all_made : FormatSort → Choices → Bool
  all_made sort no_choice = true
  all_made sort (a_choice ss cs) = are_made sort ss && all_made sort cs
