-- The grammar that the formats of a dialect make.
use Rattle.std.specs.Prelude.{◌≡◌, ℕ, zero, suc, ◌+◌, ◌-◌, ◌==◌, ◌||◌, nat_lt, min, Bool, false, List, [], ◌∷◌, ◌++◌, map, length, Option, Some, None, slice_get, codes, if◌then◌else◌}
use Rattle.std.specs.Borrow.{Bor}
use Rattle.std.specs.List.{range_with_len}
use Rattle.std.specs.Str.{bytes_eq}
use Rattle.ir_names.specs.Text.{is_identifier}
use Rattle.ir_print.specs.Formats.{Formats, Kind, Step, Steps, word, operands, operand, successor, a_value, a_region, symbol_name, a_leaf, list_of, choice_of, no_steps, step, Choices, no_choice, a_choice}
use Rattle.ir_print.specs.declared.format.ValueSort.{ValueSort}
use Rattle.ir_print.specs.declared.format.ValueSort.TheVariants as sorts
use Rattle.ir_print.specs.declared.format.LeafSort.{LeafSort}
use Rattle.ir_print.specs.declared.format.LeafSort.TheVariants as leaves
use Rattle.ir_grammar.specs.declared.grammar.Action.{Action}
use Rattle.ir_grammar.specs.declared.grammar.Action.TheVariants as act
use Rattle.ir_grammar.specs.declared.grammar.Symbol.{Symbol}
use Rattle.ir_grammar.specs.declared.grammar.Symbol.TheVariants.{Sign, Part, Act}
use Rattle.ir_grammar.specs.declared.grammar.Rule.{Rule}
use Rattle.ir_grammar.specs.declared.grammar.Class.{Class}
use Rattle.ir_formats.specs.declared.rules.Sort.{Sort}
use Rattle.ir_formats.specs.declared.rules.Sort.TheVariants as sort
use Rattle.ir_grammar.specs.declared.grammar.Grammar.{Grammar}
use Rattle.ir_grammar.specs.Table.{CanRead}

-- ---- words

-- the texts of these words
abbrev pub texts : List (Bor (List ℕ)) → List (List ℕ)
texts words = map (λ w. w.now) words

-- the number of a word: its place among the words, or behind the last one
abbrev pub number_of : List (List ℕ) → List ℕ → ℕ
number_of [] text = 0
number_of (w ∷ ws) text = if bytes_eq text w then 0 else suc (number_of ws text)

-- the words with this one, put at the end if it is a new one
abbrev pub with_word : List (List ℕ) → List ℕ → List (List ℕ)
with_word words text = if number_of words text == length words then words ++ text ∷ [] else words

-- the words with these, each put at the end if it is a new one
abbrev pub with_words : List (List ℕ) → List (List ℕ) → List (List ℕ)
with_words words [] = words
with_words words (t ∷ ts) = with_words (with_word words t) ts

-- the words of the grammar that no format gives
abbrev pub frame_words : List (List ℕ)
frame_words = codes "," ∷ codes "=" ∷ codes "{" ∷ codes "}" ∷ codes ";" ∷ codes "^" ∷ codes "(" ∷ codes ")" ∷ codes ":" ∷ []

abbrev mutual
  -- the words in a step of a format
  pub words_in_step : Step → List (List ℕ)
  words_in_step (word printed w) = w ∷ []
  words_in_step operands = codes "," ∷ []
  words_in_step operand = []
  words_in_step successor = codes "," ∷ []
  words_in_step (a_value sort) = []
  words_in_step a_region = []
  words_in_step symbol_name = codes "@" ∷ []
  words_in_step (a_leaf sort) = []
  words_in_step (list_of member printed separator) = separator ∷ words_in member
  words_in_step (choice_of cs) = words_in_choices cs

  -- the words in a format
  pub words_in : Steps → List (List ℕ)
  words_in no_steps = []
  words_in (step s ss) = words_in_step s ++ words_in ss

  -- the words in formats of which one is taken
  pub words_in_choices : Choices → List (List ℕ)
  words_in_choices no_choice = []
  words_in_choices (a_choice ss cs) = words_in ss ++ words_in_choices cs

-- the ids of kinds, and the words in their formats
abbrev pub words_of_kinds : List Kind → List (List ℕ)
words_of_kinds [] = []
words_of_kinds (k ∷ ks) = (k.id ∷ words_in k.format) ++ words_of_kinds ks

-- the words of a dialect's grammar, each once, in the order of their first appearance
abbrev pub words_of : Formats → List (List ℕ)
words_of f = with_words (with_words (with_words (with_words [] frame_words) (words_of_kinds f.operations)) (words_of_kinds f.types)) (words_of_kinds f.attributes)

-- ---- signs

-- Numbers of signs and parts end at 2^32 - 1, far past those of any dialect.
abbrev pub up : ℕ → ℕ → ℕ
up n k = min (n + k) 4294967295

-- the sign of names, that of widths, that of numbers, that of numbers without a sign, that of texts in quotes and that of marks; each word has
-- one of its own behind these
abbrev pub name : Symbol
name = Sign 0

abbrev pub width : Symbol
width = Sign 1

abbrev pub number : Symbol
number = Sign 2

abbrev pub digits : Symbol
digits = Sign 3

abbrev pub quotation : Symbol
quotation = Sign 4

abbrev pub mark : Symbol
mark = Sign 5

abbrev pub sign : List (List ℕ) → List ℕ → Symbol
sign words w = Sign (up (number_of words w) 6)

-- whether this is a word that may be a name
abbrev pub is_name : Option (List ℕ) → Bool
is_name None = false
is_name (Some w) = is_identifier w

-- Kinds 0 to 6 of token are names, widths, digits, negative numbers, texts in quotes, marks and all others, and word i has the kind i + 7. A
-- name may be of kind 0 or 1, or a word that is an identifier.
abbrev pub may_be_name : List (List ℕ) → ℕ → Bool
may_be_name words k = if nat_lt k 7 then k == 0 || k == 1 else is_name (slice_get words (k - 7))

-- Whether a sign takes tokens of a kind: that of names, that of widths, that of numbers, that of those without a sign, that of texts in quotes,
-- that of marks, and behind these sign i + 6 of word i.
abbrev pub takes : List (List ℕ) → ℕ → ℕ → Bool
takes words zero k = may_be_name words k
takes words (suc zero) k = k == 1
takes words (suc (suc zero)) k = k == 2 || k == 3
takes words (suc (suc (suc zero))) k = k == 2
takes words (suc (suc (suc (suc zero)))) k = k == 4
takes words (suc (suc (suc (suc (suc zero))))) k = k == 5
takes words (suc (suc (suc (suc (suc (suc i)))))) k = k == i + 7

-- the kinds that a sign takes, as a mark for each kind
abbrev pub class_of : List (List ℕ) → ℕ → List Bool
class_of words s = map (takes words s) (range_with_len 0 (length words + 7))

-- the signs of a grammar with these words
abbrev pub classes_of : List (List ℕ) → List (List Bool)
classes_of words = map (class_of words) (range_with_len 0 (length words + 6))

-- ---- rules

-- a rule: its part, and its body
abbrev pub PlainRule : Type 0
PlainRule = ℕ × List Symbol

-- the parts of each grammar; lists and choices of formats have further ones, from 14 on
abbrev pub root : ℕ
root = 0

abbrev pub operation : ℕ
operation = 1

abbrev pub more_results : ℕ
more_results = 2

abbrev pub body : ℕ
body = 3

abbrev pub region : ℕ
region = 4

abbrev pub blocks : ℕ
blocks = 5

abbrev pub block : ℕ
block = 6

abbrev pub arguments : ℕ
arguments = 7

abbrev pub more_arguments : ℕ
more_arguments = 8

abbrev pub argument : ℕ
argument = 9

abbrev pub operations : ℕ
operations = 10

abbrev pub more_operations : ℕ
more_operations = 11

abbrev pub type_part : ℕ
type_part = 12

abbrev pub attribute : ℕ
attribute = 13

-- An operation: names of its results with commas between them and `=` behind them, or none, then what its kind says.
abbrev pub operation_rules : List (List ℕ) → List PlainRule
operation_rules ws =
    (root, Part operation ∷ [])
    ∷ (operation, Part body ∷ [])
    ∷ (operation, name ∷ Act act.Result ∷ Part more_results ∷ sign ws (codes "=") ∷ Part body ∷ [])
    ∷ (more_results, [])
    ∷ (more_results, sign ws (codes ",") ∷ name ∷ Act act.Result ∷ Part more_results ∷ [])
    ∷ []

-- A region: blocks in braces. The operations of a block have `;` between them, and one may stand behind the last.
abbrev pub region_rules : List (List ℕ) → List PlainRule
region_rules ws =
    (region, sign ws (codes "{") ∷ Act act.BeginRegion ∷ Part blocks ∷ sign ws (codes "}") ∷ Act act.EndRegion ∷ [])
    ∷ (blocks, [])
    ∷ (blocks, Part block ∷ Part blocks ∷ [])
    ∷ (operations, [])
    ∷ (operations, Part operation ∷ Part more_operations ∷ [])
    ∷ (more_operations, [])
    ∷ (more_operations, sign ws (codes ";") ∷ Part operations ∷ [])
    ∷ []

-- A block: `^`, its label, its arguments in parentheses, `:` and its operations.
abbrev pub block_rules : List (List ℕ) → List PlainRule
block_rules ws =
    (block, sign ws (codes "^") ∷ name ∷ Act act.Label ∷ sign ws (codes "(") ∷ Part arguments ∷ sign ws (codes ")") ∷ sign ws (codes ":") ∷ Act act.Header ∷ Part operations ∷ Act act.EndBlock ∷ [])
    ∷ []

-- Arguments, none or more with commas between them: a name, `:` and a type each.
abbrev pub argument_rules : List (List ℕ) → List PlainRule
argument_rules ws =
    (argument, name ∷ Act act.Argument ∷ sign ws (codes ":") ∷ Part type_part ∷ [])
    ∷ (arguments, [])
    ∷ (arguments, Part argument ∷ Part more_arguments ∷ [])
    ∷ (more_arguments, [])
    ∷ (more_arguments, sign ws (codes ",") ∷ Part argument ∷ Part more_arguments ∷ [])
    ∷ []

-- Members, none or more, with a separator between two: part n is the list, and the part behind it what follows a member.
abbrev pub several : ℕ → Symbol → List Symbol → List PlainRule
several n separator member =
    (n, [])
    ∷ (n, member ++ Part (up n 1) ∷ [])
    ∷ (up n 1, [])
    ∷ (up n 1, separator ∷ (member ++ Part (up n 1) ∷ []))
    ∷ []

-- What steps of a format make: symbols, rules of their own, and the number of the part of the next list or choice.
pub record MadeOfSteps : Type 0 where
  pub symbols : List Symbol
  pub rules : List PlainRule
  pub next : ℕ

-- symbols alone
abbrev pub just : List Symbol → ℕ → MadeOfSteps
just symbols n = record { symbols = symbols; rules = []; next = n }

-- the first, and then the second
abbrev pub both : MadeOfSteps → MadeOfSteps → MadeOfSteps
both a b = record { symbols = a.symbols ++ b.symbols; rules = a.rules ++ b.rules; next = b.next }

-- a list with this separator, given what its member makes
abbrev pub list_made : ℕ → Symbol → MadeOfSteps → MadeOfSteps
list_made n separator member = record {
  symbols = Act act.BeginList ∷ Part n ∷ Act act.EndList ∷ [];
  rules = member.rules ++ several n separator (Act act.BeginItem ∷ (member.symbols ++ Act act.EndItem ∷ []));
  next = member.next;
}

-- The rule of one of several formats, with a number, behind those of its lists: part c is the choice, and this is what its steps make.
abbrev pub alternative_made : (c number : ℕ) → MadeOfSteps → MadeOfSteps
alternative_made c number m = record {
  symbols = [];
  rules = m.rules ++ (c, Act (act.BeginChoice number) ∷ (m.symbols ++ Act act.EndChoice ∷ [])) ∷ [];
  next = m.next;
}

-- the part of a value
abbrev pub value_part : ValueSort → ℕ
value_part sorts.«Type» = type_part
value_part sorts.Attribute = attribute

-- the sign of a leaf
abbrev pub leaf_sign : LeafSort → Symbol
leaf_sign leaves.Name = name
leaf_sign leaves.Number = number
leaf_sign leaves.Digits = digits
leaf_sign leaves.Width = width
leaf_sign leaves.Text = quotation
leaf_sign leaves.Mark = mark

abbrev mutual
  -- what a step makes, n being the part of the next list
  pub step_made : List (List ℕ) → Step → ℕ → MadeOfSteps
  step_made ws (word printed w) n = just (sign ws w ∷ []) n
  step_made ws operands n = record {
    symbols = Act act.BeginOperands ∷ Part n ∷ Act act.EndOperands ∷ [];
    rules = several n (sign ws (codes ",")) (name ∷ Act act.Operand ∷ []);
    next = up n 2;
  }
  step_made ws operand n = just (Act act.BeginOperands ∷ name ∷ Act act.Operand ∷ Act act.EndOperands ∷ []) n
  step_made ws successor n = record {
    symbols = sign ws (codes "^") ∷ name ∷ Act act.BeginSuccessor ∷ sign ws (codes "(") ∷ Part n ∷ sign ws (codes ")") ∷ Act act.EndSuccessor ∷ [];
    rules = several n (sign ws (codes ",")) (name ∷ Act act.Operand ∷ []);
    next = up n 2;
  }
  step_made ws (a_value sort) n = just (Part (value_part sort) ∷ []) n
  step_made ws a_region n = just (Part region ∷ []) n
  step_made ws symbol_name n = just (sign ws (codes "@") ∷ name ∷ Act (act.Leaf leaves.Name) ∷ []) n
  step_made ws (a_leaf sort) n = just (leaf_sign sort ∷ Act (act.Leaf sort) ∷ []) n
  step_made ws (list_of member printed separator) n = list_made n (sign ws separator) (steps_made ws member (up n 2))
  step_made ws (choice_of cs) n = let made = choices_made ws n 0 cs (up n 1) in record {
    symbols = Part n ∷ [];
    rules = made.rules;
    next = made.next;
  }

  -- what the steps of a format make
  pub steps_made : List (List ℕ) → Steps → ℕ → MadeOfSteps
  steps_made ws no_steps n = just [] n
  steps_made ws (step s ss) n = let a = step_made ws s n in both a (steps_made ws ss a.next)

  -- what formats make of which one is taken, with numbers from this one on, part c being the choice
  pub choices_made : List (List ℕ) → (c number : ℕ) → Choices → ℕ → MadeOfSteps
  choices_made ws c i no_choice n = just [] n
  choices_made ws c i (a_choice ss cs) n = let a = alternative_made c i (steps_made ws ss n) in both a (choices_made ws c (suc i) cs a.next)

-- the part of which the kinds of a sort are
abbrev pub part_of : Sort → ℕ
part_of sort.Operation = body
part_of sort.«Type» = type_part
part_of sort.Attribute = attribute

-- what is done behind the id of a kind
abbrev pub begin_of : Sort → ℕ → Action
begin_of sort.Operation i = act.Operation i
begin_of sort.«Type» i = act.Begin sorts.«Type» i
begin_of sort.Attribute i = act.Begin sorts.Attribute i

-- what is done at the end of a text of a kind
abbrev pub end_of : Sort → Action
end_of sort.Operation = act.EndOperation
end_of sort.«Type» = act.End sorts.«Type»
end_of sort.Attribute = act.End sorts.Attribute

-- the kinds of a sort
abbrev pub kinds_of : Formats → Sort → List Kind
kinds_of f sort.Operation = f.operations
kinds_of f sort.«Type» = f.types
kinds_of f sort.Attribute = f.attributes

-- The rule of a kind with this number, behind those of its lists: its id, and between two actions what its format says.
abbrev pub kind_made : List (List ℕ) → Sort → ℕ → Kind → ℕ → MadeOfSteps
kind_made ws s i k n = let m = steps_made ws k.format n in record {
  symbols = [];
  rules = m.rules ++ (part_of s, sign ws k.id ∷ Act (begin_of s i) ∷ (m.symbols ++ Act (end_of s) ∷ [])) ∷ [];
  next = m.next;
}

-- the rules of kinds, with numbers from this one on
abbrev pub kinds_made : List (List ℕ) → Sort → ℕ → List Kind → ℕ → MadeOfSteps
kinds_made ws s i [] n = just [] n
kinds_made ws s i (k ∷ ks) n = let a = kind_made ws s i k n in both a (kinds_made ws s (suc i) ks a.next)

-- all that the kinds of a dialect make
abbrev pub formats_made : List (List ℕ) → Formats → MadeOfSteps
formats_made ws f =
    let a = kinds_made ws sort.Operation 0 f.operations 14 in
    let b = kinds_made ws sort.«Type» 0 f.types a.next in
    let c = kinds_made ws sort.Attribute 0 f.attributes b.next in
    both a (both b c)

-- the rules of a dialect's grammar
abbrev pub rules_of : Formats → List PlainRule
rules_of f = let ws = words_of f in operation_rules ws ++ (region_rules ws ++ (block_rules ws ++ (argument_rules ws ++ (formats_made ws f).rules)))

-- the number of a dialect's parts
abbrev pub parts_of : Formats → ℕ
parts_of f = (formats_made (words_of f) f).next

-- ---- a grammar of the program, as these values

-- a rule as a value
abbrev pub plain_rule : Rule → PlainRule
plain_rule r = (r.part, r.body.items)

-- rules as values
abbrev pub plain_rules : List Rule → List PlainRule
plain_rules rs = map plain_rule rs

-- signs as values
abbrev pub plain_classes : List Class → List (List Bool)
plain_classes cs = map (λ c. c.kinds.items) cs

-- A grammar with the rules and the signs of the formats, whose texts can be read.
pub record IsGrammarOf (f : Formats) (g : Grammar) : Type 0 where
  pub rules : plain_rules g.rules.items ≡ rules_of f
  pub signs : plain_classes g.signs.items ≡ classes_of (words_of f)
  pub readable : CanRead g 0
