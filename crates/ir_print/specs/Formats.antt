-- The formats of a dialect, as values.
use Rattle.std.specs.Prelude.{ℕ, zero, suc, Bool, List, [], ◌∷◌, ◌&&◌, map, length, nat_le, Option, Some, None}
use Rattle.std.specs.Borrow.{Bor}
use Rattle.std.specs.Str.{trim}
use Rattle.ir_print.specs.declared.format.Directive.{Directive, Directive-F, fold-Directive}
use Rattle.ir_print.specs.declared.format.ValueSort.{ValueSort}
use Rattle.ir_print.specs.declared.format.ValueSort.TheVariants as sorts
use Rattle.ir_print.specs.declared.format.LeafSort.{LeafSort}
use Rattle.ir_print.specs.declared.format.LeafSort.TheVariants as leaves

mutual
  -- What a directive stands for in a text. A word stands as it is printed, with the spaces around it, and as it is read, without them.
  pub data Step : Type 0 where
    word : (printed text : List ℕ) → Step
    operands : Step
    -- exactly one operand
    operand : Step
    -- an edge to a block, with the operands that it hands on
    successor : Step
    -- a type or an attribute
    a_value : ValueSort → Step
    a_region : Step
    -- `@` and a name
    symbol_name : Step
    -- one token of a sort
    a_leaf : LeafSort → Step
    -- what a member is, and the word between two
    list_of : Steps → (printed text : List ℕ) → Step
    -- what one of several formats says
    choice_of : Choices → Step

  -- What a format stands for: one step after the other.
  pub data Steps : Type 0 where
    no_steps : Steps
    step : Step → Steps → Steps

  -- Formats, one of which is taken.
  pub data Choices : Type 0 where
    no_choice : Choices
    a_choice : Steps → Choices → Choices

-- these steps, one after the other
abbrev pub steps : List Step → Steps
steps [] = no_steps
steps (s ∷ ss) = step s (steps ss)

-- one of these formats
abbrev pub choices : List (Bor (List Step)) → Choices
choices [] = no_choice
choices (f ∷ fs) = a_choice (steps f.now) (choices fs)

-- what a directive stands for, its members' directives being read already
abbrev pub step_by : Directive-F Step → Step
step_by (Directive-F.Literal text) = word text.now (trim text.now)
step_by Directive-F.Operands = operands
step_by Directive-F.Operand = operand
step_by Directive-F.Successor = successor
step_by Directive-F.Attribute = a_value sorts.Attribute
step_by Directive-F.«Type» = a_value sorts.«Type»
step_by Directive-F.Region = a_region
step_by Directive-F.SymbolHeader = symbol_name
step_by Directive-F.Name = a_leaf leaves.Name
step_by Directive-F.Number = a_leaf leaves.Number
step_by Directive-F.Digits = a_leaf leaves.Digits
step_by Directive-F.Width = a_leaf leaves.Width
step_by Directive-F.Text = a_leaf leaves.Text
step_by Directive-F.Mark = a_leaf leaves.Mark
step_by (Directive-F.List member separator) = list_of (steps member.now) separator.now (trim separator.now)
step_by (Directive-F.Choice alternatives) = choice_of (choices alternatives.now)

-- what a directive stands for
abbrev pub step_of : Directive → Step
step_of d = fold-Directive Step step_by d

-- what a format stands for
abbrev pub steps_of : List Directive → Steps
steps_of ds = steps (map step_of ds)

-- what formats stand for, one of which is taken
abbrev pub choices_of : List (Bor (List Directive)) → Choices
choices_of [] = no_choice
choices_of (f ∷ fs) = a_choice (steps_of f.now) (choices_of fs)

-- the format with a number among these, if there is one
abbrev pub alternative : Choices → ℕ → Option Steps
alternative no_choice n = None
alternative (a_choice ss cs) zero = Some ss
alternative (a_choice ss cs) (suc n) = alternative cs n

-- A kind of operation, type or attribute: the dotted name with which its texts begin, and what follows it.
pub record Kind : Type 0 where
  pub id : List ℕ
  pub format : Steps

-- The kinds of a dialect that can be read, each by its number.
pub record Formats : Type 0 where
  pub operations : List Kind
  pub types : List Kind
  pub attributes : List Kind

-- the kinds of types, or those of attributes
abbrev pub kinds_of : Formats → ValueSort → List Kind
kinds_of f sorts.«Type» = f.types
kinds_of f sorts.Attribute = f.attributes

-- there are few enough kinds of each
abbrev pub is_small : Formats → Bool
is_small f = nat_le (length f.operations) 256 && nat_le (length f.types) 256 && nat_le (length f.attributes) 256
