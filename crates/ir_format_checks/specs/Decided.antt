-- Formats in which the next token decides each step.
use Rattle.std.specs.Prelude.{◌≡◌, Bool, true, false, ◌&&◌, ◌||◌, if◌then◌else◌, codes}
use Rattle.ir_print.specs.Formats.{Step, word, operands, operand, successor, a_value, a_region, symbol_name, a_leaf, list_of, choice_of, Steps, no_steps, step, Choices, no_choice, a_choice}
use Rattle.ir_print.specs.declared.format.LeafSort.{LeafSort}
use Rattle.ir_print.specs.declared.format.LeafSort.TheVariants as leaves
use Rattle.ir_format_checks.specs.Tokens.{TokenClass, given, a_name, dotted, digits, number, width, quotation, mark, Column, takes}

-- ---- what a part begins with (FIRST)

abbrev mutual
  -- The part may be empty: names of operands and lists may have no member.
  pub may_be_empty : Step → Bool
  may_be_empty operands = true
  may_be_empty (list_of member printed separator) = true
  may_be_empty (choice_of cs) = one_may_be_empty cs
  may_be_empty _ = false

  pub all_may_be_empty : Steps → Bool
  all_may_be_empty no_steps = true
  all_may_be_empty (step s ss) = may_be_empty s && all_may_be_empty ss

  pub one_may_be_empty : Choices → Bool
  one_may_be_empty no_choice = false
  one_may_be_empty (a_choice ss cs) = all_may_be_empty ss || one_may_be_empty cs

-- the class of the tokens of a leaf
abbrev pub leaf_class : LeafSort → TokenClass
leaf_class leaves.Name = a_name
leaf_class leaves.Number = number
leaf_class leaves.Digits = digits
leaf_class leaves.Width = width
leaf_class leaves.Text = quotation
leaf_class leaves.Mark = mark

module _ (is_it : TokenClass → Bool) where
  abbrev mutual
    -- one of the classes with whose tokens the part begins is so
    pub begins : Step → Bool
    begins (word printed w) = is_it (given w)
    begins operands = is_it a_name
    begins operand = is_it a_name
    begins successor = is_it (given (codes "^"))
    begins (a_value sort) = is_it dotted
    begins a_region = is_it (given (codes "{"))
    begins symbol_name = is_it (given (codes "@"))
    begins (a_leaf sort) = is_it (leaf_class sort)
    begins (list_of member printed separator) = all_begin member
    begins (choice_of cs) = one_begins cs

    -- the same of parts one after the other
    pub all_begin : Steps → Bool
    all_begin no_steps = false
    all_begin (step s ss) = begins s || (may_be_empty s && all_begin ss)

    -- the same of one of several formats
    pub one_begins : Choices → Bool
    one_begins no_choice = false
    one_begins (a_choice ss cs) = all_begin ss || one_begins cs

-- ---- what may come next (FOLLOW)

-- What may come next: anything, or what passes a test.
pub data Follow (X : Type 0) : Type 0 where
  anything : Follow X
  these : (X → Bool) → Follow X

-- the same, or what passes this test
abbrev pub or_next : {X : Type 0} → (X → Bool) → Follow X → Follow X
or_next p anything = anything
or_next p (these q) = these (λ x. p x || q x)

-- a set of what may come next
abbrev pub Columns : Type 0
Columns = Column → Bool

-- the tokens of a class
abbrev pub tokens_of : TokenClass → Columns
tokens_of c x = takes x c

-- the tokens with which parts one after the other begin
abbrev pub all_firsts : Steps → Columns
all_firsts ss x = all_begin (takes x) ss

-- the tokens with which one of several formats begins
abbrev pub one_firsts : Choices → Columns
one_firsts cs x = one_begins (takes x) cs

-- what may come where these parts stand, and this behind them
abbrev pub next_of : Steps → Follow Column → Follow Column
next_of ss outer = if all_may_be_empty ss then or_next (all_firsts ss) outer else these (all_firsts ss)

-- ---- decided

-- nothing is in both sets
abbrev pub AreApart : Columns → Columns → Type 0
AreApart p q = (x : Column) → p x ≡ true → q x ≡ true → ⊥

-- None of these may come next. Where anything may, that holds of no set, not even of one without tokens: there no part may
-- be empty or repeat.
abbrev pub CannotBeNext : Columns → Follow Column → Type 0
CannotBeNext p anything = ⊥
CannotBeNext p (these q) = AreApart p q

abbrev mutual
  -- The next token decides the part, where such may come behind it: a part that may be empty or repeat begins and goes on
  -- with no token that may come next. Each other part is decided by what it begins with: `@` and a name, an edge with its
  -- operands in parentheses, a region in braces, a token, or the id of a type or an attribute and its own format.
  pub IsDecidedStep : Step → Follow Column → Type 0
  IsDecidedStep operands next =
      CannotBeNext (tokens_of a_name) next
      × CannotBeNext (tokens_of (given (codes ","))) next
  IsDecidedStep (list_of member printed separator) next =
      (all_may_be_empty member ≡ false)
      × CannotBeNext (all_firsts member) next
      × CannotBeNext (tokens_of (given separator)) next
      × IsDecided member (or_next (tokens_of (given separator)) next)
  IsDecidedStep (choice_of cs) next =
      (one_may_be_empty cs ≡ true → CannotBeNext (one_firsts cs) next)
      × AreDecided cs next
  IsDecidedStep _ next = Unit {0}

  -- the next token decides each of these parts, where such may come behind them
  pub IsDecided : Steps → Follow Column → Type 0
  IsDecided no_steps outer = Unit {0}
  IsDecided (step s ss) outer = IsDecidedStep s (next_of ss outer) × IsDecided ss outer

  -- The same of formats of which one is taken: no two begin with a common token, and at most one may be empty.
  pub AreDecided : Choices → Follow Column → Type 0
  AreDecided no_choice next = Unit {0}
  AreDecided (a_choice ss cs) next =
      IsDecided ss next
      × AreApart (all_firsts ss) (one_firsts cs)
      × ((all_may_be_empty ss && one_may_be_empty cs) ≡ false)
      × AreDecided cs next
