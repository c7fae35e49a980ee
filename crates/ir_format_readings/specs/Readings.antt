-- The texts of formats, and what reading them does.
use Rattle.std.specs.Prelude.{◌≡◌, ℕ, true, List, [], ◌∷◌, ◌++◌, Some, None, slice_get, codes, refl}
use Rattle.ir_tokens.specs.declared.tokens.TokenKind.TheVariants.{Sign}
use Rattle.ir_print.specs.Formats.{Step, word, operands, operand, successor, a_value, a_region, symbol_name, a_leaf, list_of, choice_of, Steps, no_steps, step, Choices, alternative, Kind, Formats, kinds_of}
use Rattle.ir_print.specs.declared.format.ValueSort.{ValueSort}
use Rattle.ir_print.specs.declared.format.LeafSort.{LeafSort}
use Rattle.ir_format_checks.specs.Tokens.{WrittenToken, Column, given, a_name, dotted, is_of}
use Rattle.ir_format_checks.specs.Decided.{leaf_class}

-- A piece of a text: a token, or a region as a whole, from its `{` to the `}` that closes it.
pub data Item : Type 0 where
  token : WrittenToken → Item
  region : List WrittenToken → Item

-- the token `{`
abbrev pub brace : WrittenToken
brace = record { kind = Sign 123; text = codes "{"; spelled = (refl, refl, refl) }

-- what comes next
abbrev pub column_of : List Item → Column
column_of [] = None
column_of (token t ∷ ts) = Some t
column_of (region r ∷ ts) = Some brace

-- What is still to be read: these steps, or more members of a list, each behind this word.
pub data Todo : Type 0 where
  rest : Steps → Todo
  more : Steps → List ℕ → Todo

-- What is told while a text is read: an item is taken, a member of a list begins, a list ends, the format with this number
-- is picked, a value of the kind with this number begins.
pub data Event : Type 0 where
  took member ended : Event
  picks says : ℕ → Event

-- ---- parts that are several

-- operands are a list of names
abbrev pub names : Step
names = list_of (step operand no_steps) (codes ", ") (codes ",")

-- `@` and a name
abbrev pub symbol_steps : Steps → Steps
symbol_steps ss = step (word (codes "@") (codes "@")) (step operand ss)

-- `^`, a name, and operands in parentheses
abbrev pub edge_steps : Steps → Steps
edge_steps ss = step (word (codes "^") (codes "^")) (step operand
    (step (word (codes "(") (codes "(")) (step operands (step (word (codes ")") (codes ")")) ss))))

-- ---- texts

-- The items are a text of what is still to be read, and reading it tells these events.
pub data Derives (f : Formats) : List Todo → List Item → List Event → Type 0 where
  finished : Derives f [] [] []
  no_step : {st : List Todo} {ts : List Item} {es : List Event}
      → Derives f st ts es → Derives f (rest no_steps ∷ st) ts es
  -- tokens, and regions
  a_word : {printed w : List ℕ} {t : WrittenToken} {ss : Steps} {st : List Todo} {ts : List Item} {es : List Event}
      → is_of (given w) t ≡ true → Derives f (rest ss ∷ st) ts es
      → Derives f (rest (step (word printed w) ss) ∷ st) (token t ∷ ts) (took ∷ es)
  an_operand : {t : WrittenToken} {ss : Steps} {st : List Todo} {ts : List Item} {es : List Event}
      → is_of a_name t ≡ true → Derives f (rest ss ∷ st) ts es
      → Derives f (rest (step operand ss) ∷ st) (token t ∷ ts) (took ∷ es)
  a_leaf_token : {sort : LeafSort} {t : WrittenToken} {ss : Steps} {st : List Todo} {ts : List Item} {es : List Event}
      → is_of (leaf_class sort) t ≡ true → Derives f (rest ss ∷ st) ts es
      → Derives f (rest (step (a_leaf sort) ss) ∷ st) (token t ∷ ts) (took ∷ es)
  one_region : {r : List WrittenToken} {ss : Steps} {st : List Todo} {ts : List Item} {es : List Event}
      → Derives f (rest ss ∷ st) ts es → Derives f (rest (step a_region ss) ∷ st) (region r ∷ ts) (took ∷ es)
  -- a type or an attribute: the id of a kind, and its format
  value : {sort : ValueSort} {t : WrittenToken} {ss : Steps} {st : List Todo} {ts : List Item} {es : List Event}
      (i : ℕ) (k : Kind) → slice_get (kinds_of f sort) i ≡ Some k → is_of dotted t ≡ true → t.text ≡ k.id
      → Derives f (rest k.format ∷ rest ss ∷ st) ts es
      → Derives f (rest (step (a_value sort) ss) ∷ st) (token t ∷ ts) (says i ∷ es)
  -- parts that are several
  symbol : {ss : Steps} {st : List Todo} {ts : List Item} {es : List Event}
      → Derives f (rest (symbol_steps ss) ∷ st) ts es → Derives f (rest (step symbol_name ss) ∷ st) ts es
  edge : {ss : Steps} {st : List Todo} {ts : List Item} {es : List Event}
      → Derives f (rest (edge_steps ss) ∷ st) ts es → Derives f (rest (step successor ss) ∷ st) ts es
  several : {ss : Steps} {st : List Todo} {ts : List Item} {es : List Event}
      → Derives f (rest (step names ss) ∷ st) ts es → Derives f (rest (step operands ss) ∷ st) ts es
  -- lists
  no_member : {m ss : Steps} {printed w : List ℕ} {st : List Todo} {ts : List Item} {es : List Event}
      → Derives f (rest ss ∷ st) ts es → Derives f (rest (step (list_of m printed w) ss) ∷ st) ts (ended ∷ es)
  a_member : {m ss : Steps} {printed w : List ℕ} {st : List Todo} {ts : List Item} {es : List Event}
      → Derives f (rest m ∷ more m w ∷ rest ss ∷ st) ts es
      → Derives f (rest (step (list_of m printed w) ss) ∷ st) ts (member ∷ es)
  no_more : {m : Steps} {w : List ℕ} {st : List Todo} {ts : List Item} {es : List Event}
      → Derives f st ts es → Derives f (more m w ∷ st) ts (ended ∷ es)
  one_more : {m : Steps} {w : List ℕ} {t : WrittenToken} {st : List Todo} {ts : List Item} {es : List Event}
      → is_of (given w) t ≡ true → Derives f (rest m ∷ more m w ∷ st) ts es
      → Derives f (more m w ∷ st) (token t ∷ ts) (member ∷ es)
  -- choices
  picked : {cs : Choices} {ss a : Steps} {st : List Todo} {ts : List Item} {es : List Event}
      (i : ℕ) → alternative cs i ≡ Some a → Derives f (rest a ∷ rest ss ∷ st) ts es
      → Derives f (rest (step (choice_of cs) ss) ∷ st) ts (picks i ∷ es)

-- ---- readings

-- The items are a text of a value of this sort, and reading it tells these events.
abbrev pub ReadsValue : Formats → ValueSort → List Item → List Event → Type 0
ReadsValue f sort ts es = Derives f (rest (step (a_value sort) no_steps) ∷ []) ts es

-- The items are a text of this format, and reading it tells these events.
abbrev pub ReadsBody : Formats → Steps → List Item → List Event → Type 0
ReadsBody f format ts es = Derives f (rest format ∷ []) ts es

-- two texts that are one, with one reading
pub record AreSame (text other : List Item) (events others : List Event) : Type 0 where
  pub texts : text ≡ other
  pub readings : events ≡ others

-- Such items end at one place, and tell one thing, where such come behind them: of two that begin one text both are the same.
abbrev pub HasOneReading : (List Item → List Event → Type 0) → (List Item → Type 0) → Type 0
HasOneReading Reads MayFollow = (text other behind after : List Item) (events others : List Event)
    → Reads text events → Reads other others → MayFollow behind → MayFollow after
    → text ++ behind ≡ other ++ after → AreSame text other events others

-- whatever the items are
abbrev pub Always : List Item → Type 0
Always items = Unit {0}
