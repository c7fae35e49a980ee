-- A language: integers and functions as types, integers and lists of attributes as attributes.
use Rattle.std.specs.Prelude.{ℕ, List, [], ◌∷◌, codes}
use Rattle.ir_print.specs.Formats.{Step, word, a_value, a_leaf, list_of, Steps, no_steps, step, Kind, Formats}
use Rattle.ir_print.specs.declared.format.ValueSort.TheVariants as sorts
use Rattle.ir_print.specs.declared.format.LeafSort.TheVariants as leaves

-- a sign that is printed without spaces
abbrev pub sign : List ℕ → Step
sign text = word text text

-- members with commas between them
abbrev pub commas : Steps → Step
commas member = list_of member (codes ", ") (codes ",")

-- a step alone
abbrev pub just : Step → Steps
just s = step s no_steps

-- `i8`
abbrev pub integer_type : Kind
integer_type = record { id = codes "builtin.integer"; format = just (a_leaf leaves.Width) }

-- types in parentheses
abbrev pub several_types : Steps → Steps
several_types ss = step (sign (codes "(")) (step (commas (just (a_value sorts.«Type»))) (step (sign (codes ")")) ss))

-- `<(A, B)->(C)>`
abbrev pub function_type : Kind
function_type = record {
  id = codes "builtin.function";
  format = step (sign (codes "<")) (several_types (step (sign (codes "->")) (several_types (just (sign (codes ">"))))));
}

-- `<5: i8>`
abbrev pub integer_attribute : Kind
integer_attribute = record {
  id = codes "builtin.integer";
  format = step (sign (codes "<")) (step (a_leaf leaves.Number)
      (step (word (codes ": ") (codes ":")) (step (a_leaf leaves.Width) (just (sign (codes ">"))))));
}

-- `[a, b]`
abbrev pub list_attribute : Kind
list_attribute = record {
  id = codes "builtin.vec";
  format = step (sign (codes "[")) (step (commas (just (a_value sorts.Attribute))) (just (sign (codes "]"))));
}

abbrev pub example : Formats
example = record {
  operations = [];
  types = integer_type ∷ function_type ∷ [];
  attributes = integer_attribute ∷ list_attribute ∷ [];
}
