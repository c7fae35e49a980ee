-- The language: its formats, and that nothing is refused.
use Rattle.std.specs.Prelude.{ℕ, List, [], ◌∷◌, None, codes}
use Rattle.ir_print.specs.declared.format.LeafSort.{LeafSort}
use Rattle.ir_print.specs.declared.format.LeafSort.TheVariants as leaves
use Rattle.ir_print.specs.declared.format.ValueSort.TheVariants as sorts
use Rattle.ir_print.specs.Formats.{Formats, Kind, word, a_value, a_leaf, list_of, choice_of, Step, Steps, no_steps, step, no_choice, a_choice}
use Rattle.ir_print.specs.Pieces.{Leaf, quoted, Values}

-- a step alone
abbrev pub just : Step → Steps
just s = step s no_steps

abbrev pub integer : Kind
integer = record { id = codes "t.int"; format = just (a_leaf leaves.Width) }

abbrev pub list : Kind
list = record {
  id = codes "t.list";
  format = step (word (codes "[") (codes "[")) (step (list_of (just (a_value sorts.«Type»)) (codes ", ") (codes ",")) (just (word (codes "]") (codes "]"))));
}

abbrev pub of_type : Kind
of_type = record { id = codes "t.of"; format = just (a_value sorts.«Type») }

abbrev pub pair : Kind
pair = record {
  id = codes "t.pair";
  format = step (a_leaf leaves.Number) (step (word (codes ": ") (codes ":"))
      (just (choice_of (a_choice (just (a_leaf leaves.Name)) (a_choice (just (a_leaf leaves.Text)) (a_choice (just (a_leaf leaves.Mark)) no_choice))))));
}

abbrev pub formats : Formats
formats = record { operations = []; types = integer ∷ list ∷ []; attributes = of_type ∷ pair ∷ [] }

-- nothing is refused, and all says what was read
abbrev pub values : Values
values = record {
  refused_type = λ n ps. None;
  refused_attribute = λ n ps. None;
  refused_operation = λ n ps. None;
  canonical = λ n ps. ps;
  result_types = λ n ps. [];
}

-- each token is kept by its characters
abbrev pub leaf_in : LeafSort → List ℕ → Leaf
leaf_in sort cs = quoted cs
