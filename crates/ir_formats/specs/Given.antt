-- The table that a dialect gives for its grammar.
use Rattle.std.specs.Prelude.{ℕ, ◌+◌, ◌==◌, ◌||◌, List, [], ◌∷◌, map, length, Option, Some, None, Bool, false, if◌then◌else◌}
use Rattle.std.specs.List.{range_with_len}
use Rattle.ir_print.specs.Formats.{Formats}
use Rattle.ir_formats.specs.declared.given.PartTable.{PartTable}
use Rattle.ir_formats.specs.Rules.{words_of, classes_of, rules_of}
use Rattle.ir_formats.specs.Predicting.{PlainFacts, PlainGrammar}

-- What a table knows of a part, with columns by their numbers.
pub record PlainPart : Type 0 where
  pub choices : List (ℕ × ℕ)
  pub follows : List ℕ
  pub closing : Option ℕ
  pub cost : ℕ
  pub shortest : ℕ
  pub rank : ℕ

-- what the program's table says of a part, as a value
abbrev pub plain_part : PartTable → PlainPart
plain_part t = record { choices = t.choices.now; follows = t.follows.now; closing = t.closing; cost = t.cost; shortest = t.shortest; rank = t.rank }

-- the rule for a column
abbrev pub rule_at : List (ℕ × ℕ) → ℕ → Option ℕ
rule_at [] c = None
rule_at (x ∷ xs) c = if x.0 == c then Some x.1 else rule_at xs c

-- the column is one of these
abbrev pub is_in : List ℕ → ℕ → Bool
is_in [] c = false
is_in (x ∷ xs) c = x == c || is_in xs c

-- the same with a place for each of so many columns
abbrev pub dense : ℕ → PlainPart → PlainFacts
dense columns t = record {
  choices = map (rule_at t.choices) (range_with_len 0 columns);
  follows = map (is_in t.follows) (range_with_len 0 columns);
  closing = t.closing;
  cost = t.cost;
  shortest = t.shortest;
  rank = t.rank;
}

-- the grammar that formats make, with this table: a column for each kind of token, and one for the end
abbrev pub grammar_value : Formats → List PlainPart → PlainGrammar
grammar_value f table = let ws = words_of f in record {
  signs = classes_of ws;
  rules = rules_of f;
  parts = map (dense (length ws + 8)) table;
}
