-- What contracts say of the attributes of a dictionary that pass a test.
use Rattle.std.specs.Prelude.{ℕ, Bool, List, Option, Some, None, option_and_then, not, if◌then◌else◌}
use Rattle.std.specs.List.{filter}
use Rattle.ir_names.specs.Dictionary.{attribute_at}

module _ {X : Type 0} (test : X → Bool) where
  -- the attribute under a name, if one stands there and passes the test
  abbrev pub passing_at : List (List ℕ × X) → List ℕ → Option X
  passing_at es key = option_and_then (λ attr. if test attr then Some attr else None) (attribute_at es key)

  -- the entries whose attributes don't pass the test, in their order
  abbrev pub entries_failing : List (List ℕ × X) → List (List ℕ × X)
  entries_failing es = filter (λ e. not (test e.1)) es
