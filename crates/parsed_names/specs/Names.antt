-- The names of a text, in the order in which they are first mentioned.
use Rattle.std.specs.Prelude.{ℕ, Bool, true, false, List, Option, None, Some}
use Rattle.std.specs.List.{find}
use Rattle.ir_names.specs.Dictionary.{attribute_at, with_attribute, SetsAttribute}
use Rattle.parsed_names.specs.declared.names.Known.{Known}
use Rattle.parsed_names.specs.declared.names.Known.TheVariants.{Defined, Awaited}

-- names, each with what is known of it, in the order in which they are first mentioned
abbrev pub Names : Type 0 → Type 0
Names V = List (List ℕ × Known V)

-- what is known of a name
abbrev pub known_of : {V : Type 0} → Names V → List ℕ → Option (Known V)
known_of names name = attribute_at names name

-- The names after something is known of one: a name that is there keeps its place, and a new one goes last.
abbrev pub knowing : {V : Type 0} → Names V → List ℕ → Known V → Names V
knowing names name known = with_attribute names name known

-- this is known of the name, and of each other name what was known of it
abbrev pub Knows : {V : Type 0} → Names V → Names V → List ℕ → Known V → Type 0
Knows old new name known = SetsAttribute old new name known

abbrev pub is_awaited : {V : Type 0} → List ℕ × Known V → Bool
is_awaited (name, Awaited value) = true
is_awaited (name, Defined value) = false

-- the first name that is mentioned and isn't defined
abbrev pub first_awaited : {V : Type 0} → Names V → Option (List ℕ × Known V)
first_awaited names = find is_awaited names

-- what a name stands for: its value, or what stands in for that until it is defined
abbrev pub value_of : {V : Type 0} → Known V → V
value_of (Defined value) = value
value_of (Awaited value) = value

-- What defining a name answers, by what is known of it: what stood in for its value, and none where nothing did. A name that is defined
-- is refused.
abbrev pub stand_in : {V : Type 0} → Option (Known V) → Option V
stand_in None = None
stand_in (Some (Defined value)) = None
stand_in (Some (Awaited value)) = Some value

abbrev pub is_defined : {V : Type 0} → Option (Known V) → Bool
is_defined None = false
is_defined (Some (Defined value)) = true
is_defined (Some (Awaited value)) = false
