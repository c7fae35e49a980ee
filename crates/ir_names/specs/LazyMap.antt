-- What a contract sees of a map that asks for memory at its first entry: its names with their values, in order.
use Rattle.std.specs.Prelude.{ℕ, Bool, List, [], Option, None, Some, String, Box, bytes_eq}
use Rattle.std.specs.Box.{box_value}
use Rattle.std.specs.HashMap.{HashMap}
use Rattle.std.specs.String.{string_bytes}

-- the text is the name
abbrev pub is_name : {Y : Type 0} → List ℕ → String Y → Bool
is_name name text = bytes_eq name (string_bytes text)

-- the entries of the map, if there is one
abbrev pub entries_of : {K X S Z : Type 0} → Option (Box (HashMap K X S) Z) → List (K × X)
entries_of None = []
entries_of (Some map) = (box_value map).entries
