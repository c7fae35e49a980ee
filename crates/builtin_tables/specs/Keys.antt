-- The keys of the attributes that interfaces read, as the constants of the module `keys` have them.
use Rattle.std.specs.Prelude.{ℕ, List, codes}

-- an operation's name as a symbol
abbrev pub symbol_name : List ℕ
symbol_name = codes "builtin_sym_name"

-- how many operands each segment has
abbrev pub segment_sizes : List ℕ
segment_sizes = codes "builtin_operand_segment_sizes"
