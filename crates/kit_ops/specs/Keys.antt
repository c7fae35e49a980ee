-- The keys of attributes, as the constants of the module `keys` have them.
use Rattle.std.specs.Prelude.{ℕ, List, codes}

-- an operation's name as a symbol
abbrev pub symbol_name : List ℕ
symbol_name = codes "builtin_sym_name"

-- a function's type
abbrev pub function_type : List ℕ
function_type = codes "builtin_func_type"

-- a constant's value
abbrev pub constant_value : List ℕ
constant_value = codes "builtin_constant_value"

-- how many operands the segments of a branch have
abbrev pub segment_sizes : List ℕ
segment_sizes = codes "builtin_operand_segment_sizes"

-- the names of results or arguments
abbrev pub given_names : List ℕ
given_names = codes "builtin_given_names"

-- the name of the function that a call calls
abbrev pub callee : List ℕ
callee = codes "kit_callee"

-- its type
abbrev pub callee_type : List ℕ
callee_type = codes "kit_callee_type"

-- a note of whoever wrote the operation
abbrev pub note : List ℕ
note = codes "kit_note"

-- where the operation comes from
abbrev pub origin : List ℕ
origin = codes "kit_origin"
