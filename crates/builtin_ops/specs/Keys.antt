-- The keys of the attributes that these operations have, as the constants of the module `keys` have them.
use Rattle.std.specs.Prelude.{ℕ, List, codes}

-- a function's type
abbrev pub function_type : List ℕ
function_type = codes "builtin_func_type"

-- a constant's value
abbrev pub constant_value : List ℕ
constant_value = codes "builtin_constant_value"
