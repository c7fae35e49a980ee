-- What a contract sees of numbers in a row.
use Rattle.std.specs.Prelude.{ℕ, List}
use Rattle.ir_tokens.specs.declared.numbers.Stored.{Stored}
use Rattle.ir_tokens.specs.declared.numbers.Stored.TheVariants as stored

-- the numbers, however many bytes each takes
abbrev pub numbers_of : Stored → List ℕ
numbers_of (stored.Short short) = short.items
numbers_of (stored.Long long) = long.items
