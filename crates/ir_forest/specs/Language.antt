-- What is said of a language that is read and printed.
use Rattle.std.specs.Prelude.{ℕ, Bool}
use Rattle.ir_print.specs.Formats.{Formats}
use Rattle.ir_print.specs.Pieces.{Values}

-- What texts of a dialect are like: their formats, which kinds of operations are isolated, and what values say.
pub record Language : Type 0 where
  pub formats : Formats
  pub isolated : ℕ → Bool
  pub values : Values
