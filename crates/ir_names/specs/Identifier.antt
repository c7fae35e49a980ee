-- What a contract sees of an identifier.
use Rattle.std.specs.Prelude.{ℕ, List, Result, Err}
use Rattle.std.specs.String.{string_bytes}
use Rattle.ir_names.specs.declared.identifier.Identifier.{Identifier}
use Rattle.ir_names.specs.declared.identifier.IdentifierError.{IdentifierError}
use Rattle.ir_names.specs.declared.identifier.IdentifierError.TheVariants.{Invalid}

-- its text, byte by byte
abbrev pub text_of : Identifier → List ℕ
text_of id = string_bytes id.text

-- what a text that is no identifier is answered by
abbrev pub invalid : Result Identifier IdentifierError
invalid = Err (Invalid (record {}))
