use Rattle.std.proofs.Common.{◌≡◌, ◌++◌, take, map}
use Rattle.std.specs.String.{string_bytes}
use Rattle.ir_names.specs.Text.{clean_code, front_of}
use Rattle.ir_names.proofs.identifier.clean_characters.Given as goal

abbrev pub invariant-loop-character : goal.invariant-loop-character
invariant-loop-character l = string_bytes l.text ≡ front_of l.characters ++ map clean_code (take l.character-index l.characters)
