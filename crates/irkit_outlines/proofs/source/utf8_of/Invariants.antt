use Rattle.std.proofs.Common.{◌≡◌, encode_utf8_all, take}
use Rattle.std.specs.String.{string_bytes}
use Rattle.ir_characters.specs.Texts.{codes_of}
use Rattle.irkit_outlines.proofs.source.utf8_of.Given as goal

abbrev pub invariant-loop-place : goal.invariant-loop-place
invariant-loop-place l = string_bytes l.bytes ≡ encode_utf8_all (take l.place (codes_of l.text))
