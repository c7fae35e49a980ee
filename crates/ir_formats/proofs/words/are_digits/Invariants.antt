use Rattle.std.proofs.Common.{◌≡◌, drop}
use Rattle.std.specs.List.{list_all}
use Rattle.ir_characters.specs.Texts.{codes_of}
use Rattle.ir_tokens.specs.Tokens.{is_digit}
use Rattle.ir_formats.proofs.words.are_digits.Given as goal

abbrev pub invariant-loop-place : goal.invariant-loop-place
invariant-loop-place l = list_all is_digit (drop l.place (codes_of l.text)) ≡ list_all is_digit (drop l.from (codes_of l.text))
