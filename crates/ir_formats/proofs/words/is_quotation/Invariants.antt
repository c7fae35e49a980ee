use Rattle.std.proofs.Common.{◌≡◌, drop, cond}
use Rattle.ir_characters.specs.Texts.{codes_of}
use Rattle.ir_formats.specs.Words.{are_whole, is_whole}
use Rattle.ir_formats.proofs.words.is_quotation.Given as goal

abbrev pub invariant-loop-place : goal.invariant-loop-place
invariant-loop-place l = cond l.is_escape (is_whole (drop l.place (codes_of l.text))) (are_whole (drop l.place (codes_of l.text))) ≡ are_whole (drop 1 (codes_of l.text))
