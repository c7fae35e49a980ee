use Rattle.std.proofs.Common.{refl, inl, inr}
use Rattle.text_locations.proofs.ReadingLemmas.{exit}
use Rattle.text_outlines.proofs.sections.read_section.Goals as goal

pub returns-in-Ok : goal.returns-in-Ok
returns-in-Ok g c = (c.read_word.new.stream, c.in_ok-read_word.ensures, c.in-Ok.ensures)

pub returns-in_err-read_word : goal.returns-in_err-read_word
returns-in_err-read_word g c = exit _ _ c.from_residual.result c.in_err-read_word.field-0.0 c.from_residual.ensures.1
    (inl c.in_err-read_word.ensures)

pub returns-in-Err : goal.returns-in-Err
returns-in-Err g c = inr (c.read_word.new.stream, c.in_ok-read_word.ensures, c.in-Err.fault, refl, c.in-Err.ensures)
