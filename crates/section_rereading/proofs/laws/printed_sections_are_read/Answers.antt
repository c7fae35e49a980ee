use Rattle.section_rereading.proofs.SectionSteps.{section_read}
use Rattle.section_rereading.proofs.laws.printed_sections_are_read.Goals as goal

pub returns : goal.returns
returns g c attribute_text location_text says says_place prints_place is_readable is_readable_place inverse e es read v w rest good free is h =
    section_read _ attribute_text location_text says says_place prints_place is_readable is_readable_place inverse e es read v w rest good free is h
