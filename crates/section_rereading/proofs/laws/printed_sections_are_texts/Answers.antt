use Rattle.text_sections.specs.Texts.{section_tokens}
use Rattle.section_rereading.proofs.CharacterSteps.{printed_rest, section_text}
use Rattle.section_rereading.proofs.laws.printed_sections_are_texts.Goals as goal

pub returns-clause-text : goal.returns-clause-text
returns-clause-text g c attribute_text location_text is_readable is_readable_place context state attributes locations s bytes good h =
    section_text is_readable is_readable_place _ _ attribute_text location_text attributes locations s bytes good h

pub returns-clause-rest : goal.returns-clause-rest
returns-clause-rest g c attribute_text location_text s rest = printed_rest attribute_text location_text (section_tokens s) rest
