use Rattle.std.proofs.Common.{refl}
use Rattle.std.specs.Str.{trim_start, trim_end, chars}
use lib.Utf8.{encode}
use Rattle.ir_print.proofs.FormatSteps.{step_rules}
use Rattle.value_texts_tests.proofs.counts.SizesValueMaker.kind.Goals as goal

pub returns-in-Type-eq1 : goal.returns-in-Type-eq1
unfolding trim_start trim_end chars encode
returns-in-Type-eq1 c = rw (c.in-Type-eq1.is-0, c.in-Type-eq1.is-1) (simp step_rules refl)

pub returns-in-Attribute-eq1 : goal.returns-in-Attribute-eq1
unfolding trim_start trim_end chars encode
returns-in-Attribute-eq1 c = rw (c.in-Attribute-eq1.is-0, c.in-Attribute-eq1.is-1) (simp step_rules refl)
