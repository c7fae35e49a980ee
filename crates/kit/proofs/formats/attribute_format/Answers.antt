use Rattle.std.proofs.Common.{refl}
use Rattle.std.specs.Str.{trim_start, trim_end, chars}
use lib.Utf8.{encode}
use Rattle.ir_print.proofs.FormatSteps.{step_rules}
use Rattle.kit.proofs.formats.attribute_format.Goals as goal

pub returns-in-Integer : goal.returns-in-Integer
unfolding trim_start trim_end chars encode
returns-in-Integer c = rw c.in-Integer.is (simp step_rules refl)

pub returns-in-SegmentSizes : goal.returns-in-SegmentSizes
unfolding trim_start trim_end chars encode
returns-in-SegmentSizes c = rw c.in-SegmentSizes.is (simp step_rules refl)

pub returns-in-GivenNames : goal.returns-in-GivenNames
unfolding trim_start trim_end chars encode
returns-in-GivenNames c = rw c.in-GivenNames.is (simp step_rules refl)
