use Rattle.std.proofs.Common.{refl}
use Rattle.std.specs.Str.{trim_start, trim_end, chars}
use lib.Utf8.{encode}
use Rattle.ir_print.proofs.FormatSteps.{step_rules}
use Rattle.kit.proofs.formats.type_format.Goals as goal

pub returns-in-Function : goal.returns-in-Function
unfolding trim_start trim_end chars encode
returns-in-Function c = rw c.in-Function.is (simp step_rules refl)
