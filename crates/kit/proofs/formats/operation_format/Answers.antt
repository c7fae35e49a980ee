use Rattle.std.proofs.Common.{refl}
use Rattle.std.specs.Str.{trim_start, trim_end, chars}
use lib.Utf8.{encode}
use Rattle.ir_print.proofs.FormatSteps.{step_rules}
use Rattle.kit.proofs.formats.operation_format.Goals as goal

pub returns-in-Func : goal.returns-in-Func
unfolding trim_start trim_end chars encode
returns-in-Func c = rw c.in-Func.is (simp step_rules refl)

pub returns-in-Arithmetic : goal.returns-in-Arithmetic
unfolding trim_start trim_end chars encode
returns-in-Arithmetic c = rw c.in-Arithmetic.is (simp step_rules refl)

pub returns-in-Comparison : goal.returns-in-Comparison
unfolding trim_start trim_end chars encode
returns-in-Comparison c = rw c.in-Comparison.is (simp step_rules refl)

pub returns-in-Call : goal.returns-in-Call
unfolding trim_start trim_end chars encode
returns-in-Call c = rw c.in-Call.is (simp step_rules refl)

pub returns-in-Br : goal.returns-in-Br
unfolding trim_start trim_end chars encode
returns-in-Br c = rw c.in-Br.is (simp step_rules refl)

pub returns-in-CondBr : goal.returns-in-CondBr
unfolding trim_start trim_end chars encode
returns-in-CondBr c = rw c.in-CondBr.is (simp step_rules refl)
