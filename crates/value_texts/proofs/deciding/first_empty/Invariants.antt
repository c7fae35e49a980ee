use Rattle.ir_format_checks.specs.Decided.{all_may_be_empty}
use Rattle.value_texts.proofs.Formats.{NoneSoFar}
use Rattle.value_texts.proofs.deciding.first_empty.Given as goal

abbrev pub invariant-loop-number : goal.invariant-loop-number
invariant-loop-number l = NoneSoFar all_may_be_empty l.alternatives l.number
