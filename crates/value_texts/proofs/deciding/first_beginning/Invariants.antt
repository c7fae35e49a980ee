use Rattle.ir_format_checks.specs.Decided.{all_begin}
use Rattle.value_texts.specs.Following.{is_next_of}
use Rattle.value_texts.proofs.Formats.{NoneSoFar}
use Rattle.value_texts.proofs.deciding.first_beginning.Given as goal

abbrev pub invariant-loop-number : goal.invariant-loop-number
invariant-loop-number l = NoneSoFar (all_begin (is_next_of l.token)) l.alternatives l.number
