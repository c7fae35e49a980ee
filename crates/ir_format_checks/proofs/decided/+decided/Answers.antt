use Rattle.std.proofs.Common.{sym, ◌∙◌, arith, []}
use Rattle.std.proofs.lemmas.Grind.{common_steps}
use Rattle.ir_print.specs.Formats.{choices_of}
use Rattle.ir_format_checks.specs.Test.{are_decided}
use Rattle.ir_format_checks.specs.Values.{classes_of}
use Rattle.ir_format_checks.proofs.FormatLoops.{choices_turn, choices_end, choice_refused, choice_accepted}
use Rattle.ir_format_checks.proofs.decided.+decided.Goals as goal

pub is_decided-returns-then-not-are_told : goal.is_decided-returns-then-not-are_told
is_decided-returns-then-not-are_told t c =
    let fs = c.in-Choice.alternatives in
    let n = classes_of c.args.next.now in
    let left = choices_turn (λ cs. are_decided cs n) fs.now c.loop-index.index (record { ref_ptr = (0, 0); now = [] }) (are_decided (choices_of fs.now) n) c.loop-index-test.true c.loop-index.invariant in
    choice_refused c.args.directive fs n c.in-Choice.is (grind (arith, common_steps, left, c.are_told.ensures))

pub is_decided-returns-then-not-all_decided : goal.is_decided-returns-then-not-all_decided
is_decided-returns-then-not-all_decided t c =
    let fs = c.in-Choice.alternatives in
    let n = classes_of c.args.next.now in
    let left = choices_turn (λ cs. are_decided cs n) fs.now c.loop-index.index (record { ref_ptr = (0, 0); now = [] }) (are_decided (choices_of fs.now) n) c.loop-index-test.true c.loop-index.invariant in
    choice_refused c.args.directive fs n c.in-Choice.is (grind (arith, common_steps, left, c.are_told.ensures, c.all_decided-in-loop-index.ensures))

pub is_decided-returns-after-loop-index : goal.is_decided-returns-after-loop-index
is_decided-returns-after-loop-index t c =
    let n = classes_of c.args.next.now in
    choice_accepted c.args.directive c.in-Choice.alternatives n c.in-Choice.is (sym c.is_told-in-Choice.ensures ∙ c.if-not-is_told.false)
    (choices_end (λ cs. are_decided cs n) c.in-Choice.alternatives.now c.loop-index.index _ c.loop-index-test.false c.loop-index.invariant)
