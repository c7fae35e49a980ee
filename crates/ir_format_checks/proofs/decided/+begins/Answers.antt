use Rattle.std.proofs.Common.{ap, sym, ◌∙◌}
use Rattle.ir_format_checks.specs.Decided.{begins, one_begins}
use Rattle.ir_format_checks.proofs.FormatLoops.{or_true, is_choice, choices_turn, choices_end}
use Rattle.ir_format_checks.proofs.decided.+begins.Goals as goal

pub begins-returns-then-all_begin : goal.begins-returns-then-all_begin
begins-returns-then-all_begin g t c =
    let is_it = g.S.TokenSet.meets c.args.set.now in
    let left = choices_turn (one_begins is_it) c.in-Choice.alternatives.now c.loop-format.format-index _ _ c.loop-format-test.true c.loop-format.invariant in
    or_true _ _ _ left (sym c.all_begin-in-loop-format.ensures ∙ c.if-all_begin.true) ∙ sym (ap (begins is_it) (is_choice _ _ c.in-Choice.is))

pub begins-returns-after-loop-format : goal.begins-returns-after-loop-format
begins-returns-after-loop-format g t c =
    let is_it = g.S.TokenSet.meets c.args.set.now in
    choices_end (one_begins is_it) c.in-Choice.alternatives.now c.loop-format.format-index _ c.loop-format-test.false c.loop-format.invariant
    ∙ sym (ap (begins is_it) (is_choice _ _ c.in-Choice.is))
