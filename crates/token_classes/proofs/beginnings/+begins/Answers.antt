use Rattle.std.proofs.Common.{ap, sym, ◌∙◌}
use Rattle.ir_format_checks.specs.Decided.{begins, one_begins}
use Rattle.token_classes.proofs.FormatLoops.{or_true, is_choice, choices_turn, choices_end}
use Rattle.token_classes.specs.Classes.{is_lexeme_of}
use Rattle.token_classes.proofs.beginnings.+begins.Goals as goal

pub begins-returns-then-all_begin : goal.begins-returns-then-all_begin
begins-returns-then-all_begin t c =
    let is_it = is_lexeme_of c.args.token.now in
    let left = choices_turn (one_begins is_it) c.in-Choice.alternatives.now c.loop-format.format-index _ _ c.loop-format-test.true c.loop-format.invariant in
    or_true _ _ _ left (sym c.all_begin-in-loop-format.ensures ∙ c.if-all_begin.true) ∙ sym (ap (begins is_it) (is_choice _ _ c.in-Choice.is))

pub begins-returns-after-loop-format : goal.begins-returns-after-loop-format
begins-returns-after-loop-format t c =
    let is_it = is_lexeme_of c.args.token.now in
    choices_end (one_begins is_it) c.in-Choice.alternatives.now c.loop-format.format-index _ c.loop-format-test.false c.loop-format.invariant
    ∙ sym (ap (begins is_it) (is_choice _ _ c.in-Choice.is))
