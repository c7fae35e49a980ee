use Rattle.std.proofs.Common.{sym, ◌∙◌, arith}
use Rattle.std.proofs.lemmas.Option.{slice_get-get_or}
use Rattle.ir_format_checks.specs.Decided.{all_begin}
use Rattle.value_texts.specs.Following.{is_next_of}
use Rattle.value_texts.proofs.Formats.{none_next, found_one, none_beginning}
use Rattle.value_texts.proofs.deciding.first_beginning.Goals as goal

pub returns-then-begins_with : goal.returns-then-begins_with
returns-then-begins_with c = found_one (all_begin (is_next_of c.args.token.now)) c.args.alternatives.now c.loop-number.number _ (slice_get-get_or c.args.alternatives.now c.loop-number.number _ (omega arith)) (sym c.begins_with.ensures ∙ c.if-begins_with.true)

pub loop-number-preserved : goal.loop-number-preserved
loop-number-preserved c = none_next (all_begin (is_next_of c.args.token.now)) c.args.alternatives.now c.loop-number.number _ (slice_get-get_or c.args.alternatives.now c.loop-number.number _ (omega arith)) (sym c.begins_with.ensures ∙ c.if-begins_with.false)
    c.loop-number.invariant

pub returns : goal.returns
returns c = none_beginning (is_next_of c.args.token.now) c.args.alternatives.now c.loop-number.number (omega arith) c.loop-number.invariant
