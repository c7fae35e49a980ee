use Rattle.std.proofs.Common.{sym, ◌∙◌, arith}
use Rattle.std.proofs.lemmas.Option.{slice_get-get_or}
use Rattle.ir_format_checks.specs.Decided.{all_may_be_empty}
use Rattle.value_texts.proofs.Formats.{none_next, found_one, none_of_them_empty}
use Rattle.value_texts.proofs.deciding.first_empty.Goals as goal

pub returns-then-all_may_be_empty : goal.returns-then-all_may_be_empty
returns-then-all_may_be_empty c = found_one all_may_be_empty c.args.alternatives.now c.loop-number.number _ (slice_get-get_or c.args.alternatives.now c.loop-number.number _ (omega arith)) (sym c.all_may_be_empty.ensures ∙ c.if-all_may_be_empty.true)

pub loop-number-preserved : goal.loop-number-preserved
loop-number-preserved c = none_next all_may_be_empty c.args.alternatives.now c.loop-number.number _ (slice_get-get_or c.args.alternatives.now c.loop-number.number _ (omega arith)) (sym c.all_may_be_empty.ensures ∙ c.if-all_may_be_empty.false)
    c.loop-number.invariant

pub returns : goal.returns
returns c = none_of_them_empty c.args.alternatives.now c.loop-number.number (omega arith) c.loop-number.invariant
