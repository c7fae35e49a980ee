use Rattle.outline_values.proofs.Places.{goes_next, goes_sign, ends_behind, ends_passed}
use Rattle.outline_values.proofs.types.+types.Goals as goal

pub read_function-returns : goal.read_function-returns
read_function-returns t c =
    let inputs = goes_sign c.args.at c.in_ok-inputs.inputs c.in_ok-arrow.arrow c.in_ok-inputs.ensures.passes c.in_ok-arrow.ensures in
    let results = goes_next c.args.at c.in_ok-arrow.arrow c.in_ok-results.results c.in_ok-end.end inputs c.in_ok-results.ensures c.in_ok-end.ensures in
    ends_passed c.args.at c.in_ok-end.end c.expect-2.result results c.expect-2.ensures.passes

pub read_type-returns-in-Integer : goal.read_type-returns-in-Integer
read_type-returns-in-Integer t c = ends_behind c.args.at c.in_ok-id.id.end c.read_width.result c.in_ok-id.ensures c.read_width.ensures

pub read_type-returns-in-Function : goal.read_type-returns-in-Function
read_type-returns-in-Function t c = ends_behind c.args.at c.in_ok-id.id.end c.read_function.result c.in_ok-id.ensures c.read_function.ensures

pub read_types-returns-in-Some : goal.read_types-returns-in-Some
read_types-returns-in-Some t c = goes_sign c.args.at c.in_ok-start.start c.in-Some.end c.in_ok-start.ensures.passes c.in-Some.ensures.passes.goes

pub read_types-loop-next-init : goal.read_types-loop-next-init
read_types-loop-next-init t c = goes_sign c.args.at c.in_ok-start.start c.in_ok-end.end c.in_ok-start.ensures.passes c.in_ok-end.ensures

pub read_types-loop-next-preserved : goal.read_types-loop-next-preserved
read_types-loop-next-preserved t c = goes_next c.args.at c.loop-next.end c.in-Some-behind_sign.next c.in_ok-end-2.end c.loop-next.invariant c.in-Some-behind_sign.ensures.passes c.in_ok-end-2.ensures

pub read_types-returns : goal.read_types-returns
read_types-returns t c = ends_passed c.args.at c.loop-next.end c.expect-2.result c.loop-next.invariant c.expect-2.ensures.passes
