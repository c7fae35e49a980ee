use Rattle.outline_values.proofs.Places.{goes_next, goes_sign, ends_behind, ends_passed, goes_both}
use Rattle.outline_values.proofs.attributes.+attributes.Goals as goal

pub read_attribute-returns : goal.read_attribute-returns
read_attribute-returns t c = ends_behind c.args.at c.in_ok-id.id.end c.read_content.result c.in_ok-id.ensures c.read_content.ensures

pub read_list-returns-in-Some : goal.read_list-returns-in-Some
read_list-returns-in-Some t c = goes_sign c.args.at c.in_ok-start.start c.in-Some.end c.in_ok-start.ensures.passes c.in-Some.ensures.passes.goes

pub read_list-loop-next-init : goal.read_list-loop-next-init
read_list-loop-next-init t c = goes_sign c.args.at c.in_ok-start.start c.in_ok-end.end c.in_ok-start.ensures.passes c.in_ok-end.ensures

pub read_list-loop-next-preserved : goal.read_list-loop-next-preserved
read_list-loop-next-preserved t c = goes_next c.args.at c.loop-next.end c.in-Some-behind_sign.next c.in_ok-end-2.end c.loop-next.invariant c.in-Some-behind_sign.ensures.passes c.in_ok-end-2.ensures

pub read_list-returns : goal.read_list-returns
read_list-returns t c = ends_passed c.args.at c.loop-next.end c.expect-2.result c.loop-next.invariant c.expect-2.ensures.passes

pub read_dictionary-returns-in-Some : goal.read_dictionary-returns-in-Some
read_dictionary-returns-in-Some t c = goes_sign c.args.at c.in_ok-start.start c.in-Some.end c.in_ok-start.ensures.passes c.in-Some.ensures.passes.goes

pub read_dictionary-loop-next-init : goal.read_dictionary-loop-next-init
read_dictionary-loop-next-init t c = goes_sign c.args.at c.in_ok-start.start c.in_ok-end.end c.in_ok-start.ensures.passes c.in_ok-end.ensures

pub read_dictionary-loop-next-preserved : goal.read_dictionary-loop-next-preserved
read_dictionary-loop-next-preserved t c = goes_next c.args.at c.loop-next.end c.in-Some-behind_sign.next c.in_ok-end-2.end c.loop-next.invariant c.in-Some-behind_sign.ensures.passes c.in_ok-end-2.ensures

pub read_dictionary-returns : goal.read_dictionary-returns
read_dictionary-returns t c = ends_passed c.args.at c.loop-next.end c.expect-2.result c.loop-next.invariant c.expect-2.ensures.passes

pub read_member-returns : goal.read_member-returns
read_member-returns t c =
    let sign = goes_both c.args.at c.in_ok-equals.equals c.in_ok-value.value c.in_ok-equals.ensures c.in_ok-value.ensures.passes.goes in
    ends_behind c.args.at c.in_ok-value.value c.read_attribute.result sign c.read_attribute.ensures
