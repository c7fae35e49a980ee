use Rattle.std.proofs.Common.{subst}
use Rattle.ir_names.proofs.Copied.{IsCopiedTo, next_is_new, copies_next, copies_end}
use Rattle.ir_names.proofs.Equalled.{copies_equal}
use Rattle.ir_names.proofs.dictionary.AttributeDict.clone.Goals as goal

pub add_copy-requires-clause-new : goal.add_copy-requires-clause-new
add_copy-requires-clause-new g c =
    next_is_new g.D.Attr.PartialEq.eq c.args.self.now c.next.new.self c.loop-name.copy (c.in-Some.name.now, c.in-Some.attr.now)
    (subst (λ left. IsCopiedTo g.D.Attr.PartialEq.eq c.args.self.now left c.loop-name.copy) c.in-Some.ensures.steps c.loop-name.invariant)
    c.know_distinct.ensures

pub loop-name-preserved : goal.loop-name-preserved
loop-name-preserved g c =
    copies_next g.D.Attr.PartialEq.eq c.args.self.now c.next.new.self c.loop-name.copy (c.in-Some.name.now, c.in-Some.attr.now)
    (subst (λ left. IsCopiedTo g.D.Attr.PartialEq.eq c.args.self.now left c.loop-name.copy) c.in-Some.ensures.steps c.loop-name.invariant)
    c.add_copy.new.self c.in_ok-add_copy.ensures

pub returns-clause-equal : goal.returns-clause-equal
returns-clause-equal g c =
    copies_equal g.D.Attr.PartialEq.eq c.args.self.now c.loop-name.copy
    (copies_end g.D.Attr.PartialEq.eq c.args.self.now c.loop-name.copy (subst (λ left. IsCopiedTo g.D.Attr.PartialEq.eq c.args.self.now left c.loop-name.copy) c.in-None.ensures.steps.0 c.loop-name.invariant))
