use Rattle.std.proofs.Common.{Bool, sym, subst, ◌∙◌}
use Rattle.ir_names.specs.declared.interfaces.AttrInterface.TheVariants.{OutlinedAttr}
use Rattle.ir_queries.proofs.SkippedCopies.{IsSkippedTo, next_is_new, skips_next, copies_next}
use Rattle.ir_queries.proofs.lookups.AttributeDictAttributeLookups.clone_skip_outlined.Goals as goal

pub add_copy-requires-clause-new : goal.add_copy-requires-clause-new
add_copy-requires-clause-new g c =
    let eq = g.D.Attr.PartialEq.eq in
    let outlined : g.row.D-Attr.Denot → Bool = λ attr. g.D.DialectTables.attr_has attr OutlinedAttr in
    next_is_new eq outlined c.args.self.now c.next.new.self c.loop-name.copy (c.in-Some.name.now, c.in-Some.attr.now)
    (subst (λ left. IsSkippedTo eq outlined c.args.self.now left c.loop-name.copy) c.in-Some.ensures.steps c.loop-name.invariant)
    c.know_distinct.ensures

pub loop-name-preserved-in-Continue-1 : goal.loop-name-preserved-in-Continue-1
loop-name-preserved-in-Continue-1 g c =
    let eq = g.D.Attr.PartialEq.eq in
    let outlined : g.row.D-Attr.Denot → Bool = λ attr. g.D.DialectTables.attr_has attr OutlinedAttr in
    copies_next eq outlined c.args.self.now c.next.new.self c.loop-name.copy (c.in-Some.name.now, c.in-Some.attr.now)
    (subst (λ left. IsSkippedTo eq outlined c.args.self.now left c.loop-name.copy) c.in-Some.ensures.steps c.loop-name.invariant)
    c.add_copy.new.copies (sym c.attr_should_outline.ensures ∙ c.if-not-attr_should_outline.true) c.in_ok-add_copy.ensures

pub loop-name-preserved : goal.loop-name-preserved
loop-name-preserved g c =
    let eq = g.D.Attr.PartialEq.eq in
    let outlined : g.row.D-Attr.Denot → Bool = λ attr. g.D.DialectTables.attr_has attr OutlinedAttr in
    skips_next eq outlined c.args.self.now c.next.new.self c.loop-name.copy (c.in-Some.name.now, c.in-Some.attr.now)
    (subst (λ left. IsSkippedTo eq outlined c.args.self.now left c.loop-name.copy) c.in-Some.ensures.steps c.loop-name.invariant)
    (sym c.attr_should_outline.ensures ∙ c.if-not-attr_should_outline.false)
