use Rattle.std.proofs.Common.{◌≡◌, true, false, sym, ◌∙◌}
use Rattle.ir_names.specs.Dictionary.{is_under}
use Rattle.ir_names.proofs.Entries.{attribute_at-others, without_attribute-others, without_attribute-first, attribute_at-without_attribute}
use Rattle.ir_names.proofs.WellNamed.{entries_without}
use Rattle.ir_names.proofs.dictionary.AttributeDict.remove.Goals as goal

pub invariant_of-self-then-has_name : goal.invariant_of-self-then-has_name
invariant_of-self-then-has_name g c =
    let under : is_under c.self.inside.first c.args.key.now ≡ true = sym c.has_name.ensures ∙ c.if-has_name.true in
    rw (c.take.ensures.after, without_attribute-first c.self.inside.first c.self.inside.others c.args.key.now under) (entries_without _ c.args.key.now c.self.invariant)

pub returns-then-has_name-clause-removed : goal.returns-then-has_name-clause-removed
returns-then-has_name-clause-removed g c =
    let under : is_under c.self.inside.first c.args.key.now ≡ true = sym c.has_name.ensures ∙ c.if-has_name.true in
    rw (← c.self.view_is, c.take.ensures.after, without_attribute-first c.self.inside.first c.self.inside.others c.args.key.now under)
    (attribute_at-without_attribute _ c.args.key.now c.self.invariant.distinct)

pub invariant_of-self-2 : goal.invariant_of-self-2
invariant_of-self-2 g c =
    let other : is_under c.self.inside.first c.args.key.now ≡ false = sym c.has_name.ensures ∙ c.if-has_name.false in
    rw (without_attribute-others c.self.inside.first c.self.inside.others _ c.args.key.now other c.remove.ensures.entries) (entries_without _ c.args.key.now c.self.invariant)

pub returns-clause-old : goal.returns-clause-old
returns-clause-old g c =
    let other : is_under c.self.inside.first c.args.key.now ≡ false = sym c.has_name.ensures ∙ c.if-has_name.false in
    rw (← c.self.view_is) (c.remove.ensures.value ∙ sym (attribute_at-others c.self.inside.first c.self.inside.others c.args.key.now other))

pub returns-clause-entries : goal.returns-clause-entries
returns-clause-entries g c =
    let other : is_under c.self.inside.first c.args.key.now ≡ false = sym c.has_name.ensures ∙ c.if-has_name.false in
    rw (← c.self.view_is) (without_attribute-others c.self.inside.first c.self.inside.others _ c.args.key.now other c.remove.ensures.entries)

pub returns-clause-removed : goal.returns-clause-removed
returns-clause-removed g c =
    rw (returns-clause-entries g c, ← c.self.view_is) (attribute_at-without_attribute _ c.args.key.now c.self.invariant.distinct)
