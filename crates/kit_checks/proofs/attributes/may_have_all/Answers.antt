use Rattle.std.proofs.Common.{arith, ◌∙◌, refl, sym, true≢false}
use Rattle.kit_checks.specs.Rules.{MayHave}
use Rattle.kit_checks.proofs.Everys.{at_index, every_none, every_more, every_all, not_every, is_every}
use Rattle.kit_checks.proofs.attributes.may_have_all.Goals as goal

pub loop-index-init : goal.loop-index-init
loop-index-init c = every_none (MayHave c.args.kind) c.args.attributes.now

pub loop-index-preserved : goal.loop-index-preserved
loop-index-preserved c =
    let x = at_index c.args.attributes.now c.loop-index.index (omega arith) in
    every_more (MayHave c.args.kind) c.args.attributes.now c.loop-index.index x.0 x.1 ((c.may_have_at.ensures x.0 x.1).0 c.if-not-may_have_at.false) c.loop-index.invariant

pub returns-then-not-may_have_at : goal.returns-then-not-may_have_at
returns-then-not-may_have_at c =
    let x = at_index c.args.attributes.now c.loop-index.index (omega arith) in
    not_every (MayHave c.args.kind) c.args.attributes.now c.args.attributes.now c.loop-index.index x.0 refl x.1 (λ h. true≢false (sym ((c.may_have_at.ensures x.0 x.1).1 h) ∙ c.if-not-may_have_at.true))

pub returns : goal.returns
returns c = is_every (MayHave c.args.kind) c.args.attributes.now c.args.attributes.now refl (every_all (MayHave c.args.kind) c.args.attributes.now c.loop-index.index (omega arith) c.loop-index.invariant)
