use Rattle.std.proofs.Common.{arith, ◌∙◌, refl, sym, true≢false}
use Rattle.kit_checks.specs.Rules.{IsCommon}
use Rattle.kit_checks.proofs.Everys.{at_index, every_none, every_more, every_all, not_every, is_every}
use Rattle.kit_checks.proofs.attributes.are_common.Goals as goal

pub loop-index-init : goal.loop-index-init
loop-index-init c = every_none IsCommon c.args.attributes.now

pub loop-index-preserved : goal.loop-index-preserved
loop-index-preserved c =
    let x = at_index c.args.attributes.now c.loop-index.index (omega arith) in
    every_more IsCommon c.args.attributes.now c.loop-index.index x.0 x.1 ((c.is_common_at.ensures x.0 x.1).0 c.if-not-is_common_at.false) c.loop-index.invariant

pub returns-then-not-is_common_at : goal.returns-then-not-is_common_at
returns-then-not-is_common_at c =
    let x = at_index c.args.attributes.now c.loop-index.index (omega arith) in
    not_every IsCommon c.args.attributes.now c.args.attributes.now c.loop-index.index x.0 refl x.1 (λ h. true≢false (sym ((c.is_common_at.ensures x.0 x.1).1 h) ∙ c.if-not-is_common_at.true))

pub returns : goal.returns
returns c = is_every IsCommon c.args.attributes.now c.args.attributes.now refl (every_all IsCommon c.args.attributes.now c.loop-index.index (omega arith) c.loop-index.invariant)
