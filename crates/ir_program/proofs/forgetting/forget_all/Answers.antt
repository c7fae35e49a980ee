use Rattle.std.proofs.Common.{◌≡◌, length, arith, subst}
use Rattle.std.proofs.lemmas.Option.{slice_get-get_or}
use Rattle.ir_program.proofs.erased.ForgetSteps.{forget-defined, forget-unnamed, forget-next, forget-begins, forget-over, ForgetsTo}
use Rattle.ir_program.proofs.forgetting.forget_all.Goals as goal

pub loop-definition-init : goal.loop-definition-init
loop-definition-init c = forget-begins _ _

pub forget-requires-clause-defined : goal.forget-requires-clause-defined
forget-requires-clause-defined c = forget-defined _ _ _ c.loop-definition.definition-index _ c.requires c.loop-definition.invariant (slice_get-get_or _ _ _ c.loop-definition-test.true)

pub forget-requires-clause-unused : goal.forget-requires-clause-unused
forget-requires-clause-unused c = forget-unnamed _ _ _ c.loop-definition.definition-index _ c.requires c.loop-definition.invariant (slice_get-get_or _ _ _ c.loop-definition-test.true)

pub loop-definition-preserved : goal.loop-definition-preserved
loop-definition-preserved c = forget-next _ _ _ c.loop-definition.definition-index _ c.requires c.loop-definition.invariant (slice_get-get_or _ _ _ c.loop-definition-test.true) _ c.forget.ensures.gone c.forget.ensures.places

pub returns : goal.returns
returns c =
    let all : c.loop-definition.definition-index ≡ length c.args.definitions.now = omega arith in
    forget-over _ _ _ (subst (ForgetsTo c.args.values.now c.loop-definition.values c.args.definitions.now) all c.loop-definition.invariant)
