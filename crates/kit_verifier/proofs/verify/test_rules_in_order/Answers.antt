use Rattle.std.proofs.Common.{arith, ◌≡◌, ◌<◌, get_or, subst}
use Rattle.kit_checks.specs.Searching.{IsFirstBreakIn}
use Rattle.kit_checks.specs.World.{world_of}
use Rattle.kit_checks.specs.declared.rule.Rule.{Rule}
use Rattle.kit_checks.specs.declared.rule.Rule.TheVariants.{RootIsModule}
use Rattle.kit_verifier.proofs.Verdicts.{at_place, first_fault, kept_all, kept_more, kept_none, rules_in_order}
use Rattle.kit_verifier.proofs.verify.test_rules_in_order.Goals as goal

pub loop-rule-init : goal.loop-rule-init
loop-rule-init c = kept_none (world_of c.args.ctx.now) c.args.ctx.now.program c.args.root

pub loop-rule-preserved : goal.loop-rule-preserved
loop-rule-preserved c =
    let within : c.loop-rule.rule-index < 14 = omega arith in
    let r : Rule = get_or rules_in_order c.loop-rule.rule-index RootIsModule in
    kept_more (world_of c.args.ctx.now) c.args.ctx.now.program c.args.root c.loop-rule.rule-index r (at_place c.loop-rule.rule-index RootIsModule within)
    (subst (IsFirstBreakIn (world_of c.args.ctx.now) c.args.ctx.now.program c.args.root r) c.in-None.is c.in_ok-place.ensures) c.loop-rule.invariant

pub returns-in-Some : goal.returns-in-Some
returns-in-Some c t s =
    let within : c.loop-rule.rule-index < 14 = omega arith in
    let r : Rule = get_or rules_in_order c.loop-rule.rule-index RootIsModule in
    first_fault (world_of c.args.ctx.now) c.args.ctx.now.program c.args.root c.loop-rule.rule-index r c.in-Some.place (at_place c.loop-rule.rule-index RootIsModule within)
    (subst (IsFirstBreakIn (world_of c.args.ctx.now) c.args.ctx.now.program c.args.root r) c.in-Some.is c.in_ok-place.ensures) c.loop-rule.invariant t s

pub returns : goal.returns
returns c t s =
    let all : c.loop-rule.rule-index ≡ 14 = omega arith in
    kept_all (world_of c.args.ctx.now) c.args.ctx.now.program c.args.root c.loop-rule.rule-index all c.loop-rule.invariant t s
