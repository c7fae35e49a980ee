use Rattle.std.proofs.Common.{sym, ap, ◌∙◌, arith}
use Rattle.std.proofs.lemmas.Result.{IfOk-from_err}
use Rattle.kit.specs.Making.{one_type}
use Rattle.kit.proofs.Made.{types_first, types_next, types_none, types_all}
use Rattle.kit.proofs.parts.types_of.Goals as goal

pub loop-member-init : goal.loop-member-init
loop-member-init c = types_first c.args.members.now c.in_ok-types.types.items c.in_ok-types.ensures.items

pub loop-member-preserved : goal.loop-member-preserved
loop-member-preserved c = types_next c.args.members.now c.loop-member.member-index c.member-item.result c.in-Some.ty c.loop-member.types.items c.push.new.self.items c.loop-member-test.true c.member-item.is (sym (ap one_type c.as_slice.ensures.value) ∙ sym c.in-Some.ensures) c.in_ok-push.ensures.items c.loop-member.invariant

pub loop-member-smaller : goal.loop-member-smaller
loop-member-smaller c = let small = c.loop-member-test.true in omega (arith, small)

pub bounds-members-member-index : goal.bounds-members-member-index
bounds-members-member-index c = c.loop-member-test.true

pub returns : goal.returns
returns c = sym (types_all c.args.members.now c.loop-member.member-index c.loop-member.types.items c.loop-member-test.false c.loop-member.invariant)

pub returns-in_default : goal.returns-in_default
returns-in_default c = sym (types_none c.args.members.now c.loop-member.member-index c.member-item.result c.loop-member.types.items c.loop-member-test.true c.member-item.is (sym (ap one_type c.as_slice.ensures.value) ∙ sym c.in_default.ensures) c.loop-member.invariant)

pub returns-in_err-types : goal.returns-in_err-types
returns-in_err-types c = IfOk-from_err _ _ c.from_residual.ensures.0

pub returns-in_err-push : goal.returns-in_err-push
returns-in_err-push c = IfOk-from_err _ _ c.from_residual-in_err-push.ensures.0
