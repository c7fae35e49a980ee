use Rattle.std.proofs.Common.{◌≡◌, ◌∙◌, Some, sym, ap}
use Rattle.kit.specs.Making.{one_size, first_unread}
use Rattle.kit.proofs.AttributesMade.{members_next, member_unread}
use Rattle.kit.proofs.Made.{refused_at}
use Rattle.kit.proofs.parts.sizes_in.Goals as goal

pub returns-in_default-clause-refused : goal.returns-in_default-clause-refused
returns-in_default-clause-refused c =
    refused_at (λ i. first_unread one_size 0 c.args.members.now ≡ Some i) c.loop-number.number
    (member_unread one_size c.args.members.now c.loop-number.number c.index-members-number.result c.loop-number.sizes.items c.loop-number-test.true c.index-members-number.is c.loop-number.invariant (sym (ap one_size c.as_slice.ensures.value) ∙ sym c.in_default.ensures))

pub loop-number-preserved : goal.loop-number-preserved
loop-number-preserved c =
    members_next one_size c.args.members.now c.loop-number.number c.index-members-number.result c.loop-number.sizes.items c.push.new.self.items c.in-Some.size c.loop-number-test.true c.index-members-number.is c.loop-number.invariant
    (sym (ap one_size c.as_slice.ensures.value) ∙ sym c.in-Some.ensures) c.in_ok-push.ensures.items
