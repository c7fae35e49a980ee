use Rattle.std.proofs.Common.{refl, sym}
use Rattle.text_lists.specs.Members.{is_absence}
use Rattle.text_lists.proofs.ListLemmas.{and_left, and_right}
use Rattle.text_lists.proofs.members.next_member.Goals as goal

pub returns-then-ends_at : goal.returns-then-ends_at
returns-then-ends_at g c = (
  and_left c.args.may_end (is_absence c.in-Err.fault) (sym c.if-ends_at.ensures),
  record {
    fault = c.in-Err.fault;
    end = (c.call.new.parser, c.call.new.stream);
    answered = c.in-Err.ensures;
    absent = and_right c.args.may_end (is_absence c.in-Err.fault) (sym c.if-ends_at.ensures);
    stays = refl;
  },
)

pub returns-else-ends_at : goal.returns-else-ends_at
returns-else-ends_at g c = ((c.call.new.parser, c.call.new.stream), c.in-Err.ensures, sym c.if-ends_at.ensures)
