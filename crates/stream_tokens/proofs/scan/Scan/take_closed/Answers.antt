use Rattle.std.proofs.Common.{sym, subst, ◌∙◌}
use Rattle.stream_tokens.specs.Lexemes.{TookOne}
use Rattle.stream_tokens.proofs.scan.Scan.take_closed.Goals.{else-c-eq92-via-then-c-eq92+in_ok-take-2+else-not-branch-2, else-c-eq92-via-else-c-eq92}
use Rattle.stream_tokens.proofs.Fronts.{ClosesSo, closes_nowhere, closes_here, escapes_nothing, goes_plain, goes_escaped}
use Rattle.stream_tokens.proofs.scan.Scan.take_closed.Goals as goal

pub returns-then-not-branch : goal.returns-then-not-branch
returns-then-not-branch c = closes_nowhere c.args.self.now c.loop-c.self c.loop-c.invariant c.take.new.self (subst (TookOne c.loop-c.self c.take.new.self) c.if-not-branch.true c.in_ok-take.ensures.taken)

pub returns-then-c-eq34 : goal.returns-then-c-eq34
returns-then-c-eq34 c = closes_here c.args.self.now c.loop-c.self c.loop-c.invariant c.take.new.self (subst (TookOne c.loop-c.self c.take.new.self) c.if-not-branch.false c.in_ok-take.ensures.taken)
    c.take.ensures.start c.in_ok-take.ensures.stands (sym c.if-c-eq34.true ∙ c.next-c.ensures)

pub returns-then-not-branch-2 : goal.returns-then-not-branch-2
returns-then-not-branch-2 c = escapes_nothing c.args.self.now c.loop-c.self c.loop-c.invariant c.take.new.self c.take-then-c-eq92.new.self
    (subst (TookOne c.loop-c.self c.take.new.self) c.if-not-branch.false c.in_ok-take.ensures.taken) c.take.ensures.start c.in_ok-take.ensures.stands
    (subst (TookOne c.take.new.self c.take-then-c-eq92.new.self) c.if-not-branch-2.true c.in_ok-take-2.ensures.taken) (sym c.if-c-eq92.true ∙ c.next-c.ensures)

pub loop-c-preserved : goal.loop-c-preserved
loop-c-preserved c = elim c.else-c-eq92.branch [
  | else-c-eq92-via-then-c-eq92+in_ok-take-2+else-not-branch-2 w ↦ subst (ClosesSo c.args.self.now) (sym w.self-is)
      (goes_escaped c.args.self.now c.loop-c.self c.loop-c.invariant c.take.new.self w.take-then-c-eq92.new.self
      (subst (TookOne c.loop-c.self c.take.new.self) c.if-not-branch.false c.in_ok-take.ensures.taken) c.take.ensures.start
      (subst (TookOne c.take.new.self w.take-then-c-eq92.new.self) w.if-not-branch-2.false w.in_ok-take-2.ensures.taken) w.take-then-c-eq92.ensures.start w.in_ok-take-2.ensures.stands
      (sym w.if-c-eq92.true ∙ c.next-c.ensures))
  | else-c-eq92-via-else-c-eq92 w ↦ subst (ClosesSo c.args.self.now) (sym w.self-is)
      (goes_plain c.args.self.now c.loop-c.self c.loop-c.invariant c.next-c.result c.take.new.self (subst (TookOne c.loop-c.self c.take.new.self) c.if-not-branch.false c.in_ok-take.ensures.taken)
      c.take.ensures.start c.in_ok-take.ensures.stands c.next-c.ensures c.if-c-eq34.false w.if-c-eq92.false)
]
