use Rattle.std.proofs.Common.{arith, subst}
use Rattle.stream_tokens.specs.Lexemes.{TookOne}
use Rattle.stream_tokens.proofs.Fronts.{sign_taken, in_memory_taken, in_memory_goes_on}
use Rattle.stream_tokens.proofs.scan.Scan.sign.Goals as goal

pub returns-then-not-is_in_memory : goal.returns-then-not-is_in_memory
returns-then-not-is_in_memory c = sign_taken c.args.self.now c.requires.empty c.take.new.self c.in_ok-take.field-0 c.args.sign c.take.ensures.start c.in_ok-take.ensures.stands c.in_ok-take.ensures.taken
    c.requires.first c.requires.sign c.if-not-is_in_memory.ensures

pub returns-after-loop-self : goal.returns-after-loop-self
returns-after-loop-self c = in_memory_taken c.args.self.now c.loop-self.self c.loop-self.invariant.0 c.loop-self.invariant.1 (omega (arith, c.len.ensures)) c.if-not-is_in_memory.ensures

pub returns-then-not-branch : goal.returns-then-not-branch
returns-then-not-branch c = absurd (in_memory_goes_on c.args.self.now c.loop-self.self c.take-in-loop-self.new.self c.loop-self.invariant.0 (omega (arith, c.len.ensures))
    (subst (TookOne c.loop-self.self c.take-in-loop-self.new.self) c.if-not-branch.true c.in_ok-take-2.ensures.taken) c.if-not-is_in_memory.ensures)
