use Rattle.std.proofs.Common.{sym, ◌∙◌}
use Rattle.text_streams.specs.Positions.{left}
use Rattle.stream_tokens.proofs.Fronts.{in_memory_ends, in_memory_other, in_memory_more}
use Rattle.stream_tokens.proofs.scan.Scan.is_in_memory.Goals as goal

pub returns-in_default : goal.returns-in_default
returns-in_default c = λ found. in_memory_ends (left c.args.self.now.start) c.loop-wanted.wanted-index found c.loop-wanted-test.true (sym c.loop-wanted.invariant.0 ∙ c.in_default.ensures)

pub returns-then-c-wanted : goal.returns-then-c-wanted
returns-then-c-wanted c = λ found. in_memory_other (left c.args.self.now.start) (left c.in-Some.next) c.loop-wanted.wanted-index c.in-Some.c found c.loop-wanted-test.true
    (sym c.loop-wanted.invariant.0 ∙ c.in-Some.ensures.taken) c.if-c-wanted.true

pub loop-wanted-preserved : goal.loop-wanted-preserved
loop-wanted-preserved c = in_memory_more (left c.args.self.now.start) (left c.in-Some.next) c.loop-wanted.wanted-index c.in-Some.c
    (sym c.loop-wanted.invariant.0 ∙ c.in-Some.ensures.taken) c.if-c-wanted.false c.loop-wanted.invariant.1
